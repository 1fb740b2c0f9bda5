-- What a fetch gives where its server may be trusted.
use Rattle.std.proofs.Common.{List, Option, Some, None}
use Rattle.sd_tftp.specs.Grammar.{HasNoZero}
use Rattle.std.specs.Prelude.{IfSome}
use Rattle.sd_link.specs.Link.{Moves, IsReached}
use Rattle.sd_link.specs.Steps.{Step, History, AllAllowed, IsLawfulSoFar, world_of}
use Rattle.sd_rpc_retry.proofs.Lawfulness.{lawful_from}
use Rattle.sd_claims.specs.Fetching.{Fetch}
use Rattle.sd_boot_chain.specs.declared.fetch.Fetched as outcomes
use Rattle.sd_boot_chain.specs.declared.fetch.Fetched.TheVariants as came
use Rattle.sd_boot_chain.specs.Fetch.{CameOf, GivesFile}
use Rattle.sd_boot_chain.proofs.TrustedFile.{fetched_is_configured}

gives : (f : Fetch) (what : outcomes.Fetched) (old : History) (part : List Step) → HasNoZero f.name → IsLawfulSoFar old → AllAllowed old.config (world_of old) part → CameOf f what old part → GivesFile f what old part
gives f (came.File bytes) old part clean lawful allowed h = λ trust. fetched_is_configured old.config trust.rules old.steps part f bytes clean trust.server lawful trust.asks trust.keeps_off allowed h
gives f came.Timeout old part clean lawful allowed h = tt
gives f came.Flood old part clean lawful allowed h = tt
gives f (came.Refused code) old part clean lawful allowed h = tt
gives f (came.TooLarge got) old part clean lawful allowed h = tt
gives f came.Fault old part clean lawful allowed h = tt

-- Over a link that tells, what came of a fetch is the configured file, where its server may be trusted.
pub gives_file : (f : Fetch) (what : outcomes.Fetched) (old new : Option History) → HasNoZero f.name → IfSome new IsReached → Moves old new (CameOf f what) → Moves old new (GivesFile f what)
gives_file f what None None clean reached m = tt
gives_file f what None (Some new) clean reached m = absurd m
gives_file f what (Some old) None clean reached m = absurd m
gives_file f what (Some old) (Some new) clean reached m = (m.0, m.1, gives f what old m.0 clean (lawful_from (Some old) (Some new) (CameOf f what) m reached) m.1.allowed m.2)
