use Rattle.std.proofs.Common.{Err, subst}
use Rattle.sd_link.specs.declared.link.LinkError.{LinkError}
use Rattle.sd_link.specs.declared.link.LinkError.TheVariants.{Failed}
use Rattle.sd_link.specs.Link.{Moves, Sends}
use Rattle.sd_link.proofs.Histories.{moves_weaker}
use Rattle.sd_boot_chain.specs.declared.fetch.Fetched.TheVariants as came
use Rattle.sd_boot_chain.specs.Fetch.{Finishes}
use Rattle.sd_boot_chain.proofs.fetch.finish.Goals as goal

pub returns-in-Err-Failed-clause-told : goal.returns-in-Err-Failed-clause-told
returns-in-Err-Failed-clause-told g c =
    let request = c.args.request.now in
    moves_weaker _ _ (Sends request (Err Failed)) (Finishes request c.args.receiver came.Fault) (λ h part s. s)
    (subst (λ (why : LinkError). Moves (g.L.Link.told c.args.link.now) (g.L.Link.told c.send.new.self) (Sends request (Err why))) c.in-Err-Failed.field-0-is c.in-Err-Failed.ensures.told)
