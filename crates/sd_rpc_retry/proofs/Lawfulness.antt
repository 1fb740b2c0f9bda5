-- The history of a link is lawful from the start on, since each later one is.
use Rattle.std.proofs.Common.{List, ◌++◌, Option, Some, None, subst}
use Rattle.std.specs.Prelude.{IfSome}
use Rattle.sd_config.specs.declared.config.Config.{Config}
use Rattle.sd_link.specs.World.{start}
use Rattle.sd_link.specs.Steps.{Step, History, AllAllowed, IsLawfulSoFar}
use Rattle.sd_link.specs.Link.{GoesOn, Moves, IsReached}
use Rattle.sd_link.proofs.Histories.{allowed-split}

lawful_before : (a b : History) (part : List Step) → GoesOn a b part → IsLawfulSoFar b → IsLawfulSoFar a
lawful_before a b part goes lawful =
    let same = subst (λ (c : Config). AllAllowed c (start c) b.steps) goes.config lawful in
    (allowed-split a.config (start a.config) a.steps part (subst (λ (l : List Step). AllAllowed a.config (start a.config) l) goes.steps same)).0

pub lawful_from : (old new : Option History) (P : History → List Step → Type 0) → Moves old new P → IfSome new IsReached → IfSome old IsLawfulSoFar
lawful_from None None P m reached = tt
lawful_from None (Some b) P m reached = absurd m
lawful_from (Some a) None P m reached = absurd m
lawful_from (Some a) (Some b) P m reached = lawful_before a b m.0 m.1 reached.lawful
