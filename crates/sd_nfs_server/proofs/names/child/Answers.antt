use Rattle.std.proofs.Common.{◌∙◌, ℕ, List, sym, subst}
use Rattle.sd_nfs_server.specs.Steps.{IsNumberOf}
use Rattle.sd_nfs_server.proofs.Children.{slashed_is_none, child_is}
use Rattle.sd_nfs_server.proofs.names.child.Goals as goal

pub returns-then-contains-clause-is : goal.returns-then-contains-clause-is
returns-then-contains-clause-is c = slashed_is_none c.args.nodes.now c.args.dir.now c.args.name.now (sym c.contains.ensures.value ∙ c.if-contains.true)

pub returns-clause-is : goal.returns-clause-is
returns-clause-is c =
    child_is c.args.nodes.now c.args.dir.now c.args.name.now c.number_at.result (sym c.contains.ensures.value ∙ c.if-contains.false)
    (subst (λ (path : List ℕ). IsNumberOf c.args.nodes.now path c.number_at.result) (c.as_slice.ensures ∙ c.in_ok-path.ensures) c.number_at.ensures.is)
