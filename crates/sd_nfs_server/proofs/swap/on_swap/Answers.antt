use Rattle.std.proofs.Common.{◌≡◌, ◌∙◌, sym, subst}
use Rattle.sd_nfs_server.specs.Plan.{decision_of, swap_decision}
use Rattle.sd_nfs_server.proofs.Zeros.{reads_zeros}
use Rattle.sd_nfs_server.proofs.swap.on_swap.Goals as goal

pub returns-in-Read : goal.returns-in-Read
returns-in-Read c =
    let a = c.args in
    let r = c.in-Read in
    subst (λ args. decision_of c.in_ok-plan-in-Read.plan ≡ swap_decision a.owner a.from a.size args) (sym r.is) (c.in_ok-plan-in-Read.ensures ∙ reads_zeros a.owner a.from a.size r.offset r.count r.total r.file)
