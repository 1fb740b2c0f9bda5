use Rattle.std.proofs.Common.{List, sym, ◌∙◌, subst}
use Rattle.std.proofs.Math.Bool.{true≢false}
use Rattle.sd_services.specs.declared.node.Node.{Node}
use Rattle.sd_nfs_server.specs.Placing.{Ascends, IsPlaceOf, HasPathAt}
use Rattle.sd_nfs_server.proofs.Order.{insert_ascends}
use Rattle.sd_nfs_server.proofs.build.place.Goals as goal

pub returns-clause-up : goal.returns-clause-up
returns-clause-up c =
    let old = c.args.nodes.now.items in
    let path = c.args.path.now in
    let at = c.place_of-at.result in
    let node : Node = record { path = path; what = c.args.what } in
    let place : IsPlaceOf old path at = subst (λ (nodes : List Node). IsPlaceOf nodes path at) c.as_slice.ensures.value c.place_of-at.ensures in
    let new : HasPathAt old at path → ⊥ = λ has. true≢false (sym (c.stands_at.ensures.1 (subst (λ (nodes : List Node). HasPathAt nodes at path) (sym c.as_slice-2.ensures.value) has)) ∙ c.if-stands_at.false) in
    subst Ascends (sym c.in_ok-insert.ensures) (insert_ascends old node at c.requires place new)
