use Rattle.std.proofs.Common.{◌≡◌, ◌∙◌, List, not, subst}
use Rattle.std.specs.Prelude.{IfOk}
use Rattle.sd_bootparams.specs.declared.params.Entry.{Entry}
use Rattle.sd_bootparams.specs.declared.known.ItemName.{ItemName}
use Rattle.sd_bootparams.proofs.Knowing.{has_item, is_new_item, item_names_are}
use Rattle.sd_bootparams.proofs.known.Items.add.Goals as goal

pub invariant_of-self : goal.invariant_of-self
invariant_of-self c =
    let client = c.into_vec.ensures ∙ c.in_ok-from_slice.ensures ∙ c.as_slice.ensures in
    let key = c.into_vec-2.ensures ∙ c.in_ok-from_slice-2.ensures ∙ c.as_slice-2.ensures in
    let name : ItemName = record { client = c.into_vec.result; key = c.into_vec-2.result } in
    let a = c.add.ensures in
    item_names_are c.add.result c.self.inside.names c.add.new.names c.self.inside.entries.items c.add.new.items.items name c.args.entry c.self.invariant client key a.items a.new_name a.old_name a.err

pub returns-clause-is_new : goal.returns-clause-is_new
returns-clause-is_new c =
    let client = c.into_vec.ensures ∙ c.in_ok-from_slice.ensures ∙ c.as_slice.ensures in
    let key = c.into_vec-2.ensures ∙ c.in_ok-from_slice-2.ensures ∙ c.as_slice-2.ensures in
    let name : ItemName = record { client = c.into_vec.result; key = c.into_vec-2.result } in
    subst (λ (l : List Entry). IfOk c.add.result (λ is_new. is_new ≡ not (has_item c.args.entry.client c.args.entry.key l))) c.self.view_is
    (is_new_item c.add.result c.self.inside.names c.self.inside.entries.items name c.args.entry.client c.args.entry.key c.self.invariant client key c.add.ensures.is_new)
