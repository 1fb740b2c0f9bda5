use Rattle.std.proofs.Common.{◌≡◌, ◌∙◌, List, not, subst}
use Rattle.std.specs.Prelude.{IfOk}
use Rattle.std.specs.List.{list_any}
use Rattle.sd_bootparams.specs.File.{Text, same}
use Rattle.sd_bootparams.proofs.Knowing.{is_new_client, names_are}
use Rattle.sd_bootparams.proofs.known.Clients.add.Goals as goal

pub invariant_of-self : goal.invariant_of-self
invariant_of-self c =
    let name = c.into_vec-name.ensures ∙ c.in_ok-from_slice.ensures ∙ c.as_slice.ensures in
    let a = c.add.ensures in
    names_are c.add.result c.self.inside.names c.add.new.names c.self.inside.clients.items c.add.new.items.items c.into_vec-name.result c.args.client c.self.invariant name a.items a.new_name a.old_name a.err

pub returns-clause-is_new : goal.returns-clause-is_new
returns-clause-is_new c =
    let name = c.into_vec-name.ensures ∙ c.in_ok-from_slice.ensures ∙ c.as_slice.ensures in
    subst (λ (l : List Text). IfOk c.add.result (λ is_new. is_new ≡ not (list_any (λ x. same x c.args.client) l))) c.self.view_is
    (is_new_client c.add.result c.self.inside.names c.self.inside.clients.items c.into_vec-name.result c.args.client c.self.invariant name c.add.ensures.is_new)
