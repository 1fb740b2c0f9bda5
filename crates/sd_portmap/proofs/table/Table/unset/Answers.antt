use Rattle.std.proofs.Common.{not, rules, ◌∙◌, ap}
use Rattle.sd_portmap.specs.Table.{is_version, without}
use Rattle.sd_portmap.proofs.Kept.{kept_by}
use Rattle.sd_portmap.proofs.Mapped.{differ_without}
use Rattle.sd_portmap.proofs.table.Table.unset.Goals as goal

pub invariant_of-self : goal.invariant_of-self
invariant_of-self c =
    differ_without c.args.prog c.args.vers c.self.inside.mappings.items _ c.self.invariant
    (kept_by _ (λ m. not (is_version c.args.prog c.args.vers m)) _ (λ x b q k. search (rules)) _ _ c.retain.ensures.filtered)

pub returns-clause-others : goal.returns-clause-others
returns-clause-others c =
    kept_by _ (λ m. not (is_version c.args.prog c.args.vers m)) _ (λ x b q k. search (rules)) _ _ c.retain.ensures.filtered
    ∙ ap (λ t. without c.args.prog c.args.vers t) c.self.view_is
