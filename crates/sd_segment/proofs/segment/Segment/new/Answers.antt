use Rattle.std.proofs.Common.{◌≡◌, refl, sym, ap, ◌∙◌, subst}
use Rattle.sd_config.specs.declared.config.Config.{Config}
use Rattle.sd_config.specs.declared.events.Events.{Events}
use Rattle.sd_config.specs.Config.{IsConfig}
use Rattle.sd_config.specs.Events.{IsEvents}
use Rattle.sd_services.specs.Part.{first_part}
use Rattle.sd_segment.specs.Calm.{CalmView}
use Rattle.sd_segment.proofs.Starting.{sound_start}
use Rattle.sd_segment.proofs.segment.Segment.new.Goals as goal

pub invariant_of-result : goal.invariant_of-result
invariant_of-result c =
    let config : c.in-Ok.server.config ≡ c.args.config = ap (λ (v : CalmView). v.config) c.in-Ok.ensures.opened in
    let part : c.in-Ok.server.part ≡ first_part c.in-Ok.server.config = ap (λ (v : CalmView). v.part) c.in-Ok.ensures.opened ∙ ap (λ (x : Config). first_part x) (sym config) in
    let events : IsEvents c.in-Ok.server.config c.in_ok-events.events = subst (λ (e : Events). IsEvents c.in-Ok.server.config e) (sym c.in_ok-events.ensures) (subst (λ (x : Config). IsEvents x c.args.events) (sym config) c.requires.events) in
    sound_start _ (subst IsConfig (sym config) c.requires.config) events
    part c.new.ensures.items c.new-2.ensures.items refl c.empty.ensures c.empty-2.ensures refl refl refl
