use Rattle.std.proofs.Common.{◌≡◌, ℕ, List, [], ap, ◌∙◌, subst}
use Rattle.std.specs.List.{flat_map}
use Rattle.sd_config.specs.declared.events.Events.{Events}
use Rattle.sd_config.specs.declared.events.Stranger.{Stranger}
use Rattle.sd_segment.specs.Strays.{stray_at, packet_at, items_or}
use Rattle.sd_segment.proofs.LinesAt.{found_at}
use Rattle.sd_segment.proofs.strays.EventBook.strays_at.Goals as goal

pub returns-in-None : goal.returns-in-None
returns-in-None c =
    let lines = c.self.inside.events.strangers in
    let none = ap items_or c.in-None.ensures.value ∙ c.self.invariant.0 c.args.tick in
    subst (λ (e : Events). c.empty.result ≡ flat_map (stray_at c.args.tick) e.strangers) c.self.view_is
    (c.empty.ensures ∙ ap (λ (l : List ℕ). flat_map (packet_at lines) l) none ∙ found_at c.args.tick [] lines)

pub returns-in_ok-packets_of-in-Some : goal.returns-in_ok-packets_of-in-Some
returns-in_ok-packets_of-in-Some c =
    let lines = c.self.inside.events.strangers in
    let some = ap items_or c.in-Some.ensures.value ∙ c.self.invariant.0 c.args.tick in
    subst (λ (e : Events). c.in_ok-packets_of-in-Some.field-0 ≡ flat_map (stray_at c.args.tick) e.strangers) c.self.view_is
    (c.in_ok-packets_of-in-Some.ensures
    ∙ ap (λ (l : List Stranger). flat_map (packet_at l) c.as_slice-in-Some.result.now) c.as_slice.ensures
    ∙ ap (λ (l : List ℕ). flat_map (packet_at lines) l) (c.as_slice-in-Some.ensures.value ∙ some)
    ∙ found_at c.args.tick [] lines)
