use Rattle.std.proofs.Common.{◌≡◌, ℕ, ◌-◌, List, ◌++◌, length, take, drop, sym, ◌∙◌, ap, subst, arith}
use Rattle.std.proofs.lemmas.List.{take_all, take_rest}
use Rattle.sd_link.specs.Printing.{record_text}
use Rattle.sd_segment.specs.declared.flown.Flown.{Flown}
use Rattle.sd_segment.specs.declared.flown.Kept.{Kept}
use Rattle.sd_segment.specs.Kept.{entries_kept}
use Rattle.sd_segment.specs.Segment.{text_drained, Rests}
use Rattle.sd_segment.specs.Inside.{view_of}
use Rattle.sd_segment.proofs.Passing.{rests_of}
use Rattle.sd_segment.proofs.Printed.{all_lines}
use Rattle.sd_segment.proofs.segment.Segment.append.Goals as goal

pub returns-clause-text : goal.returns-clause-text
returns-clause-text c =
    let s = c.self.inside in
    let flight = s.flight.items in
    let kept = s.kept.items in
    let lines = c.in_ok-lines.lines in
    let all : length c.as_slice-4.result.now ≡ length kept = ap (λ (l : List Kept). length l) c.as_slice-4.ensures.value in
    let rest : lines ≡ record_text (entries_kept flight (drop s.drained kept)) =
    c.in_ok-lines.ensures
    ∙ ap (λ (l : List Flown). record_text (entries_kept l (take (length c.as_slice-2.result.now - s.drained) (drop s.drained c.as_slice-2.result.now)))) c.as_slice.ensures.value
    ∙ ap (λ (l : List Kept). record_text (entries_kept flight (take (length l - s.drained) (drop s.drained l)))) c.as_slice-2.ensures.value
    ∙ ap (λ (l : List Kept). record_text (entries_kept flight l)) (take_rest kept s.drained) in
    let old : text_drained c.args.self.now ≡ record_text (entries_kept flight (take s.drained kept)) = ap text_drained (sym c.self.view_is) in (
      lines,
      ap (λ (n : ℕ). record_text (entries_kept flight (take n kept))) all
          ∙ ap (λ (l : List Kept). record_text (entries_kept flight l)) (take_all (length kept) kept (omega arith))
          ∙ all_lines flight kept s.drained
          ∙ ap (λ (l : List ℕ). l ++ record_text (entries_kept flight (drop s.drained kept))) (sym old)
          ∙ ap (λ (l : List ℕ). text_drained c.args.self.now ++ l) (sym rest),
      c.in_ok-push_slice.ensures.ok ∙ ap (λ (l : List ℕ). c.args.text.now ++ l) c.as_slice-3.ensures,
    )

pub returns-clause-rests : goal.returns-clause-rests
returns-clause-rests c = rests_of (view_of c.self.inside) c.self.invariant (subst Rests (sym c.self.view_is) c.requires.ready)
