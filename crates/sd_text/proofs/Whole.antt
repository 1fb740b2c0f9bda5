-- Whole texts.
use Rattle.std.proofs.Common.{◌≡◌, ◌↔◌, ℕ, true, List, [], ◌∷◌, ◌++◌, Option, Some, None, refl, sym, ap, subst, ◌∙◌}
use Rattle.std.proofs.lemmas.List.{append-nil}
use Rattle.sd_xdr.specs.Kind.{Value}
use Rattle.sd_text.specs.Texts.{Text}
use Rattle.sd_text.specs.Kind.{Kind, is_clear}
use Rattle.sd_text.specs.Grammar.{Reads}
use Rattle.sd_text.specs.Reading.{Read, ◌>>=◌, reading, whole_end, whole_reading}
use Rattle.sd_text.specs.Laws.{OneValue, ReadingIsTheGrammar, ReadBeforeMore}
use Rattle.sd_text.proofs.Again.{again, gives}
use Rattle.sd_text.proofs.Sound.{Spelled, bind_some, sound}

pub read_before_more : ReadBeforeMore
read_before_more K s more x clear r k = again r clear more k

pub whole_again : (K : Kind) (s : Text) (x : Value) → is_clear K ≡ true → Reads K s x → whole_reading K s ≡ Some x
unfolding whole_reading
whole_again K s x clear r =
    ap (λ (u : Text). reading K u >>= whole_end) (sym (append-nil s)) ∙ ap (λ (r : Read). r >>= whole_end) (again r clear [] refl)

ended : (K : Kind) (s : Text) (x y : Value) (more : Text) → Spelled K s y more → whole_end (y, more) ≡ Some x → Reads K s x
ended K s x y [] p e =
    let same : y ≡ x = cc e in
    subst (λ (u : Text). Reads K u x) (sym (append-nil p.front) ∙ sym p.parts) (subst (λ (v : Value). Reads K p.front v) same p.reads)
ended K s x y (b ∷ t) p e = absurd cc

pub whole_sound : (K : Kind) (s : Text) (x : Value) → whole_reading K s ≡ Some x → Reads K s x
unfolding whole_reading
whole_sound K s x e =
    let i = bind_some (reading K s) whole_end x e in
    ended K s x i.0.0 i.0.1 (sound K s i.0.0 i.0.1 i.1) i.2

one : (x y : Value) → ◌≡◌ {A = Option Value} (Some x) (Some y) → x ≡ y
one x y e = cc e

apart : (x : Value) → ◌≡◌ {A = Option Value} None (Some x) → ⊥
apart x e = cc e

pub one_value : OneValue
one_value K s x y clear r q = one x y (sym (whole_again K s x clear r) ∙ whole_again K s y clear q)

by_answer : (K : Kind) (s : Text) (r : Option Value) → whole_reading K s ≡ r → ((x : Value) → Reads K s x → ⊥) → whole_reading K s ≡ None
by_answer K s (Some x) e h = absurd (h x (whole_sound K s x e))
by_answer K s None e h = e

pub reading_is_the_grammar : ReadingIsTheGrammar
reading_is_the_grammar K s clear = (
  λ x. (λ e. whole_sound K s x e, λ r. whole_again K s x clear r),
  (λ e x r. apart x (sym e ∙ whole_again K s x clear r), λ h. by_answer K s (whole_reading K s) refl h),
)
