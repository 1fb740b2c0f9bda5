-- Parts at which nothing is read, and why they are outside.
use Rattle.std.proofs.Common.{◌≡◌, ℕ, None, ap, ◌∙◌}
use Rattle.sd_xdr.specs.Kind.{Value, number, ◌⊗◌}
use Rattle.sd_text.specs.Texts.{Text}
use Rattle.sd_text.specs.Kind.{Kind, ◌&◌, given}
use Rattle.sd_text.specs.declared.error.LineError.{LineError}
use Rattle.sd_text.specs.declared.error.LineError.TheVariants.{Outside, NoMemory}
use Rattle.sd_text.specs.Reading.{Read, ◌>>=◌, reading}
use Rattle.sd_text.specs.Answers.{OnOutside}
use Rattle.sd_text.proofs.Again.{gives}

-- why a part is outside is why the whole is
pub handed_on : {S N : Type 0} (e : LineError) → OnOutside e S → (S → N) → OnOutside e N
handed_on Outside h to = to h
handed_on NoMemory h to = tt

-- ---- steps at which nothing is read

pub first_none : (A B : Kind) (t : Text) → reading A t ≡ None → reading (A & B) t ≡ None
unfolding reading
first_none A B t h = ap (λ (r : Read). r >>= λ (x : Value × Text). reading B x.1 >>= λ (y : Value × Text). gives (x.0 ⊗ y.0) y.1) h

pub second_none : (A B : Kind) (t u : Text) (x : Value) → reading A t ≡ gives x u → reading B u ≡ None → reading (A & B) t ≡ None
unfolding reading
second_none A B t u x h k =
    ap (λ (r : Read). r >>= λ (x : Value × Text). reading B x.1 >>= λ (y : Value × Text). gives (x.0 ⊗ y.0) y.1) h
    ∙ ap (λ (r : Read). r >>= λ (y : Value × Text). gives (x ⊗ y.0) y.1) k

pub given_none : (n : ℕ) (K : Kind) (t : Text) → reading K t ≡ None → reading (given n K) t ≡ None
unfolding reading
given_none n K t h = ap (λ (r : Read). r >>= λ (x : Value × Text). gives (number n ⊗ x.0) x.1) h
