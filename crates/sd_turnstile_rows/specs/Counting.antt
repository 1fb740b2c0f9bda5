-- A counter of one thread.
use Rattle.std.specs.Prelude.{◌≡◌, ℕ, ◌+◌, List, [], ◌∷◌, ◌++◌}
use Rattle.std.proofs.Common.{refl, subst, sym}
use Rattle.sd_turnstile_rows.specs.declared.counter.Counter.{Counter}
use Rattle.sd_turnstile_rows.specs.declared.counter.Added.{Added}

abbrev pub counter : ℕ → Counter
counter n = record { value = n }

abbrev pub added : ℕ → ℕ → Added
added by reply = record { by = by; reply = reply }

-- each entry's reply is one more than the counter had
abbrev pub leads : Counter → List Added → Counter → Type 0
leads x [] y = x ≡ y
leads x (e ∷ es) y = (e.reply ≡ x.value + 1) × leads (counter (x.value + 1)) es y

pub leads_nowhere : (x : Counter) → leads x [] x
leads_nowhere x = refl

pub leads_on : (x y z : Counter) (es fs : List Added) → leads x es y → leads y fs z → leads x (es ++ fs) z
leads_on x y z [] fs h k = subst (λ (c : Counter). leads c fs z) (sym h) k
leads_on x y z (e ∷ es) fs h k = (h.0, leads_on (counter (x.value + 1)) y z es fs h.1 k)
