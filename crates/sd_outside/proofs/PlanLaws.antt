-- Laws of planned faults.
use Rattle.std.proofs.Common.{◌≢◌, zero, suc, ◌||◌, ◌≡◌, inl, inr, ⊎_elim, ℕ, ◌+◌, ◌-◌, ◌<◌, ◌≤◌, List, [], ◌∷◌, length, get_or, Bool, true, false, refl, sym, ◌∙◌, ap, subst, arith}
use Rattle.std.proofs.lemmas.Bool.{cases_lt, cases_eq}
use Rattle.std.proofs.lemmas.Bool.Decides.{nat_tests}
use Rattle.std.specs.List.{list_any}
use Rattle.std.specs.Prelude.{nat_eq, IsTrue, ◌↔◌}
use Rattle.sd_outside.specs.Plan.{FailsNext, later}

-- one number, before and after
later_in : (n k : ℕ) (ks : List ℕ) → k < n → later n (k ∷ ks) ≡ later n ks
later_in n k ks below = grind (arith, nat_tests)

later_out : (n k : ℕ) (ks : List ℕ) → n ≤ k → later n (k ∷ ks) ≡ (k - n) ∷ later n ks
later_out n k ks above = grind (arith, nat_tests)

pub later-zero : (ks : List ℕ) → later 0 ks ≡ ks
later-zero [] = refl
later-zero (k ∷ ks) =
    let same : k - 0 ≡ k = omega arith in
    later_out 0 k ks (omega arith) ∙ ap (λ (l : List ℕ). (k - 0) ∷ l) (later-zero ks) ∙ ap (λ (n : ℕ). n ∷ ks) same

pub later-add : (m n : ℕ) (ks : List ℕ) → later (m + n) ks ≡ later n (later m ks)
later-add m n [] = refl
later-add m n (k ∷ ks) = ⊎_elim
    (λ (low : k < m). later_in (m + n) k ks (omega (arith, low)) ∙ later-add m n ks ∙ ap (later n) (sym (later_in m k ks low)))
    (λ (high : m ≤ k). ⊎_elim
    (λ (mid : k - m < n).
    later_in (m + n) k ks (omega (arith, high, mid)) ∙ later-add m n ks
    ∙ sym (ap (later n) (later_out m k ks high) ∙ later_in n (k - m) (later m ks) mid))
    (λ (top : n ≤ k - m).
    let same : k - (m + n) ≡ (k - m) - n = omega (arith, high, top) in
    later_out (m + n) k ks (omega (arith, high, top)) ∙ ap (λ (i : ℕ). i ∷ later (m + n) ks) same ∙ ap (λ (l : List ℕ). ((k - m) - n) ∷ l) (later-add m n ks)
    ∙ sym (ap (later n) (later_out m k ks high) ∙ later_out n (k - m) (later m ks) top))
    (cases_lt (k - m) n))
    (cases_lt k m)

pub length-later : (n : ℕ) (ks : List ℕ) → length (later n ks) ≤ length ks
length-later n [] = omega arith
length-later n (k ∷ ks) = ⊎_elim
    (λ (low : k < n). omega (arith, ap length (later_in n k ks low), length-later n ks))
    (λ (high : n ≤ k). omega (arith, ap length (later_out n k ks high), length-later n ks))
    (cases_lt k n)

-- no number is left once all are below
pub later_none : (n : ℕ) (ks : List ℕ) → ((i : ℕ) → get_or ks i 0 < n) → later n ks ≡ []
later_none n [] small = refl
later_none n (k ∷ ks) small = later_in n k ks (small 0) ∙ later_none n ks (λ i. small (suc i))

-- one number more, which is another
other_any : (k n : ℕ) (rest b : Bool) → k ≢ n → (nat_eq k n || rest) ≡ b → rest ≡ b
other_any k n rest b differs same = grind (arith, nat_tests)

with_other : (k n : ℕ) (rest : Bool) → rest ≡ true → (nat_eq k n || rest) ≡ true
with_other k n rest is = grind (arith, nat_tests)

with_same : (k n : ℕ) (rest : Bool) → k ≡ n → (nat_eq k n || rest) ≡ true
with_same k n rest is = grind (arith, nat_tests)

-- a number of the list is the next call's
pub fails_if : (n : ℕ) (ks : List ℕ) → list_any (λ k. nat_eq k n) ks ≡ true → FailsNext (later n ks)
fails_if n [] there = absurd (cc there)
fails_if n (k ∷ ks) there = ⊎_elim
    (λ (low : k < n). subst FailsNext (sym (later_in n k ks low)) (fails_if n ks (other_any k n (list_any (λ i. nat_eq i n) ks) true (λ same. omega (arith, low, same)) there)))
    (λ (high : n ≤ k). subst FailsNext (sym (later_out n k ks high)) (elim (cases_eq k n) [
      | inl same ↦ (0, omega arith, omega (arith, same))
      | inr differs ↦
          let rest = fails_if n ks (other_any k n (list_any (λ i. nat_eq i n) ks) true differs there) in
          (suc rest.0, omega (arith, rest.1), rest.2)
    ]))
    (cases_lt k n)

pub fails_only_if : (n : ℕ) (ks : List ℕ) → FailsNext (later n ks) → list_any (λ k. nat_eq k n) ks ≡ true
fails_only_if n [] next = absurd (omega (arith, next.1))
fails_only_if n (k ∷ ks) next = ⊎_elim
    (λ (low : k < n). with_other k n (list_any (λ i. nat_eq i n) ks) (fails_only_if n ks (subst FailsNext (later_in n k ks low) next)))
    (λ (high : n ≤ k). of (subst FailsNext (later_out n k ks high) next) high (fails_only_if n ks))
    (cases_lt k n)
  where
    of : FailsNext ((k - n) ∷ later n ks) → n ≤ k → (FailsNext (later n ks) → list_any (λ i. nat_eq i n) ks ≡ true) → (nat_eq k n || list_any (λ i. nat_eq i n) ks) ≡ true
    of (zero, inside, is) high more = with_same k n (list_any (λ i. nat_eq i n) ks) (omega (arith, high, is))
    of (suc i, inside, is) high more = with_other k n (list_any (λ i. nat_eq i n) ks) (more (i, omega (arith, inside), is))

-- whether the call that was just made was planned to fail
pub was_planned : (made : ℕ) (numbers list plan : List ℕ) (fails : Bool) → list ≡ numbers → later made numbers ≡ plan → fails ≡ list_any (λ k. nat_eq k made) list → IsTrue fails ↔ FailsNext plan
was_planned made numbers list plan fails same view is =
    let among : fails ≡ list_any (λ k. nat_eq k made) numbers = is ∙ ap (λ (l : List ℕ). list_any (λ k. nat_eq k made) l) same in (
      λ yes. subst FailsNext view (fails_if made numbers (sym among ∙ yes)),
      λ next. among ∙ fails_only_if made numbers (subst FailsNext (sym view) next),
    )

-- The next call takes a number out exactly if it is planned to fail.
same_any : (n : ℕ) (rest : Bool) → (nat_eq n n || rest) ≡ false → ⊥
same_any n rest same = grind (arith, nat_tests)

pub drops : (n : ℕ) (ks : List ℕ) → list_any (λ k. nat_eq k n) ks ≡ true → length (later (n + 1) ks) < length (later n ks)
drops n [] there = absurd (cc there)
drops n (k ∷ ks) there = elim (cases_eq k n) [
  | inl same ↦ omega (arith, ap length (later_in (n + 1) k ks (omega (arith, same))), ap length (later_out n k ks (omega (arith, same))), ap length (later-add n 1 ks), length-later 1 (later n ks))
  | inr differs ↦
      let rest = drops n ks (other_any k n (list_any (λ i. nat_eq i n) ks) true differs there) in
      ⊎_elim
      (λ (low : k < n). omega (arith, rest, ap length (later_in (n + 1) k ks (omega (arith, low))), ap length (later_in n k ks low)))
      (λ (high : n ≤ k). omega (arith, rest, ap length (later_out (n + 1) k ks (omega (arith, high, differs))), ap length (later_out n k ks high)))
      (cases_lt k n)
]

pub stays : (n : ℕ) (ks : List ℕ) → list_any (λ k. nat_eq k n) ks ≡ false → length (later (n + 1) ks) ≡ length (later n ks)
stays n [] none = refl
stays n (k ∷ ks) none = elim (cases_eq k n) [
  | inl same ↦ absurd (same_any n (list_any (λ i. nat_eq i n) ks) (subst (λ (i : ℕ). (nat_eq i n || list_any (λ j. nat_eq j n) ks) ≡ false) same none))
  | inr differs ↦
      let rest = stays n ks (other_any k n (list_any (λ i. nat_eq i n) ks) false differs none) in
      ⊎_elim
      (λ (low : k < n). omega (arith, rest, ap length (later_in (n + 1) k ks (omega (arith, low))), ap length (later_in n k ks low)))
      (λ (high : n ≤ k). omega (arith, rest, ap length (later_out (n + 1) k ks (omega (arith, high, differs))), ap length (later_out n k ks high)))
      (cases_lt k n)
]
