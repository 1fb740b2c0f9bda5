-- Maximal runs and normal items, from the front.
use Rattle.std.proofs.Common.{◌≡◌, ℕ, suc, ◌+◌, ◌<◌, ◌≤◌, List, [], ◌∷◌, ◌++◌, length, take, drop, get_or, replicate, refl, ap, sym, ◌∙◌, inl, inr, arith, eqb, append_assoc, add-one, length-drop, take-add}
use Rattle.std.specs.List.{prefix_len}
use Rattle.std.proofs.lemmas.Bool.{eq-eqb, ne_eqb, cases_eq, le-leb, lt-leb}
use Rattle.std.proofs.lemmas.List.{drop-drop, drop_all}
use Rattle.std.proofs.lemmas.List.Sums.{prefix_len-le-length}
use Rattle.sd_text.specs.Runs.{Item, pairs, repeated, maximal_runs, before, normal_items}
use Rattle.sd_text.specs.Writing.{run_length}

-- how many of the bytes equal b at the front
abbrev pub count : ℕ → List ℕ → ℕ
count b bytes = prefix_len (λ x. eqb x b) bytes

-- one more byte that equals the first
count-same : (b : ℕ) (bytes : List ℕ) → count b (b ∷ bytes) ≡ suc (count b bytes)
count-same b bytes = rw (eq-eqb b b refl) (omega arith)

count-other : (b c : ℕ) (bytes : List ℕ) → (c ≡ b → ⊥) → count b (c ∷ bytes) ≡ 0
count-other b c bytes ne = rw (ne_eqb c b ne) refl

grown : (b n : ℕ) (bytes : List ℕ) (runs : List (ℕ × ℕ)) → maximal_runs (b ∷ bytes) ≡ (b, n) ∷ runs → maximal_runs (b ∷ b ∷ bytes) ≡ (b, suc n) ∷ runs
grown b n bytes runs e = rw (e, eq-eqb b b refl, add-one) refl

begun : (b c n : ℕ) (bytes : List ℕ) (runs : List (ℕ × ℕ)) → (b ≡ c → ⊥) → maximal_runs (c ∷ bytes) ≡ (c, n) ∷ runs → maximal_runs (b ∷ c ∷ bytes) ≡ (b, 1) ∷ maximal_runs (c ∷ bytes)
begun b c n bytes runs ne e = rw (e, ne_eqb b c ne) refl

-- the first maximal run of bytes that begin with b
pub first_run : (b : ℕ) (bytes : List ℕ) → maximal_runs (b ∷ bytes) ≡ (b, suc (count b bytes)) ∷ maximal_runs (drop (count b bytes) bytes)
first_run b [] = refl
first_run b (c ∷ bytes) = elim (cases_eq c b) [
  | inl same ↦ let again : maximal_runs (b ∷ b ∷ bytes) ≡ (b, suc (suc (count b bytes))) ∷ maximal_runs (drop (count b bytes) bytes) = grown b (suc (count b bytes)) bytes _ (first_run b bytes) in
      rw (same, count-same b bytes) again
  | inr ne ↦ rw (count-other b c bytes ne) (begun b c (suc (count c bytes)) bytes _ (λ e. ne (sym e)) (first_run c bytes))
]

pub take-count : (b : ℕ) (bytes : List ℕ) → take (count b bytes) bytes ≡ replicate (count b bytes) b
take-count b [] = refl
take-count b (c ∷ bytes) = elim (cases_eq c b) [
  | inl same ↦ rw (same, count-same b bytes) (ap (λ (xs : List ℕ). b ∷ xs) (take-count b bytes))
  | inr ne ↦ rw (count-other b c bytes ne) refl
]

pub run_length-cons : (b : ℕ) (bytes : List ℕ) → run_length (b ∷ bytes) ≡ suc (count b bytes)
run_length-cons b bytes = count-same b bytes

-- the first maximal run
pub front_run_is : (bytes : List ℕ) → 0 < length bytes → maximal_runs bytes ≡ (get_or bytes 0 0, run_length bytes) ∷ maximal_runs (drop (run_length bytes) bytes)
front_run_is [] h = absurd (omega arith)
front_run_is (b ∷ bytes) h = rw (run_length-cons b bytes) (first_run b bytes)

pub front_run_same : (bytes : List ℕ) → 0 < length bytes → take (run_length bytes) bytes ≡ replicate (run_length bytes) (get_or bytes 0 0)
front_run_same [] h = absurd (omega arith)
front_run_same (b ∷ bytes) h = rw (run_length-cons b bytes) (ap (λ (xs : List ℕ). b ∷ xs) (take-count b bytes))

pub front_run_least : (bytes : List ℕ) → 0 < length bytes → 0 < run_length bytes
front_run_least [] h = absurd (omega arith)
front_run_least (b ∷ bytes) h = rw (run_length-cons b bytes) (omega arith)

-- a long run at the front is the first item
pub long_run : (bytes : List ℕ) → 0 < length bytes → 4 ≤ run_length bytes → normal_items bytes ≡ repeated (get_or bytes 0 0) (run_length bytes) ∷ normal_items (drop (run_length bytes) bytes)
long_run bytes h long = rw (front_run_is bytes h, le-leb 4 (run_length bytes) long) refl

-- a short run at the front joins the pairs that follow
pub short_run : (bytes : List ℕ) → 0 < length bytes → run_length bytes < 4 → normal_items bytes ≡ before (take (run_length bytes) bytes) (normal_items (drop (run_length bytes) bytes))
short_run bytes h short = rw (front_run_same bytes h, front_run_is bytes h, lt-leb 4 (run_length bytes) short) refl

before-before : (p q : List ℕ) (items : List Item) → before p (before q items) ≡ before (p ++ q) items
before-before p q [] = refl
before-before p q (pairs more ∷ items) = rw append_assoc refl
before-before p q (repeated b n ∷ items) = refl

-- one more short run after a prefix of the bytes
pub short_run_more : (bytes : List ℕ) (at run : ℕ) → at < length bytes → run ≡ run_length (drop at bytes) → run < 4
    → normal_items bytes ≡ before (take at bytes) (normal_items (drop at bytes))
    → normal_items bytes ≡ before (take (at + run) bytes) (normal_items (drop (at + run) bytes))
short_run_more bytes at run inside is short e =
    let some : 0 < length (drop at bytes) = omega (arith, length-drop at bytes) in
    e ∙ ap (before (take at bytes)) (short_run (drop at bytes) some (rw (sym is) short)) ∙ before-before (take at bytes) _ _
    ∙ rw (sym is, sym (take-add at run bytes), drop-drop run at bytes) refl

-- pairs end where the bytes end, or where a long run begins
pub pairs_end : (bytes : List ℕ) (at : ℕ) → length bytes ≤ at → normal_items bytes ≡ before (take at bytes) (normal_items (drop at bytes)) → normal_items bytes ≡ pairs (take at bytes) ∷ normal_items (drop at bytes)
pairs_end bytes at past e = let nothing : drop at bytes ≡ [] = drop_all at bytes past in e ∙ rw nothing refl

pub pairs_stop : (bytes : List ℕ) (at run : ℕ) → at < length bytes → run ≡ run_length (drop at bytes) → 4 ≤ run
    → normal_items bytes ≡ before (take at bytes) (normal_items (drop at bytes)) → normal_items bytes ≡ pairs (take at bytes) ∷ normal_items (drop at bytes)
pairs_stop bytes at run inside is long e =
    let some : 0 < length (drop at bytes) = omega (arith, length-drop at bytes) in
    let item = long_run (drop at bytes) some (rw (sym is) long) in
    e ∙ rw item refl

pub run_length-le : (bytes : List ℕ) → run_length bytes ≤ length bytes
run_length-le bytes = prefix_len-le-length (λ b. eqb b (get_or bytes 0 0)) bytes
