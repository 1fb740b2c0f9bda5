-- Lists that change at one place, sums over them, and beginnings of one history.
use Rattle.std.proofs.Common.{◌≡◌, ◌≢◌, ◌⊎◌, ℕ, zero, suc, ◌+◌, ◌<◌, ◌≤◌, List, [], ◌∷◌, ◌++◌, length, set, refl, sym, ap, ◌∙◌, subst, inl, inr, ⊎_elim, arith, append_assoc, append-nil, length-append, le-leb, eqb, eq-eqb, ne_eqb}
use Rattle.std.proofs.lemmas.List.Elements.{filter-append}
use Rattle.std.proofs.lemmas.Bool.{lt-leb}
use Rattle.std.specs.Prelude.{Bool, true, false, nat_le, Option, None, Some, if◌then◌else◌}
use mathlib.Core.Logic.{dite}
use mathlib.Core.Option.{some, some-injective, some-ne-none}
use native.Mathlib.Decide.{dec_le}
use lib.ListN.{get_elem?}
use Rattle.atomic_table.proofs.Lists.{at_set}
use Rattle.sd_turnstile.specs.History.{StartsWith, longer, entries, calls_by, IsBy}
use Rattle.sd_turnstile.specs.Order.{total}

module _ {A : Type 0} where
  pub set_there : (l : List A) (i : ℕ) (a b : A) → get_elem? l i ≡ some a → get_elem? (set l i b) i ≡ some b
  set_there [] i a b e = absurd (some-ne-none a (sym e))
  set_there (x ∷ xs) zero a b e = refl
  set_there (x ∷ xs) (suc i) a b e = set_there xs i a b e

  pub at_less : (l : List A) (i : ℕ) (a : A) → get_elem? l i ≡ some a → i < length l
  at_less [] i a e = absurd (some-ne-none a (sym e))
  at_less (x ∷ xs) zero a e = omega arith
  at_less (x ∷ xs) (suc i) a e = omega (arith, at_less xs i a e)

  -- one more at the end
  pub at_end : (l : List A) (a b : A) (j : ℕ) → get_elem? (l ++ a ∷ []) j ≡ some b → (get_elem? l j ≡ some b) ⊎ ((j ≡ length l) × (a ≡ b))
  at_end [] a b zero e = inr (refl, some-injective a b e)
  at_end [] a b (suc j) e = absurd (some-ne-none b (sym e))
  at_end (x ∷ xs) a b zero e = inl e
  at_end (x ∷ xs) a b (suc j) e = ⊎_elim (λ t. inl t) (λ t. inr (ap suc t.0, t.1)) (at_end xs a b j e)

  -- what holds of each after one changed
  pub all_set : (P : ℕ → A → Type 0) (l : List A) (i : ℕ) (w : A) → P i w → ((j : ℕ) (u : A) → j ≢ i → get_elem? l j ≡ some u → P j u)
      → (j : ℕ) (u : A) → get_elem? (set l i w) j ≡ some u → P j u
  all_set P l i w mine others j u e =
      ⊎_elim
      (λ (t : (j ≡ i) × (w ≡ u)). subst (λ (y : ℕ × A). P y.0 y.1) (λ k. (sym t.0 k, t.1 k)) mine)
      (λ (t : (j ≢ i) × (get_elem? l j ≡ some u)). others j u t.0 t.1)
      (at_set l i j w u e)

  module _ (f : A → ℕ) where
    pub total-append : (l m : List A) → total f (l ++ m) ≡ total f l + total f m
    total-append [] m = omega arith
    total-append (x ∷ xs) m = omega (arith, total-append xs m)

    pub total-set : (l : List A) (j : ℕ) (v w : A) → get_elem? l j ≡ some v → total f (set l j w) + f v ≡ total f l + f w
    total-set [] j v w e = absurd (some-ne-none v (sym e))
    total-set (x ∷ xs) zero v w e = omega (arith, ap f (some-injective x v e))
    total-set (x ∷ xs) (suc j) v w e = omega (arith, total-set xs j v w e)

    pub term_le : (l : List A) (j : ℕ) (v : A) → get_elem? l j ≡ some v → f v ≤ total f l
    term_le [] j v e = absurd (some-ne-none v (sym e))
    term_le (x ∷ xs) zero v e = omega (arith, ap f (some-injective x v e))
    term_le (x ∷ xs) (suc j) v e = omega (arith, term_le xs j v e)

    pub terms_le : (l : List A) (j k : ℕ) (v u : A) → k ≢ j → get_elem? l j ≡ some v → get_elem? l k ≡ some u → f v + f u ≤ total f l
    terms_le [] j k v u n e d = absurd (some-ne-none v (sym e))
    terms_le (x ∷ xs) zero zero v u n e d = absurd (n refl)
    terms_le (x ∷ xs) zero (suc k) v u n e d = omega (arith, ap f (some-injective x v e), term_le xs k u d)
    terms_le (x ∷ xs) (suc j) zero v u n e d = omega (arith, ap f (some-injective x u d), term_le xs j v e)
    terms_le (x ∷ xs) (suc j) (suc k) v u n e d = omega (arith, terms_le xs j k v u (λ h. n (ap suc h)) e d)

    pub total_none : (l : List A) → ((j : ℕ) (v : A) → get_elem? l j ≡ some v → f v ≡ 0) → total f l ≡ 0
    total_none [] h = refl
    total_none (x ∷ xs) h = omega (arith, h 0 x refl, total_none xs (λ j v e. h (suc j) v e))

  pub total_le : (f g : A → ℕ) (l : List A) → ((j : ℕ) (v : A) → get_elem? l j ≡ some v → f v ≤ g v) → total f l ≤ total g l
  total_le f g [] h = omega arith
  total_le f g (x ∷ xs) h = omega (arith, h 0 x refl, total_le f g xs (λ j v e. h (suc j) v e))

module _ {E : Type 0} where
  empty : (xs : List E) → length xs ≡ 0 → xs ≡ []
  empty [] e = refl
  empty (x ∷ xs) e = absurd (omega arith)

  pub append_none : (xs ys : List E) → xs ++ ys ≡ [] → xs ≡ []
  append_none xs ys e = empty xs (omega (arith, ap length e, length-append xs ys))

  pub starts_more : (history seen more : List E) → StartsWith history seen → StartsWith (history ++ more) seen
  starts_more history seen more s = (s.0 ++ more, ap (λ l. l ++ more) s.1 ∙ append_assoc seen s.0 more)

  -- of two beginnings of one list the one that isn't longer begins the other
  pub shorter_begins : (history xs ys : List E) → StartsWith history xs → StartsWith history ys → length xs ≤ length ys → StartsWith ys xs
  shorter_begins history [] ys s t l = (ys, refl)
  shorter_begins history (x ∷ xs) [] s t l = absurd (omega arith)
  shorter_begins [] (x ∷ xs) (y ∷ ys) s t l = absurd (cc (s.1))
  shorter_begins (h ∷ hs) (x ∷ xs) (y ∷ ys) s t l =
      let tails : hs ≡ xs ++ s.0 = cc (s.1) in
      let tails' : hs ≡ ys ++ t.0 = cc (t.1) in
      let r = shorter_begins hs xs ys (s.0, tails) (t.0, tails') (omega arith) in
      let heads : y ≡ x = cc (s.1, t.1) in
      (r.0, cc (r.1, heads))

  -- the longer of two beginnings is one too, and begins with both
  pub longer_begins : (history xs ys : List E) → StartsWith history xs → StartsWith history ys → StartsWith history (longer xs ys) × StartsWith (longer xs ys) xs × StartsWith (longer xs ys) ys
  longer_begins history xs ys s t = dite (dec_le (length xs) (length ys))
      (λ le. subst (λ (b : Bool). let l : List E = if b then ys else xs in StartsWith history l × StartsWith l xs × StartsWith l ys) (sym (le-leb (length xs) (length ys) le))
      (t, shorter_begins history xs ys s t le, ([], sym (append-nil ys))))
      (λ gt. subst (λ (b : Bool). let l : List E = if b then ys else xs in StartsWith history l × StartsWith l xs × StartsWith l ys) (sym (lt-leb (length xs) (length ys) (omega arith)))
      (s, ([], sym (append-nil xs)), shorter_begins history ys xs t s (omega arith)))

  pub longer_same : (xs : List E) → longer xs xs ≡ xs
  longer_same xs = of (nat_le (length xs) (length xs))
    where
      of : (b : Bool) → (if b then xs else xs) ≡ xs
      of true = refl
      of false = refl

  begins_both : (xs ys : List E) → StartsWith xs ys → StartsWith ys xs → xs ≡ ys
  begins_both xs ys s t =
      let none_more : s.0 ≡ [] = empty s.0 (omega (arith, ap length s.1, ap length t.1, length-append ys s.0, length-append xs t.0)) in
      s.1 ∙ (ap (λ l. ys ++ l) none_more ∙ append-nil ys)

  -- where one of two beginnings is the whole, so is the longer one
  pub longer_whole : (history xs ys : List E) → StartsWith history xs → StartsWith history ys → (xs ≡ history) ⊎ (ys ≡ history) → longer xs ys ≡ history
  longer_whole history xs ys s t which =
      let both = longer_begins history xs ys s t in
      sym (begins_both history (longer xs ys) both.0
      (⊎_elim (λ (e : xs ≡ history). subst (λ (l : List E). StartsWith (longer xs ys) l) e both.1) (λ (e : ys ≡ history). subst (λ (l : List E). StartsWith (longer xs ys) l) e both.2) which))

  module _ (caller : E → ℕ) where
    pub calls_by-append : (by : ℕ) (xs ys : List E) → calls_by caller by (xs ++ ys) ≡ calls_by caller by xs ++ calls_by caller by ys
    calls_by-append by xs ys = filter-append (λ e. eqb (caller e) by) xs ys

    -- an entry of the caller counts for that one
    pub own_entries : (by : ℕ) (entry : Option E) → IsBy caller by entry → calls_by caller by (entries entry) ≡ entries entry
    own_entries by None h = refl
    own_entries by (Some e) h = ap (λ b. if b then e ∷ [] else []) (eq-eqb (caller e) by h)

    -- and for no other
    pub other_entries : (by other : ℕ) (entry : Option E) → IsBy caller by entry → other ≢ by → calls_by caller other (entries entry) ≡ []
    other_entries by other None h ne = refl
    other_entries by other (Some e) h ne = ap (λ b. if b then e ∷ [] else []) (ne_eqb (caller e) other (λ same. ne (sym same ∙ h)))

    -- where the whole has none of the caller's, the beginning has none
    pub calls_none : (by : ℕ) (history seen : List E) → StartsWith history seen → calls_by caller by history ≡ [] → calls_by caller by seen ≡ []
    calls_none by history seen s none_there =
        append_none (calls_by caller by seen) (calls_by caller by s.0) (sym (calls_by-append by seen s.0) ∙ (ap (calls_by caller by) (sym s.1) ∙ none_there))

    -- a list between two that have the same of the caller's has them too
    pub calls_between : (by : ℕ) (history more seen own : List E) → StartsWith history more → StartsWith more seen → calls_by caller by history ≡ own → calls_by caller by seen ≡ own → calls_by caller by more ≡ own
    calls_between by history more seen own s t all some_of =
        let a : List E = calls_by caller by t.0 in
        let b : List E = calls_by caller by s.0 in
        let one : calls_by caller by more ≡ own ++ a = ap (calls_by caller by) t.1 ∙ (calls_by-append by seen t.0 ∙ ap (λ l. l ++ a) some_of) in
        let whole : (own ++ a) ++ b ≡ own = ap (λ l. l ++ b) (sym one) ∙ (sym (calls_by-append by more s.0) ∙ (ap (calls_by caller by) (sym s.1) ∙ all)) in
        let none_more : a ≡ [] = empty a (omega (arith, ap length whole, length-append (own ++ a) b, length-append own a)) in
        one ∙ (ap (λ l. own ++ l) none_more ∙ append-nil own)
