-- A text cut at the first place of a byte, and its first line.
use Rattle.std.proofs.Common.{◌≡◌, ℕ, suc, ◌<◌, ◌≤◌, Bool, true, false, not, cond, List, [], ◌∷◌, length, take, drop, Option, Some, None, unwrap_or, refl, ap, sym, arith, eqb, inl, inr}
use Rattle.std.specs.List.{position, prefix_len}
use Rattle.std.proofs.lemmas.Bool.{ltb-true, ltb-false, cases_Bool}
use Rattle.sd_outside.specs.Lines.{lines}

pub found : (b : Bool) (n at : ℕ) → cond b (Some n) None ≡ Some at → (b ≡ true) × (n ≡ at)
found true n at e = (refl, ap (λ (o : Option ℕ). unwrap_or o 0) e)
found false n at e = cc e

pub missing : (b : Bool) (n : ℕ) → cond b (Some n) None ≡ None → b ≡ false
missing true n e = cc e
missing false n e = refl

pub place_is : (c : ℕ) (text : List ℕ) (at : ℕ) → position (λ b. eqb b c) text ≡ Some at → (at ≡ prefix_len (λ b. not (eqb b c)) text) × (at < length text)
place_is c text at e =
    let place = found _ _ _ e in
    (sym place.1, omega (arith, ltb-true _ _ place.0, place.1))

pub no_place : (c : ℕ) (text : List ℕ) → position (λ b. eqb b c) text ≡ None → length text ≤ prefix_len (λ b. not (eqb b c)) text
no_place c text e = ltb-false _ _ (missing _ _ e)

-- how many bytes come before the first line feed
abbrev pub feed : List ℕ → ℕ
feed text = prefix_len (λ b. not (eqb b 10)) text

feed_here : (b : ℕ) (text : List ℕ) → eqb b 10 ≡ true → feed (b ∷ text) ≡ 0
feed_here b text is_feed = rw is_feed refl

feed_later : (b : ℕ) (text : List ℕ) → eqb b 10 ≡ false → feed (b ∷ text) ≡ suc (feed text)
feed_later b text other = rw other (omega arith)

line_here : (b : ℕ) (text : List ℕ) → eqb b 10 ≡ true → lines (b ∷ text) ≡ (b ∷ []) ∷ lines text
line_here b text is_feed = rw is_feed refl

line_later : (b : ℕ) (text line : List ℕ) (more : List (List ℕ)) → eqb b 10 ≡ false → lines text ≡ line ∷ more → lines (b ∷ text) ≡ (b ∷ line) ∷ more
line_later b text line more other e = rw (other, e) refl

-- the first line of a text that has a line feed
pub first_line : (text : List ℕ) → feed text < length text → lines text ≡ take (suc (feed text)) text ∷ lines (drop (suc (feed text)) text)
first_line [] h = absurd (omega arith)
first_line (b ∷ text) h = elim (cases_Bool (eqb b 10)) [
  | inl is_feed ↦ rw (feed_here b text is_feed) (line_here b text is_feed)
  | inr other ↦
      let later = feed_later b text other in
      rw later (line_later b text _ _ other (first_line text (omega (arith, later, h))))
]

-- a text without a line feed is one line
pub last_line : (text : List ℕ) → 0 < length text → length text ≤ feed text → lines text ≡ text ∷ []
last_line [] some h = absurd (omega arith)
last_line (b ∷ []) some h = elim (cases_Bool (eqb b 10)) [
  | inl is_feed ↦ absurd (omega (arith, feed_here b [] is_feed, h))
  | inr other ↦ rw other refl
]
last_line (b ∷ c ∷ text) some h = elim (cases_Bool (eqb b 10)) [
  | inl is_feed ↦ absurd (omega (arith, feed_here b (c ∷ text) is_feed, h))
  | inr other ↦ line_later b (c ∷ text) _ _ other (last_line (c ∷ text) (omega arith) (omega (arith, feed_later b (c ∷ text) other, h)))
]
