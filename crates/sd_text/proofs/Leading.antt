-- What texts begin with, and what they end before.
use Rattle.std.proofs.Common.{◌≡◌, ℕ, zero, suc, ◌+◌, ◌-◌, ◌<◌, ◌≤◌, Bool, true, false, cond, not, ◌&&◌, ◌||◌, eqb, nat_le, List, [], ◌∷◌, ◌++◌, length, Option, Some, None, refl, sym, ap, subst, ◌∙◌, append_assoc, arith, inl, inr, ◌⊎◌}
use Rattle.std.proofs.lemmas.Bool.{and_parts, cases_Bool, false≢true, eqb-true, not-true, cases_eq, cases_lt}
use Rattle.sd_xdr.specs.Kind.{Value, none, number, bytes, ◌⊗◌, number_of}
use Rattle.sd_text.specs.Texts.{Text}
use Rattle.sd_text.specs.Kind.{is_digit, is_name, all_pass, all_texts, all_below, is_some_text, begins, ends, is_some, said_leads, leads, same, place_from, place_in, Word, digits, pairs, run, inner, named, shown, all, holds, Kind, void, word, said, between, ◌&◌, many, choice, fork, maybe, where_zero, given, such}
use Rattle.std.specs.Fmt.{decimal}
use Rattle.std.proofs.lemmas.Fmt.{decimal_digit}
use Rattle.sd_text.specs.Grammar.{when, word_value, number_value, Reads, reads_void, reads_word, reads_said, reads_between, reads_row, reads_end, reads_more, reads_choice, reads_first, reads_other, reads_nothing, reads_some, reads_zero, reads_status, reads_given, reads_such}

-- ---- tests

pub or_false : (b c : Bool) → (b || c) ≡ true → b ≡ false → c ≡ true
or_false true c h k = absurd (false≢true (sym k))
or_false false c h k = h

pub below_at : (n : ℕ) (p : ℕ → Bool) (i : ℕ) → all_below n p ≡ true → i < n → p i ≡ true
below_at zero p i h lt = absurd (omega (arith, lt))
below_at (suc n) p i h lt =
    let s = and_parts (p n) (all_below n p) h in
    elim (cases_eq i n) [ inl e ↦ ap p e ∙ s.0 | inr ne ↦ below_at n p i s.1 (omega (arith, lt, ne)) ]

leb-le : (a b : ℕ) → nat_le a b ≡ true → a ≤ b
leb-le a b h = grind arith

pub digit_at : (p : ℕ → Bool) (b : ℕ) → all_below 10 (λ k. p (48 + k)) ≡ true → is_digit b ≡ true → p b ≡ true
digit_at p b h d =
    let s = and_parts (nat_le 48 b) (nat_le b 57) d in
    let low : 48 ≤ b = leb-le 48 b s.0 in
    let high : b ≤ 57 = leb-le b 57 s.1 in
    let at : 48 + (b - 48) ≡ b = omega (arith, low) in
    sym (ap p at) ∙ below_at 10 (λ k. p (48 + k)) (b - 48) h (omega (arith, low, high))

-- ---- fronts of texts

pub begins_more : (p : ℕ → Bool) (s t : Text) → begins p s ≡ true → begins p (s ++ t) ≡ true
begins_more p [] t h = absurd (false≢true h)
begins_more p (b ∷ s) t h = h

pub begins_ends : (p : ℕ → Bool) (s : Text) → begins p s ≡ true → ends p s ≡ true
begins_ends p [] h = refl
begins_ends p (b ∷ s) h = h

pub ends_begins : (p : ℕ → Bool) (s : Text) → is_some_text s ≡ true → ends p s ≡ true → begins p s ≡ true
ends_begins p [] some h = absurd (false≢true some)
ends_begins p (b ∷ s) some h = h

pub not_begins : (p : ℕ → Bool) (s : Text) → ends (λ d. not (p d)) s ≡ true → begins p s ≡ false
not_begins p [] h = refl
not_begins p (b ∷ s) h = not-true (p b) h

pub ends_weaker : (p q : ℕ → Bool) (s : Text) → ((d : ℕ) → p d ≡ true → q d ≡ true) → ends p s ≡ true → ends q s ≡ true
ends_weaker p q [] f h = refl
ends_weaker p q (b ∷ s) f h = f b h

pub some_front : (s t : Text) → is_some_text s ≡ true → is_some_text (s ++ t) ≡ true
some_front [] t h = absurd (false≢true h)
some_front (b ∷ s) t h = refl

pub some_back : (s t : Text) → is_some_text t ≡ true → is_some_text (s ++ t) ≡ true
some_back [] t h = h
some_back (b ∷ s) t h = refl

-- the first of two texts ends so; where it is empty, the second does
pub ends_both : (p : ℕ → Bool) (s t : Text) → ends p s ≡ true → (is_some_text s ≡ false → ends p t ≡ true) → ends p (s ++ t) ≡ true
ends_both p [] t h k = k refl
ends_both p (b ∷ s) t h k = h

-- ---- names

pub same_is : (s t : Text) → same s t ≡ true → s ≡ t
same_is [] [] h = refl
same_is [] (b ∷ t) h = absurd (false≢true h)
same_is (a ∷ s) [] h = absurd (false≢true h)
same_is (a ∷ s) (b ∷ t) h =
    let p = and_parts (eqb a b) (same s t) h in
    (λ i. eqb-true a b p.0 i ∷ same_is s t p.1 i)

pub some_is : (m n : ℕ) → ◌≡◌ {A = Option ℕ} (Some m) (Some n) → m ≡ n
some_is m n h = cc

pub no_place : (n : ℕ) → ◌≡◌ {A = Option ℕ} None (Some n) → ⊥
no_place n h = cc

-- a name that has a place is one of them
pub place_passes : (p : Text → Bool) (k : ℕ) (t : Text) (names : List Text) (n : ℕ) → all_texts p names ≡ true → place_from k t names ≡ Some n → (p t ≡ true) × (n < k + length names) × (k ≤ n)
place_passes p k t [] n h e = absurd (no_place n e)
place_passes p k t (one ∷ names) n h e =
    let s = and_parts (p one) (all_texts p names) h in
    by_test (same one t) refl s.0 (λ f. let r = place_passes p (k + 1) t names n s.1 f in (r.0, omega (arith, r.1), omega (arith, r.2))) e
  where
    by_test : (b : Bool) → same one t ≡ b → p one ≡ true → (place_from (k + 1) t names ≡ Some n → (p t ≡ true) × (n < k + suc (length names)) × (k ≤ n)) → cond b (Some k) (place_from (k + 1) t names) ≡ Some n → (p t ≡ true) × (n < k + suc (length names)) × (k ≤ n)
    by_test true is first more e = let m = some_is k n e in (sym (ap p (same_is one t is)) ∙ first, omega (arith, m), omega (arith, m))
    by_test false is first more e = more e

-- ---- no number is an empty text

nothing : (d : Text) (low high : ℕ) (x : Value) → d ≡ 48 ∷ [] → when (same d [] && nat_le low 0 && nat_le 0 high) (number 0) ≡ Some x → ⊥
nothing d low high x e h =
    let f : when false (number 0) ≡ Some x = sym (ap (λ (d : Text). when (same d [] && nat_le low 0 && nat_le 0 high) (number 0)) e) ∙ h in
    cc f

pub digits_some : (low high : ℕ) (s : Text) (x : Value) → number_value low high s ≡ Some x → is_some_text s ≡ true
unfolding number_value
digits_some low high [] x h = absurd (nothing (decimal 0) low high x (decimal_digit 0 (omega arith)) h)
digits_some low high (b ∷ s) x h = refl

pub digits_begin : (p : ℕ → Bool) (low high : ℕ) (s : Text) (x : Value) → all_below 10 (λ k. p (48 + k)) ≡ true → all_pass is_digit s ≡ true → number_value low high s ≡ Some x → begins p s ≡ true
digits_begin p low high [] x h d v = absurd (false≢true (digits_some low high [] x v))
digits_begin p low high (b ∷ s) x h d v = digit_at p b h (and_parts (is_digit b) (all_pass is_digit s) d).0

-- ---- kinds

word_some : (w : Word) (s : Text) (x : Value) → word_value w s ≡ Some x → is_some (word w) ≡ true → is_some_text s ≡ true
word_some (digits low high) s x v h = digits_some low high s x v
word_some (pairs n) s x v h = absurd (false≢true h)
word_some (run least most) s x v h = absurd (false≢true h)
word_some (inner most) s x v h = absurd (false≢true h)
word_some (named least most) s x v h = absurd (false≢true h)
word_some (shown least most) s x v h = absurd (false≢true h)
word_some all s x v h = absurd (false≢true h)

either_some : (A B : Kind) (s t : Text) → (is_some A ≡ true → is_some_text s ≡ true) → (is_some B ≡ true → is_some_text t ≡ true) → (b : Bool) → is_some A ≡ b → (b || is_some B) ≡ true → is_some_text (s ++ t) ≡ true
either_some A B s t f g true e h = some_front s t (f e)
either_some A B s t f g false e h = some_back s t (g h)

said_some : (t s : Text) (K : Kind) → (is_some K ≡ true → is_some_text s ≡ true) → (is_some_text t || is_some K) ≡ true → is_some_text (t ++ s) ≡ true
said_some [] s K f h = f h
said_some (b ∷ t) s K f h = refl

pub some_text : {K : Kind} {s : Text} {x : Value} → Reads K s x → is_some K ≡ true → is_some_text s ≡ true
some_text reads_void h = absurd (false≢true h)
some_text (reads_word {w} {x} s a v) h = word_some w s x v h
some_text (reads_said {K} {s} {x} t r) h = said_some t s K (some_text r) h
some_text (reads_between {K} {s} {x} a b r) h = refl
some_text (reads_row {A} {B} {s} {t} {x} {y} q r) h = either_some A B s t (some_text q) (some_text r) (is_some A) refl h
some_text (reads_end most c {K}) h = absurd (false≢true h)
some_text (reads_more {most} {c} {K} {s} {t} {x} {y} q r) h = refl
some_text (reads_choice {names} {arm} {s} {x} t n e r) h = some_front t s (place_passes is_some_text 0 t names n h e).0
some_text (reads_first {p} {A} {B} {s} {x} r) h = some_text r (and_parts (is_some A) (is_some B) h).0
some_text (reads_other {p} {A} {B} {s} {x} r) h = some_text r (and_parts (is_some A) (is_some B) h).1
some_text (reads_nothing {p} {K}) h = absurd (false≢true h)
some_text (reads_some {p} {K} {s} {x} r) h = absurd (false≢true h)
some_text (reads_zero {K} {t} {y} s d v r) h = some_front s t (digits_some 0 4294967295 s (number 0) v)
some_text (reads_status {K} s n d v) h = digits_some 0 4294967295 s (number (suc n)) v
some_text (reads_given {K} {s} {x} n r) h = some_text r h
some_text (reads_such {f} {K} {s} {x} r e) h = some_text r h

word_led : (w : Word) (s : Text) (x : Value) (p : ℕ → Bool) → all_pass (holds w) s ≡ true → word_value w s ≡ Some x → leads (word w) p ≡ true → ends p s ≡ true
word_led (digits low high) s x p d v h = begins_ends p s (digits_begin p low high s x h d v)
word_led (pairs n) s x p d v h = absurd (false≢true h)
word_led (run least most) s x p d v h = absurd (false≢true h)
word_led (inner most) s x p d v h = absurd (false≢true h)
word_led (named least most) s x p d v h = absurd (false≢true h)
word_led (shown least most) s x p d v h = absurd (false≢true h)
word_led all s x p d v h = absurd (false≢true h)

said_led : (t s : Text) (K : Kind) (p : ℕ → Bool) → (leads K p ≡ true → ends p s ≡ true) → said_leads t (leads K p) p ≡ true → ends p (t ++ s) ≡ true
said_led [] s K p f h = f h
said_led (b ∷ t) s K p f h = h

not_both : (b : Bool) → b ≡ true → b ≡ false → ⊥
not_both b h k = false≢true (sym k ∙ h)

row_led : (A B : Kind) (s t : Text) (p : ℕ → Bool) → (is_some A ≡ true → is_some_text s ≡ true) → ends p s ≡ true → (leads B p ≡ true → ends p t ≡ true) → (is_some A || leads B p) ≡ true → ends p (s ++ t) ≡ true
row_led A B s t p some first more h = ends_both p s t first (λ empty. by_test (is_some A) refl empty h)
  where
    by_test : (b : Bool) → is_some A ≡ b → is_some_text s ≡ false → (b || leads B p) ≡ true → ends p t ≡ true
    by_test true e empty h = absurd (not_both (is_some_text s) (some e) empty)
    by_test false e empty h = more h

pub led : {K : Kind} {s : Text} {x : Value} → Reads K s x → (p : ℕ → Bool) → leads K p ≡ true → ends p s ≡ true
led reads_void p h = refl
led (reads_word {w} {x} s a v) p h = word_led w s x p a v h
led (reads_said {K} {s} {x} t r) p h = said_led t s K p (led r p) h
led (reads_between {K} {s} {x} a b r) p h = h
led (reads_row {A} {B} {s} {t} {x} {y} q r) p h =
    let k = and_parts (leads A p) (is_some A || leads B p) h in
    row_led A B s t p (some_text q) (led q p k.0) (led r p) k.1
led (reads_end most c {K}) p h = refl
led (reads_more {most} {c} {K} {s} {t} {x} {y} q r) p h = h
led (reads_choice {names} {arm} {s} {x} t n e r) p h =
    begins_ends p (t ++ s) (begins_more p t s (place_passes (begins p) 0 t names n h e).0)
led (reads_first {p = q} {A} {B} {s} {x} r) p h = led r p (and_parts (leads A p) (leads B p) h).0
led (reads_other {p = q} {A} {B} {s} {x} r) p h = led r p (and_parts (leads A p) (leads B p) h).1
led (reads_nothing {p = q} {K}) p h = refl
led (reads_some {p = q} {K} {s} {x} r) p h = led r p h
led (reads_zero {K} {t} {y} s d v r) p h = begins_ends p (s ++ t) (begins_more p s t (digits_begin p 0 4294967295 s (number 0) h d v))
led (reads_status {K} s n d v) p h = begins_ends p s (digits_begin p 0 4294967295 s (number (suc n)) h d v)
led (reads_given {K} {s} {x} n r) p h = led r p h
led (reads_such {f} {K} {s} {x} r e) p h = led r p h

-- a text and what follows it, where the text may be empty
pub ends_behind : (K : Kind) (s more : Text) (x : Value) (p : ℕ → Bool) → Reads K s x → leads K p ≡ true → (is_some K ≡ false → ends p more ≡ true) → ends p (s ++ more) ≡ true
ends_behind K s more x p r h k = ends_both p s more (led r p h) (λ empty. by_test (is_some K) refl empty)
  where
    by_test : (b : Bool) → is_some K ≡ b → is_some_text s ≡ false → ends p more ≡ true
    by_test true e empty = absurd (not_both (is_some_text s) (some_text r e) empty)
    by_test false e empty = k e
