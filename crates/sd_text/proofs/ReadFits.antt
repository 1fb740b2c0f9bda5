-- What is read is within the limits.
use Rattle.std.proofs.Common.{◌≡◌, ◌⊎◌, ℕ, zero, suc, ◌+◌, ◌-◌, ◌<◌, ◌≤◌, ◌^◌, Bool, true, false, cond, not, ◌&&◌, eqb, nat_le, nat_lt, List, [], ◌∷◌, ◌++◌, length, get_or, replicate, Option, Some, None, Ok, refl, sym, ap, subst, ◌∙◌, arith, inl, inr}
use Rattle.std.specs.Fmt.{decimal}
use Rattle.std.proofs.lemmas.Bool.{and_parts, false≢true, cases_lt}
use Rattle.std.proofs.lemmas.List.{get_or-replicate, get_or_past, get_or_append_left, get_or-append-add, length-replicate}
use Rattle.hex.specs.Hex.{encode_lower, IsBytes, decode_of}
use Rattle.hex.proofs.HexLemmas.{decode_of-ok}
use Rattle.sd_xdr.specs.Kind.{Value, none, number, bytes, ◌⊗◌, number_of, bytes_of, first, second}
use Rattle.sd_text.specs.Texts.{Text, cut, IsNumber}
use Rattle.sd_text.specs.Runs.{Item, pairs, repeated, IsItem, item_bytes, IsItems, IsRuns}
use Rattle.sd_text.specs.Kind as kinds
use Rattle.sd_text.specs.Kind.{is_low_hex, is_name, is_shown, all_pass, place_from, place_in, name_at, Word, digits, run, inner, named, shown, all, holds, Kind, void, word, said, between, ◌&◌, many, choice, fork, maybe, where_zero, given, such, is_bounded_word, is_bounded}
use Rattle.sd_text.specs.Grammar.{when, sized, word_value, number_value, pairs_value, run_value, is_plain, is_escape, hex_value, hex_byte, onto, inner_value, Reads, reads_void, reads_word, reads_said, reads_between, reads_row, reads_end, reads_more, reads_choice, reads_first, reads_other, reads_nothing, reads_some, reads_zero, reads_status, reads_given, reads_such, WordFits, EachFits, MaybeFits, Either, AtZero, HasText}
use Rattle.sd_text.specs.Laws.{ReadHasText}
use Rattle.sd_text.proofs.Leading.{below_at}
use Rattle.sd_text.proofs.Meanings.{is_number, is_pairs}
use Rattle.sd_text.proofs.OneText.{when_is, sized_is, NameAt, place_name}
use Rattle.sd_text.proofs.RunWords.{is_run}

leb-le : (a b : ℕ) → nat_le a b ≡ true → a ≤ b
leb-le a b h = grind arith

ltb-lt : (a b : ℕ) → nat_lt a b ≡ true → a < b
ltb-lt a b h = grind arith

-- ---- bytes between quotation marks

in_front : (b : ℕ) (bs : List ℕ) → b < 256 → IsBytes bs → IsBytes (b ∷ bs)
in_front b bs h k zero = h
in_front b bs h k (suc i) = k i

plain_small : (b : ℕ) → is_plain b ≡ true → b < 256
plain_small b h = grind arith

digit_small : (d : ℕ) → is_low_hex d ≡ true → hex_value d < 16
digit_small d h = grind arith

escape_small : (b c d : ℕ) → is_escape b c d ≡ true → hex_byte c d < 256
escape_small b c d h =
    let p = and_parts (eqb b 92) (is_low_hex c && (is_low_hex d && not (is_plain (hex_byte c d)))) h in
    let q = and_parts (is_low_hex c) (is_low_hex d && not (is_plain (hex_byte c d))) p.1 in
    let r = and_parts (is_low_hex d) (not (is_plain (hex_byte c d))) q.1 in
    omega (arith, digit_small c q.0, digit_small d r.0)

-- the bytes of these, if there are some, are bytes
abbrev AreSmall : Option (List ℕ) → Type 0
AreSmall None = Unit {0}
AreSmall (Some bs) = IsBytes bs

onto_small : (b : ℕ) (o : Option (List ℕ)) → b < 256 → AreSmall o → AreSmall (onto b o)
onto_small b None h k = tt
onto_small b (Some bs) h k = in_front b bs h k

plain_onto : (b : ℕ) (o : Option (List ℕ)) (v : Bool) → is_plain b ≡ v → AreSmall o → AreSmall (cond v (onto b o) None)
plain_onto b o true e k = onto_small b o (plain_small b e) k
plain_onto b o false e k = tt

escape_onto : (b c d : ℕ) (o p : Option (List ℕ)) (v w : Bool) → is_plain b ≡ v → is_escape b c d ≡ w → AreSmall o → AreSmall p
    → AreSmall (cond v (onto b o) (cond w (onto (hex_byte c d) p) None))
escape_onto b c d o p true w e f k l = onto_small b o (plain_small b e) k
escape_onto b c d o p false true e f k l = onto_small (hex_byte c d) p (escape_small b c d f) l
escape_onto b c d o p false false e f k l = tt

inner_small : (t : Text) → AreSmall (inner_value t)
unfolding inner_value
inner_small [] = λ i. omega arith
inner_small (b ∷ []) = plain_onto b (inner_value []) (is_plain b) refl (inner_small [])
inner_small (b ∷ c ∷ []) = plain_onto b (inner_value (c ∷ [])) (is_plain b) refl (inner_small (c ∷ []))
inner_small (b ∷ c ∷ d ∷ t) = escape_onto b c d (inner_value (c ∷ d ∷ t)) (inner_value t) (is_plain b) (is_escape b c d) refl refl (inner_small (c ∷ d ∷ t)) (inner_small t)

-- ---- byte runs

both_small : (a b : List ℕ) → IsBytes a → IsBytes b → IsBytes (a ++ b)
both_small [] b h k = k
both_small (x ∷ a) b h k = in_front x (a ++ b) (h 0) (both_small a b (λ i. h (suc i)) k)

same_small : (n b : ℕ) → b < 256 → IsBytes (replicate n b)
same_small zero b h = λ i. omega arith
same_small (suc n) b h = in_front b (replicate n b) h (same_small n b h)

item_small : (item : Item) → IsItem item → IsBytes (item_bytes item)
item_small (pairs bs) h = h.1
item_small (repeated b n) h = same_small n b h.0

items_small : (ts : List Text) (bs : List ℕ) → IsItems ts bs → IsBytes bs
items_small [] bs h = subst IsBytes (sym h) (λ i. omega arith)
items_small (t ∷ ts) bs h = subst IsBytes (sym h.4) (both_small (item_bytes h.0) h.1 (item_small h.0 h.2) (items_small ts h.1 h.5))

runs_small : (t : Text) (bs : List ℕ) → IsRuns t bs → IsBytes bs
runs_small t bs (inl dash) = subst IsBytes (sym dash.1) (λ i. omega arith)
runs_small t bs (inr items) = items_small (cut 46 t) bs items

-- ---- words

word_fits : (w : Word) (s : Text) (x : Value) → is_bounded_word w ≡ true → all_pass (holds w) s ≡ true → word_value w s ≡ Some x → WordFits w x
word_fits (digits low high) s x b a v =
    let n = is_number low high s x (ltb-lt high 18446744073709551616 b) v in
    subst (WordFits (digits low high)) (sym n.1) (refl, n.2.low, n.2.high, n.2.fits)
word_fits (kinds.pairs n) s x b a v =
    let i = sized_is (λ k. eqb k n) (pairs_value s) x v in
    let p = is_pairs s i.0 i.1 in
    subst (WordFits (kinds.pairs n)) i.2 (refl, (decode_of-ok s i.0 p.1).3, wide i.0 v i.1)
  where
    exact : (k n : ℕ) → eqb k n ≡ true → k ≡ n
    exact k n h = grind (arith, h)

    wide : (bs : List ℕ) → sized (λ k. eqb k n) (pairs_value s) ≡ Some x → pairs_value s ≡ Some bs → length bs ≡ n
    wide bs v e = exact (length bs) n (when_is (eqb (length bs) n) (bytes bs) x (sym (ap (sized (λ k. eqb k n)) e) ∙ v)).0
word_fits (run least most) s x b a v =
    let i = sized_is (λ k. nat_le least k && nat_le k most) (run_value s) x v in
    let w = when_is (nat_le least (length i.0) && nat_le (length i.0) most) (bytes i.0) x (sym (ap (sized (λ k. nat_le least k && nat_le k most)) i.1) ∙ v) in
    let p = and_parts (nat_le least (length i.0)) (nat_le (length i.0) most) w.0 in
    let above = leb-le (length i.0) most p.1 in
    subst (WordFits (run least most)) i.2 (refl, runs_small s i.0 (is_run s i.0 i.1), leb-le least (length i.0) p.0, above, omega (arith, above, ltb-lt most 18446744073709551616 b))
word_fits (inner most) s x b a v =
    let i = sized_is (λ k. nat_le k most) (inner_value s) x v in
    let w = when_is (nat_le (length i.0) most) (bytes i.0) x (sym (ap (sized (λ k. nat_le k most)) i.1) ∙ v) in
    subst (WordFits (inner most)) i.2 (refl, subst AreSmall i.1 (inner_small s), leb-le (length i.0) most w.0)
word_fits (named least most) s x b a v =
    let w = when_is (nat_le least (length s) && nat_le (length s) most) (bytes s) x v in
    let p = and_parts (nat_le least (length s)) (nat_le (length s) most) w.0 in
    subst (WordFits (named least most)) w.1 (refl, a, leb-le least (length s) p.0, leb-le (length s) most p.1)
word_fits (shown least most) s x b a v =
    let w = when_is (nat_le least (length s) && nat_le (length s) most) (bytes s) x v in
    let p = and_parts (nat_le least (length s)) (nat_le (length s) most) w.0 in
    subst (WordFits (shown least most)) w.1 (refl, a, leb-le least (length s) p.0, leb-le (length s) most p.1)
word_fits all s x b a v = let same : bytes s ≡ x = cc v in subst (WordFits all) same (refl, a)

-- ---- kinds

maybe_fits : (F : Value → Type 0) (x : Value) → F x → MaybeFits F x
maybe_fits F none h = tt
maybe_fits F (number n) h = h
maybe_fits F (bytes bs) h = h
maybe_fits F (x ⊗ y) h = h

status_fits : (s : Text) (n : ℕ) → number_value 0 4294967295 s ≡ Some (number (suc n)) → suc n ≤ 4294967295
status_fits s n v =
    let i = is_number 0 4294967295 s (number (suc n)) (omega arith) v in
    omega (arith, ap number_of i.1, i.2.high)

fits : {K : Kind} {s : Text} {x : Value} → Reads K s x → is_bounded K ≡ true → HasText K x
fits reads_void b = refl
fits (reads_word {w} {x} s a v) b = word_fits w s x b a v
fits (reads_said {K} {s} {x} t r) b = fits r b
fits (reads_between {K} {s} {x} c d r) b = fits r b
fits (reads_row {A} {B} {s} {t} {x} {y} q r) b =
    let p = and_parts (is_bounded A) (is_bounded B) b in
    (refl, fits q p.0, fits r p.1)
fits (reads_end most c {K}) b = tt
fits (reads_more {most} {c} {K} {s} {t} {x} {y} q r) b = (fits q b, fits r b)
fits (reads_choice {names} {arm} {s} {x} t n e r) b =
    let a = place_name 0 t names n e in
    let place : a.place ≡ n = omega (arith, a.sum) in
    let below : n < length names = omega (arith, a.sum, a.below) in
    let is : t ≡ name_at names n = sym a.is ∙ ap (name_at names) place in
    (refl, ap (λ (u : Text). place_in u names) (sym is) ∙ e, fits r (below_at (length names) (λ i. is_bounded (arm i)) n b below))
fits (reads_first {p} {A} {B} {s} {x} r) b = (refl, fits r (and_parts (is_bounded A) (is_bounded B) b).0)
fits (reads_other {p} {A} {B} {s} {x} r) b = (refl, fits r (and_parts (is_bounded A) (is_bounded B) b).1)
fits (reads_nothing {p} {K}) b = tt
fits (reads_some {p} {K} {s} {x} r) b = maybe_fits (HasText K) x (fits r b)
fits (reads_zero {K} {t} {y} s d v r) b = (refl, omega arith, fits r b)
fits (reads_status {K} s n d v) b = (refl, status_fits s n v, refl)
fits (reads_given {K} {s} {x} n r) b = (refl, fits r b)
fits (reads_such {f} {K} {s} {x} r e) b = (fits r b, e)

pub read_has_text : ReadHasText
read_has_text K s x b r = fits r b
