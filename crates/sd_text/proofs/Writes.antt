-- What is written is read as that value.
use Rattle.std.proofs.Common.{◌≡◌, ◌≢◌, ◌⊎◌, ℕ, zero, suc, ◌+◌, ◌*◌, ◌/◌, ◌%◌, ◌<◌, ◌≤◌, ◌^◌, Bool, true, false, cond, not, ◌&&◌, ◌||◌, eqb, nat_le, List, [], ◌∷◌, ◌++◌, length, map, get_or, slice_index, Option, Some, None, Ok, refl, sym, ap, subst, ◌∙◌, arith, inl, inr}
use Rattle.std.specs.List.{All, AllByRecursion, concat, join_with_byte}
use Rattle.std.specs.Int.{IsInRange}
use Rattle.std.specs.Fmt.{decimal}
use Rattle.std.proofs.lemmas.Bool.{and_from, and_parts, or_parts, cases_Bool, false≢true, eq-eqb, ne_eqb, eqb-true, eqb-false, not-true, not_from_false, agree_below_at, cases_lt}
use Rattle.std.proofs.lemmas.List.{get_or_default, append-nil}
use Rattle.std.proofs.lemmas.Fmt.{decimal_is_IsNumeral}
use Rattle.std.proofs.lemmas.Str.Parse.{digit_at}
use Rattle.hex.specs.Hex.{encode_lower, lower_digits, IsBytes, decode_of}
use Rattle.hex.proofs.HexLemmas.{decode_of-encode_lower}
use Rattle.sd_xdr.specs.Kind.{Value, none, number, bytes, ◌⊗◌, number_of, bytes_of, first, second}
use Rattle.sd_text.specs.Runs.{item_text, normal_items, runs_text}
use Rattle.sd_text.proofs.HexCase.{encoded_lower}
use Rattle.sd_text.proofs.ItemLemmas.{pair_text}
use Rattle.sd_text.proofs.ReadBack.{Lacks, runs_again, join_lacks, items_lack, normal_are}
use Rattle.sd_text.specs.Texts.{Text}
use Rattle.sd_text.specs.Kind.{is_digit, is_low_hex, is_name, is_shown, is_run, all_pass, place_in, name_at, Word, digits, pairs, run, inner, named, shown, all, holds, Kind, void, word, said, between, ◌&◌, many, choice, fork, maybe, where_zero, given, such}
use Rattle.sd_text.specs.Grammar.{when, sized, word_value, number_value, is_plain, escaped, is_escape, hex_value, hex_byte, onto, inner_value, word_text, many_text, maybe_text, writes, Reads, reads_void, reads_word, reads_said, reads_between, reads_row, reads_end, reads_more, reads_choice, reads_first, reads_other, reads_nothing, reads_some, reads_zero, reads_status, reads_given, reads_such, WordFits, EachFits, MaybeFits, Either, AtZero, HasText}
use Rattle.sd_text.specs.Laws.{WrittenIsRead}
use Rattle.sd_text.proofs.Meanings.{number_is, pairs_is}
use Rattle.sd_text.proofs.RunWords.{run_is}
use Rattle.sd_text.proofs.InnerBytes.{inner_plain, inner_escape}

-- ---- all bytes of a text

pub pass_all : (p : ℕ → Bool) (s : Text) → All (λ b. p b ≡ true) s → all_pass p s ≡ true
pass_all p [] h = refl
pass_all p (b ∷ s) h = and_from (p b) (all_pass p s) (h 0 0 (omega arith)) (pass_all p s (λ i d lt. h (suc i) d (omega (arith, lt))))

pub pass_both : (p : ℕ → Bool) (s t : Text) → all_pass p s ≡ true → all_pass p t ≡ true → all_pass p (s ++ t) ≡ true
pass_both p [] t h k = k
pass_both p (b ∷ s) t h k = let f = and_parts (p b) (all_pass p s) h in and_from (p b) (all_pass p (s ++ t)) f.0 (pass_both p s t f.1 k)

pub pass_weaker : (p q : ℕ → Bool) (s : Text) → ((b : ℕ) → p b ≡ true → q b ≡ true) → all_pass p s ≡ true → all_pass q s ≡ true
pass_weaker p q [] f h = refl
pass_weaker p q (b ∷ s) f h = let g = and_parts (p b) (all_pass p s) h in and_from (q b) (all_pass q s) (f b g.0) (pass_weaker p q s f g.1)

le-leb : (a b : ℕ) → a ≤ b → nat_le a b ≡ true
le-leb a b h = grind arith

-- ---- words

decimal_digits : (n : ℕ) → n < 2 ^ 64 → all_pass is_digit (decimal n) ≡ true
decimal_digits n small = pass_all is_digit (decimal n) (λ k d h.
    let range : IsInRange 48 57 (get_or (decimal n) k 0) = digit_at (decimal n) k (decimal_is_IsNumeral n small).0.1 h in
    let same = get_or_default (decimal n) k d 0 h in
    and_from (nat_le 48 (get_or (decimal n) k d)) (nat_le (get_or (decimal n) k d) 57)
    (le-leb 48 (get_or (decimal n) k d) (omega (arith, range.0, same))) (le-leb (get_or (decimal n) k d) 57 (omega (arith, range.1, same))))

hex_digits : (bs : List ℕ) → IsBytes bs → all_pass is_low_hex (encode_lower bs) ≡ true
hex_digits bs small = pass_all is_low_hex (encode_lower bs) (encoded_lower bs small)

-- a byte that stands in no byte run
other_byte : (c : ℕ) → is_run c ≡ false → (is_low_hex c ≡ false) × ((c < 48) ⊎ (57 < c)) × (c ≢ 42) × (eqb 46 c ≡ false)
other_byte c h =
    let a = or_parts (is_low_hex c || eqb c 46 || eqb c 42) (eqb c 45) h in
    let b = or_parts (is_low_hex c || eqb c 46) (eqb c 42) a.0 in
    let d = or_parts (is_low_hex c) (eqb c 46) b.0 in
    (d.0, outside c (or_parts (is_digit c) (nat_le 97 c && nat_le c 102) d.0).0, eqb-false c 42 b.1, ne_eqb 46 c (λ e. eqb-false c 46 d.1 (sym e)))
  where
    lt-leb : (a b : ℕ) → a ≤ b → nat_le a b ≡ true
    lt-leb a b h = grind arith

    outside : (c : ℕ) → is_digit c ≡ false → (c < 48) ⊎ (57 < c)
    outside c h = elim (cases_lt c 48) [
      | inl low ↦ inl low
      | inr high ↦ elim (cases_lt 57 c) [
        | inl above ↦ inr above
        | inr below ↦ absurd (false≢true (sym h ∙ and_from (nat_le 48 c) (nat_le c 57) (lt-leb 48 c high) (lt-leb c 57 below)))
      ]
    ]

pass_by_lack : (s : Text) → ((c : ℕ) → is_run c ≡ false → Lacks c s) → all_pass is_run s ≡ true
pass_by_lack s f = pass_all is_run s (λ k d h. elim (cases_Bool (is_run (get_or s k d))) [
  | inl stands ↦ stands
  | inr other ↦ absurd (false≢true (sym (f (get_or s k d) other k d h) ∙ eq-eqb (get_or s k d) (get_or s k d) refl))
])

run_bytes : (bs : List ℕ) → IsBytes bs → length bs < 2 ^ 64 → all_pass is_run (runs_text bs) ≡ true
run_bytes [] small short = refl
run_bytes (b ∷ bs) small short = pass_by_lack (runs_text (b ∷ bs)) (λ c other.
    let o = other_byte c other in
    join_lacks c 46 (map item_text (normal_items (b ∷ bs))) o.3 (items_lack c (normal_items (b ∷ bs)) (normal_are (b ∷ bs) small short) o.0 o.1 o.2))

-- ---- between quotation marks

digit : ℕ → ℕ
digit n = slice_index lower_digits n

digit_low : (n : ℕ) → n < 16 → is_low_hex (digit n) ≡ true
unfolding digit
digit_low n h = agree_below_at (λ k. is_low_hex (slice_index lower_digits k)) (λ k. true) 16 n refl h

digit_back : (n : ℕ) → n < 16 → hex_value (digit n) ≡ n
unfolding digit
digit_back n h = eqb-true (hex_value (slice_index lower_digits n)) n (agree_below_at (λ k. eqb (hex_value (slice_index lower_digits k)) k) (λ k. true) 16 n refl h)

digits_of : (b : ℕ) → encode_lower (b ∷ []) ≡ digit (b / 16) ∷ digit (b % 16) ∷ []
unfolding digit
digits_of b = pair_text b

byte_back : (b : ℕ) → b < 256 → hex_byte (digit (b / 16)) (digit (b % 16)) ≡ b
byte_back b small =
    let h = digit_back (b / 16) (omega (arith, small)) in
    let l = digit_back (b % 16) (omega arith) in
    ap (λ (v : ℕ). 16 * v + hex_value (digit (b % 16))) h ∙ ap (λ (v : ℕ). 16 * (b / 16) + v) l ∙ omega arith

plain_no_mark : (b : ℕ) → is_plain b ≡ true → not (eqb b 34) ≡ true
plain_no_mark b h = (and_parts (nat_le 32 b && nat_le b 126) (not (eqb b 34)) (and_parts (nat_le 32 b && nat_le b 126 && not (eqb b 34)) (not (eqb b 92)) h).0).1

low_no_mark : (b : ℕ) → is_low_hex b ≡ true → not (eqb b 34) ≡ true
low_no_mark b h = not_from_false (eqb b 34) (ne_eqb b 34 (λ e. false≢true (ap is_low_hex (sym e) ∙ h)))

escaped_plain : (b : ℕ) → is_plain b ≡ true → escaped b ≡ b ∷ []
escaped_plain b h = ap (λ (v : Bool). cond v (b ∷ []) (92 ∷ encode_lower (b ∷ []))) h

escaped_hidden : (b : ℕ) → is_plain b ≡ false → escaped b ≡ 92 ∷ digit (b / 16) ∷ digit (b % 16) ∷ []
escaped_hidden b h = ap (λ (v : Bool). cond v (b ∷ []) (92 ∷ encode_lower (b ∷ []))) h ∙ ap (λ (t : Text). 92 ∷ t) (digits_of b)

escaped_bytes : (b : ℕ) → b < 256 → all_pass (λ b. not (eqb b 34)) (escaped b) ≡ true
escaped_bytes b small = elim (cases_Bool (is_plain b)) [
  | inl plain ↦ subst (λ (t : Text). all_pass (λ b. not (eqb b 34)) t ≡ true) (sym (escaped_plain b plain)) (and_from (not (eqb b 34)) true (plain_no_mark b plain) refl)
  | inr hidden ↦ subst (λ (t : Text). all_pass (λ b. not (eqb b 34)) t ≡ true) (sym (escaped_hidden b hidden))
      (and_from (not (eqb (digit (b / 16)) 34)) (not (eqb (digit (b % 16)) 34) && true) (low_no_mark (digit (b / 16)) (digit_low (b / 16) (omega (arith, small))))
      (and_from (not (eqb (digit (b % 16)) 34)) true (low_no_mark (digit (b % 16)) (digit_low (b % 16) (omega arith))) refl))
]

inner_bytes : (bs : List ℕ) → IsBytes bs → all_pass (λ b. not (eqb b 34)) (concat (map escaped bs)) ≡ true
inner_bytes [] small = refl
inner_bytes (b ∷ bs) small = pass_both (λ b. not (eqb b 34)) (escaped b) (concat (map escaped bs)) (escaped_bytes b (small 0)) (inner_bytes bs (λ i. small (suc i)))

byte_again : (b : ℕ) (t : Text) → b < 256 → inner_value (escaped b ++ t) ≡ onto b (inner_value t)
byte_again b t small = elim (cases_Bool (is_plain b)) [
  | inl plain ↦ ap (λ (s : Text). inner_value (s ++ t)) (escaped_plain b plain) ∙ inner_plain b t plain
  | inr hidden ↦
      let high = digit (b / 16) in
      let low = digit (b % 16) in
      let back = byte_back b small in
      let test : is_escape 92 (digit (b / 16)) (digit (b % 16)) ≡ true =
      and_from (is_low_hex (digit (b / 16))) (is_low_hex (digit (b % 16)) && not (is_plain (hex_byte (digit (b / 16)) (digit (b % 16)))))
      (digit_low (b / 16) (omega (arith, small)))
      (and_from (is_low_hex (digit (b % 16))) (not (is_plain (hex_byte (digit (b / 16)) (digit (b % 16))))) (digit_low (b % 16) (omega arith))
      (not_from_false (is_plain (hex_byte (digit (b / 16)) (digit (b % 16)))) (ap is_plain back ∙ hidden))) in
      ap (λ (s : Text). inner_value (s ++ t)) (escaped_hidden b hidden)
      ∙ inner_escape 92 (digit (b / 16)) (digit (b % 16)) t true refl test
      ∙ ap (λ (n : ℕ). onto n (inner_value t)) back
]

inner_again : (bs : List ℕ) → IsBytes bs → inner_value (concat (map escaped bs)) ≡ Some bs
unfolding inner_value
inner_again [] small = refl
inner_again (b ∷ bs) small = byte_again b (concat (map escaped bs)) (small 0) ∙ ap (onto b) (inner_again bs (λ i. small (suc i)))

-- ---- what is written for a word

bounds : (least most n : ℕ) → least ≤ n → n ≤ most → (nat_le least n && nat_le n most) ≡ true
bounds least most n a b = and_from (nat_le least n) (nat_le n most) (le-leb least n a) (le-leb n most b)

pub word_written : (w : Word) (x : Value) → WordFits w x → Reads (word w) (word_text w x) x
word_written (digits low high) x h =
    reads_word (decimal (number_of x)) (decimal_digits (number_of x) h.3)
    (number_is low high (decimal (number_of x)) (number_of x) (record { is = refl; low = h.1; high = h.2; fits = h.3 }) ∙ ap (λ (v : Value). Some v) (sym h.0))
word_written (pairs n) x h =
    reads_word (encode_lower (bytes_of x)) (hex_digits (bytes_of x) h.1)
    (ap (sized (λ k. eqb k n)) (pairs_is (encode_lower (bytes_of x)) (bytes_of x) (decode_of-encode_lower (bytes_of x) h.1) refl)
    ∙ ap (λ (b : Bool). when b (bytes (bytes_of x))) (eq-eqb (length (bytes_of x)) n h.2) ∙ ap (λ (v : Value). Some v) (sym h.0))
word_written (run least most) x h =
    reads_word (runs_text (bytes_of x)) (run_bytes (bytes_of x) h.1 h.4)
    (ap (sized (λ k. nat_le least k && nat_le k most)) (run_is (runs_text (bytes_of x)) (bytes_of x) (runs_again (bytes_of x) h.1 h.4))
    ∙ ap (λ (b : Bool). when b (bytes (bytes_of x))) (bounds least most (length (bytes_of x)) h.2 h.3) ∙ ap (λ (v : Value). Some v) (sym h.0))
word_written (inner most) x h =
    reads_word (concat (map escaped (bytes_of x))) (inner_bytes (bytes_of x) h.1)
    (ap (sized (λ k. nat_le k most)) (inner_again (bytes_of x) h.1)
    ∙ ap (λ (b : Bool). when b (bytes (bytes_of x))) (le-leb (length (bytes_of x)) most h.2) ∙ ap (λ (v : Value). Some v) (sym h.0))
word_written (named least most) x h =
    reads_word (bytes_of x) h.1 (ap (λ (b : Bool). when b (bytes (bytes_of x))) (bounds least most (length (bytes_of x)) h.2 h.3) ∙ ap (λ (v : Value). Some v) (sym h.0))
word_written (shown least most) x h =
    reads_word (bytes_of x) h.1 (ap (λ (b : Bool). when b (bytes (bytes_of x))) (bounds least most (length (bytes_of x)) h.2 h.3) ∙ ap (λ (v : Value). Some v) (sym h.0))
word_written all x h = reads_word (bytes_of x) h.1 (ap (λ (v : Value). Some v) (sym h.0))

-- ---- what is written for a kind

many_written : (K : Kind) (c : ℕ) → ((x : Value) → HasText K x → Reads K (writes K x) x) → (most : ℕ) (x : Value) → EachFits (HasText K) most x → Reads (many most c K) (many_text c (writes K) x) x
many_written K c one most none h = reads_end most c
many_written K c one most (number n) h = absurd h
many_written K c one most (bytes bs) h = absurd h
many_written K c one zero (x ⊗ y) h = absurd h
many_written K c one (suc most) (x ⊗ y) h = reads_more (one x h.0) (many_written K c one most y h.1)

maybe_written : (p : ℕ → Bool) (K : Kind) → ((x : Value) → HasText K x → Reads K (writes K x) x) → (x : Value) → MaybeFits (HasText K) x → Reads (maybe p K) (maybe_text (writes K) x) x
maybe_written p K one none h = reads_nothing
maybe_written p K one (number n) h = reads_some (one (number n) h)
maybe_written p K one (bytes bs) h = reads_some (one (bytes bs) h)
maybe_written p K one (x ⊗ y) h = reads_some (one (x ⊗ y) h)

fork_written : (p : ℕ → Bool) (A B : Kind) (n : ℕ) (s t : Text) (y : Value) → Either n (Reads A s y) (Reads B t y) → Reads (fork p A B) (cond (eqb n 0) s t) (number n ⊗ y)
fork_written p A B zero s t y h = reads_first h
fork_written p A B (suc zero) s t y h = reads_other h
fork_written p A B (suc (suc n)) s t y h = absurd h

both_ways : (n : ℕ) (P Q R S : Type 0) → (P → R) → (Q → S) → Either n P Q → Either n R S
both_ways zero P Q R S f g h = f h
both_ways (suc zero) P Q R S f g h = g h
both_ways (suc (suc n)) P Q R S f g h = h

number_again : (n : ℕ) → n ≤ 4294967295 → number_value 0 4294967295 (decimal n) ≡ Some (number n)
number_again n h = number_is 0 4294967295 (decimal n) n (record { is = refl; low = omega arith; high = h; fits = omega (arith, h) })

eqb_suc : (n : ℕ) → eqb (suc n) 0 ≡ false
eqb_suc n = grind arith

status_written : (K : Kind) (n : ℕ) (t : Text) (y : Value) → n ≤ 4294967295 → AtZero n (Reads K t y) (y ≡ none) → Reads (where_zero K) (decimal n ++ cond (eqb n 0) t []) (number n ⊗ y)
status_written K zero t y le h = reads_zero (decimal 0) (decimal_digits 0 (omega arith)) (number_again 0 le) h
status_written K (suc n) t y le h =
    let s : Reads (where_zero K) (decimal (suc n)) (number (suc n) ⊗ none) = reads_status (decimal (suc n)) n (decimal_digits (suc n) (omega (arith, le))) (number_again (suc n) le) in
    subst (λ (u : Text). Reads (where_zero K) (decimal (suc n) ++ u) (number (suc n) ⊗ y)) (sym (ap (λ (b : Bool). cond b t []) (eqb_suc n)))
    (subst (λ (u : Text). Reads (where_zero K) u (number (suc n) ⊗ y)) (sym (append-nil (decimal (suc n)))) (subst (λ (v : Value). Reads (where_zero K) (decimal (suc n)) (number (suc n) ⊗ v)) (sym h) s))

at_zero : (n : ℕ) (P Q R : Type 0) → (P → R) → AtZero n P Q → AtZero n R Q
at_zero zero P Q R f h = f h
at_zero (suc n) P Q R f h = h

pub written_is_read : WrittenIsRead
unfolding writes
written_is_read void x h = subst (λ (v : Value). Reads void [] v) (sym h) reads_void
written_is_read (word w) x h = word_written w x h
written_is_read (said t K) x h = reads_said t (written_is_read K x h)
written_is_read (between a K b) x h = reads_between a b (written_is_read K x h)
written_is_read (A & B) x h = subst (λ (v : Value). Reads (A & B) (writes A (first x) ++ writes B (second x)) v) (sym h.0) (reads_row (written_is_read A (first x) h.1) (written_is_read B (second x) h.2))
written_is_read (many most c K) x h = many_written K c (written_is_read K) most x h
written_is_read (choice names arm) x h =
    let n = number_of (first x) in
    subst (λ (v : Value). Reads (choice names arm) (name_at names (number_of (first x)) ++ writes (arm (number_of (first x))) (second x)) v) (sym h.0)
    (reads_choice (name_at names (number_of (first x))) (number_of (first x)) h.1 (written_is_read (arm (number_of (first x))) (second x) h.2))
written_is_read (fork p A B) x h =
    subst (λ (v : Value). Reads (fork p A B) (cond (eqb (number_of (first x)) 0) (writes A (second x)) (writes B (second x))) v) (sym h.0)
    (fork_written p A B (number_of (first x)) (writes A (second x)) (writes B (second x)) (second x)
    (both_ways (number_of (first x)) (HasText A (second x)) (HasText B (second x)) (Reads A (writes A (second x)) (second x)) (Reads B (writes B (second x)) (second x)) (written_is_read A (second x)) (written_is_read B (second x)) h.1))
written_is_read (maybe p K) x h = maybe_written p K (written_is_read K) x h
written_is_read (where_zero K) x h =
    subst (λ (v : Value). Reads (where_zero K) (decimal (number_of (first x)) ++ cond (eqb (number_of (first x)) 0) (writes K (second x)) []) v) (sym h.0)
    (status_written K (number_of (first x)) (writes K (second x)) (second x) h.1
    (at_zero (number_of (first x)) (HasText K (second x)) (second x ≡ none) (Reads K (writes K (second x)) (second x)) (written_is_read K (second x)) h.2))
written_is_read (given n K) x h = subst (λ (v : Value). Reads (given n K) (writes K (second x)) v) (sym h.0) (reads_given n (written_is_read K (second x) h.1))
written_is_read (such f K) x h = reads_such (written_is_read K x h.0) h.1
