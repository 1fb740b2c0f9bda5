-- Hexadecimal digits in lower case.
use Rattle.std.proofs.Common.{◌≡◌, ℕ, suc, ◌+◌, ◌*◌, ◌/◌, ◌%◌, ◌<◌, ◌==◌, Bool, true, cond, List, [], ◌∷◌, length, slice_index, Option, Some, None, unwrap_or, Result, Ok, Err, refl, sym, ap, ◌∙◌, arith}
use Rattle.std.specs.List.{AllPass}
use Rattle.std.specs.Result.{result_unwrap_or}
use Rattle.std.proofs.lemmas.Bool.{agree_below_at, eqb-true}
use Rattle.std.proofs.lemmas.List.Elements.{All-head, All-tail, All-cons, All-nil}
use Rattle.hex.specs.Hex.{IsBytes, decode_of, decode_pairs, digit_or_error, hex_digit_value, encode_lower, encode_with, lower_digits, pair_value, value_at, ◌>>=◌}
use Rattle.hex.specs.declared.error.FromHexError.{FromHexError}
use Rattle.hex.proofs.HexLemmas.{decode_of-ok, decode_of-even, length-encode_with}
use Rattle.sd_text.specs.Values.{is_lower_digit}

bind_ok : {A B : Type 0} (r : Result A FromHexError) (f : A → Result B FromHexError) (y : B) → (r >>= f) ≡ Ok y → (x : A) × (r ≡ Ok x) × (f x ≡ Ok y)
bind_ok (Ok x) f y h = (x, refl, h)
bind_ok (Err e) f y h = cc h

digit_read : (c i : ℕ) (o : Option ℕ) (v : ℕ) → digit_or_error c i o ≡ Ok v → o ≡ Some v
digit_read c i (Some w) v h = ap Some (ap (λ (r : Result ℕ FromHexError). result_unwrap_or r 0) h)
digit_read c i None v h = cc h

digit_small : (c v : ℕ) → hex_digit_value c ≡ Some v → v < 16
digit_small c v h = grind (arith)

-- whether a digit in lower case is the one in the table at the place of its value
abbrev stands : ℕ → Bool
stands c = cond (is_lower_digit c) (slice_index lower_digits (unwrap_or (hex_digit_value c) 99) == c) true

abbrev always : ℕ → Bool
always c = true

stands_at : (c : ℕ) → c < 256 → stands c ≡ true
stands_at c h = agree_below_at stands always 256 c refl h

digit_back : (c v : ℕ) → c < 256 → is_lower_digit c ≡ true → hex_digit_value c ≡ Some v → slice_index lower_digits v ≡ c
digit_back c v small low read =
    let test : (slice_index lower_digits v == c) ≡ true = rw (low, read) at (stands_at c small) in
    eqb-true _ _ test

-- what lower case digits decode to has them as its text
encode_back : (i : ℕ) (s bytes : List ℕ) → IsBytes s → AllPass is_lower_digit s → decode_pairs i s ≡ Ok bytes → encode_lower bytes ≡ s
unfolding decode_pairs encode_with
encode_back i [] bytes small low h =
    let e : [] ≡ bytes = ap (λ (r : Result (List ℕ) FromHexError). result_unwrap_or r []) h in
    rw (← e) refl
encode_back i (a ∷ []) bytes small low h = cc h
encode_back i (a ∷ b ∷ rest) bytes small low h =
    let p0 = bind_ok (pair_value a b i) _ bytes h in
    let p1 = bind_ok (value_at a i) _ p0.0 p0.1 in
    let p2 = bind_ok (value_at b (i + 1)) _ p0.0 p1.2 in
    let p3 = bind_ok (decode_pairs (i + 2) rest) _ bytes p0.2 in
    let tail = All-tail (λ c. is_lower_digit c ≡ true) a (b ∷ rest) low in
    let ih = encode_back (i + 2) rest p3.0 (λ k. small (suc (suc k))) (All-tail (λ c. is_lower_digit c ≡ true) b rest tail) p3.1 in
    let e : p0.0 ∷ p3.0 ≡ bytes = ap (λ (r : Result (List ℕ) FromHexError). result_unwrap_or r []) p3.2 in
    let byte : p1.0 * 16 + p2.0 ≡ p0.0 = ap (λ (r : Result ℕ FromHexError). result_unwrap_or r 0) p2.2 in
    let reads_a = digit_read a i (hex_digit_value a) p1.0 p1.1 in
    let reads_b = digit_read b (i + 1) (hex_digit_value b) p2.0 p2.1 in
    let va = digit_small a p1.0 reads_a in
    let vb = digit_small b p2.0 reads_b in
    let high : p0.0 / 16 ≡ p1.0 = omega arith in
    let lower : p0.0 % 16 ≡ p2.0 = omega arith in
    let first = digit_back a p1.0 (small 0) (All-head (λ c. is_lower_digit c ≡ true) a (b ∷ rest) low) reads_a in
    let second = digit_back b p2.0 (small 1) (All-head (λ c. is_lower_digit c ≡ true) b rest tail) reads_b in
    rw (← e, high, lower, first, second, ih) refl

pub decoded_text : (s bytes : List ℕ) → IsBytes s → AllPass is_lower_digit s → decode_of s ≡ Ok bytes → encode_lower bytes ≡ s
decoded_text s bytes small low h = encode_back 0 s bytes small low (sym (decode_of-even s (decode_of-ok s bytes h).0) ∙ h)

lower_at : (d : ℕ) → d < 16 → is_lower_digit (slice_index lower_digits d) ≡ true
lower_at d h = agree_below_at (λ k. is_lower_digit (slice_index lower_digits k)) always 16 d refl h

-- a text that is written has lower case digits alone
pub encoded_lower : (bytes : List ℕ) → IsBytes bytes → AllPass is_lower_digit (encode_lower bytes)
unfolding encode_with
encoded_lower [] h = All-nil (λ c. is_lower_digit c ≡ true)
encoded_lower (b ∷ bytes) h =
    let small = h 0 in
    All-cons (λ c. is_lower_digit c ≡ true) (slice_index lower_digits (b / 16)) (slice_index lower_digits (b % 16) ∷ encode_lower bytes) (lower_at (b / 16) (omega arith))
    (All-cons (λ c. is_lower_digit c ≡ true) (slice_index lower_digits (b % 16)) (encode_lower bytes) (lower_at (b % 16) (omega arith)) (encoded_lower bytes (λ k. h (suc k))))

pub length-encoded : (bytes : List ℕ) → length (encode_lower bytes) ≡ 2 * length bytes
length-encoded bytes = length-encode_with lower_digits bytes
