-- Which texts spell which value of a kind, and the text that is written.
use Rattle.std.specs.Prelude.{◌≡◌, ℕ, zero, suc, ◌+◌, ◌*◌, ◌-◌, ◌^◌, ◌<◌, ◌≤◌, Bool, true, false, ◌&&◌, not, nat_lt, nat_le, ◌==◌, if◌then◌else◌, List, [], ◌∷◌, ◌++◌, length, take, drop, map, replicate, codes, Option, Some, None, Result, Ok, Err}
use Rattle.std.specs.Fmt.{decimal}
use Rattle.std.specs.Str.Parse.{digits_value}
use Rattle.std.specs.List.{slice_split, concat}
use Rattle.hex.specs.Hex.{encode_lower, decode_of, IsBytes}
use Rattle.hex.specs.declared.error.FromHexError.{FromHexError}
use Rattle.sd_xdr.specs.Kind.{Value, none, number, bytes, ◌⊗◌, number_of, bytes_of, first, second}
use Rattle.sd_text.specs.Runs.{runs_text}
use Rattle.sd_text.specs.Texts.{Text}
use Rattle.sd_text.specs.Kind.{is_some_text, is_digit, is_low_hex, is_name, is_shown, all_pass, same, place_in, name_at, Word, digits, pairs, run, inner, named, shown, all, holds, Kind, void, word, said, between, ◌&◌, many, choice, fork, maybe, where_zero, given, such}

-- ---- words

-- this, where the test passes
abbrev pub when : {A : Type 0} → Bool → A → Option A
when true x = Some x
when false x = None

-- the number of a text of digits
unfoldable pub number_value : ℕ → ℕ → Text → Option Value
number_value low high t =
    let n = digits_value 10 t in
    when (same (decimal n) t && nat_le low n && nat_le n high) (number n)

abbrev pub decoded : Result (List ℕ) FromHexError → Text → Option (List ℕ)
decoded (Ok bs) t = when (same (encode_lower bs) t) bs
decoded (Err e) t = None

-- the bytes of pairs of hexadecimal digits in lower case
unfoldable pub pairs_value : Text → Option (List ℕ)
pairs_value t = decoded (decode_of t) t

abbrev pub sized : (ℕ → Bool) → Option (List ℕ) → Option Value
sized p None = None
sized p (Some bs) = when (p (length bs)) (bytes bs)

-- ---- between quotation marks

-- A byte that stands for itself: from 20 to 7e, but not the mark (22) and the backslash (5c).
abbrev pub is_plain : ℕ → Bool
is_plain b = nat_le 32 b && nat_le b 126 && not (b == 34) && not (b == 92)

-- every other byte is a backslash and two hexadecimal digits in lower case
abbrev pub escaped : ℕ → Text
escaped b = if is_plain b then b ∷ [] else 92 ∷ encode_lower (b ∷ [])

-- the number of a hexadecimal digit in lower case
abbrev pub hex_value : ℕ → ℕ
hex_value d = if nat_lt d 58 then d - 48 else d - 87

-- the byte of two digits
abbrev pub hex_byte : ℕ → ℕ → ℕ
hex_byte c d = 16 * hex_value c + hex_value d

-- whether three bytes are a byte that can't stand for itself
abbrev pub is_escape : ℕ → ℕ → ℕ → Bool
is_escape b c d = (b == 92) && (is_low_hex c && (is_low_hex d && not (is_plain (hex_byte c d))))

abbrev pub onto : ℕ → Option (List ℕ) → Option (List ℕ)
onto b None = None
onto b (Some bs) = Some (b ∷ bs)

unfoldable pub inner_value : Text → Option (List ℕ)
inner_value [] = Some []
inner_value (b ∷ []) = if is_plain b then onto b (inner_value []) else None
inner_value (b ∷ c ∷ []) = if is_plain b then onto b (inner_value (c ∷ [])) else None
inner_value (b ∷ c ∷ d ∷ t) =
    if is_plain b then onto b (inner_value (c ∷ d ∷ t)) else
    (if is_escape b c d then onto (hex_byte c d) (inner_value t) else None)

-- ---- byte runs

-- an item: pairs, or one pair, `*` and how often its byte stands
abbrev pub times_value : Option (List ℕ) → Option Value → Option (List ℕ)
times_value None n = None
times_value (Some bs) None = None
times_value (Some []) (Some n) = None
times_value (Some (b ∷ bs)) (Some n) = Some (replicate (number_of n) b)

abbrev pub is_times : Text → Bool
is_times [] = false
is_times (a ∷ []) = false
is_times (a ∷ b ∷ []) = false
is_times (a ∷ b ∷ c ∷ t) = c == 42

unfoldable pub item_value : Text → Option (List ℕ)
item_value t =
    if is_some_text t then
    (if is_times t then times_value (pairs_value (take 2 t)) (number_value 2 18446744073709551615 (drop 3 t)) else pairs_value t)
    else None

abbrev pub joined_values : Option (List ℕ) → Option (List ℕ) → Option (List ℕ)
joined_values None ys = None
joined_values (Some xs) None = None
joined_values (Some xs) (Some ys) = Some (xs ++ ys)

unfoldable pub items_value : List Text → Option (List ℕ)
items_value [] = Some []
items_value (t ∷ ts) = joined_values (item_value t) (items_value ts)

-- `-` for no bytes, else items joined by dots
unfoldable pub run_value : Text → Option (List ℕ)
run_value t = if same t (codes "-") then Some [] else items_value (slice_split (λ b. b == 46) t)

-- ---- what a word means

abbrev pub word_value : Word → Text → Option Value
word_value (digits low high) t = number_value low high t
word_value (pairs n) t = sized (λ k. k == n) (pairs_value t)
word_value (run least most) t = sized (λ k. nat_le least k && nat_le k most) (run_value t)
word_value (inner most) t = sized (λ k. nat_le k most) (inner_value t)
word_value (named least most) t = when (nat_le least (length t) && nat_le (length t) most) (bytes t)
word_value (shown least most) t = when (nat_le least (length t) && nat_le (length t) most) (bytes t)
word_value all t = Some (bytes t)

-- ---- the text that is written

-- a byte run is written in one way (runs_text), and read in any
abbrev pub word_text : Word → Value → Text
word_text (digits low high) x = decimal (number_of x)
word_text (pairs n) x = encode_lower (bytes_of x)
word_text (run least most) x = runs_text (bytes_of x)
word_text (inner most) x = concat (map escaped (bytes_of x))
word_text (named least most) x = bytes_of x
word_text (shown least most) x = bytes_of x
word_text all x = bytes_of x

abbrev pub many_text : ℕ → (Value → Text) → Value → Text
many_text c item none = []
many_text c item (number n) = []
many_text c item (bytes bs) = []
many_text c item (x ⊗ y) = c ∷ (item x ++ many_text c item y)

abbrev pub maybe_text : (Value → Text) → Value → Text
maybe_text text none = []
maybe_text text (number n) = text (number n)
maybe_text text (bytes bs) = text (bytes bs)
maybe_text text (x ⊗ y) = text (x ⊗ y)

unfoldable pub writes : Kind → Value → Text
writes void x = []
writes (word w) x = word_text w x
writes (said t K) x = t ++ writes K x
writes (between a K b) x = a ∷ (writes K x ++ b ∷ [])
writes (A & B) x = writes A (first x) ++ writes B (second x)
writes (many most c K) x = many_text c (writes K) x
writes (choice names arm) x = name_at names (number_of (first x)) ++ writes (arm (number_of (first x))) (second x)
writes (fork p A B) x = if number_of (first x) == 0 then writes A (second x) else writes B (second x)
writes (maybe p K) x = maybe_text (writes K) x
writes (where_zero K) x = decimal (number_of (first x)) ++ (if number_of (first x) == 0 then writes K (second x) else [])
writes (given n K) x = writes K (second x)
writes (such f K) x = writes K x

-- ---- spelling

-- Reads K s x: the text s, all of it, spells the value x of kind K.
pub data Reads : Kind → Text → Value → Type 0 where
  reads_void : Reads void [] none
  reads_word : {w : Word} {x : Value} (s : Text) →
      all_pass (holds w) s ≡ true → word_value w s ≡ Some x → Reads (word w) s x
  reads_said : {K : Kind} {s : Text} {x : Value} (t : Text) →
      Reads K s x → Reads (said t K) (t ++ s) x
  reads_between : {K : Kind} {s : Text} {x : Value} (a b : ℕ) →
      Reads K s x → Reads (between a K b) (a ∷ (s ++ b ∷ [])) x
  reads_row : {A B : Kind} {s t : Text} {x y : Value} →
      Reads A s x → Reads B t y → Reads (A & B) (s ++ t) (x ⊗ y)
  reads_end : (most c : ℕ) {K : Kind} →
      Reads (many most c K) [] none
  reads_more : {most c : ℕ} {K : Kind} {s t : Text} {x y : Value} →
      Reads K s x → Reads (many most c K) t y → Reads (many (suc most) c K) (c ∷ (s ++ t)) (x ⊗ y)
  reads_choice : {names : List Text} {arm : ℕ → Kind} {s : Text} {x : Value} (t : Text) (n : ℕ) →
      place_in t names ≡ Some n → Reads (arm n) s x → Reads (choice names arm) (t ++ s) (number n ⊗ x)
  reads_first : {p : ℕ → Bool} {A B : Kind} {s : Text} {x : Value} →
      Reads A s x → Reads (fork p A B) s (number 0 ⊗ x)
  reads_other : {p : ℕ → Bool} {A B : Kind} {s : Text} {x : Value} →
      Reads B s x → Reads (fork p A B) s (number 1 ⊗ x)
  reads_nothing : {p : ℕ → Bool} {K : Kind} →
      Reads (maybe p K) [] none
  reads_some : {p : ℕ → Bool} {K : Kind} {s : Text} {x : Value} →
      Reads K s x → Reads (maybe p K) s x
  reads_zero : {K : Kind} {t : Text} {y : Value} (s : Text) →
      all_pass is_digit s ≡ true → number_value 0 4294967295 s ≡ Some (number 0) → Reads K t y →
      Reads (where_zero K) (s ++ t) (number 0 ⊗ y)
  reads_status : {K : Kind} (s : Text) (n : ℕ) →
      all_pass is_digit s ≡ true → number_value 0 4294967295 s ≡ Some (number (suc n)) →
      Reads (where_zero K) s (number (suc n) ⊗ none)
  reads_given : {K : Kind} {s : Text} {x : Value} (n : ℕ) →
      Reads K s x → Reads (given n K) s (number n ⊗ x)
  reads_such : {f : Value → Bool} {K : Kind} {s : Text} {x : Value} →
      Reads K s x → f x ≡ true → Reads (such f K) s x

-- ---- which values have a text

abbrev pub WordFits : Word → Value → Type 0
WordFits (digits low high) x = (x ≡ number (number_of x)) × (low ≤ number_of x) × (number_of x ≤ high) × (number_of x < 2 ^ 64)
WordFits (pairs n) x = (x ≡ bytes (bytes_of x)) × IsBytes (bytes_of x) × (length (bytes_of x) ≡ n)
WordFits (run least most) x = (x ≡ bytes (bytes_of x)) × IsBytes (bytes_of x) × (least ≤ length (bytes_of x)) × (length (bytes_of x) ≤ most) × (length (bytes_of x) < 2 ^ 64)
WordFits (inner most) x = (x ≡ bytes (bytes_of x)) × IsBytes (bytes_of x) × (length (bytes_of x) ≤ most)
WordFits (named least most) x = (x ≡ bytes (bytes_of x)) × (all_pass is_name (bytes_of x) ≡ true) × (least ≤ length (bytes_of x)) × (length (bytes_of x) ≤ most)
WordFits (shown least most) x = (x ≡ bytes (bytes_of x)) × (all_pass is_shown (bytes_of x) ≡ true) × (least ≤ length (bytes_of x)) × (length (bytes_of x) ≤ most)
WordFits all x = (x ≡ bytes (bytes_of x)) × (all_pass (λ b. not (b == 10)) (bytes_of x) ≡ true)

abbrev pub EachFits : (Value → Type 0) → ℕ → Value → Type 0
EachFits F most none = Unit {0}
EachFits F most (number n) = ⊥
EachFits F most (bytes bs) = ⊥
EachFits F zero (x ⊗ y) = ⊥
EachFits F (suc most) (x ⊗ y) = F x × EachFits F most y

abbrev pub MaybeFits : (Value → Type 0) → Value → Type 0
MaybeFits F none = Unit {0}
MaybeFits F (number n) = F (number n)
MaybeFits F (bytes bs) = F (bytes bs)
MaybeFits F (x ⊗ y) = F (x ⊗ y)

-- the first for 0, the second for 1
abbrev pub Either : ℕ → Type 0 → Type 0 → Type 0
Either zero P Q = P
Either (suc zero) P Q = Q
Either (suc (suc n)) P Q = ⊥

-- the first for 0, the second for every other number
abbrev pub AtZero : ℕ → Type 0 → Type 0 → Type 0
AtZero zero P Q = P
AtZero (suc n) P Q = Q

-- HasText K x: x is a value of kind K, within its limits.
abbrev pub HasText : Kind → Value → Type 0
HasText void x = x ≡ none
HasText (word w) x = WordFits w x
HasText (said t K) x = HasText K x
HasText (between a K b) x = HasText K x
HasText (A & B) x = (x ≡ first x ⊗ second x) × HasText A (first x) × HasText B (second x)
HasText (many most c K) x = EachFits (HasText K) most x
HasText (choice names arm) x =
    (x ≡ number (number_of (first x)) ⊗ second x)
    × (place_in (name_at names (number_of (first x))) names ≡ Some (number_of (first x))) × HasText (arm (number_of (first x))) (second x)
HasText (fork p A B) x = (x ≡ number (number_of (first x)) ⊗ second x) × Either (number_of (first x)) (HasText A (second x)) (HasText B (second x))
HasText (maybe p K) x = MaybeFits (HasText K) x
HasText (where_zero K) x = (x ≡ number (number_of (first x)) ⊗ second x) × (number_of (first x) ≤ 4294967295) × AtZero (number_of (first x)) (HasText K (second x)) (second x ≡ none)
HasText (given n K) x = (x ≡ number n ⊗ second x) × HasText K (second x)
HasText (such f K) x = HasText K x × (f x ≡ true)
