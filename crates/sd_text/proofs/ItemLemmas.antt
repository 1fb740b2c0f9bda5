-- The text of an item, read from its bytes.
use Rattle.std.proofs.Common.{◌≡◌, ℕ, suc, zero, ◌+◌, ◌/◌, ◌%◌, ◌<◌, ◌≤◌, ◌^◌, true, List, [], ◌∷◌, ◌++◌, length, take, drop, get_or, slice_index, refl, ap, sym, ◌∙◌, inl, inr, arith, append_assoc, length-append, length-take-le}
use mathlib.Core.List.{append-nil}
use Rattle.std.specs.Fmt.{decimal}
use Rattle.std.proofs.lemmas.Fmt.{decimal_injective}
use Rattle.std.proofs.lemmas.List.{length-replicate}
use Rattle.std.specs.Prelude.{codes}
use Rattle.hex.specs.Hex.{encode_lower, encode_with, lower_digits, IsBytes, decode_of}
use Rattle.hex.proofs.HexLemmas.{decode_of-encode_lower}
use Rattle.sd_text.specs.Texts.{Text, cut, IsNumber}
use Rattle.sd_text.specs.Values.{is_lower_digit, IsPairs}
use Rattle.sd_text.specs.Runs.{Item, pairs, repeated, item_text, IsItem, item_bytes, IsItems, IsRuns, IsRunsWithin}
use Rattle.sd_text.specs.declared.runs.reading.RunItem.{RunItem}
use Rattle.sd_text.specs.declared.runs.reading.RunItem.TheVariants.{Pairs, Repeated}
use Rattle.sd_text.specs.RunReading.{IsItemText}
use Rattle.sd_text.proofs.HexCase.{encoded_lower, length-encoded}

-- the text of one byte is two digits
pub pair_text : (b : ℕ) → encode_lower (b ∷ []) ≡ slice_index lower_digits (b / 16) ∷ slice_index lower_digits (b % 16) ∷ []
unfolding encode_with
pair_text b = refl

-- where the parts of a repeated item's text stand
pub record RepeatedAt (text : Text) (b n : ℕ) : Type 0 where
  pub long : 3 ≤ length text
  pub star : get_or text 2 0 ≡ 42
  pub pair : take 2 text ≡ encode_lower (b ∷ [])
  pub count : drop 3 text ≡ decimal n

pub repeated_at : (text : Text) (b n : ℕ) → text ≡ item_text (repeated b n) → RepeatedAt text b n
repeated_at text b n e =
    let digits = pair_text b in
    let shown : text ≡ slice_index lower_digits (b / 16) ∷ slice_index lower_digits (b % 16) ∷ 42 ∷ decimal n = e ∙ rw digits refl in
    rw shown record { long = omega arith; star = refl; pair = sym digits; count = refl }

pub repeated_from : (text : Text) (b n : ℕ) → RepeatedAt text b n → text ≡ item_text (repeated b n)
repeated_from [] b n at = absurd (omega (arith, at.long))
repeated_from (x ∷ []) b n at = absurd (omega (arith, at.long))
repeated_from (x ∷ y ∷ []) b n at = absurd (omega (arith, at.long))
repeated_from (x ∷ y ∷ z ∷ rest) b n at =
    let count : rest ≡ decimal n = at.count in
    let star : z ≡ 42 = at.star in
    rw (← at.pair, count, star) refl

-- no pair of digits has a star
pub pairs_at : (text : Text) (bytes : List ℕ) → IsBytes bytes → text ≡ encode_lower bytes → 3 ≤ length text → get_or text 2 0 ≡ 42 → ⊥
pairs_at text bytes small e long star =
    let low : is_lower_digit (get_or text 2 0) ≡ true = rw e (encoded_lower bytes small 2 0 (omega (arith, ap length e))) in
    let no : is_lower_digit 42 ≡ true = rw star at low in
    cc no

-- pairs of digits for one byte
pub one_pair : (text : Text) (bytes : List ℕ) → IsBytes bytes → text ≡ encode_lower bytes → length bytes ≡ 1 → text ≡ encode_lower (get_or bytes 0 0 ∷ [])
one_pair text [] small e one = absurd (omega arith)
one_pair text (b ∷ []) small e one = e
one_pair text (b ∷ c ∷ bytes) small e one = absurd (omega arith)

-- a text is that of one item
one_pairs : (a b : List ℕ) → IsBytes a → IsBytes b → encode_lower a ≡ encode_lower b → a ≡ b
one_pairs a b x y e = let both = sym (decode_of-encode_lower a x) ∙ ap decode_of e ∙ decode_of-encode_lower b y in cc both

byte_alone : (b : ℕ) → b < 256 → IsBytes (b ∷ [])
byte_alone b h zero = h
byte_alone b h (suc i) = omega arith

pub one_item : (text : Text) (i j : Item) → IsItem i → IsItem j → text ≡ item_text i → text ≡ item_text j → i ≡ j
one_item text (pairs a) (pairs b) x y e f = ap pairs (one_pairs a b x.1 y.1 (sym e ∙ f))
one_item text (pairs a) (repeated b n) x y e f = let at = repeated_at text b n f in absurd (pairs_at text a x.1 e at.long at.star)
one_item text (repeated b n) (pairs a) x y e f = let at = repeated_at text b n e in absurd (pairs_at text a y.1 f at.long at.star)
one_item text (repeated b n) (repeated c m) x y e f =
    let at = repeated_at text b n e in
    let to = repeated_at text c m f in
    let byte : b ∷ [] ≡ c ∷ [] = one_pairs (b ∷ []) (c ∷ []) (byte_alone b x.0) (byte_alone c y.0) (sym at.pair ∙ to.pair) in
    let count : n ≡ m = decimal_injective n m x.2 y.2 (sym at.count ∙ to.count) in
    let same : b ≡ c = cc byte in
    rw (same, count) refl

-- What the parts of an item's text say of the item.

pub not_pairs : (most : ℕ) (text : Text) → (3 ≤ length text → get_or text 2 0 ≡ 42 → ⊥) → ((x : List ℕ) → IsPairs text x → ⊥) → (y : RunItem) → IsItemText most text y → ⊥
not_pairs most text plain none (Pairs bytes) h = none bytes record { some = h.is_item.0; are = h.is_item.1; is = h.is }
not_pairs most text plain none (Repeated b n) h = let at = repeated_at text b n h.is in plain at.long at.star

pub no_pair : (most : ℕ) (text : Text) → 3 ≤ length text → get_or text 2 0 ≡ 42 → ((x : List ℕ) → IsPairs (take 2 text) x → ⊥) → (y : RunItem) → IsItemText most text y → ⊥
no_pair most text long star none (Pairs bytes) h = pairs_at text bytes h.is_item.1 h.is long star
no_pair most text long star none (Repeated b n) h =
    let at = repeated_at text b n h.is in
    none (b ∷ []) record { some = omega arith; are = byte_alone b h.is_item.0; is = at.pair }

pub no_count : (most : ℕ) (text : Text) → 3 ≤ length text → get_or text 2 0 ≡ 42 → ((x : ℕ) → IsNumber 2 most (drop 3 text) x → ⊥) → (y : RunItem) → IsItemText most text y → ⊥
no_count most text long star none (Pairs bytes) h = pairs_at text bytes h.is_item.1 h.is long star
no_count most text long star none (Repeated b n) h =
    let at = repeated_at text b n h.is in
    none n record { is = at.count; low = h.is_item.1; high = h.short; fits = h.is_item.2 }

pub repeated_item : (most : ℕ) (text : Text) (pair : List ℕ) (n : ℕ) → most < 2 ^ 64 → 3 ≤ length text → get_or text 2 0 ≡ 42 → IsPairs (take 2 text) pair → IsNumber 2 most (drop 3 text) n → IsItemText most text (Repeated (get_or pair 0 0) n)
repeated_item most text pair n small long star digits number =
    let one : length pair ≡ 1 = omega (arith, ap length digits.is, length-encoded pair, length-take-le 2 text (omega arith)) in
    record {
      is_item = (digits.are 0, number.low, omega (arith, number.high));
      short = number.high;
      is = repeated_from text (get_or pair 0 0) n record { long = long; star = star; pair = one_pair (take 2 text) pair digits.are digits.is one; count = number.is };
    }

-- Reading the parts one after another: what is read so far, and the parts that are left.
pub record IsReading (most : ℕ) (all parts : List Text) (bytes : List ℕ) : Type 0 where
  pub within : length bytes ≤ most
  pub sound : (tail : List ℕ) → IsItems parts tail → IsItems all (bytes ++ tail)
  pub complete : (whole : List ℕ) → length whole ≤ most → IsItems all whole → (tail : List ℕ) × (whole ≡ bytes ++ tail) × IsItems parts tail

pub reading_begins : (most : ℕ) (all : List Text) → IsReading most all all []
reading_begins most all = record { within = omega arith; sound = λ tail h. h; complete = λ whole le h. (whole, refl, h) }

pub reading_goes_on : (most : ℕ) (all : List Text) (text : Text) (more : List Text) (bytes new : List ℕ) (item : Item)
    → IsReading most all (text ∷ more) bytes → IsItem item → text ≡ item_text item → new ≡ bytes ++ item_bytes item → length new ≤ most → IsReading most all more new
reading_goes_on most all text more bytes new item r is e added fits = record {
  within = fits;
  sound = λ tail h. rw (added, append_assoc) (r.sound (item_bytes item ++ tail) (item, tail, is, e, refl, h));
  complete = λ whole le h.
      let t = r.complete whole le h in
      let same : t.2.0 ≡ item = one_item text t.2.0 item t.2.2 is t.2.3 e in
      let left : t.0 ≡ item_bytes item ++ t.2.1 = t.2.4 ∙ ap (λ (i : Item). item_bytes i ++ t.2.1) same in
      (t.2.1, t.1 ∙ rw (left, added, append_assoc) refl, t.2.5);
}

-- no item of the bytes that are left fits
pub reading_stops : (most : ℕ) (all : List Text) (text : Text) (more : List Text) (bytes : List ℕ)
    → IsReading most all (text ∷ more) bytes
    → ((item : Item) → IsItem item → text ≡ item_text item → length bytes + length (item_bytes item) ≤ most → ⊥)
    → (whole : List ℕ) → length whole ≤ most → IsItems all whole → ⊥
reading_stops most all text more bytes r none whole le h =
    let t = r.complete whole le h in
    none t.2.0 t.2.2 t.2.3 (omega (arith, ap length t.1, ap length t.2.4, length-append bytes t.0, length-append (item_bytes t.2.0) t.2.1))

pub reading_ends : (most : ℕ) (text : Text) (parts : List Text) (bytes : List ℕ) → parts ≡ [] → IsReading most (cut 46 text) parts bytes → IsRunsWithin most text bytes
reading_ends most text parts bytes none r =
    let done : IsItems parts [] = rw none refl in
    record { is = inr (rw append-nil at (r.sound [] done)); within = r.within }

-- Why the reading of the parts stops.

pub no_item : (most : ℕ) (text : Text) (old : List ℕ) → ((y : RunItem) → IsItemText most text y → ⊥) → (item : Item) → IsItem item → text ≡ item_text item → length old + length (item_bytes item) ≤ most → ⊥
no_item most text old none (pairs bytes) is e le = none (Pairs bytes) record { is_item = is; short = tt; is = e }
no_item most text old none (repeated b n) is e le = none (Repeated b n) record { is_item = is; short = omega (arith, length-replicate n b); is = e }

pub too_many : (most : ℕ) (text : Text) (old : List ℕ) (first : Item) → IsItem first → text ≡ item_text first → most < length old + length (item_bytes first)
    → (item : Item) → IsItem item → text ≡ item_text item → length old + length (item_bytes item) ≤ most → ⊥
too_many most text old first is e over item is' e' le =
    let same : first ≡ item = one_item text first item is is' e e' in
    omega (arith, ap (λ (i : Item). length (item_bytes i)) same)

pub no_runs : (most : ℕ) (text : Text) → (text ≡ codes "-" → ⊥) → ((whole : List ℕ) → length whole ≤ most → IsItems (cut 46 text) whole → ⊥) → (z : List ℕ) → IsRunsWithin most text z → ⊥
no_runs most text dash none z h = elim h.is [ inl d ↦ dash d.0 | inr items ↦ none z h.within items ]

-- a text stands for one list of bytes

one_items : (texts : List Text) (a b : List ℕ) → IsItems texts a → IsItems texts b → a ≡ b
one_items [] a b x y = x ∙ sym y
one_items (text ∷ texts) a b x y =
    let first = one_item text x.0 y.0 x.2 y.2 x.3 y.3 in
    let rest = one_items texts x.1 y.1 x.5 y.5 in
    x.4 ∙ rw (first, rest) (sym y.4)

dash_item : (item : Item) → IsItem item → codes "-" ≡ item_text item → ⊥
dash_item (pairs bytes) is e = omega (arith, ap length e, length-encoded bytes)
dash_item (repeated b n) is e = omega (arith, (repeated_at (codes "-") b n e).long)

no_dash : (bytes : List ℕ) → IsItems (codes "-" ∷ []) bytes → ⊥
no_dash bytes h = dash_item h.0 h.2 h.3

pub one_runs : (text : Text) (a b : List ℕ) → IsRuns text a → IsRuns text b → a ≡ b
one_runs text a b x y = elim x [
  | inl none ↦ elim y [ inl none' ↦ none.1 ∙ sym none'.1 | inr items ↦ absurd (no_dash b (rw none.0 at items)) ]
  | inr items ↦ elim y [ inl none ↦ absurd (no_dash a (rw none.0 at items)) | inr items' ↦ one_items (cut 46 text) a b items items' ]
]
