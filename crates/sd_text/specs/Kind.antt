-- What texts are made of, as tables that can be read beside the formats. The values are those of binary messages.
use Rattle.std.specs.Prelude.{ℕ, zero, suc, ◌+◌, Bool, true, false, ◌&&◌, ◌||◌, not, nat_lt, nat_le, ◌==◌, if◌then◌else◌, List, [], ◌∷◌, length, codes, Option, Some, None}
use Rattle.sd_text.specs.declared.class.Class.{Class}
use Rattle.sd_text.specs.declared.class.Class.TheVariants as classes
use Rattle.sd_text.specs.Texts.{Text}
use Rattle.sd_outside.specs.declared.packet.Addr.{Addr}
use Rattle.sd_bootparams.specs.Layout.{ip_value}
use Rattle.sd_xdr.specs.Kind.{Value, number, ◌⊗◌}

-- ---- classes of bytes

abbrev pub is_digit : ℕ → Bool
is_digit b = nat_le 48 b && nat_le b 57

-- a to f
abbrev pub is_low_hex : ℕ → Bool
is_low_hex b = is_digit b || (nat_le 97 b && nat_le b 102)

-- letters, digits, `-`, `.` and `_`
abbrev pub is_name : ℕ → Bool
is_name b = is_digit b || (nat_le 97 b && nat_le b 122) || (nat_le 65 b && nat_le b 90) || b == 45 || b == 46 || b == 95

-- from 21 to 7e
abbrev pub is_shown : ℕ → Bool
is_shown b = nat_le 33 b && nat_le b 126

-- what stands in a byte run: digits, `.`, `*` and `-`
abbrev pub is_run : ℕ → Bool
is_run b = is_low_hex b || b == 46 || b == 42 || b == 45

-- the classes as the code names them
abbrev pub has : Class → ℕ → Bool
has classes.Digits b = is_digit b
has classes.LowHex b = is_low_hex b
has classes.Run b = is_run b
has classes.Inner b = not (b == 34)
has classes.Name b = is_name b
has classes.Shown b = is_shown b
has classes.Line b = not (b == 10)

-- ---- words: the longest front whose bytes are of a class

pub data Word : Type 0 where
  -- a number from the first to the second, in decimal without leading zeros
  digits : ℕ → ℕ → Word
  -- so many bytes, each a pair of hexadecimal digits in lower case
  pairs : ℕ → Word
  -- bytes as BYTES: at least so many and at most so many
  run : ℕ → ℕ → Word
  -- what stands between quotation marks: at most so many bytes
  inner : ℕ → Word
  -- a name of at least and at most so many bytes
  named : ℕ → ℕ → Word
  -- so many bytes from 21 to 7e
  shown : ℕ → ℕ → Word
  -- all that is left of a line
  all : Word

-- which bytes stand in such a word; every other one ends it
abbrev pub holds : Word → ℕ → Bool
holds (digits low high) b = is_digit b
holds (pairs n) b = is_low_hex b
holds (run least most) b = is_run b
holds (inner most) b = not (b == 34)
holds (named least most) b = is_name b
holds (shown least most) b = is_shown b
holds all b = not (b == 10)

-- ---- kinds

infixr 5 ◌&◌
pub data Kind : Type 0 where
  -- no text
  void : Kind
  word : Word → Kind
  -- a fixed text, and then this
  said : Text → Kind → Kind
  -- this between two bytes, as parentheses
  between : ℕ → Kind → ℕ → Kind
  -- one behind the other
  ◌&◌ : Kind → Kind → Kind
  -- this again and again, at most so often, each behind a byte
  many : ℕ → ℕ → Kind → Kind
  -- one of these names, and what follows that name
  choice : List Text → (ℕ → Kind) → Kind
  -- the one where the text begins with such a byte, else the other
  fork : (ℕ → Bool) → Kind → Kind → Kind
  -- this where the text begins with such a byte, else nothing
  maybe : (ℕ → Bool) → Kind → Kind
  -- a number in decimal, and this where it is 0
  where_zero : Kind → Kind
  -- a number that is known without the text
  given : ℕ → Kind → Kind
  -- this, where its value passes a test
  such : (Value → Bool) → Kind → Kind

-- ---- shorthands

-- any word of 32 bits
abbrev pub any : Kind
any = word (digits 0 4294967295)

abbrev pub spaced : Kind → Kind
spaced K = said (codes " ") K

-- four numbers joined by dots, with the values of an address in messages: 1 and four chars
abbrev pub octet : Kind
octet = word (digits 0 255)

abbrev pub ip : Kind
ip = given 1 (octet & said (codes ".") octet & said (codes ".") octet & said (codes ".") octet)

-- four numbers joined by dots, a colon and a port
abbrev pub addr : Kind
addr = ip & said (codes ":") (word (digits 0 65535))

abbrev pub addr_value : Addr → Value
addr_value a = ip_value a.ip ⊗ number a.port

abbrev pub mac : Kind
mac = word (pairs 6)

abbrev pub quoted : ℕ → Kind
quoted most = between 34 (word (inner most)) 34

-- in parentheses, and a list in brackets with a comma between each two
abbrev pub parens : Kind → Kind
parens K = between 40 K 41

abbrev pub brackets : ℕ → Kind → Kind
brackets most K = between 91 (maybe (λ b. not (b == 93)) (K & many most 44 K)) 93

-- ---- which kinds are read in one way: a check that computes

abbrev pub all_pass : (ℕ → Bool) → List ℕ → Bool
all_pass p [] = true
all_pass p (b ∷ bs) = p b && all_pass p bs

abbrev pub all_texts : (Text → Bool) → List Text → Bool
all_texts p [] = true
all_texts p (t ∷ ts) = p t && all_texts p ts

abbrev pub all_below : ℕ → (ℕ → Bool) → Bool
all_below zero p = true
all_below (suc n) p = p n && all_below n p

abbrev pub is_some_text : Text → Bool
is_some_text [] = false
is_some_text (b ∷ t) = true

-- whether the first byte is one of these
abbrev pub begins : (ℕ → Bool) → Text → Bool
begins p [] = false
begins p (b ∷ t) = p b

-- whether the text that follows, if any does, begins with such a byte
abbrev pub ends : (ℕ → Bool) → Text → Bool
ends p [] = true
ends p (b ∷ t) = p b

-- no text of the kind is empty
abbrev pub is_some : Kind → Bool
is_some void = false
is_some (word (digits low high)) = true
is_some (word (pairs n)) = false
is_some (word (run least most)) = false
is_some (word (inner most)) = false
is_some (word (named least most)) = false
is_some (word (shown least most)) = false
is_some (word all) = false
is_some (said t K) = is_some_text t || is_some K
is_some (between a K b) = true
is_some (A & B) = is_some A || is_some B
is_some (many most c K) = false
is_some (choice names arm) = all_texts is_some_text names
is_some (fork p A B) = is_some A && is_some B
is_some (maybe p K) = false
is_some (where_zero K) = true
is_some (given n K) = is_some K
is_some (such f K) = is_some K

abbrev pub said_leads : Text → Bool → (ℕ → Bool) → Bool
said_leads [] more p = more
said_leads (b ∷ t) more p = p b

-- each text of the kind that isn't empty begins with such a byte
abbrev pub leads : Kind → (ℕ → Bool) → Bool
leads void p = true
leads (word (digits low high)) p = all_below 10 (λ k. p (48 + k))
leads (word (pairs n)) p = false
leads (word (run least most)) p = false
leads (word (inner most)) p = false
leads (word (named least most)) p = false
leads (word (shown least most)) p = false
leads (word all) p = false
leads (said t K) p = said_leads t (leads K p) p
leads (between a K b) p = p a
leads (A & B) p = leads A p && (is_some A || leads B p)
leads (many most c K) p = p c
leads (choice names arm) p = all_texts (begins p) names
leads (fork q A B) p = leads A p && leads B p
leads (maybe q K) p = leads K p
leads (where_zero K) p = all_below 10 (λ k. p (48 + k))
leads (given n K) p = leads K p
leads (such f K) p = leads K p

-- a text of the kind is read to its end where this byte follows
abbrev pub stops : Kind → ℕ → Bool
stops void d = true
stops (word w) d = not (holds w d)
stops (said t K) d = stops K d
stops (between a K b) d = true
stops (A & B) d = stops B d && (is_some B || stops A d)
stops (many most c K) d = not (d == c) && stops K d
stops (choice names arm) d = not (is_name d) && all_below (length names) (λ i. stops (arm i) d)
stops (fork p A B) d = stops A d && (stops B d && (is_some B || not (p d)))
stops (maybe p K) d = stops K d && not (p d)
stops (where_zero K) d = not (is_digit d) && stops K d
stops (given n K) d = stops K d
stops (such f K) d = stops K d

-- the place of a name among these
abbrev pub same : Text → Text → Bool
same [] [] = true
same [] (b ∷ t) = false
same (a ∷ s) [] = false
same (a ∷ s) (b ∷ t) = a == b && same s t

abbrev pub place_from : ℕ → Text → List Text → Option ℕ
place_from n t [] = None
place_from n t (one ∷ names) = if same one t then Some n else place_from (n + 1) t names

abbrev pub place_in : Text → List Text → Option ℕ
place_in t names = place_from 0 t names

-- the name at a place
abbrev pub name_at : List Text → ℕ → Text
name_at [] n = []
name_at (t ∷ ts) zero = t
name_at (t ∷ ts) (suc n) = name_at ts n

-- no name stands twice
abbrev pub are_apart : List Text → Bool
are_apart [] = true
are_apart (t ∷ ts) = all_texts (λ s. not (same t s)) ts && are_apart ts

-- The kind is read in one way: where a part may end, the next begins with a byte that ends it.
abbrev pub is_clear : Kind → Bool
is_clear void = true
is_clear (word w) = true
is_clear (said t K) = is_clear K
is_clear (between a K b) = is_clear K && stops K b
is_clear (A & B) = is_clear A && (is_clear B && leads B (stops A))
is_clear (many most c K) = is_clear K && stops K c
is_clear (choice names arm) =
    all_texts is_some_text names && (all_texts (all_pass is_name) names && (are_apart names
    && all_below (length names) (λ i. is_clear (arm i) && leads (arm i) (λ d. not (is_name d)))))
is_clear (fork p A B) = is_clear A && (is_clear B && (is_some A && (leads A p && leads B (λ d. not (p d)))))
is_clear (maybe p K) = is_clear K && (is_some K && leads K p)
is_clear (where_zero K) = is_clear K && leads K (λ d. not (is_digit d))
is_clear (given n K) = is_clear K
is_clear (such f K) = is_clear K

-- ---- kinds without byte runs, of which each value has one text

-- no value of the kind is `none`
abbrev pub is_told : Kind → Bool
is_told void = false
is_told (word w) = true
is_told (said t K) = is_told K
is_told (between a K b) = is_told K
is_told (A & B) = true
is_told (many most c K) = false
is_told (choice names arm) = true
is_told (fork p A B) = true
is_told (maybe p K) = false
is_told (where_zero K) = true
is_told (given n K) = true
is_told (such f K) = is_told K

abbrev pub is_single : Kind → Bool
is_single void = true
is_single (word (digits low high)) = true
is_single (word (pairs n)) = true
is_single (word (run least most)) = false
is_single (word (inner most)) = true
is_single (word (named least most)) = true
is_single (word (shown least most)) = true
is_single (word all) = true
is_single (said t K) = is_single K
is_single (between a K b) = is_single K
is_single (A & B) = is_single A && is_single B
is_single (many most c K) = is_single K
is_single (choice names arm) = all_below (length names) (λ i. is_single (arm i))
is_single (fork p A B) = is_single A && is_single B
is_single (maybe p K) = is_single K && is_told K
is_single (where_zero K) = is_single K
is_single (given n K) = is_single K
is_single (such f K) = is_single K

-- ---- kinds of which every value that is read is within the limits

-- no number of the word has more than 64 bits, and no byte run more bytes than such a number says
abbrev pub is_bounded_word : Word → Bool
is_bounded_word (digits low high) = nat_lt high 18446744073709551616
is_bounded_word (pairs n) = true
is_bounded_word (run least most) = nat_lt most 18446744073709551616
is_bounded_word (inner most) = true
is_bounded_word (named least most) = true
is_bounded_word (shown least most) = true
is_bounded_word all = true

abbrev pub is_bounded : Kind → Bool
is_bounded void = true
is_bounded (word w) = is_bounded_word w
is_bounded (said t K) = is_bounded K
is_bounded (between a K b) = is_bounded K
is_bounded (A & B) = is_bounded A && is_bounded B
is_bounded (many most c K) = is_bounded K
is_bounded (choice names arm) = all_below (length names) (λ i. is_bounded (arm i))
is_bounded (fork p A B) = is_bounded A && is_bounded B
is_bounded (maybe p K) = is_bounded K
is_bounded (where_zero K) = is_bounded K
is_bounded (given n K) = is_bounded K
is_bounded (such f K) = is_bounded K

-- ---- kinds that are read in two ways

-- two numbers with nothing between them, a name that stands twice, and a text that ends at a byte that may stand in it
abbrev pub two_numbers : Kind
two_numbers = any & any

abbrev pub two_names : Kind
two_names = choice (codes "ack" ∷ codes "rrq" ∷ codes "ack" ∷ []) (λ n. void)

abbrev pub open_end : Kind
open_end = between 40 (word (inner 9)) 41
