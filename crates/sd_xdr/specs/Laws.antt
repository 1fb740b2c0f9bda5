-- What holds of every kind. The functions of src/laws.rt have these as their contracts.
use Rattle.std.specs.Prelude.{◌≡◌, ◌↔◌, ℕ, ◌+◌, ◌⊎◌, List, ◌++◌, length, Ok, Err}
use Rattle.sd_outside.specs.Bytes.{IsBytes}
use Rattle.sd_xdr.specs.declared.error.MsgError.{MsgError}
use Rattle.sd_xdr.specs.Kind.{End, part, whole, Kind, Value}
use Rattle.sd_xdr.specs.Grammar.{Reads, Refuses, writes, HasSpelling, IsPlain}
use Rattle.sd_xdr.specs.Reading.{Cursor, reading}

-- No spelling of a part is a proper prefix of another, and each spells one value. So what stands in a row is read again,
-- whatever follows.
abbrev pub PartsAreKept : Type 0
PartsAreKept = (K : Kind part) (front bs s t : List ℕ) (x y : Value) →
    Reads part K front x → Reads part K bs y → front ++ s ≡ bs ++ t → (front ≡ bs) × (x ≡ y)

-- A whole message spells one value.
abbrev pub OneValue : Type 0
OneValue = (K : Kind whole) (bs : List ℕ) (x y : Value) → Reads whole K bs x → Reads whole K bs y → x ≡ y

-- Bytes that spell a value are not refused.
abbrev pub NeverBoth : Type 0
NeverBoth = (K : Kind whole) (bs : List ℕ) (x : Value) (r : MsgError) → Reads whole K bs x → Refuses whole K 0 bs r → ⊥

-- Bytes are refused for one reason.
abbrev pub OneRefusal : Type 0
OneRefusal = (e : End) (K : Kind e) (at : ℕ) (bs : List ℕ) (q r : MsgError) → Refuses e K at bs q → Refuses e K at bs r → q ≡ r

-- Bytes spell a value, or are refused.
abbrev pub EitherWay : Type 0
EitherWay = (K : Kind whole) (bs : List ℕ) → IsBytes bs →
    ((x : Value) × Reads whole K bs x) ⊎ ((r : MsgError) × Refuses whole K 0 bs r)

-- What is written for a value that has a spelling spells it.
abbrev pub WritesSpell : Type 0
WritesSpell = (e : End) (K : Kind e) (bs : List ℕ) (x : Value) → Reads e K bs x → Reads e K (writes K x) x

-- Where no char stands, what is written is the only spelling.
abbrev pub OneSpelling : Type 0
OneSpelling = (e : End) (K : Kind e) (bs : List ℕ) (x : Value) → IsPlain K → Reads e K bs x → bs ≡ writes K x

-- What is written for a value within the limits is read again.
abbrev pub WrittenIsRead : Type 0
WrittenIsRead = (e : End) (K : Kind e) (x : Value) → HasSpelling K x → Reads e K (writes K x) x

-- What is read is within the limits.
abbrev pub ReadHasSpelling : Type 0
ReadHasSpelling = (e : End) (K : Kind e) (bs : List ℕ) (x : Value) → Reads e K bs x → HasSpelling K x

-- A reader takes the bytes of a value from the front of those that are left.
pub record TakesPrefix (K : Kind part) (c : Cursor) (x : Value) (d : Cursor) : Type 0 where
  pub front : List ℕ
  pub parts : c.rest ≡ front ++ d.rest
  pub place : d.at ≡ c.at + length front
  pub reads : Reads part K front x

-- Reading from left to right gives a value exactly where the bytes begin with its spelling, and a refusal exactly where the
-- grammar has it.
abbrev pub ReadingIsTheGrammar : Type 0
ReadingIsTheGrammar = (K : Kind part) (c : Cursor) → IsBytes c.rest →
    ((x : Value) (d : Cursor) → (reading K c ≡ Ok (x, d)) ↔ TakesPrefix K c x d)
    × ((r : MsgError) → (reading K c ≡ Err r) ↔ Refuses part K c.at c.rest r)
