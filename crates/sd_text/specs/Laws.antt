-- What holds of every clear kind. The functions of src/laws.rt have these as their contracts.
use Rattle.std.specs.Prelude.{◌≡◌, ◌⊎◌, ◌↔◌, ℕ, true, List, ◌++◌, Option, Some, None, IsTrue}
use Rattle.sd_xdr.specs.Kind.{Value}
use Rattle.sd_text.specs.Texts.{Text}
use Rattle.sd_text.specs.Kind.{Kind, is_clear, is_single, is_bounded, stops, ends}
use Rattle.sd_text.specs.Grammar.{Reads, writes, HasText}
use Rattle.sd_text.specs.Reading.{reading, whole_reading}

-- A text spells one value.
abbrev pub OneValue : Type 0
OneValue = (K : Kind) (s : Text) (x y : Value) → is_clear K ≡ true → Reads K s x → Reads K s y → x ≡ y

-- A text spells a value or none: reading tells which.
abbrev pub ReadingIsTheGrammar : Type 0
ReadingIsTheGrammar = (K : Kind) (s : Text) → is_clear K ≡ true →
    ((x : Value) → (whole_reading K s ≡ Some x) ↔ Reads K s x)
    × ((whole_reading K s ≡ None) ↔ ((x : Value) → Reads K s x → ⊥))

-- What is spelled is read, with what follows left, where that ends it.
abbrev pub ReadBeforeMore : Type 0
ReadBeforeMore = (K : Kind) (s more : Text) (x : Value) → is_clear K ≡ true → Reads K s x → ends (stops K) more ≡ true →
    reading K (s ++ more) ≡ Some (x, more)

-- What is written for a value within the limits is read as that value.
abbrev pub WrittenIsRead : Type 0
WrittenIsRead = (K : Kind) (x : Value) → HasText K x → Reads K (writes K x) x

-- What is read is within the limits.
abbrev pub ReadHasText : Type 0
ReadHasText = (K : Kind) (s : Text) (x : Value) → is_bounded K ≡ true → Reads K s x → HasText K x

-- Where no byte run stands, the text that is written is the only one.
abbrev pub OneText : Type 0
OneText = (K : Kind) (s : Text) (x : Value) → is_single K ≡ true → Reads K s x → s ≡ writes K x
