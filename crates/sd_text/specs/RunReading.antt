-- Words for the functions that read byte runs.
use Rattle.std.specs.Prelude.{◌≡◌, ℕ, ◌+◌, ◌<◌, ◌≤◌, List, ◌++◌, length, Result, Ok, Err}
use Rattle.sd_text.specs.declared.error.LineError.{LineError}
use Rattle.sd_text.specs.Answers.{OnOutside}
use Rattle.sd_text.specs.declared.runs.reading.RunItem.{RunItem}
use Rattle.sd_text.specs.declared.runs.reading.RunItem.TheVariants.{Pairs, Repeated}
use Rattle.sd_text.specs.Texts.{Text}
use Rattle.sd_text.specs.Runs.{Item, pairs, repeated, item_text, IsItem, item_bytes}

abbrev pub item_of : RunItem → Item
item_of (Pairs bytes) = pairs bytes
item_of (Repeated byte count) = repeated byte count

-- the item repeats its byte at most so often
abbrev pub IsShort : ℕ → RunItem → Type 0
IsShort most (Pairs bytes) = Unit {0}
IsShort most (Repeated byte count) = count ≤ most

pub record IsItemText (most : ℕ) (text : Text) (item : RunItem) : Type 0 where
  pub is_item : IsItem (item_of item)
  pub short : IsShort most item
  pub is : text ≡ item_text (item_of item)

-- the bytes of the item are added, or would be too many
abbrev pub ReadsOnto : ℕ → List ℕ → RunItem → List ℕ → Result Unit LineError → Type 0
ReadsOnto most old item new (Ok done) = (new ≡ old ++ item_bytes (item_of item)) × (length new ≤ most)
ReadsOnto most old item new (Err e) = OnOutside e (most < length old + length (item_bytes (item_of item)))
