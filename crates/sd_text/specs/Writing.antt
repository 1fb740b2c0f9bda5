-- Words for the functions that write byte runs.
use Rattle.std.specs.Prelude.{◌≡◌, ℕ, ◌<◌, ◌≤◌, ◌==◌, List, ◌∷◌, ◌++◌, length, take, drop, slice_index}
use Rattle.std.specs.List.{prefix_len}
use Rattle.sd_text.specs.declared.runs.writing.FirstItem.{FirstItem}
use Rattle.sd_text.specs.declared.runs.writing.FirstItem.TheVariants as firsts
use Rattle.sd_text.specs.Texts.{Text}
use Rattle.sd_text.specs.Runs.{Item, pairs, repeated, normal_items, item_text}

-- how many bytes at the front equal the first
abbrev pub run_length : List ℕ → ℕ
run_length bytes = prefix_len (λ b. b == slice_index bytes 0) bytes

-- the first item stands for the first n bytes
pub record BeginsWith (bytes : List ℕ) (item : Item) (n : ℕ) : Type 0 where
  pub least : 0 < n
  pub most : n ≤ length bytes
  pub items : normal_items bytes ≡ item ∷ normal_items (drop n bytes)

abbrev pub IsFirstItem : List ℕ → FirstItem → Type 0
IsFirstItem bytes (firsts.Repeated n) = BeginsWith bytes (repeated (slice_index bytes 0) n) n
IsFirstItem bytes (firsts.Pairs n) = BeginsWith bytes (pairs (take n bytes)) n

-- the text has the first item's text at its end, and the rest are the bytes after those for which it stands
pub record WritesItem (bytes : List ℕ) (old : Text) (rest : List ℕ) (new : Text) : Type 0 where
  pub item : Item
  pub items : normal_items bytes ≡ item ∷ normal_items rest
  pub shorter : length rest < length bytes
  pub appended : new ≡ old ++ item_text item

-- the text has a prefix of more at its end
pub record AppendsPrefix (old new more : Text) : Type 0 where
  pub front : Text
  pub rest : Text
  pub parts : more ≡ front ++ rest
  pub appended : new ≡ old ++ front
