-- Byte runs: the texts that stand for bytes. Each maximal run of 4 or more equal bytes is written as one item, all bytes between
-- two of these are one item, and the items are joined by dots. What is read may be split into items in any way.
use Rattle.std.specs.Prelude.{◌≡◌, ℕ, ◌+◌, ◌<◌, ◌≤◌, ◌^◌, ◌==◌, nat_le, List, [], ◌∷◌, ◌++◌, length, map, replicate, codes, ◌⊎◌, if◌then◌else◌}
use Rattle.std.specs.List.{join_with_byte}
use Rattle.std.specs.Fmt.{decimal}
use Rattle.hex.specs.Hex.{encode_lower, IsBytes}
use Rattle.sd_text.specs.Texts.{Text, cut}

-- an item: bytes, each as a pair of digits, or one byte and how often it stands
pub data Item : Type 0 where
  pairs : List ℕ → Item
  repeated : ℕ → ℕ → Item

-- the pairs of hexadecimal digits, or one pair, `*` and a decimal number
abbrev pub item_text : Item → Text
item_text (pairs bytes) = encode_lower bytes
item_text (repeated b n) = encode_lower (b ∷ []) ++ (42 ∷ decimal n)

-- the byte b before maximal runs of equal bytes, each of them a byte with how often it stands
abbrev pub onto_runs : ℕ → List (ℕ × ℕ) → List (ℕ × ℕ)
onto_runs b [] = (b, 1) ∷ []
onto_runs b (run ∷ runs) = if b == run.0 then (b, run.1 + 1) ∷ runs else (b, 1) ∷ run ∷ runs

abbrev pub maximal_runs : List ℕ → List (ℕ × ℕ)
maximal_runs [] = []
maximal_runs (b ∷ bytes) = onto_runs b (maximal_runs bytes)

-- bytes before items: they join the pairs that follow them
abbrev pub before : List ℕ → List Item → List Item
before bytes [] = pairs bytes ∷ []
before bytes (pairs more ∷ items) = pairs (bytes ++ more) ∷ items
before bytes (repeated b n ∷ items) = pairs bytes ∷ repeated b n ∷ items

-- a run of 4 or more is an item, and all shorter ones between two of those are one item of pairs
abbrev pub items_of_runs : List (ℕ × ℕ) → List Item
items_of_runs [] = []
items_of_runs (run ∷ runs) = if nat_le 4 run.1 then repeated run.0 run.1 ∷ items_of_runs runs else before (replicate run.1 run.0) (items_of_runs runs)

abbrev pub normal_items : List ℕ → List Item
normal_items bytes = items_of_runs (maximal_runs bytes)

-- `-` for no bytes
abbrev pub runs_text : List ℕ → Text
runs_text [] = codes "-"
runs_text (b ∷ bytes) = join_with_byte 46 (map item_text (normal_items (b ∷ bytes)))

-- ---- what is read

abbrev pub item_bytes : Item → List ℕ
item_bytes (pairs bytes) = bytes
item_bytes (repeated b n) = replicate n b

-- The bound on n is above all that is ever read.
abbrev pub IsItem : Item → Type 0
IsItem (pairs bytes) = (0 < length bytes) × IsBytes bytes
IsItem (repeated b n) = (b < 256) × (2 ≤ n) × (n < 2 ^ 64)

-- the texts are those of items, which together stand for the bytes
abbrev pub IsItems : List Text → List ℕ → Type 0
IsItems [] bytes = bytes ≡ []
IsItems (text ∷ texts) bytes = (item : Item) × (rest : List ℕ) × IsItem item × (text ≡ item_text item) × (bytes ≡ item_bytes item ++ rest) × IsItems texts rest

-- `-` for no bytes, else items joined by dots
abbrev pub IsRuns : Text → List ℕ → Type 0
IsRuns text bytes = ((text ≡ codes "-") × (bytes ≡ [])) ⊎ IsItems (cut 46 text) bytes

-- a byte run text of at most so many bytes
pub record IsRunsWithin (most : ℕ) (text : Text) (bytes : List ℕ) : Type 0 where
  pub is : IsRuns text bytes
  pub within : length bytes ≤ most
