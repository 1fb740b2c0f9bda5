-- What `show` and `pack` write: what each line of the input is turned into, or the first line that can't be.
use Rattle.std.specs.Prelude.{◌≡◌, ◌⊎◌, ℕ, ◌+◌, ◌<◌, ◌≤◌, List, [], ◌∷◌, ◌++◌, length, codes, Result, Ok, Err}
use Rattle.std.specs.List.{concat}
use Rattle.std.specs.Fmt.{decimal}
use Rattle.sd_outside.specs.declared.packet.Packet.{Packet}
use Rattle.sd_text.specs.Packets.{packet_text, IsPacketLine}
use Rattle.sd_text.specs.Texts.{Text}
use Rattle.sd_outside.specs.Streams.{IsPrefixOf}
use Rattle.sd_outside.specs.Lines.{lines, without_feed}
use Rattle.sd_script.specs.Limits.{input_limit}
use Rattle.sd_show.specs.declared.error.Word.{Word}
use Rattle.sd_show.specs.declared.error.ShowError.{ShowError}
use Rattle.sd_show.specs.declared.error.ShowError.TheVariants as errors
use Rattle.sd_show.specs.declared.calls.Heard.{Heard}
use Rattle.sd_show.specs.Shown.{Shows, Hears, Packs}
use Rattle.sd_show.specs.Refused.{word_text, not_a_line, HasNoText}
use Rattle.sd_boot.specs.declared.packet_texts.Direction.{Direction}
use Rattle.sd_boot.specs.declared.packet_texts.Direction.TheVariants.{Show, Pack}
use Rattle.sd_boot.specs.declared.status.Ended.{Ended}
use Rattle.sd_boot.specs.declared.status.Ended.TheVariants.{Done, Refused, Usage, NoImage}
use Rattle.sd_boot.specs.declared.status.Stop.{Stop}
use Rattle.sd_boot.specs.declared.status.Stop.TheVariants.{SourceFault, SinkFault, NoMemory}

-- `show` turns a packet's line, behind the calls that earlier lines held, into its text; the calls with that of the packet follow.
abbrev pub ShowsLine : List Heard → Text → Text → List Heard → Type 0
ShowsLine seen line out new = (packet : Packet) × IsPacketLine line packet × Shows seen packet out × Hears seen packet new

-- `pack` turns a text into the line of its packet.
abbrev pub PacksLine : Text → Text → Type 0
PacksLine line out = (packet : Packet) × Packs line packet × (out ≡ packet_text packet)

abbrev pub Gives : Direction → List Heard → Text → Text → List Heard → Type 0
Gives Show seen line out new = ShowsLine seen line out new
Gives Pack seen line out new = PacksLine line out × (new ≡ seen)

-- A line that is turned into nothing, and why: `show` reads no packet in it, or one that has no text; for `pack` it is no text
-- of a packet.
abbrev pub GivesNone : Direction → List Heard → Text → ShowError → Type 0
GivesNone Show seen line why =
    (((packet : Packet) → IsPacketLine line packet → ⊥) × (why ≡ not_a_line)) ⊎ ((packet : Packet) × IsPacketLine line packet × HasNoText seen packet why)
GivesNone Pack seen line why = ((packet : Packet) → Packs line packet → ⊥) × (why ≡ not_a_line)

-- Why a line is refused, where `end` counts the input's bytes up to its last: it reaches past the input limit, or it is turned
-- into nothing.
abbrev pub IsRefusedFor : Direction → List Heard → Text → ℕ → ShowError → Type 0
IsRefusedFor d seen line end why = ((input_limit < end) × (why ≡ not_a_line)) ⊎ ((end ≤ input_limit) × GivesNone d seen (without_feed line) why)

-- What lines are turned into, one after another, each with a line feed. Each stands behind the calls of those before it, so the
-- calls that are known go from the first list to the second.
abbrev pub AllGive : Direction → List Heard → List Text → Text → List Heard → Type 0
AllGive d seen [] out new = (out ≡ []) × (new ≡ seen)
AllGive d seen (line ∷ more) out new = (text : Text) × (rest : Text) × (next : List Heard)
    × Gives d seen (without_feed line) text next × AllGive d next more rest new × (out ≡ text ++ (10 ∷ rest))

-- All lines of an input within the limit are turned so. No call is known before the first.
pub record IsTranslated (d : Direction) (input out : Text) : Type 0 where
  pub seen : List Heard
  pub within : length input ≤ input_limit
  pub given : AllGive d [] (lines input) out seen

-- the line that names a refused line, with the word and the place
abbrev pub place_line : ℕ → Word → ℕ → Text
place_line n word place = codes "refused line " ++ decimal n ++ 32 ∷ word_text word ++ 32 ∷ decimal place ++ 10 ∷ []

-- The lines before the refused one are turned so, and its number, word and place follow.
pub record IsTextRefusal (d : Direction) (input out : Text) : Type 0 where
  pub before : List Text
  pub line : Text
  pub others : List Text
  pub texts : Text
  pub seen : List Heard
  pub word : Word
  pub place : ℕ
  pub cut : lines input ≡ before ++ (line ∷ others)
  pub within : length (concat before) ≤ input_limit
  pub given : AllGive d [] before texts seen
  pub why : IsRefusedFor d seen line (length (concat before) + length line) (errors.Bad word place)
  pub whole : out ≡ texts ++ place_line (length before + 1) word place

-- a prefix of what would have been written
pub record IsCutText (d : Direction) (input out : Text) : Type 0 where
  pub full : Text
  pub is : IsTranslated d input full ⊎ IsTextRefusal d input full
  pub prefix : IsPrefixOf out full

abbrev pub IsTextPrefix : Direction → Text → Text → Type 0
IsTextPrefix d input out = (out ≡ []) ⊎ IsCutText d input out

-- the same for each of the two programs
abbrev pub IsShown : Text → Text → Type 0
IsShown input out = IsTranslated Show input out

abbrev pub IsShowRefusal : Text → Text → Type 0
IsShowRefusal input out = IsTextRefusal Show input out

abbrev pub IsShowPrefix : Text → Text → Type 0
IsShowPrefix input out = IsTextPrefix Show input out

abbrev pub IsPacked : Text → Text → Type 0
IsPacked input out = IsTranslated Pack input out

abbrev pub IsPackRefusal : Text → Text → Type 0
IsPackRefusal input out = IsTextRefusal Pack input out

abbrev pub IsPackPrefix : Text → Text → Type 0
IsPackPrefix input out = IsTextPrefix Pack input out

-- what is written, by how the program ended
abbrev pub Translates : Direction → Result Ended Stop → Text → Text → Type 0
Translates d (Ok Done) input out = IsTranslated d input out
Translates d (Ok Refused) input out = IsTextRefusal d input out
Translates d (Ok Usage) input out = ⊥
Translates d (Ok NoImage) input out = ⊥
Translates d (Err SourceFault) input out = out ≡ []
Translates d (Err SinkFault) input out = IsTextPrefix d input out
Translates d (Err NoMemory) input out = IsTextPrefix d input out

-- what a refusal says; out of memory says nothing
abbrev pub IsNotGiven : Direction → List Heard → Text → ShowError → Type 0
IsNotGiven d seen line (errors.Bad word place) = GivesNone d seen line (errors.Bad word place)
IsNotGiven d seen line errors.NoMemory = Unit {0}

abbrev pub IsLineRefused : Direction → List Heard → Text → ℕ → ShowError → Type 0
IsLineRefused d seen line end (errors.Bad word place) = IsRefusedFor d seen line end (errors.Bad word place)
IsLineRefused d seen line end errors.NoMemory = Unit {0}
