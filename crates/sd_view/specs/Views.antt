-- What `tendrafiso_view` writes, by its word and by how it ended.
use Rattle.std.specs.Prelude.{◌≡◌, ◌⊎◌, ℕ, List, [], ◌∷◌, ◌++◌, codes, Result, Ok, Err}
use Rattle.std.specs.Fmt.{decimal}
use Rattle.sd_outside.specs.Streams.{IsPrefixOf}
use Rattle.sd_view.specs.declared.journeys.Journey.{Journey}
use Rattle.sd_view.specs.declared.lines.Line.{Line}
use Rattle.sd_view.specs.declared.status.Status.{Status}
use Rattle.sd_view.specs.declared.status.Ended.{Ended}
use Rattle.sd_view.specs.declared.status.Ended.TheVariants.{Done, Refused, Usage}
use Rattle.sd_view.specs.declared.status.Stop.{Stop}
use Rattle.sd_view.specs.declared.status.Stop.TheVariants.{SourceFault, SinkFault, NoMemory}
use Rattle.sd_view.specs.declared.views.View.{View}
use Rattle.sd_view.specs.declared.views.View.TheVariants.{Ladder, Pcap, Svg}
use Rattle.sd_view.specs.Transcript.{IsTranscript, IsFirstOutside}
use Rattle.sd_view.specs.Capture.{capture}
use Rattle.sd_view.specs.Journeys.{AreJourneys}
use Rattle.sd_view.specs.Ladder.{ladder}
use Rattle.sd_view.specs.Picture.{picture}

-- the word of a view
abbrev pub name : View → List ℕ
name Ladder = codes "ladder"
name Pcap = codes "pcap"
name Svg = codes "svg"

-- the arguments are the word of a view alone
abbrev pub HasWords : View → List (List ℕ) → Type 0
HasWords view words = words ≡ name view ∷ []

-- what is written where the arguments are unknown
abbrev pub usage_line : List ℕ
usage_line = codes "usage: ladder | pcap | svg\n"

-- what a view makes of a run: the ladder or the picture with its journeys, or its capture
abbrev pub IsDrawing : View → List Line → List ℕ → Type 0
IsDrawing Ladder run out = (journeys : List Journey) × AreJourneys run journeys × (out ≡ ladder journeys run)
IsDrawing Pcap run out = out ≡ capture run
IsDrawing Svg run out = (journeys : List Journey) × AreJourneys run journeys × (out ≡ picture journeys run)

-- the text is a transcript, and this is what the view makes of its run
pub record IsDrawn (view : View) (text out : List ℕ) : Type 0 where
  pub run : List Line
  pub is : IsTranscript text run
  pub whole : IsDrawing view run out

abbrev pub refusal_line : ℕ → List ℕ
refusal_line n = codes "refused line " ++ decimal n ++ 10 ∷ []

-- the refusal of a text that is no transcript: it names the first line outside the grammar
pub record IsRefusal (text out : List ℕ) : Type 0 where
  pub line : ℕ
  pub first : IsFirstOutside text line
  pub whole : out ≡ refusal_line line

-- a prefix of what would have been written
pub record IsCut (view : View) (text out : List ℕ) : Type 0 where
  pub full : List ℕ
  pub is : IsDrawn view text full ⊎ IsRefusal text full
  pub prefix : IsPrefixOf out full

abbrev pub IsOutputPrefix : View → List ℕ → List ℕ → Type 0
IsOutputPrefix view text out = (out ≡ []) ⊎ IsCut view text out

-- what is written, by how the program ended
abbrev pub Draws : View → Result Ended Stop → List ℕ → List ℕ → Type 0
Draws view (Ok Done) text out = IsDrawn view text out
Draws view (Ok Refused) text out = IsRefusal text out
Draws view (Ok Usage) text out = ⊥
Draws view (Err SourceFault) text out = out ≡ []
Draws view (Err SinkFault) text out = IsOutputPrefix view text out
Draws view (Err NoMemory) text out = IsOutputPrefix view text out

abbrev pub status_for : Result Ended Stop → Status
status_for (Ok Done) = record { 0 = 0 }
status_for (Ok Refused) = record { 0 = 1 }
status_for (Ok Usage) = record { 0 = 2 }
status_for (Err SourceFault) = record { 0 = 3 }
status_for (Err SinkFault) = record { 0 = 4 }
status_for (Err NoMemory) = record { 0 = 5 }
