-- Which texts are transcripts, and which line is the first outside the grammar.
use Rattle.std.specs.Prelude.{◌≡◌, ℕ, ◌+◌, ◌==◌, List, [], ◌∷◌, ◌++◌, length, if◌then◌else◌}
use Rattle.std.specs.List.{AllZip}
use Rattle.sd_outside.specs.Lines.{lines}
use Rattle.sd_text.specs.Texts.{Text}
use Rattle.sd_view.specs.declared.lines.Line.{Line}
use Rattle.sd_view.specs.declared.transcript.TranscriptError.{TranscriptError}
use Rattle.sd_view.specs.declared.transcript.TranscriptError.TheVariants as errors
use Rattle.sd_view.specs.Lines.{IsLine}
use Rattle.sd_view.specs.Order.{nothing, MayFollow, AllFollow, after_all}

-- a line with its line feed
pub record IsWhole (text : Text) (line : Line) : Type 0 where
  pub body : Text
  pub ended : text ≡ body ++ 10 ∷ []
  pub says : IsLine body line

-- lines that say this, one after another from the start of a transcript
pub record Say (texts : List Text) (run : List Line) : Type 0 where
  pub each : AllZip IsWhole texts run
  pub ordered : AllFollow nothing run

-- the text is the transcript of this run
abbrev pub IsTranscript : Text → List Line → Type 0
IsTranscript text run = Say (lines text) run

-- Line n is there, the lines before it are those of a transcript, and nothing that it could say may follow them. An unfinished line
-- says nothing.
pub record IsFirstOutside (text : Text) (n : ℕ) : Type 0 where
  pub before : List Text
  pub line : Text
  pub others : List Text
  pub run : List Line
  pub parted : lines text ≡ before ++ (line ∷ others)
  pub number : n ≡ length before + 1
  pub says : Say before run
  pub outside : (next : Line) → IsWhole line next → MayFollow (after_all nothing run) next → ⊥

-- what a refusal says of the text; out of memory says nothing
abbrev pub IsTranscriptError : Text → TranscriptError → Type 0
IsTranscriptError text (errors.Line n) = IsFirstOutside text n
IsTranscriptError text errors.NoMemory = Unit {0}
