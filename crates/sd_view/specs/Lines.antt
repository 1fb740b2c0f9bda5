-- The lines of a transcript, each by itself and without its line feed.
use Rattle.std.specs.Prelude.{◌≡◌, ℕ, ◌&&◌, nat_le, List, [], ◌∷◌, Bool, codes}
use Rattle.std.specs.List.{AllPass}
use Rattle.sd_outside.specs.declared.packet.Packet.{Packet}
use Rattle.sd_text.specs.Texts.{Text, fields, IsNumber}
use Rattle.sd_text.specs.Packets.{IsPacketLine}
use Rattle.sd_view.specs.declared.lines.Arrival.{Arrival}
use Rattle.sd_view.specs.declared.lines.Arrival.TheVariants as arrivals
use Rattle.sd_view.specs.declared.lines.Line.{Line}
use Rattle.sd_view.specs.declared.lines.Line.TheVariants as lines
use Rattle.sd_view.specs.declared.words.Word.{Word}
use Rattle.sd_view.specs.declared.words.Word.TheVariants as words

-- the greatest tick, and the greatest number of a packet
abbrev pub greatest : ℕ
greatest = 18446744073709551615

-- `TICK ID PACKET`
pub record IsSent (args : List Text) (line : Line) : Type 0 where
  pub tick : ℕ
  pub id : ℕ
  pub packet : Packet
  pub first : Text
  pub second : Text
  pub rest : Text
  pub text : args ≡ first ∷ second ∷ fields rest
  pub is_tick : IsNumber 0 greatest first tick
  pub is_id : IsNumber 0 greatest second id
  pub is_packet : IsPacketLine rest packet
  pub means : line ≡ lines.Sent tick id packet

-- `TICK ID`
pub record IsCame (how : Arrival) (args : List Text) (line : Line) : Type 0 where
  pub tick : ℕ
  pub id : ℕ
  pub first : Text
  pub second : Text
  pub text : args ≡ first ∷ second ∷ []
  pub is_tick : IsNumber 0 greatest first tick
  pub is_id : IsNumber 0 greatest second id
  pub means : line ≡ lines.Came how tick id

-- `TICK`
pub record IsFailed (args : List Text) (line : Line) : Type 0 where
  pub tick : ℕ
  pub first : Text
  pub text : args ≡ first ∷ []
  pub is_tick : IsNumber 0 greatest first tick
  pub means : line ≡ lines.Failed tick

-- a space, or a printed character of ASCII
abbrev pub is_printable : ℕ → Bool
is_printable b = nat_le 0x20 b && nat_le b 0x7e

-- the whole line is the answer
pub record IsAnswer (text : Text) (line : Line) : Type 0 where
  pub plain : AllPass is_printable text
  pub means : line ≡ lines.Answer text

abbrev pub spelling : Word → Text
spelling words.Sent = codes "sent"
spelling words.Served = codes "served"
spelling words.Crashed = codes "crashed"
spelling words.Faulted = codes "faulted"
spelling words.Got = codes "got"
spelling words.Failed = codes "failed"
spelling words.Addr = codes "addr"
spelling words.Boot = codes "boot"
spelling words.Out = codes "out"
spelling words.In = codes "in"
spelling words.Drop = codes "drop"
spelling words.Wait = codes "wait"

-- a line with this first word, behind which these fields stand
abbrev pub WordLine : Word → Text → List Text → Line → Type 0
WordLine words.Sent text args line = IsSent args line
WordLine words.Served text args line = IsCame arrivals.Served args line
WordLine words.Crashed text args line = IsCame arrivals.Crashed args line
WordLine words.Faulted text args line = IsCame arrivals.Faulted args line
WordLine words.Got text args line = IsCame arrivals.Got args line
WordLine words.Failed text args line = IsFailed args line
WordLine words.Addr text args line = IsAnswer text line
WordLine words.Boot text args line = IsAnswer text line
WordLine words.Out text args line = IsAnswer text line
WordLine words.In text args line = IsAnswer text line
WordLine words.Drop text args line = IsAnswer text line
WordLine words.Wait text args line = IsAnswer text line

-- A line's first word says what it is, and at least one more field stands behind it.
pub record IsLine (text : Text) (line : Line) : Type 0 where
  pub word : Word
  pub behind : Text
  pub parted : fields text ≡ spelling word ∷ fields behind
  pub says : WordLine word text (fields behind) line
