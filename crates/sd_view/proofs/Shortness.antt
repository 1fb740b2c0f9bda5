-- The packets of a transcript are within its limits.
use Rattle.std.proofs.Common.{ℕ, zero, suc, ◌<◌, List, [], ◌∷◌, length, get_or, sym, subst, arith, inl, inr}
use Rattle.std.specs.List.{AllZip}
use Rattle.sd_outside.specs.declared.packet.Packet.{Packet}
use Rattle.sd_text.specs.Texts.{Text}
use Rattle.sd_text.specs.Packets.{IsPacketLine}
use Rattle.sd_view.specs.declared.lines.Arrival.{Arrival}
use Rattle.sd_view.specs.declared.lines.Line.{Line}
use Rattle.sd_view.specs.declared.words.Word.{Word}
use Rattle.sd_view.specs.declared.words.Word.TheVariants as words
use Rattle.sd_view.specs.Lines.{IsSent, IsCame, IsFailed, IsAnswer, WordLine}
use Rattle.sd_view.specs.Transcript.{IsWhole}
use Rattle.sd_view.specs.Capture.{IsShort, HasShort}

packet_short : (text : Text) (packet : Packet) → IsPacketLine text packet → IsShort packet
packet_short text packet h = elim h.1 [
  | inl frame ↦ subst (λ (p : Packet). IsShort p) (sym frame.1.means) frame.1.runs.within
  | inr udp ↦ subst (λ (p : Packet). IsShort p) (sym udp.1.means) udp.1.runs.within
]

sent_short : (args : List Text) (line : Line) → IsSent args line → HasShort line
sent_short args line h = subst (λ (x : Line). HasShort x) (sym h.means) (packet_short h.rest h.packet h.is_packet)

came_short : (how : Arrival) (args : List Text) (line : Line) → IsCame how args line → HasShort line
came_short how args line h = subst (λ (x : Line). HasShort x) (sym h.means) tt

failed_short : (args : List Text) (line : Line) → IsFailed args line → HasShort line
failed_short args line h = subst (λ (x : Line). HasShort x) (sym h.means) tt

answer_short : (text : Text) (line : Line) → IsAnswer text line → HasShort line
answer_short text line h = subst (λ (x : Line). HasShort x) (sym h.means) tt

word_short : (word : Word) (text : Text) (args : List Text) (line : Line) → WordLine word text args line → HasShort line
word_short words.Sent text args line h = sent_short args line h
word_short words.Served text args line h = came_short _ args line h
word_short words.Crashed text args line h = came_short _ args line h
word_short words.Faulted text args line h = came_short _ args line h
word_short words.Got text args line h = came_short _ args line h
word_short words.Failed text args line h = failed_short args line h
word_short words.Addr text args line h = answer_short text line h
word_short words.Boot text args line h = answer_short text line h
word_short words.Out text args line h = answer_short text line h
word_short words.In text args line h = answer_short text line h
word_short words.Drop text args line h = answer_short text line h
word_short words.Wait text args line h = answer_short text line h

pub all_short : (texts : List Text) (run : List Line) → AllZip IsWhole texts run → (k : ℕ) (d : Line) → k < length run → HasShort (get_or run k d)
all_short [] [] z k d h = absurd (omega arith)
all_short [] (line ∷ run) z k d h = absurd z
all_short (text ∷ texts) [] z k d h = absurd z
all_short (text ∷ texts) (line ∷ run) z zero d h = word_short z.0.says.word z.0.body _ line z.0.says.says
all_short (text ∷ texts) (line ∷ run) z (suc k) d h = all_short texts run z.1 k d (omega arith)
