-- Whether a line says something: it says one thing, or nothing.
use Rattle.std.proofs.Common.{◌≡◌, ◌⊎◌, ℕ, ◌+◌, List, [], ◌∷◌, ◌++◌, take, drop, Option, Some, None, Err, refl, sym, ap, subst, ◌∙◌, eqb, inl, inr}
use Rattle.std.specs.Prelude.{position}
use Rattle.std.proofs.lemmas.Bool.{cases_eq}
use Rattle.sd_text.specs.Texts.{Text, fields, IsNumber}
use Rattle.sd_text.specs.Packets.{IsPacketLine}
use Rattle.sd_text.specs.declared.error.LineError.TheVariants.{Outside}
use Rattle.sd_text.proofs.CutLemmas.{cut_at, cut_none}
use Rattle.sd_text.proofs.Deciding.{Settled, Way, both, le_settled, lt_settled, text_settled, pass_settled, number_way, packet_way}
use Rattle.sd_text.proofs.Exits.{firsts, others}
use Rattle.sd_view.specs.declared.lines.Arrival.{Arrival}
use Rattle.sd_view.specs.declared.lines.Arrival.TheVariants as arrivals
use Rattle.sd_view.specs.declared.lines.Line.{Line}
use Rattle.sd_view.specs.declared.lines.Line.TheVariants as lines
use Rattle.sd_view.specs.declared.order.SoFar.{SoFar}
use Rattle.sd_view.specs.declared.words.Word.{Word}
use Rattle.sd_view.specs.declared.words.Word.TheVariants as words
use Rattle.sd_view.specs.Lines.{greatest, is_printable, IsSent, IsCame, IsFailed, IsAnswer, spelling, WordLine, IsLine}
use Rattle.sd_view.specs.Order.{MayFollow}
use Rattle.sd_view.specs.Transcript.{IsWhole}
use Rattle.sd_view.proofs.OneLine.{packet_alike, some_field, word_at, word_back, line_unparted, line_read}
use Rattle.sd_view.proofs.WholeLine.{none_whole, unfinished, whole_read}

-- the first field of a text and what stands behind it, or its only one
Parted : Text → Type 0
Parted text = ((first : Text) × (behind : Text) × (fields text ≡ first ∷ fields behind)) ⊎ (fields text ≡ text ∷ [])

parted : (text : Text) → Parted text
unfolding Parted
parted text = of (position (λ b. eqb b 32) text) refl
  where
    of : (place : Option ℕ) → position (λ b. eqb b 32) text ≡ place → Parted text
    of (Some at) e = inl (take at text, drop (at + 1) text, cut_at 32 text at e)
    of None e = inr (cut_none 32 text e)

-- ---- the arguments of lines

sent_by : (text first a second rest : Text) → fields text ≡ first ∷ fields a → fields a ≡ second ∷ fields rest
    → Way (IsNumber 0 greatest first) → Way (IsNumber 0 greatest second) → Way (IsPacketLine rest) → Way (IsSent (fields text))
sent_by text first a second rest e f (inl tick) (inl id) (inl packet) = inl (
  lines.Sent tick.0 id.0 packet.0,
  record {
    tick = tick.0;
    id = id.0;
    packet = packet.0;
    first = first;
    second = second;
    rest = rest;
    text = e ∙ ap (λ (l : List Text). first ∷ l) f;
    is_tick = tick.1;
    is_id = id.1;
    is_packet = packet.1;
    means = refl;
  },
)
sent_by text first a second rest e f (inr none) id packet = inr (λ line h. none h.tick (subst (λ (t : Text). IsNumber 0 greatest t h.tick) (firsts (sym h.text ∙ e)) h.is_tick))
sent_by text first a second rest e f (inl tick) (inr none) packet =
    inr (λ line h. none h.id (subst (λ (t : Text). IsNumber 0 greatest t h.id) (firsts (others (sym h.text ∙ e) ∙ f)) h.is_id))
sent_by text first a second rest e f (inl tick) (inl id) (inr none) =
    inr (λ line h. none h.packet (packet_alike h.rest rest h.packet (others (others (sym h.text ∙ e) ∙ f)) h.is_packet))

not_two : (a b : Text) (more : List Text) (text : Text) → a ∷ b ∷ more ≡ text ∷ [] → ⊥
not_two a b more text e = absurd (cc e)

sent_way : (text : Text) → Way (IsSent (fields text))
unfolding Parted
sent_way text = of (parted text)
  where
    behind : (first a : Text) → fields text ≡ first ∷ fields a → Parted a → Way (IsSent (fields text))
    behind first a e (inl q) = sent_by text first a q.0 q.1 e q.2 (number_way 0 greatest first) (number_way 0 greatest q.0) (packet_way q.1)
    behind first a e (inr one) = inr (λ line h. some_field h.rest (others (others (sym h.text ∙ e) ∙ one)))

    of : Parted text → Way (IsSent (fields text))
    of (inl p) = behind p.0 p.1 p.2 (parted p.1)
    of (inr one) = inr (λ line h. not_two h.first h.second (fields h.rest) text (sym h.text ∙ one))

came_by : (how : Arrival) (text first second : Text) → fields text ≡ first ∷ second ∷ [] → Way (IsNumber 0 greatest first) → Way (IsNumber 0 greatest second) → Way (IsCame how (fields text))
came_by how text first second e (inl tick) (inl id) = inl (
  lines.Came how tick.0 id.0,
  record {
    tick = tick.0;
    id = id.0;
    first = first;
    second = second;
    text = e;
    is_tick = tick.1;
    is_id = id.1;
    means = refl;
  },
)
came_by how text first second e (inr none) id = inr (λ line h. none h.tick (subst (λ (t : Text). IsNumber 0 greatest t h.tick) (firsts (sym h.text ∙ e)) h.is_tick))
came_by how text first second e (inl tick) (inr none) = inr (λ line h. none h.id (subst (λ (t : Text). IsNumber 0 greatest t h.id) (firsts (others (sym h.text ∙ e))) h.is_id))

came_way : (how : Arrival) (text : Text) → Way (IsCame how (fields text))
unfolding Parted
came_way how text = of (parted text)
  where
    behind : (first a : Text) → fields text ≡ first ∷ fields a → Parted a → Way (IsCame how (fields text))
    behind first a e (inl q) = inr (λ line h. some_field q.1 (sym (others (others (sym h.text ∙ e) ∙ q.2))))
    behind first a e (inr one) = came_by how text first a (e ∙ ap (λ (l : List Text). first ∷ l) one) (number_way 0 greatest first) (number_way 0 greatest a)

    of : Parted text → Way (IsCame how (fields text))
    of (inl p) = behind p.0 p.1 p.2 (parted p.1)
    of (inr one) = inr (λ line h. not_two h.first h.second [] text (sym h.text ∙ one))

failed_way : (text : Text) → Way (IsFailed (fields text))
unfolding Parted
failed_way text = of (parted text)
  where
    by_tick : fields text ≡ text ∷ [] → Way (IsNumber 0 greatest text) → Way (IsFailed (fields text))
    by_tick one (inl tick) = inl (lines.Failed tick.0, record { tick = tick.0; first = text; text = one; is_tick = tick.1; means = refl })
    by_tick one (inr none) = inr (λ line h. none h.tick (subst (λ (t : Text). IsNumber 0 greatest t h.tick) (firsts (sym h.text ∙ one)) h.is_tick))

    of : Parted text → Way (IsFailed (fields text))
    of (inl p) = inr (λ line h. some_field p.1 (sym (others (sym h.text ∙ p.2))))
    of (inr one) = by_tick one (number_way 0 greatest text)

answer_way : (text : Text) → Way (IsAnswer text)
answer_way text = elim (pass_settled is_printable text) [
  | inl plain ↦ inl (lines.Answer text, record { plain = plain; means = refl })
  | inr other ↦ inr (λ line h. other h.plain)
]

word_way : (word : Word) (text behind : Text) → Way (WordLine word text (fields behind))
word_way words.Sent text behind = sent_way behind
word_way words.Served text behind = came_way arrivals.Served behind
word_way words.Crashed text behind = came_way arrivals.Crashed behind
word_way words.Faulted text behind = came_way arrivals.Faulted behind
word_way words.Got text behind = came_way arrivals.Got behind
word_way words.Failed text behind = failed_way behind
word_way words.Addr text behind = answer_way text
word_way words.Boot text behind = answer_way text
word_way words.Out text behind = answer_way text
word_way words.In text behind = answer_way text
word_way words.Drop text behind = answer_way text
word_way words.Wait text behind = answer_way text

-- ---- lines

word_found : (text : Text) → ((word : Word) × (text ≡ spelling word)) ⊎ ((word : Word) → text ≡ spelling word → ⊥)
word_found text = elim (text_settled text (spelling (word_at text))) [
  | inl e ↦ inl (word_at text, e)
  | inr none ↦ inr (λ word e. none (e ∙ sym (ap (λ (t : Text). spelling (word_at t)) e ∙ ap spelling (word_back word))))
]

line_way : (text : Text) → Way (IsLine text)
unfolding Parted
line_way text = of (parted text)
  where
    by_word : (first behind : Text) → fields text ≡ first ∷ fields behind → (word : Word) → first ≡ spelling word → Way (WordLine word text (fields behind)) → Way (IsLine text)
    by_word first behind e word is (inl said) = inl (said.0, record { word = word; behind = behind; parted = e ∙ ap (λ (t : Text). t ∷ fields behind) is; says = said.1 })
    by_word first behind e word is (inr none) = inr (line_read text first behind word (Err Outside) e is none)

    by_first : (first behind : Text) → fields text ≡ first ∷ fields behind → ((word : Word) × (first ≡ spelling word)) ⊎ ((word : Word) → first ≡ spelling word → ⊥) → Way (IsLine text)
    by_first first behind e (inl w) = by_word first behind e w.0 w.1 (word_way w.0 text behind)
    by_first first behind e (inr none) = inr (λ line h. none h.word (firsts (sym e ∙ h.parted)))

    of : Parted text → Way (IsLine text)
    of (inl p) = by_first p.0 p.1 p.2 (word_found p.0)
    of (inr one) = inr (line_unparted text one)

-- ---- lines with their line feeds

Ending : Text → Type 0
Ending text = (text ≡ []) ⊎ ((body : Text) × (last : ℕ) × (text ≡ body ++ last ∷ []))

ending : (text : Text) → Ending text
unfolding Ending
ending [] = inl refl
ending (b ∷ text) = of (ending text)
  where
    of : Ending text → Ending (b ∷ text)
    of (inl none) = inr ([], b, ap (λ (t : Text). b ∷ t) none)
    of (inr p) = inr (b ∷ p.0, p.1, ap (λ (t : Text). b ∷ t) p.2)

empty_way : (text : Text) → text ≡ [] → (line : Line) → IsWhole text line → ⊥
empty_way text none = none_whole text (rw none refl)

pub whole_way : (text : Text) → Way (IsWhole text)
unfolding Ending
whole_way text = of (ending text)
  where
    by_line : (body : Text) → text ≡ body ++ 10 ∷ [] → Way (IsLine body) → Way (IsWhole text)
    by_line body e (inl said) = inl (said.0, record { body = body; ended = e; says = said.1 })
    by_line body e (inr none) = inr (whole_read text body (Err Outside) e none)

    by_last : (body : Text) (last : ℕ) → text ≡ body ++ last ∷ [] → (last ≡ 10) ⊎ (last ≡ 10 → ⊥) → Way (IsWhole text)
    by_last body last e (inl feed) = by_line body (e ∙ ap (λ (b : ℕ). body ++ b ∷ []) feed) (line_way body)
    by_last body last e (inr other) = inr (unfinished text body last e other)

    of : Ending text → Way (IsWhole text)
    of (inl none) = inr (empty_way text none)
    of (inr p) = by_last p.0 p.1 p.2 (cases_eq p.1 10)

-- ---- the order of lines

pub follow_settled : (s : SoFar) (line : Line) → Settled (MayFollow s line)
follow_settled s (lines.Sent tick id packet) = both (le_settled s.tick tick) (cases_eq id s.sent)
follow_settled s (lines.Came how tick id) = both (le_settled s.tick tick) (lt_settled id s.sent)
follow_settled s (lines.Failed tick) = le_settled s.tick tick
follow_settled s (lines.Answer answer) = inl tt
