-- A line says one thing.
use Rattle.std.proofs.Common.{◌≡◌, ℕ, cond, List, [], ◌∷◌, refl, ap, sym, ◌∙◌, subst, eqb, inl, inr, Result, Ok, Err}
use Rattle.std.specs.Prelude.{codes, ◌⊎◌}
use Rattle.std.specs.List.{onto_first}
use Rattle.std.specs.Str.{bytes_eq}
use Rattle.std.proofs.lemmas.Bool.{cases_Bool}
use Rattle.sd_outside.specs.declared.packet.Packet.{Packet}
use Rattle.sd_text.specs.Texts.{Text, fields}
use Rattle.sd_text.specs.declared.error.LineError.{LineError}
use Rattle.sd_text.specs.declared.error.LineError.TheVariants.{Outside, NoMemory}
use Rattle.sd_text.specs.Answers.{Reads}
use Rattle.sd_text.specs.Packets.{IsFrameLine, IsUdpLine, IsPacketLine}
use Rattle.sd_text.proofs.Exits.{firsts, others}
use Rattle.sd_text.proofs.NumberLemmas.{same_number}
use Rattle.sd_text.proofs.PacketLemmas.{one_packet}
use Rattle.sd_view.specs.declared.lines.Arrival.{Arrival}
use Rattle.sd_view.specs.declared.lines.Arrival.TheVariants as arrivals
use Rattle.sd_view.specs.declared.lines.Line.{Line}
use Rattle.sd_view.specs.declared.words.Word.{Word}
use Rattle.sd_view.specs.declared.words.Word.TheVariants as words
use Rattle.sd_view.specs.Lines.{greatest, IsSent, IsCame, IsFailed, IsAnswer, spelling, WordLine, IsLine}

-- a packet's line is known by its fields
abbrev ByFields : List Text → Packet → Type 0
ByFields parts packet = (args : List Text) × (((parts ≡ codes "frame" ∷ args) × IsFrameLine args packet) ⊎ ((parts ≡ codes "udp" ∷ args) × IsUdpLine args packet))

-- equal fields are of one packet
pub packet_alike : (f g : Text) (a : Packet) → fields f ≡ fields g → IsPacketLine f a → IsPacketLine g a
packet_alike f g a e x = subst (λ (parts : List Text). ByFields parts a) e x

same_packet : (f g : Text) (a b : Packet) → fields f ≡ fields g → IsPacketLine f a → IsPacketLine g b → a ≡ b
same_packet f g a b e x y = one_packet g a b (packet_alike f g a e x) y

sent_one : (args : List Text) (a b : Line) → IsSent args a → IsSent args b → a ≡ b
sent_one args a b x y =
    let e = sym x.text ∙ y.text in
    let tick = same_number 0 greatest x.tick y.tick (firsts e) x.is_tick y.is_tick in
    let id = same_number 0 greatest x.id y.id (firsts (others e)) x.is_id y.is_id in
    let packet = same_packet x.rest y.rest x.packet y.packet (others (others e)) x.is_packet y.is_packet in
    x.means ∙ rw (tick, id, packet) (sym y.means)

came_one : (how : Arrival) (args : List Text) (a b : Line) → IsCame how args a → IsCame how args b → a ≡ b
came_one how args a b x y =
    let e = sym x.text ∙ y.text in
    let tick = same_number 0 greatest x.tick y.tick (firsts e) x.is_tick y.is_tick in
    let id = same_number 0 greatest x.id y.id (firsts (others e)) x.is_id y.is_id in
    x.means ∙ rw (tick, id) (sym y.means)

failed_one : (args : List Text) (a b : Line) → IsFailed args a → IsFailed args b → a ≡ b
failed_one args a b x y =
    let tick = same_number 0 greatest x.tick y.tick (firsts (sym x.text ∙ y.text)) x.is_tick y.is_tick in
    x.means ∙ rw tick (sym y.means)

answer_one : (text : Text) (a b : Line) → IsAnswer text a → IsAnswer text b → a ≡ b
answer_one text a b x y = x.means ∙ sym y.means

word_one : (word : Word) (text : Text) (args : List Text) (a b : Line) → WordLine word text args a → WordLine word text args b → a ≡ b
word_one words.Sent text args a b x y = sent_one args a b x y
word_one words.Served text args a b x y = came_one arrivals.Served args a b x y
word_one words.Crashed text args a b x y = came_one arrivals.Crashed args a b x y
word_one words.Faulted text args a b x y = came_one arrivals.Faulted args a b x y
word_one words.Got text args a b x y = came_one arrivals.Got args a b x y
word_one words.Failed text args a b x y = failed_one args a b x y
word_one words.Addr text args a b x y = answer_one text a b x y
word_one words.Boot text args a b x y = answer_one text a b x y
word_one words.Out text args a b x y = answer_one text a b x y
word_one words.In text args a b x y = answer_one text a b x y
word_one words.Drop text args a b x y = answer_one text a b x y
word_one words.Wait text args a b x y = answer_one text a b x y

-- a word is known by its spelling

abbrev pub word_at : Text → Word
word_at text =
    cond (bytes_eq text (codes "sent")) words.Sent (cond (bytes_eq text (codes "served")) words.Served (cond (bytes_eq text (codes "crashed")) words.Crashed
    (cond (bytes_eq text (codes "faulted")) words.Faulted (cond (bytes_eq text (codes "got")) words.Got (cond (bytes_eq text (codes "failed")) words.Failed
    (cond (bytes_eq text (codes "addr")) words.Addr (cond (bytes_eq text (codes "boot")) words.Boot (cond (bytes_eq text (codes "out")) words.Out
    (cond (bytes_eq text (codes "in")) words.In (cond (bytes_eq text (codes "drop")) words.Drop words.Wait))))))))))

pub word_back : (word : Word) → word_at (spelling word) ≡ word
word_back words.Sent = refl
word_back words.Served = refl
word_back words.Crashed = refl
word_back words.Faulted = refl
word_back words.Got = refl
word_back words.Failed = refl
word_back words.Addr = refl
word_back words.Boot = refl
word_back words.Out = refl
word_back words.In = refl
word_back words.Drop = refl
word_back words.Wait = refl

pub one_word : (a b : Word) → spelling a ≡ spelling b → a ≡ b
one_word a b e = sym (word_back a) ∙ ap word_at e ∙ word_back b

pub one_line : (text : Text) (a b : Line) → IsLine text a → IsLine text b → a ≡ b
one_line text a b x y =
    let e = sym x.parted ∙ y.parted in
    let word : x.word ≡ y.word = one_word x.word y.word (firsts e) in
    let here : WordLine y.word text (fields y.behind) a = rw (word, others e) at x.says in
    word_one y.word text (fields y.behind) a b here y.says

-- ---- what a line is read as

onto_some : (x : ℕ) (parts : List Text) → onto_first x parts ≡ [] → ⊥
onto_some x [] e = absurd (cc e)
onto_some x (part ∷ parts) e = absurd (cc e)

pub some_field : (text : Text) → fields text ≡ [] → ⊥
some_field [] e = absurd (cc e)
some_field (b ∷ text) e = elim (cases_Bool (eqb b 32)) [ inl space ↦ absurd (cc (rw space at e)) | inr other ↦ onto_some b (fields text) (rw other at e) ]

-- nothing stands behind the first word
pub line_unparted : (text : Text) → fields text ≡ text ∷ [] → (line : Line) → IsLine text line → ⊥
line_unparted text e line h = some_field h.behind (others (sym h.parted ∙ e))

pub line_read : (text first behind : Text) (word : Word) (r : Result Line LineError) → fields text ≡ first ∷ fields behind → first ≡ spelling word
    → Reads (WordLine word text (fields behind)) r → Reads (IsLine text) r
line_read text first behind word (Ok line) e is h = record { word = word; behind = behind; parted = e ∙ ap (λ (t : Text). t ∷ fields behind) is; says = h }
line_read text first behind word (Err Outside) e is h = λ line other.
    let same = sym other.parted ∙ e in
    let one : other.word ≡ word = one_word other.word word (firsts same ∙ is) in
    h line (rw (one, others same) at other.says)
line_read text first behind word (Err NoMemory) e is h = tt

pub word_read : (word other : Word) (text : Text) (args : List Text) (r : Result Line LineError) → other ≡ word → Reads (WordLine word text args) r → Reads (WordLine other text args) r
word_read word other text args r is h = subst (λ (w : Word). Reads (WordLine w text args) r) (sym is) h
