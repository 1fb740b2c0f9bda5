-- The picture of a run, a document of SVG (Scalable Vector Graphics 1.1): downwards a row for each line of its transcript, and a
-- lifeline for the client, one for the server, and one for strangers where there are any. Lengths are in pixels.
use Rattle.std.specs.Prelude.{ℕ, ◌+◌, ◌*◌, ◌/◌, ◌==◌, Bool, List, [], ◌∷◌, ◌++◌, length, flat_map, codes, Option, Some, None, slice_get, if◌then◌else◌}
use Rattle.std.specs.Fmt.{decimal}
use Rattle.sd_text.specs.Texts.{Text}
use Rattle.sd_view.specs.declared.ends.Column.{Column}
use Rattle.sd_view.specs.declared.ends.Column.TheVariants.{Client, Server, Stranger}
use Rattle.sd_view.specs.declared.journeys.Journey.{Journey}
use Rattle.sd_view.specs.declared.lines.Arrival.{Arrival}
use Rattle.sd_view.specs.declared.lines.Arrival.TheVariants.{Served, Crashed, Faulted, Got}
use Rattle.sd_view.specs.declared.lines.Line.{Line}
use Rattle.sd_view.specs.declared.lines.Line.TheVariants.{Sent, Came, Failed, Answer}
use Rattle.sd_view.specs.declared.protocols.Protocol.{Protocol}
use Rattle.sd_view.specs.declared.protocols.Protocol.TheVariants.{Rarp, Tftp, Portmap, Bootparams, Mount, Nfs, Other}
use Rattle.sd_view.specs.Journeys.{is_stranger}
use Rattle.sd_view.specs.Ladder.{has_strangers}

-- ---- places

-- the lifelines
unfoldable pub x_of : Column → ℕ
x_of Client = 140
x_of Server = 400
x_of Stranger = 660

-- where texts begin, behind the last lifeline
unfoldable pub text_x : Bool → ℕ
text_x strangers = if strangers then 680 else 420

-- the row of the line at this place, counted from 0
unfoldable pub y_of : ℕ → ℕ
y_of place = 90 + 16 * place

-- ---- elements

-- Three characters mean something else in a document, and have names there.
abbrev pub escaped : ℕ → Text
escaped b = if b == 38 then codes "&amp;" else (if b == 60 then codes "&lt;" else (if b == 62 then codes "&gt;" else b ∷ []))

unfoldable pub escape : Text → Text
escape text = flat_map (λ b. escaped b) text

-- A text that can be selected. Its class gives it a colour.
unfoldable pub text_element : Text → ℕ → ℕ → Text → Text
text_element class x y text =
    codes "<text class='" ++ class ++ codes "' x='" ++ decimal x ++ codes "' y='" ++ decimal y ++ codes "'>" ++ escape text ++ codes "</text>\n"

-- a line from one place to another
unfoldable pub line_element : Text → ℕ → ℕ → ℕ → ℕ → Text
line_element class x1 y1 x2 y2 =
    codes "<line class='" ++ class ++ codes "' x1='" ++ decimal x1 ++ codes "' y1='" ++ decimal y1 ++ codes "' x2='" ++ decimal x2 ++ codes "' y2='" ++ decimal y2 ++ codes "'/>\n"

-- a cross
unfoldable pub cross_element : Text → ℕ → ℕ → Text
cross_element class x y = codes "<path class='" ++ class ++ codes "' d='M" ++ decimal x ++ codes " " ++ decimal y ++ codes " m-5 -5 l10 10 m0 -10 l-10 10'/>\n"

-- the class of what is drawn of a packet, by its protocol
abbrev pub class_of : Protocol → Text
class_of Rarp = codes "rarp"
class_of Tftp = codes "tftp"
class_of Portmap = codes "portmap"
class_of Bootparams = codes "bootparams"
class_of Mount = codes "mount"
class_of Nfs = codes "nfs"
class_of Other = codes "other"

-- lines of this class end in an arrow's head
abbrev pub arrow_class : Protocol → Text
arrow_class p = class_of p ++ codes " arrow"

-- ---- rows

unfoldable pub tick_element : ℕ → ℕ → Text
tick_element tick y = text_element (codes "tick") 120 y (decimal tick)

-- A third of the way to the other lifeline goes the line of a lost packet, and ends in a cross: so it meets no third lifeline.
unfoldable pub lost_elements : ℕ → Journey → Text
lost_elements y j =
    let end = (x_of j.from * 2 + x_of j.to) / 3 in
    line_element (class_of j.protocol) (x_of j.from) y end y ++ cross_element (class_of j.protocol) end y

-- What goes to a stranger is drawn at once, since a transcript doesn't tell when it arrives; all else is drawn where it arrives.
unfoldable pub leaving_elements : ℕ → Journey → Text
leaving_elements y j =
    if j.lost then lost_elements y j else
    (if is_stranger j.to then line_element (arrow_class j.protocol) (x_of j.from) y (x_of j.to) y else [])

-- a packet that is sent: its tick, its number and what it says
abbrev pub sent_elements : Bool → ℕ → ℕ → ℕ → Option Journey → Text
sent_elements strangers y tick id (Some j) =
    tick_element tick y ++ leaving_elements y j ++ text_element (class_of j.protocol) (text_x strangers) y (decimal id ++ codes "  " ++ j.text)
sent_elements strangers y tick id None = []

-- where and how a packet arrived
abbrev pub arrival_x : Arrival → ℕ
arrival_x Served = x_of Server
arrival_x Crashed = x_of Server
arrival_x Faulted = x_of Server
arrival_x Got = x_of Client

abbrev pub arrival_class : Arrival → Text
arrival_class Served = codes "came"
arrival_class Crashed = codes "event"
arrival_class Faulted = codes "event"
arrival_class Got = codes "came"

abbrev pub arrival_text : Arrival → Text
arrival_text Served = codes "  served"
arrival_text Crashed = codes "  the server crashed"
arrival_text Faulted = codes "  the server's disk failed"
arrival_text Got = codes "  got"

-- A packet that arrives: an arrow from the row in which it was sent.
abbrev pub came_elements : Bool → ℕ → ℕ → ℕ → Arrival → Option Journey → Text
came_elements strangers y tick id how (Some j) =
    tick_element tick y ++ line_element (arrow_class j.protocol) (x_of j.from) (y_of j.place) (arrival_x how) y
    ++ text_element (arrival_class how) (text_x strangers) y (decimal id ++ arrival_text how)
came_elements strangers y tick id how None = []

-- The row of a line. What is drawn of a packet is the journey with its number; each packet of a transcript has one.
abbrev pub line_elements : Bool → List Journey → ℕ → Line → Text
line_elements strangers journeys y (Sent tick id packet) = sent_elements strangers y tick id (slice_get journeys id)
line_elements strangers journeys y (Came how tick id) = came_elements strangers y tick id how (slice_get journeys id)
line_elements strangers journeys y (Failed tick) = tick_element tick y ++ text_element (codes "event") (text_x strangers) y (codes "the client's network failed")
line_elements strangers journeys y (Answer answer) = text_element (codes "answer") (text_x strangers) y answer

-- the rows of lines, of which the first has this place
abbrev pub rows : Bool → List Journey → ℕ → List Line → Text
rows strangers journeys place [] = []
rows strangers journeys place (line ∷ run) = line_elements strangers journeys (y_of place) line ++ rows strangers journeys (place + 1) run

-- ---- the document

-- SVG's own name, and what stands before the width of the document
unfoldable pub svg_tag : Text
svg_tag = codes "<svg xmlns='http://www.w3.org/2000/svg' width='"

unfoldable pub opening : Bool → ℕ → Text
opening strangers bottom =
    svg_tag ++ decimal (text_x strangers + 850) ++ codes "' height='" ++ decimal bottom ++ codes "'>\n"

-- how texts and lines look
unfoldable pub text_style : Text
text_style = codes "<style>\ntext { font: 11px monospace; white-space: pre; dominant-baseline: central; fill: currentColor } line, path { stroke: currentColor; fill: none }\n"

-- by class: ticks, arrivals, lifelines and their names, what went wrong, answers, arrows
unfoldable pub class_style : Text
class_style = codes ".tick { color: #666; text-anchor: end } .came { color: #666 } .life { color: #bbb } .end { text-anchor: middle; font-weight: bold }\n.event { color: #c00 } .answer { font-weight: bold } .arrow { marker-end: url(#head) }\n"

-- the colours of the protocols
unfoldable pub colour_style : Text
colour_style = codes ".rarp { color: #a0522d } .tftp { color: #0a7d32 } .portmap { color: #7b1fa2 } .bootparams { color: #0b5ea8 }\n.mount { color: #b8860b } .nfs { color: #d81b60 } .other { color: #555 }\n</style>\n"

-- an arrow's head
unfoldable pub head_marker : Text
head_marker = codes "<defs><marker id='head' markerWidth='8' markerHeight='8' refX='8' refY='4' orient='auto'><path d='M0 0 L8 4 L0 8'/></marker></defs>\n"

-- white paper
unfoldable pub background : Text
background = codes "<rect width='100%' height='100%' fill='white'/>\n"

unfoldable pub style : Text
style = text_style ++ class_style ++ colour_style ++ head_marker ++ background

-- which colour is which protocol's
unfoldable pub legend : Text
legend = text_element (class_of Rarp) 140 24 (codes "RARP") ++ text_element (class_of Tftp) 200 24 (codes "TFTP") ++ text_element (class_of Portmap) 260 24 (codes "portmapper")
    ++ text_element (class_of Bootparams) 360 24 (codes "bootparams") ++ text_element (class_of Mount) 460 24 (codes "MOUNT")
    ++ text_element (class_of Nfs) 520 24 (codes "NFS") ++ text_element (class_of Other) 570 24 (codes "other")

-- a lifeline with its name, which goes down to this row
unfoldable pub lifeline : Column → Text → ℕ → Text
lifeline column name bottom = text_element (codes "end") (x_of column) 50 name ++ line_element (codes "life") (x_of column) 60 (x_of column) bottom

unfoldable pub lifelines : Bool → ℕ → Text
lifelines strangers bottom =
    lifeline Client (codes "client") bottom ++ lifeline Server (codes "server") bottom ++ (if strangers then lifeline Stranger (codes "strangers") bottom else [])

unfoldable pub picture : List Journey → List Line → Text
picture journeys run =
    let strangers = has_strangers journeys in
    opening strangers (y_of (length run)) ++ style ++ legend ++ lifelines strangers (y_of (length run)) ++ rows strangers journeys 0 run ++ codes "</svg>\n"
