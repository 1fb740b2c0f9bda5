-- The ladder of a run: a text with a row for each line of its transcript, and a lifeline for the client, one for the server, and one
-- for strangers where there are any.
use Rattle.std.specs.Prelude.{ℕ, Bool, false, ◌||◌, List, [], ◌∷◌, ◌++◌, flat_map, codes, Option, Some, None, slice_get, if◌then◌else◌}
use Rattle.std.specs.List.{list_any}
use Rattle.std.specs.Fmt.{decimal}
use Rattle.sd_text.specs.Texts.{Text}
use Rattle.sd_view.specs.declared.ends.Column.{Column}
use Rattle.sd_view.specs.declared.ends.Column.TheVariants.{Client, Server, Stranger}
use Rattle.sd_view.specs.declared.journeys.Journey.{Journey}
use Rattle.sd_view.specs.declared.lines.Arrival.{Arrival}
use Rattle.sd_view.specs.declared.lines.Arrival.TheVariants.{Served, Crashed, Faulted, Got}
use Rattle.sd_view.specs.declared.lines.Line.{Line}
use Rattle.sd_view.specs.declared.lines.Line.TheVariants.{Sent, Came, Failed, Answer}
use Rattle.sd_view.specs.Brief.{fit, at_left, at_right, spaces}
use Rattle.sd_view.specs.Journeys.{is_stranger}

-- ---- rows

-- the columns between two lifelines
abbrev pub gap : ℕ
gap = 19

-- The lifelines, with what stands between those of the client and the server, and between those of the server and the strangers.
abbrev pub lifelines : Bool → Text → Text → Text
lifelines strangers first second = codes "|" ++ first ++ codes "|" ++ (if strangers then second ++ codes "|" else [])

-- the lifelines alone
unfoldable pub bare : Bool → Text
bare strangers = lifelines strangers (spaces gap) (spaces gap)

-- A row: its tick at the right of 8 columns, the lifelines, and a text. It has at most 120 columns.
abbrev pub row : Text → Text → Text → Text
row tick middle text = fit 120 (at_right 8 tick ++ codes "  " ++ middle ++ text) ++ 10 ∷ []

-- what stands behind the lifelines
abbrev pub behind : Text → Text
behind text = codes "  " ++ text

-- ---- arrows

-- An arrow with a packet's number. That of a lost packet ends in an x.
abbrev pub arrow_right : Bool → ℕ → Text
arrow_right lost id = codes "-- " ++ decimal id ++ (if lost then codes " --x" else codes " -->")

abbrev pub arrow_left : Bool → ℕ → Text
arrow_left lost id = (if lost then codes "x-- " else codes "<-- ") ++ decimal id ++ codes " --"

-- A packet leaves at the lifeline of its sender, towards that of its receiver.
abbrev pub leaving : Bool → ℕ → Bool → Column → Column → Text
leaving strangers id lost Client to = lifelines strangers (at_left gap (arrow_right lost id)) (spaces gap)
leaving strangers id lost Server Client = lifelines strangers (at_right gap (arrow_left lost id)) (spaces gap)
leaving strangers id lost Server Server = lifelines strangers (at_right gap (arrow_left lost id)) (spaces gap)
leaving strangers id lost Server Stranger = lifelines strangers (spaces gap) (at_left gap (arrow_right lost id))
leaving strangers id lost Stranger to = lifelines strangers (spaces gap) (at_right gap (arrow_left lost id))

-- It comes to the lifeline of the server, from the side of its sender.
abbrev pub served : Bool → ℕ → Column → Text
served strangers id Client = lifelines strangers (at_right gap (arrow_right false id)) (spaces gap)
served strangers id Server = lifelines strangers (at_right gap (arrow_right false id)) (spaces gap)
served strangers id Stranger = lifelines strangers (spaces gap) (at_left gap (arrow_left false id))

-- Or it comes to that of the client.
abbrev pub got : Bool → ℕ → Text
got strangers id = lifelines strangers (at_left gap (arrow_left false id)) (spaces gap)

abbrev pub coming : Bool → ℕ → Arrival → Column → Text
coming strangers id Served from = served strangers id from
coming strangers id Crashed from = served strangers id from
coming strangers id Faulted from = served strangers id from
coming strangers id Got from = got strangers id

-- what happened where it came
abbrev pub event : Arrival → Text
event Served = []
event Crashed = behind (codes "the server crashed")
event Faulted = behind (codes "the server's disk failed")
event Got = []

-- ---- the ladder

-- The row of a line. What is drawn of a packet is the journey with its number; each packet of a transcript has one.
abbrev pub sent_row : Bool → ℕ → ℕ → Option Journey → Text
sent_row strangers tick id (Some j) = row (decimal tick) (leaving strangers id j.lost j.from j.to) (behind j.text)
sent_row strangers tick id None = []

abbrev pub came_row : Bool → ℕ → ℕ → Arrival → Option Journey → Text
came_row strangers tick id how (Some j) = row (decimal tick) (coming strangers id how j.from) (event how)
came_row strangers tick id how None = []

abbrev pub line_row : Bool → List Journey → Line → Text
line_row strangers journeys (Sent tick id packet) = sent_row strangers tick id (slice_get journeys id)
line_row strangers journeys (Came how tick id) = came_row strangers tick id how (slice_get journeys id)
line_row strangers journeys (Failed tick) = row (decimal tick) (bare strangers) (behind (codes "the client's network failed"))
line_row strangers journeys (Answer answer) = row [] (bare strangers) (behind (codes "answer: " ++ answer))

-- whose lifelines these are
abbrev pub heading : Bool → Text
heading strangers = codes "    tick  client              server" ++ (if strangers then codes "              strangers\n" else codes "\n")

abbrev pub meets_stranger : Journey → Bool
meets_stranger j = is_stranger j.from || is_stranger j.to

abbrev pub has_strangers : List Journey → Bool
has_strangers journeys = list_any (λ j. meets_stranger j) journeys

abbrev pub ladder : List Journey → List Line → Text
ladder journeys run = heading (has_strangers journeys) ++ flat_map (λ line. line_row (has_strangers journeys) journeys line) run
