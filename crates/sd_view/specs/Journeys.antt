-- What is drawn of each packet of a run.
use Rattle.std.specs.Prelude.{◌≡◌, ◌⊎◌, ℕ, ◌+◌, ◌==◌, Bool, true, false, not, ◌&&◌, List, [], ◌∷◌}
use Rattle.std.specs.List.{list_any}
use Rattle.sd_outside.specs.declared.packet.Packet.{Packet}
use Rattle.sd_text.specs.Texts.{Text}
use Rattle.sd_text.specs.Packets.{packet_text}
use Rattle.sd_show.specs.declared.calls.Heard.{Heard}
use Rattle.sd_show.specs.declared.error.ShowError.{ShowError}
use Rattle.sd_show.specs.Shown.{Shows, Hears}
use Rattle.sd_show.specs.Refused.{HasNoText}
use Rattle.sd_view.specs.declared.ends.Column.{Column}
use Rattle.sd_view.specs.declared.ends.Column.TheVariants.{Client, Server, Stranger}
use Rattle.sd_view.specs.declared.journeys.Journey.{Journey}
use Rattle.sd_view.specs.declared.lines.Line.{Line}
use Rattle.sd_view.specs.declared.lines.Line.TheVariants.{Sent, Came, Failed, Answer}
use Rattle.sd_view.specs.Ends.{ends_of, sender, receiver}
use Rattle.sd_view.specs.Protocols.{protocol_of}
use Rattle.sd_view.specs.Brief.{brief}

-- ---- whether it arrives

-- the line says that the packet with this number came
abbrev pub comes : ℕ → Line → Bool
comes id (Sent tick other packet) = false
comes id (Came how tick other) = id == other
comes id (Failed tick) = false
comes id (Answer answer) = false

abbrev pub arrives : ℕ → List Line → Bool
arrives id run = list_any (λ line. comes id line) run

abbrev pub is_stranger : Column → Bool
is_stranger Client = false
is_stranger Server = false
is_stranger Stranger = true

-- A packet to either end is lost where no line says that it came. What strangers get, a transcript doesn't tell.
abbrev pub is_lost : List Line → ℕ → Column → Bool
is_lost run id to = not (is_stranger to) && not (arrives id run)

-- ---- what it says

-- What a packet says behind these calls, in the words of `show`, and the calls behind it. A packet that `show` refuses says its own
-- line of bytes.
abbrev pub Says : List Heard → Packet → Text → List Heard → Type 0
Says seen packet text new = (Shows seen packet text × Hears seen packet new) ⊎ ((why : ShowError) × HasNoText seen packet why × (text ≡ packet_text packet) × (new ≡ seen))

-- ---- all of it

-- Packet number id, which line `place` says to be sent, counted from 0: from where to where it goes, whether it is lost, its protocol,
-- and what it says behind the calls in the packets before it.
pub record IsJourney (run : List Line) (seen : List Heard) (place id : ℕ) (packet : Packet) (journey : Journey) (new : List Heard) : Type 0 where
  pub said : Text
  pub says : Says seen packet said new
  pub means : journey ≡ record {
    place = place;
    from = sender (ends_of run) packet;
    to = receiver (ends_of run) packet;
    lost = is_lost run id (receiver (ends_of run) packet);
    protocol = protocol_of packet;
    text = brief said;
  }

-- the journeys of the packets that these lines of a run say to be sent, the first of the lines at this place
abbrev pub JourneysFrom : List Line → List Heard → ℕ → List Line → List Journey → Type 0
JourneysFrom run seen place [] journeys = journeys ≡ []
JourneysFrom run seen place (Sent tick id packet ∷ lines) journeys =
    (journey : Journey) × (new : List Heard) × (others : List Journey) × (journeys ≡ journey ∷ others)
    × IsJourney run seen place id packet journey new × JourneysFrom run new (place + 1) lines others
JourneysFrom run seen place (Came how tick id ∷ lines) journeys = JourneysFrom run seen (place + 1) lines journeys
JourneysFrom run seen place (Failed tick ∷ lines) journeys = JourneysFrom run seen (place + 1) lines journeys
JourneysFrom run seen place (Answer answer ∷ lines) journeys = JourneysFrom run seen (place + 1) lines journeys

-- The journeys of a run, in the order of their numbers.
abbrev pub AreJourneys : List Line → List Journey → Type 0
AreJourneys run journeys = JourneysFrom run [] 0 run journeys
