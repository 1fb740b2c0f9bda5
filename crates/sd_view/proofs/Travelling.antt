-- The journeys of a run, line by line.
use Rattle.std.proofs.Common.{◌≡◌, ℕ, ◌+◌, List, [], ◌∷◌, ◌++◌, drop, refl, sym, subst, append_assoc}
use Rattle.std.proofs.lemmas.List.{append-nil}
use Rattle.sd_outside.specs.declared.packet.Packet.{Packet}
use Rattle.sd_show.specs.declared.calls.Heard.{Heard}
use Rattle.sd_view.specs.declared.journeys.Journey.{Journey}
use Rattle.sd_view.specs.declared.lines.Arrival.{Arrival}
use Rattle.sd_view.specs.declared.lines.Line.{Line}
use Rattle.sd_view.specs.declared.lines.Line.TheVariants.{Sent, Came, Failed, Answer}
use Rattle.sd_view.specs.Journeys.{IsJourney, JourneysFrom, AreJourneys}

-- with the journeys of the lines from this place on, these are the run's
abbrev pub AreSoFar : List Line → List Heard → ℕ → List Journey → Type 0
AreSoFar run seen place journeys = (more : List Journey) → JourneysFrom run seen place (drop place run) more → AreJourneys run (journeys ++ more)

pub one_travels : (run : List Line) (seen new : List Heard) (place : ℕ) (journeys : List Journey) (tick id : ℕ) (packet : Packet) (journey : Journey) → AreSoFar run seen place journeys
    → drop place run ≡ Sent tick id packet ∷ drop (place + 1) run → IsJourney run seen place id packet journey new → AreSoFar run new (place + 1) (journeys ++ journey ∷ [])
one_travels run seen new place journeys tick id packet journey so_far first is more rest =
    subst (λ (all : List Journey). AreJourneys run all) (sym (append_assoc journeys (journey ∷ []) more))
    (so_far (journey ∷ more) (subst (λ (lines : List Line). JourneysFrom run seen place lines (journey ∷ more)) (sym first) (journey, new, more, refl, is, rest)))

pub came_by : (run : List Line) (seen : List Heard) (place : ℕ) (journeys : List Journey) (how : Arrival) (tick id : ℕ) → AreSoFar run seen place journeys
    → drop place run ≡ Came how tick id ∷ drop (place + 1) run → AreSoFar run seen (place + 1) journeys
came_by run seen place journeys how tick id so_far first more rest = so_far more (subst (λ (lines : List Line). JourneysFrom run seen place lines more) (sym first) rest)

pub failed_by : (run : List Line) (seen : List Heard) (place : ℕ) (journeys : List Journey) (tick : ℕ) → AreSoFar run seen place journeys
    → drop place run ≡ Failed tick ∷ drop (place + 1) run → AreSoFar run seen (place + 1) journeys
failed_by run seen place journeys tick so_far first more rest = so_far more (subst (λ (lines : List Line). JourneysFrom run seen place lines more) (sym first) rest)

pub answered_by : (run : List Line) (seen : List Heard) (place : ℕ) (journeys : List Journey) (answer : List ℕ) → AreSoFar run seen place journeys
    → drop place run ≡ Answer answer ∷ drop (place + 1) run → AreSoFar run seen (place + 1) journeys
answered_by run seen place journeys answer so_far first more rest = so_far more (subst (λ (lines : List Line). JourneysFrom run seen place lines more) (sym first) rest)

-- no line is left
pub all_travelled : (run : List Line) (seen : List Heard) (place : ℕ) (journeys : List Journey) → drop place run ≡ [] → AreSoFar run seen place journeys → AreJourneys run journeys
all_travelled run seen place journeys none so_far =
    subst (λ (all : List Journey). AreJourneys run all) (append-nil journeys) (so_far [] (subst (λ (lines : List Line). JourneysFrom run seen place lines []) (sym none) refl))
