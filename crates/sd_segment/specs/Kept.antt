-- What a segment keeps of what happened, as steps and as entries of the record.
use Rattle.std.specs.Prelude.{ℕ, zero, suc, ◌+◌, ◌-◌, List, [], ◌∷◌, ◌++◌, replicate, take, drop, slice_get, if◌then◌else◌}
use Rattle.std.specs.List.{flat_map}
use Rattle.sd_link.specs.Steps.{Step, Tick, Send, Stray, Serve, Data, End, Get, Fail, Entry}
use Rattle.sd_link.specs.Steps as steps
use Rattle.sd_server.specs.declared.ticking.Due.{Due}
use Rattle.sd_segment.specs.declared.flown.Flown.{Flown}
use Rattle.sd_segment.specs.declared.flown.Kept.{Kept}
use Rattle.sd_segment.specs.declared.flown.What.{What}
use Rattle.sd_segment.specs.declared.flown.What.TheVariants.{Sent, Strayed, Served, Again, Ended, Got, Failed}
use Rattle.sd_segment.specs.Flight.{packet_or}

abbrev pub step_of : List Flown → What → Step
step_of flight (Sent id) = Send (packet_or (slice_get flight id))
step_of flight (Strayed id) = Stray (packet_or (slice_get flight id))
step_of flight (Served id first count) = Serve id
step_of flight (Again number id) = Data number
step_of flight (Ended number) = End number
step_of flight (Got id) = Get id (packet_or (slice_get flight id))
step_of flight Failed = Fail

-- what happened, with the ticks between
abbrev pub steps_from : List Flown → ℕ → List Kept → List Step
steps_from flight tick [] = []
steps_from flight tick (kept ∷ more) = replicate (kept.tick - tick) Tick ++ (step_of flight kept.what ∷ steps_from flight kept.tick more)

-- the tick of the last of them
abbrev pub last_kept : ℕ → List Kept → ℕ
last_kept tick [] = tick
last_kept tick (kept ∷ more) = last_kept kept.tick more

-- all that happened until this tick
abbrev pub steps_kept : List Flown → List Kept → ℕ → List Step
steps_kept flight kept tick = steps_from flight 0 kept ++ replicate (tick - last_kept 0 kept) Tick

abbrev pub sent_entries : ℕ → ℕ → List Flown → List Entry
sent_entries tick id [] = []
sent_entries tick id (flown ∷ more) = steps.Sent tick id flown.packet ∷ sent_entries tick (id + 1) more

-- the entries of the record for what was kept
abbrev pub entries_of_kept : List Flown → ℕ → What → List Entry
entries_of_kept flight tick (Sent id) = sent_entries tick id (take 1 (drop id flight))
entries_of_kept flight tick (Strayed id) = sent_entries tick id (take 1 (drop id flight))
entries_of_kept flight tick (Served id first count) = steps.Served tick id ∷ sent_entries tick first (take count (drop first flight))
entries_of_kept flight tick (Again number id) = sent_entries tick id (take 1 (drop id flight))
entries_of_kept flight tick (Ended number) = []
entries_of_kept flight tick (Got id) = steps.Got tick id ∷ []
entries_of_kept flight tick Failed = steps.Failed tick ∷ []

abbrev pub entries_kept : List Flown → List Kept → List Entry
entries_kept flight kept = flat_map (λ k. entries_of_kept flight k.tick k.what) kept

-- the turns of sessions at a tick, the first that sends again under this id
abbrev pub turns_kept : ℕ → ℕ → List Due → List Kept
turns_kept tick id [] = []
turns_kept tick id (turn ∷ turns) =
    if turn.again then record { tick = tick; what = Again turn.number id } ∷ turns_kept tick (id + 1) turns
    else record { tick = tick; what = Ended turn.number } ∷ turns_kept tick id turns

-- so many packets of strangers, the first under this id
abbrev pub strays_kept : ℕ → ℕ → ℕ → List Kept
strays_kept tick id zero = []
strays_kept tick id (suc count) = record { tick = tick; what = Strayed id } ∷ strays_kept tick (id + 1) count

-- the ids that this names are below
abbrev pub ids_end : What → ℕ
ids_end (Sent id) = id + 1
ids_end (Strayed id) = id + 1
ids_end (Served id first count) = first + count
ids_end (Again number id) = id + 1
ids_end (Ended number) = 0
ids_end (Got id) = id + 1
ids_end Failed = 0
