-- What the sessions do at a tick: the step Data or End of each whose present block is due.
use Rattle.std.specs.Prelude.{ℕ, ◌<◌, nat_lt, if◌then◌else◌, List, [], ◌∷◌, map, filter}
use Rattle.std.specs.List.{AllByRecursion}
use Rattle.sd_outside.specs.declared.packet.Packet.{Packet}
use Rattle.sd_config.specs.declared.config.Config.{Config}
use Rattle.sd_services.specs.Part.{Session}
use Rattle.sd_services.specs.Sessions.{is_due, sent_again, block_packet}
use Rattle.sd_server.specs.declared.ticking.Due.{Due}

-- Its block is sent again, or it ends where the block was sent often enough.
abbrev pub after_tick : Config → ℕ → Session → List Session
after_tick c tick s = if is_due c tick s then (if nat_lt s.sends c.tries then sent_again tick s ∷ [] else []) else s ∷ []

-- what it sends
abbrev pub sent_at : Config → ℕ → Session → List Packet
sent_at c tick s = if is_due c tick s then (if nat_lt s.sends c.tries then block_packet c s ∷ [] else []) else []

-- a session that is due: its number, and whether its block is sent again
abbrev pub due_of : Config → Session → Due
due_of c s = record { number = s.number; again = nat_lt s.sends c.tries }

-- all that are due, in order
abbrev pub dues : Config → ℕ → List Session → List Due
dues c tick sessions = map (due_of c) (filter (is_due c tick) sessions)

-- the numbers ascend
abbrev pub Ascending : List Session → Type 0
Ascending [] = Unit {0}
Ascending (s ∷ more) = AllByRecursion (λ t. s.number < t.number) more × Ascending more
