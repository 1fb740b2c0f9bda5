-- What a server does with a packet: the steps Serve, Fault, Settle and Crash, as the server sees them.
use Rattle.std.specs.Prelude.{◌≡◌, ℕ, ◌&&◌, not, is_some, List, Bool, true, false, Option, Some, None}
use Rattle.sd_outside.specs.declared.packet.Packet.{Packet}
use Rattle.sd_stable_disk.specs.declared.errors.OpenError.{OpenError}
use Rattle.sd_config.specs.declared.config.Config.{Config}
use Rattle.sd_services.specs.NfsCalls.{is_swap_access}
use Rattle.sd_services.specs.Reply.{out_of}
use Rattle.sd_services.specs.Failing.{failure_out}
use Rattle.sd_server.specs.State.{State, served, faulted, settled, crashed}

-- Serve: the packet is served. A READ or WRITE of the swap file is, where the disk knows what it holds.
pub record Serves (c : Config) (tick : ℕ) (packet : Packet) (s : State) (out : List Packet) (next : State) : Type 0 where
  pub sure : is_swap_access c packet ≡ true → s.doubt ≡ None
  pub out_is : out ≡ out_of c tick s.part packet
  pub next_is : next ≡ served c tick packet s

-- Fault: the disk failed at a READ or WRITE of the swap file. There is one doubtful change at most.
pub record Faults (c : Config) (packet : Packet) (s : State) (out : List Packet) (next : State) : Type 0 where
  pub access : is_swap_access c packet ≡ true
  pub doubts : Bool
  pub one : doubts ≡ true → s.doubt ≡ None
  pub out_is : out ≡ failure_out c packet
  pub next_is : next ≡ faulted c doubts packet s

-- one Serve, or one Fault where the disk failed
abbrev pub Does : Config → ℕ → Packet → Bool → State → List Packet → State → Type 0
Does c tick packet false s out next = Serves c tick packet s out next
Does c tick packet true s out next = Faults c packet s out next

-- the state after Settle, where it stands, which did the change or not
abbrev pub settled_by : Option Bool → State → State
settled_by None s = s
settled_by (Some done) s = settled done s

-- a READ or WRITE of the swap file found the store down, and recovery was done
abbrev pub recovers : Bool → Bool → Option OpenError → Bool
recovers access was_up refusal = access && (not was_up && not (is_some refusal))

-- Crash, after Settle: the files that are left where the server stops in the midst of a packet
abbrev pub CrashLeaves : Config → Packet → State → Option (List (List ℕ)) → Type 0
CrashLeaves c packet s left = (settles done : Bool) × (left ≡ Some (crashed c done packet (settled settles s)).part.files)
