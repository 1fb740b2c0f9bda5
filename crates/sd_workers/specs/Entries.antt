-- What one entry of a history says: a packet that was served, or a tick.
use Rattle.std.specs.Prelude.{◌≡◌, ◌≤◌, ℕ, ◌||◌, is_some, IsSome, Bool, true, false, Option, Some, None}
use Rattle.std.specs.List.{flat_map}
use Rattle.sd_outside.specs.Causes.{Rose}
use Rattle.sd_outside.specs.declared.packet.Packet.{Packet}
use Rattle.sd_stable_disk.specs.declared.errors.OpenError.{OpenError}
use Rattle.sd_config.specs.declared.config.Config.{Config}
use Rattle.sd_services.specs.NfsCalls.{is_swap_access}
use Rattle.sd_server.specs.declared.replies.Replies.{Replies}
use Rattle.sd_server.specs.State.{State, Volatile, ticked}
use Rattle.sd_server.specs.Ticks.{after_tick, sent_at, Ascending}
use Rattle.sd_server.specs.Turns.{Does, settled_by}
use Rattle.sd_server.specs.Standing.{ServerView, Goes, damaged_by}
use Rattle.sd_workers.specs.declared.account.Entry.{Entry}
use Rattle.sd_workers.specs.declared.account.Event.{Event}
use Rattle.sd_workers.specs.declared.account.Event.TheVariants.{Served, Ticked}

abbrev pub entry : ℕ → ℕ → Event → Replies → ℕ → ℕ → Entry
entry by now event replies before after = record { by = by; now = now; event = event; replies = replies; before = before; after = after }

-- ---- over a disk that tells what it reads: from one state of the server to the next

-- Settle stands only before a READ or WRITE of the swap file, and settles a doubtful change.
abbrev pub MaySettle : Config → Packet → State → Option Bool → Type 0
MaySettle c packet s None = Unit {0}
MaySettle c packet s (Some done) = (is_swap_access c packet ≡ true) × IsSome s.doubt

-- The packet is served: one Serve, or one Fault where the disk's count rose, before which Settle may stand. The replies are those of the step.
pub record IsServed (c : Config) (e : Entry) (packet : Packet) (s next : State) : Type 0 where
  pub settles : Option Bool
  pub may : MaySettle c packet s settles
  pub does : Does c e.now packet e.replies.faulted (settled_by settles s) e.replies.packets next
  pub cause : e.replies.faulted ≡ true → Rose e.before e.after
  pub calm : e.replies.faulted ≡ false → e.after ≡ e.before
  pub sound : e.replies.damaged ≡ None

-- The Data or End step of each session that is due, in order of number. The replies are the blocks that are sent again.
pub record IsTicked (c : Config) (e : Entry) (s next : State) : Type 0 where
  pub order : Ascending s.part.sessions
  pub out_is : e.replies.packets ≡ flat_map (sent_at c e.now) s.part.sessions
  pub next_is : next ≡ ticked c e.now s
  pub unfaulted : e.replies.faulted ≡ false
  pub sound : e.replies.damaged ≡ None
  pub calm : e.after ≡ e.before

abbrev pub DoesBy : Config → Entry → Event → State → State → Type 0
DoesBy c e (Served packet) s next = IsServed c e packet s next
DoesBy c e Ticked s next = IsTicked c e s next

-- what the entry says of one state and the next
abbrev pub Moves : Config → Entry → State → State → Type 0
Moves c e s next = DoesBy c e e.event s next

-- ---- over any disk: from what the server holds in memory to what it then holds

-- What a server holds in memory: what a crash takes away, whether its store is up, and why recovery was refused.
pub record Memory : Type 0 where
  pub volatile : Volatile
  pub up : Bool
  pub refusal : Option OpenError

abbrev pub memory_of : {D : Type 0} → ServerView D → Memory
memory_of v = record { volatile = v.volatile; up = v.store.up; refusal = v.store.refusal }

-- The files are any. A Fault stands where the disk's count rose, and also where recovery found the image damaged, at the place that
-- is answered.
pub record ServedInMemory (c : Config) (e : Entry) (packet : Packet) (old new : Memory) : Type 0 where
  pub goes : Goes c e.now packet old.volatile e.replies.packets (e.replies.faulted || is_some e.replies.damaged) new.volatile
  pub place : e.replies.damaged ≡ damaged_by (is_swap_access c packet) old.up new.refusal
  pub later : e.before ≤ e.after
  pub cause : e.replies.faulted ≡ true → Rose e.before e.after
  pub calm : e.replies.faulted ≡ false → e.replies.damaged ≡ None → e.after ≡ e.before

pub record TickedInMemory (c : Config) (e : Entry) (old new : Memory) : Type 0 where
  pub out_is : e.replies.packets ≡ flat_map (sent_at c e.now) old.volatile.sessions
  pub next_is : new ≡ record old { volatile = record old.volatile { sessions = flat_map (after_tick c e.now) old.volatile.sessions } }
  pub unfaulted : e.replies.faulted ≡ false
  pub sound : e.replies.damaged ≡ None
  pub calm : e.after ≡ e.before

abbrev pub DoesInMemory : Config → Entry → Event → Memory → Memory → Type 0
DoesInMemory c e (Served packet) old new = ServedInMemory c e packet old new
DoesInMemory c e Ticked old new = TickedInMemory c e old new

-- what the entry says of what is held in memory before it and after it
abbrev pub MovesInMemory : Config → Entry → Memory → Memory → Type 0
MovesInMemory c e old new = DoesInMemory c e e.event old new
