-- For which states a server may stand, over a disk that tells what it reads; and what it sends and keeps over any disk.
use Rattle.std.specs.Prelude.{◌≡◌, ◌⊎◌, ℕ, ◌==◌, ◌&&◌, not, is_some, if◌then◌else◌, slice_index, List, [], ◌∷◌, length, map, Bool, true, false, Option, Some, None, IsSome, IfSome, IsSomeAnd}
use Rattle.std.specs.List.{flat_map}
use Rattle.sd_outside.specs.declared.packet.Packet.{Packet}
use Rattle.sd_config.specs.declared.config.Config.{Config}
use Rattle.sd_config.specs.Config.{IsConfig}
use Rattle.sd_stable_disk.specs.Files.{Stored, files, may_hold, IsRefused}
use Rattle.sd_stable_disk.specs.Image.{held}
use Rattle.sd_stable_disk.specs.declared.errors.OpenError.{OpenError}
use Rattle.sd_stable_disk.specs.declared.errors.OpenError.TheVariants as opening
use Rattle.sd_services.specs.NfsCalls.{is_swap_access}
use Rattle.sd_services.specs.NfsReply.{file_in, swap_file}
use Rattle.sd_services.specs.Reply.{out_of, next_of}
use Rattle.sd_services.specs.Failing.{failure_out, files_settled}
use Rattle.sd_nfs_server.specs.Acts.{damaged_in}
use Rattle.sd_nfs_server.specs.declared.acts.Acted.{Acted}
use Rattle.sd_server.specs.declared.access.Access.{Access}
use Rattle.sd_server.specs.declared.errors.ServerError.{ServerError}
use Rattle.sd_server.specs.declared.errors.ServerError.TheVariants as errors
use Rattle.sd_server.specs.Deciding.{body_by}
use Rattle.sd_server.specs.Access.{sizes_of, datagram, change_by, Acts}
use Rattle.sd_server.specs.State.{Volatile, State, part_with, volatile_of, ticked}
use Rattle.sd_server.specs.Ticks.{sent_at}
use Rattle.sd_server.specs.Turns.{Does, settled_by, recovers}

-- a server as its callers see it
pub record ServerView (D : Type 0) : Type 0 where
  pub config : Config
  pub volatile : Volatile
  pub store : Stored D

-- ---- over a disk that tells what it reads

-- these are the files with the doubtful change or without it
abbrev pub IsEither : State → Option (List (List ℕ)) → Type 0
IsEither s left = (done : Bool) × (left ≡ Some (files_settled done s.doubt s.part.files))

-- The state for which a server may stand. The files have the sizes of the configuration. Where its store is up there is no doubt.
-- What the disk reads, and what each crash leaves, are the files with the doubtful change or without it.
pub record MayBe {D : Type 0} (seen : D → Option (List ℕ)) (may_leave : D → List ℕ → Type 0) (v : ServerView D) (s : State) : Type 0 where
  pub part : s.part ≡ part_with v.volatile s.part.files
  pub sized : map (λ file. length file) s.part.files ≡ sizes_of v.config
  pub sure : v.store.up ≡ true → s.doubt ≡ None
  pub unsure : v.store.up ≡ false → IsSome s.doubt
  pub reads : IsEither s (files seen v.store)
  pub leaves : (left : Option (List (List ℕ))) → may_hold may_leave v.store left → IsEither s left

-- What a server does with a packet, from a state for which it may stand to one for which it then may stand: one Serve, or one Fault
-- where the disk failed. Settle stands before it exactly where a READ or WRITE of the swap file found the store down and recovery
-- was done.
pub record Turns {D : Type 0} (seen : D → Option (List ℕ)) (may_leave : D → List ℕ → Type 0) (tick : ℕ) (packet : Packet) (old : ServerView D) (out : List Packet) (faulted : Bool) (new : ServerView D) (s : State) : Type 0 where
  pub settles : Option Bool
  pub next : State
  pub stands : is_some settles ≡ recovers (is_swap_access old.config packet) old.store.up new.store.refusal
  pub does : Does old.config tick packet faulted (settled_by settles s) out next
  pub is : MayBe seen may_leave new next

-- What a server does at a tick, from a state for which it may stand to one for which it then may stand.
pub record Ticks {D : Type 0} (seen : D → Option (List ℕ)) (may_leave : D → List ℕ → Type 0) (tick : ℕ) (old : ServerView D) (out : List Packet) (new : ServerView D) (s : State) : Type 0 where
  pub out_is : out ≡ flat_map (sent_at old.config tick) s.part.sessions
  pub is : MayBe seen may_leave new (ticked old.config tick s)

-- ---- over any disk

-- What a server sends, and what it then holds in memory: as in Serve, where the disk reads files of these sizes; or as in Fault.
abbrev pub Goes : Config → ℕ → Packet → Volatile → List Packet → Bool → Volatile → Type 0
Goes c tick packet old out false new =
    (stored : List (List ℕ)) × (map (λ file. length file) stored ≡ sizes_of c)
    × (out ≡ out_of c tick (part_with old stored) packet) × (new ≡ volatile_of (next_of c tick (part_with old stored) packet))
Goes c tick packet old out true new = (is_swap_access c packet ≡ true) × (out ≡ failure_out c packet) × (new ≡ old)

-- the place that recovery refused, where a READ or WRITE of the swap file found the store down
abbrev pub damaged_by : Bool → Bool → Option OpenError → Option ℕ
damaged_by false was_up refusal = None
damaged_by true was_up refusal = damaged_in was_up refusal

-- a call of the disk failed
abbrev pub is_fault : Acted → Bool
is_fault acted = not (acted.status == 0) && not (is_some acted.damaged)

-- what holds of every server
pub record IsServer {D : Type 0} (seen : D → Option (List ℕ)) (c : Config) (store : Stored D) : Type 0 where
  pub config : IsConfig c
  pub sizes : store.sizes ≡ sizes_of c
  pub sized : IfSome (files seen store) (λ stored. map (λ file. length file) stored ≡ sizes_of c)

-- what an access did
pub record Accessed {D : Type 0} (seen : D → Option (List ℕ)) (may_leave : D → List ℕ → Type 0) (c : Config) (a : Access) (old new : Stored D) (out : List Packet) (faulted : Bool) (damaged : Option ℕ) : Type 0 where
  pub status : ℕ
  pub which : (status ≡ 0) ⊎ (status ≡ 5)
  pub acts : Acts seen may_leave (change_by a.act) old new status
  pub done : status ≡ 0 → (faulted ≡ false) × (damaged ≡ None) × IfSome (files seen old) (λ stored. out ≡ datagram c a.to (body_by a.act a.done (file_in stored swap_file)) ∷ [])
  pub failed : status ≡ 5 → (faulted ≡ not (is_some damaged)) × (out ≡ datagram c a.to a.failed ∷ [])
  -- over a disk that doesn't tell what it reads, a READ gives some bytes
  pub some : status ≡ 0 → (content : List ℕ) × (length content ≡ slice_index (sizes_of c) swap_file) × (out ≡ datagram c a.to (body_by a.act a.done content) ∷ [])
  pub told : IsSome (files seen old) → damaged ≡ None
  pub damaged_is : damaged ≡ damaged_in old.up new.refusal

-- ---- opening

-- the first two sizes that differ, where a file that is missing counts as 0
abbrev pub first_other : List ℕ → List ℕ → Option (ℕ × ℕ)
first_other [] [] = None
first_other [] (w ∷ want) = Some (0, w)
first_other (s ∷ stored) [] = Some (s, 0)
first_other (s ∷ stored) (w ∷ want) = if s == w then first_other stored want else Some (s, w)

-- what is read holds files of these sizes, where it is told
abbrev pub HoldsSizes : Option (List ℕ) → List ℕ → Type 0
HoldsSizes seen sizes = IfSome seen (λ image. IsSomeAnd (held image) (λ files. map (λ file. length file) files ≡ sizes))

-- by why its store isn't: out of memory is one answer
abbrev pub refused_by : OpenError → ServerError
refused_by opening.NoMemory = errors.NoMemory
refused_by opening.DiskFault = errors.Store opening.DiskFault
refused_by (opening.Damaged at) = errors.Store (opening.Damaged at)
refused_by (opening.Version got) = errors.Store (opening.Version got)

-- Why a server isn't opened: the image is refused, or it holds files of other sizes than are wanted.
abbrev pub IsRefusal : Option (List ℕ) → List ℕ → ServerError → Type 0
IsRefusal seen want (errors.Store opening.NoMemory) = ⊥
IsRefusal seen want (errors.Store opening.DiskFault) = Unit {0}
IsRefusal seen want (errors.Store (opening.Damaged at)) = IsRefused seen (opening.Damaged at)
IsRefusal seen want (errors.Store (opening.Version got)) = IsRefused seen (opening.Version got)
IsRefusal seen want (errors.OtherSizes stored wanted) = (sizes : List ℕ) × HoldsSizes seen sizes × (first_other sizes want ≡ Some (stored, wanted))
IsRefusal seen want errors.NoMemory = Unit {0}

-- the sizes of the files where the swap file is to have this size
abbrev pub sizes_in : Option ℕ → List ℕ
sizes_in None = []
sizes_in (Some size) = size ∷ []
