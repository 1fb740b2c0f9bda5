-- A READ or WRITE of the swap file, from what is decided to what is done.
use Rattle.std.specs.Prelude.{◌≡◌, ◌⊎◌, ℕ, ◌+◌, ◌<◌, ◌≤◌, true, false, List, length, map, slice_index, Option, Some, None, IsSome}
use Rattle.std.specs.Option.{option_map}
use Rattle.sd_outside.specs.Ranges.{part}
use Rattle.sd_outside.specs.Disk.{LeavesOnly}
use Rattle.sd_outside.specs.declared.packet.Addr.{Addr}
use Rattle.sd_outside.specs.declared.packet.Packet.{Packet}
use Rattle.sd_outside.specs.declared.packet.Packet.TheVariants.{Udp}
use Rattle.sd_rpc_msg.specs.declared.message.Reply.{Reply}
use Rattle.sd_rpc_msg.specs.declared.message.Outcome.TheVariants.{Success, GarbageArgs}
use Rattle.sd_nfs_msg.specs.declared.message.NfsArgs.{NfsArgs}
use Rattle.sd_nfs_msg.specs.declared.message.NfsResult.{NfsResult}
use Rattle.sd_nfs_msg.specs.declared.message.NfsResult.TheVariants as results
use Rattle.sd_nfs_msg.specs.Layout as layout
use Rattle.sd_stable_disk.specs.Files.{Stored, files, may_hold, held_since, OnlyHolds}
use Rattle.sd_config.specs.declared.config.Config.{Config}
use Rattle.sd_services.specs.Part.{Change, swap_files}
use Rattle.sd_nfs_msg.specs.Layout.{nfs_port}
use Rattle.sd_services.specs.NfsReply.{swap_file, changed}
use Rattle.sd_services.specs.RpcCalls.{auth_null, reply_with}
use Rattle.sd_nfs_server.specs.Plan.{filled}
use Rattle.sd_nfs_server.specs.Acts.{is_refused}
use Rattle.sd_server.specs.declared.access.Act.{Act}
use Rattle.sd_server.specs.declared.access.Act.TheVariants as acts

-- the sizes of the server's files
abbrev pub sizes_of : Config → List ℕ
sizes_of c = map (λ file. length file) (swap_files c.swap)

-- ---- replies

-- the reply of a program that was called, with results
abbrev pub given_reply : ℕ → NfsResult → Reply
given_reply xid result = reply_with xid (Success auth_null (layout.result_bytes result))

-- the reply of NFS to the arguments that were found
abbrev pub nfs_found : (NfsArgs → NfsResult) → ℕ → Option NfsArgs → Reply
nfs_found gives xid None = reply_with xid (GarbageArgs auth_null)
nfs_found gives xid (Some args) = given_reply xid (gives args)

-- a datagram of NFS
abbrev pub datagram : Config → Addr → List ℕ → Packet
datagram c to body = Udp (record { ip = c.server.ip; port = nfs_port }) to body

-- ---- acts

-- the change that an act makes
abbrev pub change_by : Act → Option Change
change_by acts.Nothing = None
change_by (acts.Read at buffer) = None
change_by (acts.Write at bytes) = Some (record { file = swap_file; at = at; bytes = bytes })

-- the result where the swap file holds this content
abbrev pub result_by : Act → NfsResult → List ℕ → NfsResult
result_by acts.Nothing done content = done
result_by (acts.Read at buffer) done content = filled done (part at (length buffer.items) content)
result_by (acts.Write at bytes) done content = done

-- the range lies in the swap file and is no longer than a message carries; what is written is not empty
abbrev pub ActFits : List ℕ → Act → Type 0
ActFits sizes acts.Nothing = Unit {0}
ActFits sizes (acts.Read at buffer) = (swap_file < length sizes) × (at + length buffer.items ≤ slice_index sizes swap_file) × (length buffer.items ≤ 8192)
ActFits sizes (acts.Write at bytes) = (swap_file < length sizes) × (at + length bytes ≤ slice_index sizes swap_file) × (length bytes ≤ 8192) × (0 < length bytes)

-- a READ's result has as many bytes as are read
abbrev pub HasZeros : Act → NfsResult → Type 0
HasZeros (acts.Read at buffer) (results.Read attr bytes) = length bytes ≡ length buffer.items
HasZeros (acts.Read at buffer) others = ⊥
HasZeros others done = Unit {0}

-- ---- what an act does to a store

-- the files with a change or without it
abbrev pub IsChanged : Option Change → Option (List (List ℕ)) → Option (List (List ℕ)) → Type 0
IsChanged change old left = (left ≡ old) ⊎ (left ≡ option_map (changed change) old)

-- Status 0: the store is up, the change is done, and each crash leaves it.
pub record Done {D : Type 0} (seen : D → Option (List ℕ)) (may_leave : D → List ℕ → Type 0) (change : Option Change) (old new : Stored D) : Type 0 where
  pub up : new.up ≡ true
  pub came_up : is_refused old.up new.refusal ≡ false
  pub files_are : files seen new ≡ option_map (changed change) (files seen old)
  pub durable : ((old.up ≡ true) × (new ≡ old)) ⊎ OnlyHolds (files seen new) (may_hold may_leave new)

-- Status 5, where recovery failed: nothing changed.
pub record StaysDown {D : Type 0} (seen : D → Option (List ℕ)) (may_leave : D → List ℕ → Type 0) (old new : Stored D) : Type 0 where
  pub was : old.up ≡ false
  pub refused : is_refused old.up new.refusal ≡ true
  pub down : new.up ≡ false
  pub files_are : files seen new ≡ files seen old
  pub leaves : (left : Option (List (List ℕ))) → may_hold may_leave new left → may_hold may_leave old left ⊎ (left ≡ files seen old)

-- Status 5, where a read failed of a store that is up.
pub record ReadFails {D : Type 0} (seen : D → Option (List ℕ)) (may_leave : D → List ℕ → Type 0) (change : Option Change) (old new : Stored D) : Type 0 where
  pub none : change ≡ None
  pub up : new.up ≡ true
  pub came_up : is_refused old.up new.refusal ≡ false
  pub files_are : files seen new ≡ files seen old
  pub durable : OnlyHolds (files seen old) (may_hold may_leave new)

-- Status 5, where a write failed of a store that was up or came up: the change is in doubt.
pub record WriteFails {D : Type 0} (seen : D → Option (List ℕ)) (may_leave : D → List ℕ → Type 0) (change : Option Change) (old new : Stored D) : Type 0 where
  pub some : IsSome change
  pub down : new.up ≡ false
  pub came_up : is_refused old.up new.refusal ≡ false
  pub files_are : IsChanged change (files seen old) (files seen new)
  pub leaves : (left : Option (List (List ℕ))) → may_hold may_leave new left → IsChanged change (files seen old) left

-- what an act with this change did, by its status
pub data Acts {D : Type 0} (seen : D → Option (List ℕ)) (may_leave : D → List ℕ → Type 0) (change : Option Change) (old new : Stored D) : ℕ → Type 0 where
  done : Done seen may_leave change old new → Acts seen may_leave change old new 0
  stays_down : StaysDown seen may_leave old new → Acts seen may_leave change old new 5
  read_fails : ReadFails seen may_leave change old new → Acts seen may_leave change old new 5
  write_fails : WriteFails seen may_leave change old new → Acts seen may_leave change old new 5

-- what each crash since an act began leaves
abbrev pub ActLeaves : {D : Type 0} → (D → ℕ) → (D → Option (List ℕ)) → (D → List ℕ → Type 0) → (D → ℕ → List ℕ → Type 0) → Option Change → Stored D → Stored D → Type 0
ActLeaves moment seen may_leave left_since change old new = LeavesOnly (λ store. moment store.disk) (held_since left_since) old new (λ left. may_hold may_leave old left ⊎ IsChanged change (files seen old) left)

-- a READ's buffer holds the bytes of its range, and nothing else changed
abbrev pub IsRead : Act → List ℕ → Act → Type 0
IsRead (acts.Read at buffer) content (acts.Read at2 buffer2) = (at2 ≡ at) × (buffer2.items ≡ part at (length buffer.items) content)
IsRead (acts.Read at buffer) content others = ⊥
IsRead others content new = new ≡ others

-- the same, but that a READ's buffer has as many other bytes
abbrev pub SameShape : Act → Act → Type 0
SameShape (acts.Read at buffer) (acts.Read at2 buffer2) = length buffer2.items ≡ length buffer.items
SameShape (acts.Read at buffer) others = ⊥
SameShape others new = new ≡ others
