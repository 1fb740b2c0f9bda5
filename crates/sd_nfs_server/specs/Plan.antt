-- What a plan says, and what it is to say.
use Rattle.std.specs.Prelude.{◌≡◌, ℕ, ◌+◌, ◌-◌, ◌≤◌, min, ⊤, Bool, true, false, ◌==◌, ◌&&◌, nat_le, nat_lt, if◌then◌else◌, List, [], length, replicate, Option, Some, None, IfSome, IsSomeAnd}
use Rattle.sd_outside.specs.Ranges.{part}
use Rattle.sd_outside.specs.declared.fhandle.FHandle.{FHandle}
use Rattle.sd_nfs_msg.specs.declared.message.NfsArgs.{NfsArgs}
use Rattle.sd_nfs_msg.specs.declared.message.NfsArgs.TheVariants as asks
use Rattle.sd_nfs_msg.specs.declared.message.NfsResult.{NfsResult}
use Rattle.sd_nfs_msg.specs.declared.message.NfsResult.TheVariants as results
use Rattle.sd_nfs_msg.specs.Layout.{ArgsFit}
use Rattle.sd_services.specs.Part.{Change}
use Rattle.sd_services.specs.NfsReply.{swap_file}
use Rattle.sd_services.specs.Files.{Exported, Place, named_by}
use Rattle.sd_services.specs.Decisions.{on_root, on_swap, node_at, refused, err_stale, err_acces, err_nospc, swap_attributes, first_handle}
use Rattle.sd_nfs_server.specs.declared.plan.NfsPlan.{NfsPlan}
use Rattle.sd_nfs_server.specs.declared.plan.NfsPlan.TheVariants as plans

-- a result, and the range of the swap file that is read or written for it, where the call is a READ or WRITE of that file
pub record Decision : Type 0 where
  pub done : NfsResult
  pub access : Option (ℕ × ℕ)

abbrev pub decision_of : NfsPlan → Decision
decision_of (plans.Now result) = record { done = result; access = None }
decision_of (plans.Swap result at len) = record { done = result; access = Some (at, len) }

-- a range without bytes has the place 0
abbrev pub range : ℕ → ℕ → ℕ × ℕ
range at len = ((if len == 0 then 0 else at), len)

-- how many bytes a READ gives
abbrev pub read_len : ℕ → ℕ → ℕ → ℕ
read_len size offset count = min (min count 8192) (size - offset)

-- a refused READ or WRITE has no bytes
abbrev pub swap_refused : ℕ → Decision
swap_refused status = record { done = refused status; access = Some (0, 0) }

abbrev pub swap_done : NfsResult → ℕ → ℕ → Decision
swap_done result at len = record { done = result; access = Some (range at len) }

abbrev pub swap_reads : ℕ → ℕ → ℕ → ℕ → ℕ → Decision
swap_reads owner from size offset count =
    if from == owner
    then swap_done (results.Read (swap_attributes size) (replicate (read_len size offset count) 0)) offset (read_len size offset count)
    else swap_refused err_acces

abbrev pub swap_writes : ℕ → ℕ → ℕ → ℕ → ℕ → Decision
swap_writes owner from size offset len =
    if from == owner
    then (if nat_le (offset + len) size then swap_done (results.Write (swap_attributes size)) offset len else swap_refused err_nospc)
    else swap_refused err_acces

-- the range that a call for the swap file reads or writes
abbrev pub swap_access : ℕ → ℕ → ℕ → NfsArgs → Option (ℕ × ℕ)
swap_access owner from size (asks.Read at offset count total) = Some (if from == owner then range offset (read_len size offset count) else (0, 0))
swap_access owner from size (asks.Write at begin offset total bytes) = Some (if (from == owner) && nat_le (offset + length bytes) size then range offset (length bytes) else (0, 0))
swap_access owner from size others = None

-- what is decided of a call for the swap file, where zeros stand for the bytes that it holds
abbrev pub swap_decision : ℕ → ℕ → ℕ → NfsArgs → Decision
swap_decision owner from size args = record { done = on_swap owner from size (replicate size 0) args; access = swap_access owner from size args }

abbrev pub swap_file_decision : ℕ → ℕ → Option ℕ → NfsArgs → Decision
swap_file_decision owner from None args = record { done = refused err_stale; access = None }
swap_file_decision owner from (Some size) args = swap_decision owner from size args

abbrev pub place_decision : Exported → ℕ → Option Place → NfsArgs → Decision
place_decision files from None args = record { done = refused err_stale; access = None }
place_decision files from (Some place) args =
    if place.0 == 0
    then record { done = on_root files.root place.1 (node_at files.root place.1) args; access = None }
    else swap_file_decision files.owner from files.swap args

abbrev pub handle_decision : Exported → ℕ → Option FHandle → NfsArgs → Decision
handle_decision files from None args = record { done = results.Null; access = None }
handle_decision files from (Some h) args = place_decision files from (named_by files h.0) args

-- what is decided of a call from an address
abbrev pub decision : Exported → ℕ → NfsArgs → Decision
decision files from args = handle_decision files from (first_handle args) args

-- ---- what a plan says of the reply and of the change

-- the swap file is as long as the tree says
abbrev pub IsSwapContent : Option ℕ → List ℕ → Type 0
IsSwapContent swap content = IfSome swap (λ size. length content ≡ size)

-- a READ's result with the bytes that were read
abbrev pub filled : NfsResult → List ℕ → NfsResult
filled (results.Read attr zeros) bytes = results.Read attr bytes
filled result bytes = result

-- the answer that a plan leads to, where the swap file holds this content and the disk has no fault
abbrev pub answer_of : NfsPlan → List ℕ → NfsResult
answer_of (plans.Now result) content = result
answer_of (plans.Swap done at len) content = filled done (part at len content)

abbrev pub is_write : NfsResult → Bool
is_write (results.Write attr) = true
is_write others = false

-- the bytes of a WRITE
abbrev pub bytes_of : NfsArgs → List ℕ
bytes_of (asks.Write at begin offset total bytes) = bytes
bytes_of others = []

-- the change that a plan leads to: a WRITE that is done with some bytes
abbrev pub change_of : NfsPlan → List ℕ → Option Change
change_of (plans.Now result) bytes = None
change_of (plans.Swap done at len) bytes = if is_write done && nat_lt 0 len then Some (record { file = swap_file; at = at; bytes = bytes }) else None

-- the call reads or writes the swap file
abbrev pub is_swap : NfsPlan → Bool
is_swap (plans.Now result) = false
is_swap (plans.Swap done at len) = true

-- the range is inside the swap file, and no longer than a message carries
abbrev pub HasRange : Option ℕ → NfsArgs → NfsPlan → Type 0
HasRange swap args (plans.Now result) = ⊤
HasRange swap args (plans.Swap done at len) = IsSomeAnd swap (λ size. at + len ≤ size) × (ArgsFit args → len ≤ 8192)
