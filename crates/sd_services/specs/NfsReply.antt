-- The server's part of NFS: what a call is answered over the stored files, and what it changes in them (RFC 1094, section 2.2).
use Rattle.std.specs.Prelude.{ℕ, ◌+◌, Bool, false, ◌&&◌, ◌==◌, nat_le, nat_lt, if◌then◌else◌, List, [], length, slice_index_or, slice_set, Option, Some, None}
use Rattle.sd_outside.specs.Ranges.{put}
use Rattle.sd_outside.specs.declared.fhandle.FHandle.{FHandle}
use Rattle.sd_nfs_msg.specs.declared.message.NfsArgs.{NfsArgs}
use Rattle.sd_nfs_msg.specs.declared.message.NfsArgs.TheVariants as asks
use Rattle.sd_nfs_msg.specs.declared.message.NfsResult.{NfsResult}
use Rattle.sd_services.specs.Files.{Exported, Place, named_by}
use Rattle.sd_services.specs.Decisions.{nfs_result}
use Rattle.sd_services.specs.Part.{Change}

-- ---- the stored files: the swap file, where there is one

abbrev pub file_in : List (List ℕ) → ℕ → List ℕ
file_in stored file = slice_index_or stored file []

abbrev pub swap_file : ℕ
swap_file = 0

-- the stored files after a change, where there is one
abbrev pub changed : Option Change → List (List ℕ) → List (List ℕ)
changed None stored = stored
changed (Some change) stored = slice_set stored change.file (put change.at change.bytes (file_in stored change.file))

-- ---- calls that read or write the swap file

abbrev pub is_swap_place : Option Place → Bool
is_swap_place None = false
is_swap_place (Some place) = place.0 == 1

-- the handle is that of the live swap file
abbrev pub names_swap : Exported → FHandle → Bool
names_swap files h = is_swap_place (named_by files h.0)

-- READ (2.2.7) and WRITE (2.2.9) of that file, whoever calls
abbrev pub uses_swap : Exported → NfsArgs → Bool
uses_swap files (asks.Read at offset count total) = names_swap files at
uses_swap files (asks.Write at begin offset total bytes) = names_swap files at
uses_swap files others = false

-- the owner puts some bytes into the swap file, up to its end
abbrev pub swap_change : ℕ → ℕ → Option ℕ → ℕ → List ℕ → Option Change
swap_change owner from None offset bytes = None
swap_change owner from (Some size) offset bytes =
    if (from == owner) && nat_le (offset + length bytes) size && nat_lt 0 (length bytes)
    then Some (record { file = swap_file; at = offset; bytes = bytes })
    else None

-- What a call from an address changes: a WRITE (2.2.9) alone changes a file, and only the swap file.
abbrev pub nfs_change : Exported → ℕ → NfsArgs → Option Change
nfs_change files from (asks.Write at begin offset total bytes) =
    if names_swap files at then swap_change files.owner from files.swap offset bytes else None
nfs_change files from others = None

-- ---- the reply

-- What a call from an address is answered.
abbrev pub nfs_reply : Exported → List (List ℕ) → ℕ → NfsArgs → NfsResult
nfs_reply files stored from args = nfs_result files (file_in stored swap_file) from args
