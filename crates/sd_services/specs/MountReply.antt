-- The server's part of MOUNT: who may mount what, and who has mounted it (RFC 1094, appendix A).
use Rattle.std.specs.Prelude.{ℕ, ◌==◌, if◌then◌else◌, List, [], ◌∷◌, ◌++◌, map, Option, Some, None, Result, Ok, Err}
use Rattle.sd_outside.specs.declared.fhandle.FHandle.{FHandle}
use Rattle.sd_xdr.specs.Kind.{Value, bytes_of, second, place_of}
use Rattle.sd_mount.specs.declared.exports.ExportEntry.{ExportEntry}
use Rattle.sd_mount.specs.declared.lists.MountPair.{MountPair}
use Rattle.sd_mount.specs.declared.lists.ExportItem.{ExportItem}
use Rattle.sd_mount.specs.declared.message.MountArgs.{MountArgs}
use Rattle.sd_mount.specs.declared.message.MountArgs.TheVariants as asks
use Rattle.sd_mount.specs.declared.message.MountResult.{MountResult}
use Rattle.sd_mount.specs.declared.message.MountResult.TheVariants as results
use Rattle.sd_mount.specs.Layout as layout
use Rattle.sd_mount.specs.Tables.{Mount, mnt_of, with_mount, without, without_host}
use Rattle.sd_config.specs.declared.config.SwapLine.{SwapLine}
use Rattle.sd_config.specs.declared.config.Config.{Config}
use Rattle.sd_text.specs.Texts.{ip_text}
use Rattle.sd_services.specs.Files.{handle}
use Rattle.sd_services.specs.RpcCalls.{Program, none_between, asked}

abbrev pub mount_port : ℕ
mount_port = 1017

-- ---- the exports: the root directory and the swap file, both of them the client's

abbrev pub export_of : Config → ℕ → List ℕ → ExportEntry
export_of c number path = record { path = path; owner = c.client.ip; owner_name = c.client.name; fhandle = record { 0 = handle number 1 } }

abbrev pub root_export : Config → Option (List ℕ) → List ExportEntry
root_export c None = []
root_export c (Some path) = export_of c 0 path ∷ []

abbrev pub swap_export : Config → Option SwapLine → List ExportEntry
swap_export c None = []
swap_export c (Some line) = export_of c 1 line.path ∷ []

abbrev pub exports_of : Config → List ExportEntry
exports_of c = root_export c c.root ++ swap_export c c.swap

-- ---- the program: 100005, version 1

-- the arguments, behind the number of their procedure
abbrev pub mount_args_in : Value → MountArgs
mount_args_in v =
    if place_of v == 1 then asks.Mnt (bytes_of (second v)) else
    (if place_of v == 2 then asks.Dump else
    (if place_of v == 3 then asks.Umnt (bytes_of (second v)) else
    (if place_of v == 4 then asks.UmntAll else
    (if place_of v == 5 then asks.Export else asks.Null))))

abbrev pub given : Result FHandle ℕ → MountResult
given (Ok file) = results.Given file
given (Err status) = results.Refused status

abbrev pub pair_of : Mount → MountPair
pair_of m = record { host = ip_text m.0; path = m.1 }

abbrev pub item_of : ExportEntry → ExportItem
item_of e = record { path = e.path; groups = e.owner_name ∷ [] }

-- what a call from an address is answered, where these mounts were made
abbrev pub mount_answer : Config → List Mount → ℕ → MountArgs → MountResult
mount_answer c mounts from asks.Null = results.Void
mount_answer c mounts from (asks.Mnt path) = given (mnt_of (exports_of c) from path)
mount_answer c mounts from asks.Dump = results.Mounts (map pair_of mounts)
mount_answer c mounts from (asks.Umnt path) = results.Void
mount_answer c mounts from asks.UmntAll = results.Void
mount_answer c mounts from asks.Export = results.Exports (map item_of (exports_of c))

-- a mount is made where the handle was given
abbrev pub mounted : Result FHandle ℕ → ℕ → List ℕ → List Mount → List Mount
mounted (Ok file) from path mounts = with_mount from path mounts
mounted (Err status) from path mounts = mounts

-- the mounts after a call from an address
abbrev pub mounts_by : Config → List Mount → ℕ → MountArgs → List Mount
mounts_by c mounts from asks.Null = mounts
mounts_by c mounts from (asks.Mnt path) = mounted (mnt_of (exports_of c) from path) from path mounts
mounts_by c mounts from asks.Dump = mounts
mounts_by c mounts from (asks.Umnt path) = without from path mounts
mounts_by c mounts from asks.UmntAll = without_host from mounts
mounts_by c mounts from asks.Export = mounts

abbrev pub mount_giving : (Value → Option (List ℕ)) → Program
mount_giving gives = record { prog = 100005; vers = 1; last = 5; skips = none_between; args = layout.args_kind; gives = gives }

-- MOUNT as it is asked, whatever it gives
abbrev pub mount_to_ask : Program
mount_to_ask = mount_giving (λ v. None)

-- MOUNT as an address sees it, with these mounts
abbrev pub mount : Config → List Mount → ℕ → Program
mount c mounts from = mount_giving (λ v. Some (layout.result_bytes (mount_answer c mounts from (mount_args_in v))))

abbrev pub mounts_asked : Config → List Mount → ℕ → Option Value → List Mount
mounts_asked c mounts from None = mounts
mounts_asked c mounts from (Some v) = mounts_by c mounts from (mount_args_in v)

-- The mounts after a datagram from an address: those before where it is no call, or one that is refused.
abbrev pub mounts_after : Config → List Mount → ℕ → List ℕ → List Mount
mounts_after c mounts from body = mounts_asked c mounts from (asked (mount c mounts from) body)
