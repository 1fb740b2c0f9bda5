-- What the server does with a datagram to MOUNT.
use Rattle.std.specs.Prelude.{◌≡◌, ℕ, ◌<◌, ◌≤◌, ◌^◌, List, length, Option, Some, None}
use Rattle.sd_rpc_msg.specs.declared.message.Outcome.{Outcome}
use Rattle.sd_rpc_msg.specs.declared.message.Outcome.TheVariants.{Success, GarbageArgs}
use Rattle.sd_mount.specs.declared.message.MountArgs.{MountArgs}
use Rattle.sd_mount.specs.Layout.{result_bytes}
use Rattle.sd_mount.specs.Tables.{Mount}
use Rattle.sd_config.specs.declared.config.Config.{Config}
use Rattle.sd_services.specs.Part.{ServerPart}
use Rattle.sd_services.specs.RpcCalls.{auth_null}
use Rattle.sd_services.specs.MountReply.{mount_answer, mounts_by}
use Rattle.sd_server.specs.declared.replies.Change.{Change}
use Rattle.sd_server.specs.Sessions.{after_change, MayChange}

-- its address is one, and its path is no longer than a message carries
pub record MountHasRoom (m : Mount) : Type 0 where
  pub host : m.0 < 2 ^ 32
  pub path : length m.1 ≤ 1024

-- what MOUNT makes of the arguments that were found
abbrev pub mount_found : Config → List Mount → ℕ → Option MountArgs → Option Outcome
mount_found c mounts from None = Some (GarbageArgs auth_null)
mount_found c mounts from (Some args) = Some (Success auth_null (result_bytes (mount_answer c mounts from args)))

abbrev pub mounts_found : Config → List Mount → ℕ → Option MountArgs → List Mount
mounts_found c mounts from None = mounts
mounts_found c mounts from (Some args) = mounts_by c mounts from args

-- the change leads to these mounts
pub record Mounts (c : Config) (part : ServerPart) (change : Change) (mounts : List Mount) : Type 0 where
  pub becomes : after_change c part change ≡ record part { mounts = mounts }
  pub may : MayChange c part change
