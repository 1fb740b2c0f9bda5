-- A server over a disk that never fails: its part of the world is what it holds in memory and what its disk reads.
use Rattle.std.specs.Prelude.{ℕ, List, [], Option, Some, None}
use Rattle.sd_outside.specs.declared.calm_disk.CalmDisk.{CalmDisk}
use Rattle.sd_config.specs.declared.config.Config.{Config}
use Rattle.sd_services.specs.Part.{ServerPart}
use Rattle.sd_stable_disk.specs.Image.{held}
use Rattle.sd_server.specs.State.{part_with}
use Rattle.sd_server.specs.Standing.{ServerView, MayBe}

-- a server as its callers see it
pub record CalmView : Type 0 where
  pub config : Config
  pub part : ServerPart

-- what the disk reads, and what a crash leaves of it: it doesn't tell
abbrev pub calm_seen : CalmDisk → Option (List ℕ)
calm_seen disk = Some disk.bytes.items

abbrev pub calm_leaves : CalmDisk → List ℕ → Type 0
calm_leaves disk image = ⊥

abbrev pub files_or : Option (List (List ℕ)) → List (List ℕ)
files_or None = []
files_or (Some files) = files

abbrev pub part_of : ServerView CalmDisk → ServerPart
part_of v = part_with v.volatile (files_or (held v.store.disk.bytes.items))

-- it stands for this part, and there is no doubt
abbrev pub IsCalm : ServerView CalmDisk → Type 0
IsCalm v = MayBe calm_seen calm_leaves v (record { part = part_of v; doubt = None })
