-- The definitions of MOUNT on an example: the client's address is 0.0.0.7, the root is `/export/root`, the swap file `/export/swap`.
use Rattle.std.specs.Prelude.{◌≡◌, ℕ, List, [], ◌∷◌, codes, Some, None}
use mathlib.Core.Path.{refl}
use Rattle.sd_mount.specs.declared.message.MountArgs.TheVariants as asks
use Rattle.sd_mount.specs.declared.message.MountResult.TheVariants as results
use Rattle.sd_mount.specs.Tables.{Mount}
use Rattle.sd_text.specs.Texts.{ip_text}
use Rattle.sd_config.specs.declared.config.Config.{Config}
use Rattle.sd_services.specs.Files.{handle}
use Rattle.sd_services.specs.MountReply.{mount_answer, mounts_by}

abbrev example : Config → Config
example c = record c {
  client = record c.client { ip = 7; name = codes "sun" };
  root = Some (codes "/export/root");
  swap = Some (record { path = codes "/export/swap"; size = 16384 });
}

abbrev root : List ℕ
root = codes "/export/root"

abbrev swap : List ℕ
swap = codes "/export/swap"

-- ---- who is given what

root_given : (c : Config) → mount_answer (example c) [] 7 (asks.Mnt root) ≡ results.Given (record { 0 = handle 0 1 })
root_given c = refl

swap_given : (c : Config) → mount_answer (example c) [] 7 (asks.Mnt swap) ≡ results.Given (record { 0 = handle 1 1 })
swap_given c = refl

-- NFSERR_ACCES to another machine
refused_to_others : (c : Config) → mount_answer (example c) [] 8 (asks.Mnt root) ≡ results.Refused 13
refused_to_others c = refl

-- NFSERR_NOENT where nothing is exported
nothing_there : (c : Config) → mount_answer (example c) [] 7 (asks.Mnt (codes "/export")) ≡ results.Refused 2
nothing_there c = refl

-- ---- who mounted what

abbrev mounted : List Mount
mounted = (7, swap) ∷ []

is_mounted : (c : Config) → mounts_by (example c) [] 7 (asks.Mnt swap) ≡ mounted
is_mounted c = refl

once : (c : Config) → mounts_by (example c) mounted 7 (asks.Mnt swap) ≡ mounted
once c = refl

not_mounted : (c : Config) → mounts_by (example c) mounted 8 (asks.Mnt swap) ≡ mounted
not_mounted c = refl

unmounted : (c : Config) → mounts_by (example c) mounted 7 (asks.Umnt swap) ≡ []
unmounted c = refl

others_stay : (c : Config) → mounts_by (example c) mounted 8 asks.UmntAll ≡ mounted
others_stay c = refl

all_unmounted : (c : Config) → mounts_by (example c) mounted 7 asks.UmntAll ≡ []
all_unmounted c = refl

-- ---- lists

dumped : (c : Config) → mount_answer (example c) mounted 8 asks.Dump ≡ results.Mounts (record { host = ip_text 7; path = swap } ∷ [])
dumped c = refl

exported_paths : (c : Config) → mount_answer (example c) mounted 8 asks.Export
    ≡ results.Exports (record { path = codes "/export/root"; groups = codes "sun" ∷ [] } ∷ record { path = swap; groups = codes "sun" ∷ [] } ∷ [])
exported_paths c = refl
