-- What is mounted at a path.
use Rattle.std.specs.Prelude.{◌≡◌, ◌⊎◌, ℕ, List, Some}
use Rattle.sd_outside.specs.declared.fhandle.FHandle.{FHandle}
use Rattle.sd_config.specs.declared.config.SwapLine.{SwapLine}
use Rattle.sd_config.specs.declared.config.Config.{Config}
use Rattle.sd_services.specs.Files.{handle}

-- The handle of what is exported at a path: the root directory, or the swap file. Each is file 1 of its export.
abbrev pub IsMounted : Config → List ℕ → FHandle → Type 0
IsMounted c path file =
    ((c.root ≡ Some path) × (file.0 ≡ handle 0 1))
    ⊎ ((line : SwapLine) × (c.swap ≡ Some line) × (line.path ≡ path) × (file.0 ≡ handle 1 1))
