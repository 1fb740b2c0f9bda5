-- What every tree keeps: its numbers and sizes fit their words.
use Rattle.std.specs.Prelude.{ℕ, ◌≤◌, ⊤, List, length, IfSome}
use Rattle.std.specs.List.{All}
use Rattle.sd_services.specs.declared.node.Node.{Node}
use Rattle.sd_services.specs.declared.node.Standing.{Standing}
use Rattle.sd_services.specs.declared.node.Standing.TheVariants as standing
use Rattle.sd_services.specs.Files.{Exported}
use Rattle.sd_services.specs.Names.{child_name}
use Rattle.sd_nfs_server.specs.Placing.{Ascends}

abbrev pub StandingFits : Standing → Type 0
StandingFits standing.Directory = ⊤
StandingFits (standing.File content) = length content ≤ 33554432
StandingFits (standing.Symlink target) = length target ≤ 1024

-- the name that the path has in a directory is no longer than a message carries
abbrev pub NameFits : List ℕ → Type 0
NameFits path = (dir : List ℕ) → IfSome (child_name dir path) (λ name. length name ≤ 255)

-- at most 1,024 directories for each of 256 items, and the root; in byte order of their paths
pub record NodesFit (nodes : List Node) : Type 0 where
  pub up : Ascends nodes
  pub few : length nodes ≤ 262401
  pub each : All (λ (node : Node). StandingFits node.what) nodes
  pub names : All (λ (node : Node). NameFits node.path) nodes

pub record FilesFit (files : Exported) : Type 0 where
  pub nodes : NodesFit files.root
  pub bytes : IfSome files.swap (λ size. size ≤ 33554432)
