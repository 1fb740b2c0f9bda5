-- Putting nodes in byte order of their paths.
use Rattle.std.specs.Prelude.{◌≡◌, ◌≢◌, ℕ, ◌+◌, ◌<◌, ◌≤◌, ◌⊎◌, List, length, slice_index, slice_index_or, insert, take}
use Rattle.std.specs.List.{AllPairs}
use Rattle.sd_config.specs.declared.config.RootItem.{RootItem}
use Rattle.sd_services.specs.declared.node.Node.{Node}
use Rattle.sd_config.specs.Config.{item_path}
use Rattle.sd_services.specs.Files.{IsBefore, directory_at, node_of}

-- in byte order of their paths, each once
abbrev pub Ascends : List Node → Type 0
Ascends nodes = AllPairs (λ (a b : Node). IsBefore a.path b.path) nodes

-- the nodes below this index stand before the path, and the node at it doesn't
pub record IsPlaceOf (nodes : List Node) (path : List ℕ) (at : ℕ) : Type 0 where
  pub inside : at ≤ length nodes
  pub before : (k : ℕ) (d : Node) → k < at → IsBefore (slice_index_or nodes k d).path path
  pub after : (d : Node) → at < length nodes → IsBefore (slice_index_or nodes at d).path path → ⊥

-- a node with that path stands at the index
pub record HasPathAt (nodes : List Node) (at : ℕ) (path : List ℕ) : Type 0 where
  pub inside : at < length nodes
  pub same : (d : Node) → (slice_index_or nodes at d).path ≡ path

-- a node was put at its place, where nothing stood at its path; else nothing changed
pub record Placed (old : List Node) (node : Node) (new : List Node) : Type 0 where
  pub at : ℕ
  pub place : IsPlaceOf old node.path at
  pub put : (HasPathAt old at node.path × (new ≡ old)) ⊎ ((HasPathAt old at node.path → ⊥) × (new ≡ insert old at node))

-- each directory on the way to a path was placed whose slash stands below an index
pub data PlacedDirectories (path : List ℕ) (old : List Node) : ℕ → List Node → Type 0 where
  none_yet : PlacedDirectories path old 0 old
  no_slash : (n : ℕ) (new : List Node) → slice_index path n ≢ 47 → PlacedDirectories path old n new → PlacedDirectories path old (n + 1) new
  one_more : (n : ℕ) (mid new : List Node) → slice_index path n ≡ 47 → PlacedDirectories path old n mid → Placed mid (directory_at (take n path)) new → PlacedDirectories path old (n + 1) new

-- the slash at an index was looked at
abbrev pub LookedAt : List ℕ → ℕ → List Node → List Node → Type 0
LookedAt path i old new = ((slice_index path i ≢ 47) × (new ≡ old)) ⊎ ((slice_index path i ≡ 47) × Placed old (directory_at (take i path)) new)

-- what a line stands for was placed, and the directories on the way to it before
pub record PlacedItem (item : RootItem) (old new : List Node) : Type 0 where
  pub mid : List Node
  pub directories : PlacedDirectories (item_path item) old (length (item_path item)) mid
  pub placed : Placed mid (node_of item) new
