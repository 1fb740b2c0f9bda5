-- The files that are exported, their numbers and their handles.
use Rattle.std.specs.Prelude.{◌≡◌, ℕ, ◌+◌, ◌⊎◌, ◌==◌, if◌then◌else◌, List, [], ◌∷◌, ◌++◌, map, replicate, bytes_eq, Option, Some, None, MatchOption, option_map}
use Rattle.std.specs.List.{All, AllPairs, Any, Contains, find}
use Rattle.std.specs.Int.{w32, to_be_bytes}
use Rattle.std.specs.Cmp.Lexicographic.{slice_cmp}
use Rattle.std.specs.Ordering.{nat_cmp}
use Rattle.std.specs.declared.cmp.Ordering.{Ordering}
use Rattle.std.specs.declared.cmp.Ordering.TheVariants as orders
use Rattle.sd_config.specs.declared.config.Config.{Config}
use Rattle.sd_config.specs.declared.config.RootItem.{RootItem}
use Rattle.sd_config.specs.declared.config.RootItem.TheVariants as items
use Rattle.sd_services.specs.declared.node.Node.{Node}
use Rattle.sd_services.specs.declared.node.Standing.{Standing}
use Rattle.sd_services.specs.declared.node.Standing.TheVariants as standing
use Rattle.sd_config.specs.Config.{item_path, IsDirectoryOf, IsConfig}

-- ---- the files of the root export

-- What stands at a full path. The root directory's path is the empty text; every other directory is on the way to a file or link.
abbrev pub StandsAt : List RootItem → List ℕ → Standing → Type 0
StandsAt lines path standing.Directory = (path ≡ []) ⊎ Any (λ line. IsDirectoryOf path (item_path line)) lines
StandsAt lines path (standing.File content) = Contains lines (items.File path content)
StandsAt lines path (standing.Symlink target) = Contains lines (items.Symlink path target)

abbrev pub Stands : List RootItem → Node → Type 0
Stands lines node = StandsAt lines node.path node.what

-- byte order of texts
abbrev pub IsBefore : List ℕ → List ℕ → Type 0
IsBefore p q = slice_cmp nat_cmp p q ≡ orders.Less

-- All that stands there, each once, in byte order of the full paths. Its k-th is file k, from 1; so file 1 is the root directory.
pub record AreNumbered (lines : List RootItem) (nodes : List Node) : Type 0 where
  pub ascends : AllPairs (λ (a b : Node). IsBefore a.path b.path) nodes
  pub stands : All (Stands lines) nodes
  pub each : (node : Node) → Stands lines node → Contains nodes node

-- ---- the files of both exports

-- the owner's address, the files of the root export by number, and the size of the swap file
pub record Exported : Type 0 where
  pub owner : ℕ
  pub root : List Node
  pub swap : Option ℕ

-- An export without a line has no files.
pub record Exports (config : Config) (files : Exported) : Type 0 where
  pub owned : files.owner ≡ config.client.ip
  pub rooted : MatchOption config.root (files.root ≡ []) (λ path. AreNumbered config.items files.root)
  pub swapped : files.swap ≡ option_map (λ line. line.size) config.swap

-- A place is the number of an export, 0 for the root and 1 for the swap, and the number of a file in it.
abbrev pub Place : Type 0
Place = ℕ × ℕ

-- the files of the root export, where the first has this number
abbrev pub root_places : ℕ → List Node → List Place
root_places number [] = []
root_places number (node ∷ nodes) = (0, number) ∷ root_places (number + 1) nodes

-- the swap export's one file
abbrev pub swap_places : Option ℕ → List Place
swap_places None = []
swap_places (Some size) = (1, 1) ∷ []

-- where all files are
abbrev pub live : Exported → List Place
live files = root_places 1 files.root ++ swap_places files.swap

-- ---- handles (RFC 1094, section 2.3.3)

-- "SDH1", the export, the file, generation 1, and 16 zeros
unfoldable pub handle : ℕ → ℕ → List ℕ
handle export number = to_be_bytes w32 0x53444831 ++ to_be_bytes w32 export ++ to_be_bytes w32 number ++ to_be_bytes w32 1 ++ replicate 16 0

-- the bytes are the handle of the live file at this place
pub record Names (files : Exported) (bytes : List ℕ) (place : Place) : Type 0 where
  pub is_live : Contains (live files) place
  pub same : bytes ≡ handle place.0 place.1

-- the live file whose handle the bytes are, where there is one
abbrev pub named_by : Exported → List ℕ → Option Place
named_by files bytes = find (λ (place : Place). bytes_eq bytes (handle place.0 place.1)) (live files)

-- ---- the files of a configuration, computed

abbrev pub directory_at : List ℕ → Node
directory_at path = record { path = path; what = standing.Directory }

-- the fronts of a text that end before a slash, where this much of it stands before the rest
abbrev pub fronts : List ℕ → List ℕ → List (List ℕ)
fronts before [] = []
fronts before (b ∷ rest) = if b == 47 then before ∷ fronts (before ++ b ∷ []) rest else fronts (before ++ b ∷ []) rest

abbrev pub standing_of : RootItem → Standing
standing_of (items.File path content) = standing.File content
standing_of (items.Symlink path target) = standing.Symlink target

abbrev pub node_of : RootItem → Node
node_of line = record { path = item_path line; what = standing_of line }

-- a line's file or link, and the directories on the way to it
abbrev pub nodes_of : RootItem → List Node
nodes_of line = node_of line ∷ map directory_at (fronts [] (item_path line))

-- a node at its place in byte order, where nothing stands at its path yet
abbrev pub place_by : Ordering → Node → Node → List Node → List Node → List Node
place_by orders.Less node first rest placed = first ∷ placed
place_by orders.Equal node first rest placed = first ∷ rest
place_by orders.Greater node first rest placed = node ∷ first ∷ rest

abbrev pub place : Node → List Node → List Node
place node [] = node ∷ []
place node (first ∷ rest) = place_by (slice_cmp nat_cmp first.path node.path) node first rest (place node rest)

abbrev pub sorted : List Node → List Node
sorted [] = []
sorted (node ∷ nodes) = place node (sorted nodes)

-- what stands for all lines, and the root directory
abbrev pub all_nodes : List RootItem → List Node
all_nodes [] = directory_at [] ∷ []
all_nodes (line ∷ lines) = nodes_of line ++ all_nodes lines

abbrev pub numbered : List RootItem → List Node
numbered lines = sorted (all_nodes lines)

abbrev pub root_files : Option (List ℕ) → List RootItem → List Node
root_files None lines = []
root_files (Some path) lines = numbered lines

-- The files of a configuration.
unfoldable pub exported : Config → Exported
exported config = record { owner = config.client.ip; root = root_files config.root config.items; swap = option_map (λ line. line.size) config.swap }

-- a configuration exports what is computed
abbrev pub IsExported : Type 0
IsExported = (config : Config) → IsConfig config → Exports config (exported config)

-- and nothing else
abbrev pub OneExport : Type 0
OneExport = (config : Config) (files : Exported) → IsConfig config → Exports config files → files ≡ exported config
