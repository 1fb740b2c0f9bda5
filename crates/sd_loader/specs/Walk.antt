-- Where a path leads in the root export, and which file is the kernel.
use Rattle.std.specs.Prelude.{◌≡◌, ◌≢◌, ℕ, suc, ◌≤◌, ◌==◌, if◌then◌else◌, Bool, false, List, [], ◌∷◌, ◌++◌, Option, Some, None}
use Rattle.std.specs.List.{slice_split}
use Rattle.sd_config.specs.declared.config.Config.{Config}
use Rattle.sd_services.specs.declared.node.Node.{Node}
use Rattle.sd_services.specs.declared.node.Standing.{Standing}
use Rattle.sd_services.specs.declared.node.Standing.TheVariants.{Directory, File, Symlink}
use Rattle.sd_services.specs.Files.{exported}
use Rattle.sd_services.specs.Names.{called}
use Rattle.sd_services.specs.Decisions.{node_at}

-- the number of the root directory
abbrev pub root : ℕ
root = 1

-- the components of a path: what stands between its slashes
abbrev pub components : List ℕ → List (List ℕ)
components path = slice_split (λ b. b == 47) path

-- what stands at a number
abbrev pub what_at : List Node → ℕ → Standing
what_at nodes number = (node_at nodes number).what

-- what this node calls so, where it is a directory
abbrev pub called_by : List Node → ℕ → List ℕ → Standing → List ℕ → Option ℕ
called_by nodes number path Directory name = called nodes number path name
called_by nodes number path (File bytes) name = None
called_by nodes number path (Symlink text) name = None

-- the number of the file that a directory calls by a name
abbrev pub named_in : List Node → ℕ → List ℕ → Option ℕ
named_in nodes dir name = called_by nodes dir (node_at nodes dir).path (what_at nodes dir) name

-- a text that begins with a slash
abbrev pub is_absolute : List ℕ → Bool
is_absolute [] = false
is_absolute (b ∷ text) = b == 47

-- where the text of a link goes on from: from the root where it is absolute, else from the directory that holds the link
abbrev pub origin : List ℕ → ℕ → ℕ
origin text dir = if is_absolute text then root else dir

abbrev pub IsNoLink : Standing → Type 0
IsNoLink Directory = Unit {0}
IsNoLink (File bytes) = Unit {0}
IsNoLink (Symlink text) = ⊥

-- Walk nodes from names links to: the components lead from the file of one number to that of another, through so many links.
pub data Walk (nodes : List Node) : ℕ → List (List ℕ) → ℕ → ℕ → Type 0 where
  -- without components the walk is at its end
  arrives : (here : ℕ) →
      Walk nodes here [] 0 here
  -- an empty component is skipped
  skips : (here links end : ℕ) (names : List (List ℕ)) →
      Walk nodes here names links end →
      Walk nodes here ([] ∷ names) links end
  -- a component that names a directory or file goes on from there
  enters : (dir next links end : ℕ) (name : List ℕ) (names : List (List ℕ)) →
      name ≢ [] → named_in nodes dir name ≡ Some next → IsNoLink (what_at nodes next) →
      Walk nodes next names links end →
      Walk nodes dir (name ∷ names) links end
  -- one that names a link has the components of its text in its place
  follows : (dir next links end : ℕ) (name text : List ℕ) (names : List (List ℕ)) →
      name ≢ [] → named_in nodes dir name ≡ Some next → what_at nodes next ≡ Symlink text →
      Walk nodes (origin text dir) (components text ++ names) links end →
      Walk nodes dir (name ∷ names) (suc links) end

-- ---- a path, and the kernel

-- the most links on the way
abbrev pub most_links : ℕ
most_links = 8

-- The path leads from the root directory to this file, through at most eight links.
pub record LeadsTo (c : Config) (path : List ℕ) (end : ℕ) : Type 0 where
  pub links : ℕ
  pub few : links ≤ most_links
  pub walk : Walk (exported c).root root (components path) links end

-- The bytes of the kernel: those of the file to which its path leads.
pub record IsKernel (c : Config) (bytes : List ℕ) : Type 0 where
  pub end : ℕ
  pub leads : LeadsTo c c.kernel end
  pub holds : what_at (exported c).root end ≡ File bytes

-- ---- laws

-- A path leads to one place, through one number of links.
abbrev pub WalksAreOne : Type 0
WalksAreOne = (nodes : List Node) (here : ℕ) (names : List (List ℕ)) (links more end other : ℕ) →
    Walk nodes here names links end → Walk nodes here names more other → (links ≡ more) × (end ≡ other)

-- There is one kernel.
abbrev pub KernelsAreOne : Type 0
KernelsAreOne = (c : Config) (bytes other : List ℕ) → IsKernel c bytes → IsKernel c other → bytes ≡ other
