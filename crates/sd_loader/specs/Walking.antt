-- How far a walk went along a path of the root export.
use Rattle.std.specs.Prelude.{◌≡◌, ℕ, ◌+◌, suc, List, ◌++◌, Option, IfSome}
use Rattle.sd_outside.specs.declared.fhandle.FHandle.{FHandle}
use Rattle.sd_nfs_msg.specs.declared.parts.Fattr.{Fattr}
use Rattle.sd_config.specs.declared.config.Config.{Config}
use Rattle.sd_services.specs.declared.node.Standing.TheVariants.{Symlink}
use Rattle.sd_services.specs.Files.{exported}
use Rattle.sd_loader.specs.Walk.{root, components, what_at, origin, Walk}
use Rattle.sd_loader.specs.Found.{IsFile, AreOf}

-- the handle is that of this file; where it was looked up, these are its attributes
pub record IsAt (c : Config) (file : FHandle) (attr : Option Fattr) (number : ℕ) : Type 0 where
  pub is : IsFile c file number
  pub attr_is : IfSome attr (AreOf c number)

-- After so many links the walk along the path is here, with these components left.
pub record OnPath (c : Config) (path : List ℕ) (count : ℕ) (left : List (List ℕ)) (file : FHandle) (attr : Option Fattr) : Type 0 where
  pub here : ℕ
  pub is : IsAt c file attr here
  pub leads : (links end : ℕ) → Walk (exported c).root here left links end → Walk (exported c).root root (components path) (count + links) end

-- The same, where a component of the directory named a link.
pub record OnLink (c : Config) (path : List ℕ) (count : ℕ) (left : List (List ℕ)) (dir : FHandle) (attr : Option Fattr) (link : FHandle) : Type 0 where
  pub here : ℕ
  pub next : ℕ
  pub is : IsAt c dir attr here
  pub link_is : IsFile c link next
  pub leads : (text : List ℕ) (links end : ℕ) → what_at (exported c).root next ≡ Symlink text
      → Walk (exported c).root (origin text here) (components text ++ left) links end → Walk (exported c).root root (components path) (count + suc links) end
