-- The files of the root export by their handles, and what is found in them.
use Rattle.std.specs.Prelude.{◌≡◌, ℕ, ◌≤◌, List, length, take, Some}
use Rattle.sd_outside.specs.declared.fhandle.FHandle.{FHandle}
use Rattle.sd_nfs_msg.specs.declared.parts.Fattr.{Fattr}
use Rattle.sd_config.specs.declared.config.Config.{Config}
use Rattle.sd_services.specs.declared.node.Node.{Node}
use Rattle.sd_services.specs.declared.node.Standing.TheVariants.{File}
use Rattle.sd_services.specs.Files.{handle, exported}
use Rattle.sd_services.specs.Decisions.{root_attributes}
use Rattle.sd_loader.specs.Walk.{what_at, named_in, LeadsTo, IsKernel}

-- the number of a file
abbrev pub IsNumber : List Node → ℕ → Type 0
IsNumber nodes number = (1 ≤ number) × (number ≤ length nodes)

-- the handle is that of this file of the root export
pub record IsFile (c : Config) (h : FHandle) (number : ℕ) : Type 0 where
  pub live : IsNumber (exported c).root number
  pub same : h.0 ≡ handle 0 number

-- the attributes are those of this file
abbrev pub AreOf : Config → ℕ → Fattr → Type 0
AreOf c number attr = attr ≡ root_attributes number (what_at (exported c).root number)

-- the directory calls this file so
pub record IsFound (c : Config) (number : ℕ) (name : List ℕ) (file : FHandle) (attr : Fattr) : Type 0 where
  pub next : ℕ
  pub named : named_in (exported c).root number name ≡ Some next
  pub is : IsFile c file next
  pub attr_is : AreOf c next attr

-- The path leads to this file, with these attributes.
pub record IsReached (c : Config) (path : List ℕ) (file : FHandle) (attr : Fattr) : Type 0 where
  pub end : ℕ
  pub leads : LeadsTo c path end
  pub is : IsFile c file end
  pub attr_is : AreOf c end attr

-- These are the bytes of the file with this handle and these attributes.
abbrev pub AreBytesOf : Config → FHandle → Fattr → List ℕ → Type 0
AreBytesOf c file attr bytes = (number : ℕ) (content : List ℕ) → IsFile c file number → AreOf c number attr → what_at (exported c).root number ≡ File content → bytes ≡ content

-- These are the first bytes of the file with this handle, where it has this size.
abbrev pub AreFirstBytes : Config → FHandle → ℕ → List ℕ → Type 0
AreFirstBytes c file size bytes = (number : ℕ) (content : List ℕ) → IsFile c file number → what_at (exported c).root number ≡ File content → length content ≡ size → bytes ≡ take (length bytes) content

-- What is loaded of the file that was reached over the kernel's path is the kernel.
abbrev pub KernelIsLoaded : Type 0
KernelIsLoaded = (c : Config) (file : FHandle) (attr : Fattr) (bytes : List ℕ) → IsReached c c.kernel file attr → attr.kind ≡ 1 → AreBytesOf c file attr bytes → IsKernel c bytes
