-- The ranges and rules of a configuration.
use Rattle.std.specs.Prelude.{◌≡◌, ◌≢◌, ℕ, ◌+◌, ◌<◌, ◌≤◌, ◌^◌, ◌⊎◌, List, [], ◌∷◌, ◌++◌, length, codes, Bool, ◌||◌, ◌&&◌, nat_le, ◌==◌, IfSome}
use Rattle.std.specs.List.{All, AllPass, AllPairs, sum_by, slice_split}
use Rattle.sd_outside.specs.Bytes.{IsMac}
use Rattle.sd_bootparams.specs.declared.book.Host.{Host}
use Rattle.sd_bootparams.specs.File.{nothing, parts, IsFaultless}
use Rattle.sd_bootparams.specs.LineByLine.{file_of, AreLines}
use Rattle.sd_config.specs.declared.config.Machine.{Machine}
use Rattle.sd_config.specs.declared.config.BootFile.{BootFile}
use Rattle.sd_config.specs.declared.config.RootItem.{RootItem}
use Rattle.sd_config.specs.declared.config.RootItem.TheVariants as item
use Rattle.sd_config.specs.declared.config.SwapLine.{SwapLine}
use Rattle.sd_config.specs.declared.config.Config.{Config}
use Rattle.sd_config.specs.declared.config.ClientConfig.{ClientConfig}

-- ---- names and ranges

-- a letter, a digit, `-`, `.` or `_`
abbrev pub is_name_byte : ℕ → Bool
is_name_byte b =
    (nat_le 97 b && nat_le b 122) || (nat_le 65 b && nat_le b 90) || (nat_le 48 b && nat_le b 57) || b == 45 || b == 46 || b == 95

-- 1 to 255 such bytes
pub record IsName (name : List ℕ) : Type 0 where
  pub least : 1 ≤ length name
  pub most : length name ≤ 255
  pub bytes : AllPass is_name_byte name

-- the name of an architecture, or nothing where there is none
abbrev pub IsArch : List ℕ → Type 0
IsArch arch = (arch ≡ []) ⊎ IsName arch

-- the least and the greatest value
abbrev pub IsWithin : ℕ → ℕ → ℕ → Type 0
IsWithin low high n = (low ≤ n) × (n ≤ high)

pub record IsMachine (m : Machine) : Type 0 where
  pub mac : IsMac m.mac
  pub ip : IsWithin 1 0xffff_fffe m.ip
  pub name : IsName m.name

-- ---- further machines

-- a machine of a host line, which may have any address
pub record IsHost (host : Host) : Type 0 where
  pub name : IsName host.name
  pub ip : host.ip < 2 ^ 32

-- at most 16, whose names differ from each other and from those of the two machines
pub record AreHosts (server client : List ℕ) (hosts : List Host) : Type 0 where
  pub few : length hosts ≤ 16
  pub each : All IsHost hosts
  pub differ : AllPairs (λ (a b : Host). a.name ≢ b.name) hosts
  pub not_server : All (λ (host : Host). host.name ≢ server) hosts
  pub not_client : All (λ (host : Host). host.name ≢ client) hosts

-- at most 256 lines, each with its line feed, that are a bootparams file
pub record AreParams (text : List ℕ) : Type 0 where
  pub texts : List (List ℕ)
  pub is : text ≡ file_of texts
  pub lines : AreLines texts
  pub few : length texts ≤ 256
  pub faultless : IsFaultless nothing (parts text)

-- ---- boot files

-- the longest file that TFTP carries in 65,535 blocks: 65,534 of 512 bytes, and one of 511
abbrev pub boot_file_limit : ℕ
boot_file_limit = 33553919

pub record IsBootFile (file : BootFile) : Type 0 where
  pub name : IsName file.name
  pub most : length file.bytes ≤ boot_file_limit

-- at most 16, whose names differ
pub record AreBootFiles (files : List BootFile) : Type 0 where
  pub few : length files ≤ 16
  pub each : All IsBootFile files
  pub differ : AllPairs (λ (a b : BootFile). a.name ≢ b.name) files

-- ---- paths

-- a byte from 21 to 7e in hexadecimal
abbrev pub is_visible : ℕ → Bool
is_visible b = nat_le 33 b && nat_le b 126

-- what stands between two slashes: 1 to 255 bytes, and neither `.` nor `..`
pub record IsComponent (text : List ℕ) : Type 0 where
  pub least : 1 ≤ length text
  pub most : length text ≤ 255
  pub not_here : text ≢ codes "."
  pub not_above : text ≢ codes ".."

-- a slash, and components that slashes separate; none is empty, so none follows a last slash
pub record IsPath (path : List ℕ) : Type 0 where
  pub rest : List ℕ
  pub slash : path ≡ 47 ∷ rest
  pub most : length path ≤ 1024
  pub bytes : AllPass is_visible path
  pub components : All IsComponent (slice_split (λ b. b == 47) rest)

-- what a link names
pub record IsTarget (text : List ℕ) : Type 0 where
  pub least : 1 ≤ length text
  pub most : length text ≤ 1024
  pub bytes : AllPass is_visible text

-- the path p names a directory on the way to the path q
pub record IsDirectoryOf (p q : List ℕ) : Type 0 where
  pub rest : List ℕ
  pub longer : q ≡ p ++ 47 ∷ rest

-- two paths differ, and neither names a directory on the way to the other
pub record AreApart (p q : List ℕ) : Type 0 where
  pub differ : p ≢ q
  pub above : IsDirectoryOf p q → ⊥
  pub below : IsDirectoryOf q p → ⊥

-- ---- the root export and the swap file

abbrev pub item_path : RootItem → List ℕ
item_path (item.File path bytes) = path
item_path (item.Symlink path text) = path

-- the bytes of a file
abbrev pub item_size : RootItem → ℕ
item_size (item.File path bytes) = length bytes
item_size (item.Symlink path text) = 0

abbrev pub IsRootItem : RootItem → Type 0
IsRootItem (item.File path bytes) = IsPath path × (length bytes ≤ 33554432)
IsRootItem (item.Symlink path text) = IsPath path × IsTarget text

-- at most 256 files and links, whose paths are apart
pub record AreRootItems (items : List RootItem) : Type 0 where
  pub few : length items ≤ 256
  pub each : All IsRootItem items
  pub apart : AllPairs (λ (a b : RootItem). AreApart (item_path a) (item_path b)) items

pub record IsSwap (swap : SwapLine) : Type 0 where
  pub path : IsPath swap.path
  pub size : IsWithin 8192 33554432 swap.size

-- ---- the whole configuration

-- the bytes of all boot files and all files of the root export
abbrev pub bytes_of : Config → ℕ
bytes_of c = sum_by (λ (file : BootFile). length file.bytes) c.tftp + sum_by item_size c.items

pub record IsConfig (c : Config) : Type 0 where
  pub life : IsWithin 2 10000 c.life
  pub tries : IsWithin 1 64 c.tries
  pub wait : IsWithin 1 1000 c.wait
  pub pages : IsWithin 1 4095 c.pages
  pub server : IsMachine c.server
  pub client : IsMachine c.client
  pub domain : IsName c.domain
  pub router : c.router < 2 ^ 32
  -- the two machines differ in everything
  pub macs : c.server.mac.0 ≢ c.client.mac.0
  pub ips : c.server.ip ≢ c.client.ip
  pub names : c.server.name ≢ c.client.name
  pub arch : IsArch c.arch
  pub hosts : AreHosts c.server.name c.client.name c.hosts
  pub tftp : AreBootFiles c.tftp
  pub params : AreParams c.params
  pub root : IfSome c.root IsPath
  pub items : AreRootItems c.items
  pub kernel : IsPath c.kernel
  pub swap : IfSome c.swap IsSwap
  -- the two exports differ
  pub exports : IfSome c.root (λ root. IfSome c.swap (λ swap. root ≢ swap.path))
  pub bytes : bytes_of c ≤ 67108864

-- what the client of this configuration is given
pub record IsFor (c : Config) (client : ClientConfig) : Type 0 where
  pub mac : client.mac ≡ c.client.mac
  pub life : client.life ≡ c.life
  pub tries : client.tries ≡ c.tries
  pub wait : client.wait ≡ c.wait
  pub pages : client.pages ≡ c.pages
  pub arch : client.arch ≡ c.arch
  pub kernel : client.kernel ≡ c.kernel

-- the ranges of what a client is given
pub record IsClientConfig (client : ClientConfig) : Type 0 where
  pub mac : IsMac client.mac
  pub life : IsWithin 2 10000 client.life
  pub tries : IsWithin 1 64 client.tries
  pub wait : IsWithin 1 1000 client.wait
  pub pages : IsWithin 1 4095 client.pages
  pub arch : IsArch client.arch
  pub kernel : IsPath client.kernel
