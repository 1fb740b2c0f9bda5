-- Names in the directories of the root export.
use Rattle.std.specs.Prelude.{ℕ, ◌+◌, ◌-◌, ◌*◌, ◌/◌, not, ◌&&◌, ◌==◌, nat_le, if◌then◌else◌, List, [], ◌∷◌, length, codes, bytes_eq, Option, Some, None, is_some}
use Rattle.std.specs.List.{list_any}
use Rattle.std.specs.Int.{w32, to_be_bytes}
use Rattle.sd_services.specs.declared.node.Node.{Node}
use Rattle.sd_nfs_msg.specs.declared.parts.DirEntry.{DirEntry}

-- the name that a full path has in a directory: the directory's path, a slash, and the name, which has no slash
abbrev pub child_name : List ℕ → List ℕ → Option (List ℕ)
child_name [] [] = None
child_name [] (c ∷ name) = if c == 47 && not (list_any (λ b. b == 47) name) then Some name else None
child_name (b ∷ dir) [] = None
child_name (b ∷ dir) (c ∷ path) = if c == b then child_name dir path else None

abbrev pub onto : ℕ → Option (List ℕ) → List (ℕ × List ℕ) → List (ℕ × List ℕ)
onto number None rest = rest
onto number (Some name) rest = (number, name) ∷ rest

-- the files in a directory with their numbers, where the nodes' numbers begin with this one
abbrev pub children : List ℕ → ℕ → List Node → List (ℕ × List ℕ)
children dir number [] = []
children dir number (node ∷ nodes) = onto number (child_name dir node.path) (children dir (number + 1) nodes)

-- the directory that a path is in; the root directory's is itself
abbrev pub parent : List ℕ → ℕ → List Node → ℕ
parent path number [] = 1
parent path number (node ∷ nodes) = if is_some (child_name node.path path) then number else parent path (number + 1) nodes

-- the file of that name
abbrev pub named : List ℕ → List (ℕ × List ℕ) → Option ℕ
named name [] = None
named name (file ∷ files) = if bytes_eq name file.1 then Some file.0 else named name files

-- what a directory with this number and path calls by a name
abbrev pub called : List Node → ℕ → List ℕ → List ℕ → Option ℕ
called nodes number dir name =
    if bytes_eq name (codes ".") then Some number else
    (if bytes_eq name (codes "..") then Some (parent dir 1 nodes) else
    named name (children dir 1 nodes))

-- ---- the entries of a directory (RFC 1094, section 2.2.17)

-- `.`, `..` and the names in byte order
abbrev pub listed : List Node → ℕ → List ℕ → List (ℕ × List ℕ)
listed nodes number dir = (number, codes ".") ∷ (parent dir 1 nodes, codes "..") ∷ children dir 1 nodes

-- each with its cookie, from this one on
abbrev pub entries : ℕ → List (ℕ × List ℕ) → List DirEntry
entries cookie [] = []
entries cookie (file ∷ files) = record { fileid = file.0; name = file.1; cookie = to_be_bytes w32 cookie } ∷ entries (cookie + 1) files

-- an entry's bytes: the bool before it, the number, the name with its length and filling, and the cookie
abbrev pub entry_size : DirEntry → ℕ
entry_size entry = 16 + (length entry.name + 3) / 4 * 4

-- the entries from the front on that have room
abbrev pub window : ℕ → List DirEntry → List DirEntry
window room [] = []
window room (entry ∷ more) = if nat_le (entry_size entry) room then entry ∷ window (room - entry_size entry) more else []
