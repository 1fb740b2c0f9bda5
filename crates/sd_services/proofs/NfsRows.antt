-- The definitions of NFS on an example: the files `/a/b` and `/vmunix`, the link `/a-b`, and a swap file of 16,384 bytes.
use Rattle.std.specs.Prelude.{◌≡◌, ℕ, true, false, List, [], ◌∷◌, codes, replicate, ◌-◌, Some, None, map}
use mathlib.Core.Path.{refl}
use Rattle.sd_nfs_msg.specs.declared.message.NfsArgs.{NfsArgs}
use Rattle.sd_nfs_msg.specs.declared.message.NfsArgs.TheVariants as asks
use Rattle.sd_nfs_msg.specs.declared.message.NfsResult.TheVariants as results
use Rattle.sd_nfs_msg.specs.declared.parts.DirEntry.{DirEntry}
use Rattle.sd_services.specs.declared.node.Node.{Node}
use Rattle.sd_services.specs.declared.node.Standing.TheVariants as standing
use Rattle.sd_config.specs.declared.config.RootItem.TheVariants as items
use Rattle.sd_services.specs.Files.{Exported, IsBefore, numbered, handle, named_by}
use Rattle.sd_services.specs.Names.{children, parent, called, entries, listed, window}
use Rattle.sd_services.specs.Decisions.{attributes, swap_attributes, swap_read, swap_write, read, lookup, readdir, all_blocks, decided, refused, nfs_result}
use Rattle.sd_services.specs.NfsReply.{nfs_change, uses_swap}

abbrev root_nodes : List Node
root_nodes =
    record { path = []; what = standing.Directory } ∷
    record { path = codes "/a"; what = standing.Directory } ∷
    record { path = codes "/a-b"; what = standing.Symlink (codes "a/b") } ∷
    record { path = codes "/a/b"; what = standing.File (1 ∷ 2 ∷ 3 ∷ []) } ∷
    record { path = codes "/vmunix"; what = standing.File [] } ∷ []

abbrev example : Exported
example = record { owner = 7; root = root_nodes; swap = Some 16384 }

-- ---- order and names

-- the lines stand in another order
in_order : numbered (items.File (codes "/vmunix") [] ∷ items.Symlink (codes "/a-b") (codes "a/b") ∷ items.File (codes "/a/b") (1 ∷ 2 ∷ 3 ∷ []) ∷ []) ≡ root_nodes
in_order = refl

-- `-` stands before `/`
order : IsBefore (codes "/a-b") (codes "/a/b")
order = refl

above : IsBefore [] (codes "/a")
above = refl

root_children : children [] 1 root_nodes ≡ (2, codes "a") ∷ (3, codes "a-b") ∷ (5, codes "vmunix") ∷ []
root_children = refl

a_children : children (codes "/a") 1 root_nodes ≡ (4, codes "b") ∷ []
a_children = refl

up : parent (codes "/a/b") 1 root_nodes ≡ 2
up = refl

up_to_root : parent (codes "/a") 1 root_nodes ≡ 1
up_to_root = refl

root_up : called root_nodes 1 [] (codes "..") ≡ Some 1
root_up = refl

here : called root_nodes 2 (codes "/a") (codes ".") ≡ Some 2
here = refl

no_slash : called root_nodes 1 [] (codes "a/b") ≡ None
no_slash = refl

no_empty : called root_nodes 1 [] [] ≡ None
no_empty = refl

-- ---- READDIR: 20 bytes for each of `.`, `..`, `a` and `a-b`, 24 for `vmunix`, and the closing 8

two : map (λ (e : DirEntry). e.fileid) (window (48 - 8) (entries 1 (listed root_nodes 1 []))) ≡ 1 ∷ 1 ∷ []
two = refl

one : map (λ (e : DirEntry). e.fileid) (window (47 - 8) (entries 1 (listed root_nodes 1 []))) ≡ 1 ∷ []
one = refl

last_entry : readdir root_nodes 1 [] standing.Directory (0 ∷ 0 ∷ 0 ∷ 4 ∷ []) 32 ≡ results.Readdir (record { fileid = 5; name = codes "vmunix"; cookie = 0 ∷ 0 ∷ 0 ∷ 5 ∷ [] } ∷ []) true
last_entry = refl

past_end : readdir root_nodes 1 [] standing.Directory (0 ∷ 0 ∷ 0 ∷ 9 ∷ []) 0 ≡ results.Readdir [] true
past_end = refl

no_room : readdir root_nodes 1 [] standing.Directory (0 ∷ 0 ∷ 0 ∷ 0 ∷ []) 7 ≡ results.Readdir [] false
no_room = refl

-- ---- the other procedures of the root export

in_file : lookup root_nodes 4 (codes "/a/b") (standing.File []) (codes ".") ≡ refused 20
in_file = refl

-- a file and a link of some bytes, and an empty file
blocks : all_blocks root_nodes ≡ 2
blocks = refl

middle : read 4 (standing.File (1 ∷ 2 ∷ 3 ∷ [])) 1 1 ≡ results.Read (attributes 0 4 1 33060 1 3) (2 ∷ [])
middle = refl

past_file : read 4 (standing.File (1 ∷ 2 ∷ 3 ∷ [])) 9 1 ≡ results.Read (attributes 0 4 1 33060 1 3) []
past_file = refl

-- ---- the swap export: a WRITE to the end, past it, of no bytes at the end and past it, and of a stranger

to_end : swap_write 7 7 16384 8192 8192 ≡ results.Write (swap_attributes 16384)
to_end = refl

over_end : swap_write 7 7 16384 8193 8192 ≡ refused 28
over_end = refl

nothing : swap_write 7 7 16384 16384 0 ≡ results.Write (swap_attributes 16384)
nothing = refl

nothing_past : swap_write 7 7 16384 16385 0 ≡ refused 28
nothing_past = refl

stranger : swap_write 7 8 16384 16385 0 ≡ refused 13
stranger = refl

-- a READ past the end gives no bytes
read_past : swap_read 7 7 3 (1 ∷ 2 ∷ 3 ∷ []) 20000 8192 ≡ results.Read (swap_attributes 3) []
read_past = refl

-- ---- handles

swap_handle : handle 1 1 ≡ 0x53 ∷ 0x44 ∷ 0x48 ∷ 0x31 ∷ 0 ∷ 0 ∷ 0 ∷ 1 ∷ 0 ∷ 0 ∷ 0 ∷ 1 ∷ 0 ∷ 0 ∷ 0 ∷ 1 ∷ replicate 16 0
unfolding handle
swap_handle = refl

names_swap_file : named_by example (handle 1 1) ≡ Some (1, 1)
unfolding handle
names_swap_file = refl

names_link : named_by example (handle 0 3) ≡ Some (0, 3)
unfolding handle
names_link = refl

names_none : named_by example (handle 0 6) ≡ None
unfolding handle
names_none = refl

-- a call whose handle names nothing
stale : (args : NfsArgs) → decided example [] 7 None args ≡ refused 70
stale args = refl

-- ---- what a WRITE changes

abbrev write_at : List ℕ → ℕ → List ℕ → NfsArgs
write_at file offset bytes = asks.Write (record { 0 = file }) 0 offset 0 bytes

writes : nfs_change example 7 (write_at (handle 1 1) 16383 (9 ∷ [])) ≡ Some (record { file = 0; at = 16383; bytes = 9 ∷ [] })
unfolding handle
writes = refl

writes_past : nfs_change example 7 (write_at (handle 1 1) 16384 (9 ∷ [])) ≡ None
unfolding handle
writes_past = refl

writes_nothing : nfs_change example 7 (write_at (handle 1 1) 0 []) ≡ None
unfolding handle
writes_nothing = refl

writes_anothers : nfs_change example 8 (write_at (handle 1 1) 0 (9 ∷ [])) ≡ None
unfolding handle
writes_anothers = refl

writes_root : nfs_change example 7 (write_at (handle 0 4) 0 (9 ∷ [])) ≡ None
unfolding handle
writes_root = refl

-- another's WRITE uses the swap file all the same
anothers : uses_swap example (write_at (handle 1 1) 0 []) ≡ true
unfolding handle
anothers = refl

anothers_is_refused : nfs_result example [] 8 (write_at (handle 1 1) 0 []) ≡ refused 13
unfolding handle
anothers_is_refused = refl
