-- What is decided has a spelling.
use Rattle.std.proofs.Common.{◌≡◌, ℕ, zero, suc, ◌+◌, ◌-◌, ◌≤◌, List, [], ◌∷◌, length, drop, replicate, min, slice_index_or, sym, subst, arith}
use Rattle.std.specs.Prelude.{Bool, true, false, ◌==◌, nat_le, if◌then◌else◌, codes, Option, Some, None, IfSome}
use Rattle.std.specs.List.{All}
use Rattle.std.specs.Int.{w32, from_be_bytes}
use Rattle.std.proofs.lemmas.List.{length-take}
use Rattle.std.proofs.lemmas.List.Elements.{All-cons, All-drop}
use Rattle.sd_outside.specs.declared.fhandle.FHandle.{FHandle}
use Rattle.sd_nfs_msg.specs.declared.parts.DirEntry.{DirEntry}
use Rattle.sd_nfs_msg.specs.declared.message.NfsArgs.{NfsArgs}
use Rattle.sd_nfs_msg.specs.declared.message.NfsArgs.TheVariants as asks
use Rattle.sd_nfs_msg.specs.declared.message.NfsResult.TheVariants as results
use Rattle.sd_nfs_msg.specs.Layout.{ResultFits, EntryFits}
use Rattle.sd_services.specs.declared.node.Node.{Node}
use Rattle.sd_services.specs.declared.node.Standing.{Standing}
use Rattle.sd_services.specs.declared.node.Standing.TheVariants as standing
use Rattle.sd_services.specs.Files.{Exported, Place, named_by}
use Rattle.sd_services.specs.Names.{child_name, onto, children, parent, called, listed, entries, entry_size, window}
use Rattle.sd_services.specs.Decisions.{on_root, on_swap, lookup, looks_up, readlink, read, readdir, node_at, bytes_read, first_handle, changes_nothing, swap_attributes, refused}
use Rattle.sd_nfs_server.specs.declared.plan.NfsPlan.{NfsPlan}
use Rattle.sd_nfs_server.specs.Fits.{StandingFits, NameFits, NodesFit, FilesFit}
use Rattle.sd_nfs_server.specs.Plan.{Decision, decision, decision_of, handle_decision, place_decision, swap_file_decision}

-- ---- entries

abbrev NamesFit : List (ℕ × List ℕ) → Type 0
NamesFit files = All (λ (file : ℕ × List ℕ). length file.1 ≤ 255) files

nothing : {A : Type 0} (P : A → Type 0) → All P []
nothing P = λ i d lt. absurd (omega arith)

tail_all : {A : Type 0} (P : A → Type 0) (x : A) (xs : List A) → All P (x ∷ xs) → All P xs
tail_all P x xs all = λ i d lt. all (suc i) d (omega arith)

onto_fits : (number : ℕ) (found : Option (List ℕ)) (rest : List (ℕ × List ℕ)) → IfSome found (λ name. length name ≤ 255) → NamesFit rest → NamesFit (onto number found rest)
onto_fits number None rest short fit = fit
onto_fits number (Some name) rest short fit = All-cons (λ (file : ℕ × List ℕ). length file.1 ≤ 255) (number, name) rest short fit

children_fit : (dir : List ℕ) (number : ℕ) (nodes : List Node) → All (λ (node : Node). NameFits node.path) nodes → NamesFit (children dir number nodes)
children_fit dir number [] fit = nothing (λ (file : ℕ × List ℕ). length file.1 ≤ 255)
children_fit dir number (node ∷ nodes) fit =
    onto_fits number (child_name dir node.path) (children dir (number + 1) nodes) (fit 0 node (omega arith) dir)
    (children_fit dir (number + 1) nodes (tail_all (λ (n : Node). NameFits n.path) node nodes fit))

listed_fit : (nodes : List Node) (number : ℕ) (dir : List ℕ) → All (λ (node : Node). NameFits node.path) nodes → NamesFit (listed nodes number dir)
listed_fit nodes number dir fit =
    All-cons (λ (file : ℕ × List ℕ). length file.1 ≤ 255) (number, codes ".") ((parent dir 1 nodes, codes "..") ∷ children dir 1 nodes) (omega arith)
    (All-cons (λ (file : ℕ × List ℕ). length file.1 ≤ 255) (parent dir 1 nodes, codes "..") (children dir 1 nodes) (omega arith) (children_fit dir 1 nodes fit))

entries_fit : (cookie : ℕ) (files : List (ℕ × List ℕ)) → NamesFit files → All EntryFits (entries cookie files)
entries_fit cookie [] fit = nothing EntryFits
entries_fit cookie (file ∷ files) fit = All-cons EntryFits _ (entries (cookie + 1) files) (fit 0 file (omega arith)) (entries_fit (cookie + 1) files (tail_all (λ (f : ℕ × List ℕ). length f.1 ≤ 255) file files fit))

window_fits : (room : ℕ) (rest : List DirEntry) → All EntryFits rest → All EntryFits (window room rest)
window_fits room [] fit = fit
window_fits room (entry ∷ more) fit = by (nat_le (entry_size entry) room) (window_fits (room - entry_size entry) more (tail_all EntryFits entry more fit))
  where
    by : (b : Bool) → All EntryFits (window (room - entry_size entry) more) → All EntryFits (if b then entry ∷ window (room - entry_size entry) more else [])
    by true deeper = All-cons EntryFits entry _ (fit 0 entry (omega arith)) deeper
    by false deeper = nothing EntryFits

-- ---- results

read_fits : (content : List ℕ) (offset count : ℕ) → length (bytes_read content offset count) ≤ 8192
read_fits content offset count = let l = length-take (min count 8192) (drop offset content) in omega arith

module _ (nodes : List Node) (fit : NodesFit nodes) where
  lookup_fits : (number : ℕ) (dir : List ℕ) (what : Standing) (name : List ℕ) → ResultFits (lookup nodes number dir what name)
  lookup_fits number dir standing.Directory name = by (called nodes number dir name)
    where
      by : (found : Option ℕ) → ResultFits (looks_up nodes found)
      by None = λ e. omega (arith, e)
      by (Some other) = tt
  lookup_fits number dir (standing.File content) name = λ e. omega (arith, e)
  lookup_fits number dir (standing.Symlink target) name = λ e. omega (arith, e)

  readlink_fits : (what : Standing) → StandingFits what → ResultFits (readlink what)
  readlink_fits standing.Directory fits = λ e. omega (arith, e)
  readlink_fits (standing.File content) fits = λ e. omega (arith, e)
  readlink_fits (standing.Symlink target) fits = fits

  reads_fit : (number : ℕ) (what : Standing) (offset count : ℕ) → ResultFits (read number what offset count)
  reads_fit number standing.Directory offset count = λ e. omega (arith, e)
  reads_fit number (standing.File content) offset count = read_fits content offset count
  reads_fit number (standing.Symlink target) offset count = λ e. omega (arith, e)

  readdir_fits : (number : ℕ) (dir : List ℕ) (what : Standing) (cookie : List ℕ) (count : ℕ) → ResultFits (readdir nodes number dir what cookie count)
  readdir_fits number dir standing.Directory cookie count =
      window_fits (min count 8192 - 8) (drop (from_be_bytes w32 cookie) (entries 1 (listed nodes number dir)))
      (All-drop EntryFits (from_be_bytes w32 cookie) (entries 1 (listed nodes number dir)) (entries_fit 1 (listed nodes number dir) (listed_fit nodes number dir fit.names)))
  readdir_fits number dir (standing.File content) cookie count = λ e. omega (arith, e)
  readdir_fits number dir (standing.Symlink target) cookie count = λ e. omega (arith, e)

  get_all : (P : Node → Type 0) (xs : List Node) (k : ℕ) (d : Node) → All P xs → P d → P (slice_index_or xs k d)
  get_all P [] k d all last = last
  get_all P (x ∷ xs) zero d all last = all 0 x (omega arith)
  get_all P (x ∷ xs) (suc k) d all last = get_all P xs k d (tail_all P x xs all) last

  root_fits : (number : ℕ) (node : Node) → StandingFits node.what → (args : NfsArgs) → ResultFits (on_root nodes number node args)
  root_fits number node fits asks.Null = tt
  root_fits number node fits (asks.Getattr at) = tt
  root_fits number node fits (asks.Setattr at set) = λ e. omega (arith, e)
  root_fits number node fits (asks.Lookup at name) = lookup_fits number node.path node.what name
  root_fits number node fits (asks.Readlink at) = readlink_fits node.what fits
  root_fits number node fits (asks.Read at offset count total) = reads_fit number node.what offset count
  root_fits number node fits (asks.Write at begin offset total content) = λ e. omega (arith, e)
  root_fits number node fits (asks.Create at name set) = λ e. omega (arith, e)
  root_fits number node fits (asks.Remove at name) = λ e. omega (arith, e)
  root_fits number node fits (asks.Rename at name to to_name) = λ e. omega (arith, e)
  root_fits number node fits (asks.Link at to to_name) = λ e. omega (arith, e)
  root_fits number node fits (asks.Symlink at name path set) = λ e. omega (arith, e)
  root_fits number node fits (asks.Mkdir at name set) = λ e. omega (arith, e)
  root_fits number node fits (asks.Rmdir at name) = λ e. omega (arith, e)
  root_fits number node fits (asks.Readdir at cookie count) = readdir_fits number node.path node.what cookie count
  root_fits number node fits (asks.Statfs at) = tt

swap_fits : (owner from size : ℕ) (content : List ℕ) (args : NfsArgs) → ResultFits (on_swap owner from size content args)
swap_fits owner from size content asks.Null = tt
swap_fits owner from size content (asks.Getattr at) = tt
swap_fits owner from size content (asks.Setattr at set) = by (changes_nothing set)
  where
    by : (b : Bool) → ResultFits (if b then results.Setattr (swap_attributes size) else refused 1)
    by true = tt
    by false = λ e. omega (arith, e)
swap_fits owner from size content (asks.Lookup at name) = λ e. omega (arith, e)
swap_fits owner from size content (asks.Readlink at) = λ e. omega (arith, e)
swap_fits owner from size content (asks.Read at offset count total) = by (from == owner)
  where
    by : (b : Bool) → ResultFits (if b then results.Read (swap_attributes size) (bytes_read content offset count) else refused 13)
    by true = read_fits content offset count
    by false = λ e. omega (arith, e)
swap_fits owner from size content (asks.Write at begin offset total bytes) = by (from == owner) (nat_le (offset + length bytes) size)
  where
    by : (b c : Bool) → ResultFits (if b then (if c then results.Write (swap_attributes size) else refused 28) else refused 13)
    by true true = tt
    by true false = λ e. omega (arith, e)
    by false c = λ e. omega (arith, e)
swap_fits owner from size content (asks.Create at name set) = λ e. omega (arith, e)
swap_fits owner from size content (asks.Remove at name) = λ e. omega (arith, e)
swap_fits owner from size content (asks.Rename at name to to_name) = λ e. omega (arith, e)
swap_fits owner from size content (asks.Link at to to_name) = λ e. omega (arith, e)
swap_fits owner from size content (asks.Symlink at name path set) = λ e. omega (arith, e)
swap_fits owner from size content (asks.Mkdir at name set) = λ e. omega (arith, e)
swap_fits owner from size content (asks.Rmdir at name) = λ e. omega (arith, e)
swap_fits owner from size content (asks.Readdir at cookie count) = λ e. omega (arith, e)
swap_fits owner from size content (asks.Statfs at) = tt

-- ---- every call

module _ (files : Exported) (from : ℕ) (args : NfsArgs) where
  place_fits : (place : Option Place) → FilesFit files → ResultFits (place_decision files from place args).done
  place_fits None fit = λ e. omega (arith, e)
  place_fits (Some place) fit = by (place.0 == 0)
    where
      of : (swap : Option ℕ) → ResultFits (swap_file_decision files.owner from swap args).done
      of None = λ e. omega (arith, e)
      of (Some size) = swap_fits files.owner from size (replicate size 0) args

      by : (b : Bool) → ResultFits (if b then record { done = on_root files.root place.1 (node_at files.root place.1) args; access = None } else swap_file_decision files.owner from files.swap args).done
      by true = root_fits files.root fit.nodes place.1 (node_at files.root place.1) (get_all files.root fit.nodes (λ (n : Node). StandingFits n.what) files.root (place.1 - 1) (record { path = []; what = standing.Directory }) fit.nodes.each tt) args
      by false = of files.swap

  handle_fits : (handle : Option FHandle) → IfSome handle (λ h. FilesFit files) → ResultFits (handle_decision files from handle args).done
  handle_fits None fit = tt
  handle_fits (Some h) fit = place_fits (named_by files h.0) fit

  pub fits : (plan : NfsPlan) → IfSome (first_handle args) (λ h. FilesFit files) → decision_of plan ≡ decision files from args → ResultFits (decision_of plan).done
  fits plan fit is = subst (λ (d : Decision). ResultFits d.done) (sym is) (handle_fits (first_handle args) fit)
