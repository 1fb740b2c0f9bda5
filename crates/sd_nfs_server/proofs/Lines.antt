-- The nodes after some lines are what these lines let stand.
use Rattle.std.proofs.Common.{◌≡◌, ℕ, ◌+◌, ◌*◌, ◌<◌, ◌≤◌, List, [], ◌∷◌, ◌++◌, length, take, drop, slice_index_or, refl, sym, ap, ◌∙◌, subst, inl, inr, arith}
use Rattle.std.specs.Prelude.{◌⊎◌, insert, slice_index}
use Rattle.std.proofs.lemmas.List.{length-take, length-append, take-append-drop, drop_more, get_or_default, get_or_at}
use Rattle.std.proofs.Math.Seq.{take-append_seam}
use Rattle.sd_config.specs.declared.config.RootItem.{RootItem}
use Rattle.sd_config.specs.declared.config.RootItem.TheVariants as items
use Rattle.sd_services.specs.declared.node.Node.{Node}
use Rattle.sd_services.specs.declared.node.Standing.{Standing}
use Rattle.sd_services.specs.declared.node.Standing.TheVariants as standing
use Rattle.sd_config.specs.Config.{item_path, IsRootItem, AreRootItems, IsPath, IsDirectoryOf}
use Rattle.sd_services.specs.Files.{Stands, StandsAt, AreNumbered, directory_at, node_of, standing_of}
use Rattle.sd_nfs_server.specs.Fits.{StandingFits, NameFits, NodesFit}
use Rattle.sd_nfs_server.specs.Placing.{HasPathAt, Placed, PlacedDirectories, none_yet, no_slash, one_more, PlacedItem, LookedAt}
use Rattle.sd_services.proofs.Order.{Rank, below, level, higher, rank}
use Rattle.sd_nfs_server.proofs.Order.{length_insert}
use Rattle.sd_nfs_server.proofs.Components.{name_of_root, name_of_path, name_of_front}
use Rattle.sd_nfs_server.proofs.Keeping.{Kept, kept_as, placed_keeps, IsOnWay, directories_keep}

pub looked_at : (path : List ℕ) (old mid new : List Node) (i : ℕ) → PlacedDirectories path old i mid → LookedAt path i mid new → PlacedDirectories path old (i + 1) new
looked_at path old mid new i p (inl h) = subst (PlacedDirectories path old (i + 1)) (sym h.1) (no_slash i mid h.0 p)
looked_at path old mid new i p (inr h) = one_more i mid new h.0 p h.1

slash_split : (path : List ℕ) (i : ℕ) → i < length path → slice_index path i ≡ 47 → path ≡ take i path ++ (47 ∷ drop (i + 1) path)
slash_split path i lt e = sym (take-append-drop i path) ∙ ap (λ (r : List ℕ). take i path ++ r) (drop_more path i 0 lt ∙ ap (λ (c : ℕ). c ∷ drop (i + 1) path) e)

-- what the first lines let stand
pub record Line (lines : List RootItem) (i : ℕ) (node : Node) : Type 0 where
  pub k : ℕ
  pub low : k < i
  pub item : RootItem
  pub is : slice_index_or lines k item ≡ item
  pub way : IsOnWay (item_path item) (length (item_path item)) node ⊎ (node ≡ node_of item)

abbrev pub Below : List RootItem → ℕ → Node → Type 0
Below lines i node = (node ≡ directory_at []) ⊎ Line lines i node

apart_way : (lines : List RootItem) → AreRootItems lines → (i k : ℕ) (item other : RootItem) → k < i → i < length lines → slice_index_or lines i item ≡ item → slice_index_or lines k other ≡ other → (item_path other ≡ item_path item → ⊥) × (IsDirectoryOf (item_path other) (item_path item) → ⊥) × (IsDirectoryOf (item_path item) (item_path other) → ⊥)
apart_way lines are i k item other less lt e f =
    let d : slice_index_or lines k item ≡ other = get_or_default lines k item other (omega arith) ∙ f in
    let a = are.apart k i item less lt in
    let p : item_path (slice_index_or lines k item) ≡ item_path other = ap item_path d in
    let q : item_path (slice_index_or lines i item) ≡ item_path item = ap item_path e in (
      λ same. a.differ (p ∙ same ∙ sym q),
      λ h. a.above (subst (λ (x : List ℕ). IsDirectoryOf x (item_path (slice_index_or lines i item))) (sym p) (subst (λ (y : List ℕ). IsDirectoryOf (item_path other) y) (sym q) h)),
      λ h. a.below (subst (λ (x : List ℕ). IsDirectoryOf (item_path (slice_index_or lines i item)) x) (sym p) (subst (λ (y : List ℕ). IsDirectoryOf y (item_path other)) (sym q) h)),
    )

item_is_path : (item : RootItem) → IsRootItem item → IsPath (item_path item)
item_is_path (items.File at content) h = h.0
item_is_path (items.Symlink at target) h = h.0

-- one more line
pub item_step : (lines : List RootItem) → AreRootItems lines → (i : ℕ) (item : RootItem) → i < length lines → slice_index_or lines i item ≡ item → (old new : List Node) → Kept (Below lines i) old → PlacedItem item old new → Kept (Below lines (i + 1)) new
item_step lines are i item lt is old new k p =
    kept_as _ _ new to from (placed_keeps _ p.mid new (node_of item) (directories_keep (Below lines i) (item_path item) old k alone (length (item_path item)) p.mid (omega arith) p.directories) p.placed last)
  where
    alone : (m : Node) (j : ℕ) → Below lines i m → j < length (item_path item) → slice_index (item_path item) j ≡ 47 → m.path ≡ take j (item_path item) → m ≡ directory_at (take j (item_path item))
    alone m j (inl root) low slash e = root ∙ ap directory_at (sym (ap (λ (n : Node). n.path) root) ∙ e)
    alone m j (inr line) low slash e = by line.way
      where
        by : IsOnWay (item_path line.item) (length (item_path line.item)) m ⊎ (m ≡ node_of line.item) → m ≡ directory_at (take j (item_path item))
        by (inl w) = w.is ∙ ap directory_at (sym (ap (λ (n : Node). n.path) w.is) ∙ e)
        by (inr same) =
            let a = apart_way lines are i line.k item line.item line.low lt is line.is in
            let q : item_path line.item ≡ take j (item_path item) = sym (ap (λ (n : Node). n.path) same) ∙ e in
            absurd (a.1 (record { rest = drop (j + 1) (item_path item); longer = slash_split (item_path item) j low slash ∙ ap (λ (f : List ℕ). f ++ (47 ∷ drop (j + 1) (item_path item))) (sym q) }))

    last : (m : Node) → Below lines i m ⊎ IsOnWay (item_path item) (length (item_path item)) m → m.path ≡ item_path item → m ≡ node_of item
    last m (inl (inl root)) e =
        let path_is = item_is_path item (subst IsRootItem is (are.each i item lt)) in
        let empty : item_path item ≡ [] = sym e ∙ ap (λ (n : Node). n.path) root in
        let none : length (item_path item) ≡ 0 = ap length empty in
        let some : length (item_path item) ≡ length (47 ∷ path_is.rest) = ap length path_is.slash in
        absurd (omega arith)
    last m (inl (inr line)) e = by line.way
      where
        a : (item_path line.item ≡ item_path item → ⊥) × (IsDirectoryOf (item_path line.item) (item_path item) → ⊥) × (IsDirectoryOf (item_path item) (item_path line.item) → ⊥)
        a = apart_way lines are i line.k item line.item line.low lt is line.is

        by : IsOnWay (item_path line.item) (length (item_path line.item)) m ⊎ (m ≡ node_of line.item) → m ≡ node_of item
        by (inl w) =
            let q : take w.i (item_path line.item) ≡ item_path item = sym (ap (λ (n : Node). n.path) w.is) ∙ e in
            absurd (a.2 (record { rest = drop (w.i + 1) (item_path line.item); longer = slash_split (item_path line.item) w.i w.low w.slash ∙ ap (λ (f : List ℕ). f ++ (47 ∷ drop (w.i + 1) (item_path line.item))) q }))
        by (inr same) = absurd (a.0 (sym (ap (λ (n : Node). n.path) same) ∙ e))
    last m (inr w) e =
        let l = length-take w.i (item_path item) in
        let low = w.low in
        let q : length (take w.i (item_path item)) ≡ length (item_path item) = ap length (sym (ap (λ (n : Node). n.path) w.is) ∙ e) in
        absurd (omega arith)

    to : (m : Node) → (Below lines i m ⊎ IsOnWay (item_path item) (length (item_path item)) m) ⊎ (m ≡ node_of item) → Below lines (i + 1) m
    to m (inl (inl (inl root))) = inl root
    to m (inl (inl (inr line))) = inr (record { k = line.k; low = (let l = line.low in omega arith); item = line.item; is = line.is; way = line.way })
    to m (inl (inr w)) = inr (record { k = i; low = omega arith; item = item; is = is; way = inl w })
    to m (inr e) = inr (record { k = i; low = omega arith; item = item; is = is; way = inr e })

    from : (m : Node) → Below lines (i + 1) m → (Below lines i m ⊎ IsOnWay (item_path item) (length (item_path item)) m) ⊎ (m ≡ node_of item)
    from m (inl root) = inl (inl (inl root))
    from m (inr line) = by (rank line.k i)
      where
        here : IsOnWay (item_path item) (length (item_path item)) m ⊎ (m ≡ node_of item) → (Below lines i m ⊎ IsOnWay (item_path item) (length (item_path item)) m) ⊎ (m ≡ node_of item)
        here (inl w) = inl (inr w)
        here (inr e) = inr e

        by : Rank line.k i → (Below lines i m ⊎ IsOnWay (item_path item) (length (item_path item)) m) ⊎ (m ≡ node_of item)
        by (below h) = inl (inl (inr (record { k = line.k; low = h; item = line.item; is = line.is; way = line.way })))
        by (level h) =
            let e : line.item ≡ item = sym line.is ∙ ap (λ (n : ℕ). slice_index_or lines n line.item) h ∙ get_or_default lines i line.item item lt ∙ is in
            here (subst (λ (x : RootItem). IsOnWay (item_path x) (length (item_path x)) m ⊎ (m ≡ node_of x)) e line.way)
        by (higher h) = absurd (let l = line.low in omega arith)

-- before the first line the root directory stands
nothing_kept : Kept (λ (n : Node). ⊥) []
nothing_kept = record { up = λ i j d less lt. absurd (omega arith); sound = λ i d lt. absurd (omega arith); full = λ n s. absurd s }

pub no_lines : (lines : List RootItem) (new : List Node) → Placed [] (directory_at []) new → Kept (Below lines 0) new
no_lines lines new p = kept_as _ _ new to from (placed_keeps (λ (n : Node). ⊥) [] new (directory_at []) nothing_kept p (λ n s e. absurd s))
  where
    to : (n : Node) → ⊥ ⊎ (n ≡ directory_at []) → Below lines 0 n
    to n (inl no_) = absurd no_
    to n (inr e) = inl e

    from : (n : Node) → Below lines 0 n → ⊥ ⊎ (n ≡ directory_at [])
    from n (inl e) = inr e
    from n (inr line) = absurd (let l = line.low in omega arith)

-- how many there are
pub placed_longer : (old new : List Node) (node : Node) → Placed old node new → length new ≤ length old + 1
placed_longer old new node p = by p.put
  where
    by : (HasPathAt old p.at node.path × (new ≡ old)) ⊎ ((HasPathAt old p.at node.path → ⊥) × (new ≡ insert old p.at node)) → length new ≤ length old + 1
    by (inl h) = let e : length new ≡ length old = ap length h.1 in omega arith
    by (inr h) = let e : length new ≡ length (insert old p.at node) = ap length h.1 in let l = length_insert old p.at node p.place.inside in omega arith

pub directories_longer : (path : List ℕ) (old : List Node) (n : ℕ) (new : List Node) → PlacedDirectories path old n new → length new ≤ length old + n
directories_longer path old n new none_yet = omega arith
directories_longer path old n new (no_slash before same other p) = let l = directories_longer path old before same p in omega arith
directories_longer path old n new (one_more before mid last slash p placed) =
    let l = directories_longer path old before mid p in
    let m = placed_longer mid last (directory_at (take before path)) placed in
    omega arith

pub item_longer : (lines : List RootItem) → AreRootItems lines → (i : ℕ) (item : RootItem) → i < length lines → slice_index_or lines i item ≡ item → (old new : List Node) → PlacedItem item old new → length new ≤ length old + 1025
item_longer lines are i item lt is old new p =
    let most = (item_is_path item (subst IsRootItem is (are.each i item lt))).most in
    let l = directories_longer (item_path item) old (length (item_path item)) p.mid p.directories in
    let m = placed_longer p.mid new (node_of item) p.placed in
    omega arith

-- after the last line
of_item : (lines : List RootItem) (k : ℕ) (item : RootItem) → k < length lines → slice_index_or lines k item ≡ item → Stands lines (node_of item)
of_item lines k (items.File at content) lt is = (k, lt, is)
of_item lines k (items.Symlink at target) lt is = (k, lt, is)

stands_of : (lines : List RootItem) (n : Node) → Below lines (length lines) n → Stands lines n
stands_of lines n (inl root) = subst (Stands lines) (sym root) (inl refl)
stands_of lines n (inr line) = by line.way
  where
    by : IsOnWay (item_path line.item) (length (item_path line.item)) n ⊎ (n ≡ node_of line.item) → Stands lines n
    by (inl w) = subst (Stands lines) (sym w.is) (inr (line.k, line.item, line.low, line.is, record { rest = drop (w.i + 1) (item_path line.item); longer = slash_split (item_path line.item) w.i w.low w.slash }))
    by (inr e) = subst (Stands lines) (sym e) (of_item lines line.k line.item line.low line.is)

on_way : (at path rest : List ℕ) → path ≡ at ++ (47 ∷ rest) → IsOnWay path (length path) (directory_at at)
on_way at path rest e =
    let l : length path ≡ length at + length (47 ∷ rest) = ap length e ∙ length-append at (47 ∷ rest) in
    record {
      i = length at;
      low = omega arith;
      slash = ap (λ (p : List ℕ). slice_index p (length at)) e ∙ get_or_at at 47 rest 0 (length at) refl;
      is = ap directory_at (sym (ap (take (length at)) e ∙ take-append_seam at (47 ∷ rest)));
    }

below_of : (lines : List RootItem) (at : List ℕ) (what : Standing) → StandsAt lines at what → Below lines (length lines) (record { path = at; what = what })
below_of lines at standing.Directory (inl e) = inl (ap directory_at e)
below_of lines at standing.Directory (inr any) = inr (record { k = any.0; low = any.2; item = any.1; is = any.3; way = inl (on_way at (item_path any.1) any.4.rest any.4.longer) })
below_of lines at (standing.File content) c = inr (record { k = c.0; low = c.1; item = items.File at content; is = c.2; way = inr refl })
below_of lines at (standing.Symlink target) c = inr (record { k = c.0; low = c.1; item = items.Symlink at target; is = c.2; way = inr refl })

pub numbered : (lines : List RootItem) (nodes : List Node) → Kept (Below lines (length lines)) nodes → AreNumbered lines nodes
numbered lines nodes k = record {
  ascends = k.up;
  stands = λ i d lt. stands_of lines (slice_index_or nodes i d) (k.sound i d lt);
  each = λ node s. k.full node (below_of lines node.path node.what s);
}

standing_fits : (item : RootItem) → IsRootItem item → StandingFits (standing_of item)
standing_fits (items.File at content) h = h.1
standing_fits (items.Symlink at target) h = h.1.most

node_fits : (lines : List RootItem) → AreRootItems lines → (n : Node) → Below lines (length lines) n → StandingFits n.what
node_fits lines are n (inl root) = subst (λ (m : Node). StandingFits m.what) (sym root) tt
node_fits lines are n (inr line) = by line.way
  where
    by : IsOnWay (item_path line.item) (length (item_path line.item)) n ⊎ (n ≡ node_of line.item) → StandingFits n.what
    by (inl w) = subst (λ (m : Node). StandingFits m.what) (sym w.is) tt
    by (inr e) = subst (λ (m : Node). StandingFits m.what) (sym e) (standing_fits line.item (subst IsRootItem line.is (are.each line.k line.item line.low)))

name_fits : (lines : List RootItem) → AreRootItems lines → (n : Node) → Below lines (length lines) n → NameFits n.path
name_fits lines are n (inl root) = subst (λ (m : Node). NameFits m.path) (sym root) name_of_root
name_fits lines are n (inr line) = by line.way
  where
    is : IsPath (item_path line.item)
    is = item_is_path line.item (subst IsRootItem line.is (are.each line.k line.item line.low))

    by : IsOnWay (item_path line.item) (length (item_path line.item)) n ⊎ (n ≡ node_of line.item) → NameFits n.path
    by (inl w) = subst (λ (m : Node). NameFits m.path) (sym w.is) (name_of_front (item_path line.item) (take w.i (item_path line.item)) (drop (w.i + 1) (item_path line.item)) is (slash_split (item_path line.item) w.i w.low w.slash))
    by (inr e) = subst (λ (m : Node). NameFits m.path) (sym e) (name_of_path (item_path line.item) is)

pub nodes_fit : (lines : List RootItem) → AreRootItems lines → (nodes : List Node) → length nodes ≤ 1 + 1025 * length lines → Kept (Below lines (length lines)) nodes → NodesFit nodes
nodes_fit lines are nodes few k = let l = are.few in record { up = k.up; few = omega arith; each = λ i d lt. node_fits lines are (slice_index_or nodes i d) (k.sound i d lt); names = λ i d lt. name_fits lines are (slice_index_or nodes i d) (k.sound i d lt) }
