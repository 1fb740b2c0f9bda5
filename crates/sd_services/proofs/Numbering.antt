-- The numbering that is computed is the one that the lines determine.
use Rattle.std.proofs.Common.{◌≡◌, ℕ, suc, ◌+◌, ◌<◌, List, [], ◌∷◌, ◌++◌, length, slice_index_or, refl, sym, ap, ◌∙◌, subst, inl, inr, arith}
use Rattle.std.specs.Prelude.{◌⊎◌, ◌==◌, if◌then◌else◌, map, Bool, true, false, Option, Some, None, MatchOption}
use Rattle.std.specs.List.{Contains}
use Rattle.std.specs.Cmp.Lexicographic.{slice_cmp}
use Rattle.std.specs.Ordering.{nat_cmp}
use Rattle.std.specs.declared.cmp.Ordering.{Ordering}
use Rattle.std.specs.declared.cmp.Ordering.TheVariants.{Less, Equal, Greater}
use Rattle.std.proofs.lemmas.List.{get_or_default, append_assoc, append-nil, length-append}
use Rattle.std.proofs.lemmas.List.Elements.{Contains-append_left, Contains-append_right, Contains-append_cases}
use Rattle.std.proofs.lemmas.Bool.{eqb-true}
use Rattle.sd_config.specs.declared.config.Config.{Config}
use Rattle.sd_config.specs.declared.config.RootItem.{RootItem}
use Rattle.sd_config.specs.declared.config.RootItem.TheVariants as items
use Rattle.sd_services.specs.declared.node.Node.{Node}
use Rattle.sd_services.specs.declared.node.Standing.{Standing}
use Rattle.sd_services.specs.declared.node.Standing.TheVariants as standing
use Rattle.sd_config.specs.Config.{item_path, IsRootItem, AreRootItems, AreApart, IsDirectoryOf, IsConfig}
use Rattle.sd_services.specs.Files.{IsBefore, Stands, StandsAt, AreNumbered, Exported, Exports, directory_at, fronts, standing_of, node_of, nodes_of, place_by, place, sorted, all_nodes, numbered, root_files, exported}
use Rattle.sd_services.proofs.Order.{Ascends, before_trans, same_text, turned_round, later, at_head, nowhere, Where, here, behind, find_in, tail_up, head_first, ascends_with, same_nodes, Rank, below, level, higher, rank}

-- ---- a node at its place

place_in : (node : Node) (nodes : List Node) (n : Node) → Contains (place node nodes) n → (node ≡ n) ⊎ Contains nodes n
place_in node [] n c = by (find_in node [] n c)
  where
    by : Where node [] n → (node ≡ n) ⊎ Contains [] n
    by (here e) = inl e
    by (behind d) = inr d
place_in node (first ∷ rest) n c = by (slice_cmp nat_cmp first.path node.path) c (place_in node rest n)
  where
    less : (Contains (place node rest) n → (node ≡ n) ⊎ Contains rest n) → Where first (place node rest) n → (node ≡ n) ⊎ Contains (first ∷ rest) n
    less deeper (here e) = inr (at_head first rest n e)
    less deeper (behind d) = on (deeper d)
      where
        on : (node ≡ n) ⊎ Contains rest n → (node ≡ n) ⊎ Contains (first ∷ rest) n
        on (inl e) = inl e
        on (inr d) = inr (later first rest n d)

    more : Where node (first ∷ rest) n → (node ≡ n) ⊎ Contains (first ∷ rest) n
    more (here e) = inl e
    more (behind d) = inr d

    by : (o : Ordering) → Contains (place_by o node first rest (place node rest)) n → (Contains (place node rest) n → (node ≡ n) ⊎ Contains rest n) → (node ≡ n) ⊎ Contains (first ∷ rest) n
    by Less c deeper = less deeper (find_in first (place node rest) n c)
    by Equal c deeper = inr c
    by Greater c deeper = more (find_in node (first ∷ rest) n c)

place_keeps : (node : Node) (nodes : List Node) (n : Node) → Contains nodes n → Contains (place node nodes) n
place_keeps node [] n c = absurd (nowhere n c)
place_keeps node (first ∷ rest) n c = by (slice_cmp nat_cmp first.path node.path) (place_keeps node rest n)
  where
    less : (Contains rest n → Contains (place node rest) n) → Where first rest n → Contains (first ∷ place node rest) n
    less deeper (here e) = at_head first (place node rest) n e
    less deeper (behind d) = later first (place node rest) n (deeper d)

    by : (o : Ordering) → (Contains rest n → Contains (place node rest) n) → Contains (place_by o node first rest (place node rest)) n
    by Less deeper = less deeper (find_in first rest n c)
    by Equal deeper = c
    by Greater deeper = later node (first ∷ rest) n c

-- it stands there, where nothing else has its path
place_puts : (node : Node) (nodes : List Node) → ((n : Node) → Contains nodes n → n.path ≡ node.path → n ≡ node) → Contains (place node nodes) node
place_puts node [] alone = at_head node [] node refl
place_puts node (first ∷ rest) alone = by (slice_cmp nat_cmp first.path node.path) refl (place_puts node rest (λ n c. alone n (later first rest n c)))
  where
    by : (o : Ordering) → slice_cmp nat_cmp first.path node.path ≡ o → Contains (place node rest) node → Contains (place_by o node first rest (place node rest)) node
    by Less e deeper = later first (place node rest) node deeper
    by Equal e deeper = at_head first rest node (alone first (at_head first rest first refl) (same_text first.path node.path e))
    by Greater e deeper = at_head node (first ∷ rest) node refl

place_ascends : (node : Node) (nodes : List Node) → Ascends nodes → Ascends (place node nodes)
place_ascends node [] up = ascends_with node [] (λ n c. absurd (nowhere n c)) up
place_ascends node (first ∷ rest) up = by (slice_cmp nat_cmp first.path node.path) refl (place_ascends node rest (tail_up first rest up))
  where
    by : (o : Ordering) → slice_cmp nat_cmp first.path node.path ≡ o → Ascends (place node rest) → Ascends (place_by o node first rest (place node rest))
    by Less e deeper = ascends_with first (place node rest) (λ n c. on n (place_in node rest n c)) deeper
      where
        on : (n : Node) → (node ≡ n) ⊎ Contains rest n → IsBefore first.path n.path
        on n (inl same) = subst (λ (m : Node). IsBefore first.path m.path) same e
        on n (inr d) = head_first first rest up n d
    by Equal e deeper = up
    by Greater e deeper = ascends_with node (first ∷ rest) (λ n c. on n (find_in first rest n c)) up
      where
        before : IsBefore node.path first.path
        before = turned_round first.path node.path e

        on : (n : Node) → Where first rest n → IsBefore node.path n.path
        on n (here same) = subst (λ (m : Node). IsBefore node.path m.path) same before
        on n (behind d) = before_trans node.path first.path n.path before (head_first first rest up n d)

-- ---- all nodes at their places

sorted_ascends : (nodes : List Node) → Ascends (sorted nodes)
sorted_ascends [] = λ i j d less lt. absurd (omega arith)
sorted_ascends (node ∷ nodes) = place_ascends node (sorted nodes) (sorted_ascends nodes)

sorted_in : (nodes : List Node) (n : Node) → Contains (sorted nodes) n → Contains nodes n
sorted_in [] n c = c
sorted_in (node ∷ nodes) n c = by (place_in node (sorted nodes) n c) (sorted_in nodes n)
  where
    by : (node ≡ n) ⊎ Contains (sorted nodes) n → (Contains (sorted nodes) n → Contains nodes n) → Contains (node ∷ nodes) n
    by (inl e) deeper = at_head node nodes n e
    by (inr d) deeper = later node nodes n (deeper d)

sorted_has : (nodes : List Node) → ((a b : Node) → Contains nodes a → Contains nodes b → a.path ≡ b.path → a ≡ b) → (n : Node) → Contains nodes n → Contains (sorted nodes) n
sorted_has [] alone n c = c
sorted_has (node ∷ nodes) alone n c = by (find_in node nodes n c) (sorted_has nodes (λ a b d e. alone a b (later node nodes a d) (later node nodes b e)) n)
  where
    by : Where node nodes n → (Contains nodes n → Contains (sorted nodes) n) → Contains (place node (sorted nodes)) n
    by (here e) deeper = subst (Contains (place node (sorted nodes))) e (place_puts node (sorted nodes) (λ m d. alone m node (later node nodes m (sorted_in nodes m d)) (at_head node nodes node refl)))
    by (behind d) deeper = place_keeps node (sorted nodes) n (deeper d)

-- ---- what stands before the slashes of a path

fronts_are : (before rest p : List ℕ) → Contains (fronts before rest) p → (tail : List ℕ) × (before ++ rest ≡ p ++ 47 ∷ tail)
fronts_are before [] p c = absurd (nowhere p c)
fronts_are before (b ∷ rest) p c = by (b == 47) refl c (fronts_are (before ++ b ∷ []) rest p)
  where
    further : List (List ℕ)
    further = fronts (before ++ b ∷ []) rest

    on : (tail : List ℕ) × ((before ++ b ∷ []) ++ rest ≡ p ++ 47 ∷ tail) → (tail : List ℕ) × (before ++ b ∷ rest ≡ p ++ 47 ∷ tail)
    on found = (found.0, sym (append_assoc before (b ∷ []) rest) ∙ found.1)

    by : (test : Bool) → (b == 47) ≡ test → Contains (if test then before ∷ further else further) p → (Contains further p → (tail : List ℕ) × ((before ++ b ∷ []) ++ rest ≡ p ++ 47 ∷ tail)) → (tail : List ℕ) × (before ++ b ∷ rest ≡ p ++ 47 ∷ tail)
    by true e c deeper = at (find_in before further p c)
      where
        at : Where before further p → (tail : List ℕ) × (before ++ b ∷ rest ≡ p ++ 47 ∷ tail)
        at (here same) = (rest, (λ i. same i ++ eqb-true b 47 e i ∷ rest))
        at (behind d) = on (deeper d)
    by false e c deeper = on (deeper c)

fronts_have : (before p tail : List ℕ) → Contains (fronts before (p ++ 47 ∷ tail)) (before ++ p)
fronts_have before [] tail = at_head before (fronts (before ++ 47 ∷ []) tail) (before ++ []) (sym (append-nil before))
fronts_have before (b ∷ p) tail = subst (Contains (fronts before ((b ∷ p) ++ 47 ∷ tail))) (append_assoc before (b ∷ []) p) (by (b == 47) (fronts_have (before ++ b ∷ []) p tail))
  where
    further : List (List ℕ)
    further = fronts (before ++ b ∷ []) (p ++ 47 ∷ tail)

    by : (test : Bool) → Contains further ((before ++ b ∷ []) ++ p) → Contains (if test then before ∷ further else further) ((before ++ b ∷ []) ++ p)
    by true c = later before further ((before ++ b ∷ []) ++ p) c
    by false c = c

-- ---- what stands for the lines

mapped : (paths : List (List ℕ)) (n : Node) → Contains (map directory_at paths) n → (p : List ℕ) × Contains paths p × (directory_at p ≡ n)
mapped [] n c = absurd (nowhere n c)
mapped (p ∷ paths) n c = by (find_in (directory_at p) (map directory_at paths) n c) (mapped paths n)
  where
    by : Where (directory_at p) (map directory_at paths) n → (Contains (map directory_at paths) n → (q : List ℕ) × Contains paths q × (directory_at q ≡ n)) → (q : List ℕ) × Contains (p ∷ paths) q × (directory_at q ≡ n)
    by (here e) deeper = (p, at_head p paths p refl, e)
    by (behind d) deeper = let found = deeper d in (found.0, later p paths found.0 found.1, found.2)

maps : (paths : List (List ℕ)) (p : List ℕ) → Contains paths p → Contains (map directory_at paths) (directory_at p)
maps [] p c = absurd (nowhere p c)
maps (q ∷ paths) p c = by (find_in q paths p c) (maps paths p)
  where
    by : Where q paths p → (Contains paths p → Contains (map directory_at paths) (directory_at p)) → Contains (map directory_at (q ∷ paths)) (directory_at p)
    by (here e) deeper = at_head (directory_at q) (map directory_at paths) (directory_at p) (ap directory_at e)
    by (behind d) deeper = later (directory_at q) (map directory_at paths) (directory_at p) (deeper d)

more_stands : (line : RootItem) (lines : List RootItem) (n : Node) → Stands lines n → Stands (line ∷ lines) n
more_stands line lines n s = by n.what s
  where
    by : (what : Standing) → StandsAt lines n.path what → StandsAt (line ∷ lines) n.path what
    by standing.Directory (inl e) = inl e
    by standing.Directory (inr any) = inr (suc any.0, any.1, (let l = any.2 in omega arith), any.3, any.4)
    by (standing.File content) c = later line lines _ c
    by (standing.Symlink target) c = later line lines _ c

first_stands : (line : RootItem) (lines : List RootItem) (n : Node) → Contains (nodes_of line) n → Stands (line ∷ lines) n
first_stands line lines n c = by (find_in (node_of line) (map directory_at (fronts [] (item_path line))) n c)
  where
    itself : (line : RootItem) → Stands (line ∷ lines) (node_of line)
    itself (items.File path content) = at_head _ lines _ refl
    itself (items.Symlink path target) = at_head _ lines _ refl

    by : Where (node_of line) (map directory_at (fronts [] (item_path line))) n → Stands (line ∷ lines) n
    by (here e) = subst (Stands (line ∷ lines)) e (itself line)
    by (behind d) =
        let found = mapped (fronts [] (item_path line)) n d in
        let way = fronts_are [] (item_path line) found.0 found.1 in
        subst (Stands (line ∷ lines)) found.2 (inr (0, line, omega arith, refl, record { rest = way.0; longer = way.1 }))

all_stand : (lines : List RootItem) (n : Node) → Contains (all_nodes lines) n → Stands lines n
all_stand [] n c = by (find_in (directory_at []) [] n c)
  where
    by : Where (directory_at []) [] n → Stands [] n
    by (here e) = subst (Stands []) e (inl refl)
    by (behind d) = absurd (nowhere n d)
all_stand (line ∷ lines) n c = by (Contains-append_cases (nodes_of line) (all_nodes lines) n c) (all_stand lines n)
  where
    by : Contains (nodes_of line) n ⊎ Contains (all_nodes lines) n → (Contains (all_nodes lines) n → Stands lines n) → Stands (line ∷ lines) n
    by (inl d) deeper = first_stands line lines n d
    by (inr d) deeper = more_stands line lines n (deeper d)

-- what stands for a line stands for all
from_line : (lines : List RootItem) (line : RootItem) (n : Node) → Contains lines line → Contains (nodes_of line) n → Contains (all_nodes lines) n
from_line [] line n c d = absurd (nowhere line c)
from_line (first ∷ lines) line n c d = by (find_in first lines line c) (λ deeper. from_line lines line n deeper d)
  where
    by : Where first lines line → (Contains lines line → Contains (all_nodes lines) n) → Contains (nodes_of first ++ all_nodes lines) n
    by (here e) deeper = Contains-append_left (nodes_of first) (all_nodes lines) n (subst (λ (x : RootItem). Contains (nodes_of x) n) (sym e) d)
    by (behind b) deeper = Contains-append_right (nodes_of first) (all_nodes lines) n (deeper b)

root_stands : (lines : List RootItem) → Contains (all_nodes lines) (directory_at [])
root_stands [] = at_head (directory_at []) [] (directory_at []) refl
root_stands (line ∷ lines) = Contains-append_right (nodes_of line) (all_nodes lines) (directory_at []) (root_stands lines)

stands_all : (lines : List RootItem) (path : List ℕ) (what : Standing) → StandsAt lines path what → Contains (all_nodes lines) (record { path = path; what = what })
stands_all lines path standing.Directory (inl e) = subst (λ (p : List ℕ). Contains (all_nodes lines) (directory_at p)) (sym e) (root_stands lines)
stands_all lines path standing.Directory (inr any) =
    let line = any.1 in
    let way = any.4 in
    let front : Contains (fronts [] (item_path line)) path = subst (λ (whole : List ℕ). Contains (fronts [] whole) path) (sym way.longer) (fronts_have [] path way.rest) in
    from_line lines line (directory_at path) (any.0, any.2, any.3) (later (node_of line) (map directory_at (fronts [] (item_path line))) (directory_at path) (maps (fronts [] (item_path line)) path front))
stands_all lines path (standing.File content) c = from_line lines (items.File path content) _ c (at_head _ _ _ refl)
stands_all lines path (standing.Symlink target) c = from_line lines (items.Symlink path target) _ c (at_head _ _ _ refl)

-- ---- at a path stands one thing

-- two lines are the same, or their paths are apart
same_line : (lines : List RootItem) → AreRootItems lines → (a b : RootItem) → Contains lines a → Contains lines b → (a ≡ b) ⊎ AreApart (item_path a) (item_path b)
same_line lines are a b c d = by (rank c.0 d.0)
  where
    apart : (i j : ℕ) (x y : RootItem) → i < j → j < length lines → slice_index_or lines i x ≡ x → slice_index_or lines j y ≡ y → AreApart (item_path x) (item_path y)
    apart i j x y less lt e f = subst (λ (n : RootItem). AreApart (item_path n) (item_path y)) (get_or_default lines i y x (omega (arith, less, lt)) ∙ e)
        (subst (λ (n : RootItem). AreApart (item_path (slice_index_or lines i y)) (item_path n)) f (are.apart i j y less lt))

    by : Rank c.0 d.0 → (a ≡ b) ⊎ AreApart (item_path a) (item_path b)
    by (below h) = inr (apart c.0 d.0 a b h d.1 c.2 d.2)
    by (level h) = inl (sym c.2 ∙ ap (λ (k : ℕ). slice_index_or lines k a) h ∙ get_or_default lines d.0 a b d.1 ∙ d.2)
    by (higher h) = let other = apart d.0 c.0 b a h c.1 d.2 c.2 in inr (record { differ = λ e. other.differ (sym e); above = other.below; below = other.above })

-- a path is no directory on the way to itself
not_own_way : (p : List ℕ) → IsDirectoryOf p p → ⊥
not_own_way p way = let e : length p ≡ length p + length (47 ∷ way.rest) = ap length way.longer ∙ length-append p (47 ∷ way.rest) in omega arith

-- no line's path is on the way to a line
not_on_way : (lines : List RootItem) → AreRootItems lines → (path : List ℕ) (line : RootItem) → Contains lines line → item_path line ≡ path → StandsAt lines path standing.Directory → ⊥
not_on_way lines are path line c e (inl empty) =
    let some = is_path line (subst IsRootItem c.2 (are.each c.0 line c.1)) in
    let none : length (47 ∷ some.0) ≡ 0 = ap length (sym some.1 ∙ e ∙ empty) in
    omega arith
  where
    is_path : (line : RootItem) → IsRootItem line → (rest : List ℕ) × (item_path line ≡ 47 ∷ rest)
    is_path (items.File path content) h = (h.0.rest, h.0.slash)
    is_path (items.Symlink path target) h = (h.0.rest, h.0.slash)
not_on_way lines are path line c e (inr any) = by (same_line lines are any.1 line (any.0, any.2, any.3) c)
  where
    way : IsDirectoryOf (item_path line) (item_path any.1)
    way = subst (λ (p : List ℕ). IsDirectoryOf p (item_path any.1)) (sym e) any.4

    by : (any.1 ≡ line) ⊎ AreApart (item_path any.1) (item_path line) → ⊥
    by (inl same) = not_own_way (item_path line) (subst (λ (x : RootItem). IsDirectoryOf (item_path line) (item_path x)) same way)
    by (inr apart) = apart.below way

one_standing : (lines : List RootItem) → AreRootItems lines → (path : List ℕ) (a b : Standing) → StandsAt lines path a → StandsAt lines path b → a ≡ b
one_standing lines are path standing.Directory standing.Directory s t = refl
one_standing lines are path standing.Directory (standing.File content) s t = absurd (not_on_way lines are path _ t refl s)
one_standing lines are path standing.Directory (standing.Symlink target) s t = absurd (not_on_way lines are path _ t refl s)
one_standing lines are path (standing.File content) standing.Directory s t = absurd (not_on_way lines are path _ s refl t)
one_standing lines are path (standing.Symlink target) standing.Directory s t = absurd (not_on_way lines are path _ s refl t)
one_standing lines are path (standing.File one) (standing.File other) s t = by (same_line lines are (items.File path one) (items.File path other) s t)
  where
    by : (items.File path one ≡ items.File path other) ⊎ AreApart path path → standing.File one ≡ standing.File other
    by (inl same) = ap standing_of same
    by (inr apart) = absurd (apart.differ refl)
one_standing lines are path (standing.File one) (standing.Symlink other) s t = by (same_line lines are (items.File path one) (items.Symlink path other) s t)
  where
    by : (items.File path one ≡ items.Symlink path other) ⊎ AreApart path path → standing.File one ≡ standing.Symlink other
    by (inl same) = ap standing_of same
    by (inr apart) = absurd (apart.differ refl)
one_standing lines are path (standing.Symlink one) (standing.File other) s t = by (same_line lines are (items.Symlink path one) (items.File path other) s t)
  where
    by : (items.Symlink path one ≡ items.File path other) ⊎ AreApart path path → standing.Symlink one ≡ standing.File other
    by (inl same) = ap standing_of same
    by (inr apart) = absurd (apart.differ refl)
one_standing lines are path (standing.Symlink one) (standing.Symlink other) s t = by (same_line lines are (items.Symlink path one) (items.Symlink path other) s t)
  where
    by : (items.Symlink path one ≡ items.Symlink path other) ⊎ AreApart path path → standing.Symlink one ≡ standing.Symlink other
    by (inl same) = ap standing_of same
    by (inr apart) = absurd (apart.differ refl)

one_node : (lines : List RootItem) → AreRootItems lines → (a b : Node) → Stands lines a → Stands lines b → a.path ≡ b.path → a ≡ b
one_node lines are a b s t same =
    let what : a.what ≡ b.what = one_standing lines are b.path a.what b.what (subst (λ (p : List ℕ). StandsAt lines p a.what) same s) t in
    λ i. record { path = same i; what = what i }

-- ---- the laws

pub numbered_is : (lines : List RootItem) → AreRootItems lines → AreNumbered lines (numbered lines)
numbered_is lines are = record {
  ascends = sorted_ascends (all_nodes lines);
  stands = λ i d lt. all_stand lines (slice_index_or (numbered lines) i d) (sorted_in (all_nodes lines) (slice_index_or (numbered lines) i d) (i, lt, get_or_default (numbered lines) i (slice_index_or (numbered lines) i d) d lt));
  each = λ node s. sorted_has (all_nodes lines) (λ a b c d. one_node lines are a b (all_stand lines a c) (all_stand lines b d)) node (stands_all lines node.path node.what s);
}

-- there is one numbering
pub one_numbering : (lines : List RootItem) (xs ys : List Node) → AreNumbered lines xs → AreNumbered lines ys → xs ≡ ys
one_numbering lines xs ys a b = same_nodes xs ys a.ascends b.ascends
    (λ n c. b.each n (subst (Stands lines) c.2 (a.stands c.0 n c.1)))
    (λ n c. a.each n (subst (Stands lines) c.2 (b.stands c.0 n c.1)))

-- `exported` is what a configuration exports
pub exports_exported : (config : Config) → IsConfig config → Exports config (exported config)
unfolding exported
exports_exported config is = record { owned = refl; rooted = by config.root; swapped = refl }
  where
    by : (root : Option (List ℕ)) → MatchOption root (root_files root config.items ≡ []) (λ path. AreNumbered config.items (root_files root config.items))
    by None = refl
    by (Some path) = numbered_is config.items is.items

-- and nothing else is
pub one_export : (config : Config) (files : Exported) → IsConfig config → Exports config files → files ≡ exported config
unfolding exported
one_export config files is exports = λ i. record { owner = exports.owned i; root = by config.root exports.rooted i; swap = exports.swapped i }
  where
    by : (root : Option (List ℕ)) → MatchOption root (files.root ≡ []) (λ path. AreNumbered config.items files.root) → files.root ≡ root_files root config.items
    by None none = none
    by (Some path) some = one_numbering config.items files.root (numbered config.items) some (numbered_is config.items is.items)
