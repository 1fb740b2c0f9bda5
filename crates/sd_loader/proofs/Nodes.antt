-- The files of the root export: how many, how large, and that names lead to them.
use Rattle.std.proofs.Common.{◌≡◌, ◌⊎◌, ℕ, suc, ◌+◌, ◌-◌, ◌*◌, ◌<◌, ◌≤◌, ◌^◌, Bool, true, false, cond, List, [], ◌∷◌, ◌++◌, length, map, Option, Some, None, refl, ap, subst, inl, inr, arith, length-append}
use Rattle.std.specs.Prelude.{◌==◌, bytes_eq, codes, is_some}
use Rattle.std.specs.List.{All, AllByRecursion, Contains}
use Rattle.std.specs.Cmp.Lexicographic.{slice_cmp}
use Rattle.std.specs.Ordering.{nat_cmp}
use Rattle.std.specs.declared.cmp.Ordering.{Ordering}
use Rattle.std.specs.declared.cmp.Ordering.TheVariants as orders
use Rattle.sd_config.specs.declared.config.Config.{Config}
use Rattle.sd_config.specs.declared.config.RootItem.{RootItem}
use Rattle.sd_config.specs.declared.config.RootItem.TheVariants as items
use Rattle.sd_services.specs.declared.node.Node.{Node}
use Rattle.sd_services.specs.declared.node.Standing.{Standing}
use Rattle.sd_services.specs.declared.node.Standing.TheVariants.{Directory, File, Symlink}
use Rattle.sd_config.specs.Config.{item_path, IsRootItem, AreRootItems, IsConfig}
use Rattle.sd_services.specs.Files.{StandsAt, fronts, nodes_of, directory_at, place_by, place, sorted, all_nodes, numbered, root_files, exported}
use Rattle.sd_services.specs.Names.{child_name, onto, children, parent, named, called}
use Rattle.sd_services.specs.Decisions.{node_at}
use Rattle.sd_services.proofs.Numbering.{numbered_is}
use Rattle.sd_config.proofs.Lists.{all_recursive}
use Rattle.sd_loader.specs.Walk.{what_at, called_by, named_in}
use Rattle.sd_loader.specs.Found.{IsNumber}

-- ---- how many they are

by_order : (o : Ordering) (node first : Node) (rest placed : List Node) → length placed ≤ length rest + 1 → length (place_by o node first rest placed) ≤ length rest + 2
by_order orders.Less node first rest placed h = omega (arith, h)
by_order orders.Equal node first rest placed h = omega arith
by_order orders.Greater node first rest placed h = omega arith

place_length : (node : Node) (xs : List Node) → length (place node xs) ≤ length xs + 1
place_length node [] = omega arith
place_length node (x ∷ xs) = let h = by_order (slice_cmp nat_cmp x.path node.path) node x xs (place node xs) (place_length node xs) in omega (arith, h)

sorted_length : (xs : List Node) → length (sorted xs) ≤ length xs
sorted_length [] = omega arith
sorted_length (x ∷ xs) = let h = place_length x (sorted xs) in let k = sorted_length xs in omega (arith, h, k)

fronts_length : (before rest : List ℕ) → length (fronts before rest) ≤ length rest
fronts_length before [] = omega arith
fronts_length before (b ∷ rest) = of (b == 47) (fronts_length (before ++ b ∷ []) rest)
  where
    of : (t : Bool) → length (fronts (before ++ b ∷ []) rest) ≤ length rest → length (cond t (before ∷ fronts (before ++ b ∷ []) rest) (fronts (before ++ b ∷ []) rest)) ≤ suc (length rest)
    of true h = omega (arith, h)
    of false h = omega (arith, h)

directories_length : (xs : List (List ℕ)) → length (map directory_at xs) ≡ length xs
directories_length [] = refl
directories_length (x ∷ xs) = ap suc (directories_length xs)

path_few : (line : RootItem) → IsRootItem line → length (item_path line) ≤ 1024
path_few (items.File path content) is = is.0.most
path_few (items.Symlink path text) is = is.0.most

line_length : (line : RootItem) → IsRootItem line → length (nodes_of line) ≤ 1025
line_length line is =
    let a = directories_length (fronts [] (item_path line)) in
    let b = fronts_length [] (item_path line) in
    let d = path_few line is in
    omega (arith, a, b, d)

all_length : (lines : List RootItem) → AllByRecursion IsRootItem lines → length (all_nodes lines) ≤ 1025 * length lines + 1
all_length [] all = omega arith
all_length (line ∷ lines) all =
    let a = line_length line all.0 in
    let b = all_length lines all.1 in
    let d = length-append (nodes_of line) (all_nodes lines) in
    omega (arith, a, b, d)

numbered_few : (lines : List RootItem) → AreRootItems lines → length (numbered lines) < 2 ^ 32
numbered_few lines are =
    let a = sorted_length (all_nodes lines) in
    let b = all_length lines (all_recursive IsRootItem lines are.each) in
    let d = are.few in
    omega (arith, a, b, d)

pub few_files : (c : Config) → IsConfig c → length (exported c).root < 2 ^ 32
unfolding exported
few_files c is = of c.root
  where
    of : (root : Option (List ℕ)) → length (root_files root c.items) < 2 ^ 32
    of None = omega arith
    of (Some path) = numbered_few c.items is.items

-- ---- how large they are

unfoldable pub StandingFits : Standing → Type 0
StandingFits Directory = Unit {0}
StandingFits (File content) = length content ≤ 33554432
StandingFits (Symlink text) = length text ≤ 1024

of_member : (P : RootItem → Type 0) (lines : List RootItem) (line : RootItem) → All P lines → Contains lines line → P line
of_member P lines line all there = subst P there.2 (all there.0 line there.1)

stands_fit : (lines : List RootItem) → AreRootItems lines → (path : List ℕ) (what : Standing) → StandsAt lines path what → StandingFits what
unfolding StandingFits
stands_fit lines are path Directory s = tt
stands_fit lines are path (File content) s = (of_member IsRootItem lines (items.File path content) are.each s).1
stands_fit lines are path (Symlink text) s = (of_member IsRootItem lines (items.Symlink path text) are.each s).1.most

pub file_fits : (c : Config) → IsConfig c → (number : ℕ) → IsNumber (exported c).root number → StandingFits (what_at (exported c).root number)
unfolding exported StandingFits
file_fits c is number n = of c.root n
  where
    of : (root : Option (List ℕ)) → IsNumber (root_files root c.items) number → StandingFits (what_at (root_files root c.items) number)
    of None m = absurd (omega (arith, m.0, m.1))
    of (Some path) m =
        let nodes = numbered c.items in
        let node = node_at nodes number in
        stands_fit c.items is.items node.path node.what ((numbered_is c.items is.items).stands (number - 1) (directory_at []) (omega (arith, m.0, m.1)))

-- ---- names lead to files

children_numbers : (dir : List ℕ) (number : ℕ) (nodes : List Node) (name : List ℕ) (next : ℕ) → named name (children dir number nodes) ≡ Some next → (number ≤ next) × (next < number + length nodes)
children_numbers dir number [] name next e = absurd cc
children_numbers dir number (node ∷ nodes) name next e = of (λ h. children_numbers dir (number + 1) nodes name next h) (child_name dir node.path) e
  where
    deeper : (named name (children dir (number + 1) nodes) ≡ Some next → (number + 1 ≤ next) × (next < number + 1 + length nodes)) → named name (children dir (number + 1) nodes) ≡ Some next → (number ≤ next) × (next < number + suc (length nodes))
    deeper rest h = let k = rest h in (omega (arith, k.0), omega (arith, k.1))

    same : (a b : ℕ) → Some a ≡ Some b → a ≡ b
    same a b h = cc

    by : (named name (children dir (number + 1) nodes) ≡ Some next → (number + 1 ≤ next) × (next < number + 1 + length nodes)) → (t : Bool) → cond t (Some number) (named name (children dir (number + 1) nodes)) ≡ Some next → (number ≤ next) × (next < number + suc (length nodes))
    by rest true h = let k = same number next h in (omega (arith, k), omega (arith, k))
    by rest false h = deeper rest h

    of : (named name (children dir (number + 1) nodes) ≡ Some next → (number + 1 ≤ next) × (next < number + 1 + length nodes)) → (o : Option (List ℕ)) → named name (onto number o (children dir (number + 1) nodes)) ≡ Some next → (number ≤ next) × (next < number + suc (length nodes))
    of rest None h = deeper rest h
    of rest (Some own) h = by rest (bytes_eq name own) h

parent_number : (path : List ℕ) (number : ℕ) (nodes : List Node) → (1 ≤ number) → (parent path number nodes ≡ 1) ⊎ ((number ≤ parent path number nodes) × (parent path number nodes < number + length nodes))
parent_number path number [] low = inl refl
parent_number path number (node ∷ nodes) low = of (is_some (child_name node.path path)) (parent_number path (number + 1) nodes (omega (arith, low)))
  where
    of : (t : Bool) → (parent path (number + 1) nodes ≡ 1) ⊎ ((number + 1 ≤ parent path (number + 1) nodes) × (parent path (number + 1) nodes < number + 1 + length nodes))
        → (cond t number (parent path (number + 1) nodes) ≡ 1) ⊎ ((number ≤ cond t number (parent path (number + 1) nodes)) × (cond t number (parent path (number + 1) nodes) < number + suc (length nodes)))
    of true h = inr (omega arith, omega arith)
    of false (inl one) = inl one
    of false (inr k) = inr (omega (arith, k.0), omega (arith, k.1))

called_number : (nodes : List Node) (number : ℕ) (path name : List ℕ) (next : ℕ) → IsNumber nodes number → called nodes number path name ≡ Some next → IsNumber nodes next
called_number nodes number path name next is e = of (bytes_eq name (codes ".")) (bytes_eq name (codes "..")) e
  where
    same : (a b : ℕ) → Some a ≡ Some b → a ≡ b
    same a b h = cc

    up : (parent path 1 nodes ≡ 1) ⊎ ((1 ≤ parent path 1 nodes) × (parent path 1 nodes < 1 + length nodes)) → parent path 1 nodes ≡ next → IsNumber nodes next
    up (inl one) h = (omega (arith, one, h), omega (arith, one, h, is.0, is.1))
    up (inr k) h = (omega (arith, k.0, h), omega (arith, k.1, h))

    of : (x y : Bool) → cond x (Some number) (cond y (Some (parent path 1 nodes)) (named name (children path 1 nodes))) ≡ Some next → IsNumber nodes next
    of true y h = let k = same number next h in (omega (arith, k, is.0), omega (arith, k, is.1))
    of false true h = up (parent_number path 1 nodes (omega arith)) (same (parent path 1 nodes) next h)
    of false false h = let k = children_numbers path 1 nodes name next h in (k.0, omega (arith, k.1))

-- what a directory calls so is a file
pub named_number : (nodes : List Node) (number : ℕ) (name : List ℕ) (next : ℕ) → IsNumber nodes number → named_in nodes number name ≡ Some next → IsNumber nodes next
named_number nodes number name next is e = of (what_at nodes number) e
  where
    of : (s : Standing) → called_by nodes number (node_at nodes number).path s name ≡ Some next → IsNumber nodes next
    of Directory h = called_number nodes number (node_at nodes number).path name next is h
    of (File content) h = absurd cc
    of (Symlink text) h = absurd cc
