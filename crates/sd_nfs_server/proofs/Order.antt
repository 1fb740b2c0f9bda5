-- Nodes in byte order of their paths stay so where one is put at its place.
use Rattle.std.proofs.Common.{◌≡◌, ℕ, ◌+◌, ◌-◌, ◌<◌, ◌≤◌, List, length, slice_index_or, refl, sym, ap, ◌∙◌, subst, inl, inr, arith}
use Rattle.std.specs.Prelude.{◌⊎◌, ◌≢◌, Some, None, insert}
use Rattle.std.specs.Cmp.Lexicographic.{slice_cmp}
use Rattle.std.specs.Ordering.{nat_cmp}
use Rattle.std.specs.declared.cmp.Ordering.{Ordering}
use Rattle.std.specs.declared.cmp.Ordering.TheVariants.{Less, Equal, Greater}
use Rattle.std.proofs.lemmas.List.{get_or_default, length-append, length-take, length-drop}
use Rattle.std.proofs.lemmas.List.Edits.{get_or-insert_at, get_or-insert_below, get_or-insert_above}
use Rattle.sd_services.specs.declared.node.Node.{Node}
use Rattle.sd_services.specs.Files.{IsBefore, directory_at}
use Rattle.sd_services.proofs.Order.{Ascends, before_trans, never, same_text, turned_round, Rank, below, level, higher, rank}
use Rattle.sd_nfs_server.specs.Placing.{IsPlaceOf, HasPathAt, Placed}
use Rattle.sd_nfs_server.specs.Steps.{IsNumberOf}

-- of two texts one is before the other, or they are the same
pub one_of : (p q : List ℕ) → (IsBefore p q → ⊥) → (p ≡ q → ⊥) → IsBefore q p
one_of p q not_before not_same = by (slice_cmp nat_cmp p q) refl
  where
    by : (o : Ordering) → slice_cmp nat_cmp p q ≡ o → IsBefore q p
    by Less e = absurd (not_before e)
    by Equal e = absurd (not_same (same_text p q e))
    by Greater e = turned_round p q e

-- a node that stands nowhere is before all nodes from its place on
pub before_rest : (nodes : List Node) (node : Node) (at : ℕ) → Ascends nodes → IsPlaceOf nodes node.path at → (HasPathAt nodes at node.path → ⊥) → (k : ℕ) (d : Node) → at ≤ k → k < length nodes → IsBefore node.path (slice_index_or nodes k d).path
before_rest nodes node at up place new k d from lt =
    let here : at < length nodes = omega arith in
    let first : IsBefore node.path (slice_index_or nodes at d).path = one_of (slice_index_or nodes at d).path node.path (place.after d here) (λ same. new (record { inside = here; same = λ other. ap (λ (n : Node). n.path) (get_or_default nodes at other d here) ∙ same })) in
    by k from lt first (rank at k)
  where
    by : (k : ℕ) → at ≤ k → k < length nodes → IsBefore node.path (slice_index_or nodes at d).path → Rank at k → IsBefore node.path (slice_index_or nodes k d).path
    by k from lt first (below less) = before_trans node.path (slice_index_or nodes at d).path (slice_index_or nodes k d).path first (up at k d less lt)
    by k from lt first (level e) = subst (λ (i : ℕ). IsBefore node.path (slice_index_or nodes i d).path) e first
    by k from lt first (higher more) = absurd (omega arith)

pub length_insert : (nodes : List Node) (at : ℕ) (node : Node) → at ≤ length nodes → length (insert nodes at node) ≡ length nodes + 1
length_insert nodes at node le = grind (arith, length-append, length-take, length-drop)

-- put at its place, it leaves the order
pub insert_ascends : (nodes : List Node) (node : Node) (at : ℕ) → Ascends nodes → IsPlaceOf nodes node.path at → (HasPathAt nodes at node.path → ⊥) → Ascends (insert nodes at node)
insert_ascends nodes node at up place new = λ i j d less lt. by i j d less lt (rank i at) (rank j at)
  where
    far : (k : ℕ) (d : Node) → at < k → slice_index_or (insert nodes at node) k d ≡ slice_index_or nodes (k - 1) d
    far k d h = let e : k ≡ k - 1 + 1 = omega arith in ap (λ (n : ℕ). slice_index_or (insert nodes at node) n d) e ∙ get_or-insert_above nodes at node d (k - 1) (omega arith) place.inside

    near : (k : ℕ) (d : Node) → k < at → slice_index_or (insert nodes at node) k d ≡ slice_index_or nodes k d
    near k d h = get_or-insert_below nodes at node d k h place.inside

    here : (k : ℕ) (d : Node) → k ≡ at → slice_index_or (insert nodes at node) k d ≡ node
    here k d h = ap (λ (n : ℕ). slice_index_or (insert nodes at node) n d) h ∙ get_or-insert_at nodes at node d place.inside

    tied : (a b x y : Node) → x ≡ a → y ≡ b → IsBefore a.path b.path → IsBefore x.path y.path
    tied a b x y e f h = subst (λ (n : Node). IsBefore n.path y.path) (sym e) (subst (λ (n : Node). IsBefore a.path n.path) (sym f) h)

    by : (i j : ℕ) (d : Node) → i < j → j < length (insert nodes at node) → Rank i at → Rank j at → IsBefore (slice_index_or (insert nodes at node) i d).path (slice_index_or (insert nodes at node) j d).path
    by i j d less lt (below a) (below b) = let le = place.inside in tied _ _ _ _ (near i d a) (near j d b) (up i j d less (omega arith))
    by i j d less lt (below a) (level b) = tied _ _ _ _ (near i d a) (here j d b) (place.before i d a)
    by i j d less lt (below a) (higher b) = let n = length_insert nodes at node place.inside in tied _ _ _ _ (near i d a) (far j d b) (up i (j - 1) d (omega arith) (omega arith))
    by i j d less lt (level a) (below b) = absurd (omega arith)
    by i j d less lt (level a) (level b) = absurd (omega arith)
    by i j d less lt (level a) (higher b) = let n = length_insert nodes at node place.inside in tied _ _ _ _ (here i d a) (far j d b) (before_rest nodes node at up place new (j - 1) d (omega arith) (omega arith))
    by i j d less lt (higher a) (below b) = absurd (omega arith)
    by i j d less lt (higher a) (level b) = absurd (omega arith)
    by i j d less lt (higher a) (higher b) = let n = length_insert nodes at node place.inside in tied _ _ _ _ (far i d a) (far j d b) (up (i - 1) (j - 1) d (omega arith) (omega arith))

-- what was put at its place
pub placed_ascends : (old new : List Node) (node : Node) → Ascends old → Placed old node new → Ascends new
placed_ascends old new node up p = by p.put
  where
    by : (HasPathAt old p.at node.path × (new ≡ old)) ⊎ ((HasPathAt old p.at node.path → ⊥) × (new ≡ insert old p.at node)) → Ascends new
    by (inl h) = subst Ascends (sym h.1) up
    by (inr h) = subst Ascends (sym h.1) (insert_ascends old node p.at up p.place h.0)

-- ---- halving

-- where the place of a path is still looked for: not below `low`, and not above `high`
pub record IsBetween (nodes : List Node) (path : List ℕ) (low high : ℕ) : Type 0 where
  pub order : low ≤ high
  pub inside : high ≤ length nodes
  pub before : (k : ℕ) (d : Node) → k < low → IsBefore (slice_index_or nodes k d).path path
  pub after : (k : ℕ) (d : Node) → high ≤ k → k < length nodes → IsBefore (slice_index_or nodes k d).path path → ⊥

pub between_all : (nodes : List Node) (path : List ℕ) → IsBetween nodes path 0 (length nodes)
between_all nodes path = record { order = omega arith; inside = omega arith; before = λ k d lt. absurd (omega (arith, lt)); after = λ k d from lt. absurd (omega (arith, from, lt)) }

-- the node in the middle stands before the path, and so do all below it
pub upper_half : (nodes : List Node) (path : List ℕ) (low high middle : ℕ) → Ascends nodes → IsBetween nodes path low high → middle < high → low ≤ middle → ((d : Node) → IsBefore (slice_index_or nodes middle d).path path) → IsBetween nodes path (middle + 1) high
upper_half nodes path low high middle up b lt le is = record { order = omega (arith, lt); inside = b.inside; before = λ k d less. by k d less (rank k middle); after = b.after }
  where
    by : (k : ℕ) (d : Node) → k < middle + 1 → Rank k middle → IsBefore (slice_index_or nodes k d).path path
    by k d less (below h) = before_trans (slice_index_or nodes k d).path (slice_index_or nodes middle d).path path (up k middle d h (let i = b.inside in omega (arith, i, lt))) (is d)
    by k d less (level h) = subst (λ (i : ℕ). IsBefore (slice_index_or nodes i d).path path) (sym h) (is d)
    by k d less (higher h) = absurd (omega (arith, less, h))

-- it doesn't, and so do none from it on
pub lower_half : (nodes : List Node) (path : List ℕ) (low high middle : ℕ) → Ascends nodes → IsBetween nodes path low high → middle < high → low ≤ middle → ((d : Node) → IsBefore (slice_index_or nodes middle d).path path → ⊥) → IsBetween nodes path low middle
lower_half nodes path low high middle up b lt le is = record { order = le; inside = (let i = b.inside in omega (arith, i, lt)); before = b.before; after = λ k d from less. by k d from less (rank k middle) }
  where
    by : (k : ℕ) (d : Node) → middle ≤ k → k < length nodes → Rank k middle → IsBefore (slice_index_or nodes k d).path path → ⊥
    by k d from less (below h) before = absurd (omega (arith, from, h))
    by k d from less (level h) before = is d (subst (λ (i : ℕ). IsBefore (slice_index_or nodes i d).path path) h before)
    by k d from less (higher h) before = is d (before_trans (slice_index_or nodes middle d).path (slice_index_or nodes k d).path path (up middle k d h less) before)

pub found_place : (nodes : List Node) (path : List ℕ) (low high : ℕ) → IsBetween nodes path low high → high ≤ low → IsPlaceOf nodes path low
found_place nodes path low high b met = record {
  inside = (let i = b.inside in let o = b.order in omega (arith, i, o));
  before = b.before;
  after = λ d lt before. b.after low d met lt before;
}

-- the number of the node with a path, from its place
differs : (p q : List ℕ) → IsBefore p q → p ≢ q
differs p q before same = never q (subst (λ (r : List ℕ). IsBefore r q) same before)

pub number_there : (nodes : List Node) (path : List ℕ) (at : ℕ) → IsPlaceOf nodes path at → HasPathAt nodes at path → IsNumberOf nodes path (Some (at + 1))
number_there nodes path at place has = (at, refl, has.inside, has.same, λ i d less. differs (slice_index_or nodes i d).path path (place.before i d less))

pub number_missing : (nodes : List Node) (path : List ℕ) (at : ℕ) → Ascends nodes → IsPlaceOf nodes path at → (HasPathAt nodes at path → ⊥) → IsNumberOf nodes path None
number_missing nodes path at up place new k d inside = by (rank k at)
  where
    late : at ≤ k → (slice_index_or nodes k d).path ≢ path
    late from same = differs path (slice_index_or nodes k d).path (before_rest nodes (directory_at path) at up place new k d from inside) (sym same)

    by : Rank k at → (slice_index_or nodes k d).path ≢ path
    by (below less) = differs (slice_index_or nodes k d).path path (place.before k d less)
    by (level same) = late (omega arith)
    by (higher more) = late (omega arith)
