-- Lists of nodes that have all that a rule lets stand, and nothing else.
use Rattle.std.proofs.Common.{◌≡◌, ℕ, ◌+◌, ◌-◌, ◌<◌, ◌≤◌, List, length, take, slice_index_or, sym, ap, ◌∙◌, subst, inl, inr, arith}
use Rattle.std.specs.Prelude.{◌⊎◌, insert, All, Contains, slice_index}
use Rattle.std.proofs.lemmas.List.{length-take}
use Rattle.std.proofs.lemmas.List.Edits.{get_or-insert_at, get_or-insert_below, get_or-insert_above}
use Rattle.sd_services.specs.declared.node.Node.{Node}
use Rattle.sd_services.specs.Files.{directory_at}
use Rattle.sd_nfs_server.specs.Placing.{IsPlaceOf, HasPathAt, Placed, PlacedDirectories, none_yet, no_slash, one_more}
use Rattle.sd_services.proofs.Order.{Ascends, Rank, below, level, higher, rank}
use Rattle.sd_nfs_server.proofs.Order.{insert_ascends, length_insert}

pub record Kept (S : Node → Type 0) (nodes : List Node) : Type 0 where
  pub up : Ascends nodes
  pub sound : All S nodes
  pub full : (n : Node) → S n → Contains nodes n

pub kept_as : (S U : Node → Type 0) (nodes : List Node) → ((n : Node) → S n → U n) → ((n : Node) → U n → S n) → Kept S nodes → Kept U nodes
kept_as S U nodes to from k = record { up = k.up; sound = λ i d lt. to _ (k.sound i d lt); full = λ n u. k.full n (from n u) }

kept_old : (S : Node → Type 0) (old : List Node) (node : Node) (at : ℕ) → Kept S old → HasPathAt old at node.path → ((n : Node) → S n → n.path ≡ node.path → n ≡ node) → Kept (λ (n : Node). S n ⊎ (n ≡ node)) old
kept_old S old node at k has alone = record { up = k.up; sound = λ i d lt. inl (k.sound i d lt); full = full }
  where
    full : (n : Node) → S n ⊎ (n ≡ node) → Contains old n
    full n (inl s) = k.full n s
    full n (inr e) = (at, has.inside, alone (slice_index_or old at n) (k.sound at n has.inside) (has.same n) ∙ sym e)

kept_new : (S : Node → Type 0) (old : List Node) (node : Node) (at : ℕ) → Kept S old → IsPlaceOf old node.path at → (HasPathAt old at node.path → ⊥) → Kept (λ (n : Node). S n ⊎ (n ≡ node)) (insert old at node)
kept_new S old node at k place new = record { up = insert_ascends old node at k.up place new; sound = λ i d lt. sound i d lt (rank i at); full = full }
  where
    sound : (i : ℕ) (d : Node) → i < length (insert old at node) → Rank i at → S (slice_index_or (insert old at node) i d) ⊎ (slice_index_or (insert old at node) i d ≡ node)
    sound i d lt (below a) = let le = place.inside in inl (subst S (sym (get_or-insert_below old at node d i a place.inside)) (k.sound i d (omega arith)))
    sound i d lt (level a) = inr (ap (λ (m : ℕ). slice_index_or (insert old at node) m d) a ∙ get_or-insert_at old at node d place.inside)
    sound i d lt (higher a) =
        let l = length_insert old at node place.inside in
        let e : i ≡ i - 1 + 1 = omega arith in
        inl (subst S (sym (ap (λ (m : ℕ). slice_index_or (insert old at node) m d) e ∙ get_or-insert_above old at node d (i - 1) (omega arith) place.inside)) (k.sound (i - 1) d (omega arith)))

    held : (n : Node) (i : ℕ) → i < length old → slice_index_or old i n ≡ n → Rank i at → Contains (insert old at node) n
    held n i lt e (below a) = let l = length_insert old at node place.inside in (i, omega arith, get_or-insert_below old at node n i a place.inside ∙ e)
    held n i lt e (level a) = let l = length_insert old at node place.inside in (i + 1, omega arith, get_or-insert_above old at node n i (omega arith) place.inside ∙ e)
    held n i lt e (higher a) = let l = length_insert old at node place.inside in (i + 1, omega arith, get_or-insert_above old at node n i (omega arith) place.inside ∙ e)

    full : (n : Node) → S n ⊎ (n ≡ node) → Contains (insert old at node) n
    full n (inl s) = let c = k.full n s in held n c.0 c.1 c.2 (rank c.0 at)
    full n (inr e) = let l = length_insert old at node place.inside in let i = place.inside in (at, omega arith, get_or-insert_at old at node n place.inside ∙ sym e)

-- what stands, and the node
pub placed_keeps : (S : Node → Type 0) (old new : List Node) (node : Node) → Kept S old → Placed old node new → ((n : Node) → S n → n.path ≡ node.path → n ≡ node) → Kept (λ (n : Node). S n ⊎ (n ≡ node)) new
placed_keeps S old new node k p alone = by p.put
  where
    by : (HasPathAt old p.at node.path × (new ≡ old)) ⊎ ((HasPathAt old p.at node.path → ⊥) × (new ≡ insert old p.at node)) → Kept (λ (n : Node). S n ⊎ (n ≡ node)) new
    by (inl h) = subst (Kept (λ (n : Node). S n ⊎ (n ≡ node))) (sym h.1) (kept_old S old node p.at k h.0 alone)
    by (inr h) = subst (Kept (λ (n : Node). S n ⊎ (n ≡ node))) (sym h.1) (kept_new S old node p.at k p.place h.0)

-- a directory whose slash stands below an index of the path
pub record IsOnWay (path : List ℕ) (n : ℕ) (node : Node) : Type 0 where
  pub i : ℕ
  pub low : i < n
  pub slash : slice_index path i ≡ 47
  pub is : node ≡ directory_at (take i path)

-- what stands, and the directories on the way to a path
pub directories_keep : (S : Node → Type 0) (path : List ℕ) (old : List Node) → Kept S old → ((m : Node) (i : ℕ) → S m → i < length path → slice_index path i ≡ 47 → m.path ≡ take i path → m ≡ directory_at (take i path)) → (n : ℕ) (new : List Node) → n ≤ length path → PlacedDirectories path old n new → Kept (λ (m : Node). S m ⊎ IsOnWay path n m) new
directories_keep S path old k alone n new le none_yet = kept_as S _ old (λ m s. inl s) back k
  where
    back : (m : Node) → S m ⊎ IsOnWay path 0 m → S m
    back m (inl s) = s
    back m (inr w) = absurd (let l = w.low in omega arith)
directories_keep S path old k alone n new le (no_slash before same other p) =
    kept_as _ _ new to from (directories_keep S path old k alone before same (omega arith) p)
  where
    to : (m : Node) → S m ⊎ IsOnWay path before m → S m ⊎ IsOnWay path (before + 1) m
    to m (inl s) = inl s
    to m (inr w) = inr (record { i = w.i; low = (let l = w.low in omega arith); slash = w.slash; is = w.is })

    from : (m : Node) → S m ⊎ IsOnWay path (before + 1) m → S m ⊎ IsOnWay path before m
    from m (inl s) = inl s
    from m (inr w) = by (rank w.i before)
      where
        by : Rank w.i before → S m ⊎ IsOnWay path before m
        by (below h) = inr (record { i = w.i; low = h; slash = w.slash; is = w.is })
        by (level h) = absurd (other (ap (slice_index path) (sym h) ∙ w.slash))
        by (higher h) = absurd (let l = w.low in omega arith)
directories_keep S path old k alone n new le (one_more before mid last slash p placed) =
    kept_as _ _ new to from (placed_keeps _ mid new (directory_at (take before path)) (directories_keep S path old k alone before mid (omega arith) p) placed one)
  where
    one : (m : Node) → S m ⊎ IsOnWay path before m → m.path ≡ take before path → m ≡ directory_at (take before path)
    one m (inl s) e = alone m before s (omega arith) slash e
    one m (inr w) e =
        let a = length-take w.i path in
        let b = length-take before path in
        let l = w.low in
        let c : length (take w.i path) ≡ length (take before path) = ap length (sym (ap (λ (x : Node). x.path) w.is) ∙ e) in
        absurd (omega arith)

    to : (m : Node) → (S m ⊎ IsOnWay path before m) ⊎ (m ≡ directory_at (take before path)) → S m ⊎ IsOnWay path (before + 1) m
    to m (inl (inl s)) = inl s
    to m (inl (inr w)) = inr (record { i = w.i; low = (let l = w.low in omega arith); slash = w.slash; is = w.is })
    to m (inr e) = inr (record { i = before; low = omega arith; slash = slash; is = e })

    from : (m : Node) → S m ⊎ IsOnWay path (before + 1) m → (S m ⊎ IsOnWay path before m) ⊎ (m ≡ directory_at (take before path))
    from m (inl s) = inl (inl s)
    from m (inr w) = by (rank w.i before)
      where
        by : Rank w.i before → (S m ⊎ IsOnWay path before m) ⊎ (m ≡ directory_at (take before path))
        by (below h) = inl (inr (record { i = w.i; low = h; slash = w.slash; is = w.is }))
        by (level h) = inr (w.is ∙ ap (λ (i : ℕ). directory_at (take i path)) h)
        by (higher h) = absurd (let l = w.low in omega arith)
