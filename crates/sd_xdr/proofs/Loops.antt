-- Reading items one after the other, as a loop does.
use Rattle.std.proofs.Common.{◌≡◌, ℕ, zero, suc, ◌+◌, ◌-◌, ◌<◌, ◌≤◌, Bool, true, false, cond, eqb, List, [], ◌∷◌, ◌++◌, length, take, Ok, Err, refl, sym, ap, ◌∙◌, append_assoc, arith}
use Rattle.std.proofs.lemmas.List.{length-drop}
use Rattle.sd_xdr.specs.declared.error.XdrError.TheVariants.{Short, Tail}
use Rattle.sd_xdr.specs.declared.error.MsgError.{MsgError}
use Rattle.sd_xdr.specs.declared.error.MsgError.TheVariants.{Xdr, RpcVersion, AuthLong, NoMemory}
use Rattle.sd_xdr.specs.Kind.{Word, flag, End, part, whole, Kind, void, word, opaque, list, ◌&◌, union, given, ended, rest, times, Value, none, number, bytes, ◌⊗◌, number_of, chain, filling, Opaque, fixed, upto, auth_body}
use Rattle.sd_xdr.specs.Grammar.{opaque_refusal, writes}
use Rattle.sd_xdr.specs.Reading.{Cursor, Read, ◌>>=◌, skip, Stops, word_reading, opaque_reading, rest_reading, end_reading, items_reading, reading, with_front, counted_body, counted_size}
use Rattle.sd_xdr.proofs.Spelled.{unless_ok, word_stands}
use Rattle.sd_xdr.proofs.OneItem.{word_short}
use Rattle.sd_xdr.proofs.Sound.{bind_ok, ok_is, after_flag}

-- ---- the bytes that are left grow no more

shrinks_to : (c d : Cursor) (n : ℕ) → skip n c ≡ d → length d.rest ≤ length c.rest
shrinks_to c d n h = omega (arith, ap (λ (u : Cursor). length u.rest) h, length-drop n c.rest)

pub word_shrinks : (w : Word) (c : Cursor) (x : Value) (d : Cursor) → word_reading w c ≡ Ok (x, d) → length d.rest + 4 ≤ length c.rest
word_shrinks w c x d h =
    let s = word_stands w c x d h in
    omega (arith, s.long, ap (λ (u : Cursor). length u.rest) s.after, length-drop 4 c.rest)

opaque_shrinks : (o : Opaque) (c : Cursor) (x : Value) (d : Cursor) → opaque_reading o c ≡ Ok (x, d) → length d.rest ≤ length c.rest
unfolding opaque_reading
opaque_shrinks (fixed n) c x d h = shrinks_to c d (n + filling n) (ap (λ (v : Value × Cursor). v.1) (unless_ok (opaque_refusal (fixed n) c.at c.rest) (bytes (take n c.rest), skip (n + filling n) c) (x, d) h).1)
opaque_shrinks (upto most) c x d h = shrinks_to c d (counted_size c.rest) (ap (λ (v : Value × Cursor). v.1) (unless_ok (opaque_refusal (upto most) c.at c.rest) (bytes (counted_body c.rest), skip (counted_size c.rest) c) (x, d) h).1)
opaque_shrinks auth_body c x d h = shrinks_to c d (counted_size c.rest) (ap (λ (v : Value × Cursor). v.1) (unless_ok (opaque_refusal auth_body c.at c.rest) (bytes (counted_body c.rest), skip (counted_size c.rest) c) (x, d) h).1)

abbrev Shrinks : (Cursor → Read) → Type 0
Shrinks f = (c : Cursor) (x : Value) (d : Cursor) → f c ≡ Ok (x, d) → length d.rest ≤ length c.rest

items_shrink : (K : Kind part) → Shrinks (reading K) → (most : ℕ) → Shrinks (items_reading (reading K) most)
unfolding items_reading
items_shrink K one zero c x d h = absurd cc
items_shrink K one (suc most) c x d h =
    let a = bind_ok (word_reading flag c) (λ b. after_flag K most (number_of b.0) b.1) (x, d) h in
    omega (arith, word_shrinks flag c a.0.0 a.0.1 a.1, behind (items_shrink K one most) (eqb (number_of a.0.0) 0) a.0.1 a.2)
  where
    behind : Shrinks (items_reading (reading K) most) → (b : Bool) (e : Cursor) → ◌≡◌ {A = Read} (cond b (Ok (none, e)) (reading K e >>= λ x. items_reading (reading K) most x.1 >>= λ y. Ok (x.0 ⊗ y.0, y.1))) (Ok (x, d)) → length d.rest ≤ length e.rest
    behind more true e h = omega (arith, ap (λ (v : Value × Cursor). length v.1.rest) (ok_is (none, e) (x, d) h))
    behind more false e h =
        let i = bind_ok (reading K e) (λ x. items_reading (reading K) most x.1 >>= λ y. Ok (x.0 ⊗ y.0, y.1)) (x, d) h in
        let j = bind_ok (items_reading (reading K) most i.0.1) (λ y. Ok (i.0.0 ⊗ y.0, y.1)) (x, d) i.2 in
        omega (arith, one e i.0.0 i.0.1 i.1, more i.0.1 j.0.0 j.0.1 j.1, ap (λ (v : Value × Cursor). length v.1.rest) (ok_is (i.0.0 ⊗ j.0.0, j.0.1) (x, d) j.2))

-- What is left after a value of a part is no longer than what was left before.
pub shrinks : (e : End) (K : Kind e) → Shrinks (reading K)
unfolding reading rest_reading end_reading
shrinks part void c x d h = omega (arith, ap (λ (v : Value × Cursor). length v.1.rest) (ok_is (none, c) (x, d) h))
shrinks part (word w) c x d h = omega (arith, word_shrinks w c x d h)
shrinks part (opaque o) c x d h = opaque_shrinks o c x d h
shrinks part (list K) c x d h = items_shrink K (shrinks part K) (length c.rest) c x d h
shrinks e (A & B) c x d h =
    let i = bind_ok (reading A c) (λ x. reading B x.1 >>= λ y. Ok (x.0 ⊗ y.0, y.1)) (x, d) h in
    let j = bind_ok (reading B i.0.1) (λ y. Ok (i.0.0 ⊗ y.0, y.1)) (x, d) i.2 in
    omega (arith, shrinks part A c i.0.0 i.0.1 i.1, shrinks e B i.0.1 j.0.0 j.0.1 j.1, ap (λ (v : Value × Cursor). length v.1.rest) (ok_is (i.0.0 ⊗ j.0.0, j.0.1) (x, d) j.2))
shrinks e (union w arm) c x d h =
    let i = bind_ok (word_reading w c) (λ x. reading (arm (number_of x.0)) x.1 >>= λ y. Ok (x.0 ⊗ y.0, y.1)) (x, d) h in
    let j = bind_ok (reading (arm (number_of i.0.0)) i.0.1) (λ y. Ok (i.0.0 ⊗ y.0, y.1)) (x, d) i.2 in
    omega (arith, word_shrinks w c i.0.0 i.0.1 i.1, shrinks e (arm (number_of i.0.0)) i.0.1 j.0.0 j.0.1 j.1, ap (λ (v : Value × Cursor). length v.1.rest) (ok_is (i.0.0 ⊗ j.0.0, j.0.1) (x, d) j.2))
shrinks e (given n K) c x d h =
    let i = bind_ok (reading K c) (λ x. Ok (number n ⊗ x.0, x.1)) (x, d) h in
    omega (arith, shrinks e K c i.0.0 i.0.1 i.1, ap (λ (v : Value × Cursor). length v.1.rest) (ok_is (number n ⊗ i.0.0, i.0.1) (x, d) i.2))
shrinks whole (ended K) c x d h =
    let i = bind_ok (reading K c) end_reading (x, d) h in
    omega (arith, shrinks part K c i.0.0 i.0.1 i.1, kept (eqb (length i.0.1.rest) 0) i.0 (Xdr (Tail i.0.1.at)) i.2)
  where
    kept : (b : Bool) (y : Value × Cursor) (r : MsgError) → ◌≡◌ {A = Read} (cond b (Ok y) (Err r)) (Ok (x, d)) → length d.rest ≤ length y.1.rest
    kept true y r h = omega (arith, ap (λ (v : Value × Cursor). length v.1.rest) (ok_is y (x, d) h))
    kept false y r h = absurd cc
shrinks whole rest c x d h = shrinks_to c d (length c.rest) (ap (λ (v : Value × Cursor). v.1) (ok_is (bytes c.rest, skip (length c.rest) c) (x, d) h))

-- ---- a list, one item at a time

-- how an item goes on, so many turns from the end or so many
same_behind : (K : Kind part) (n m : ℕ) (e : Cursor) → ((d : Cursor) → length d.rest ≤ length e.rest → items_reading (reading K) n d ≡ items_reading (reading K) m d) → (q : Read) → reading K e ≡ q → ◌≡◌ {A = Read} (q >>= λ x. items_reading (reading K) n x.1 >>= λ y. Ok (x.0 ⊗ y.0, y.1)) (q >>= λ x. items_reading (reading K) m x.1 >>= λ y. Ok (x.0 ⊗ y.0, y.1))
same_behind K n m e same (Err r) h = refl
same_behind K n m e same (Ok x) h = ap (λ (q : Read). q >>= λ y. Ok (x.0 ⊗ y.0, y.1)) (same x.1 (shrinks part K e x.0 x.1 h))

same_turn : (K : Kind part) (n m : ℕ) (c : Cursor) → ((d : Cursor) → length d.rest + 4 ≤ length c.rest → items_reading (reading K) n d ≡ items_reading (reading K) m d) → (q : Read) → word_reading flag c ≡ q → ◌≡◌ {A = Read} (q >>= λ b. after_flag K n (number_of b.0) b.1) (q >>= λ b. after_flag K m (number_of b.0) b.1)
same_turn K n m c same (Err r) h = refl
same_turn K n m c same (Ok b) h =
    let short = word_shrinks flag c b.0 b.1 h in
    ap (λ (q : Read). cond (eqb (number_of b.0) 0) (Ok (none, b.1)) q) (same_behind K n m b.1 (λ d le. same d (omega arith)) (reading K b.1) refl)

short_list : (K : Kind part) (m : ℕ) (c : Cursor) → length c.rest ≤ 0 → items_reading (reading K) m c ≡ Err (Xdr (Short c.at))
unfolding items_reading
short_list K zero c h = refl
short_list K (suc m) c h = ap (λ (q : Read). q >>= λ b. after_flag K m (number_of b.0) b.1) (word_short flag c (omega arith))

flag_stops : (K : Kind part) (n : ℕ) (c : Cursor) (r : MsgError) → word_reading flag c ≡ Err r → items_reading (reading K) (suc n) c ≡ Err r
unfolding items_reading
flag_stops K n c r h = ap (λ (q : Read). q >>= λ b. after_flag K n (number_of b.0) b.1) h

-- as many turns as there are bytes, or more
pub enough_turns : (K : Kind part) (n m : ℕ) (c : Cursor) → length c.rest ≤ n → length c.rest ≤ m → items_reading (reading K) n c ≡ items_reading (reading K) m c
unfolding items_reading
enough_turns K zero m c h k = sym (short_list K m c h)
enough_turns K (suc n) zero c h k = short_list K (suc n) c k
enough_turns K (suc n) (suc m) c h k = same_turn K n m c (λ d le. enough_turns K n m d (omega arith) (omega arith)) (word_reading flag c) refl

list_turn : (K : Kind part) (c b : Cursor) (n : ℕ) (q : Read) → word_reading flag c ≡ Ok (number n, b) → (t : ℕ) → length c.rest ≡ suc t → after_flag K t n b ≡ q → reading (list K) c ≡ q
unfolding reading items_reading
list_turn K c b n q h t len k = ap (λ (m : ℕ). items_reading (reading K) m c) len ∙ ap (λ (r : Read). r >>= λ b. after_flag K t (number_of b.0) b.1) h ∙ k

one_less : (n : ℕ) → 4 ≤ n → (t : ℕ) × (n ≡ suc t)
one_less zero h = absurd (omega arith)
one_less (suc n) h = (n, refl)

chain-append : (front : List Value) (x last : Value) → chain (front ++ x ∷ []) last ≡ chain front (x ⊗ last)
chain-append [] x last = refl
chain-append (f ∷ front) x last = ap (λ (v : Value). f ⊗ v) (chain-append front x last)

regroup : (front : List Value) (x : Value) (read : Read) → with_front front (read >>= λ y. Ok (x ⊗ y.0, y.1)) ≡ with_front (front ++ x ∷ []) read
regroup front x (Ok y) = ap (λ (v : Value). Ok (v, y.1)) (sym (chain-append front x y.0))
regroup front x (Err r) = refl

-- the bool 0: all items were read
pub list_ends : (K : Kind part) (front : List Value) (c d : Cursor) (total : Read) → word_reading flag c ≡ Ok (number 0, d) → with_front front (reading (list K) c) ≡ total → total ≡ Ok (chain front none, d)
list_ends K front c d total h so_far =
    let t = one_less (length c.rest) (omega (arith, word_shrinks flag c (number 0) d h)) in
    sym so_far ∙ ap (with_front front) (list_turn K c d 0 (Ok (none, d)) h t.0 t.1 refl)

-- the bool 1 and an item
pub list_goes_on : (K : Kind part) (front : List Value) (c b d : Cursor) (x : Value) (total : Read) → word_reading flag c ≡ Ok (number 1, b) → reading K b ≡ Ok (x, d) → with_front front (reading (list K) c) ≡ total → with_front (front ++ x ∷ []) (reading (list K) d) ≡ total
unfolding reading
list_goes_on K front c b d x total h item so_far =
    let t = one_less (length c.rest) (omega (arith, word_shrinks flag c (number 1) b h)) in
    let fewer : length d.rest ≤ t.0 = omega (arith, t.1, word_shrinks flag c (number 1) b h, shrinks part K b x d item) in
    let others : items_reading (reading K) t.0 d ≡ reading (list K) d = enough_turns K t.0 (length d.rest) d fewer (omega arith) in
    let one : reading (list K) c ≡ (reading (list K) d >>= λ y. Ok (x ⊗ y.0, y.1)) =
    list_turn K c b 1 (reading (list K) d >>= λ y. Ok (x ⊗ y.0, y.1)) h t.0 t.1
    (ap (λ (q : Read). q >>= λ x. items_reading (reading K) t.0 x.1 >>= λ y. Ok (x.0 ⊗ y.0, y.1)) item ∙ ap (λ (q : Read). q >>= λ y. Ok (x ⊗ y.0, y.1)) others) in
    sym (regroup front x (reading (list K) d)) ∙ sym (ap (with_front front) one) ∙ so_far

stops : (e : MsgError) (read total : Read) → ((r : MsgError) → read ≡ Err r → total ≡ Err r) → Stops e read → Stops e total
stops NoMemory read total on h = tt
stops (Xdr r) read total on h = on (Xdr r) h
stops (RpcVersion xid got) read total on h = on (RpcVersion xid got) h
stops (AuthLong at len) read total on h = on (AuthLong at len) h

-- no bool
pub list_flag_stops : (K : Kind part) (front : List Value) (c : Cursor) (r : MsgError) (total : Read) → word_reading flag c ≡ Err r → with_front front (reading (list K) c) ≡ total → total ≡ Err r
unfolding reading
list_flag_stops K front c r total h so_far = sym so_far ∙ ap (with_front front) (refused_flag K c r h (length c.rest) refl)
  where
    err_is : (x y : MsgError) → ◌≡◌ {A = Read} (Err x) (Err y) → x ≡ y
    err_is x y h = cc

    refused_flag : (K : Kind part) (c : Cursor) (r : MsgError) → word_reading flag c ≡ Err r → (n : ℕ) → length c.rest ≡ n → items_reading (reading K) n c ≡ Err r
    refused_flag K c r h zero len = short_list K 0 c (omega arith) ∙ sym (word_short flag c (omega arith)) ∙ h
    refused_flag K c r h (suc n) len = enough_turns K (suc n) (suc n) c (omega arith) (omega arith) ∙ flag_stops K n c r h

-- no item behind the bool 1
pub list_item_stops : (K : Kind part) (front : List Value) (c b : Cursor) (e : MsgError) (total : Read) → word_reading flag c ≡ Ok (number 1, b) → Stops e (reading K b) → with_front front (reading (list K) c) ≡ total → Stops e total
list_item_stops K front c b e total h item so_far =
    let t = one_less (length c.rest) (omega (arith, word_shrinks flag c (number 1) b h)) in
    stops e (reading K b) total
    (λ r k. sym so_far ∙ ap (with_front front) (list_turn K c b 1 (Err r) h t.0 t.1 (ap (λ (q : Read). q >>= λ x. items_reading (reading K) t.0 x.1 >>= λ y. Ok (x.0 ⊗ y.0, y.1)) k)))
    item

-- ---- so many items

pub times_goes_on : (K : Kind part) (front : List Value) (count i : ℕ) (c d : Cursor) (x : Value) (total : Read) → i < count → reading K c ≡ Ok (x, d) → with_front front (reading (times (count - i) K) c) ≡ total → with_front (front ++ x ∷ []) (reading (times (count - (i + 1)) K) d) ≡ total
unfolding reading
times_goes_on K front count i c d x total lt item so_far =
    let k : count - i ≡ suc (count - (i + 1)) = omega arith in
    let one : reading (times (count - i) K) c ≡ (reading (times (count - (i + 1)) K) d >>= λ y. Ok (x ⊗ y.0, y.1)) =
    ap (λ (n : ℕ). reading (times n K) c) k ∙ ap (λ (q : Read). q >>= λ x. reading (times (count - (i + 1)) K) x.1 >>= λ y. Ok (x.0 ⊗ y.0, y.1)) item in
    sym (regroup front x (reading (times (count - (i + 1)) K) d)) ∙ sym (ap (with_front front) one) ∙ so_far

pub times_stops : (K : Kind part) (front : List Value) (count i : ℕ) (c : Cursor) (e : MsgError) (total : Read) → i < count → Stops e (reading K c) → with_front front (reading (times (count - i) K) c) ≡ total → Stops e total
unfolding reading
times_stops K front count i c e total lt item so_far =
    let k : count - i ≡ suc (count - (i + 1)) = omega arith in
    stops e (reading K c) total
    (λ r h. sym so_far ∙ ap (with_front front) (ap (λ (n : ℕ). reading (times n K) c) k ∙ ap (λ (q : Read). q >>= λ x. reading (times (count - (i + 1)) K) x.1 >>= λ y. Ok (x.0 ⊗ y.0, y.1)) h))
    item

pub times_end : (K : Kind part) (front : List Value) (count i : ℕ) (c : Cursor) (total : Read) → count ≤ i → with_front front (reading (times (count - i) K) c) ≡ total → total ≡ Ok (chain front none, c)
unfolding reading
times_end K front count i c total le so_far =
    let k : count - i ≡ 0 = omega arith in
    sym so_far ∙ ap (λ (n : ℕ). with_front front (reading (times n K) c)) k

-- ---- writing so many items

pub times_written : (K : Kind part) (n i : ℕ) (before now : List ℕ) (x others all : Value) (total : List ℕ) → i < n → now ≡ before ++ writes K x → all ≡ x ⊗ others
    → before ++ writes (times (n - i) K) all ≡ total → now ++ writes (times (n - (i + 1)) K) others ≡ total
times_written K n i before now x others all total lt h a so_far =
    let k : n - i ≡ suc (n - (i + 1)) = omega arith in
    let one : before ++ writes (times (n - i) K) all ≡ before ++ (writes K x ++ writes (times (n - (i + 1)) K) others) = ap (λ (m : ℕ). before ++ writes (times m K) all) k ∙ ap (λ (v : Value). before ++ writes (times (suc (n - (i + 1))) K) v) a in
    ap (λ (t : List ℕ). t ++ writes (times (n - (i + 1)) K) others) h ∙ append_assoc before (writes K x) (writes (times (n - (i + 1)) K) others) ∙ sym one ∙ so_far
