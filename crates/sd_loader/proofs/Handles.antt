-- A handle tells its export and its file.
use Rattle.std.proofs.Common.{◌≡◌, ℕ, zero, suc, ◌+◌, ◌-◌, ◌<◌, ◌≤◌, ◌^◌, List, [], ◌∷◌, length, w32, refl, ap, ◌∙◌, subst, sym, inl, inr, arith}
use Rattle.std.specs.Prelude.{◌⊎◌, Bool, true, false, cond, Option, Some, None, IsSome, bytes_eq, slice_index, slice_index_or}
use Rattle.std.specs.List.{Contains, find}
use Rattle.std.specs.Int.{from_be_bytes}
use Rattle.std.specs.Cmp.Lexicographic.{bytes_decides}
use Rattle.std.proofs.Math.Bool.{true≢false}
use Rattle.std.proofs.lemmas.Nat.{from_be_bytes-to_be_bytes_4}
use Rattle.std.proofs.lemmas.List.Elements.{Contains-append_left, Contains-append_right, Contains-append_cases}
use Rattle.sd_services.specs.declared.node.Node.{Node}
use Rattle.sd_services.specs.Files.{Exported, Place, root_places, swap_places, live, handle, named_by}

-- a file of the root export, or the swap file
abbrev pub IsLive : Exported → Place → Type 0
IsLive files place = ((place.0 ≡ 0) × (1 ≤ place.1) × (place.1 ≤ length files.root)) ⊎ ((place.0 ≡ 1) × (place.1 ≡ 1) × IsSome files.swap)

-- a word can say the number of each file
abbrev pub FilesFit : Exported → Type 0
FilesFit files = length files.root < 2 ^ 32

pub numbers_of : (bytes : List ℕ) (export number : ℕ) → export < 2 ^ 32 → number < 2 ^ 32 → bytes ≡ handle export number → (from_be_bytes w32 (slice_index bytes 4 ∷ slice_index bytes 5 ∷ slice_index bytes 6 ∷ slice_index bytes 7 ∷ []) ≡ export) × (from_be_bytes w32 (slice_index bytes 8 ∷ slice_index bytes 9 ∷ slice_index bytes 10 ∷ slice_index bytes 11 ∷ []) ≡ number)
unfolding handle
numbers_of bytes export number e n is =
    subst (λ (b : List ℕ). (from_be_bytes w32 (slice_index b 4 ∷ slice_index b 5 ∷ slice_index b 6 ∷ slice_index b 7 ∷ []) ≡ export) × (from_be_bytes w32 (slice_index b 8 ∷ slice_index b 9 ∷ slice_index b 10 ∷ slice_index b 11 ∷ []) ≡ number)) (sym is)
    (from_be_bytes-to_be_bytes_4 export e, from_be_bytes-to_be_bytes_4 number n)

pub live_fits : (files : Exported) → FilesFit files → (place : Place) → IsLive files place → (place.0 < 2 ^ 32) × (place.1 < 2 ^ 32)
live_fits files fit place (inl root) = let few = fit in let a = root.0 in let b = root.2 in (omega arith, omega arith)
live_fits files fit place (inr swap) = let a = swap.0 in let b = swap.1 in (omega arith, omega arith)

-- a place with the same numbers
pub live_again : (files : Exported) (export number : ℕ) (place : Place) → export ≡ place.0 → number ≡ place.1 → IsLive files place → IsLive files (export, number)
live_again files export number place e n is_live =
    subst (λ (x : ℕ). IsLive files (x, number)) (sym e) (subst (λ (y : ℕ). IsLive files (place.0, y)) (sym n) is_live)

pub handle_again : (export number : ℕ) (place : Place) → export ≡ place.0 → number ≡ place.1 → handle place.0 place.1 ≡ handle export number
handle_again export number place e n = λ k. handle (sym e k) (sym n k)

-- each live file has a handle of its own
pub one_file : (files : Exported) → FilesFit files → (a b : Place) → IsLive files a → IsLive files b → handle a.0 a.1 ≡ handle b.0 b.1 → a ≡ b
one_file files fit a b x y same =
    let f = live_fits files fit a x in
    let g = live_fits files fit b y in
    let p = numbers_of (handle a.0 a.1) a.0 a.1 f.0 f.1 refl in
    let q = numbers_of (handle a.0 a.1) b.0 b.1 g.0 g.1 same in
    λ i. ((sym p.0 ∙ q.0) i, (sym p.1 ∙ q.1) i)

-- ---- the list of live files

places_length : (nodes : List Node) (number : ℕ) → length (root_places number nodes) ≡ length nodes
places_length [] number = refl
places_length (node ∷ nodes) number = ap suc (places_length nodes (number + 1))

place_at : (nodes : List Node) (number k : ℕ) (d : Place) → k < length nodes → slice_index_or (root_places number nodes) k d ≡ (0, number + k)
place_at [] number k d lt = absurd (omega arith)
place_at (node ∷ nodes) number zero d lt = let e : number ≡ number + 0 = omega arith in λ i. (0, e i)
place_at (node ∷ nodes) number (suc k) d lt = let e : number + 1 + k ≡ number + suc k = omega arith in place_at nodes (number + 1) k d (omega arith) ∙ (λ i. (0, e i))

pub in_live : (files : Exported) (place : Place) → IsLive files place → Contains (live files) place
in_live files place (inl root) =
    let low = root.1 in
    let high = root.2 in
    let few = places_length files.root 1 in
    let e : 1 + (place.1 - 1) ≡ place.1 = omega arith in
    Contains-append_left (root_places 1 files.root) (swap_places files.swap) place
    (place.1 - 1, omega arith, place_at files.root 1 (place.1 - 1) place (omega arith) ∙ (λ i. (sym root.0 i, e i)))
in_live files place (inr swap) = Contains-append_right (root_places 1 files.root) (swap_places files.swap) place (by files.swap swap.2)
  where
    by : (s : Option ℕ) → IsSome s → Contains (swap_places s) place
    by None h = absurd (cc h)
    by (Some size) h = (0, omega arith, (λ i. (sym swap.0 i, sym swap.1 i)))

pub live_in : (files : Exported) (place : Place) → Contains (live files) place → IsLive files place
live_in files place there = by (Contains-append_cases (root_places 1 files.root) (swap_places files.swap) place there)
  where
    by : Contains (root_places 1 files.root) place ⊎ Contains (swap_places files.swap) place → IsLive files place
    by (inl c) =
        let few = places_length files.root 1 in
        let inside = c.1 in
        let same : (0, 1 + c.0) ≡ place = sym (place_at files.root 1 c.0 place (omega arith)) ∙ c.2 in
        let number : 1 + c.0 ≡ place.1 = ap (λ (p : Place). p.1) same in
        inl (sym (ap (λ (p : Place). p.0) same), omega arith, omega arith)
    by (inr c) = swap files.swap c
      where
        swap : (s : Option ℕ) → Contains (swap_places s) place → ((place.0 ≡ 0) × (1 ≤ place.1) × (place.1 ≤ length files.root)) ⊎ ((place.0 ≡ 1) × (place.1 ≡ 1) × IsSome s)
        swap None d = absurd (let lt = d.1 in omega arith)
        swap (Some size) (zero, lt, is) = inr (sym (ap (λ (p : Place). p.0) is), sym (ap (λ (p : Place). p.1) is), refl)
        swap (Some size) (suc k, lt, is) = absurd (omega (arith, lt))

-- ---- the file that bytes name

later : {A : Type 0} (y : A) (ys : List A) (x : A) → Contains ys x → Contains (y ∷ ys) x
later y ys x c = (suc c.0, (let lt = c.1 in omega arith), c.2)

-- the one that passes is found
found_in : {A : Type 0} (p : A → Bool) (xs : List A) (x : A) → Contains xs x → p x ≡ true → ((y : A) → Contains xs y → p y ≡ true → y ≡ x) → find p xs ≡ Some x
found_in p [] x c passes one = absurd (let lt = c.1 in omega arith)
found_in p (y ∷ ys) x c passes one = by (p y) refl (λ d. found_in p ys x d passes (λ z e. one z (later y ys z e)))
  where
    behind : p y ≡ false → (c : Contains (y ∷ ys) x) → Contains ys x
    behind fails (zero, lt, is) = absurd (true≢false (sym passes ∙ sym (ap p is) ∙ fails))
    behind fails (suc k, lt, is) = (k, omega (arith, lt), is)

    by : (b : Bool) → p y ≡ b → (Contains ys x → find p ys ≡ Some x) → cond b (Some y) (find p ys) ≡ Some x
    by true e rest = ap Some (one y (0, omega arith, refl) e)
    by false e rest = rest (behind e c)

none_in : {A : Type 0} (p : A → Bool) (xs : List A) → ((y : A) → Contains xs y → p y ≡ false) → find p xs ≡ None
none_in p [] fails = refl
none_in p (y ∷ ys) fails = subst (λ (b : Bool). cond b (Some y) (find p ys) ≡ None) (sym (fails y (0, omega arith, refl))) (none_in p ys (λ z c. fails z (later y ys z c)))

pub named : (files : Exported) (bytes : List ℕ) (place : Place) → FilesFit files → IsLive files place → bytes ≡ handle place.0 place.1 → named_by files bytes ≡ Some place
named files bytes place fit is_live same =
    found_in (λ (p : Place). bytes_eq bytes (handle p.0 p.1)) (live files) place (in_live files place is_live) ((bytes_decides bytes (handle place.0 place.1)).1 same)
    (λ p c passes. one_file files fit p place (live_in files p c) is_live (sym ((bytes_decides bytes (handle p.0 p.1)).0 passes) ∙ same))
