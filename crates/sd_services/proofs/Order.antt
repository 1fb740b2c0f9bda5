-- Byte order of paths: what ascends, and that two ascending lists with the same nodes are equal.
use Rattle.std.proofs.Common.{◌≡◌, ℕ, zero, suc, ◌<◌, List, [], ◌∷◌, length, slice_index_or, refl, sym, ap, ◌∙◌, subst, arith}
use Rattle.std.specs.List.{AllPairs, Contains}
use Rattle.std.specs.Cmp.Lexicographic.{slice_cmp, nat_list_cmp_total, texts_ties, bytes_decides}
use Rattle.std.specs.Ordering.{nat_cmp, ordering_reverse, is_eq}
use Rattle.std.specs.declared.cmp.Ordering.{Ordering}
use Rattle.std.specs.declared.cmp.Ordering.TheVariants.{Less, Equal, Greater}
use Rattle.std.proofs.lemmas.List.{get_or_default}
use Rattle.sd_services.specs.declared.node.Node.{Node}
use Rattle.sd_services.specs.Files.{IsBefore}

abbrev pub Ascends : List Node → Type 0
Ascends nodes = AllPairs (λ (a b : Node). IsBefore a.path b.path) nodes

pub before_trans : (p q r : List ℕ) → IsBefore p q → IsBefore q r → IsBefore p r
before_trans p q r a b = nat_list_cmp_total.trans p q r a b

-- no text is before itself
pub never : (p : List ℕ) → IsBefore p p → ⊥
never p h = let turned : slice_cmp nat_cmp p p ≡ Greater = nat_list_cmp_total.antisymm p p ∙ ap ordering_reverse h in let e : Less ≡ Greater = sym h ∙ turned in absurd (cc)

apart_now : (p q : List ℕ) → IsBefore p q → IsBefore q p → ⊥
apart_now p q a b = never p (before_trans p q p a b)

-- what a comparison says
pub same_text : (p q : List ℕ) → slice_cmp nat_cmp p q ≡ Equal → p ≡ q
same_text p q e = (bytes_decides p q).0 (texts_ties p q ∙ ap (λ (o : Ordering). is_eq o) e)

pub turned_round : (p q : List ℕ) → slice_cmp nat_cmp p q ≡ Greater → IsBefore q p
turned_round p q e = nat_list_cmp_total.antisymm q p ∙ ap ordering_reverse e

-- ---- members of lists

pub later : {A : Type 0} (x : A) (xs : List A) (n : A) → Contains xs n → Contains (x ∷ xs) n
later x xs n c = (suc c.0, (let l = c.1 in omega arith), c.2)

pub at_head : {A : Type 0} (x : A) (xs : List A) (n : A) → x ≡ n → Contains (x ∷ xs) n
at_head x xs n e = (0, omega arith, e)

pub nowhere : {A : Type 0} (n : A) → Contains [] n → ⊥
nowhere n c = let l = c.1 in omega arith

-- a member of a list is its first one or a later one
pub data Where {A : Type 0} (x : A) (xs : List A) (n : A) : Type 0 where
  here : x ≡ n → Where x xs n
  behind : Contains xs n → Where x xs n

pub find_in : {A : Type 0} (x : A) (xs : List A) (n : A) → Contains (x ∷ xs) n → Where x xs n
find_in x xs n (zero, lt, e) = here e
find_in x xs n (suc k, lt, e) = behind (k, omega (arith, lt), e)

pub tail_up : (x : Node) (xs : List Node) → Ascends (x ∷ xs) → Ascends xs
tail_up x xs up = λ i j d less lt. up (suc i) (suc j) d (omega arith) (omega arith)

pub head_first : (x : Node) (xs : List Node) → Ascends (x ∷ xs) → (n : Node) → Contains xs n → IsBefore x.path n.path
head_first x xs up n c = subst (λ (m : Node). IsBefore x.path m.path) c.2 (up 0 (suc c.0) n (omega arith) (let l = c.1 in omega arith))

pub ascends_with : (x : Node) (xs : List Node) → ((n : Node) → Contains xs n → IsBefore x.path n.path) → Ascends xs → Ascends (x ∷ xs)
ascends_with x xs first up = λ i j d less lt. by i j d less lt
  where
    by : (i j : ℕ) (d : Node) → i < j → j < length (x ∷ xs) → IsBefore (slice_index_or (x ∷ xs) i d).path (slice_index_or (x ∷ xs) j d).path
    by zero zero d less lt = absurd (omega (arith, less))
    by zero (suc j) d less lt = first (slice_index_or xs j d) (j, omega (arith, lt), get_or_default xs j (slice_index_or xs j d) d (omega (arith, lt)))
    by (suc i) zero d less lt = absurd (omega (arith, less))
    by (suc i) (suc j) d less lt = up i j d (omega (arith, less)) (omega (arith, lt))

-- ---- where a number stands to another

pub data Rank (a b : ℕ) : Type 0 where
  below : a < b → Rank a b
  level : a ≡ b → Rank a b
  higher : b < a → Rank a b

pub rank : (a b : ℕ) → Rank a b
rank zero zero = level refl
rank zero (suc b) = below (omega arith)
rank (suc a) zero = higher (omega arith)
rank (suc a) (suc b) = up (rank a b)
  where
    up : Rank a b → Rank (suc a) (suc b)
    up (below h) = below (omega arith)
    up (level h) = level (ap suc h)
    up (higher h) = higher (omega arith)

-- ---- there is one such list

pub same_nodes : (xs ys : List Node) → Ascends xs → Ascends ys → ((n : Node) → Contains xs n → Contains ys n) → ((n : Node) → Contains ys n → Contains xs n) → xs ≡ ys
same_nodes [] [] a b to from = refl
same_nodes [] (y ∷ ys) a b to from = absurd (nowhere y (from y (at_head y ys y refl)))
same_nodes (x ∷ xs) [] a b to from = absurd (nowhere x (to x (at_head x xs x refl)))
same_nodes (x ∷ xs) (y ∷ ys) a b to from = λ i. heads i ∷ same_nodes xs ys (tail_up x xs a) (tail_up y ys b) to_tail from_tail i
  where
    heads : x ≡ y
    heads = by (find_in x xs y (from y (at_head y ys y refl))) (find_in y ys x (to x (at_head x xs x refl)))
      where
        by : Where x xs y → Where y ys x → x ≡ y
        by (here e) w = e
        by (behind c) (here e) = sym e
        by (behind c) (behind d) = absurd (apart_now x.path y.path (head_first x xs a y c) (head_first y ys b x d))

    to_tail : (n : Node) → Contains xs n → Contains ys n
    to_tail n c = by (find_in y ys n (to n (later x xs n c)))
      where
        by : Where y ys n → Contains ys n
        by (behind d) = d
        by (here e) = absurd (never x.path (subst (λ (m : Node). IsBefore x.path m.path) (sym (heads ∙ e)) (head_first x xs a n c)))

    from_tail : (n : Node) → Contains ys n → Contains xs n
    from_tail n c = by (find_in x xs n (from n (later y ys n c)))
      where
        by : Where x xs n → Contains xs n
        by (behind d) = d
        by (here e) = absurd (never y.path (subst (λ (m : Node). IsBefore y.path m.path) (sym (sym heads ∙ e)) (head_first y ys b n c)))
