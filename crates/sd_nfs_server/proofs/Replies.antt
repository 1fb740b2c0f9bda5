-- What a plan says of the reply and of the change is what the definitions say.
use Rattle.std.proofs.Common.{◌≡◌, ℕ, zero, suc, ◌+◌, ◌-◌, ◌≤◌, List, [], ◌∷◌, length, take, drop, replicate, min, refl, sym, ap, ◌∙◌, subst, inl, inr, arith}
use Rattle.std.specs.Prelude.{Bool, true, false, cond, ◌⊎◌, ◌==◌, ◌&&◌, nat_le, nat_lt, if◌then◌else◌, Option, Some, None, IsSome, IsSomeAnd, ⊤, is_some, bytes_eq}
use Rattle.std.specs.List.{Contains, find}
use Rattle.std.proofs.lemmas.List.{take_all, length-drop}
use Rattle.std.proofs.lemmas.Bool.{leb-true}
use Rattle.sd_outside.specs.Ranges.{part}
use Rattle.sd_outside.specs.declared.fhandle.FHandle.{FHandle}
use Rattle.sd_nfs_msg.specs.declared.message.NfsArgs.{NfsArgs}
use Rattle.sd_nfs_msg.specs.declared.message.NfsArgs.TheVariants as asks
use Rattle.sd_nfs_msg.specs.declared.message.NfsResult.{NfsResult}
use Rattle.sd_nfs_msg.specs.declared.message.NfsResult.TheVariants as results
use Rattle.sd_nfs_msg.specs.Layout.{ArgsFit}
use Rattle.sd_services.specs.Part.{Change}
use Rattle.sd_services.specs.Files.{Exported, Place, live, named_by, handle}
use Rattle.sd_services.specs.Decisions.{nfs_result, answered, decided, on_swap, on_root, node_at, on_swap_file, bytes_read, swap_attributes, refused, first_handle}
use Rattle.sd_services.specs.NfsReply.{nfs_change, swap_change, is_swap_place, names_swap, uses_swap, swap_file}
use Rattle.sd_nfs_server.specs.declared.plan.NfsPlan.{NfsPlan}
use Rattle.sd_nfs_server.specs.declared.plan.NfsPlan.TheVariants as plans
use Rattle.sd_nfs_server.specs.Live.{IsLive}
use Rattle.sd_nfs_server.specs.Plan.{Decision, decision, decision_of, handle_decision, place_decision, swap_file_decision, swap_decision, swap_access, range, read_len, IsSwapContent, filled, answer_of, change_of, is_write, bytes_of, is_swap, HasRange}
use Rattle.sd_nfs_server.proofs.Handles.{live_in}
use Rattle.sd_services.proofs.Order.{later, at_head, Rank, below, level, higher, rank}

-- ---- the same words of decisions

abbrev answer_in : NfsResult → Option (ℕ × ℕ) → List ℕ → NfsResult
answer_in done None content = done
answer_in done (Some at_len) content = filled done (part at_len.0 at_len.1 content)

abbrev answer_by : Decision → List ℕ → NfsResult
answer_by d content = answer_in d.done d.access content

abbrev change_in : NfsResult → Option (ℕ × ℕ) → List ℕ → Option Change
change_in done None bytes = None
change_in done (Some at_len) bytes = if is_write done && nat_lt 0 at_len.1 then Some (record { file = swap_file; at = at_len.0; bytes = bytes }) else None

abbrev change_by : Decision → List ℕ → Option Change
change_by d bytes = change_in d.done d.access bytes

abbrev HasRangeBy : Option ℕ → NfsArgs → Option (ℕ × ℕ) → Type 0
HasRangeBy swap args None = ⊤
HasRangeBy swap args (Some at_len) = IsSomeAnd swap (λ size. at_len.0 + at_len.1 ≤ size) × (ArgsFit args → at_len.1 ≤ 8192)

answer_by_plan : (plan : NfsPlan) (content : List ℕ) → answer_of plan content ≡ answer_by (decision_of plan) content
answer_by_plan (plans.Now result) content = refl
answer_by_plan (plans.Swap done at len) content = refl

change_by_plan : (plan : NfsPlan) (bytes : List ℕ) → change_of plan bytes ≡ change_by (decision_of plan) bytes
change_by_plan (plans.Now result) bytes = refl
change_by_plan (plans.Swap done at len) bytes = refl

swap_by_plan : (plan : NfsPlan) → is_swap plan ≡ is_some (decision_of plan).access
swap_by_plan (plans.Now result) = refl
swap_by_plan (plans.Swap done at len) = refl

range_by_plan : (swap : Option ℕ) (args : NfsArgs) (plan : NfsPlan) → HasRangeBy swap args (decision_of plan).access → HasRange swap args plan
range_by_plan swap args (plans.Now result) h = tt
range_by_plan swap args (plans.Swap done at len) h = h

-- ---- ranges

not_zero : (n : ℕ) → (suc n == 0) ≡ false
not_zero n = grind arith

range_of : (at n : ℕ) → range at (suc n) ≡ (at, suc n)
range_of at n = ap (λ (b : Bool). ((if b then 0 else at), suc n)) (not_zero n)

-- ---- a READ's bytes

-- what is read at the range is what the table says
read_range : (size offset count : ℕ) (content : List ℕ) → length content ≡ size → part (range offset (read_len size offset count)).0 (range offset (read_len size offset count)).1 content ≡ bytes_read content offset count
unfolding part
read_range size offset count content long = by (read_len size offset count) refl
  where
    want : List ℕ
    want = bytes_read content offset count

    most : length (drop offset content) ≡ size - offset
    most = length-drop offset content ∙ ap (λ (n : ℕ). n - offset) long

    short : take (read_len size offset count) (drop offset content) ≡ want
    short = of (rank (min count 8192) (size - offset))
      where
        of : Rank (min count 8192) (size - offset) → take (min (min count 8192) (size - offset)) (drop offset content) ≡ take (min count 8192) (drop offset content)
        of (below h) = let e : min (min count 8192) (size - offset) ≡ min count 8192 = omega arith in ap (λ (n : ℕ). take n (drop offset content)) e
        of (level h) = let e : min (min count 8192) (size - offset) ≡ min count 8192 = omega arith in ap (λ (n : ℕ). take n (drop offset content)) e
        of (higher h) =
            let e : min (min count 8192) (size - offset) ≡ size - offset = omega arith in
            ap (λ (n : ℕ). take n (drop offset content)) e ∙ take_all (size - offset) (drop offset content) (omega (arith, most)) ∙ sym (take_all (min count 8192) (drop offset content) (omega (arith, most, h)))

    by : (n : ℕ) → read_len size offset count ≡ n → take n (drop (if n == 0 then 0 else offset) content) ≡ want
    by zero e = ap (λ (n : ℕ). take n (drop offset content)) (sym e) ∙ short
    by (suc n) e = ap (λ (b : Bool). take (suc n) (drop (if b then 0 else offset) content)) (not_zero n) ∙ ap (λ (k : ℕ). take k (drop offset content)) (sym e) ∙ short

-- ---- the answer

module _ (files : Exported) (from : ℕ) (content : List ℕ) where
  swap_answer : (size : ℕ) → length content ≡ size → (args : NfsArgs) → answer_by (swap_decision files.owner from size args) content ≡ on_swap files.owner from size content args
  swap_answer size long asks.Null = refl
  swap_answer size long (asks.Getattr at) = refl
  swap_answer size long (asks.Setattr at set) = refl
  swap_answer size long (asks.Lookup at name) = refl
  swap_answer size long (asks.Readlink at) = refl
  swap_answer size long (asks.Read at offset count total) = by (from == files.owner)
    where
      by : (b : Bool) → answer_by (record {
        done = if b then results.Read (swap_attributes size) (bytes_read (replicate size 0) offset count) else refused 13;
        access = Some (if b then range offset (read_len size offset count) else (0, 0));
      }) content ≡ (if b then results.Read (swap_attributes size) (bytes_read content offset count) else refused 13)
      by true = ap (results.Read (swap_attributes size)) (read_range size offset count content long)
      by false = refl
  swap_answer size long (asks.Write at begin offset total bytes) = by (from == files.owner) (nat_le (offset + length bytes) size)
    where
      by : (b c : Bool) → answer_by (record {
        done = if b then (if c then results.Write (swap_attributes size) else refused 28) else refused 13;
        access = Some (if b && c then range offset (length bytes) else (0, 0));
      }) content ≡ (if b then (if c then results.Write (swap_attributes size) else refused 28) else refused 13)
      by true true = refl
      by true false = refl
      by false true = refl
      by false false = refl
  swap_answer size long (asks.Create at name set) = refl
  swap_answer size long (asks.Remove at name) = refl
  swap_answer size long (asks.Rename at name to to_name) = refl
  swap_answer size long (asks.Link at to to_name) = refl
  swap_answer size long (asks.Symlink at name path set) = refl
  swap_answer size long (asks.Mkdir at name set) = refl
  swap_answer size long (asks.Rmdir at name) = refl
  swap_answer size long (asks.Readdir at cookie count) = refl
  swap_answer size long (asks.Statfs at) = refl

  file_answer : (swap : Option ℕ) → IsSwapContent swap content → (args : NfsArgs) → answer_by (swap_file_decision files.owner from swap args) content ≡ on_swap_file files.owner from swap content args
  file_answer None long args = refl
  file_answer (Some size) long args = swap_answer size long args

  place_answer : (place : Option Place) → IsSwapContent files.swap content → (args : NfsArgs) → answer_by (place_decision files from place args) content ≡ decided files content from place args
  place_answer None long args = refl
  place_answer (Some place) long args = by (place.0 == 0)
    where
      by : (b : Bool) → answer_by (if b then record { done = on_root files.root place.1 (node_at files.root place.1) args; access = None } else swap_file_decision files.owner from files.swap args) content ≡ (if b then on_root files.root place.1 (node_at files.root place.1) args else on_swap_file files.owner from files.swap content args)
      by true = refl
      by false = file_answer files.swap long args

  handle_answer : (handle : Option FHandle) → IsSwapContent files.swap content → (args : NfsArgs) → answer_by (handle_decision files from handle args) content ≡ answered files content from handle args
  handle_answer None long args = refl
  handle_answer (Some h) long args = place_answer (named_by files h.0) long args

pub replies : (files : Exported) (from : ℕ) (args : NfsArgs) (plan : NfsPlan) → decision_of plan ≡ decision files from args → (content : List ℕ) → IsSwapContent files.swap content → answer_of plan content ≡ nfs_result files content from args
replies files from args plan is content long = answer_by_plan plan content ∙ ap (λ (d : Decision). answer_by d content) is ∙ handle_answer files from content (first_handle args) long args

-- ---- which calls use the swap file, and what they change

some_is : {A : Type 0} (a b : A) → Some a ≡ Some b → a ≡ b
some_is a b e = cc

-- the live file that bytes name is in one of the two exports
find_finds : {A : Type 0} (p : A → Bool) (xs : List A) (x : A) → find p xs ≡ Some x → Contains xs x
find_finds p [] x e = absurd (cc e)
find_finds p (y ∷ ys) x e = by (p y) e (find_finds p ys x)
  where
    by : (b : Bool) → cond b (Some y) (find p ys) ≡ Some x → (find p ys ≡ Some x → Contains ys x) → Contains (y ∷ ys) x
    by true e deeper = at_head y ys x (some_is y x e)
    by false e deeper = later y ys x (deeper e)

exports_of : (files : Exported) (bytes : List ℕ) (place : Place) → named_by files bytes ≡ Some place → (place.0 ≡ 0) ⊎ ((place.0 ≡ 1) × IsSome files.swap)
exports_of files bytes place e = by (live_in files place (find_finds (λ (p : Place). bytes_eq bytes (handle p.0 p.1)) (live files) place e))
  where
    by : IsLive files place → (place.0 ≡ 0) ⊎ ((place.0 ≡ 1) × IsSome files.swap)
    by (inl root) = inl root.0
    by (inr swap) = inr (swap.0, swap.2)

-- READ and WRITE
abbrev moves_bytes : NfsArgs → Bool
moves_bytes (asks.Read at offset count total) = true
moves_bytes (asks.Write at begin offset total bytes) = true
moves_bytes others = false

abbrev swap_change_of : ℕ → ℕ → Option ℕ → NfsArgs → Option Change
swap_change_of owner from swap (asks.Write at begin offset total bytes) = swap_change owner from swap offset bytes
swap_change_of owner from swap others = None

module _ (files : Exported) (from : ℕ) where
  -- a call for the swap file
  swap_uses : (size : ℕ) (args : NfsArgs) → is_some (swap_access files.owner from size args) ≡ moves_bytes args
  swap_uses size asks.Null = refl
  swap_uses size (asks.Getattr at) = refl
  swap_uses size (asks.Setattr at set) = refl
  swap_uses size (asks.Lookup at name) = refl
  swap_uses size (asks.Readlink at) = refl
  swap_uses size (asks.Read at offset count total) = refl
  swap_uses size (asks.Write at begin offset total bytes) = refl
  swap_uses size (asks.Create at name set) = refl
  swap_uses size (asks.Remove at name) = refl
  swap_uses size (asks.Rename at name to to_name) = refl
  swap_uses size (asks.Link at to to_name) = refl
  swap_uses size (asks.Symlink at name path set) = refl
  swap_uses size (asks.Mkdir at name set) = refl
  swap_uses size (asks.Rmdir at name) = refl
  swap_uses size (asks.Readdir at cookie count) = refl
  swap_uses size (asks.Statfs at) = refl

  swap_changes : (size : ℕ) (args : NfsArgs) → change_by (swap_decision files.owner from size args) (bytes_of args) ≡ swap_change_of files.owner from (Some size) args
  swap_changes size asks.Null = refl
  swap_changes size (asks.Getattr at) = refl
  swap_changes size (asks.Setattr at set) = refl
  swap_changes size (asks.Lookup at name) = refl
  swap_changes size (asks.Readlink at) = refl
  swap_changes size (asks.Read at offset count total) = by (from == files.owner)
    where
      by : (b : Bool) → change_by (record {
        done = if b then results.Read (swap_attributes size) (bytes_read (replicate size 0) offset count) else refused 13;
        access = Some (if b then range offset (read_len size offset count) else (0, 0));
      }) [] ≡ None
      by true = refl
      by false = refl
  swap_changes size (asks.Write at begin offset total bytes) = by (from == files.owner) (nat_le (offset + length bytes) size) (length bytes) refl
    where
      by : (b c : Bool) (n : ℕ) → length bytes ≡ n → change_by (record {
        done = if b then (if c then results.Write (swap_attributes size) else refused 28) else refused 13;
        access = Some (if b && c then range offset n else (0, 0));
      }) bytes ≡ (if b && c && nat_lt 0 n then Some (record { file = swap_file; at = offset; bytes = bytes }) else None)
      by true true zero e = refl
      by true true (suc n) e = ap (λ (at_len : ℕ × ℕ). change_by (record { done = results.Write (swap_attributes size); access = Some at_len }) bytes) (range_of offset n)
      by true false n e = refl
      by false true n e = refl
      by false false n e = refl
  swap_changes size (asks.Create at name set) = refl
  swap_changes size (asks.Remove at name) = refl
  swap_changes size (asks.Rename at name to to_name) = refl
  swap_changes size (asks.Link at to to_name) = refl
  swap_changes size (asks.Symlink at name path set) = refl
  swap_changes size (asks.Mkdir at name set) = refl
  swap_changes size (asks.Rmdir at name) = refl
  swap_changes size (asks.Readdir at cookie count) = refl
  swap_changes size (asks.Statfs at) = refl

  swap_ranges : (size : ℕ) (args : NfsArgs) → HasRangeBy (Some size) args (swap_access files.owner from size args)
  swap_ranges size asks.Null = tt
  swap_ranges size (asks.Getattr at) = tt
  swap_ranges size (asks.Setattr at set) = tt
  swap_ranges size (asks.Lookup at name) = tt
  swap_ranges size (asks.Readlink at) = tt
  swap_ranges size (asks.Read at offset count total) = by (from == files.owner)
    where
      by : (b : Bool) → HasRangeBy (Some size) (asks.Read at offset count total) (Some (if b then range offset (read_len size offset count) else (0, 0)))
      by true = inside (read_len size offset count) refl
        where
          inside : (n : ℕ) → n ≡ read_len size offset count → HasRangeBy (Some size) (asks.Read at offset count total) (Some (range offset n))
          inside zero e = (omega arith, λ fits. omega arith)
          inside (suc n) e = subst (λ (at_len : ℕ × ℕ). HasRangeBy (Some size) (asks.Read at offset count total) (Some at_len)) (sym (range_of offset n)) (omega (arith, e), λ fits. omega (arith, e))
      by false = (omega arith, λ fits. omega arith)
  swap_ranges size (asks.Write at begin offset total bytes) = by (from == files.owner) (nat_le (offset + length bytes) size) refl
    where
      by : (b c : Bool) → nat_le (offset + length bytes) size ≡ c → HasRangeBy (Some size) (asks.Write at begin offset total bytes) (Some (if b && c then range offset (length bytes) else (0, 0)))
      by true true e = inside (length bytes) refl
        where
          fits_in : offset + length bytes ≤ size
          fits_in = leb-true (offset + length bytes) size e

          inside : (n : ℕ) → n ≡ length bytes → HasRangeBy (Some size) (asks.Write at begin offset total bytes) (Some (range offset n))
          inside zero same = (omega arith, λ fits. omega arith)
          inside (suc n) same = subst (λ (at_len : ℕ × ℕ). HasRangeBy (Some size) (asks.Write at begin offset total bytes) (Some at_len)) (sym (range_of offset n)) (omega (arith, fits_in, same), λ fits. omega (arith, fits, same))
      by true false e = (omega arith, λ fits. omega arith)
      by false true e = (omega arith, λ fits. omega arith)
      by false false e = (omega arith, λ fits. omega arith)
  swap_ranges size (asks.Create at name set) = tt
  swap_ranges size (asks.Remove at name) = tt
  swap_ranges size (asks.Rename at name to to_name) = tt
  swap_ranges size (asks.Link at to to_name) = tt
  swap_ranges size (asks.Symlink at name path set) = tt
  swap_ranges size (asks.Mkdir at name set) = tt
  swap_ranges size (asks.Rmdir at name) = tt
  swap_ranges size (asks.Readdir at cookie count) = tt
  swap_ranges size (asks.Statfs at) = tt

  -- what stands for each place
  abbrev InOne : Option Place → Type 0
  InOne place = (p : Place) → place ≡ Some p → (p.0 ≡ 0) ⊎ ((p.0 ≡ 1) × IsSome files.swap)

  and_false : (b : Bool) → false ≡ (b && false)
  and_false true = refl
  and_false false = refl

  and_true : (b : Bool) → b ≡ (b && true)
  and_true true = refl
  and_true false = refl

  place_uses : (place : Option Place) → InOne place → (args : NfsArgs) → is_some (place_decision files from place args).access ≡ (moves_bytes args && is_swap_place place)
  place_uses None one args = and_false (moves_bytes args)
  place_uses (Some (n, k)) one args = by (one (n, k) refl)
    where
      by : (n ≡ 0) ⊎ ((n ≡ 1) × IsSome files.swap) → is_some (place_decision files from (Some (n, k)) args).access ≡ (moves_bytes args && (n == 1))
      by (inl zero_) = subst (λ (m : ℕ). is_some (place_decision files from (Some (m, k)) args).access ≡ (moves_bytes args && (m == 1))) (sym zero_) (and_false (moves_bytes args))
      by (inr swap) = subst (λ (m : ℕ). is_some (place_decision files from (Some (m, k)) args).access ≡ (moves_bytes args && (m == 1))) (sym swap.0) (of files.swap swap.1)
        where
          of : (s : Option ℕ) → IsSome s → is_some (swap_file_decision files.owner from s args).access ≡ (moves_bytes args && true)
          of None h = absurd (cc h)
          of (Some size) h = swap_uses size args ∙ and_true (moves_bytes args)

  place_changes : (place : Option Place) → InOne place → (args : NfsArgs) → change_by (place_decision files from place args) (bytes_of args) ≡ (if is_swap_place place then swap_change_of files.owner from files.swap args else None)
  place_changes None one args = refl
  place_changes (Some (n, k)) one args = by (one (n, k) refl)
    where
      by : (n ≡ 0) ⊎ ((n ≡ 1) × IsSome files.swap) → change_by (place_decision files from (Some (n, k)) args) (bytes_of args) ≡ (if n == 1 then swap_change_of files.owner from files.swap args else None)
      by (inl zero_) = subst (λ (m : ℕ). change_by (place_decision files from (Some (m, k)) args) (bytes_of args) ≡ (if m == 1 then swap_change_of files.owner from files.swap args else None)) (sym zero_) refl
      by (inr swap) = subst (λ (m : ℕ). change_by (place_decision files from (Some (m, k)) args) (bytes_of args) ≡ (if m == 1 then swap_change_of files.owner from files.swap args else None)) (sym swap.0) (of files.swap swap.1)
        where
          of : (s : Option ℕ) → IsSome s → change_by (swap_file_decision files.owner from s args) (bytes_of args) ≡ swap_change_of files.owner from s args
          of None h = absurd (cc h)
          of (Some size) h = swap_changes size args

  place_ranges : (place : Option Place) (args : NfsArgs) → HasRangeBy files.swap args (place_decision files from place args).access
  place_ranges None args = tt
  place_ranges (Some place) args = by (place.0 == 0)
    where
      of : (s : Option ℕ) → HasRangeBy s args (swap_file_decision files.owner from s args).access
      of None = tt
      of (Some size) = swap_ranges size args

      by : (b : Bool) → HasRangeBy files.swap args (if b then record { done = on_root files.root place.1 (node_at files.root place.1) args; access = None } else swap_file_decision files.owner from files.swap args).access
      by true = tt
      by false = of files.swap

  handle_ranges : (h : Option FHandle) (args : NfsArgs) → HasRangeBy files.swap args (handle_decision files from h args).access
  handle_ranges None args = tt
  handle_ranges (Some h) args = place_ranges (named_by files h.0) args

  -- what stands for each call
  abbrev no_change : Option Change
  no_change = None

  either_none : (b : Bool) → (if b then no_change else no_change) ≡ no_change
  either_none true = refl
  either_none false = refl

  all_uses : (args : NfsArgs) → is_some (decision files from args).access ≡ uses_swap files args
  all_uses asks.Null = refl
  all_uses (asks.Getattr at) = place_uses (named_by files at.0) (exports_of files at.0) (asks.Getattr at)
  all_uses (asks.Setattr at set) = place_uses (named_by files at.0) (exports_of files at.0) (asks.Setattr at set)
  all_uses (asks.Lookup at name) = place_uses (named_by files at.0) (exports_of files at.0) (asks.Lookup at name)
  all_uses (asks.Readlink at) = place_uses (named_by files at.0) (exports_of files at.0) (asks.Readlink at)
  all_uses (asks.Read at offset count total) = place_uses (named_by files at.0) (exports_of files at.0) (asks.Read at offset count total)
  all_uses (asks.Write at begin offset total bytes) = place_uses (named_by files at.0) (exports_of files at.0) (asks.Write at begin offset total bytes)
  all_uses (asks.Create at name set) = place_uses (named_by files at.0) (exports_of files at.0) (asks.Create at name set)
  all_uses (asks.Remove at name) = place_uses (named_by files at.0) (exports_of files at.0) (asks.Remove at name)
  all_uses (asks.Rename at name to to_name) = place_uses (named_by files at.0) (exports_of files at.0) (asks.Rename at name to to_name)
  all_uses (asks.Link at to to_name) = place_uses (named_by files at.0) (exports_of files at.0) (asks.Link at to to_name)
  all_uses (asks.Symlink at name path set) = place_uses (named_by files at.0) (exports_of files at.0) (asks.Symlink at name path set)
  all_uses (asks.Mkdir at name set) = place_uses (named_by files at.0) (exports_of files at.0) (asks.Mkdir at name set)
  all_uses (asks.Rmdir at name) = place_uses (named_by files at.0) (exports_of files at.0) (asks.Rmdir at name)
  all_uses (asks.Readdir at cookie count) = place_uses (named_by files at.0) (exports_of files at.0) (asks.Readdir at cookie count)
  all_uses (asks.Statfs at) = place_uses (named_by files at.0) (exports_of files at.0) (asks.Statfs at)

  all_changes : (args : NfsArgs) → change_by (decision files from args) (bytes_of args) ≡ nfs_change files from args
  all_changes asks.Null = refl
  all_changes (asks.Getattr at) = place_changes (named_by files at.0) (exports_of files at.0) (asks.Getattr at) ∙ either_none (names_swap files at)
  all_changes (asks.Setattr at set) = place_changes (named_by files at.0) (exports_of files at.0) (asks.Setattr at set) ∙ either_none (names_swap files at)
  all_changes (asks.Lookup at name) = place_changes (named_by files at.0) (exports_of files at.0) (asks.Lookup at name) ∙ either_none (names_swap files at)
  all_changes (asks.Readlink at) = place_changes (named_by files at.0) (exports_of files at.0) (asks.Readlink at) ∙ either_none (names_swap files at)
  all_changes (asks.Read at offset count total) = place_changes (named_by files at.0) (exports_of files at.0) (asks.Read at offset count total) ∙ either_none (names_swap files at)
  all_changes (asks.Write at begin offset total bytes) = place_changes (named_by files at.0) (exports_of files at.0) (asks.Write at begin offset total bytes)
  all_changes (asks.Create at name set) = place_changes (named_by files at.0) (exports_of files at.0) (asks.Create at name set) ∙ either_none (names_swap files at)
  all_changes (asks.Remove at name) = place_changes (named_by files at.0) (exports_of files at.0) (asks.Remove at name) ∙ either_none (names_swap files at)
  all_changes (asks.Rename at name to to_name) = place_changes (named_by files at.0) (exports_of files at.0) (asks.Rename at name to to_name) ∙ either_none (names_swap files at)
  all_changes (asks.Link at to to_name) = place_changes (named_by files at.0) (exports_of files at.0) (asks.Link at to to_name) ∙ either_none (names_swap files at)
  all_changes (asks.Symlink at name path set) = place_changes (named_by files at.0) (exports_of files at.0) (asks.Symlink at name path set) ∙ either_none (names_swap files at)
  all_changes (asks.Mkdir at name set) = place_changes (named_by files at.0) (exports_of files at.0) (asks.Mkdir at name set) ∙ either_none (names_swap files at)
  all_changes (asks.Rmdir at name) = place_changes (named_by files at.0) (exports_of files at.0) (asks.Rmdir at name) ∙ either_none (names_swap files at)
  all_changes (asks.Readdir at cookie count) = place_changes (named_by files at.0) (exports_of files at.0) (asks.Readdir at cookie count) ∙ either_none (names_swap files at)
  all_changes (asks.Statfs at) = place_changes (named_by files at.0) (exports_of files at.0) (asks.Statfs at) ∙ either_none (names_swap files at)

module _ (files : Exported) (from : ℕ) (args : NfsArgs) (plan : NfsPlan) (is : decision_of plan ≡ decision files from args) where
  pub uses : is_swap plan ≡ uses_swap files args
  uses = swap_by_plan plan ∙ ap (λ (d : Decision). is_some d.access) is ∙ all_uses files from args

  pub changes : change_of plan (bytes_of args) ≡ nfs_change files from args
  changes = change_by_plan plan (bytes_of args) ∙ ap (λ (d : Decision). change_by d (bytes_of args)) is ∙ all_changes files from args

  pub ranges : HasRange files.swap args plan
  ranges = range_by_plan files.swap args plan (subst (λ (d : Decision). HasRangeBy files.swap args d.access) (sym is) (handle_ranges files from (first_handle args) args))
