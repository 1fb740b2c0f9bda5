-- One call of a store after another.
use Rattle.std.proofs.Common.{◌≡◌, ◌⊎◌, inl, inr, ℕ, ◌≤◌, List, Bool, true, false, refl, ap, sym, arith, ◌∙◌}
use Rattle.std.specs.Prelude.{Option, Some, None, is_some, not}
use Rattle.sd_outside.specs.Disk.{LeavesOnly}
use Rattle.sd_stable_disk.specs.Files.{IsEither}
use Rattle.sd_stable_disk.specs.declared.errors.OpenError.{OpenError}
use Rattle.sd_nfs_server.specs.Acts.{place_of, damaged_in, is_refused}

-- what crashes leave in one stretch of time, and then in the next
pub leaves_then : {D A : Type 0} (moment : D → ℕ) (left_since : D → ℕ → A → Type 0) (a b c : D) (P Q : A → Type 0) → ((left : A) → Q left → P left) → LeavesOnly moment left_since a b P → LeavesOnly moment left_since b c Q → LeavesOnly moment left_since a c P
leaves_then {D = D} {A = A} moment left_since a b c P Q weaker one two = record {
  later = omega (arith, one.later, two.later);
  each = λ left since. each left (two.before (moment a) left one.later since);
  before = λ since left le now. before since left le (two.before since left (omega (arith, le, one.later)) now);
}
  where
    each : (left : A) → left_since b (moment a) left ⊎ Q left → P left
    each left (inl mid) = one.each left mid
    each left (inr q) = weaker left q

    before : (since : ℕ) (left : A) → since ≤ moment a → left_since b since left ⊎ Q left → left_since a since left ⊎ P left
    before since left le (inl mid) = one.before since left le mid
    before since left le (inr q) = inr (weaker left q)

pub leaves_weaker : {D A : Type 0} (moment : D → ℕ) (left_since : D → ℕ → A → Type 0) (a b : D) (P Q : A → Type 0) → ((left : A) → Q left → P left) → LeavesOnly moment left_since a b Q → LeavesOnly moment left_since a b P
leaves_weaker {D = D} {A = A} moment left_since a b P Q weaker one = record {
  later = one.later;
  each = λ left since. weaker left (one.each left since);
  before = λ since left le now. before since left (one.before since left le now);
}
  where
    before : (since : ℕ) (left : A) → left_since a since left ⊎ Q left → left_since a since left ⊎ P left
    before since left (inl old) = inl old
    before since left (inr q) = inr (weaker left q)

-- the files are what they were, so they are so with a write or without
pub kept_or : (file at : ℕ) (bytes : List ℕ) (H : Type 0) (old left : Option (List (List ℕ))) → H ⊎ (left ≡ old) → H ⊎ IsEither file at bytes old left
kept_or file at bytes H old left (inl held) = inl held
kept_or file at bytes H old left (inr same) = inr (inl same)

-- what isn't up is down
pub down_where : (up : Bool) → (up ≡ true → ⊥) → up ≡ false
down_where true no_way = absurd (no_way refl)
down_where false no_way = refl

-- no place is damaged where the store was up, or came up
pub none_damaged : (up : Bool) (refusal : Option OpenError) → (up ≡ false → refusal ≡ None) → None ≡ damaged_in up refusal
none_damaged true refusal came = refl
none_damaged false refusal came = sym (ap (damaged_in false) (came refl))

-- the place that recovery refused
pub place_damaged : (up : Bool) (refusal : Option OpenError) (error : OpenError) → up ≡ false → refusal ≡ Some error → place_of error ≡ damaged_in up refusal
place_damaged true refusal error down is = absurd (cc down)
place_damaged false refusal error down is = sym (ap (damaged_in false) is)

-- recovery wasn't refused where the store was up, or came up
pub not_refused : (up : Bool) (refusal : Option OpenError) → (up ≡ false → refusal ≡ None) → is_refused up refusal ≡ false
not_refused true refusal came = refl
not_refused false refusal came = ap is_some (came refl)

-- it was where a store that was down has a refusal
pub was_refused : (up : Bool) (refusal : Option OpenError) (error : OpenError) → up ≡ false → refusal ≡ Some error → is_refused up refusal ≡ true
was_refused true refusal error down is = absurd (cc down)
was_refused false refusal error down is = ap is_some is

-- the store is up but where it was refused
pub up_where : (now up : Bool) (refusal : Option OpenError) → now ≡ true → is_refused up refusal ≡ false → now ≡ not (is_refused up refusal)
up_where now up refusal is no_refusal = is ∙ sym (ap not no_refusal)

pub down_as : (now up : Bool) (refusal : Option OpenError) → now ≡ false → is_refused up refusal ≡ true → now ≡ not (is_refused up refusal)
down_as now up refusal is refused = is ∙ sym (ap not refused)
