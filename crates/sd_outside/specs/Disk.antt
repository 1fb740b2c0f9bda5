-- What a disk gives, and what a crash may leave of it.
use Rattle.std.specs.Prelude.{◌≡◌, ◌⊎◌, ◌↔◌, ℕ, ◌≤◌, List, Option, Some}
use Rattle.sd_outside.specs.Moments.{Unsynced}

-- a crash leaves what a read gives and nothing else
abbrev pub Only : Option (List ℕ) → (List ℕ → Type 0) → Type 0
Only seen may_leave = (image : List ℕ) → may_leave image → seen ≡ Some image

-- each outcome of a crash is one from before, after a step
abbrev pub Follows : (List ℕ → List ℕ → Type 0) → (List ℕ → Type 0) → (List ℕ → Type 0) → Type 0
Follows step old new = (image : List ℕ) → new image → (before : List ℕ) × old before × step before image

-- no crash leaves what none could leave before
abbrev pub LeavesNoMore : (List ℕ → Type 0) → (List ℕ → Type 0) → Type 0
LeavesNoMore old new = (image : List ℕ) → new image → old image

-- a crash may leave exactly what it could leave before
abbrev pub LeavesSame : (List ℕ → Type 0) → (List ℕ → Type 0) → Type 0
LeavesSame old new = (image : List ℕ) → new image ↔ old image

-- Time goes on: a crash since a moment might have left what it might have left before, or what one may leave now.
pub record Elapses (before now : ℕ) (past since : ℕ → List ℕ → Type 0) (may_leave : List ℕ → Type 0) : Type 0 where
  pub later : before ≤ now
  pub nothing_else : (moment : ℕ) (image : List ℕ) → moment ≤ before → since moment image → past moment image ⊎ may_leave image
  pub keeps : (moment : ℕ) (image : List ℕ) → moment ≤ before → past moment image → since moment image

-- Between two states each crash, at whatever moment, leaves what has P: an image, or what an image holds.
pub record LeavesOnly {D A : Type 0} (moment : D → ℕ) (left_since : D → ℕ → A → Type 0) (old new : D) (P : A → Type 0) : Type 0 where
  pub later : moment old ≤ moment new
  pub each : (left : A) → left_since new (moment old) left → P left
  -- for a run that began earlier
  pub before : (since : ℕ) (left : A) → since ≤ moment old → left_since new since left → left_since old since left ⊎ P left

-- Nothing happened: a read gives what it gave, the same bytes are unsynced, a crash may leave what it could leave, and so it
-- might have at each moment.
pub record Unchanged {D : Type 0} (seen : D → Option (List ℕ)) (unsynced : D → Option Unsynced) (may_leave : D → List ℕ → Type 0) (moment : D → ℕ) (left_since : D → ℕ → List ℕ → Type 0) (old new : D) : Type 0 where
  pub bytes : seen new ≡ seen old
  pub marks : unsynced new ≡ unsynced old
  pub crash : LeavesSame (may_leave old) (may_leave new)
  pub time : moment new ≡ moment old
  pub past : (since : ℕ) → LeavesSame (left_since old since) (left_since new since)
