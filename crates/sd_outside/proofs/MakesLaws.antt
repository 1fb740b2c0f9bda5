-- Changes and reads, one call after another.
use Rattle.std.proofs.Common.{◌≡◌, ◌⊎◌, inl, inr, ℕ, ◌+◌, ◌-◌, ◌<◌, ◌≤◌, length, refl, sym, ◌∙◌, ap, subst, arith}
use Rattle.std.specs.Prelude.{Bool, Option, Some, None, IsSomeAnd, Result, Err, IsErr}
use Rattle.std.specs.Result.{is_err}
use Rattle.std.specs.Option.{option_map}
use Rattle.sd_outside.specs.Plan.{later}
use Rattle.sd_outside.specs.DiskPlan.{Plan, Uses, Answers, Makes, TakesNumber, Refuses, TooLong, Both}
use Rattle.sd_outside.proofs.PlanLaws.{later-zero, later-add, length-later}
use Rattle.sd_outside.proofs.ChangeLaws.{stop_kept}

pub both_then : {A : Type 0} {R S T : A → A → Type 0} → ((x y z : A) → R x y → S y z → T x z) → (a b c : Option A) → Both R a b → Both S b c → Both T a c
both_then step None None None first second = tt
both_then step None None (Some z) first second = absurd second
both_then step None (Some y) c first second = absurd first
both_then step (Some x) None c first second = absurd first
both_then step (Some x) (Some y) None first second = absurd second
both_then step (Some x) (Some y) (Some z) first second = step x y z first second

pub both_map : {A : Type 0} {R S : A → A → Type 0} → ((x y : A) → R x y → S x y) → (a b : Option A) → Both R a b → Both S a b
both_map step None None both = tt
both_map step None (Some y) both = absurd both
both_map step (Some x) None both = absurd both
both_map step (Some x) (Some y) both = step x y both

pub both_same : {A : Type 0} (R : A → A → Type 0) → ((x : A) → R x x) → (a : Option A) → Both R a a
both_same R here None = tt
both_same R here (Some x) = here x

stop_more : (k n : ℕ) (stop : Option ℕ) → option_map (λ left. left - n) (option_map (λ left. left - k) stop) ≡ option_map (λ left. left - (k + n)) stop
stop_more k n None = refl
stop_more k n (Some left) = let same : (left - k) - n ≡ left - (k + n) = omega arith in ap Some same

refuses_more : (k n : ℕ) (stop : Option ℕ) → IsSomeAnd (option_map (λ left. left - k) stop) (λ left. left < n) → IsSomeAnd stop (λ left. left < k + n)
refuses_more k n None refused = absurd refused
refuses_more k n (Some left) refused = omega (arith, refused)

pub uses_none : (plan : Plan) → Uses 0 0 plan plan
uses_none plan = record {
  changes_left = sym (later-zero plan.changes);
  reads_left = sym (later-zero plan.reads);
  stop_left = stop_kept plan.stop;
  room_left = omega arith;
  room_kept = omega arith;
}

pub uses_more : (k r n m : ℕ) (first mid last : Plan) → Uses k r first mid → Uses n m mid last → Uses (k + n) (r + m) first last
uses_more k r n m first mid last one two = record {
  changes_left = two.changes_left ∙ ap (later n) one.changes_left ∙ sym (later-add k n first.changes);
  reads_left = two.reads_left ∙ ap (later m) one.reads_left ∙ sym (later-add r m first.reads);
  stop_left = two.stop_left ∙ ap (option_map (λ left. left - n)) one.stop_left ∙ stop_more k n first.stop;
  room_left = omega (arith, one.room_left, two.room_left);
  room_kept = omega (arith, one.room_kept, two.room_kept);
}

takes_more : (k r n m : ℕ) (first mid last : Plan) → Uses k r first mid → Uses n m mid last → TakesNumber mid last → TakesNumber first last
takes_more k r n m first mid last one two takes =
    omega (arith, takes, ap length one.changes_left, ap length one.reads_left, length-later k first.changes, length-later r first.reads)

refused_more : (k r n : ℕ) (first mid : Plan) → Uses k r first mid → Refuses n mid → Refuses (k + n) first
refused_more k r n first mid one (inl stopped) = inl (refuses_more k n first.stop (subst (λ (s : Option ℕ). IsSomeAnd s (λ left. left < n)) one.stop_left stopped))
refused_more k r n first mid one (inr full) = inr (omega (arith, full, one.room_left))

-- before the first call
pub makes_none : (F : Type 0) → (F → ⊥) → (plan : Plan) → Makes 0 0 F plan plan
makes_none F never plan = record {
  changes = 0;
  reads = 0;
  few_changes = omega arith;
  few_reads = omega arith;
  uses = uses_none plan;
  planned = λ fails. absurd (never fails);
}

-- some calls, and then some more
pub makes_then : (most_changes most_reads more_changes more_reads : ℕ) (F G H : Type 0) → (H → G) → (first mid last : Plan)
    → Makes most_changes most_reads F first mid → Makes more_changes more_reads G mid last → Makes (most_changes + more_changes) (most_reads + more_reads) H first last
makes_then most_changes most_reads more_changes more_reads F G H why first mid last one two = record {
  changes = one.changes + two.changes;
  reads = one.reads + two.reads;
  few_changes = omega (arith, one.few_changes, two.few_changes);
  few_reads = omega (arith, one.few_reads, two.few_reads);
  uses = uses_more one.changes one.reads two.changes two.reads first mid last one.uses two.uses;
  planned = λ fails. causes (two.planned (why fails));
}
  where
    causes : TakesNumber mid last ⊎ Refuses two.changes mid → TakesNumber first last ⊎ Refuses (one.changes + two.changes) first
    causes (inl takes) = inl (takes_more one.changes one.reads two.changes two.reads first mid last one.uses two.uses takes)
    causes (inr refused) = inr (refused_more one.changes one.reads two.changes first mid one.uses refused)

-- one call of a disk
pub makes_one : (changes reads : ℕ) (L F : Type 0) → (L → ⊥) → (first last : Plan) → Answers changes reads L F first last → Makes changes reads F first last
makes_one changes reads L F short first last answers = record {
  changes = changes;
  reads = reads;
  few_changes = omega arith;
  few_reads = omega arith;
  uses = answers.uses;
  planned = λ fails. causes (answers.fails.0 fails);
}
  where
    causes : TakesNumber first last ⊎ Refuses changes first ⊎ L → TakesNumber first last ⊎ Refuses changes first
    causes (inl takes) = inl takes
    causes (inr (inl refused)) = inr refused
    causes (inr (inr long)) = absurd (short long)

pub short_enough : (tells : Bool) (bytes : ℕ) → bytes ≤ 8256 → TooLong tells bytes → ⊥
short_enough tells bytes short long = omega (arith, long.1, short)

-- fewer calls than the most
pub makes_fewer : (most_changes most_reads more_changes more_reads : ℕ) (F H : Type 0) → most_changes ≤ more_changes → most_reads ≤ more_reads → (H → F) → (first last : Plan) → Makes most_changes most_reads F first last → Makes more_changes more_reads H first last
makes_fewer most_changes most_reads more_changes more_reads F H fewer_changes fewer_reads why first last makes = record {
  changes = makes.changes;
  reads = makes.reads;
  few_changes = omega (arith, makes.few_changes, fewer_changes);
  few_reads = omega (arith, makes.few_reads, fewer_reads);
  uses = makes.uses;
  planned = λ fails. makes.planned (why fails);
}

pub is_an_err : {T E : Type 0} (result : Result T E) (error : E) → result ≡ Err error → IsErr result
is_an_err result error is = ap is_err is

-- the same for disks that may tell no plan
module _ (a b c : Option Plan) where
  pub plan_one : (changes reads : ℕ) (L F : Type 0) → (L → ⊥) → Both (Answers changes reads L F) a b → Both (Makes changes reads F) a b
  plan_one changes reads L F short both = both_map (makes_one changes reads L F short) a b both

  pub plan_then : (most_changes most_reads more_changes more_reads : ℕ) (F G H : Type 0) → (H → G) → Both (Makes most_changes most_reads F) a b → Both (Makes more_changes more_reads G) b c → Both (Makes (most_changes + more_changes) (most_reads + more_reads) H) a c
  plan_then most_changes most_reads more_changes more_reads F G H why first second = both_then (makes_then most_changes most_reads more_changes more_reads F G H why) a b c first second

  pub plan_fewer : (most_changes most_reads more_changes more_reads : ℕ) (F H : Type 0) → most_changes ≤ more_changes → most_reads ≤ more_reads → (H → F) → Both (Makes most_changes most_reads F) a b → Both (Makes more_changes more_reads H) a b
  plan_fewer most_changes most_reads more_changes more_reads F H fewer_changes fewer_reads why both = both_map (makes_fewer most_changes most_reads more_changes more_reads F H fewer_changes fewer_reads why) a b both

pub plan_none : (F : Type 0) → (F → ⊥) → (a : Option Plan) → Both (Makes 0 0 F) a a
plan_none F never a = both_same (Makes 0 0 F) (makes_none F never) a

pub plan_from : (a start b : Option Plan) (most_changes most_reads : ℕ) (F : Type 0) → a ≡ start → Both (Makes most_changes most_reads F) a b → Both (Makes most_changes most_reads F) start b
plan_from a start b most_changes most_reads F same both = subst (λ (x : Option Plan). Both (Makes most_changes most_reads F) x b) same both
