-- One change or read of a disk that keeps 64 changes.
use Rattle.std.proofs.Common.{◌≡◌, ◌⊎◌, inl, inr, ℕ, ◌+◌, ◌-◌, ◌<◌, ◌≤◌, List, length, true, refl, sym, ap, subst, arith}
use Rattle.std.specs.Prelude.{Option, Some, None, IsSomeAnd, ◌↔◌}
use Rattle.std.specs.Option.{option_map}
use Rattle.sd_outside.specs.Plan.{later}
use Rattle.sd_outside.specs.DiskPlan.{Answers, TakesNumber, Refuses, TooLong}
use Rattle.sd_outside.proofs.PlanLaws.{later-zero}

pub stop_kept : (stop : Option ℕ) → stop ≡ option_map (λ n. n - 0) stop
stop_kept None = refl
stop_kept (Some n) = let same : n ≡ n - 0 = omega arith in ap Some same

-- one read
pub answers_read : (changes reads reads_left : List ℕ) (stop : Option ℕ) (room : ℕ) (failed : Type 0) → reads_left ≡ later 1 reads → (length reads_left < length reads → failed) → (failed → length reads_left < length reads)
    → Answers 0 1 ⊥ failed (record { changes = changes; reads = reads; stop = stop; room = room }) (record { changes = changes; reads = reads_left; stop = stop; room = room })
answers_read changes reads reads_left stop room failed left fails taken = record {
  uses = record {
    changes_left = sym (later-zero changes);
    reads_left = left;
    stop_left = stop_kept stop;
    room_left = omega arith;
    room_kept = omega arith;
  };
  fails = (λ failing. inl (omega (arith, taken failing)), causes);
}
  where
    stopped : (s : Option ℕ) → IsSomeAnd s (λ n. n < 0) → failed
    stopped None refused = absurd refused
    stopped (Some n) refused = absurd (omega (arith, refused))

    causes : TakesNumber (record { changes = changes; reads = reads; stop = stop; room = room }) (record { changes = changes; reads = reads_left; stop = stop; room = room })
        ⊎ Refuses 0 (record { changes = changes; reads = reads; stop = stop; room = room }) ⊎ ⊥ → failed
    causes (inl taken) = fails (omega (arith, taken))
    causes (inr (inl (inl refused))) = stopped stop refused
    causes (inr (inl (inr full))) = absurd (omega (arith, full))
    causes (inr (inr long)) = absurd long

-- why a disk that keeps 64 changes refuses one of so many bytes
abbrev pub Refused : List ℕ → List ℕ → Option ℕ → ℕ → ℕ → Type 0
Refused changes_left changes stop kept bytes = (length changes_left < length changes) ⊎ (stop ≡ Some 0) ⊎ (64 ≤ kept) ⊎ (8256 < bytes)

pub not_refused : (changes_left changes : List ℕ) (stop : Option ℕ) (kept shown bytes : ℕ) {P : Type 0} → shown ≡ kept
    → ((length changes_left < length changes → ⊥) × (shown < 64) × (bytes ≤ 8256) × (stop ≡ Some 0 → ⊥)) → Refused changes_left changes stop kept bytes → P
not_refused changes_left changes stop kept shown bytes same none (inl taken) = absurd (none.0 taken)
not_refused changes_left changes stop kept shown bytes same none (inr (inl stopped)) = absurd (none.3 stopped)
not_refused changes_left changes stop kept shown bytes same none (inr (inr (inl full))) = absurd (omega (arith, full, none.1, same))
not_refused changes_left changes stop kept shown bytes same none (inr (inr (inr long))) = absurd (omega (arith, long, none.2))

-- one change
pub answers_change : (changes changes_left reads : List ℕ) (stop stop_left : Option ℕ) (kept kept_left bytes : ℕ) (too_long failed : Type 0) → changes_left ≡ later 1 changes → stop_left ≡ option_map (λ n. n - 1) stop
    → kept ≤ kept_left → kept_left ≤ kept + 1 → (too_long ↔ (8256 < bytes)) → (Refused changes_left changes stop kept bytes → failed) → (failed → Refused changes_left changes stop kept bytes)
    → Answers 1 0 too_long failed (record { changes = changes; reads = reads; stop = stop; room = 64 - kept }) (record { changes = changes_left; reads = reads; stop = stop_left; room = 64 - kept_left })
answers_change changes changes_left reads stop stop_left kept kept_left bytes too_long failed left stop_less more few long_is fails cause = record {
  uses = record {
    changes_left = left;
    reads_left = sym (later-zero reads);
    stop_left = stop_less;
    room_left = omega arith;
    room_kept = omega arith;
  };
  fails = (λ failing. causes (cause failing), λ why. fails (refused why));
}
  where
    stops : stop ≡ Some 0 → IsSomeAnd stop (λ n. n < 1)
    stops is = subst (λ (s : Option ℕ). IsSomeAnd s (λ n. n < 1)) (sym is) (omega arith)

    stopped : (s : Option ℕ) → IsSomeAnd s (λ n. n < 1) → s ≡ Some 0
    stopped None refused = absurd refused
    stopped (Some n) refused = let zero : n ≡ 0 = omega (arith, refused) in ap Some zero

    causes : Refused changes_left changes stop kept bytes
        → TakesNumber (record { changes = changes; reads = reads; stop = stop; room = 64 - kept }) (record { changes = changes_left; reads = reads; stop = stop_left; room = 64 - kept_left })
        ⊎ Refuses 1 (record { changes = changes; reads = reads; stop = stop; room = 64 - kept }) ⊎ too_long
    causes (inl taken) = inl (omega (arith, taken))
    causes (inr (inl none_left)) = inr (inl (inl (stops none_left)))
    causes (inr (inr (inl full))) = inr (inl (inr (omega (arith, full))))
    causes (inr (inr (inr long))) = inr (inr (long_is.1 long))

    refused : TakesNumber (record { changes = changes; reads = reads; stop = stop; room = 64 - kept }) (record { changes = changes_left; reads = reads; stop = stop_left; room = 64 - kept_left })
        ⊎ Refuses 1 (record { changes = changes; reads = reads; stop = stop; room = 64 - kept }) ⊎ too_long → Refused changes_left changes stop kept bytes
    refused (inl taken) = inl (omega (arith, taken))
    refused (inr (inl (inl refuses))) = inr (inl (stopped stop refuses))
    refused (inr (inl (inr full))) = inr (inr (inl (omega (arith, full))))
    refused (inr (inr long)) = inr (inr (inr (long_is.0 long)))

-- a write is too long exactly where it has more bytes than are kept
pub long_write : (bytes : ℕ) → TooLong true bytes ↔ (8256 < bytes)
long_write bytes = (λ long. long.1, λ long. (refl, long))

pub long_sync : ⊥ ↔ (8256 < 0)
long_sync = (λ long. absurd long, λ long. absurd (omega (arith, long)))
