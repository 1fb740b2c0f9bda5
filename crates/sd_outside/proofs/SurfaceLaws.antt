-- The bytes of a disk in memory: a write, a sync, a crash.
use Rattle.std.proofs.Common.{◌≢◌, ◌≡◌, ◌⊎◌, inl, inr, ⊎_elim, ℕ, ◌+◌, ◌-◌, ◌<◌, ◌≤◌, List, length, get_or, set, replicate, Bool, true, false, refl, sym, ◌∙◌, ap, arith}
use Rattle.std.proofs.lemmas.Bool.{cases_lt, false≢true}
use Rattle.std.proofs.lemmas.List.{length-replicate, get_or-replicate, get_or_past, get_or_default, same_lists, length-set, get_or-set_same, get_or-set_other}
use Rattle.std.proofs.lemmas.Grind.{same_number_lists}
use borrow.Author.Count.{below_more}
use Rattle.sd_outside.specs.Ranges.{put}
use Rattle.sd_outside.specs.Moments.{pick, picked}
use Rattle.sd_outside.specs.MomentLaws.{picked_marked, picked_unmarked, length-picked}
use Rattle.sd_outside.specs.Kept.{Outside, IsSurface, Refreshed}
use Rattle.sd_outside.specs.declared.range.Span.{Span}
use Rattle.sd_outside.proofs.RangeLaws.{length-put, get_or-put, get_or-put_below, get_or-put_above}
use Rattle.sd_outside.proofs.RefreshLaws.{refreshed_all}

-- what isn't marked lies outside of what was just marked
module _ (at n : ℕ) (marks : List Bool) (fits : at + n ≤ length marks) where
  pub mark_kept : (place : ℕ) → (place < at) ⊎ (at + n ≤ place) → get_or (put at (replicate n true) marks) place false ≡ get_or marks place false
  mark_kept place (inl low) = get_or-put_below at (replicate n true) marks place false (omega arith) low
  mark_kept place (inr high) = get_or-put_above at (replicate n true) marks place false (omega (arith, length-replicate n true)) (omega (arith, high, length-replicate n true))

  pub unmarked_apart : (place : ℕ) → get_or (put at (replicate n true) marks) place false ≡ false → (place < at) ⊎ (at + n ≤ place)
  unmarked_apart place unmarked = ⊎_elim
      (λ (low : place < at). inl low)
      (λ (high : at ≤ place). ⊎_elim
      (λ (inner : place - at < n).
      let there : place ≡ at + (place - at) = omega (arith, high) in
      absurd (false≢true (sym unmarked ∙ ap (λ (p : ℕ). get_or (put at (replicate n true) marks) p false) there
      ∙ get_or-put at (replicate n true) marks (place - at) false (omega arith) (omega (arith, inner, length-replicate n true))
      ∙ get_or-replicate n (place - at) true false inner)))
      (λ (outer : n ≤ place - at). inr (omega (arith, outer, high)))
      (cases_lt (place - at) n))
      (cases_lt place at)

module _ (bytes synced : List ℕ) (unsynced : List Bool) (dirty : Span) (surface : IsSurface bytes synced unsynced dirty) where
  pub surface_written : (at : ℕ) (new : List ℕ) (joined : Span) → at + length new ≤ length bytes
      → ((place : ℕ) → Outside joined place → Outside dirty place × ((place < at) ⊎ (at + length new ≤ place)))
      → joined.start ≤ joined.end → joined.end ≤ length bytes
      → IsSurface (put at new bytes) synced (put at (replicate (length new) true) unsynced) joined
  surface_written at new joined fits covers ordered inside =
      let size : length (put at new bytes) ≡ length bytes = length-put at new bytes fits in
      let fits_marks : at + length new ≤ length unsynced = omega (arith, fits, surface.unsynced_size) in
      let wide : length (replicate (length new) true) ≡ length new = length-replicate (length new) true in
      record {
        synced_size = surface.synced_size ∙ sym size;
        unsynced_size = length-put at (replicate (length new) true) unsynced (omega (arith, fits_marks, wide)) ∙ surface.unsynced_size ∙ sym size;
        ordered = ordered;
        inside = omega (arith, inside, size);
        covered = λ place outside. mark_kept at (length new) unsynced fits_marks place (covers place outside).1 ∙ surface.covered place (covers place outside).0;
        clean = λ place unmarked.
            let apart = unmarked_apart at (length new) unsynced fits_marks place unmarked in
            surface.clean place (sym (mark_kept at (length new) unsynced fits_marks place apart) ∙ unmarked) ∙ sym (kept place apart);
      }
    where
      kept : (place : ℕ) → (place < at) ⊎ (at + length new ≤ place) → get_or (put at new bytes) place 0 ≡ get_or bytes place 0
      kept place (inl low) = get_or-put_below at new bytes place 0 (omega (arith, fits)) low
      kept place (inr high) = get_or-put_above at new bytes place 0 fits high

  pub all_synced : (new : List ℕ) → Refreshed (Outside dirty) bytes synced new → new ≡ bytes
  all_synced new fresh = refreshed_all bytes synced new fresh surface.synced_size (λ place d below outside.
      get_or_default synced place d 0 (omega (arith, below, surface.synced_size)) ∙ surface.clean place (surface.covered place outside) ∙ get_or_default bytes place 0 d below)

  pub all_unmarked : put dirty.start (replicate (dirty.end - dirty.start) false) unsynced ≡ replicate (length unsynced) false
  all_unmarked =
      let falses = replicate (dirty.end - dirty.start) false in
      let wide : length falses ≡ dirty.end - dirty.start = length-replicate (dirty.end - dirty.start) false in
      let fits : dirty.start + length falses ≤ length unsynced = omega (arith, wide, surface.ordered, surface.inside, surface.unsynced_size) in
      let size : length (put dirty.start falses unsynced) ≡ length unsynced = length-put dirty.start falses unsynced fits in
      same_lists _ _ (size ∙ sym (length-replicate (length unsynced) false)) (λ place d below.
      let inside : place < length unsynced = omega (arith, below, size) in
      get_or_default (put dirty.start falses unsynced) place d false below
      ∙ ⊎_elim
      (λ (low : place < dirty.start). get_or-put_below dirty.start falses unsynced place false (omega (arith, fits)) low ∙ surface.covered place (inl low))
      (λ (high : dirty.start ≤ place). ⊎_elim
      (λ (inner : place - dirty.start < dirty.end - dirty.start).
      let there : place ≡ dirty.start + (place - dirty.start) = omega (arith, high) in
      ap (λ (p : ℕ). get_or (put dirty.start falses unsynced) p false) there
      ∙ get_or-put dirty.start falses unsynced (place - dirty.start) false (omega (arith, fits)) (omega (arith, inner, wide))
      ∙ get_or-replicate (dirty.end - dirty.start) (place - dirty.start) false false inner)
      (λ (outer : dirty.end - dirty.start ≤ place - dirty.start).
      let past : dirty.end ≤ place = omega (arith, outer, high, surface.ordered) in
      get_or-put_above dirty.start falses unsynced place false fits (omega (arith, wide, surface.ordered, past)) ∙ surface.covered place (inr past))
      (cases_lt (place - dirty.start) (dirty.end - dirty.start)))
      (cases_lt place dirty.start)
      ∙ sym (get_or-replicate (length unsynced) place false d inside))

  pub surface_settled : (outcome : ℕ) → IsSurface (picked outcome 0 synced bytes unsynced) synced unsynced dirty
  surface_settled outcome =
      let size : length (picked outcome 0 synced bytes unsynced) ≡ length bytes = length-picked outcome 0 synced bytes unsynced surface.synced_size surface.unsynced_size in
      record {
        synced_size = surface.synced_size ∙ sym size;
        unsynced_size = surface.unsynced_size ∙ sym size;
        ordered = surface.ordered;
        inside = omega (arith, surface.inside, size);
        covered = surface.covered;
        clean = λ place unmarked. surface.clean place unmarked ∙ sym (picked_unmarked outcome 0 synced bytes unsynced place surface.synced_size surface.unsynced_size unmarked);
      }

pub get_or-false : (n k : ℕ) → get_or (replicate n false) k false ≡ false
get_or-false n k = ⊎_elim
    (λ (below : k < n). get_or-replicate n k false false below)
    (λ (past : n ≤ k). get_or_past (replicate n false) k false (omega (arith, past, length-replicate n false)))
    (cases_lt k n)

-- all is synced
pub surface_clean : (bytes synced : List ℕ) (unsynced : List Bool) (nowhere : Span) (n : ℕ) → synced ≡ bytes → unsynced ≡ replicate n false → n ≡ length bytes → nowhere.start ≡ 0 → nowhere.end ≡ 0 → IsSurface bytes synced unsynced nowhere
surface_clean bytes synced unsynced nowhere n same none size start end = record {
  synced_size = ap length same;
  unsynced_size = ap length none ∙ length-replicate n false ∙ size;
  ordered = omega (arith, start, end);
  inside = omega (arith, end);
  covered = λ place outside. ap (λ (l : List Bool). get_or l place false) none ∙ get_or-false n place;
  clean = λ place unmarked. ap (λ (l : List ℕ). get_or l place 0) same;
}

-- the places below one are settled, and the others are as they were
pub record Settled (outcome : ℕ) (olds news : List ℕ) (marks : List Bool) (place : ℕ) (bytes : List ℕ) : Type 0 where
  pub size : length bytes ≡ length news
  pub done : (k : ℕ) → k < place → get_or bytes k 0 ≡ get_or (picked outcome 0 olds news marks) k 0
  pub left : (k : ℕ) → place ≤ k → get_or bytes k 0 ≡ get_or news k 0

module _ (outcome : ℕ) (olds news : List ℕ) (marks : List Bool) (olds_size : length olds ≡ length news) (marks_size : length marks ≡ length news) (span : Span) (covered : (place : ℕ) → Outside span place → get_or marks place false ≡ false) where
  pub settled_start : Settled outcome olds news marks span.start news
  settled_start = record {
    size = refl;
    done = λ k early. sym (picked_unmarked outcome 0 olds news marks k olds_size marks_size (covered k (inl early)));
    left = λ k late. refl;
  }

  pub settled_end : (place : ℕ) (bytes : List ℕ) → Settled outcome olds news marks place bytes → span.end ≤ place → bytes ≡ picked outcome 0 olds news marks
  settled_end place bytes so_far ends = same_number_lists _ _ (so_far.size ∙ sym (length-picked outcome 0 olds news marks olds_size marks_size)) (λ k below. ⊎_elim
      (λ (early : k < place). so_far.done k early)
      (λ (late : place ≤ k). so_far.left k late ∙ sym (picked_unmarked outcome 0 olds news marks k olds_size marks_size (covered k (inr (omega (arith, late, ends))))))
      (cases_lt k place))

module _ (outcome : ℕ) (olds news : List ℕ) (marks : List Bool) (place : ℕ) (bytes : List ℕ) (olds_size : length olds ≡ length news) (marks_size : length marks ≡ length news) (so_far : Settled outcome olds news marks place bytes) where
  pub settled_marked : (value : ℕ) → place < length news → get_or marks place false ≡ true → value ≡ pick outcome place (get_or olds place 0) (get_or bytes place 0)
      → Settled outcome olds news marks (place + 1) (set bytes place value)
  settled_marked value below marked is = record {
    size = length-set bytes place value ∙ so_far.size;
    done = below_more _ _
        (λ k early. let ne : k ≢ place = omega arith in get_or-set_other bytes place k value 0 ne ∙ so_far.done k early)
        (get_or-set_same bytes place value 0 (omega (arith, so_far.size))
        ∙ is ∙ ap (λ (b : ℕ). pick outcome place (get_or olds place 0) b) (so_far.left place (omega arith))
        ∙ sym (picked_marked outcome 0 olds news marks place olds_size marks_size below marked ∙ (let same : 0 + place ≡ place = omega arith in ap (λ (p : ℕ). pick outcome p (get_or olds place 0) (get_or news place 0)) same)));
    left = λ k late. let ne : k ≢ place = omega arith in get_or-set_other bytes place k value 0 ne ∙ so_far.left k (omega arith);
  }

  pub settled_unmarked : get_or marks place false ≡ false → Settled outcome olds news marks (place + 1) bytes
  settled_unmarked unmarked = record {
    size = so_far.size;
    done = below_more _ _ so_far.done (so_far.left place (omega arith) ∙ sym (picked_unmarked outcome 0 olds news marks place olds_size marks_size unmarked));
    left = λ k late. so_far.left k (omega arith);
  }
