-- The changes of a disk in memory since the named moment.
use Rattle.std.proofs.Common.{◌≡◌, ◌⊎◌, inl, inr, ⊎_elim, ℕ, ◌+◌, ◌-◌, ◌<◌, ◌≤◌, List, [], ◌∷◌, ◌++◌, length, get_or, take, replicate, Bool, true, false, Some, refl, sym, ◌∙◌, ap, subst, arith, suc, length-append}
use Rattle.std.proofs.lemmas.Bool.{cases_lt}
use Rattle.std.proofs.lemmas.List.{get_or_default, length-replicate, same_lists, take-append-le, get_or_append_left, get_or-append_right}
use Rattle.std.proofs.Math.Seq.{take-length}
use Rattle.sd_outside.specs.Ranges.{part, put, Torn}
use Rattle.sd_outside.specs.Disk.{Elapses, Only}
use Rattle.sd_outside.specs.Moments.{State, Change, MayLeave, MightHaveLeft, after, replay, all_synced}
use Rattle.sd_outside.specs.Moments.Change.{Write, Sync}
use Rattle.sd_outside.specs.MomentLaws.{same_state}
use Rattle.sd_outside.specs.Kept.{Outside, Spares, SparedBy, AllFit, end_of, Refreshed, Near}
use Rattle.sd_outside.specs.declared.range.Span.{Span}
use Rattle.sd_outside.proofs.RangeLaws.{length-part, length-put, get_or-part, get_or-put, get_or-put_below, get_or-put_above}
use Rattle.sd_outside.proofs.RefreshLaws.{refreshed_then, refreshed_all}
use Rattle.sd_outside.proofs.SurfaceLaws.{get_or-false}

-- a list is caught up where it was copied at the changes and in the span, and was the same elsewhere
pub caught_up : {A : Type 0} (changes shown : List Change) (span : Span) (from from_one from_two old mid last : List A) (d : A) → shown ≡ changes → from_one ≡ from → from_two ≡ from
    → Refreshed (SparedBy (length shown) shown) from_one old mid → Refreshed (Outside span) from_two mid last → length old ≡ length from
    → ((place : ℕ) → SparedBy (length changes) changes place → Outside span place → get_or old place d ≡ get_or from place d) → last ≡ from
caught_up {A} changes shown span from from_one from_two old mid last d shown_is one_is two_is one two size near =
    let first : Refreshed (SparedBy (length changes) changes) from old mid =
    subst (λ (l : List A). Refreshed (SparedBy (length changes) changes) l old mid) one_is (subst (λ (cs : List Change). Refreshed (SparedBy (length cs) cs) from_one old mid) shown_is one) in
    let second : Refreshed (Outside span) from mid last = subst (λ (l : List A). Refreshed (Outside span) l mid last) two_is two in
    let both : Refreshed (λ place. SparedBy (length changes) changes place × Outside span place) from old last = refreshed_then from old mid last (λ place spared outside. (spared, outside)) first second in
    refreshed_all from old last both size (λ place e below left.
    get_or_default old place e d (omega (arith, below, size)) ∙ near place left.0 left.1 ∙ get_or_default from place d e below)

replay-push : (changes : List Change) (change : Change) (state : State) → replay (changes ++ change ∷ []) state ≡ after change (replay changes state)
replay-push [] change state = refl
replay-push (first ∷ changes) change state = replay-push changes change (after first state)

-- what the changes spare stays
pub after_size : (change : Change) (state : State) (size : ℕ) → end_of change ≤ size → length state.bytes ≡ size → length state.unsynced ≡ size → (length (after change state).bytes ≡ size) × (length (after change state).unsynced ≡ size)
after_size (Write at bytes) state size fits bytes_size marks_size = (
  length-put at bytes state.bytes (omega (arith, fits, bytes_size)) ∙ bytes_size,
  length-put at (replicate (length bytes) true) state.unsynced (omega (arith, fits, marks_size, length-replicate (length bytes) true)) ∙ marks_size,
)
after_size Sync state size fits bytes_size marks_size = (bytes_size, length-replicate (length state.unsynced) false ∙ marks_size)

after_spares_byte : (change : Change) (state : State) (size place : ℕ) → end_of change ≤ size → length state.bytes ≡ size → Spares place change → get_or (after change state).bytes place 0 ≡ get_or state.bytes place 0
after_spares_byte (Write at bytes) state size place fits bytes_size (inl low) = get_or-put_below at bytes state.bytes place 0 (omega (arith, fits, bytes_size)) low
after_spares_byte (Write at bytes) state size place fits bytes_size (inr high) = get_or-put_above at bytes state.bytes place 0 (omega (arith, fits, bytes_size)) high
after_spares_byte Sync state size place fits bytes_size spares = refl

after_spares_mark : (change : Change) (state : State) (size place : ℕ) → end_of change ≤ size → length state.unsynced ≡ size → Spares place change → get_or state.unsynced place false ≡ false → get_or (after change state).unsynced place false ≡ false
after_spares_mark (Write at bytes) state size place fits marks_size (inl low) none = get_or-put_below at (replicate (length bytes) true) state.unsynced place false (omega (arith, fits, marks_size)) low ∙ none
after_spares_mark (Write at bytes) state size place fits marks_size (inr high) none = get_or-put_above at (replicate (length bytes) true) state.unsynced place false (omega (arith, fits, marks_size, length-replicate (length bytes) true)) (omega (arith, high, length-replicate (length bytes) true)) ∙ none
after_spares_mark Sync state size place fits marks_size spares none = get_or-false (length state.unsynced) place

fit_rest : (size : ℕ) (change : Change) (changes : List Change) → AllFit size (change ∷ changes) → AllFit size changes
fit_rest size change changes fit k below = fit (suc k) (omega (arith, below))

spared_rest : (change : Change) (changes : List Change) (place : ℕ) → SparedBy (length (change ∷ changes)) (change ∷ changes) place → SparedBy (length changes) changes place
spared_rest change changes place spared k below = spared (suc k) (omega (arith, below))

replayed_byte : (changes : List Change) (state : State) (size place : ℕ) → AllFit size changes → length state.bytes ≡ size → length state.unsynced ≡ size → SparedBy (length changes) changes place → get_or (replay changes state).bytes place 0 ≡ get_or state.bytes place 0
replayed_byte [] state size place fit bytes_size marks_size spared = refl
replayed_byte (change ∷ changes) state size place fit bytes_size marks_size spared =
    let sizes = after_size change state size (fit 0 (omega arith)) bytes_size marks_size in
    replayed_byte changes (after change state) size place (fit_rest size change changes fit) sizes.0 sizes.1 (spared_rest change changes place spared)
    ∙ after_spares_byte change state size place (fit 0 (omega arith)) bytes_size (spared 0 (omega arith))

replayed_mark : (changes : List Change) (state : State) (size place : ℕ) → AllFit size changes → length state.bytes ≡ size → length state.unsynced ≡ size → SparedBy (length changes) changes place → get_or state.unsynced place false ≡ false → get_or (replay changes state).unsynced place false ≡ false
replayed_mark [] state size place fit bytes_size marks_size spared none = none
replayed_mark (change ∷ changes) state size place fit bytes_size marks_size spared none =
    let sizes = after_size change state size (fit 0 (omega arith)) bytes_size marks_size in
    replayed_mark changes (after change state) size place (fit_rest size change changes fit) sizes.0 sizes.1 (spared_rest change changes place spared)
    (after_spares_mark change state size place (fit 0 (omega arith)) marks_size (spared 0 (omega arith)) none)

-- A disk differs from what it was at the named moment where the changes wrote, and where something was unsynced then.
pub near_named : (changes : List Change) (named now : State) (dirty : Span) → (replay changes named).bytes ≡ now.bytes → (replay changes named).unsynced ≡ now.unsynced
    → AllFit (length now.bytes) changes → length named.bytes ≡ length now.bytes → length named.unsynced ≡ length now.bytes → length now.unsynced ≡ length now.bytes
    → ((place : ℕ) → Outside dirty place → get_or named.unsynced place false ≡ false) → Near changes dirty named now
near_named changes named now dirty bytes marks fit size marks_size now_size covered = record {
  size = size;
  unsynced_size = marks_size ∙ sym now_size;
  bytes = λ place spared outside. sym (ap (λ (l : List ℕ). get_or l place 0) (sym bytes) ∙ replayed_byte changes named (length now.bytes) place fit size marks_size spared);
  unsynced = λ place spared outside. covered place outside
      ∙ sym (ap (λ (l : List Bool). get_or l place false) (sym marks) ∙ replayed_mark changes named (length now.bytes) place fit size marks_size spared (covered place outside));
}

-- a change more lies in the disk
pub fit_more : (size : ℕ) (changes : List Change) (change : Change) → AllFit size changes → end_of change ≤ size → AllFit size (changes ++ change ∷ [])
fit_more size changes change fit last k below = ⊎_elim
    (λ (early : k < length changes). subst (λ (c : Change). end_of c ≤ size) (sym (get_or_append_left changes (change ∷ []) Sync k early)) (fit k early))
    (λ (late : length changes ≤ k).
    let here : k - length changes ≡ 0 = omega (arith, late, below, length-append changes (change ∷ [])) in
    subst (λ (c : Change). end_of c ≤ size) (sym (get_or-append_right changes (change ∷ []) (length changes) k Sync refl late ∙ ap (λ (i : ℕ). get_or (change ∷ []) i Sync) here)) last)
    (cases_lt k (length changes))

module _ (named : State) (changes : List Change) (change : Change) (now : State)
    (bytes : (replay changes named).bytes ≡ now.bytes) (marks : (replay changes named).unsynced ≡ now.unsynced) where
  pub bytes_more : (replay (changes ++ change ∷ []) named).bytes ≡ (after change now).bytes
  bytes_more = ap (λ (s : State). s.bytes) (replay-push changes change named) ∙ (λ i. (after change (record { bytes = bytes i; unsynced = marks i })).bytes)

  pub unsynced_more : (replay (changes ++ change ∷ []) named).unsynced ≡ (after change now).unsynced
  unsynced_more = ap (λ (s : State). s.unsynced) (replay-push changes change named) ∙ (λ i. (after change (record { bytes = bytes i; unsynced = marks i })).unsynced)

  pub elapses : Elapses (length changes) (length (changes ++ change ∷ [])) (MightHaveLeft named changes) (MightHaveLeft named (changes ++ change ∷ [])) (MayLeave (after change now))
  elapses = record {
    later = omega (arith, length-append changes (change ∷ []));
    nothing_else = λ since image early left. ⊎_elim
        (λ (old : left.0 ≤ length changes). inl (left.0, left.1, old, subst (λ (l : List Change). MayLeave (replay l named) image) (take-append-le left.0 changes (change ∷ []) old) left.3))
        (λ (new : length changes < left.0).
        let more : length (changes ++ change ∷ []) ≡ length changes + 1 = length-append changes (change ∷ []) in
        let same : left.0 ≡ length (changes ++ change ∷ []) = omega (arith, new, left.2, more) in
        let whole : take left.0 (changes ++ change ∷ []) ≡ changes ++ change ∷ [] = ap (λ (m : ℕ). take m (changes ++ change ∷ [])) same ∙ take-length (changes ++ change ∷ []) in
        inr (same_state _ (after change now) image bytes_more unsynced_more (subst (λ (l : List Change). MayLeave (replay l named) image) whole left.3)))
        (split left.0);
    keeps = λ since image early left. (
      left.0,
      left.1,
      omega (arith, left.2, length-append changes (change ∷ [])),
      subst (λ (l : List Change). MayLeave (replay l named) image) (sym (take-append-le left.0 changes (change ∷ []) left.2)) left.3,
    );
  }
    where
      split : (moment : ℕ) → (moment ≤ length changes) ⊎ (length changes < moment)
      split moment = ⊎_elim (λ (new : length changes < moment). inr new) (λ (old : moment ≤ length changes). inl old) (cases_lt (length changes) moment)

-- a write comes
pub torn_by_write : (at : ℕ) (bytes : List ℕ) (old : State) (image : List ℕ) → at + length bytes ≤ length old.bytes → length old.unsynced ≡ length old.bytes
    → MayLeave (after (Write at bytes) old) image → (before : List ℕ) × MayLeave old before × Torn at (length bytes) before image
torn_by_write at bytes old image fits marks_size left =
    (put at range image, was, torn)
  where
    size : length image ≡ length old.bytes
    size = left.size ∙ length-put at bytes old.bytes fits

    range : List ℕ
    range = part at (length bytes) old.bytes

    range_size : length range ≡ length bytes
    range_size = length-part at (length bytes) old.bytes fits

    trues : List Bool
    trues = replicate (length bytes) true

    trues_size : length trues ≡ length bytes
    trues_size = length-replicate (length bytes) true

    unmarked : (i : ℕ) → get_or (put at trues old.unsynced) i false ≡ false → get_or image i 0 ≡ get_or (put at bytes old.bytes) i 0
    unmarked = left.stays

    was : MayLeave old (put at range image)
    was = record {
      size = length-put at range image (omega (arith, range_size, size, fits)) ∙ size;
      stays = λ i synced. ⊎_elim
          (λ (low : i < at).
          get_or-put_below at range image i 0 (omega (arith, size, fits)) low
          ∙ unmarked i (get_or-put_below at trues old.unsynced i false (omega (arith, marks_size, fits)) low ∙ synced)
          ∙ get_or-put_below at bytes old.bytes i 0 (omega arith) low)
          (λ (high : at ≤ i). ⊎_elim
          (λ (inner : i - at < length bytes).
          let here : i ≡ at + (i - at) = omega (arith, high) in
          ap (λ (k : ℕ). get_or (put at range image) k 0) here
          ∙ get_or-put at range image (i - at) 0 (omega (arith, size, fits)) (omega (arith, inner, range_size))
          ∙ get_or-part at (length bytes) old.bytes (i - at) 0 inner
          ∙ ap (λ (k : ℕ). get_or old.bytes k 0) (sym here))
          (λ (outer : length bytes ≤ i - at).
          get_or-put_above at range image i 0 (omega (arith, range_size, size, fits)) (omega (arith, range_size, high, outer))
          ∙ unmarked i (get_or-put_above at trues old.unsynced i false (omega (arith, trues_size, marks_size, fits)) (omega (arith, trues_size, high, outer)) ∙ synced)
          ∙ get_or-put_above at bytes old.bytes i 0 fits (omega (arith, high, outer)))
          (cases_lt (i - at) (length bytes)))
          (cases_lt i at);
    }

    torn : Torn at (length bytes) (put at range image) image
    torn = record {
      size = sym (length-put at range image (omega (arith, range_size, size, fits)));
      below = λ i low. sym (get_or-put_below at range image i 0 (omega (arith, size, fits)) low);
      above = λ i high. sym (get_or-put_above at range image i 0 (omega (arith, range_size, size, fits)) (omega (arith, range_size, high)));
    }

-- nothing is unsynced
pub only_seen : (state : State) (bytes : List ℕ) (n : ℕ) → state.bytes ≡ bytes → state.unsynced ≡ replicate n false → Only (Some bytes) (MayLeave state)
only_seen state bytes n same none image left = ap Some (sym (same_lists image bytes (left.size ∙ ap length same) (λ k d below.
    let inside : k < length bytes = omega (arith, below, left.size, ap length same) in
    get_or_default image k d 0 below ∙ left.stays k (ap (λ (l : List Bool). get_or l k false) none ∙ get_or-false n k) ∙ ap (λ (l : List ℕ). get_or l k 0) same ∙ get_or_default bytes k 0 d inside)))

-- a crash left what it may leave, and then all is synced
module _ (old settled now : State) (left : MayLeave old settled.bytes) (marks_size : length old.unsynced ≡ length old.bytes)
    (marks_is : settled.unsynced ≡ old.unsynced) (now_is : now ≡ after Sync settled) where
  crashed_bytes : now.bytes ≡ settled.bytes
  crashed_bytes = ap (λ (s : State). s.bytes) now_is

  pub crashed_marks : now.unsynced ≡ replicate (length old.unsynced) false
  crashed_marks = ap (λ (s : State). s.unsynced) now_is ∙ ap (λ (l : List Bool). replicate (length l) false) marks_is

  pub crashed_size : length now.bytes ≡ length old.bytes
  crashed_size = ap length crashed_bytes ∙ left.size

  pub crashed_marks_size : length now.unsynced ≡ length now.bytes
  crashed_marks_size = ap length crashed_marks ∙ length-replicate (length old.unsynced) false ∙ marks_size ∙ sym crashed_size

  pub crashed_synced : (synced : List ℕ) → synced ≡ settled.bytes → record { marks = now.unsynced; synced = synced } ≡ all_synced now.bytes
  crashed_synced synced same =
      let marks : now.unsynced ≡ replicate (length now.bytes) false = crashed_marks ∙ ap (λ (n : ℕ). replicate n false) (marks_size ∙ sym crashed_size) in
      let bytes : synced ≡ now.bytes = same ∙ sym crashed_bytes in
      λ i. record { marks = marks i; synced = bytes i }

  pub near_crashed : (changes : List Change) (dirty : Span) (named : State) → named ≡ old → ((place : ℕ) → Outside dirty place → get_or old.unsynced place false ≡ false) → Near changes dirty named now
  near_crashed changes dirty named named_is covered = record {
    size = ap (λ (s : State). length s.bytes) named_is ∙ sym crashed_size;
    unsynced_size = ap (λ (s : State). length s.unsynced) named_is ∙ marks_size ∙ sym crashed_size ∙ sym crashed_marks_size;
    bytes = λ place spared outside. ap (λ (s : State). get_or s.bytes place 0) named_is
        ∙ sym (ap (λ (l : List ℕ). get_or l place 0) crashed_bytes ∙ left.stays place (covered place outside));
    unsynced = λ place spared outside. ap (λ (s : State). get_or s.unsynced place false) named_is ∙ covered place outside
        ∙ sym (ap (λ (l : List Bool). get_or l place false) crashed_marks ∙ get_or-false (length old.unsynced) place);
  }
