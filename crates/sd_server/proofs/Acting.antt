-- What is done to a store, by what each act says.
use Rattle.std.proofs.Common.{◌≡◌, ◌⊎◌, inl, inr, ℕ, ◌+◌, ◌≤◌, ◌<◌, Bool, true, false, List, [], ◌∷◌, length, map, Option, Some, None, refl, sym, ap, ◌∙◌, subst, arith}
use Rattle.std.specs.Prelude.{IfSome, IsSome, ◌==◌, not, slice_index}
use Rattle.std.specs.Option.{option_map}
use Rattle.std.proofs.lemmas.Bool.{false≢true}
use Rattle.sd_outside.specs.Ranges.{put}
use Rattle.sd_outside.specs.Disk.{LeavesOnly}
use Rattle.sd_outside.proofs.RangeLaws.{length-put}
use Rattle.sd_stable_disk.specs.Files.{Stored, files, may_hold, held_since, OnlyHolds, IsEither}
use Rattle.sd_stable_disk.specs.Image.{written}
use Rattle.sd_stable_disk.specs.declared.errors.OpenError.{OpenError}
use Rattle.sd_services.specs.Part.{Change}
use Rattle.sd_services.specs.NfsReply.{changed, file_in, swap_file}
use Rattle.sd_nfs_server.specs.declared.acts.Acted.{Acted}
use Rattle.sd_nfs_server.specs.Acts.{is_done, is_refused, LeavesOneDoubt}
use Rattle.sd_nfs_server.proofs.Storing.{leaves_weaker}
use Rattle.sd_server.specs.Access.{Done, StaysDown, ReadFails, WriteFails, Acts, done, stays_down, read_fails, write_fails, IsChanged, ActLeaves}

same_files : (o : Option (List (List ℕ))) → o ≡ option_map (changed None) o
same_files None = refl
same_files (Some stored) = refl

is_up : (b : Bool) → (b ≡ false → ⊥) → b ≡ true
is_up true h = refl
is_up false h = absurd (h refl)

is_down : (b : Bool) → (b ≡ true → ⊥) → b ≡ false
is_down true h = absurd (h refl)
is_down false h = refl

turned : (up refused : Bool) (b : Bool) → up ≡ not refused → up ≡ b → refused ≡ not b
turned up true b is so = (λ i. not (sym is i)) ∙ ap not so
turned up false b is so = (λ i. not (sym is i)) ∙ ap not so

by_up : {P : Type 0} (b : Bool) → (b ≡ true → P) → (b ≡ false → P) → P
by_up true t f = t refl
by_up false t f = f refl

-- what was refused was down
was_down : (up : Bool) (refusal : Option OpenError) → is_refused up refusal ≡ true → up ≡ false
was_down true refusal e = absurd (false≢true e)
was_down false refusal e = refl

module _ {D : Type 0} (seen : D → Option (List ℕ)) (may_leave : D → List ℕ → Type 0) (old new : Stored D) where
  status_by : (acted : Acted) (change : Option Change) → (acted.status ≡ 0) ⊎ (acted.status ≡ 5) → (acted.status ≡ 0 → Acts seen may_leave change old new 0) → (acted.status ≡ 5 → Acts seen may_leave change old new 5)
      → Acts seen may_leave change old new acted.status
  status_by acted change (inl zero_is) a b = subst (Acts seen may_leave change old new) (sym zero_is) (a zero_is)
  status_by acted change (inr five_is) a b = subst (Acts seen may_leave change old new) (sym five_is) (b five_is)

  pub brought_up : (acted : Acted) → (acted.status ≡ 0) ⊎ (acted.status ≡ 5) → new.up ≡ is_done acted → (old.up ≡ true → new ≡ old) → files seen new ≡ files seen old
      → (old.up ≡ false → acted.status ≡ 0 → OnlyHolds (files seen new) (may_hold may_leave new))
      → ((left : Option (List (List ℕ))) → may_hold may_leave new left → may_hold may_leave old left ⊎ (left ≡ files seen old))
      → new.up ≡ not (is_refused old.up new.refusal)
      → Acts seen may_leave None old new acted.status
  brought_up acted which up kept same durable leaves came = status_by acted None which
      (λ zero_is. done (record {
        up = up ∙ ap (λ (n : ℕ). n == 0) zero_is;
        came_up = turned new.up (is_refused old.up new.refusal) true came (up ∙ ap (λ (n : ℕ). n == 0) zero_is);
        files_are = same ∙ same_files (files seen old);
        durable = by_up old.up (λ u. inl (u, kept u)) (λ d. inr (durable d zero_is));
      }))
      (λ five_is.
      let down : new.up ≡ false = up ∙ ap (λ (n : ℕ). n == 0) five_is in
      stays_down (record {
        was = is_down old.up (λ u. false≢true (sym down ∙ ap (λ (s : Stored D). s.up) (kept u) ∙ u));
        refused = turned new.up (is_refused old.up new.refusal) false came down;
        down = down;
        files_are = same;
        leaves = leaves;
      }))

  pub did_read : (acted : Acted) → (acted.status ≡ 0) ⊎ (acted.status ≡ 5) → (acted.status ≡ 0 → new.up ≡ true) → new.up ≡ not (is_refused old.up new.refusal) → files seen new ≡ files seen old
      → (new.up ≡ true → OnlyHolds (files seen old) (may_hold may_leave new))
      → ((left : Option (List (List ℕ))) → may_hold may_leave new left → may_hold may_leave old left ⊎ (left ≡ files seen old))
      → Acts seen may_leave None old new acted.status
  did_read acted which up came same durable leaves = status_by acted None which
      (λ zero_is. done (record {
        up = up zero_is;
        came_up = turned new.up (is_refused old.up new.refusal) true came (up zero_is);
        files_are = same ∙ same_files (files seen old);
        durable = inr (λ left held. durable (up zero_is) left held ∙ sym same);
      }))
      (λ five_is. by_up new.up
      (λ u. read_fails (record { none = refl; up = u; came_up = turned new.up (is_refused old.up new.refusal) true came u; files_are = same; durable = durable u }))
      (λ d. stays_down (record { was = was_down old.up new.refusal (turned new.up (is_refused old.up new.refusal) false came d); refused = turned new.up (is_refused old.up new.refusal) false came d; down = d; files_are = same; leaves = leaves })))

  pub did_write : (acted : Acted) (at : ℕ) (bytes : List ℕ) → (acted.status ≡ 0) ⊎ (acted.status ≡ 5) → new.up ≡ is_done acted
      → (acted.status ≡ 0 → files seen new ≡ option_map (written swap_file at bytes) (files seen old))
      → (acted.status ≡ 0 → OnlyHolds (files seen new) (may_hold may_leave new))
      → IsEither swap_file at bytes (files seen old) (files seen new)
      → (acted.status ≡ 5 → LeavesOneDoubt seen may_leave swap_file at bytes old new (is_refused old.up new.refusal))
      → (acted.status ≡ 0 → is_refused old.up new.refusal ≡ false)
      → Acts seen may_leave (Some (record { file = swap_file; at = at; bytes = bytes })) old new acted.status
  did_write acted at bytes which up files_are durable either apart came = status_by acted (Some (record { file = swap_file; at = at; bytes = bytes })) which
      (λ zero_is. done (record { up = up ∙ ap (λ (n : ℕ). n == 0) zero_is; came_up = came zero_is; files_are = files_are zero_is; durable = inr (durable zero_is) }))
      (λ five_is. of (is_refused old.up new.refusal) refl (up ∙ ap (λ (n : ℕ). n == 0) five_is) (apart five_is))
    where
      of : (refused : Bool) → is_refused old.up new.refusal ≡ refused → new.up ≡ false → LeavesOneDoubt seen may_leave swap_file at bytes old new refused
          → Acts seen may_leave (Some (record { file = swap_file; at = at; bytes = bytes })) old new 5
      of true is down x = stays_down (record { was = x.0; refused = is; down = down; files_are = x.1; leaves = x.2 })
      of false is down leaves = write_fails (record { some = refl; down = down; came_up = is; files_are = either; leaves = leaves })

-- ---- crashes

same_or : (H : Type 0) (old left : Option (List (List ℕ))) → H ⊎ (left ≡ old) → H ⊎ IsChanged None old left
same_or H old left (inl h) = inl h
same_or H old left (inr same) = inr (inl same)

pub leaves_same : {D : Type 0} (moment : D → ℕ) (seen : D → Option (List ℕ)) (may_leave : D → List ℕ → Type 0) (left_since : D → ℕ → List ℕ → Type 0) (old new : Stored D)
    → LeavesOnly (λ store. moment store.disk) (held_since left_since) old new (λ left. may_hold may_leave old left ⊎ (left ≡ files seen old)) → ActLeaves moment seen may_leave left_since None old new
leaves_same moment seen may_leave left_since old new h =
    leaves_weaker (λ store. moment store.disk) (held_since left_since) old new (λ left. may_hold may_leave old left ⊎ IsChanged None (files seen old) left) (λ left. may_hold may_leave old left ⊎ (left ≡ files seen old))
    (λ left. same_or (may_hold may_leave old left) (files seen old) left) h

-- ---- sizes

set_sized : (sizes : List ℕ) (at : ℕ) (bytes : List ℕ) (stored : List (List ℕ)) → map (λ file. length file) stored ≡ sizes → at + length bytes ≤ slice_index sizes 0
    → map (λ file. length file) (written swap_file at bytes stored) ≡ sizes
set_sized sizes at bytes [] is le = is
set_sized sizes at bytes (x ∷ xs) is le =
    let long : length x ≡ slice_index sizes 0 = ap (λ (ns : List ℕ). slice_index ns 0) is in
    ap (λ (n : ℕ). n ∷ map (λ file. length file) xs) (length-put at bytes x (omega (arith, le, long))) ∙ is

written_sized : (sizes : List ℕ) (at : ℕ) (bytes : List ℕ) (o : Option (List (List ℕ))) → at + length bytes ≤ slice_index sizes 0 → IfSome o (λ stored. map (λ file. length file) stored ≡ sizes)
    → IfSome (option_map (written swap_file at bytes) o) (λ stored. map (λ file. length file) stored ≡ sizes)
written_sized sizes at bytes None le h = tt
written_sized sizes at bytes (Some stored) le h = set_sized sizes at bytes stored h le

pub either_sized : (sizes : List ℕ) (at : ℕ) (bytes : List ℕ) (old new : Option (List (List ℕ))) → at + length bytes ≤ slice_index sizes 0 → IsEither swap_file at bytes old new
    → IfSome old (λ stored. map (λ file. length file) stored ≡ sizes) → IfSome new (λ stored. map (λ file. length file) stored ≡ sizes)
either_sized sizes at bytes old new le (inl same) h = subst (λ (o : Option (List (List ℕ))). IfSome o (λ stored. map (λ file. length file) stored ≡ sizes)) (sym same) h
either_sized sizes at bytes old new le (inr with_it) h = subst (λ (o : Option (List (List ℕ))). IfSome o (λ stored. map (λ file. length file) stored ≡ sizes)) (sym with_it) (written_sized sizes at bytes old le h)
