-- Moments of a disk as moments of a store.
use Rattle.std.proofs.Common.{true, [], ◌∷◌, map, ◌++◌, drop, set, add-zero, take-append-drop, ◌≡◌, inl, inr, ⊎_elim, ℕ, ◌+◌, ◌<◌, ◌≤◌, List, length, get_or, take, zero, suc, false, refl, sym, ◌∙◌, ap, subst, arith, Result, Ok, Err}
use Rattle.std.proofs.lemmas.Bool.Decides.{nat_tests}
use Rattle.std.proofs.lemmas.List.{append-nil, nil_from_length, set-get_or}
use Rattle.std.specs.Prelude.{◌^◌, ◌==◌, Option, Some, None, IfSome, IsOk}
use Rattle.std.specs.Option.{option_and_then, option_map}
use Rattle.std.specs.Result.{is_ok, result_ok}
use Rattle.sd_outside.specs.Ranges.{part, put}
use Rattle.sd_outside.specs.Disk.{LeavesOnly, Elapses}
use Rattle.sd_outside.specs.DiskPlan.{Both}
use Rattle.sd_stable_disk.specs.Image.{sizes_told, entry_told, files_of, if_ok, entry_bytes, home_of, homes, rounded, total, written, opens, held}
use Rattle.sd_stable_disk.specs.Run.{MidWrite, Midway, gated}
use Rattle.sd_stable_disk.specs.Files.{Stored, held_since, IsEither, OpensAs, TellsSizes, IsShut, IsRefused}
use Rattle.sd_stable_disk.specs.declared.errors.OpenError.TheVariants.{Damaged}
use Rattle.sd_stable_disk.specs.declared.errors.OpenError.{OpenError}
use Rattle.sd_stable_disk.proofs.EntryLaws.{part-part}
use Rattle.sd_outside.proofs.RangeLaws.{length-part}
use Rattle.sd_stable_disk.proofs.HeadLaws.{rounded_more, home_of_fits, told_short}
use Rattle.sd_stable_disk.proofs.ImageLaws.{homes_at}
use Rattle.sd_stable_disk.proofs.CrashLaws.{AtRest, Waits, with_gate, with_entry, opens_open, opens_shut, opens_waiting, while_journal, while_gate, same_homes, while_home, after_home, home_done, journal_done}

-- one run after another
pub leaves_then : {D A : Type 0} (moment : D → ℕ) (left_since : D → ℕ → A → Type 0) (a b c : D) (P Q R : A → Type 0)
    → LeavesOnly moment left_since a b P → LeavesOnly moment left_since b c Q → ((left : A) → P left → R left) → ((left : A) → Q left → R left) → LeavesOnly moment left_since a c R
leaves_then moment left_since a b c P Q R first second p q = record {
  later = omega (arith, first.later, second.later);
  each = λ left since. ⊎_elim (λ was. p left (first.each left was)) (q left) (second.before (moment a) left first.later since);
  before = λ t left early since. ⊎_elim
      (λ was. ⊎_elim (λ older. inl older) (λ now. inr (p left now)) (first.before t left early was))
      (λ now. inr (q left now))
      (second.before t left (omega (arith, early, first.later)) since);
}

-- what an image holds, in place of the image
pub leaves_held : {D : Type 0} (moment : D → ℕ) (left_since : D → ℕ → List ℕ → Type 0) (old new : Stored D) (P : List ℕ → Type 0) (Q : Option (List (List ℕ)) → Type 0)
    → LeavesOnly moment left_since old.disk new.disk P → ((image : List ℕ) → P image → Q (held image)) → LeavesOnly (λ (store : Stored D). moment store.disk) (held_since left_since) old new Q
leaves_held moment left_since old new P Q leaves q = record {
  later = leaves.later;
  each = λ left since. subst Q since.2 (q since.0 (leaves.each since.0 since.1));
  before = λ t left early since. ⊎_elim
      (λ was. inl (since.0, was, since.2))
      (λ now. inr (subst Q since.2 (q since.0 now)))
      (leaves.before t since.0 early since.1);
}

abbrev pub held_in : Option (List ℕ) → Option (List (List ℕ))
held_in seen = option_and_then held seen

pub told_by : (o : Option (List ℕ)) (sizes : List ℕ) (n : ℕ) → ((image : List ℕ) → o ≡ Some image → length image ≡ n) → n ≡ 16384 + total sizes → TellsSizes o sizes → IsShut o → IfSome o (AtRest sizes)
told_by None sizes n long whole told shut = tt
told_by (Some image) sizes n long whole told shut = record { told = told; shut = shut; whole = long image refl ∙ whole }

pub rest_shut : (o : Option (List ℕ)) (sizes : List ℕ) → IfSome o (AtRest sizes) → IsShut o
rest_shut None sizes rest = tt
rest_shut (Some image) sizes rest = rest.shut

pub rest_told : (o : Option (List ℕ)) (sizes : List ℕ) → IfSome o (AtRest sizes) → TellsSizes o sizes
rest_told None sizes rest = tt
rest_told (Some image) sizes rest = rest.told

pub rest_readable : (o : Option (List ℕ)) (sizes : List ℕ) → IfSome o (AtRest sizes) → IfSome o (λ image. IsOk (opens image))
rest_readable None sizes rest = tt
rest_readable (Some image) sizes rest = ap is_ok (opens_shut sizes image rest.told rest.shut)

-- what is left of a store while its journal is written
pub record Midst (sizes : List ℕ) (file at : ℕ) (bytes : List ℕ) (old : Option (List (List ℕ))) (image : List ℕ) : Type 0 where
  pub told : sizes_told (length image) (part 0 512 image) ≡ Ok sizes
  pub readable : IsOk (opens image)
  pub either : IsEither file at bytes old (held image)

module _ (sizes : List ℕ) (file at : ℕ) (bytes : List ℕ) (below : file < length sizes) (inside : at + length bytes ≤ get_or sizes file 0)
    (small_file : file < 2 ^ 32) (small_at : at < 2 ^ 64) (some : 0 < length bytes) (short : length bytes ≤ 8192) where
  midst : (image new : List ℕ) → AtRest sizes image → MidWrite 1024 (entry_bytes file at bytes) image new → Midst sizes file at bytes (held image) new
  midst image new rest (inl torn) =
      let left = while_journal sizes file at bytes below inside small_file small_at some short image rest new torn in
      record {
        told = left.0.told;
        readable = ap is_ok (opens_shut sizes new left.0.told left.0.shut);
        either = inl (ap result_ok left.1);
      }
  midst image new rest (inr torn) = elim (while_gate sizes file at bytes below inside small_file small_at some short image rest new torn) [
    | inl left ↦ record {
      told = left.0.told;
      readable = ap is_ok (opens_shut sizes new left.0.told left.0.shut);
      either = inl (ap result_ok left.1);
    }
    | inr waits ↦
        let now = opens_waiting sizes file at bytes below inside short new waits in
        let was = opens_shut sizes image rest.told rest.shut in
        record {
          told = waits.told;
          readable = ap is_ok now;
          either = inr (ap result_ok now ∙ ap (λ (fs : List (List ℕ)). Some (written file at bytes fs)) (same_homes sizes file at bytes below inside small_file small_at some short image rest new torn)
              ∙ sym (ap (λ r. option_map (written file at bytes) (result_ok r)) was));
        }
  ]

  -- a read after a journal that failed
  pub journal_seen : (o p : Option (List ℕ)) → IfSome o (AtRest sizes) → Both (MidWrite 1024 (entry_bytes file at bytes)) o p → IfSome p (Midst sizes file at bytes (held_in o))
  journal_seen None None rest both = tt
  journal_seen None (Some new) rest both = absurd both
  journal_seen (Some image) None rest both = absurd both
  journal_seen (Some image) (Some new) rest both = midst image new rest both

  -- a crash in it
  pub journal_crash : (o : Option (List ℕ)) (new : List ℕ) → IfSome o (AtRest sizes) → Midway 1024 (entry_bytes file at bytes) o new → IsEither file at bytes (held_in o) (held new)
  journal_crash None new rest midway = absurd midway
  journal_crash (Some image) new rest midway = (midst image new rest midway).either

  -- a journal that is whole
  pub journal_whole : (o p : Option (List ℕ)) → IfSome o (AtRest sizes) → p ≡ option_map (gated 1024 (entry_bytes file at bytes) 1) o
      → IfSome p (Waits sizes file at bytes) × (held_in p ≡ option_map (written file at bytes) (held_in o))
  journal_whole None p rest is = (subst (λ (q : Option (List ℕ)). IfSome q (Waits sizes file at bytes)) (sym is) tt, ap held_in is)
  journal_whole (Some image) p rest is =
      let done = journal_done sizes file at bytes below inside small_file small_at some short image rest in
      let now = opens_waiting sizes file at bytes below inside short (gated 1024 (entry_bytes file at bytes) 1 image) done.0 in
      let was = opens_shut sizes image rest.told rest.shut in (
        subst (λ (q : Option (List ℕ)). IfSome q (Waits sizes file at bytes)) (sym is) done.0,
        ap held_in is ∙ ap result_ok now ∙ ap (λ (fs : List (List ℕ)). Some (written file at bytes fs)) done.1 ∙ sym (ap (λ r. option_map (written file at bytes) (result_ok r)) was),
      )

module _ (sizes : List ℕ) (file at : ℕ) (bytes : List ℕ) (below : file < length sizes) (inside : at + length bytes ≤ get_or sizes file 0) (short : length bytes ≤ 8192) where
  homeward : (image new : List ℕ) → Waits sizes file at bytes image → MidWrite (home_of 16384 sizes file + at) bytes image new
      → (sizes_told (length new) (part 0 512 new) ≡ Ok sizes) × (opens new ≡ opens image)
  homeward image new waits (inl torn) =
      let left = while_home sizes file at bytes below inside short image waits new torn in (left.0.told, left.1)
  homeward image new waits (inr torn) =
      let left = after_home sizes file at bytes below inside short image waits new torn in (left.0, left.2)

  waits_readable : (image : List ℕ) → Waits sizes file at bytes image → IsOk (opens image)
  waits_readable image waits = ap is_ok (opens_waiting sizes file at bytes below inside short image waits)

  -- a read after a way home that failed
  pub home_seen : (o p : Option (List ℕ)) → IfSome o (Waits sizes file at bytes) → Both (MidWrite (home_of 16384 sizes file + at) bytes) o p
      → TellsSizes p sizes × IfSome p (λ image. IsOk (opens image)) × (option_map opens p ≡ option_map opens o)
  home_seen None None waits both = (tt, tt, refl)
  home_seen None (Some new) waits both = absurd both
  home_seen (Some image) None waits both = absurd both
  home_seen (Some image) (Some new) waits both =
      let left = homeward image new waits both in
      (left.0, subst (λ r. IsOk r) (sym left.1) (waits_readable image waits), ap Some left.1)

  pub home_crash : (o : Option (List ℕ)) (new : List ℕ) → IfSome o (Waits sizes file at bytes) → Midway (home_of 16384 sizes file + at) bytes o new → OpensAs o new
  home_crash None new waits midway = absurd midway
  home_crash (Some image) new waits midway = (homeward image new waits midway).1

  pub home_whole : (o p : Option (List ℕ)) → IfSome o (Waits sizes file at bytes) → p ≡ option_map (gated (home_of 16384 sizes file + at) bytes 0) o
      → IfSome p (AtRest sizes) × (option_map opens p ≡ option_map opens o)
  home_whole None p waits is = (subst (λ (q : Option (List ℕ)). IfSome q (AtRest sizes)) (sym is) tt, ap (option_map opens) is)
  home_whole (Some image) p waits is =
      let done = home_done sizes file at bytes below inside short image waits in
      (subst (λ (q : Option (List ℕ)). IfSome q (AtRest sizes)) (sym is) done.0, ap (option_map opens) is ∙ ap Some done.1)

-- the same files, where an image opens the same
files_told : Option (Result (List (List ℕ)) OpenError) → Option (List (List ℕ))
files_told opened = option_and_then result_ok opened

pub same_held : (o p : Option (List ℕ)) → option_map opens p ≡ option_map opens o → held_in p ≡ held_in o
unfolding files_told
same_held None None same = refl
same_held None (Some new) same = absurd (cc same)
same_held (Some image) None same = absurd (cc same)
same_held (Some image) (Some new) same = ap files_told same

pub opens_held : (o : Option (List ℕ)) (new : List ℕ) → OpensAs o new → held new ≡ held_in o
opens_held None new opens_as = absurd opens_as
opens_held (Some image) new opens_as = ap result_ok opens_as

pub midst_told : (o : Option (List ℕ)) (sizes : List ℕ) (file at : ℕ) (bytes : List ℕ) (old : Option (List (List ℕ))) → IfSome o (Midst sizes file at bytes old) → TellsSizes o sizes
midst_told None sizes file at bytes old midst = tt
midst_told (Some image) sizes file at bytes old midst = midst.told

pub midst_readable : (o : Option (List ℕ)) (sizes : List ℕ) (file at : ℕ) (bytes : List ℕ) (old : Option (List (List ℕ))) → IfSome o (Midst sizes file at bytes old) → IfSome o (λ image. IsOk (opens image))
midst_readable None sizes file at bytes old midst = tt
midst_readable (Some image) sizes file at bytes old midst = midst.readable

-- where nothing is told before, nothing is told after
pub midst_either : (o p : Option (List ℕ)) (sizes : List ℕ) (file at : ℕ) (bytes : List ℕ) → Both (MidWrite 1024 (entry_bytes file at bytes)) o p → IfSome p (Midst sizes file at bytes (held_in o)) → IsEither file at bytes (held_in o) (held_in p)
midst_either None None sizes file at bytes both midst = inl refl
midst_either None (Some new) sizes file at bytes both midst = absurd both
midst_either (Some image) None sizes file at bytes both midst = absurd both
midst_either (Some image) (Some new) sizes file at bytes both midst = midst.either

pub some_bytes : (n : ℕ) → false ≡ (n == 0) → 0 < n
some_bytes zero none = absurd (cc none)
some_bytes (suc n) none = omega arith

-- `&xs[..n]`
pub front_is : (n : ℕ) (xs : List ℕ) → take n xs ≡ part 0 n xs
unfolding part
front_is n xs = refl

put_nothing : (at : ℕ) (xs : List ℕ) → put at [] xs ≡ xs
unfolding put
put_nothing at xs = (λ i. append-nil (take at xs) i ++ drop (add-zero at i) xs) ∙ take-append-drop at xs

pub written_nothing : (file at : ℕ) (bytes : List ℕ) (files : Option (List (List ℕ))) → length bytes ≡ 0 → option_map (written file at bytes) files ≡ files
written_nothing file at bytes None none = refl
written_nothing file at bytes (Some fs) none =
    let empty = nil_from_length bytes none in
    (λ i. Some (written file at (empty i) fs)) ∙ ap (λ (x : List ℕ). Some (set fs file x)) (put_nothing at (get_or fs file [])) ∙ ap Some (set-get_or fs file [])

pub no_bytes : (n : ℕ) → true ≡ (n == 0) → n ≡ 0
no_bytes n none = grind (arith, nat_tests)

-- what was read of a gate
pub shut_read : (o : Option (List ℕ)) (gate : List ℕ) → IfSome o (λ image. gate ≡ part 512 1 image) → (get_or gate 0 0 ≡ 1 → ⊥) → IsShut o
shut_read None gate read other = tt
shut_read (Some image) gate read other = not_one (get_or (part 512 1 image) 0 0) (λ one. other (ap (λ (l : List ℕ). get_or l 0 0) read ∙ one))
  where
    not_one : (n : ℕ) → (n ≡ 1 → ⊥) → (n == 1) ≡ false
    not_one n other = grind (arith, nat_tests)

is_one : (n : ℕ) → n ≡ 1 → (n == 1) ≡ true
is_one n one = grind (arith, nat_tests)

-- nothing waits
pub rest_read : (o : Option (List ℕ)) (sizes : List ℕ) (gate : List ℕ) → TellsSizes o sizes → IfSome o (λ image. gate ≡ part 512 1 image) → (get_or gate 0 0 ≡ 1 → ⊥) → IfSome o (λ image. IsOk (opens image))
rest_read None sizes gate told read other = tt
rest_read (Some image) sizes gate told read other = ap is_ok (opens_shut sizes image told (shut_read (Some image) gate read other))

-- something waits, and is refused
pub refused_read : (o : Option (List ℕ)) (sizes gate head : List ℕ) (error : OpenError) → TellsSizes o sizes → IfSome o (λ image. gate ≡ part 512 1 image) → get_or gate 0 0 ≡ 1
    → IfSome o (λ image. head ≡ part 1024 16 image) → entry_told sizes head ≡ Err error → IfSome o (λ image. opens image ≡ Err error)
refused_read None sizes gate head error told gate_read one head_read refused = tt
refused_read (Some image) sizes gate head error told gate_read one head_read refused =
    ap (λ r. if_ok r (files_of image)) told
    ∙ ap (with_gate sizes image) (is_one (get_or (part 512 1 image) 0 0) (sym (ap (λ (l : List ℕ). get_or l 0 0) gate_read) ∙ one))
    ∙ ap (with_entry sizes image) (ap (entry_told sizes) (sym head_read) ∙ refused)

pub is_refused : (o : Option (List ℕ)) (place : ℕ) (error : OpenError) → error ≡ Damaged place → IfSome o (λ image. opens image ≡ Err error) → IsRefused o error
is_refused o place error is refused = subst (IsRefused o) (sym is) (subst (λ e. IfSome o (λ image. opens image ≡ Err e)) is refused)

-- something waits
pub waits_read : (o : Option (List ℕ)) (sizes gate head bytes : List ℕ) (file at len n : ℕ) → TellsSizes o sizes → IfSome o (λ image. gate ≡ part 512 1 image) → get_or gate 0 0 ≡ 1
    → IfSome o (λ image. head ≡ part 1024 16 image) → entry_told sizes head ≡ Ok (record { file = file; at = at; len = len }) → IfSome o (λ image. bytes ≡ part 1088 n image) → length bytes ≡ len → n ≡ len
    → ((image : List ℕ) → o ≡ Some image → length image ≡ 16384 + total sizes) → IfSome o (Waits sizes file at bytes)
waits_read None sizes gate head bytes file at len n told gate_read one head_read entry bytes_read size same whole = tt
waits_read (Some image) sizes gate head bytes file at len n told gate_read one head_read entry bytes_read size same whole = record {
  told = told;
  opened = is_one (get_or (part 512 1 image) 0 0) (sym (ap (λ (l : List ℕ). get_or l 0 0) gate_read) ∙ one);
  entry = ap (entry_told sizes) (sym head_read) ∙ entry ∙ (λ i. Ok (record { file = file; at = at; len = sym size i }));
  bytes_held = ap (λ (m : ℕ). part 1088 m image) (size ∙ sym same) ∙ sym bytes_read;
  whole = whole image refl;
}

pub waits_open : (o : Option (List ℕ)) (sizes : List ℕ) (file at : ℕ) (bytes : List ℕ) → IfSome o (Waits sizes file at bytes) → IfSome o (λ image. IsOk (opens image))
waits_open None sizes file at bytes waits = tt
waits_open (Some image) sizes file at bytes waits = ap is_ok (opens_open sizes image waits.told file at bytes waits.opened waits.entry waits.bytes_held)

-- each crash leaves what a read gives
pub opens_same : (o : Option (List ℕ)) (image : List ℕ) → o ≡ Some image → OpensAs o image
opens_same None image is = absurd (cc is)
opens_same (Some old) image is = ap opens (same_some old image is)
  where
    same_some : (x y : List ℕ) → Some x ≡ Some y → y ≡ x
    same_some x y is = cc

-- a run of no call, and one more
pub leaves_none : {D A : Type 0} (moment : D → ℕ) (left_since : D → ℕ → A → Type 0) (disk : D) (P : A → Type 0) → ((left : A) → left_since disk (moment disk) left → P left) → LeavesOnly moment left_since disk disk P
leaves_none moment left_since disk P here = record { later = omega arith; each = here; before = λ t left early since. inl since }

pub leaves_step : {D : Type 0} (moment : D → ℕ) (left_since : D → ℕ → List ℕ → Type 0) (a b c : D) (P may_leave : List ℕ → Type 0) → LeavesOnly moment left_since a b P
    → Elapses (moment b) (moment c) (left_since b) (left_since c) may_leave → ((image : List ℕ) → may_leave image → P image) → LeavesOnly moment left_since a c P
leaves_step moment left_since a b c P may_leave run time here = record {
  later = omega (arith, run.later, time.later);
  each = λ image since. ⊎_elim (run.each image) (here image) (time.nothing_else (moment a) image run.later since);
  before = λ t image early since. ⊎_elim (run.before t image early) (λ now. inr (here image now)) (time.nothing_else t image (omega (arith, early, run.later)) since);
}

-- what was read of a home
pub read_held : (o : Option (List ℕ)) (sizes : List ℕ) (file at n : ℕ) (into : List ℕ) → file < length sizes → at + n ≤ get_or sizes file 0 → IfSome o (AtRest sizes)
    → IfSome o (λ image. into ≡ part (home_of 16384 sizes file + at) n image) → IfSome (held_in o) (λ fs. into ≡ part at n (get_or fs file []))
read_held None sizes file at n into below inside rest read = tt
read_held (Some image) sizes file at n into below inside rest read =
    let h = home_of 16384 sizes file in
    let s = get_or sizes file 0 in
    let fits : h + s ≤ length image = omega (arith, rest.whole, home_of_fits 16384 sizes file below, rounded_more (get_or sizes file 0)) in
    subst (λ (r : Result (List (List ℕ)) OpenError). IfSome (result_ok r) (λ fs. into ≡ part at n (get_or fs file []))) (sym (opens_shut sizes image rest.told rest.shut))
    (read ∙ sym (ap (part at n) (homes_at 16384 sizes file image below) ∙ part-part h s at n image inside fits))

short_part : (from : ℕ) (xs : List ℕ) → length (part from 0 xs) ≡ 0
unfolding part
short_part from xs = refl

pub read_nothing : (files : Option (List (List ℕ))) (file at : ℕ) (into : List ℕ) → length into ≡ 0 → IfSome files (λ fs. into ≡ part at (length into) (get_or fs file []))
read_nothing None file at into none = tt
read_nothing (Some fs) file at into none = nil_from_length into none ∙ sym (ap (λ (n : ℕ). part at n (get_or fs file [])) none ∙ empty at (get_or fs file []))
  where
    empty : (from : ℕ) (xs : List ℕ) → part from 0 xs ≡ []
    empty from xs = nil_from_length (part from 0 xs) (short_part from xs)

pub refused_short : (o : Option (List ℕ)) (size : ℕ) → ((image : List ℕ) → o ≡ Some image → length image ≡ size) → size < 16384 → IsRefused o (Damaged size)
refused_short None size long short = tt
refused_short (Some image) size long short =
    ap (λ r. if_ok r (files_of image)) (told_short (length image) (part 0 512 image) (omega (arith, long image refl, short))) ∙ ap (λ (n : ℕ). Err (Damaged n)) (long image refl)

-- the sizes of the files
lengths : (base : ℕ) (sizes image : List ℕ) → base + total sizes ≤ length image → map (λ (file : List ℕ). length file) (homes base sizes image) ≡ sizes
lengths base [] image fits = refl
lengths base (size ∷ sizes) image fits =
    λ i. length-part base size image (omega (arith, fits, rounded_more size)) i ∷ lengths (base + rounded size) sizes image (omega (arith, fits)) i

pub sizes_held : (o : Option (List ℕ)) (sizes : List ℕ) → IfSome o (AtRest sizes) → IfSome (held_in o) (λ fs. sizes ≡ map (λ (file : List ℕ). length file) fs)
sizes_held None sizes rest = tt
sizes_held (Some image) sizes rest =
    subst (λ (r : Result (List (List ℕ)) OpenError). IfSome (result_ok r) (λ fs. sizes ≡ map (λ (file : List ℕ). length file) fs)) (sym (opens_shut sizes image rest.told rest.shut))
    (sym (lengths 16384 sizes image (omega (arith, rest.whole))))
