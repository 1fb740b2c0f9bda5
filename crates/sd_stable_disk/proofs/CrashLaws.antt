-- What an image opens as, while a journal or a home is written.
use Rattle.std.proofs.Common.{◌≡◌, ◌⊎◌, inl, inr, ℕ, ◌+◌, ◌<◌, ◌≤◌, List, [], ◌∷◌, length, get_or, sym, ◌∙◌, ap, arith, Result, Ok, Bool, true, false, if◌then◌else◌}
use Rattle.std.proofs.lemmas.Bool.{cases_Bool}
use Rattle.std.specs.Prelude.{◌^◌, ◌==◌, slice_index}
use Rattle.sd_outside.specs.Ranges.{part, put, Torn}
use Rattle.sd_outside.proofs.RangeLaws.{length-put, part-put, part-torn, put_torn}
use Rattle.sd_stable_disk.specs.Image.{sizes_told, entry_told, entry_bytes, homes, home_of, total, written, is_open, files_of, opens, if_ok, word32, word64}
use Rattle.sd_stable_disk.specs.Run.{gated}
use Rattle.sd_stable_disk.specs.declared.entry.Entry.{Entry}
use Rattle.sd_stable_disk.specs.declared.errors.OpenError.{OpenError}
use Rattle.sd_stable_disk.proofs.EntryLaws.{entry_fits, part-part, told_file, told_len, told_at, told_bytes, length-entry_bytes, word32_front, word64_front}
use Rattle.sd_stable_disk.proofs.HeadLaws.{rounded_more, home_of_after, home_of_fits}
use Rattle.sd_stable_disk.proofs.ImageLaws.{homes_apart, homes-put, written_torn, written_again}

-- nothing waits in the journal
pub record AtRest (sizes image : List ℕ) : Type 0 where
  pub told : sizes_told (length image) (part 0 512 image) ≡ Ok sizes
  pub shut : is_open image ≡ false
  pub whole : length image ≡ 16384 + total sizes

-- the gate is open before this write
pub record Waits (sizes : List ℕ) (file at : ℕ) (bytes image : List ℕ) : Type 0 where
  pub told : sizes_told (length image) (part 0 512 image) ≡ Ok sizes
  pub opened : is_open image ≡ true
  pub entry : entry_told sizes (part 1024 16 image) ≡ Ok (record { file = file; at = at; len = length bytes })
  pub bytes_held : part 1088 (length bytes) image ≡ bytes
  pub whole : length image ≡ 16384 + total sizes

abbrev pub with_gate : List ℕ → List ℕ → Bool → Result (List (List ℕ)) OpenError
with_gate sizes image b =
    if b
    then if_ok (entry_told sizes (part 1024 16 image)) (λ entry. Ok (written entry.file entry.at (part 1088 entry.len image) (homes 16384 sizes image)))
    else Ok (homes 16384 sizes image)

abbrev pub with_entry : List ℕ → List ℕ → Result Entry OpenError → Result (List (List ℕ)) OpenError
with_entry sizes image told = if_ok told (λ entry. Ok (written entry.file entry.at (part 1088 entry.len image) (homes 16384 sizes image)))

module _ (sizes image : List ℕ) (told : sizes_told (length image) (part 0 512 image) ≡ Ok sizes) where
  -- a shut gate: the homes
  pub opens_shut : is_open image ≡ false → opens image ≡ Ok (homes 16384 sizes image)
  opens_shut shut = ap (λ r. if_ok r (files_of image)) told ∙ ap (with_gate sizes image) shut

  -- an open one: the homes under a write
  pub opens_open : (file at : ℕ) (bytes : List ℕ) → is_open image ≡ true → entry_told sizes (part 1024 16 image) ≡ Ok (record { file = file; at = at; len = length bytes }) → part 1088 (length bytes) image ≡ bytes
      → opens image ≡ Ok (written file at bytes (homes 16384 sizes image))
  opens_open file at bytes opened entry held =
      ap (λ r. if_ok r (files_of image)) told ∙ ap (with_gate sizes image) opened ∙ ap (with_entry sizes image) entry
      ∙ ap (λ (b : List ℕ). Ok (written file at b (homes 16384 sizes image))) held

  -- a change behind the head
  pub told_behind : {at n : ℕ} {new : List ℕ} → Torn at n image new → 512 ≤ at → 16384 ≤ length image → sizes_told (length new) (part 0 512 new) ≡ Ok sizes
  told_behind torn behind long = (λ i. sizes_told (torn.size i) (part-torn torn 0 512 (omega (arith, long)) (inl (omega (arith, behind))) i)) ∙ told

-- the gate, apart from what is torn
gate_apart : {at n : ℕ} {old new : List ℕ} → Torn at n old new → 513 ≤ at → 16384 ≤ length old → is_open new ≡ is_open old
gate_apart torn behind long = ap (λ (l : List ℕ). slice_index l 0 == 1) (part-torn torn 512 1 (omega (arith, long)) (inl (omega (arith, behind))))

gate_set : (gate : ℕ) (image : List ℕ) → 16384 ≤ length image → is_open (put 512 (gate ∷ []) image) ≡ (gate == 1)
gate_set gate image long = ap (λ (l : List ℕ). slice_index l 0 == 1) (part-put 512 (gate ∷ []) image (omega (arith, long)))

module _ (sizes : List ℕ) (file at : ℕ) (bytes : List ℕ) (below : file < length sizes) (inside : at + length bytes ≤ get_or sizes file 0) (short : length bytes ≤ 8192) where
  -- the gate is open, and the home is written
  module _ (image : List ℕ) (waits : Waits sizes file at bytes image) where
    home_fits : home_of 16384 sizes file + get_or sizes file 0 ≤ length image
    home_fits = omega (arith, waits.whole, home_of_fits 16384 sizes file below, rounded_more (get_or sizes file 0))

    far : 16384 ≤ home_of 16384 sizes file
    far = home_of_after 16384 sizes file

    pub opens_waiting : opens image ≡ Ok (written file at bytes (homes 16384 sizes image))
    opens_waiting = opens_open sizes image waits.told file at bytes waits.opened waits.entry waits.bytes_held

    pub while_home : (new : List ℕ) → Torn (home_of 16384 sizes file + at) (length bytes) image new → Waits sizes file at bytes new × (opens new ≡ opens image)
    while_home new torn = (
      waiting,
      opens_open sizes new waiting.told file at bytes waiting.opened waiting.entry waiting.bytes_held
          ∙ ap Ok (written_torn sizes file at bytes below inside image new (omega (arith, waits.whole)) torn)
          ∙ sym opens_waiting,
    )
      where
        waiting : Waits sizes file at bytes new
        waiting = record {
          told = told_behind sizes image waits.told torn (omega (arith, far)) (omega (arith, waits.whole));
          opened = gate_apart torn (omega (arith, far)) (omega (arith, waits.whole)) ∙ waits.opened;
          entry = ap (entry_told sizes) (part-torn torn 1024 16 (omega (arith, waits.whole)) (inl (omega (arith, far)))) ∙ waits.entry;
          bytes_held = part-torn torn 1088 (length bytes) (omega (arith, waits.whole, short)) (inl (omega (arith, far, short))) ∙ waits.bytes_held;
          whole = torn.size ∙ waits.whole;
        }

    put_home : Torn (home_of 16384 sizes file + at) (length bytes) image (put (home_of 16384 sizes file + at) bytes image)
    put_home = put_torn (home_of 16384 sizes file + at) bytes image (omega (arith, home_fits, inside))

    pub after_home : (new : List ℕ) → Torn 512 1 (put (home_of 16384 sizes file + at) bytes image) new
        → (sizes_told (length new) (part 0 512 new) ≡ Ok sizes) × (length new ≡ 16384 + total sizes) × (opens new ≡ opens image)
    after_home new torn = (
      told,
      size,
      elim (cases_Bool (is_open new)) [
        | inl opened ↦
            opens_open sizes new told file at bytes opened
            (ap (entry_told sizes) (part-torn torn 1024 16 (omega (arith, done.whole)) (inr (omega arith))) ∙ done.entry)
            (part-torn torn 1088 (length bytes) (omega (arith, done.whole, short)) (inr (omega arith)) ∙ done.bytes_held)
            ∙ ap (λ (fs : List (List ℕ)). Ok (written file at bytes fs)) at_home
            ∙ ap Ok (written_again sizes file at bytes below inside image (omega (arith, waits.whole)))
            ∙ sym opens_waiting
        | inr shut ↦ opens_shut sizes new told shut ∙ ap Ok at_home ∙ sym opens_waiting
      ],
    )
      where
        done : Waits sizes file at bytes (put (home_of 16384 sizes file + at) bytes image)
        done = (while_home (put (home_of 16384 sizes file + at) bytes image) put_home).0

        told : sizes_told (length new) (part 0 512 new) ≡ Ok sizes
        told = told_behind sizes (put (home_of 16384 sizes file + at) bytes image) done.told torn (omega arith) (omega (arith, done.whole))

        size : length new ≡ 16384 + total sizes
        size = torn.size ∙ done.whole

        at_home : homes 16384 sizes new ≡ written file at bytes (homes 16384 sizes image)
        at_home = homes_apart torn 16384 sizes (omega (arith, done.whole)) (inr (omega arith)) ∙ homes-put sizes file at bytes below inside image (omega (arith, waits.whole))

    -- and shut again
    pub home_done : AtRest sizes (gated (home_of 16384 sizes file + at) bytes 0 image) × (opens (gated (home_of 16384 sizes file + at) bytes 0 image) ≡ opens image)
    home_done =
        let middle = put (home_of 16384 sizes file + at) bytes image in
        let long : length middle ≡ length image = length-put (home_of 16384 sizes file + at) bytes image (omega (arith, home_fits, inside)) in
        let torn : Torn 512 1 middle (put 512 (0 ∷ []) middle) = put_torn 512 (0 ∷ []) middle (omega (arith, long, waits.whole)) in
        let there = after_home (put 512 (0 ∷ []) middle) torn in
        (record { told = there.0; shut = gate_set 0 middle (omega (arith, long, waits.whole)); whole = there.1 }, there.2)

-- a write to the journal of an image at rest
module _ (sizes : List ℕ) (file at : ℕ) (bytes : List ℕ) (below : file < length sizes) (inside : at + length bytes ≤ get_or sizes file 0)
    (small_file : file < 2 ^ 32) (small_at : at < 2 ^ 64) (some : 0 < length bytes) (short : length bytes ≤ 8192) where
  module _ (image : List ℕ) (rest : AtRest sizes image) where
    entry_size : length (entry_bytes file at bytes) ≡ 64 + length bytes
    entry_size = length-entry_bytes file at bytes

    journal_torn : Torn 1024 (length (entry_bytes file at bytes)) image (put 1024 (entry_bytes file at bytes) image)
    journal_torn = put_torn 1024 (entry_bytes file at bytes) image (omega (arith, entry_size, short, rest.whole))

    -- the bytes of the journal are torn, and the gate is shut
    pub while_journal : (new : List ℕ) → Torn 1024 (length (entry_bytes file at bytes)) image new → (AtRest sizes new) × (opens new ≡ opens image)
    while_journal new torn =
        let told : sizes_told (length new) (part 0 512 new) ≡ Ok sizes = told_behind sizes image rest.told torn (omega arith) (omega (arith, rest.whole)) in
        let shut : is_open new ≡ false = gate_apart torn (omega arith) (omega (arith, rest.whole)) ∙ rest.shut in (
          record { told = told; shut = shut; whole = torn.size ∙ rest.whole },
          opens_shut sizes new told shut
              ∙ ap Ok (homes_apart torn 16384 sizes (omega (arith, rest.whole)) (inr (omega (arith, entry_size, short))))
              ∙ sym (opens_shut sizes image rest.told rest.shut),
        )

    -- the write stands in the journal, and the gate is anything
    entry_there : (new : List ℕ) → Torn 512 1 (put 1024 (entry_bytes file at bytes) image) new → part 1024 (64 + length bytes) new ≡ entry_bytes file at bytes
    entry_there new torn =
        let fits : 1024 + length (entry_bytes file at bytes) ≤ length image = omega (arith, entry_size, short, rest.whole) in
        let long : length (put 1024 (entry_bytes file at bytes) image) ≡ length image = length-put 1024 (entry_bytes file at bytes) image fits in
        part-torn torn 1024 (64 + length bytes) (omega (arith, long, rest.whole, short)) (inr (omega arith))
        ∙ ap (λ (n : ℕ). part 1024 n (put 1024 (entry_bytes file at bytes) image)) (sym entry_size)
        ∙ part-put 1024 (entry_bytes file at bytes) image fits

    pub entry_stands : (new : List ℕ) → Torn 512 1 (put 1024 (entry_bytes file at bytes) image) new
        → (entry_told sizes (part 1024 16 new) ≡ Ok (record { file = file; at = at; len = length bytes })) × (part 1088 (length bytes) new ≡ bytes)
    entry_stands new torn = (told, held)
      where
        size : length new ≡ length image
        size = torn.size ∙ length-put 1024 (entry_bytes file at bytes) image (omega (arith, entry_size, short, rest.whole))

        here : (from n : ℕ) → from + n ≤ 64 + length bytes → part (1024 + from) n new ≡ part from n (entry_bytes file at bytes)
        here from n within = sym (part-part 1024 (64 + length bytes) from n new within (omega (arith, size, rest.whole, short))) ∙ ap (part from n) (entry_there new torn)

        head16 : part 1024 16 new ≡ part 0 16 (entry_bytes file at bytes)
        head16 = here 0 16 (omega arith)

        long : 16 ≤ length (entry_bytes file at bytes)
        long = omega (arith, entry_size)

        word_file : word32 0 (part 1024 16 new) ≡ file
        word_file = ap (word32 0) head16 ∙ word32_front 0 (entry_bytes file at bytes) (omega arith) long ∙ told_file file at bytes small_file

        word_len : word32 4 (part 1024 16 new) ≡ length bytes
        word_len = ap (word32 4) head16 ∙ word32_front 4 (entry_bytes file at bytes) (omega arith) long ∙ told_len file at bytes (omega (arith, short))

        word_at : word64 8 (part 1024 16 new) ≡ at
        word_at = ap (word64 8) head16 ∙ word64_front 8 (entry_bytes file at bytes) (omega arith) long ∙ told_at file at bytes small_at

        size_of : get_or sizes (word32 0 (part 1024 16 new)) 0 ≡ get_or sizes file 0
        size_of = ap (λ (i : ℕ). get_or sizes i 0) word_file

        told : entry_told sizes (part 1024 16 new) ≡ Ok (record { file = file; at = at; len = length bytes })
        told = entry_fits sizes (part 1024 16 new) (omega (arith, word_file, below)) (omega (arith, word_len, some)) (omega (arith, word_len, short)) (omega (arith, word_at, word_len, size_of, inside))
            ∙ (λ i. Ok (record { file = word_file i; at = word_at i; len = word_len i }))

        held : part 1088 (length bytes) new ≡ bytes
        held = here 64 (length bytes) (omega arith) ∙ told_bytes file at bytes

    pub same_homes : (new : List ℕ) → Torn 512 1 (put 1024 (entry_bytes file at bytes) image) new → homes 16384 sizes new ≡ homes 16384 sizes image
    same_homes new torn =
        let long : length (put 1024 (entry_bytes file at bytes) image) ≡ length image = length-put 1024 (entry_bytes file at bytes) image (omega (arith, entry_size, short, rest.whole)) in
        homes_apart torn 16384 sizes (omega (arith, long, rest.whole)) (inr (omega arith))
        ∙ homes_apart journal_torn 16384 sizes (omega (arith, rest.whole)) (inr (omega (arith, entry_size, short)))

    -- so the old files, or the write waits
    pub while_gate : (new : List ℕ) → Torn 512 1 (put 1024 (entry_bytes file at bytes) image) new → AtRest sizes new × (opens new ≡ opens image) ⊎ Waits sizes file at bytes new
    while_gate new torn = elim (cases_Bool (is_open new)) [
      | inl opened ↦ inr (record { told = told; opened = opened; entry = (entry_stands new torn).0; bytes_held = (entry_stands new torn).1; whole = size ∙ rest.whole })
      | inr shut ↦ inl (record { told = told; shut = shut; whole = size ∙ rest.whole }, opens_shut sizes new told shut ∙ ap Ok (same_homes new torn) ∙ sym (opens_shut sizes image rest.told rest.shut))
    ]
      where
        long : length (put 1024 (entry_bytes file at bytes) image) ≡ length image
        long = length-put 1024 (entry_bytes file at bytes) image (omega (arith, entry_size, short, rest.whole))

        size : length new ≡ length image
        size = torn.size ∙ long

        middle : sizes_told (length (put 1024 (entry_bytes file at bytes) image)) (part 0 512 (put 1024 (entry_bytes file at bytes) image)) ≡ Ok sizes
        middle = told_behind sizes image rest.told journal_torn (omega arith) (omega (arith, rest.whole))

        told : sizes_told (length new) (part 0 512 new) ≡ Ok sizes
        told = told_behind sizes (put 1024 (entry_bytes file at bytes) image) middle torn (omega arith) (omega (arith, long, rest.whole))

  -- the journal is written, and the gate opened
  pub journal_done : (image : List ℕ) → AtRest sizes image → Waits sizes file at bytes (gated 1024 (entry_bytes file at bytes) 1 image) × (homes 16384 sizes (gated 1024 (entry_bytes file at bytes) 1 image) ≡ homes 16384 sizes image)
  journal_done image rest = (
    elim (while_gate image rest (put 512 (1 ∷ []) middle) torn) [
      | inl kept ↦ absurd (cc (kept.0.shut, opened))
      | inr waiting ↦ waiting
    ],
    same_homes image rest (put 512 (1 ∷ []) middle) torn,
  )
    where
      middle : List ℕ
      middle = put 1024 (entry_bytes file at bytes) image

      long : length middle ≡ length image
      long = length-put 1024 (entry_bytes file at bytes) image (omega (arith, length-entry_bytes file at bytes, short, rest.whole))

      torn : Torn 512 1 middle (put 512 (1 ∷ []) middle)
      torn = put_torn 512 (1 ∷ []) middle (omega (arith, long, rest.whole))

      opened : is_open (put 512 (1 ∷ []) middle) ≡ true
      opened = gate_set 1 middle (omega (arith, long, rest.whole))
