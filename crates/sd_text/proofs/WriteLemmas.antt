-- Items joined by dots, written one after another.
use Rattle.std.proofs.Common.{◌≡◌, ℕ, ◌<◌, List, [], ◌∷◌, ◌++◌, length, map, Bool, true, false, cond, refl, ap, sym, ◌∙◌, arith, append_assoc, leb}
use mathlib.Core.List.{append-nil}
use Rattle.std.specs.List.{join_with_byte, flat_map}
use Rattle.sd_text.specs.Texts.{Text}
use Rattle.sd_text.specs.Runs.{Item, pairs, repeated, item_text, before, normal_items, runs_text}
use Rattle.sd_text.specs.Writing.{run_length, WritesItem, AppendsPrefix}
use Rattle.sd_text.proofs.RunLemmas.{front_run_is}

-- each item behind a dot
abbrev pub dotted : List Item → Text
dotted items = flat_map (λ item. 46 ∷ item_text item) items

pub joined : (item : Item) (items : List Item) → join_with_byte 46 (map item_text (item ∷ items)) ≡ item_text item ++ dotted items
joined item [] = sym (append-nil (item_text item))
joined item (next ∷ items) = ap (λ (more : Text). item_text item ++ (46 ∷ more)) (joined next items)

-- three texts, one after another
pub written_in_turn : (a b c d first mid more : Text) → b ≡ a ++ first → c ≡ b ++ mid → d ≡ c ++ more → d ≡ a ++ ((first ++ mid) ++ more)
written_in_turn a b c d first mid more x y z =
    let two : c ≡ a ++ (first ++ mid) = y ∙ ap (λ (t : Text). t ++ mid) x ∙ append_assoc a first mid in
    z ∙ ap (λ (t : Text). t ++ more) two ∙ append_assoc a (first ++ mid) more

-- there are bytes, so there is an item
pub record IsSome (items : List Item) : Type 0 where
  pub first : Item
  pub more : List Item
  pub is : items ≡ first ∷ more

some_before : (bytes : List ℕ) (items : List Item) → IsSome (before bytes items)
some_before bytes [] = record { first = pairs bytes; more = []; is = refl }
some_before bytes (pairs after ∷ items) = record { first = pairs (bytes ++ after); more = items; is = refl }
some_before bytes (repeated b n ∷ items) = record { first = pairs bytes; more = repeated b n ∷ items; is = refl }

some_chosen : (long : Bool) (item : Item) (more items : List Item) → IsSome items → IsSome (cond long (item ∷ more) items)
some_chosen true item more items h = record { first = item; more = more; is = refl }
some_chosen false item more items h = h

pub some_items : (bytes : List ℕ) → 0 < length bytes → IsSome (normal_items bytes)
some_items bytes h = rw (front_run_is bytes h) (some_chosen (leb 4 (run_length bytes)) _ _ _ (some_before _ _))

runs_text-some : (bytes : List ℕ) → 0 < length bytes → runs_text bytes ≡ join_with_byte 46 (map item_text (normal_items bytes))
runs_text-some [] h = absurd (omega arith)
runs_text-some (b ∷ bytes) h = refl

-- A prefix of the whole text is written, and the rest are the bytes that it leaves.
pub record IsWriting (old now whole : Text) (rest : List ℕ) : Type 0 where
  pub front : Text
  pub parts : whole ≡ front ++ dotted (normal_items rest)
  pub appended : now ≡ old ++ front

pub writing_begins : (bytes : List ℕ) (old : Text) (rest : List ℕ) (new : Text) → 0 < length bytes → WritesItem bytes old rest new → IsWriting old new (runs_text bytes) rest
writing_begins bytes old rest new h w = record {
  front = item_text w.item;
  parts = runs_text-some bytes h ∙ rw w.items (joined w.item (normal_items rest));
  appended = w.appended;
}

pub writing_goes_on : (old now whole mid new : Text) (rest left : List ℕ) → IsWriting old now whole rest → mid ≡ now ++ (46 ∷ []) → WritesItem rest mid left new → IsWriting old new whole left
writing_goes_on old now whole mid new rest left s dot w = record {
  front = s.front ++ (46 ∷ item_text w.item);
  parts = s.parts ∙ rw (w.items, append_assoc) refl;
  appended = w.appended ∙ rw (dot, s.appended, append_assoc, append_assoc) refl;
}

pub writing_ends : (old now whole : Text) (rest : List ℕ) → rest ≡ [] → IsWriting old now whole rest → now ≡ old ++ whole
writing_ends old now whole rest nothing s = s.appended ∙ ap (λ (t : Text). old ++ t) (sym (s.parts ∙ rw nothing (append-nil s.front)))

pub front_written : (old now whole : Text) (rest : List ℕ) → IsWriting old now whole rest → AppendsPrefix old now whole
front_written old now whole rest s = record { front = s.front; rest = dotted (normal_items rest); parts = s.parts; appended = s.appended }

pub dot_written : (old now whole mid : Text) (rest : List ℕ) → 0 < length rest → IsWriting old now whole rest → mid ≡ now ++ (46 ∷ []) → AppendsPrefix old mid whole
dot_written old now whole mid rest h s dot =
    let some = some_items rest h in
    record {
      front = s.front ++ (46 ∷ []);
      rest = item_text some.first ++ dotted some.more;
      parts = s.parts ∙ rw (some.is, append_assoc) refl;
      appended = dot ∙ rw (s.appended, append_assoc) refl;
    }

pub nothing_written : (old now whole : Text) → now ≡ old → AppendsPrefix old now whole
nothing_written old now whole same = record { front = []; rest = whole; parts = refl; appended = same ∙ sym (append-nil old) }
