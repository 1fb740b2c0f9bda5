-- What is read so far.
use Rattle.std.proofs.Common.{◌≡◌, ℕ, ◌+◌, ◌≤◌, List, [], ◌∷◌, ◌++◌, length, None, refl, ap, sym, ◌∙◌, subst, append_assoc}
use mathlib.Core.List.{append-nil}
use Rattle.std.specs.List.{filter}
use Rattle.sd_bootparams.specs.Contents.{Contents}
use Rattle.sd_bootparams.specs.declared.params.Why.{Why}
use Rattle.sd_bootparams.specs.declared.draft.Next.{Next}
use Rattle.sd_bootparams.specs.declared.draft.Next.TheVariants as next
use Rattle.sd_bootparams.specs.declared.draft.Draft.{Draft}
use Rattle.sd_outside.specs.Lines.{lines}
use Rattle.sd_bootparams.specs.File.{Text, is_full, joined_from, Part, parts, adding, fault, IsFaultless, HasRefusal, IsFile, IsRefused}
use Rattle.sd_bootparams.specs.LineByLine.{in_place, after_words, after_line, line_parts, parts_from, Says, blank}
use Rattle.sd_bootparams.proofs.Follow.{adding_more, adding_none, faultless_none, faultless_cons, faultless_append, refused_before, refused_after}
use Rattle.sd_bootparams.proofs.Turns.{piece_parts, next_piece, turn_piece, next_line, from_start}

-- The done parts are said, and the others come from what is left.
pub record IsReading (old now : Draft) (all left : List Part) : Type 0 where
  pub done : List Part
  pub cut : all ≡ done ++ left
  pub faultless : IsFaultless old.params done
  pub params : now.params ≡ adding old.params done

pub reading_begins : (old : Draft) (all : List Part) → IsReading old old all all
reading_begins old all = record { done = []; cut = refl; faultless = faultless_none old.params; params = sym (adding_none old.params) }

pub reading_goes_on : (old now new : Draft) (all ps left : List Part) (turn : Next) → IsReading old now all (ps ++ left) → Says now ps turn new → IsReading old new all left
reading_goes_on old now new all ps left turn r s = record {
  done = r.done ++ ps;
  cut = r.cut ∙ sym (append_assoc r.done ps left);
  faultless = faultless_append r.done ps old.params r.faultless (subst (λ (p : Contents). IsFaultless p ps) r.params s.faultless);
  params = s.params ∙ (ap (λ (p : Contents). adding p ps) r.params ∙ adding_more old.params r.done ps);
}

pub reading_stops : (old now : Draft) (all ps left : List Part) (n : ℕ) (reason : Why) → IsReading old now all (ps ++ left) → HasRefusal now.params ps n reason → HasRefusal old.params all n reason
reading_stops old now all ps left n reason r s =
    subst (λ (l : List Part). HasRefusal old.params l n reason) (sym r.cut)
    (refused_after old.params r.done (ps ++ left) n reason r.faultless (refused_before (adding old.params r.done) ps left n reason (subst (λ (p : Contents). HasRefusal p ps n reason) r.params s)))

pub reading_ends : (old now : Draft) (all : List Part) → IsReading old now all [] → IsFaultless old.params all × (now.params ≡ adding old.params all)
reading_ends old now all r =
    let is : r.done ≡ all = sym (append-nil r.done) ∙ sym r.cut in
    (subst (λ (l : List Part). IsFaultless old.params l) is r.faultless, subst (λ (l : List Part). now.params ≡ adding old.params l) is r.params)

-- ---- the pieces of a line

pub record IsInLine (old now : Draft) (n : ℕ) (all left : List Text) : Type 0 where
  pub reading : IsReading old now (piece_parts old.next n all) (piece_parts now.next n left)
  pub turn : after_words old.next (filter is_full all) ≡ after_words now.next (filter is_full left)

pub line_begins : (old : Draft) (n : ℕ) (all : List Text) → IsInLine old old n all all
line_begins old n all = record { reading = reading_begins old (piece_parts old.next n all); turn = refl }

pub line_goes_on : (old now new : Draft) (n : ℕ) (all : List Text) (piece : Text) (left : List Text) → IsInLine old now n all (piece ∷ left) → Says now (piece_parts now.next n (piece ∷ [])) (after_words now.next (filter is_full (piece ∷ []))) new → IsInLine old new n all left
line_goes_on old now new n all piece left r s = record {
  reading = reading_goes_on old now new _ _ _ _
      (subst (λ (l : List Part). IsReading old now (piece_parts old.next n all) l) (next_piece now.next n piece left ∙ ap (λ (t : Next). piece_parts now.next n (piece ∷ []) ++ piece_parts t n left) (sym s.next)) r.reading) s;
  turn = r.turn ∙ (turn_piece now.next piece left ∙ ap (λ (t : Next). after_words t (filter is_full left)) (sym s.next));
}

pub line_stops : (old now : Draft) (n : ℕ) (all : List Text) (piece : Text) (left : List Text) (at : ℕ) (reason : Why) → IsInLine old now n all (piece ∷ left) → HasRefusal now.params (piece_parts now.next n (piece ∷ [])) at reason → HasRefusal old.params (piece_parts old.next n all) at reason
line_stops old now n all piece left at reason r s =
    reading_stops old now _ _ _ at reason (subst (λ (l : List Part). IsReading old now (piece_parts old.next n all) l) (next_piece now.next n piece left) r.reading) s

pub line_ends : (old now : Draft) (n : ℕ) (all : List Text) → IsInLine old now n all [] → Says old (piece_parts old.next n all) (after_words old.next (filter is_full all)) now
line_ends old now n all r =
    let e = reading_ends old now _ (subst (λ (l : List Part). IsReading old now (piece_parts old.next n all) l) (nothing_left now.next) r.reading) in
    record { faultless = e.0; params = e.1; next = sym r.turn }
  where
    nothing_left : (t : Next) → in_place t [] ≡ []
    nothing_left next.Client = refl
    nothing_left (next.ItemOf c) = refl
    nothing_left next.Skipped = refl

-- ---- the lines of a file

pub record IsInFile (now : Draft) (number : ℕ) (text rest : Text) : Type 0 where
  pub reading : IsReading blank now (parts text) (parts_from now.next (joined_from (number + 1) (lines rest)))
  pub count : number + length rest ≤ length text

pub file_begins : (text : Text) (count : 0 + length text ≤ length text) → IsInFile blank 0 text text
file_begins text count = record { reading = subst (λ (l : List Part). IsReading blank blank (parts text) l) (sym (from_start (joined_from 1 (lines text)))) (reading_begins blank (parts text)); count = count }

pub file_goes_on : (now new : Draft) (number : ℕ) (text rest line after : Text) → lines rest ≡ line ∷ lines after → number + 1 + length after ≤ length text → IsInFile now number text rest → Says now (line_parts now.next (number + 1) line) (after_line now.next line) new → IsInFile new (number + 1) text after
file_goes_on now new number text rest line after is count r s = record {
  reading = reading_goes_on blank now new _ _ _ _
      (subst (λ (l : List Part). IsReading blank now (parts text) l)
      (ap (λ (ls : List Text). parts_from now.next (joined_from (number + 1) ls)) is ∙ (next_line now.next (number + 1) line (lines after) ∙ ap (λ (t : Next). line_parts now.next (number + 1) line ++ parts_from t (joined_from (number + 1 + 1) (lines after))) (sym s.next))) r.reading) s;
  count = count;
}

pub file_stops : (now : Draft) (number : ℕ) (text rest line after : Text) (at : ℕ) (reason : Why) → lines rest ≡ line ∷ lines after → IsInFile now number text rest → HasRefusal now.params (line_parts now.next (number + 1) line) at reason → IsRefused text at reason
file_stops now number text rest line after at reason is r s =
    reading_stops blank now _ _ _ at reason
    (subst (λ (l : List Part). IsReading blank now (parts text) l)
    (ap (λ (ls : List Text). parts_from now.next (joined_from (number + 1) ls)) is ∙ next_line now.next (number + 1) line (lines after)) r.reading) s

pub file_ends : (now : Draft) (number : ℕ) (text : Text) → IsInFile now number text [] → IsFile text now.params
file_ends now number text r =
    let e = reading_ends blank now _ r.reading in
    record { faultless = e.0; says = e.1 }

-- ---- one word

pub says_nothing : (old new : Draft) (turn : Next) → new.params ≡ old.params → new.next ≡ turn → Says old [] turn new
says_nothing old new turn p t = record { faultless = faultless_none old.params; params = p ∙ sym (adding_none old.params); next = t }

pub says_one : (old new : Draft) (p : Part) (turn : Next) → fault old.params p ≡ None → new.params ≡ adding old.params (p ∷ []) → new.next ≡ turn → Says old (p ∷ []) turn new
says_one old new p turn none is t = record { faultless = faultless_cons old.params p [] none (faultless_none (adding old.params (p ∷ []))); params = is; next = t }
