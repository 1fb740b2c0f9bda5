-- A file line by line.
use Rattle.std.proofs.Common.{◌≡◌, ℕ, suc, ◌+◌, ◌&&◌, Bool, true, false, not, cond, List, [], ◌∷◌, ◌++◌, length, map, refl, ap, sym, ◌∙◌, subst, append_assoc, arith, eqb}
use mathlib.Core.List.{append-nil}
use Rattle.std.specs.List.{onto_first}
use Rattle.sd_bootparams.specs.Contents.{Contents}
use Rattle.sd_bootparams.specs.declared.draft.Next.{Next}
use Rattle.sd_bootparams.specs.declared.draft.Next.TheVariants as next
use Rattle.sd_outside.specs.Lines.{lines}
use Rattle.sd_bootparams.specs.File.{Text, joined_from, Part, parts, nothing, adding, IsFaultless, HasRefusal}
use Rattle.sd_bootparams.specs.LineByLine.{after_line, after_lines, line_parts, parts_from, fed, file_of, is_one_line, AreLines, BeginsBlank, NextLineStands, NextLineRefused, StandingIsFile}
use Rattle.sd_bootparams.proofs.Follow.{adding_more, faultless_none, faultless_append, refused_after}
use Rattle.sd_bootparams.proofs.Turns.{next_line, from_start}

lines_fed : (text rest : Text) → is_one_line text ≡ true → lines (fed text ++ rest) ≡ fed text ∷ lines rest
lines_fed [] rest e = refl
lines_fed (b ∷ text) rest e = by_test (lines_fed text rest) (eqb b 10) e
  where
    by_test : (is_one_line text ≡ true → lines (fed text ++ rest) ≡ fed text ∷ lines rest) → (t : Bool) → (not t && is_one_line text) ≡ true → cond t ((b ∷ []) ∷ lines (fed text ++ rest)) (onto_first b (lines (fed text ++ rest))) ≡ (b ∷ fed text) ∷ lines rest
    by_test more true h = absurd (cc)
    by_test more false h = ap (λ (l : List Text). onto_first b l) (more h)

lines_of : (texts : List Text) → AreLines texts → lines (file_of texts) ≡ map fed texts
lines_of [] h = refl
lines_of (text ∷ texts) h = lines_fed text (file_of texts) h.0 ∙ ap (λ (l : List Text). fed text ∷ l) (lines_of texts h.1)

are_more : (texts : List Text) (text : Text) → AreLines texts → is_one_line text ≡ true → AreLines (texts ++ (text ∷ []))
are_more [] text h e = (e, tt)
are_more (first ∷ texts) text h e = (h.0, are_more texts text h.1 e)

fed_more : (texts : List Text) (text : Text) → map fed (texts ++ (text ∷ [])) ≡ map fed texts ++ (fed text ∷ [])
fed_more [] text = refl
fed_more (first ∷ texts) text = ap (λ (l : List Text). fed first ∷ l) (fed_more texts text)

length_fed : (texts : List Text) → length (map fed texts) ≡ length texts
length_fed [] = refl
length_fed (first ∷ texts) = ap (λ n. suc n) (length_fed texts)

after_more : (now : Next) (ls : List Text) (l : Text) → after_lines now (ls ++ (l ∷ [])) ≡ after_line (after_lines now ls) l
after_more now [] l = refl
after_more now (first ∷ ls) l = after_more (after_line now first) ls l

one_more : (ls : List Text) (now : Next) (n : ℕ) (l : Text) → parts_from now (joined_from n (ls ++ (l ∷ []))) ≡ parts_from now (joined_from n ls) ++ line_parts (after_lines now ls) (n + length ls) l
one_more [] now n l =
    let same : n + 0 ≡ n = omega arith in
    next_line now n l [] ∙ (append-nil (line_parts now n l) ∙ ap (λ k. line_parts now k l) (sym same))
one_more (first ∷ ls) now n l =
    let same : n + 1 + length ls ≡ n + suc (length ls) = omega arith in
    next_line now n first (ls ++ (l ∷ []))
    ∙ (ap (λ (ps : List Part). line_parts now n first ++ ps) (one_more ls (after_line now first) (n + 1) l)
    ∙ (sym (append_assoc (line_parts now n first) (parts_from (after_line now first) (joined_from (n + 1) ls)) (line_parts (after_lines (after_line now first) ls) (n + 1 + length ls) l))
    ∙ (ap (λ (ps : List Part). ps ++ line_parts (after_lines (after_line now first) ls) (n + 1 + length ls) l) (sym (next_line now n first ls))
    ∙ ap (λ k. parts_from now (joined_from n (first ∷ ls)) ++ line_parts (after_lines (after_line now first) ls) k l) same)))

parts_are : (texts : List Text) → AreLines texts → parts (file_of texts) ≡ parts_from next.Client (joined_from 1 (map fed texts))
parts_are texts h = sym (from_start (joined_from 1 (lines (file_of texts)))) ∙ ap (λ (ls : List Text). parts_from next.Client (joined_from 1 ls)) (lines_of texts h)

-- the parts of a file with one line more
parts_more : (texts : List Text) (text : Text) (turn : Next) → AreLines texts → is_one_line text ≡ true → turn ≡ after_lines next.Client (lines (file_of texts)) → parts (file_of (texts ++ (text ∷ []))) ≡ parts (file_of texts) ++ line_parts turn (length texts + 1) (fed text)
parts_more texts text turn h e is =
    let count : 1 + length (map fed texts) ≡ length texts + 1 = omega (arith, length_fed texts) in
    let at : turn ≡ after_lines next.Client (map fed texts) = is ∙ ap (λ (ls : List Text). after_lines next.Client ls) (lines_of texts h) in
    parts_are (texts ++ (text ∷ [])) (are_more texts text h e)
    ∙ (ap (λ (ls : List Text). parts_from next.Client (joined_from 1 ls)) (fed_more texts text)
    ∙ (one_more (map fed texts) next.Client 1 (fed text)
    ∙ (ap (λ (ps : List Part). ps ++ line_parts (after_lines next.Client (map fed texts)) (1 + length (map fed texts)) (fed text)) (sym (parts_are texts h))
    ∙ (ap (λ k. parts (file_of texts) ++ line_parts (after_lines next.Client (map fed texts)) k (fed text)) count
    ∙ ap (λ (t : Next). parts (file_of texts) ++ line_parts t (length texts + 1) (fed text)) (sym at)))))

pub begins_blank : BeginsBlank
begins_blank = record { faultless = faultless_none nothing; says = refl; turn = refl }

pub next_line_stands : NextLineStands
next_line_stands texts text old new h e s more =
    let is = parts_more texts text old.next h e s.turn in
    let ps = line_parts old.next (length texts + 1) (fed text) in
    record {
      faultless = subst (λ (l : List Part). IsFaultless nothing l) (sym is) (faultless_append (parts (file_of texts)) ps nothing s.faultless (subst (λ (p : Contents). IsFaultless p ps) s.says more.faultless));
      says = more.params ∙ (ap (λ (p : Contents). adding p ps) s.says ∙ (adding_more nothing (parts (file_of texts)) ps ∙ ap (λ (l : List Part). adding nothing l) (sym is)));
      turn = more.next ∙ (ap (λ (t : Next). after_line t (fed text)) (s.turn ∙ ap (λ (ls : List Text). after_lines next.Client ls) (lines_of texts h))
          ∙ (sym (after_more next.Client (map fed texts) (fed text)) ∙ ap (λ (ls : List Text). after_lines next.Client ls) (sym (fed_more texts text) ∙ sym (lines_of (texts ++ (text ∷ [])) (are_more texts text h e)))));
    }

pub next_line_refused : NextLineRefused
next_line_refused texts text old line reason h e s r =
    let is = parts_more texts text old.next h e s.turn in
    let ps = line_parts old.next (length texts + 1) (fed text) in
    subst (λ (l : List Part). HasRefusal nothing l line reason) (sym is) (refused_after nothing (parts (file_of texts)) ps line reason s.faultless (subst (λ (p : Contents). HasRefusal p ps line reason) s.says r))

pub standing_is_file : StandingIsFile
standing_is_file text draft s = record { faultless = s.faultless; says = s.says }
