-- A backslash before a line feed stands, with it, for a space. Both sides are made byte by byte, as lists of the pieces between
-- blanks.
use Rattle.std.proofs.Common.{◌≡◌, ℕ, suc, ◌+◌, ◌-◌, ◌&&◌, Bool, true, false, not, cond, eqb, List, [], ◌∷◌, ◌++◌, length, take, drop, map, refl, ap, sym, subst, ◌∙◌, arith}
use mathlib.Core.List.{append-nil}
use Rattle.std.specs.List.{filter, slice_split, onto_first, before_first}
use Rattle.std.specs.Cmp.Lexicographic.{pointwise}
use Rattle.std.proofs.lemmas.Bool.{eqb-true}
use Rattle.std.proofs.lemmas.List.Sums.{take_while-cons}
use Rattle.sd_outside.specs.Lines.{lines}
use Rattle.sd_bootparams.specs.File.{Text, goes_on, bare, is_blank, is_full, words_of, Word, line_words, onto_joined, joined_from}
use Rattle.sd_bootparams.specs.FileLaws.{unbroken, texts, BackslashIsASpace}
use Rattle.sd_bootparams.proofs.Turns.{texts_on_line}

-- ---- pieces

abbrev split : Text → List Text
split text = slice_split is_blank text

abbrev is_feed : ℕ → Bool
is_feed b = eqb b 10

abbrev pieces : Text → List Text
pieces line = split (before_first is_feed line)

-- one byte more at the front
abbrev add : ℕ → List Text → List Text
add b ps = cond (is_blank b) ([] ∷ ps) (onto_first b ps)

abbrev add_first : ℕ → List (List Text) → List (List Text)
add_first b [] = add b ([] ∷ []) ∷ []
add_first b (q ∷ qs) = add b q ∷ qs

-- a line before a blank, and what follows
abbrev onto_pieces : List Text → List (List Text) → List (List Text)
onto_pieces ps [] = (ps ++ ([] ∷ [])) ∷ []
onto_pieces ps (q ∷ qs) = (ps ++ q) ∷ qs

-- the pieces of the joined lines
abbrev joined_pieces : List Text → List (List Text)
joined_pieces [] = []
joined_pieces (line ∷ more) = cond (goes_on line) (onto_pieces (split (bare line)) (joined_pieces more)) (split (bare line) ∷ joined_pieces more)

-- ---- a byte before a line

before_cons : (b : ℕ) (text : Text) → eqb b 10 ≡ false → before_first is_feed (b ∷ text) ≡ b ∷ before_first is_feed text
before_cons b text other = take_while-cons (λ c. not (is_feed c)) b text ∙ ap (λ (t : Bool). cond (not t) (b ∷ before_first is_feed text) []) other

alone : (b : ℕ) → goes_on (b ∷ []) ≡ false
alone b = by_test (eqb 92 b)
  where
    by_test : (t : Bool) → (t && false) ≡ false
    by_test true = refl
    by_test false = refl

pair : (b c : ℕ) → (eqb b 92 && eqb c 10) ≡ false → goes_on (b ∷ c ∷ []) ≡ false
pair b c h = grind (arith, h)

longer : (b c d : ℕ) (r : Text) → goes_on (b ∷ c ∷ d ∷ r) ≡ goes_on (c ∷ d ∷ r)
longer b c d r =
    let more : length (b ∷ c ∷ d ∷ r) - 2 ≡ suc (length r) = omega arith in
    let less : length (c ∷ d ∷ r) - 2 ≡ length r = omega arith in
    ap (λ (k : ℕ). pointwise eqb (92 ∷ 10 ∷ []) (drop k (b ∷ c ∷ d ∷ r))) more
    ∙ sym (ap (λ (k : ℕ). pointwise eqb (92 ∷ 10 ∷ []) (drop k (c ∷ d ∷ r))) less)

goes_step : (b c : ℕ) (r : Text) → (eqb b 92 && eqb c 10) ≡ false → goes_on (b ∷ c ∷ r) ≡ goes_on (c ∷ r)
goes_step b c [] h = pair b c h ∙ sym (alone c)
goes_step b c (d ∷ r) h = longer b c d r

bare_if : (line : Text) → goes_on line ≡ false → bare line ≡ before_first is_feed line
bare_if line h = ap (λ (t : Bool). cond t (take (length line - 2) line) (before_first is_feed line)) h

bare_step : (b c : ℕ) (r : Text) → eqb b 10 ≡ false → (eqb b 92 && eqb c 10) ≡ false → bare (b ∷ c ∷ r) ≡ b ∷ bare (c ∷ r)
bare_step b c [] other h =
    bare_if (b ∷ c ∷ []) (pair b c h) ∙ before_cons b (c ∷ []) other ∙ ap (λ (t : Text). b ∷ t) (sym (bare_if (c ∷ []) (alone c)))
bare_step b c (d ∷ r) other h =
    let more : length (b ∷ c ∷ d ∷ r) - 2 ≡ suc (length r) = omega arith in
    let less : length (c ∷ d ∷ r) - 2 ≡ length r = omega arith in
    ap (λ (t : Bool). cond t (take (length (b ∷ c ∷ d ∷ r) - 2) (b ∷ c ∷ d ∷ r)) (before_first is_feed (b ∷ c ∷ d ∷ r))) (longer b c d r)
    ∙ ap (λ (k : ℕ). cond (goes_on (c ∷ d ∷ r)) (take k (b ∷ c ∷ d ∷ r)) (before_first is_feed (b ∷ c ∷ d ∷ r))) more
    ∙ ap (λ (t : Text). cond (goes_on (c ∷ d ∷ r)) (b ∷ take (length r) (c ∷ d ∷ r)) t) (before_cons b (c ∷ d ∷ r) other)
    ∙ by_test (goes_on (c ∷ d ∷ r))
    ∙ ap (λ (k : ℕ). b ∷ cond (goes_on (c ∷ d ∷ r)) (take k (c ∷ d ∷ r)) (before_first is_feed (c ∷ d ∷ r))) (sym less)
  where
    by_test : (t : Bool) → cond t (b ∷ take (length r) (c ∷ d ∷ r)) (b ∷ before_first is_feed (c ∷ d ∷ r)) ≡ b ∷ cond t (take (length r) (c ∷ d ∷ r)) (before_first is_feed (c ∷ d ∷ r))
    by_test true = refl
    by_test false = refl

-- ---- a byte before pieces

record Some (ps : List Text) : Type 0 where
  one : Text
  others : List Text
  is : ps ≡ one ∷ others

split_some : (text : Text) → Some (split text)
split_some [] = record { one = []; others = []; is = refl }
split_some (b ∷ text) = by_test (is_blank b) (split text)
  where
    by_test : (t : Bool) (ps : List Text) → Some (cond t ([] ∷ ps) (onto_first b ps))
    by_test true ps = record { one = []; others = ps; is = refl }
    by_test false [] = record { one = b ∷ []; others = []; is = refl }
    by_test false (p ∷ ps) = record { one = b ∷ p; others = ps; is = refl }

add_before : (b : ℕ) (ps qs : List Text) → Some ps → add b (ps ++ qs) ≡ add b ps ++ qs
add_before b ps qs s = subst (λ (l : List Text). add b (l ++ qs) ≡ add b l ++ qs) (sym s.is) (by_test (is_blank b))
  where
    by_test : (t : Bool) → cond t ([] ∷ (s.one ∷ s.others) ++ qs) (onto_first b ((s.one ∷ s.others) ++ qs)) ≡ cond t ([] ∷ s.one ∷ s.others) (onto_first b (s.one ∷ s.others)) ++ qs
    by_test true = refl
    by_test false = refl

add_onto : (b : ℕ) (ps : List Text) (qs : List (List Text)) → Some ps → onto_pieces (add b ps) qs ≡ add_first b (onto_pieces ps qs)
add_onto b ps [] s = ap (λ (l : List Text). l ∷ []) (sym (add_before b ps ([] ∷ []) s))
add_onto b ps (q ∷ qs) s = ap (λ (l : List Text). l ∷ qs) (sym (add_before b ps q s))

-- one byte more of the joined lines
joined_step : (b c : ℕ) (r : Text) (more : List Text) → eqb b 10 ≡ false → (eqb b 92 && eqb c 10) ≡ false → joined_pieces ((b ∷ c ∷ r) ∷ more) ≡ add_first b (joined_pieces ((c ∷ r) ∷ more))
joined_step b c r more other h =
    ap (λ (t : Bool). cond t (onto_pieces (split (bare (b ∷ c ∷ r))) (joined_pieces more)) (split (bare (b ∷ c ∷ r)) ∷ joined_pieces more)) (goes_step b c r h)
    ∙ ap (λ (l : Text). cond (goes_on (c ∷ r)) (onto_pieces (split l) (joined_pieces more)) (split l ∷ joined_pieces more)) (bare_step b c r other h)
    ∙ by_test (goes_on (c ∷ r))
  where
    by_test : (t : Bool) → cond t (onto_pieces (add b (split (bare (c ∷ r)))) (joined_pieces more)) (add b (split (bare (c ∷ r))) ∷ joined_pieces more) ≡ add_first b (cond t (onto_pieces (split (bare (c ∷ r))) (joined_pieces more)) (split (bare (c ∷ r)) ∷ joined_pieces more))
    by_test true = add_onto b (split (bare (c ∷ r))) (joined_pieces more) (split_some (bare (c ∷ r)))
    by_test false = refl

-- one byte more of lines that aren't joined
pieces_step : (b : ℕ) (ls : List Text) → eqb b 10 ≡ false → map pieces (onto_first b ls) ≡ add_first b (map pieces ls)
pieces_step b [] other = ap (λ (l : Text). split l ∷ []) (before_cons b [] other)
pieces_step b (l ∷ ls) other = ap (λ (t : Text). split t ∷ map pieces ls) (before_cons b l other)

-- a text that isn't empty has a first line, which begins as it does
record First (c : ℕ) (text : Text) : Type 0 where
  line : Text
  more : List Text
  is : lines (c ∷ text) ≡ (c ∷ line) ∷ more

first_of : (c : ℕ) (text : Text) → First c text
first_of c text = by_test (eqb c 10) (lines text) refl
  where
    by_test : (t : Bool) (ls : List Text) → lines (c ∷ text) ≡ cond t ((c ∷ []) ∷ ls) (onto_first c ls) → First c text
    by_test true ls e = record { line = []; more = ls; is = e }
    by_test false [] e = record { line = []; more = []; is = e }
    by_test false (l ∷ ls) e = record { line = l; more = ls; is = e }

lines_later : (b : ℕ) (text : Text) → eqb b 10 ≡ false → lines (b ∷ text) ≡ onto_first b (lines text)
lines_later b text other = ap (λ (t : Bool). cond t ((b ∷ []) ∷ lines text) (onto_first b (lines text))) other

lines_here : (b : ℕ) (text : Text) → eqb b 10 ≡ true → lines (b ∷ text) ≡ (b ∷ []) ∷ lines text
lines_here b text feed = ap (λ (t : Bool). cond t ((b ∷ []) ∷ lines text) (onto_first b (lines text))) feed

Same : Text → Type 0
Same text = joined_pieces (lines text) ≡ map pieces (lines (unbroken text))

single : (b : ℕ) → Same (b ∷ [])
unfolding Same
single b = by_lines (lines (b ∷ [])) (one (eqb b 10))
  where
    one : (t : Bool) → cond t ((b ∷ []) ∷ []) (onto_first b []) ≡ (b ∷ []) ∷ []
    one true = refl
    one false = refl

    by_lines : (ls : List Text) → ls ≡ (b ∷ []) ∷ [] → joined_pieces ls ≡ map pieces ls
    by_lines ls e = subst (λ (l : List Text). joined_pieces l ≡ map pieces l) (sym e)
        (ap (λ (t : Bool). cond t (onto_pieces (split (bare (b ∷ []))) []) (split (bare (b ∷ [])) ∷ [])) (alone b)
        ∙ ap (λ (l : Text). split l ∷ []) (bare_if (b ∷ []) (alone b)))

-- a backslash and a line feed
broken : (text : Text) → Same text → Same (92 ∷ 10 ∷ text)
unfolding Same
broken text more = ap (λ (qs : List (List Text)). onto_pieces ([] ∷ []) qs) more ∙ blank (map pieces (lines (unbroken text))) ∙ sym (pieces_step 32 (lines (unbroken text)) refl)
  where
    blank : (qs : List (List Text)) → onto_pieces ([] ∷ []) qs ≡ add_first 32 qs
    blank [] = refl
    blank (q ∷ qs) = refl

-- another byte
whole : (b c : ℕ) (text : Text) → (eqb b 92 && eqb c 10) ≡ false → joined_pieces (lines (c ∷ text)) ≡ map pieces (lines (unbroken (c ∷ text))) → joined_pieces (lines (b ∷ c ∷ text)) ≡ map pieces (lines (b ∷ unbroken (c ∷ text)))
whole b c text h more = by_test (eqb b 10) refl
  where
    by_test : (t : Bool) → eqb b 10 ≡ t → joined_pieces (lines (b ∷ c ∷ text)) ≡ map pieces (lines (b ∷ unbroken (c ∷ text)))
    by_test true feed =
        let is : b ≡ 10 = eqb-true b 10 feed in
        subst (λ (k : ℕ). joined_pieces (lines (k ∷ c ∷ text)) ≡ map pieces (lines (k ∷ unbroken (c ∷ text)))) (sym is)
        (ap (λ (qs : List (List Text)). ([] ∷ []) ∷ qs) more)
    by_test false other =
        let f = first_of c text in
        ap joined_pieces (lines_later b (c ∷ text) other ∙ ap (λ (ls : List Text). onto_first b ls) f.is)
        ∙ joined_step b c f.line f.more other h
        ∙ ap (λ (ls : List Text). add_first b (joined_pieces ls)) (sym f.is)
        ∙ ap (λ (qs : List (List Text)). add_first b qs) more
        ∙ sym (pieces_step b (lines (unbroken (c ∷ text))) other)
        ∙ ap (λ (ls : List Text). map pieces ls) (sym (lines_later b (unbroken (c ∷ text)) other))

same_pieces : (text : Text) → Same text
unfolding Same
same_pieces [] = refl
same_pieces (b ∷ []) = single b
same_pieces (b ∷ c ∷ text) = by_test (eqb b 92 && eqb c 10) refl (same_pieces text) (same_pieces (c ∷ text))
  where
    both : (s t : Bool) → (s && t) ≡ true → (s ≡ true) × (t ≡ true)
    both true t h = (refl, h)
    both false t h = absurd cc

    by_test : (t : Bool) → (eqb b 92 && eqb c 10) ≡ t → Same text → Same (c ∷ text) → joined_pieces (lines (b ∷ c ∷ text)) ≡ map pieces (lines (cond t (32 ∷ unbroken text) (b ∷ unbroken (c ∷ text))))
    by_test true h after more =
        let p = both (eqb b 92) (eqb c 10) h in
        subst (λ (k : ℕ). joined_pieces (lines (k ∷ c ∷ text)) ≡ map pieces (lines (32 ∷ unbroken text))) (sym (eqb-true b 92 p.0))
        (subst (λ (k : ℕ). joined_pieces (lines (92 ∷ k ∷ text)) ≡ map pieces (lines (32 ∷ unbroken text))) (sym (eqb-true c 10 p.1)) (broken text after))
    by_test false h after more = whole b c text h more

-- ---- words

abbrev full : List Text → List Text
full ps = filter is_full ps

full_append : (ps qs : List Text) → full (ps ++ qs) ≡ full ps ++ full qs
full_append [] qs = refl
full_append (p ∷ ps) qs = by_test (is_full p) (full_append ps qs)
  where
    by_test : (t : Bool) → full (ps ++ qs) ≡ full ps ++ full qs → cond t (p ∷ full (ps ++ qs)) (full (ps ++ qs)) ≡ cond t (p ∷ full ps) (full ps) ++ full qs
    by_test true more = ap (λ (l : List Text). p ∷ l) more
    by_test false more = more

texts_append : (ws vs : List Word) → texts (ws ++ vs) ≡ texts ws ++ texts vs
texts_append [] vs = refl
texts_append (w ∷ ws) vs = ap (λ (l : List Text). w.text ∷ l) (texts_append ws vs)

onto_both : (ws : List Word) (ps : List Text) (joined : List (List Word)) (qs : List (List Text)) → texts ws ≡ full ps → map texts joined ≡ map full qs → map texts (onto_joined ws joined) ≡ map full (onto_pieces ps qs)
onto_both ws ps [] [] e m = ap (λ (l : List Text). l ∷ []) (e ∙ (sym (append-nil (full ps)) ∙ sym (full_append ps ([] ∷ []))))
onto_both ws ps [] (q ∷ qs) e m = absurd cc
onto_both ws ps (j ∷ joined) [] e m = absurd cc
onto_both ws ps (j ∷ joined) (q ∷ qs) e m =
    let here : texts j ≡ full q = cc in
    let more : map texts joined ≡ map full qs = cc in
    let both : texts (ws ++ j) ≡ full (ps ++ q) = texts_append ws j ∙ ap (λ (l : List Text). l ++ texts j) e ∙ ap (λ (l : List Text). full ps ++ l) here ∙ sym (full_append ps q) in
    ap (λ (l : List Text). l ∷ map texts joined) both ∙ ap (λ (l : List (List Text)). full (ps ++ q) ∷ l) more

words_joined : (n : ℕ) (ls : List Text) → map texts (joined_from n ls) ≡ map full (joined_pieces ls)
words_joined n [] = refl
words_joined n (line ∷ more) = by_test (goes_on line) (words_joined (n + 1) more)
  where
    here : texts (line_words n line) ≡ full (split (bare line))
    here = texts_on_line n (words_of (bare line))

    by_test : (t : Bool) → map texts (joined_from (n + 1) more) ≡ map full (joined_pieces more) → map texts (cond t (onto_joined (line_words n line) (joined_from (n + 1) more)) (line_words n line ∷ joined_from (n + 1) more)) ≡ map full (cond t (onto_pieces (split (bare line)) (joined_pieces more)) (split (bare line) ∷ joined_pieces more))
    by_test true m = onto_both (line_words n line) (split (bare line)) (joined_from (n + 1) more) (joined_pieces more) here m
    by_test false m = ap (λ (l : List Text). l ∷ map texts (joined_from (n + 1) more)) here ∙ ap (λ (l : List (List Text)). full (split (bare line)) ∷ l) m

full_pieces : (ls : List Text) → map full (map pieces ls) ≡ map (λ (line : Text). words_of (before_first is_feed line)) ls
full_pieces [] = refl
full_pieces (l ∷ ls) = ap (λ (m : List (List Text)). full (pieces l) ∷ m) (full_pieces ls)

pub backslash_is_a_space : BackslashIsASpace
unfolding Same
backslash_is_a_space text = words_joined 1 (lines text) ∙ ap (λ (qs : List (List Text)). map full qs) (same_pieces text) ∙ full_pieces (lines (unbroken text))
