-- An input that is cut behind the limit is refused at the same line.
use Rattle.std.proofs.Common.{◌≡◌, ◌⊎◌, ℕ, ◌+◌, ◌<◌, ◌≤◌, ◌==◌, Bool, true, false, cond, List, [], ◌∷◌, ◌++◌, length, refl, sym, ◌∙◌, ap, subst, arith, length-append, inl, inr}
use Rattle.std.proofs.lemmas.List.{append-nil}
use Rattle.std.specs.List.{concat, onto_first}
use Rattle.sd_outside.specs.Streams.{IsPrefixOf}
use Rattle.sd_script.specs.declared.script.Script.{Script}
use Rattle.sd_script.specs.Limits.{input_limit}
use Rattle.sd_outside.specs.Lines.{lines}
use Rattle.sd_script.specs.Grammar.{IsScript, IsFirstOutside, IsRefusedLine}
use Rattle.sd_script.proofs.OneScript.{lines_joined}

-- the lines go on with the text: the last may grow, and more may follow
pub Extends : List (List ℕ) → List (List ℕ) → Type 0
Extends [] whole = Unit {0}
Extends (line ∷ []) whole = (more : List ℕ) × (after : List (List ℕ)) × (whole ≡ (line ++ more) ∷ after)
Extends (line ∷ next ∷ others) whole = (rest : List (List ℕ)) × (whole ≡ line ∷ rest) × Extends (next ∷ others) rest

-- a byte before both
onto : (b : ℕ) (xs whole : List (List ℕ)) → Extends xs whole → Extends (onto_first b xs) (onto_first b whole)
unfolding Extends
onto b [] [] e = ([], [], refl)
onto b [] (line ∷ whole) e = (line, whole, refl)
onto b (line ∷ []) whole e = (e.0, e.1, ap (onto_first b) e.2)
onto b (line ∷ next ∷ others) whole e = (e.0, ap (onto_first b) e.1, e.2)

-- a line feed before both
feed : (xs whole : List (List ℕ)) → Extends xs whole → Extends ((10 ∷ []) ∷ xs) ((10 ∷ []) ∷ whole)
unfolding Extends
feed [] whole e = ([], whole, refl)
feed (line ∷ others) whole e = (whole, refl, e)

choose : (t : Bool) (b : ℕ) (xs whole : List (List ℕ)) → ((t ≡ true) → b ≡ 10) → Extends xs whole
    → Extends (cond t ((b ∷ []) ∷ xs) (onto_first b xs)) (cond t ((b ∷ []) ∷ whole) (onto_first b whole))
choose true b xs whole is e = subst (λ (c : ℕ). Extends ((c ∷ []) ∷ xs) ((c ∷ []) ∷ whole)) (sym (is refl)) (feed xs whole e)
choose false b xs whole is e = onto b xs whole e

pub extends : (front rest : List ℕ) → Extends (lines front) (lines (front ++ rest))
unfolding Extends
extends [] rest = tt
extends (b ∷ front) rest = choose (b == 10) b (lines front) (lines (front ++ rest)) (λ h. grind (arith, h)) (extends front rest)

-- the line at a place stands there in the whole too, and where it grew it was the last
pub record IsThere (before : List (List ℕ)) (line : List ℕ) (after whole : List (List ℕ)) : Type 0 where
  pub grown : List ℕ
  pub others : List (List ℕ)
  pub cut : whole ≡ before ++ (grown ∷ others)
  pub same : (grown ≡ line) ⊎ ((after ≡ []) × (length line ≤ length grown))

pub there : (before : List (List ℕ)) (line : List ℕ) (after whole : List (List ℕ)) → Extends (before ++ (line ∷ after)) whole → IsThere before line after whole
unfolding Extends
there [] line [] whole e = record { grown = line ++ e.0; others = e.1; cut = e.2; same = inr (refl, omega (arith, length-append line e.0)) }
there [] line (next ∷ after) whole e = record { grown = line; others = e.0; cut = e.1; same = inl refl }
there (first ∷ []) line after whole e =
    let t = there [] line after e.0 e.2 in
    record { grown = t.grown; others = t.others; cut = e.1 ∙ ap (λ (l : List (List ℕ)). first ∷ l) t.cut; same = t.same }
there (first ∷ second ∷ before) line after whole e =
    let t = there (second ∷ before) line after e.0 e.2 in
    record { grown = t.grown; others = t.others; cut = e.1 ∙ ap (λ (l : List (List ℕ)). first ∷ l) t.cut; same = t.same }

pub concat-last : (before : List (List ℕ)) (line : List ℕ) → length (concat (before ++ (line ∷ []))) ≡ length (concat before) + length line
concat-last [] line = omega (arith, ap length (append-nil line))
concat-last (first ∷ before) line = omega (arith, length-append first (concat before), length-append first (concat (before ++ (line ∷ []))), concat-last before line)

-- a text that passes the limit is no script
pub no_script : (text : List ℕ) (s : Script) → input_limit < length text → IsScript text s → ⊥
no_script text s long is = omega (arith, long, is.says.within, ap length (lines_joined text))

-- a front that passes the limit is refused where the whole is
pub refused_alike : (front whole : List ℕ) (n : ℕ) → input_limit < length front → IsPrefixOf front whole → IsFirstOutside front n → IsFirstOutside whole n
refused_alike front whole n long is (inr early) = absurd (omega (arith, long, early.says.within, ap length (lines_joined front)))
refused_alike front whole n long is (inl refused) =
    let rest = is.0 in
    let t = there refused.before refused.line refused.after (lines (front ++ rest)) (subst (λ (l : List (List ℕ)). Extends l (lines (front ++ rest))) refused.cut (extends front rest)) in
    inl (of t t.same)
  where
    of : (t : IsThere refused.before refused.line refused.after (lines (front ++ is.0))) → (t.grown ≡ refused.line) ⊎ ((refused.after ≡ []) × (length refused.line ≤ length t.grown)) → IsRefusedLine whole n
    of t (inl same) = record {
      before = refused.before;
      line = refused.line;
      after = t.others;
      draft = refused.draft;
      cut = ap lines (sym is.1) ∙ t.cut ∙ ap (λ (l : List ℕ). refused.before ++ (l ∷ t.others)) same;
      number = refused.number;
      says = refused.says;
      outside = refused.outside;
    }
    of t (inr grew) =
        let last : lines front ≡ refused.before ++ (refused.line ∷ []) = refused.cut ∙ ap (λ (l : List (List ℕ)). refused.before ++ (refused.line ∷ l)) grew.0 in
        let sum = ap length (sym (lines_joined front) ∙ ap concat last) ∙ concat-last refused.before refused.line in
        record {
          before = refused.before;
          line = t.grown;
          after = t.others;
          draft = refused.draft;
          cut = ap lines (sym is.1) ∙ t.cut;
          number = refused.number;
          says = refused.says;
          outside = inl (omega (arith, long, sum, grew.1));
        }
