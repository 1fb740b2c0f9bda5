-- A text is the transcript of one run, or has one first line outside the grammar, and never both or neither.
use Rattle.std.proofs.Common.{◌≡◌, ◌⊎◌, ℕ, ◌+◌, List, [], ◌∷◌, ◌++◌, length, refl, sym, ◌∙◌, subst, arith, append_assoc, inl, inr}
use Rattle.std.proofs.lemmas.List.{append-nil}
use Rattle.std.specs.List.{AllZip}
use Rattle.sd_text.specs.Texts.{Text}
use Rattle.sd_view.specs.declared.lines.Line.{Line}
use Rattle.sd_view.specs.declared.order.SoFar.{SoFar}
use Rattle.sd_view.specs.Order.{nothing, after, after_all, MayFollow, AllFollow}
use Rattle.sd_outside.specs.Lines.{lines}
use Rattle.sd_view.specs.Transcript.{IsWhole, Say, IsTranscript, IsFirstOutside}
use Rattle.sd_text.proofs.Exits.{firsts, others as behind}
use Rattle.sd_view.proofs.Reading.{zip-snoc, follow-snoc}
use Rattle.sd_view.proofs.WholeLine.{one_whole}
use Rattle.sd_view.proofs.LineWay.{whole_way, follow_settled}

zip_one : (texts : List Text) (a b : List Line) → AllZip IsWhole texts a → AllZip IsWhole texts b → a ≡ b
zip_one [] [] [] x y = refl
zip_one [] [] (q ∷ b) x y = absurd y
zip_one [] (p ∷ a) b x y = absurd x
zip_one (text ∷ texts) [] b x y = absurd x
zip_one (text ∷ texts) (p ∷ a) [] x y = absurd y
zip_one (text ∷ texts) (p ∷ a) (q ∷ b) x y = rw (one_whole text p q x.0 y.0, zip_one texts a b x.1 y.1) refl

pub one_run : (text : Text) (a b : List Line) → IsTranscript text a → IsTranscript text b → a ≡ b
one_run text a b x y = zip_one (lines text) a b x.each y.each

-- lines of which one is in the middle
record Parted (s : SoFar) (before : List Text) (line : Text) : Type 0 where
  run : List Line
  said : Line
  each : AllZip IsWhole before run
  here : IsWhole line said
  may : MayFollow (after_all s run) said

parted : (s : SoFar) (before : List Text) (line : Text) (others : List Text) (run : List Line) → AllZip IsWhole (before ++ (line ∷ others)) run → AllFollow s run → Parted s before line
parted s [] line others [] z f = absurd z
parted s [] line others (said ∷ run) z f = record { run = []; said = said; each = tt; here = z.0; may = f.0 }
parted s (text ∷ before) line others [] z f = absurd z
parted s (text ∷ before) line others (said ∷ run) z f =
    let p = parted (after s said) before line others run z.1 f.1 in
    record { run = said ∷ p.run; said = p.said; each = (z.0, p.each); here = p.here; may = p.may }

pub never_both : (text : Text) (run : List Line) (n : ℕ) → IsTranscript text run → IsFirstOutside text n → ⊥
never_both text run n t f =
    let p = parted nothing f.before f.line f.others run (subst (λ (texts : List Text). AllZip IsWhole texts run) f.parted t.each) t.ordered in
    let same : p.run ≡ f.run = zip_one f.before p.run f.run p.each f.says.each in
    f.outside p.said p.here (subst (λ (r : List Line). MayFollow (after_all nothing r) p.said) same p.may)

-- ---- the one or the other

-- the lines before say a run, and the rest is left
record SaySoFar (text : Text) (rest : List Text) : Type 0 where
  before : List Text
  run : List Line
  parted : lines text ≡ before ++ rest
  says : Say before run

goes_on : (text line : Text) (others : List Text) (s : SaySoFar text (line ∷ others)) (said : Line) → IsWhole line said → MayFollow (after_all nothing s.run) said → SaySoFar text others
goes_on text line others s said h may = record {
  before = s.before ++ (line ∷ []);
  run = s.run ++ (said ∷ []);
  parted = s.parted ∙ rw append_assoc refl;
  says = record { each = zip-snoc s.before s.run line said s.says.each h; ordered = follow-snoc nothing s.run said s.says.ordered may };
}

stops : (text line : Text) (others : List Text) (s : SaySoFar text (line ∷ others)) → ((said : Line) → IsWhole line said → MayFollow (after_all nothing s.run) said → ⊥) → (n : ℕ) × IsFirstOutside text n
stops text line others s outside = (
  length s.before + 1,
  record {
    before = s.before;
    line = line;
    others = others;
    run = s.run;
    parted = s.parted;
    number = refl;
    says = s.says;
    outside = outside;
  },
)

abbrev IsEither : Text → Type 0
IsEither text = ((run : List Line) × IsTranscript text run) ⊎ ((n : ℕ) × IsFirstOutside text n)

-- lines that go on behind others are those of a transcript, or one of them is the first outside
goes_either : (text : Text) (rest : List Text) → SaySoFar text rest → IsEither text
goes_either text [] s = inl (s.run, subst (λ (texts : List Text). Say texts s.run) (sym (s.parted ∙ append-nil s.before)) s.says)
goes_either text (line ∷ others) s = elim (whole_way line) [
  | inl said ↦ elim (follow_settled (after_all nothing s.run) said.0) [
    | inl may ↦ goes_either text others (goes_on text line others s said.0 said.1 may)
    | inr never ↦ inr (stops text line others s (λ next h may. never (subst (λ (l : Line). MayFollow (after_all nothing s.run) l) (one_whole line next said.0 h said.1) may)))
  ]
  | inr none ↦ inr (stops text line others s (λ next h may. none next h))
]

pub either : (text : Text) → IsEither text
either text = goes_either text (lines text) record { before = []; run = []; parted = refl; says = record { each = tt; ordered = tt } }

-- ---- one first line outside

abbrev Outside : SoFar → List Line → Text → Type 0
Outside s run line = (next : Line) → IsWhole line next → MayFollow (after_all s run) next → ⊥

same_length : (s : SoFar) (a b : List Text) (x y : Text) (more others : List Text) (p q : List Line) → a ++ (x ∷ more) ≡ b ++ (y ∷ others)
    → AllZip IsWhole a p → AllFollow s p → Outside s p x → AllZip IsWhole b q → AllFollow s q → Outside s q y → length a ≡ length b
same_length s [] [] x y more others p q e az af ao bz bf bo = refl
same_length s [] (t ∷ b) x y more others [] [] e az af ao bz bf bo = absurd bz
same_length s [] (t ∷ b) x y more others [] (m ∷ q) e az af ao bz bf bo = absurd (ao m (subst (λ (l : Text). IsWhole l m) (sym (firsts e)) bz.0) bf.0)
same_length s [] (t ∷ b) x y more others (l ∷ p) q e az af ao bz bf bo = absurd az
same_length s (t ∷ a) [] x y more others [] q e az af ao bz bf bo = absurd az
same_length s (t ∷ a) [] x y more others (l ∷ p) [] e az af ao bz bf bo = absurd (bo l (subst (λ (k : Text). IsWhole k l) (firsts e) az.0) af.0)
same_length s (t ∷ a) [] x y more others (l ∷ p) (m ∷ q) e az af ao bz bf bo = absurd bz
same_length s (t ∷ a) (u ∷ b) x y more others [] q e az af ao bz bf bo = absurd az
same_length s (t ∷ a) (u ∷ b) x y more others (l ∷ p) [] e az af ao bz bf bo = absurd bz
same_length s (t ∷ a) (u ∷ b) x y more others (l ∷ p) (m ∷ q) e az af ao bz bf bo =
    let same : m ≡ l = one_whole t m l (subst (λ (k : Text). IsWhole k m) (sym (firsts e)) bz.0) az.0 in
    let follow : AllFollow (after s l) q = subst (λ (k : Line). AllFollow (after s k) q) same bf.1 in
    let out : Outside (after s l) q y = subst (λ (k : Line). (next : Line) → IsWhole y next → MayFollow (after_all (after s k) q) next → ⊥) same bo in
    let rest = same_length (after s l) a b x y more others p q (behind e) az.1 af.1 ao bz.1 follow out in
    omega (arith, rest)

pub one_first : (text : Text) (n m : ℕ) → IsFirstOutside text n → IsFirstOutside text m → n ≡ m
one_first text n m x y =
    let rest = same_length nothing x.before y.before x.line y.line x.others y.others x.run y.run (sym x.parted ∙ y.parted) x.says.each x.says.ordered x.outside y.says.each y.says.ordered y.outside in
    omega (arith, rest, x.number, y.number)
