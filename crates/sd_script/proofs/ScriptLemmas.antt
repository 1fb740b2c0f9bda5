-- The lines of a text, and what they say one after another.
use Rattle.std.proofs.Common.{◌≡◌, ℕ, suc, ◌+◌, ◌<◌, ◌≤◌, true, false, not, List, [], ◌∷◌, ◌++◌, length, take, drop, refl, ap, sym, ◌∙◌, subst, inl, inr, ◌⊎◌, arith, eqb, append_assoc, length-append}
use mathlib.Core.List.{append-nil}
use Rattle.std.specs.List.{prefix_len, concat}
use Rattle.std.proofs.lemmas.Bool.{cases_Bool}
use Rattle.sd_script.specs.declared.draft.Draft.{Draft}
use Rattle.sd_text.specs.Texts.{Text}
use Rattle.sd_script.specs.Limits.{input_limit}
use Rattle.sd_outside.specs.Lines.{lines, without_feed}
use Rattle.sd_script.specs.Grammar.{IsLine, Leads, blank, script_of, IsWhole, Says, IsScript, IsFirstOutside}

pub Leads-snoc : (old : Draft) (before : List Text) (mid : Draft) (line : Text) (new : Draft) → Leads old before mid → IsLine mid (without_feed line) new → Leads old (before ++ (line ∷ [])) new
Leads-snoc old [] mid line new same h = (new, subst (λ (d : Draft). IsLine d (without_feed line) new) (sym same) h, refl)
Leads-snoc old (first ∷ before) mid line new led h = (led.0, led.1, Leads-snoc led.0 before mid line new led.2 h)

pub concat-snoc : (before : List Text) (line : Text) → length (concat (before ++ (line ∷ []))) ≡ length (concat before) + length line
concat-snoc [] line = omega (arith, ap length (append-nil line))
concat-snoc (first ∷ before) line = omega (arith, length-append first (concat before), length-append first (concat (before ++ (line ∷ []))), concat-snoc before line)

-- What is read so far: the lines before are in the grammar and say the draft, and the rest is left.
pub record IsSoFar (text rest : Text) (draft : Draft) (number : ℕ) : Type 0 where
  pub before : List Text
  pub parted : lines text ≡ before ++ lines rest
  pub says : Says before draft
  pub bytes : length (concat before) + length rest ≡ length text
  pub count : number ≡ length before
  pub few : number ≤ length (concat before)

pub so_far_begins : (text : Text) → IsSoFar text text blank 0
so_far_begins text = record {
  before = [];
  parted = refl;
  says = record { leads = refl; within = omega arith };
  bytes = omega arith;
  count = refl;
  few = omega arith;
}

-- a line that is the next
pub record IsNextLine (rest line after : Text) : Type 0 where
  pub lines_are : lines rest ≡ line ∷ lines after
  pub whole : rest ≡ line ++ after
  pub some : 0 < length line

pub so_far_goes_on : (text rest : Text) (draft : Draft) (number : ℕ) (line after : Text) (new : Draft) → IsSoFar text rest draft number → IsNextLine rest line after
    → length text ≤ input_limit + length after → IsLine draft (without_feed line) new → IsSoFar text after new (number + 1)
so_far_goes_on text rest draft number line after new s next fits h =
    let longer = concat-snoc s.before line in
    let whole : length rest ≡ length line + length after = ap length next.whole ∙ length-append line after in
    record {
      before = s.before ++ (line ∷ []);
      parted = s.parted ∙ rw (next.lines_are, append_assoc) refl;
      says = record { leads = Leads-snoc blank s.before draft line new s.says.leads h; within = omega (arith, longer, whole, s.bytes, fits) };
      bytes = omega (arith, longer, whole, s.bytes);
      count = omega (arith, length-append s.before (line ∷ []), s.count);
      few = omega (arith, longer, s.few, next.some);
    }

-- the next line reaches past the limit, or leads to no draft
pub refused_here : (text rest : Text) (draft : Draft) (number : ℕ) (line after : Text) → IsSoFar text rest draft number → IsNextLine rest line after
    → (input_limit + length after < length text) ⊎ ((new : Draft) → IsLine draft (without_feed line) new → ⊥) → IsFirstOutside text (number + 1)
refused_here text rest draft number line after s next why =
    let whole : length rest ≡ length line + length after = ap length next.whole ∙ length-append line after in
    inl record {
      before = s.before;
      line = line;
      after = lines after;
      draft = draft;
      cut = s.parted ∙ ap (λ (more : List Text). s.before ++ more) next.lines_are;
      number = ap (λ k. k + 1) s.count;
      says = s.says;
      outside = elim why [ inl far ↦ inl (omega (arith, whole, s.bytes, far)) | inr none ↦ inr none ];
    }

lines_all : (text rest : Text) (before : List Text) → rest ≡ [] → lines text ≡ before ++ lines rest → lines text ≡ before
lines_all text rest before none e = e ∙ rw none (append-nil before)

pub all_read : (text rest : Text) (draft : Draft) (number : ℕ) → rest ≡ [] → IsSoFar text rest draft number → Says (lines text) draft × (number + 1 ≡ length (lines text) + 1)
all_read text rest draft number none s =
    let all = lines_all text rest s.before none s.parted in
    (rw all s.says, ap (λ k. k + 1) (rw all s.count))

pub said_whole : (text : Text) (draft : Draft) → Says (lines text) draft → IsWhole draft.section → IsScript text (script_of draft)
said_whole text draft says whole = record { draft = draft; says = says; whole = whole; means = refl }

pub said_early : (text : Text) (draft : Draft) (n : ℕ) → Says (lines text) draft → n ≡ length (lines text) + 1 → (IsWhole draft.section → ⊥) → IsFirstOutside text n
said_early text draft n says number early = inr record { draft = draft; says = says; early = early; number = number }
