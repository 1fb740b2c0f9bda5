-- A text is that of a script, or has a first line outside.
use Rattle.std.proofs.Common.{◌≡◌, ◌⊎◌, ℕ, ◌+◌, ◌<◌, List, [], ◌∷◌, ◌++◌, length, refl, sym, subst, ◌∙◌, arith, inl, inr, append_assoc}
use mathlib.Core.List.{append-nil}
use Rattle.std.specs.List.{concat}
use Rattle.std.proofs.lemmas.Bool.{cases_lt}
use Rattle.sd_script.specs.declared.draft.Draft.{Draft}
use Rattle.sd_script.specs.declared.script.Script.{Script}
use Rattle.sd_text.specs.Texts.{Text}
use Rattle.sd_script.specs.Limits.{input_limit}
use Rattle.sd_outside.specs.Lines.{lines, without_feed}
use Rattle.sd_script.specs.Grammar.{blank, script_of, IsLine, IsWhole, Says, IsScript, IsFirstOutside}
use Rattle.sd_text.proofs.Deciding.{Settled}
use Rattle.sd_script.proofs.Sections.{whole_settled}
use Rattle.sd_script.proofs.LineWays.{line_way}
use Rattle.sd_script.proofs.ScriptLemmas.{Leads-snoc, concat-snoc, said_whole, said_early}

abbrev pub IsEither : Text → Type 0
IsEither text = ((script : Script) × IsScript text script) ⊎ ((n : ℕ) × IsFirstOutside text n)

ended : (text : Text) (draft : Draft) → Says (lines text) draft → Settled (IsWhole draft.section) → IsEither text
ended text draft says (inl whole) = inl (script_of draft, said_whole text draft says whole)
ended text draft says (inr early) = inr (length (lines text) + 1, said_early text draft (length (lines text) + 1) says refl early)

refused : (text : Text) (before : List Text) (line : Text) (after : List Text) (draft : Draft) → lines text ≡ before ++ (line ∷ after) → Says before draft
    → (input_limit < length (concat before) + length line) ⊎ ((new : Draft) → IsLine draft (without_feed line) new → ⊥) → IsEither text
refused text before line after draft cut says why = inr (
  length before + 1,
  inl record {
    before = before;
    line = line;
    after = after;
    draft = draft;
    cut = cut;
    number = refl;
    says = says;
    outside = why;
  },
)

-- the lines before are in the grammar, and these are left
from : (text : Text) (left before : List Text) (draft : Draft) → lines text ≡ before ++ left → Says before draft → IsEither text
from text [] before draft cut says = ended text draft (subst (λ (l : List Text). Says l draft) (sym (cut ∙ append-nil before)) says) (whole_settled draft.section)
from text (line ∷ left) before draft cut says = elim (cases_lt input_limit (length (concat before) + length line)) [
  | inl far ↦ refused text before line left draft cut says (inl far)
  | inr within ↦ elim (line_way draft (without_feed line)) [
    | inl new ↦ from text left (before ++ (line ∷ [])) new.0 (cut ∙ sym (append_assoc before (line ∷ []) left))
        record { leads = Leads-snoc blank before draft line new.0 says.leads new.1; within = omega (arith, concat-snoc before line, within) }
    | inr none ↦ refused text before line left draft cut says (inr none)
  ]
]

pub either_way : (text : Text) → IsEither text
either_way text = from text (lines text) [] blank refl record { leads = refl; within = omega arith }
