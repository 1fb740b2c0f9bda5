-- Judgements of lines under one rule and another.
use Rattle.std.proofs.Common.{◌≡◌, List, Result, Ok, Err, inl, inr, sym, ◌∙◌}
use Rattle.sd_text.specs.declared.error.LineError.{LineError}
use Rattle.sd_text.specs.declared.error.LineError.TheVariants.{Outside, NoMemory}
use Rattle.sd_script.specs.declared.draft.Draft.{Draft}
use Rattle.sd_script.specs.declared.draft.Section.TheVariants as sections
use Rattle.sd_text.specs.Texts.{Text}
use Rattle.sd_script.specs.Judging.{Judges}
use Rattle.sd_script.specs.Lines.{MayBeCommand}

-- what is judged under the rule R is judged under Q, where one leads to a draft exactly where the other does
pub judges_as : (R Q : Draft → List Text → Draft → Type 0) (old : Draft) (args : List Text) (from : List Text) (new : Draft) (r : Result Unit LineError) → Judges R old from new r → (R old from new → Q old args new) → ((other : Draft) → Q old args other → R old from other) → Judges Q old args new r
judges_as R Q old args from new (Ok done) h to back = to h
judges_as R Q old args from new (Err Outside) h to back = λ other q. h other (back other q)
judges_as R Q old args from new (Err NoMemory) h to back = tt

pub not_in_heading : (old : Draft) → old.section ≡ sections.Wait → MayBeCommand old.section → ⊥
not_in_heading old is may = elim may [ inl config ↦ cc (sym is ∙ config) | inr more ↦ elim more [ inl events ↦ cc (sym is ∙ events) | inr commands ↦ cc (sym is ∙ commands) ] ]
