-- What the functions that read the parts of a line, and whole lines, answer.
use Rattle.std.specs.Prelude.{◌≡◌, ℕ, ◌-◌, ◌<◌, ◌≤◌, ◌+◌, ◌++◌, length, ◌⊎◌, List, [], ◌∷◌, Result, Ok, Err}
use Rattle.sd_text.specs.declared.error.LineError.{LineError}
use Rattle.sd_script.specs.declared.draft.Draft.{Draft}
use Rattle.sd_text.specs.Texts.{Text, IsNumber}
use Rattle.sd_config.specs.declared.config.Machine.{Machine}
use Rattle.sd_script.specs.Lines.{IsMachine, IsRest}
use Rattle.sd_text.specs.Answers.{OnOutside}
use Rattle.sd_script.specs.declared.error.ScriptError.{ScriptError}
use Rattle.sd_outside.specs.Lines.{lines}
use Rattle.sd_script.specs.Grammar.{Says, IsScriptError}

-- A line under the rule R leads from one draft to another, or to none.
abbrev pub Judges : (Draft → List Text → Draft → Type 0) → Draft → List Text → Draft → Result Unit LineError → Type 0
Judges R old args new (Ok done) = R old args new
Judges R old args new (Err e) = OnOutside e ((other : Draft) → R old args other → ⊥)

-- The parts are those of a text, or there is none.
abbrev pub TakesRest : List Text → Result (List ℕ) LineError → Type 0
TakesRest old (Ok text) = IsRest old text
TakesRest old (Err e) = OnOutside e (old ≡ [])

-- The first three parts are those of a machine.
abbrev pub TakesMachine : List Text → List Text → Result Machine LineError → Type 0
TakesMachine old new (Ok machine) = (mac ip name : Text) × (old ≡ mac ∷ ip ∷ name ∷ new) × IsMachine mac ip name machine
TakesMachine old new (Err e) = OnOutside e ((mac ip name : Text) (rest : List Text) (machine : Machine) → old ≡ mac ∷ ip ∷ name ∷ rest → IsMachine mac ip name machine → ⊥)

-- A delay is added, or there are eight, or the text is that of none.
abbrev pub ReadsDelay : ℕ → List ℕ → Text → List ℕ → Result Unit LineError → Type 0
ReadsDelay life old text new (Ok done) = (delay : ℕ) × (length old < 8) × (new ≡ old ++ (delay ∷ [])) × IsNumber 1 (life - 1) text delay
ReadsDelay life old text new (Err e) = OnOutside e ((8 ≤ length old) ⊎ ((delay : ℕ) → IsNumber 1 (life - 1) text delay → ⊥))

-- All lines of the text say the draft, and n is one more than their number; or the text has a first line outside.
abbrev pub ReadsLines : Text → Draft → Result ℕ ScriptError → Type 0
ReadsLines text new (Ok n) = Says (lines text) new × (n ≡ length (lines text) + 1)
ReadsLines text new (Err e) = IsScriptError text e
