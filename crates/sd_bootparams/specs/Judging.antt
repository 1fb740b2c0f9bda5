-- What the functions that read a bootparams file answer.
use Rattle.std.specs.Prelude.{◌≡◌, ℕ, ◌==◌, List, [], ◌∷◌, map, Result, Ok, Err, Option, Some, None, true, false}
use denote.Ref.{Bor}
use Rattle.std.specs.List.{filter, before_first, after_first}
use Rattle.sd_bootparams.specs.Contents.{Contents}
use Rattle.sd_bootparams.specs.declared.params.ParamsError.{ParamsError}
use Rattle.sd_bootparams.specs.declared.params.ParamsError.TheVariants as errors
use Rattle.sd_bootparams.specs.declared.params.Why.{Why}
use Rattle.sd_bootparams.specs.declared.draft.Next.{Next}
use Rattle.sd_bootparams.specs.declared.draft.Draft.{Draft}
use Rattle.sd_bootparams.specs.File.{Text, is_full, on_line, Part, HasRefusal, IsRefused, has}
use Rattle.sd_bootparams.specs.LineByLine.{in_place, after_words, Says}

-- These parts are said after the old draft, or one of them is the first to be refused; out of memory says nothing.
abbrev pub Judges : Draft → List Part → Next → Draft → Result Unit ParamsError → Type 0
Judges old ps turn new (Ok done) = Says old ps turn new
Judges old ps turn new (Err (errors.Bad line reason)) = HasRefusal old.params ps line reason
Judges old ps turn new (Err errors.NoMemory) = Unit {0}

-- The same of a piece between two blanks, which is a word where it isn't empty.
abbrev pub JudgesPiece : Draft → ℕ → Text → Draft → Result Unit ParamsError → Type 0
JudgesPiece old n piece new result = Judges old (in_place old.next (map (on_line n) (filter is_full (piece ∷ [])))) (after_words old.next (filter is_full (piece ∷ []))) new result

-- A word without a fault adds this, and one with a fault is refused for it.
abbrev pub Adds : Option Why → ℕ → Contents → Contents → Result Unit ParamsError → Type 0
Adds fault line new added (Ok done) = (fault ≡ None) × (new ≡ added)
Adds fault line new added (Err (errors.Bad at reason)) = (fault ≡ Some reason) × (at ≡ line)
Adds fault line new added (Err errors.NoMemory) = Unit {0}

-- A text is cut at the first byte c, or has none.
abbrev pub CutAt : ℕ → Text → Option (Bor Text × Bor Text) → Type 0
CutAt c text (Some x) = (has c text ≡ true) × (x.0.now ≡ before_first (λ b. b == c) text) × (x.1.now ≡ after_first (λ b. b == c) text)
CutAt c text None = has c text ≡ false

-- What a refusal says of the file.
abbrev pub IsParamsError : Text → ParamsError → Type 0
IsParamsError text (errors.Bad line reason) = IsRefused text line reason
IsParamsError text errors.NoMemory = Unit {0}
