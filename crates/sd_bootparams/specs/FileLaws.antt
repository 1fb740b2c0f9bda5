-- What holds of bootparams files. The functions of src/laws.rt have these as their contracts.
use Rattle.std.specs.Prelude.{◌≡◌, ℕ, ◌==◌, ◌&&◌, if◌then◌else◌, List, [], ◌∷◌, ◌++◌, ◌⊎◌, map, None}
use Rattle.std.specs.List.{before_first}
use Rattle.sd_bootparams.specs.Contents.{Contents}
use Rattle.sd_bootparams.specs.declared.params.Why.{Why}
use Rattle.sd_outside.specs.Lines.{lines, without_feed}
use Rattle.sd_bootparams.specs.File.{Text, flat, words_of, Word, joined_from, item_fault, key_of, server_of, path_of, IsFile, IsRefused}

-- A file says one thing.
abbrev pub OneReading : Type 0
OneReading = (text : Text) (x y : Contents) → IsFile text x → IsFile text y → x ≡ y

-- A file has one refusal.
abbrev pub OneRefusal : Type 0
OneRefusal = (text : Text) (i j : ℕ) (a b : Why) → IsRefused text i a → IsRefused text j b → (i ≡ j) × (a ≡ b)

-- What is read isn't refused.
abbrev pub NeverBoth : Type 0
NeverBoth = (text : Text) (x : Contents) (i : ℕ) (a : Why) → IsFile text x → IsRefused text i a → ⊥

-- Each text is a bootparams file or is refused.
abbrev pub EitherWay : Type 0
EitherWay = (text : Text) → ((params : Contents) × IsFile text params) ⊎ ((line : ℕ) × (reason : Why) × IsRefused text line reason)

-- The lines of a file, one after another, are the file.
abbrev pub LinesAreTheText : Type 0
LinesAreTheText = (text : Text) → flat (lines text) ≡ text

-- the text with a space in place of each backslash before a line feed, and of that line feed
abbrev pub unbroken : Text → Text
unbroken [] = []
unbroken (b ∷ []) = b ∷ []
unbroken (b ∷ c ∷ text) = if b == 92 && c == 10 then 32 ∷ unbroken text else b ∷ unbroken (c ∷ text)

abbrev pub texts : List Word → List Text
texts words = map (λ w. w.text) words

-- A backslash before a line feed stands, with it, for a space: the words of the joined lines are those of the lines of the text
-- that has these spaces.
abbrev pub BackslashIsASpace : Type 0
BackslashIsASpace = (text : Text) → map texts (joined_from 1 (lines text)) ≡ map (λ line. words_of (without_feed line)) (lines (unbroken text))

-- An item without a fault is its key, `=`, its server, `:` and its path.
abbrev pub ItemsAreTheirParts : Type 0
ItemsAreTheirParts = (before : Contents) (of_client text : Text) → item_fault before of_client text ≡ None → text ≡ key_of text ++ (61 ∷ (server_of text ++ (58 ∷ path_of text)))

-- No client has two lines.
abbrev pub ClientsDiffer : Type 0
ClientsDiffer = (text : Text) (params : Contents) (before between after : List Text) (client : Text) → IsFile text params →
    params.clients ≡ before ++ (client ∷ (between ++ (client ∷ after))) → ⊥
