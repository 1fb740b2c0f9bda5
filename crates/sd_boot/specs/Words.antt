-- The program's words.
use Rattle.std.specs.Prelude.{◌≡◌, ◌⊎◌, ℕ, List, [], ◌∷◌, codes}
use Rattle.sd_boot.specs.declared.words.Program.{Program}
use Rattle.sd_boot.specs.declared.words.Program.TheVariants.{Replay, Show, Pack, ImageMake, ImageShow}

abbrev pub IsReplay : List (List ℕ) → Type 0
IsReplay words = words ≡ codes "replay" ∷ []

abbrev pub IsShow : List (List ℕ) → Type 0
IsShow words = words ≡ codes "show" ∷ []

abbrev pub IsPack : List (List ℕ) → Type 0
IsPack words = words ≡ codes "pack" ∷ []

abbrev pub IsImageMake : List (List ℕ) → Type 0
IsImageMake words = words ≡ codes "image" ∷ codes "make" ∷ []

abbrev pub IsImageShow : List (List ℕ) → Type 0
IsImageShow words = words ≡ codes "image" ∷ codes "show" ∷ []

-- the arguments are known
abbrev pub IsRow : List (List ℕ) → Type 0
IsRow words = IsReplay words ⊎ IsShow words ⊎ IsPack words ⊎ IsImageMake words ⊎ IsImageShow words

-- the row of a program
abbrev pub HasWords : Program → List (List ℕ) → Type 0
HasWords Replay words = IsReplay words
HasWords Show words = IsShow words
HasWords Pack words = IsPack words
HasWords ImageMake words = IsImageMake words
HasWords ImageShow words = IsImageShow words

-- what is written where the arguments are unknown
abbrev pub usage_line : List ℕ
usage_line = codes "usage: replay, show, pack, image make, image show, workload N, serve, client\n"
