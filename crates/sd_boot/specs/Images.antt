-- What `image make` and `image show` write: the image of a script's swap file, and the files that an image holds.
use Rattle.std.specs.Prelude.{◌≡◌, ◌⊎◌, ℕ, ◌+◌, List, [], ◌∷◌, ◌++◌, length, map, codes, Option, Some, None, IfSome, Result, Ok, Err}
use Rattle.std.specs.Fmt.{decimal}
use Rattle.sd_config.specs.declared.config.SwapLine.{SwapLine}
use Rattle.sd_outside.specs.Streams.{IsPrefixOf}
use Rattle.sd_text.specs.Runs.{runs_text}
use Rattle.sd_stable_disk.specs.Image.{opens, holds, new_image, zero_files}
use Rattle.sd_stable_disk.specs.declared.errors.OpenError.{OpenError}
use Rattle.sd_stable_disk.specs.declared.errors.OpenError.TheVariants.{Damaged, Version}
use Rattle.sd_stable_disk.specs.declared.errors.OpenError.TheVariants as errors
use Rattle.sd_script.specs.declared.script.Script.{Script}
use Rattle.sd_script.specs.Grammar.{IsScript}
use Rattle.sd_claims.specs.Headline.{IsRefusal}
use Rattle.sd_boot.specs.declared.images.ImageWord.{ImageWord}
use Rattle.sd_boot.specs.declared.images.ImageWord.TheVariants.{Make, Show}
use Rattle.sd_boot.specs.declared.status.Ended.{Ended}
use Rattle.sd_boot.specs.declared.status.Ended.TheVariants.{Done, Refused, Usage, NoImage}
use Rattle.sd_boot.specs.declared.status.Stop.{Stop}
use Rattle.sd_boot.specs.declared.status.Stop.TheVariants.{SourceFault, SinkFault, NoMemory}

-- ---- `image make`

-- the sizes of the files of a new image: that of the swap file, where there is one
abbrev pub swap_sizes : Option SwapLine → List ℕ
swap_sizes (Some swap) = swap.size ∷ []
swap_sizes None = []

-- the image of a swap file of zeros, or of no file
pub record IsNewImage (swap : Option SwapLine) (image : List ℕ) : Type 0 where
  pub bytes : image ≡ new_image (swap_sizes swap)
  pub holding : holds image (zero_files (swap_sizes swap))

-- the image of the swap file of the script that the text spells
pub record IsImageOf (text image : List ℕ) : Type 0 where
  pub script : Script
  pub spelled : IsScript text script
  pub made : IsNewImage script.config.swap image

-- ---- `image show`

-- `file`, its number, how many bytes it has, and they as a byte run
abbrev pub file_line : ℕ → List ℕ → List ℕ
file_line file bytes = codes "file " ++ decimal file ++ 32 ∷ decimal (length bytes) ++ 32 ∷ runs_text bytes ++ 10 ∷ []

-- the lines of files, of which the first has this number
abbrev pub file_lines : ℕ → List (List ℕ) → List ℕ
file_lines first [] = []
file_lines first (bytes ∷ files) = file_line first bytes ++ file_lines (first + 1) files

abbrev pub files_text : List (List ℕ) → List ℕ
files_text files = codes "image files " ++ decimal (length files) ++ 10 ∷ file_lines 0 files

-- the sizes are those of the files, where these are told
abbrev pub HasSizes : Option (List (List ℕ)) → List ℕ → Type 0
HasSizes files sizes = IfSome files (λ files. sizes ≡ map (λ file. length file) files)

-- the text of the files that the image holds
pub record IsShownImage (image out : List ℕ) : Type 0 where
  pub files : List (List ℕ)
  pub held : holds image files
  pub text : out ≡ files_text files

abbrev pub damaged_line : ℕ → List ℕ
damaged_line at = codes "damaged " ++ decimal at ++ 10 ∷ []

abbrev pub version_line : ℕ → List ℕ
version_line got = codes "version " ++ decimal got ++ 10 ∷ []

-- why the image is refused: it is damaged at a place, or has another version
abbrev pub IsImageRefusal : List ℕ → List ℕ → Type 0
IsImageRefusal image out =
    ((at : ℕ) × (opens image ≡ Err (Damaged at)) × (out ≡ damaged_line at)) ⊎ ((got : ℕ) × (opens image ≡ Err (Version got)) × (out ≡ version_line got))

-- ---- both

-- what is done with an image, and how it ended, tell what is written
abbrev pub IsAnswer : ImageWord → List ℕ → List ℕ → Type 0
IsAnswer Make input out = IsImageOf input out ⊎ IsRefusal input out
IsAnswer Show input out = IsShownImage input out ⊎ IsImageRefusal input out

-- a prefix of what would have been written
pub record IsCutAnswer (word : ImageWord) (input out : List ℕ) : Type 0 where
  pub full : List ℕ
  pub is : IsAnswer word input full
  pub prefix : IsPrefixOf out full

abbrev pub IsAnswerPrefix : ImageWord → List ℕ → List ℕ → Type 0
IsAnswerPrefix word input out = (out ≡ []) ⊎ IsCutAnswer word input out

abbrev pub IsImagePrefix : List ℕ → List ℕ → Type 0
IsImagePrefix input out = IsAnswerPrefix Make input out

abbrev pub IsShownPrefix : List ℕ → List ℕ → Type 0
IsShownPrefix input out = IsAnswerPrefix Show input out

-- what is written, by how the program ended
abbrev pub EndsSo : ImageWord → Ended → List ℕ → List ℕ → Type 0
EndsSo Make Done input out = IsImageOf input out
EndsSo Make Refused input out = IsRefusal input out
EndsSo Make Usage input out = ⊥
EndsSo Make NoImage input out = ⊥
EndsSo Show Done input out = IsShownImage input out
EndsSo Show Refused input out = ⊥
EndsSo Show Usage input out = ⊥
EndsSo Show NoImage input out = IsImageRefusal input out

abbrev pub Answers : ImageWord → Result Ended Stop → List ℕ → List ℕ → Type 0
Answers word (Ok ended) input out = EndsSo word ended input out
Answers word (Err SourceFault) input out = out ≡ []
Answers word (Err SinkFault) input out = IsAnswerPrefix word input out
Answers word (Err NoMemory) input out = IsAnswerPrefix word input out

-- the line that says why an image is refused; out of memory says nothing
abbrev pub IsRefusalLine : OpenError → List ℕ → Type 0
IsRefusalLine (errors.Damaged at) line = line ≡ damaged_line at
IsRefusalLine (errors.Version got) line = line ≡ version_line got
IsRefusalLine errors.DiskFault line = ⊥
IsRefusalLine errors.NoMemory line = ⊥
