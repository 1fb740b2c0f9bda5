-- What `image make` and `image show` write, by how each of their parts ended.
use Rattle.std.proofs.Common.{◌≡◌, ℕ, zero, suc, ◌<◌, ◌≤◌, List, [], ◌∷◌, ◌++◌, length, get_or, Option, Some, Result, Ok, Err, refl, sym, ◌∙◌, ap, subst, arith, inl, inr}
use Rattle.std.specs.Prelude.{IfOk, IfSome, IsOk, IsErrOf}
use Rattle.std.specs.Result.{result_ok}
use Rattle.sd_config.specs.declared.config.SwapLine.{SwapLine}
use Rattle.sd_outside.specs.Streams.{IsPrefixOf}
use Rattle.sd_script.specs.Limits.{input_limit}
use Rattle.sd_streams.specs.Writing.{GainsPrefix, GainsSome}
use Rattle.sd_streams.proofs.Gaining.{gains_nothing}
use Rattle.sd_stable_disk.specs.Image.{opens, held, holds, rounded, total, new_image, zero_files, AreSizes}
use Rattle.sd_stable_disk.specs.declared.errors.OpenError.{OpenError}
use Rattle.sd_stable_disk.specs.declared.errors.OpenError.TheVariants as errors
use Rattle.sd_boot.specs.declared.images.ImageWord.{ImageWord}
use Rattle.sd_boot.specs.declared.images.ImageWord.TheVariants.{Make, Show}
use Rattle.sd_boot.specs.declared.status.Ended.{Ended}
use Rattle.sd_boot.specs.declared.status.Ended.TheVariants.{Done, Refused, Usage, NoImage}
use Rattle.sd_boot.specs.declared.status.Stop.{Stop}
use Rattle.sd_boot.specs.declared.status.Stop.TheVariants.{SourceFault, SinkFault, NoMemory}
use Rattle.sd_boot.specs.Images.{IsShownImage, IsImageRefusal, IsAnswer, IsAnswerPrefix, Answers, EndsSo, IsNewImage, swap_sizes, IsRefusalLine, files_text}
use Rattle.sd_boot.proofs.Cutting.{no_script}
use Rattle.sd_boot.proofs.Replaying.{refusal_alike}
use Rattle.sd_boot.proofs.LongImages.{BothRefused, both_refused}

-- ---- sizes of a new image

one_room : (size : ℕ) → size ≤ 33554432 → total (size ∷ []) ≤ 50331648
unfolding rounded
one_room size most = omega (arith, most)

pub one_size : (size : ℕ) → 8192 ≤ size → size ≤ 33554432 → AreSizes (size ∷ [])
one_size size least most = record { few = omega arith; each = each; room = one_room size most }
  where
    each : (file : ℕ) → file < 1 → (0 < get_or (size ∷ []) file 0) × (get_or (size ∷ []) file 0 ≤ 33554432)
    each zero below = (omega (arith, least), most)
    each (suc file) below = absurd (omega (arith, below))

pub no_size : AreSizes []
no_size = record { few = omega arith; each = λ file below. absurd (omega (arith, below)); room = omega arith }

pub new_so : {E : Type 0} (swap : Option SwapLine) (r : Result (List ℕ) E) → IfOk r (λ image. image ≡ new_image (swap_sizes swap)) → IfOk r (λ image. holds image (zero_files (swap_sizes swap))) → IfOk r (IsNewImage swap)
new_so swap (Ok image) bytes holding = record { bytes = bytes; holding = holding }
new_so swap (Err error) bytes holding = tt

-- ---- an image that opens, or doesn't

pub same_bytes : (told image : List ℕ) → Some told ≡ Some image → told ≡ image
same_bytes told image same = cc

-- the text of its files, where they are told
pub shown_so : (image out : List ℕ) → IsOk (opens image) → IfSome (held image) (λ files. out ≡ files_text files) → IsShownImage image out
shown_so image out opened text = of (opens image) refl opened text
  where
    of : (r : Result (List (List ℕ)) OpenError) → opens image ≡ r → IsOk r → IfSome (result_ok r) (λ files. out ≡ files_text files) → IsShownImage image out
    of (Ok files) is opened text = record { files = files; held = is; text = text }
    of (Err error) is opened text = absurd cc

pub refused_so : (image out : List ℕ) (error : OpenError) → ((at : ℕ) → error ≡ errors.Damaged at → opens image ≡ Err (errors.Damaged at)) → ((got : ℕ) → error ≡ errors.Version got → opens image ≡ Err (errors.Version got))
    → IsRefusalLine error out → IsImageRefusal image out
refused_so image out (errors.Damaged at) damaged version line = inl (at, damaged at refl, line)
refused_so image out (errors.Version got) damaged version line = inr (got, version got refl, line)
refused_so image out errors.DiskFault damaged version line = absurd line
refused_so image out errors.NoMemory damaged version line = absurd line

-- ---- what is answered, and what of it is written

full : (word : ImageWord) (ended : Ended) (input out : List ℕ) → EndsSo word ended input out → IsAnswer word input out
full Make Done input out a = inl a
full Make Refused input out a = inr a
full Make Usage input out a = absurd a
full Make NoImage input out a = absurd a
full Show Done input out a = inl a
full Show Refused input out a = absurd a
full Show Usage input out a = absurd a
full Show NoImage input out a = inr a

-- the sink failed on the way
pub cut_answer : (word : ImageWord) (input out : List ℕ) (ended : Ended) (old new : Option (List ℕ)) (stop : Stop) → EndsSo word ended input out → GainsPrefix old new out
    → (stop ≡ SourceFault → ⊥) → GainsSome old new (Answers word (Err stop) input)
cut_answer word input out ended old new SourceFault a f never = absurd (never refl)
cut_answer word input out ended old new SinkFault a f never = (f.0, f.2, inr (record { full = out; is = full word ended input out a; prefix = f.1 }))
cut_answer word input out ended old new NoMemory a f never = (f.0, f.2, inr (record { full = out; is = full word ended input out a; prefix = f.1 }))

pub not_the_source : (stop : Stop) → (IsErrOf {T = Unit {0}} (Err stop) SourceFault → ⊥) → stop ≡ SourceFault → ⊥
not_the_source stop never is = never (ap Err is)

-- nothing was written
pub no_answer : (word : ImageWord) (input : List ℕ) (told : Option (List ℕ)) → GainsSome told told (Answers word (Err NoMemory) input)
no_answer word input told = ([], gains_nothing told, inl refl)

-- ---- an input that is cut behind the limit is answered as the whole is

cut_off : (text all : List ℕ) → IsPrefixOf text all → input_limit < length text → BothRefused text all
cut_off text all front long = both_refused text front.0 all front.1 (omega (arith, long))

shown_alike : (text all out : List ℕ) → IsPrefixOf text all → input_limit < length text → IsShownImage text out → IsShownImage all out
shown_alike text all out front long s = let b = cut_off text all front long in record { files = s.files; held = b.second ∙ sym b.first ∙ s.held; text = s.text }

image_refusal_alike : (text all out : List ℕ) → IsPrefixOf text all → input_limit < length text → IsImageRefusal text out → IsImageRefusal all out
image_refusal_alike text all out front long (inl (at, is, line)) = let b = cut_off text all front long in inl (at, b.second ∙ sym b.first ∙ is, line)
image_refusal_alike text all out front long (inr (got, is, line)) = let b = cut_off text all front long in inr (got, b.second ∙ sym b.first ∙ is, line)

answer_alike : (word : ImageWord) (text all out : List ℕ) → IsPrefixOf text all → input_limit < length text → IsAnswer word text out → IsAnswer word all out
answer_alike Make text all out front long (inl made) = absurd (no_script text made.script long made.spelled)
answer_alike Make text all out front long (inr refused) = inr (refusal_alike text all out front long refused)
answer_alike Show text all out front long (inl shown) = inl (shown_alike text all out front long shown)
answer_alike Show text all out front long (inr refused) = inr (image_refusal_alike text all out front long refused)

front_alike : (word : ImageWord) (text all out : List ℕ) → IsPrefixOf text all → input_limit < length text → IsAnswerPrefix word text out → IsAnswerPrefix word all out
front_alike word text all out front long (inl none) = inl none
front_alike word text all out front long (inr cut) = inr (record { full = cut.full; is = answer_alike word text all cut.full front long cut.is; prefix = cut.prefix })

pub alike : (word : ImageWord) (r : Result Ended Stop) (text all out : List ℕ) → IsPrefixOf text all → input_limit < length text → Answers word r text out → Answers word r all out
alike Make (Ok Done) text all out front long a = absurd (no_script text a.script long a.spelled)
alike Make (Ok Refused) text all out front long a = refusal_alike text all out front long a
alike Make (Ok Usage) text all out front long a = a
alike Make (Ok NoImage) text all out front long a = a
alike Show (Ok Done) text all out front long a = shown_alike text all out front long a
alike Show (Ok Refused) text all out front long a = a
alike Show (Ok Usage) text all out front long a = a
alike Show (Ok NoImage) text all out front long a = image_refusal_alike text all out front long a
alike Make (Err SourceFault) text all out front long a = a
alike Make (Err SinkFault) text all out front long a = front_alike Make text all out front long a
alike Make (Err NoMemory) text all out front long a = front_alike Make text all out front long a
alike Show (Err SourceFault) text all out front long a = a
alike Show (Err SinkFault) text all out front long a = front_alike Show text all out front long a
alike Show (Err NoMemory) text all out front long a = front_alike Show text all out front long a

-- what is done in full is within the limit
pub within_limit : (word : ImageWord) (text out : List ℕ) → input_limit < length text → Answers word (Ok Done) text out → ⊥
within_limit Make text out long a = no_script text a.script long a.spelled
within_limit Show text out long a = let b = both_refused text [] (text ++ []) refl (omega (arith, long)) in never (sym a.held ∙ b.first)
  where
    never : {files : List (List ℕ)} {error : OpenError} → Ok files ≡ Err error → ⊥
    never same = cc

-- ---- which of the two ends so

pub refused_word : (word : ImageWord) (r : Result Ended Stop) (input : List ℕ) (old new : Option (List ℕ)) → GainsSome old new (Answers word r input) → IfOk r (λ ended. ended ≡ Refused → word ≡ Make)
refused_word Make (Ok ended) input old new gained = λ is. refl
refused_word Show (Ok ended) input old new gained = λ is. absurd (subst (λ (e : Ended). EndsSo Show e input gained.0) is gained.2)
refused_word Make (Err stop) input old new gained = tt
refused_word Show (Err stop) input old new gained = tt

pub no_image_word : (word : ImageWord) (r : Result Ended Stop) (input : List ℕ) (old new : Option (List ℕ)) → GainsSome old new (Answers word r input) → IfOk r (λ ended. ended ≡ NoImage → word ≡ Show)
no_image_word Make (Ok ended) input old new gained = λ is. absurd (subst (λ (e : Ended). EndsSo Make e input gained.0) is gained.2)
no_image_word Show (Ok ended) input old new gained = λ is. refl
no_image_word Make (Err stop) input old new gained = tt
no_image_word Show (Err stop) input old new gained = tt
