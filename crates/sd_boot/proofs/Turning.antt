-- What the lines of an input are turned into, line by line.
use Rattle.std.proofs.Common.{◌≡◌, ℕ, ◌+◌, ◌-◌, ◌≤◌, List, [], ◌∷◌, ◌++◌, length, refl, sym, ◌∙◌, ap, subst, arith, append_assoc, length-append, inr, Result, Ok, Err}
use Rattle.std.proofs.lemmas.List.{append-nil}
use Rattle.std.specs.List.{concat}
use Rattle.std.specs.Prelude.{IfErr}
use Rattle.sd_text.specs.Texts.{Text}
use Rattle.sd_script.specs.Limits.{input_limit}
use Rattle.sd_outside.specs.Lines.{lines, without_feed}
use Rattle.sd_script.proofs.ScriptLemmas.{IsNextLine, concat-snoc}
use Rattle.sd_show.specs.declared.calls.Heard.{Heard}
use Rattle.sd_show.specs.declared.error.Word.{Word}
use Rattle.sd_show.specs.declared.error.ShowError.{ShowError}
use Rattle.sd_show.specs.declared.error.ShowError.TheVariants as errors
use Rattle.sd_boot.specs.declared.packet_texts.Direction.{Direction}
use Rattle.sd_boot.specs.PacketTexts.{Gives, GivesNone, IsNotGiven, IsLineRefused, AllGive, IsRefusedFor, IsTranslated, IsTextRefusal, place_line}

-- a line within the limit is refused for what stands in it
pub refused_within : {T : Type 0} (d : Direction) (seen : List Heard) (line body : Text) (end : ℕ) (r : Result T ShowError) → end ≤ input_limit → body ≡ without_feed line → IfErr r (IsNotGiven d seen body)
    → IfErr r (IsLineRefused d seen line end)
refused_within d seen line body end (Ok x) fits same h = tt
refused_within d seen line body end (Err (errors.Bad word place)) fits same h = inr (fits, subst (λ (b : Text). GivesNone d seen b (errors.Bad word place)) same h)
refused_within d seen line body end (Err errors.NoMemory) fits same h = tt

-- a text and then a line feed
pub pushed : (old text mid new : Text) → mid ≡ old ++ text → new ≡ mid ++ (10 ∷ []) → new ≡ old ++ (text ++ (10 ∷ []))
pushed old text mid new first second = second ∙ ap (λ (m : Text). m ++ (10 ∷ [])) first ∙ append_assoc old text (10 ∷ [])

-- a further line
given-snoc : (d : Direction) (seen mid new : List Heard) (before : List Text) (line text out : Text) → AllGive d seen before out mid → Gives d mid (without_feed line) text new
    → AllGive d seen (before ++ (line ∷ [])) (out ++ (text ++ (10 ∷ []))) new
given-snoc d seen mid new [] line text out none h = (
  text,
  [],
  new,
  subst (λ (s : List Heard). Gives d s (without_feed line) text new) none.1 h,
  (refl, refl),
  ap (λ (o : Text). o ++ (text ++ (10 ∷ []))) none.0,
)
given-snoc d seen mid new (first ∷ before) line text out given h = (
  given.0,
  given.1 ++ (text ++ (10 ∷ [])),
  given.2,
  given.3,
  given-snoc d given.2 mid new before line text given.1 given.4 h,
  ap (λ (o : Text). o ++ (text ++ (10 ∷ []))) given.5 ∙ append_assoc given.0 (10 ∷ given.1) (text ++ (10 ∷ [])),
)

-- The lines before are turned into the output, and the rest is left.
pub record IsSoFar (d : Direction) (input rest output : Text) (number : ℕ) (seen : List Heard) : Type 0 where
  pub before : List Text
  pub parted : lines input ≡ before ++ lines rest
  pub given : AllGive d [] before output seen
  pub within : length (concat before) ≤ input_limit
  pub bytes : length (concat before) + length rest ≡ length input
  pub count : number ≡ length before
  pub few : number ≤ length (concat before)

pub so_far_begins : (d : Direction) (input : Text) → IsSoFar d input input [] 0 []
so_far_begins d input = record { before = []; parted = refl; given = (refl, refl); within = omega arith; bytes = omega arith; count = refl; few = omega arith }

pub so_far_goes_on : (d : Direction) (input rest output : Text) (number : ℕ) (seen new : List Heard) (line after text : Text) → IsSoFar d input rest output number seen → IsNextLine rest line after
    → length input - length after ≤ input_limit → Gives d seen (without_feed line) text new → IsSoFar d input after (output ++ (text ++ (10 ∷ []))) (number + 1) new
so_far_goes_on d input rest output number seen new line after text s next fits h =
    let longer = concat-snoc s.before line in
    let whole : length rest ≡ length line + length after = ap length next.whole ∙ length-append line after in
    record {
      before = s.before ++ (line ∷ []);
      parted = s.parted ∙ rw (next.lines_are, append_assoc) refl;
      given = given-snoc d [] seen new s.before line text output s.given h;
      within = omega (arith, longer, whole, s.bytes, fits);
      bytes = omega (arith, longer, whole, s.bytes);
      count = omega (arith, length-append s.before (line ∷ []), s.count);
      few = omega (arith, longer, s.few, next.some);
    }

-- the next line is refused
pub so_far_stops : (d : Direction) (input rest output : Text) (number : ℕ) (seen : List Heard) (line after : Text) (word : Word) (place : ℕ) → IsSoFar d input rest output number seen → IsNextLine rest line after
    → IsRefusedFor d seen line (length input - length after) (errors.Bad word place) → IsTextRefusal d input (output ++ place_line (number + 1) word place)
so_far_stops d input rest output number seen line after word place s next why =
    let whole : length rest ≡ length line + length after = ap length next.whole ∙ length-append line after in
    let end : length input - length after ≡ length (concat s.before) + length line = omega (arith, whole, s.bytes) in
    record {
      before = s.before;
      line = line;
      others = lines after;
      texts = output;
      seen = seen;
      word = word;
      place = place;
      cut = s.parted ∙ ap (λ (more : List Text). s.before ++ more) next.lines_are;
      within = s.within;
      given = s.given;
      why = subst (λ (n : ℕ). IsRefusedFor d seen line n (errors.Bad word place)) end why;
      whole = ap (λ (n : ℕ). output ++ place_line (n + 1) word place) s.count;
    }

-- no line is left
pub so_far_ends : (d : Direction) (input rest output : Text) (number : ℕ) (seen : List Heard) → rest ≡ [] → IsSoFar d input rest output number seen → IsTranslated d input output
so_far_ends d input rest output number seen none s =
    let all : lines input ≡ s.before = s.parted ∙ rw none (append-nil s.before) in
    record {
      seen = seen;
      within = omega (arith, s.within, s.bytes, ap length none);
      given = subst (λ (l : List Text). AllGive d [] l output seen) (sym all) s.given;
    }
