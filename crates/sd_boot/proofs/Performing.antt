-- What a status says of the program that the words call for.
use Rattle.std.proofs.Common.{◌≡◌, ℕ, ◌+◌, ◌≤◌, List, [], Option, Some, None, Result, Ok, Err, refl, sym, ◌∙◌, ap, subst, arith, get_or, inl, inr}
use Rattle.std.proofs.lemmas.List.{append-nil}
use Rattle.std.specs.Prelude.{◌⊎◌, ◌==◌, if◌then◌else◌, IsErrOf, IfOk, IfSome}
use Rattle.sd_outside.specs.Causes.{Rose}
use Rattle.sd_stable_disk.specs.Image.{opens, holds}
use Rattle.sd_stable_disk.specs.declared.errors.OpenError.{OpenError}
use Rattle.sd_script.specs.declared.script.Script.{Script}
use Rattle.sd_script.specs.Grammar.{IsScript}
use Rattle.sd_script.proofs.OneScript.{never_both}
use Rattle.sd_streams.specs.Writing.{Writes}
use Rattle.sd_claims.specs.Headline.{IsRefusal}
use Rattle.sd_boot.specs.declared.status.Ended.{Ended}
use Rattle.sd_boot.specs.declared.status.Ended.TheVariants.{Done, Refused, Usage, NoImage}
use Rattle.sd_boot.specs.declared.status.Stop.{Stop}
use Rattle.sd_boot.specs.declared.status.Stop.TheVariants.{SourceFault, SinkFault, NoMemory}
use Rattle.sd_boot.specs.declared.words.Program.{Program}
use Rattle.sd_boot.specs.declared.words.Program.TheVariants.{Replay, Show, Pack, ImageMake, ImageShow}
use Rattle.sd_boot.specs.Status.{status_for}
use Rattle.sd_boot.specs.Words.{HasWords, IsImageShow, IsRow}
use Rattle.sd_boot.specs.Programs.{Performs}
use Rattle.sd_boot.proofs.Statuses.{Finished, whole_of, refusal_of, no_image_of, front_of, finished}

-- ---- words call for one program

-- the first letters of the words, added up, are another number for each program
abbrev letters : List (List ℕ) → ℕ
letters words = get_or (get_or words 0 []) 0 0 + get_or (get_or words 1 []) 0 0

abbrev named : ℕ → Program
named n = if n == 114 then Replay else if n == 115 then Show else if n == 112 then Pack else if n == 214 then ImageMake else ImageShow

program_is : (p : Program) (words : List (List ℕ)) → HasWords p words → named (letters words) ≡ p
program_is Replay words x = ap (λ (w : List (List ℕ)). named (letters w)) x
program_is Show words x = ap (λ (w : List (List ℕ)). named (letters w)) x
program_is Pack words x = ap (λ (w : List (List ℕ)). named (letters w)) x
program_is ImageMake words x = ap (λ (w : List (List ℕ)). named (letters w)) x
program_is ImageShow words x = ap (λ (w : List (List ℕ)). named (letters w)) x

pub one_program : (p q : Program) (words : List (List ℕ)) → HasWords p words → HasWords q words → p ≡ q
one_program p q words x y = sym (program_is p words x) ∙ program_is q words y

-- the words of no program are unknown arguments
pub no_row : (words : List (List ℕ)) → ((p : Program) → HasWords p words → ⊥) → IsRow words → ⊥
no_row words none (inl replay) = none Replay replay
no_row words none (inr (inl show)) = none Show show
no_row words none (inr (inr (inl pack))) = none Pack pack
no_row words none (inr (inr (inr (inl make)))) = none ImageMake make
no_row words none (inr (inr (inr (inr show)))) = none ImageShow show

-- ---- what the program whose words they are has written

module _ (q p : Program) (words : List (List ℕ)) (r : Result Ended Stop) (told old new : Option (List ℕ)) (x : HasWords q words) (y : HasWords p words) (w : Writes told old new (Performs p r)) where
  pub written_by : Writes told old new (Performs q r)
  written_by = subst (λ (one : Program). Writes told old new (Performs one r)) (one_program p q words y x) w

  pub done_by : (status_for r).0 ≡ 0 → Writes told old new (Performs q (Ok Done))
  done_by is = whole_of (Performs q) r told old new is written_by

  pub refused_by : (status_for r).0 ≡ 1 → Writes told old new (Performs q (Ok Refused))
  refused_by is = refusal_of (Performs q) r told old new is written_by

  pub no_image_by : (status_for r).0 ≡ 8 → Writes told old new (Performs q (Ok NoImage))
  no_image_by is = no_image_of (Performs q) r told old new is written_by

  pub cut_by : 4 ≤ (status_for r).0 → Writes told old new (Performs q (Err SinkFault))
  cut_by is = front_of (Performs q) (memory q) (no_image q) r told old new is written_by
    where
      memory : (q : Program) (text out : List ℕ) → Performs q (Err NoMemory) text out → Performs q (Err SinkFault) text out
      memory Replay text out so = so
      memory Show text out so = so
      memory Pack text out so = so
      memory ImageMake text out so = so
      memory ImageShow text out so = so

      -- the whole refusal is a prefix of itself
      no_image : (q : Program) (text out : List ℕ) → Performs q (Ok NoImage) text out → Performs q (Err SinkFault) text out
      no_image Replay text out so = absurd so
      no_image Show text out so = absurd so
      no_image Pack text out so = absurd so
      no_image ImageMake text out so = absurd so
      no_image ImageShow text out so = inr (record { full = out; is = inr so; prefix = ([], append-nil out) })

  module _ (source_old source_new sink_old sink_new : ℕ) (read : IsErrOf r SourceFault → Rose source_old source_new) (write : IsErrOf r SinkFault → Rose sink_old sink_new)
      (calm_source : Rose source_old source_new → ⊥) (calm_sink : Rose sink_old sink_new → ⊥) where
    pub finished_by : IfSome told (Finished (Performs q) r)
    finished_by = finished (Performs q) r told old new source_old source_new sink_old sink_new written_by read write calm_source calm_sink

-- ---- when all is done

-- a script is played to its end, or its image is made
script_done : (P : Result Ended Stop → List ℕ → List ℕ → Type 0) → ((text out : List ℕ) → P (Ok Refused) text out → IsRefusal text out) → ((text out : List ℕ) → P (Ok Usage) text out → ⊥)
    → ((text out : List ℕ) → P (Ok NoImage) text out → ⊥) → (r : Result Ended Stop) (told : Option (List ℕ)) → IfSome told (Finished P r)
    → IfSome told (λ text. (script : Script) → IsScript text script → ((status_for r).0 ≡ 0) ⊎ ((status_for r).0 ≡ 5))
script_done P refusal usage no_image r None f = tt
script_done P refusal usage no_image (Ok Done) (Some text) f = λ script spelled. inl refl
script_done P refusal usage no_image (Ok Refused) (Some text) f = λ script spelled. let refused = refusal text f.0 f.1 in absurd (never_both text script refused.line spelled refused.first)
script_done P refusal usage no_image (Ok Usage) (Some text) f = absurd (usage text f.0 f.1)
script_done P refusal usage no_image (Ok NoImage) (Some text) f = absurd (no_image text f.0 f.1)
script_done P refusal usage no_image (Err SourceFault) (Some text) f = absurd f
script_done P refusal usage no_image (Err SinkFault) (Some text) f = absurd f
script_done P refusal usage no_image (Err NoMemory) (Some text) f = λ script spelled. inr refl

pub replay_done : (r : Result Ended Stop) (told : Option (List ℕ)) → IfSome told (Finished (Performs Replay) r)
    → IfSome told (λ text. (script : Script) → IsScript text script → ((status_for r).0 ≡ 0) ⊎ ((status_for r).0 ≡ 5))
replay_done r told f = script_done (Performs Replay) (λ text out so. so) (λ text out so. so) (λ text out so. so) r told f

pub make_done : (r : Result Ended Stop) (told : Option (List ℕ)) → IfSome told (Finished (Performs ImageMake) r)
    → IfSome told (λ text. (script : Script) → IsScript text script → ((status_for r).0 ≡ 0) ⊎ ((status_for r).0 ≡ 5))
make_done r told f = script_done (Performs ImageMake) (λ text out so. so) (λ text out so. so) (λ text out so. so) r told f

not_both : (image : List ℕ) (files : List (List ℕ)) (error : OpenError) → opens image ≡ Ok files → opens image ≡ Err error → ⊥
not_both image files error held refused = never (sym held ∙ refused)
  where
    never : Ok files ≡ Err error → ⊥
    never same = cc

-- the files of an image are shown
pub show_done : (r : Result Ended Stop) (told : Option (List ℕ)) → IfSome told (Finished (Performs ImageShow) r)
    → IfSome told (λ image. (files : List (List ℕ)) → holds image files → ((status_for r).0 ≡ 0) ⊎ ((status_for r).0 ≡ 5))
show_done r None f = tt
show_done (Ok Done) (Some image) f = λ files held. inl refl
show_done (Ok Refused) (Some image) f = absurd f.1
show_done (Ok Usage) (Some image) f = absurd f.1
show_done (Ok NoImage) (Some image) (out, inl damaged) = λ files held. absurd (not_both image files _ held damaged.1)
show_done (Ok NoImage) (Some image) (out, inr version) = λ files held. absurd (not_both image files _ held version.1)
show_done (Err SourceFault) (Some image) f = absurd f
show_done (Err SinkFault) (Some image) f = absurd f
show_done (Err NoMemory) (Some image) f = λ files held. inr refl

-- an image that is refused isn't shown
pub show_refused : (r : Result Ended Stop) (told : Option (List ℕ)) → IfSome told (Finished (Performs ImageShow) r)
    → IfSome told (λ image. (error : OpenError) → opens image ≡ Err error → ((status_for r).0 ≡ 8) ⊎ ((status_for r).0 ≡ 5))
show_refused r None f = tt
show_refused (Ok Done) (Some image) f = λ error refused. absurd (not_both image f.1.files error f.1.held refused)
show_refused (Ok Refused) (Some image) f = absurd f.1
show_refused (Ok Usage) (Some image) f = absurd f.1
show_refused (Ok NoImage) (Some image) f = λ error refused. inl refl
show_refused (Err SourceFault) (Some image) f = absurd f
show_refused (Err SinkFault) (Some image) f = absurd f
show_refused (Err NoMemory) (Some image) f = λ error refused. inr refl

-- ---- status 8 is that of `image show` alone, which has no status 1

pub only_show : (p : Program) (words : List (List ℕ)) (r : Result Ended Stop) → HasWords p words → IfOk r (λ ended. ended ≡ NoImage → p ≡ ImageShow) → (status_for r).0 ≡ 8 → IsImageShow words
only_show p words (Ok Done) y only is = absurd (omega (arith, is))
only_show p words (Ok Refused) y only is = absurd (omega (arith, is))
only_show p words (Ok Usage) y only is = absurd (omega (arith, is))
only_show p words (Ok NoImage) y only is = subst (λ (q : Program). HasWords q words) (only refl) y
only_show p words (Err SourceFault) y only is = absurd (omega (arith, is))
only_show p words (Err SinkFault) y only is = absurd (omega (arith, is))
only_show p words (Err NoMemory) y only is = absurd (omega (arith, is))

pub not_show : (p : Program) (words : List (List ℕ)) (r : Result Ended Stop) → HasWords p words → IfOk r (λ ended. ended ≡ Refused → p ≡ ImageShow → ⊥) → IsImageShow words → (status_for r).0 ≡ 1 → ⊥
not_show p words (Ok Done) y never x is = absurd (omega (arith, is))
not_show p words (Ok Refused) y never x is = never refl (one_program p ImageShow words y x)
not_show p words (Ok Usage) y never x is = absurd (omega (arith, is))
not_show p words (Ok NoImage) y never x is = absurd (omega (arith, is))
not_show p words (Err SourceFault) y never x is = absurd (omega (arith, is))
not_show p words (Err SinkFault) y never x is = absurd (omega (arith, is))
not_show p words (Err NoMemory) y never x is = absurd (omega (arith, is))
