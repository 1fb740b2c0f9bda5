-- From what was read to what the source told, for a program that owes P.
use Rattle.std.proofs.Common.{◌≡◌, ℕ, ◌<◌, List, [], length, Option, Some, None, Result, Ok, Err, refl, subst, inl, inr}
use Rattle.std.specs.Prelude.{IfOk, IfSome}
use Rattle.sd_outside.specs.Streams.{IsPrefixOf}
use Rattle.sd_script.specs.Limits.{input_limit}
use Rattle.sd_streams.proofs.Gaining.{gains_nothing}
use Rattle.sd_boot.specs.declared.status.Ended.{Ended}
use Rattle.sd_boot.specs.declared.status.Ended.TheVariants.{Done}
use Rattle.sd_boot.specs.declared.status.Stop.{Stop}
use Rattle.sd_boot.specs.declared.status.Stop.TheVariants.{SourceFault, SinkFault, NoMemory}
use Rattle.sd_boot.specs.Input.{IsRead}
use Rattle.sd_streams.specs.Writing.{GainsSome, Writes}

module _ (P : Result Ended Stop → List ℕ → List ℕ → Type 0) where
  -- what a front that passes the limit is owed, the whole is
  pub carried : (r : Result Ended Stop) → ((text all out : List ℕ) → IsPrefixOf text all → input_limit < length text → P r text out → P r all out)
      → (told left : Option (List ℕ)) (text : List ℕ) (old new : Option (List ℕ)) → IsRead told left text → GainsSome old new (P r text) → Writes told old new (P r)
  carried r alike None left text old new read gained = tt
  carried r alike (Some all) left text old new (inl whole) gained = subst (λ (t : List ℕ). GainsSome old new (P r t)) whole.0 gained
  carried r alike (Some all) left text old new (inr cut) gained = (gained.0, gained.1, alike text all gained.0 cut.0 cut.1 gained.2)

  -- nothing was written, since the source failed or there was no memory
  pub not_read : ((text : List ℕ) → P (Err SourceFault) text []) → ((text : List ℕ) → P (Err NoMemory) text []) → (told sink : Option (List ℕ)) (stop : Stop) → (stop ≡ SinkFault → ⊥)
      → Writes told sink sink (P (Err stop))
  not_read source memory None sink stop never = tt
  not_read source memory (Some all) sink SourceFault never = ([], gains_nothing sink, source all)
  not_read source memory (Some all) sink SinkFault never = absurd (never refl)
  not_read source memory (Some all) sink NoMemory never = ([], gains_nothing sink, memory all)

  -- where all was done, the source was read to its end
  pub all_read : ((text out : List ℕ) → input_limit < length text → P (Ok Done) text out → ⊥) → (told left : Option (List ℕ)) (text : List ℕ) (old new : Option (List ℕ)) (r : Result Ended Stop)
      → IsRead told left text → GainsSome old new (P r text) → IfOk r (λ ended. ended ≡ Done → IfSome told (λ all. left ≡ Some []))
  all_read short None left text old new (Ok ended) read gained = λ is. tt
  all_read short (Some all) left text old new (Ok ended) (inl whole) gained = λ is. whole.1
  all_read short (Some all) left text old new (Ok ended) (inr cut) gained = λ is. absurd (short text gained.0 cut.1 (subst (λ (e : Ended). P (Ok e) text gained.0) is gained.2))
  all_read short told left text old new (Err stop) read gained = tt
