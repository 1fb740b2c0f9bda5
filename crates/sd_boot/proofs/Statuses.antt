-- What a status says of how a run ended, for a program that owes P.
use Rattle.std.proofs.Common.{◌≡◌, ℕ, ◌≤◌, List, Option, Some, None, Result, Ok, Err, refl, arith}
use Rattle.std.specs.Prelude.{IsErrOf, IfSome}
use Rattle.sd_outside.specs.Causes.{Rose}
use Rattle.sd_streams.specs.Writing.{Writes}
use Rattle.sd_boot.specs.declared.status.Ended.{Ended}
use Rattle.sd_boot.specs.declared.status.Ended.TheVariants.{Done, Refused, Usage, NoImage}
use Rattle.sd_boot.specs.declared.status.Stop.{Stop}
use Rattle.sd_boot.specs.declared.status.Stop.TheVariants.{SourceFault, SinkFault, NoMemory}
use Rattle.sd_boot.specs.Status.{status_for}

-- it wasn't cut short, or memory was wanting
abbrev pub Finished : (Result Ended Stop → List ℕ → List ℕ → Type 0) → Result Ended Stop → List ℕ → Type 0
Finished P (Ok ended) text = (out : List ℕ) × P (Ok ended) text out
Finished P (Err SourceFault) text = ⊥
Finished P (Err SinkFault) text = ⊥
Finished P (Err NoMemory) text = Unit {0}

module _ (P : Result Ended Stop → List ℕ → List ℕ → Type 0) where
  pub whole_of : (r : Result Ended Stop) (told old new : Option (List ℕ)) → (status_for r).0 ≡ 0 → Writes told old new (P r) → Writes told old new (P (Ok Done))
  whole_of (Ok Done) told old new is w = w
  whole_of (Ok Refused) told old new is w = absurd (omega (arith, is))
  whole_of (Ok Usage) told old new is w = absurd (omega (arith, is))
  whole_of (Ok NoImage) told old new is w = absurd (omega (arith, is))
  whole_of (Err SourceFault) told old new is w = absurd (omega (arith, is))
  whole_of (Err SinkFault) told old new is w = absurd (omega (arith, is))
  whole_of (Err NoMemory) told old new is w = absurd (omega (arith, is))

  pub refusal_of : (r : Result Ended Stop) (told old new : Option (List ℕ)) → (status_for r).0 ≡ 1 → Writes told old new (P r) → Writes told old new (P (Ok Refused))
  refusal_of (Ok Done) told old new is w = absurd (omega (arith, is))
  refusal_of (Ok Refused) told old new is w = w
  refusal_of (Ok Usage) told old new is w = absurd (omega (arith, is))
  refusal_of (Ok NoImage) told old new is w = absurd (omega (arith, is))
  refusal_of (Err SourceFault) told old new is w = absurd (omega (arith, is))
  refusal_of (Err SinkFault) told old new is w = absurd (omega (arith, is))
  refusal_of (Err NoMemory) told old new is w = absurd (omega (arith, is))

  pub no_image_of : (r : Result Ended Stop) (told old new : Option (List ℕ)) → (status_for r).0 ≡ 8 → Writes told old new (P r) → Writes told old new (P (Ok NoImage))
  no_image_of (Ok Done) told old new is w = absurd (omega (arith, is))
  no_image_of (Ok Refused) told old new is w = absurd (omega (arith, is))
  no_image_of (Ok Usage) told old new is w = absurd (omega (arith, is))
  no_image_of (Ok NoImage) told old new is w = w
  no_image_of (Err SourceFault) told old new is w = absurd (omega (arith, is))
  no_image_of (Err SinkFault) told old new is w = absurd (omega (arith, is))
  no_image_of (Err NoMemory) told old new is w = absurd (omega (arith, is))

  module _ (memory : (text out : List ℕ) → P (Err NoMemory) text out → P (Err SinkFault) text out) (no_image : (text out : List ℕ) → P (Ok NoImage) text out → P (Err SinkFault) text out) where
    pub front_of : (r : Result Ended Stop) (told old new : Option (List ℕ)) → 4 ≤ (status_for r).0 → Writes told old new (P r) → Writes told old new (P (Err SinkFault))
    front_of r None old new is w = tt
    front_of (Ok Done) (Some text) old new is w = absurd (omega (arith, is))
    front_of (Ok Refused) (Some text) old new is w = absurd (omega (arith, is))
    front_of (Ok Usage) (Some text) old new is w = absurd (omega (arith, is))
    front_of (Ok NoImage) (Some text) old new is w = (w.0, w.1, no_image text w.0 w.2)
    front_of (Err SourceFault) (Some text) old new is w = absurd (omega (arith, is))
    front_of (Err SinkFault) (Some text) old new is w = w
    front_of (Err NoMemory) (Some text) old new is w = (w.0, w.1, memory text w.0 w.2)

  -- where neither the source nor the sink failed
  pub finished : (r : Result Ended Stop) (told old new : Option (List ℕ)) (source_old source_new sink_old sink_new : ℕ) → Writes told old new (P r)
      → (IsErrOf r SourceFault → Rose source_old source_new) → (IsErrOf r SinkFault → Rose sink_old sink_new) → (Rose source_old source_new → ⊥) → (Rose sink_old sink_new → ⊥)
      → IfSome told (Finished P r)
  finished r None old new source_old source_new sink_old sink_new w read write calm_source calm_sink = tt
  finished (Ok ended) (Some text) old new source_old source_new sink_old sink_new w read write calm_source calm_sink = (w.0, w.2)
  finished (Err SourceFault) (Some text) old new source_old source_new sink_old sink_new w read write calm_source calm_sink = absurd (calm_source (read refl))
  finished (Err SinkFault) (Some text) old new source_old source_new sink_old sink_new w read write calm_source calm_sink = absurd (calm_sink (write refl))
  finished (Err NoMemory) (Some text) old new source_old source_new sink_old sink_new w read write calm_source calm_sink = tt
