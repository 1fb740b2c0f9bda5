-- What was written, by how the parts of the program ended.
use Rattle.std.proofs.Common.{◌≡◌, ℕ, List, Option, Some, None, Result, Ok, Err, refl, inl, inr}
use Rattle.std.specs.Prelude.{◌⊎◌, OnOk, OnErr, IfOk, IfSome, IsErrOf}
use Rattle.sd_outside.specs.Causes.{Rose}
use Rattle.sd_outside.specs.Streams.{Gains}
use Rattle.sd_streams.specs.Writing.{GainsPrefix, GainsSome, Writes}
use Rattle.sd_text.specs.Texts.{Text}
use Rattle.sd_view.specs.declared.lines.Line.{Line}
use Rattle.sd_view.specs.declared.status.Ended.{Ended}
use Rattle.sd_view.specs.declared.status.Ended.TheVariants.{Done, Refused, Usage}
use Rattle.sd_view.specs.declared.status.Stop.{Stop}
use Rattle.sd_view.specs.declared.status.Stop.TheVariants.{SourceFault, SinkFault, NoMemory}
use Rattle.sd_view.specs.declared.views.View.{View}
use Rattle.sd_view.specs.Transcript.{IsTranscript, IsFirstOutside}
use Rattle.sd_view.specs.Views.{IsDrawn, IsRefusal, refusal_line, Draws, status_for}
use Rattle.sd_view.proofs.OneRun.{never_both}

-- the sink failed on the way
pub not_written : (view : View) (text out : Text) (old new : Option (List ℕ)) (stop : Stop) → IsDrawn view text out ⊎ IsRefusal text out → GainsPrefix old new out → (stop ≡ SourceFault → ⊥)
    → GainsSome old new (Draws view (Err stop) text)
not_written view text out old new SourceFault is f never = absurd (never refl)
not_written view text out old new SinkFault is f never = (f.0, f.2, inr (record { full = out; is = is; prefix = f.1 }))
not_written view text out old new NoMemory is f never = (f.0, f.2, inr (record { full = out; is = is; prefix = f.1 }))

-- the refusal of a text
pub refused : (view : View) (text : Text) (n : ℕ) (old new : Option (List ℕ)) (r : Result Ended Stop) → IsFirstOutside text n → OnOk r (Gains old new (refusal_line n)) → OnErr r (GainsPrefix old new (refusal_line n))
    → IfOk r (λ ended. ended ≡ Refused) → (IsErrOf r SourceFault → ⊥) → GainsSome old new (Draws view r text)
refused view text n old new (Ok Done) first ok err ended never = absurd (cc ended)
refused view text n old new (Ok Refused) first ok err ended never = (refusal_line n, ok, record { line = n; first = first; whole = refl })
refused view text n old new (Ok Usage) first ok err ended never = absurd (cc ended)
refused view text n old new (Err SourceFault) first ok err ended never = absurd (never refl)
refused view text n old new (Err SinkFault) first ok err ended never = not_written view text (refusal_line n) old new SinkFault (inr record { line = n; first = first; whole = refl }) err (λ is. absurd (cc is))
refused view text n old new (Err NoMemory) first ok err ended never = not_written view text (refusal_line n) old new NoMemory (inr record { line = n; first = first; whole = refl }) err (λ is. absurd (cc is))

-- ---- where neither the source nor the sink failed

pub drawn_or_memory : (view : View) (r : Result Ended Stop) (told old new : Option (List ℕ)) (source_old source_new sink_old sink_new : ℕ) → Writes told old new (Draws view r) → (IsErrOf r SourceFault → Rose source_old source_new)
    → (IsErrOf r SinkFault → Rose sink_old sink_new) → (Rose source_old source_new → ⊥) → (Rose sink_old sink_new → ⊥)
    → IfSome told (λ text. (run : List Line) → IsTranscript text run → ((status_for r).0 ≡ 0) ⊎ ((status_for r).0 ≡ 5))
drawn_or_memory view r None old new so sn ko kn w read write calm_source calm_sink = tt
drawn_or_memory view (Ok Done) (Some text) old new so sn ko kn w read write calm_source calm_sink = λ run is. inl refl
drawn_or_memory view (Ok Refused) (Some text) old new so sn ko kn w read write calm_source calm_sink = λ run is. absurd (never_both text run w.2.line is w.2.first)
drawn_or_memory view (Ok Usage) (Some text) old new so sn ko kn w read write calm_source calm_sink = absurd w.2
drawn_or_memory view (Err SourceFault) (Some text) old new so sn ko kn w read write calm_source calm_sink = absurd (calm_source (read refl))
drawn_or_memory view (Err SinkFault) (Some text) old new so sn ko kn w read write calm_source calm_sink = absurd (calm_sink (write refl))
drawn_or_memory view (Err NoMemory) (Some text) old new so sn ko kn w read write calm_source calm_sink = λ run is. inr refl

pub refused_or_memory : (view : View) (r : Result Ended Stop) (told old new : Option (List ℕ)) (source_old source_new sink_old sink_new : ℕ) → Writes told old new (Draws view r) → (IsErrOf r SourceFault → Rose source_old source_new)
    → (IsErrOf r SinkFault → Rose sink_old sink_new) → (Rose source_old source_new → ⊥) → (Rose sink_old sink_new → ⊥)
    → IfSome told (λ text. (n : ℕ) → IsFirstOutside text n → ((status_for r).0 ≡ 1) ⊎ ((status_for r).0 ≡ 5))
refused_or_memory view r None old new so sn ko kn w read write calm_source calm_sink = tt
refused_or_memory view (Ok Done) (Some text) old new so sn ko kn w read write calm_source calm_sink = λ n is. absurd (never_both text w.2.run n w.2.is is)
refused_or_memory view (Ok Refused) (Some text) old new so sn ko kn w read write calm_source calm_sink = λ n is. inl refl
refused_or_memory view (Ok Usage) (Some text) old new so sn ko kn w read write calm_source calm_sink = absurd w.2
refused_or_memory view (Err SourceFault) (Some text) old new so sn ko kn w read write calm_source calm_sink = absurd (calm_source (read refl))
refused_or_memory view (Err SinkFault) (Some text) old new so sn ko kn w read write calm_source calm_sink = absurd (calm_sink (write refl))
refused_or_memory view (Err NoMemory) (Some text) old new so sn ko kn w read write calm_source calm_sink = λ n is. inr refl
