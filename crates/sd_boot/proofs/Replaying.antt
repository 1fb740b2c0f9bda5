-- What a replay writes, by how each of its parts ended.
use Rattle.std.proofs.Common.{◌≡◌, ℕ, ◌<◌, List, [], length, Option, Some, None, Result, Ok, Err, refl, sym, subst, inl, inr}
use Rattle.std.specs.Prelude.{OnOk, OnErr, IfOk, IsErrOf, IfSome}
use Rattle.sd_outside.specs.Streams.{Gains, IsPrefixOf}
use Rattle.sd_script.specs.declared.script.Script.{Script}
use Rattle.sd_script.specs.Limits.{input_limit}
use Rattle.sd_script.specs.Grammar.{IsScript, IsFirstOutside}
use Rattle.sd_claims.specs.Headline.{Plays, PlaysPrefix, IsRefusal, IsOutputPrefix, refusal_line}
use Rattle.sd_streams.specs.Writing.{GainsPrefix, GainsSome, Writes}
use Rattle.sd_streams.proofs.Gaining.{gains_nothing}
use Rattle.sd_boot.specs.declared.status.Ended.{Ended}
use Rattle.sd_boot.specs.declared.status.Ended.TheVariants.{Done, Refused, Usage, NoImage}
use Rattle.sd_boot.specs.declared.status.Stop.{Stop}
use Rattle.sd_boot.specs.declared.status.Stop.TheVariants.{SourceFault, SinkFault, NoMemory}
use Rattle.sd_boot.specs.Input.{IsRead}
use Rattle.sd_boot.specs.Replay.{Replays}
use Rattle.sd_boot.proofs.Cutting.{no_script, refused_alike}

-- nothing was written
pub no_memory : (text : List ℕ) (told : Option (List ℕ)) → GainsSome told told (Replays (Err NoMemory) text)
no_memory text told = ([], gains_nothing told, inl refl)

-- the text was refused
pub refused : (text : List ℕ) (n : ℕ) (old new : Option (List ℕ)) (r : Result Ended Stop) → IsFirstOutside text n
    → OnOk r (Gains old new (refusal_line n)) → OnErr r (GainsPrefix old new (refusal_line n)) → IfOk r (λ ended. ended ≡ Refused) → (IsErrOf r SourceFault → ⊥)
    → GainsSome old new (Replays r text)
refused text n old new (Ok ended) first ok err is never =
    (refusal_line n, ok, subst (λ (e : Ended). Replays (Ok e) text (refusal_line n)) (sym is) (record { line = n; first = first; whole = refl }))
refused text n old new (Err SourceFault) first ok err is never = absurd (never refl)
refused text n old new (Err SinkFault) first ok err is never =
    (err.0, err.2, inr (inr (record { full = refusal_line n; refusal = record { line = n; first = first; whole = refl }; prefix = err.1 })))
refused text n old new (Err NoMemory) first ok err is never =
    (err.0, err.2, inr (inr (record { full = refusal_line n; refusal = record { line = n; first = first; whole = refl }; prefix = err.1 })))

-- the script was played
pub played_text : (text : List ℕ) (script : Script) (old new : Option (List ℕ)) (r : Result Ended Stop) → IsScript text script
    → OnOk r (GainsSome old new (Plays script)) → OnErr r (GainsSome old new (PlaysPrefix script)) → IfOk r (λ ended. ended ≡ Done) → (IsErrOf r SourceFault → ⊥)
    → GainsSome old new (Replays r text)
played_text text script old new (Ok ended) spelled ok err is never =
    (ok.0, ok.1, subst (λ (e : Ended). Replays (Ok e) text ok.0) (sym is) (record { script = script; spelled = spelled; plays = ok.2 }))
played_text text script old new (Err SourceFault) spelled ok err is never = absurd (never refl)
played_text text script old new (Err SinkFault) spelled ok err is never = (err.0, err.1, inr (inl (record { script = script; spelled = spelled; plays = err.2 })))
played_text text script old new (Err NoMemory) spelled ok err is never = (err.0, err.1, inr (inl (record { script = script; spelled = spelled; plays = err.2 })))

-- ---- from what was read to what the source told

pub refusal_alike : (text all out : List ℕ) → IsPrefixOf text all → input_limit < length text → IsRefusal text out → IsRefusal all out
refusal_alike text all out front long r = record { line = r.line; first = refused_alike text all r.line long front r.first; whole = r.whole }

front_alike : (text all out : List ℕ) → IsPrefixOf text all → input_limit < length text → IsOutputPrefix text out → IsOutputPrefix all out
front_alike text all out front long (inl none) = inl none
front_alike text all out front long (inr (inl cut)) = absurd (no_script text cut.script long cut.spelled)
front_alike text all out front long (inr (inr cut)) = inr (inr (record { full = cut.full; refusal = refusal_alike text all cut.full front long cut.refusal; prefix = cut.prefix }))

alike : (r : Result Ended Stop) (text all out : List ℕ) → IsPrefixOf text all → input_limit < length text → Replays r text out → Replays r all out
alike (Ok Done) text all out front long r = absurd (no_script text r.script long r.spelled)
alike (Ok Refused) text all out front long r = refusal_alike text all out front long r
alike (Ok Usage) text all out front long r = r
alike (Ok NoImage) text all out front long r = r
alike (Err SourceFault) text all out front long r = r
alike (Err SinkFault) text all out front long r = front_alike text all out front long r
alike (Err NoMemory) text all out front long r = front_alike text all out front long r

-- a replay of what was read is one of what the source told
pub replayed : (told left : Option (List ℕ)) (text : List ℕ) (old new : Option (List ℕ)) (r : Result Ended Stop) → IsRead told left text → GainsSome old new (Replays r text) → Writes told old new (Replays r)
replayed None left text old new r read gained = tt
replayed (Some all) left text old new r (inl whole) gained = subst (λ (t : List ℕ). GainsSome old new (Replays r t)) whole.0 gained
replayed (Some all) left text old new r (inr cut) gained = (gained.0, gained.1, alike r text all gained.0 cut.0 cut.1 gained.2)

-- nothing was written, since the source failed or there was no memory
pub unread : (told : Option (List ℕ)) (sink : Option (List ℕ)) (stop : Stop) → (stop ≡ SinkFault → ⊥) → Writes told sink sink (Replays (Err stop))
unread None sink stop never = tt
unread (Some all) sink SourceFault never = ([], gains_nothing sink, refl)
unread (Some all) sink SinkFault never = absurd (never refl)
unread (Some all) sink NoMemory never = ([], gains_nothing sink, inl refl)

-- where all was done, the source was read to its end
pub read_whole : (told left : Option (List ℕ)) (text : List ℕ) (old new : Option (List ℕ)) (r : Result Ended Stop) → IsRead told left text → GainsSome old new (Replays r text)
    → IfOk r (λ ended. ended ≡ Done → IfSome told (λ all. left ≡ Some []))
read_whole None left text old new (Ok ended) read gained = λ is. tt
read_whole (Some all) left text old new (Ok ended) (inl whole) gained = λ is. whole.1
read_whole (Some all) left text old new (Ok ended) (inr cut) gained = λ is.
    let done = subst (λ (e : Ended). Replays (Ok e) text gained.0) is gained.2 in
    absurd (no_script text done.script cut.1 done.spelled)
read_whole told left text old new (Err stop) read gained = tt
