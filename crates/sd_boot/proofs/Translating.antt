-- What `show` and `pack` write, by how each of their parts ended.
use Rattle.std.proofs.Common.{◌≡◌, ℕ, ◌<◌, ◌≤◌, List, [], ◌∷◌, ◌++◌, length, Option, Some, None, Result, Ok, Err, refl, sym, ◌∙◌, ap, subst, arith, inl, inr}
use Rattle.std.specs.Prelude.{◌⊎◌, IfOk, IfSome}
use Rattle.std.specs.List.{concat}
use Rattle.sd_text.specs.Texts.{Text}
use Rattle.sd_outside.specs.Streams.{IsPrefixOf}
use Rattle.sd_script.specs.Limits.{input_limit}
use Rattle.sd_outside.specs.Lines.{lines}
use Rattle.sd_script.proofs.OneScript.{lines_joined}
use Rattle.sd_streams.specs.Writing.{GainsPrefix, GainsSome, Writes}
use Rattle.sd_streams.proofs.Gaining.{gains_nothing}
use Rattle.sd_boot.specs.declared.packet_texts.Direction.{Direction}
use Rattle.sd_boot.specs.declared.status.Ended.{Ended}
use Rattle.sd_boot.specs.declared.status.Ended.TheVariants.{Done, Refused, Usage, NoImage}
use Rattle.sd_boot.specs.declared.status.Stop.{Stop}
use Rattle.sd_boot.specs.declared.status.Stop.TheVariants.{SourceFault, SinkFault, NoMemory}
use Rattle.sd_boot.specs.Input.{IsRead}
use Rattle.sd_boot.specs.PacketTexts.{IsTranslated, IsTextRefusal, IsTextPrefix, Translates}
use Rattle.sd_boot.proofs.Cutting.{Extends, extends, IsThere, there, concat-last}

-- ---- from a text to what was written

-- nothing was written
pub no_memory : (d : Direction) (text : Text) (told : Option (List ℕ)) → GainsSome told told (Translates d (Err NoMemory) text)
no_memory d text told = ([], gains_nothing told, inl refl)

full : (d : Direction) (text out : Text) (ended : Ended) → Translates d (Ok ended) text out → IsTranslated d text out ⊎ IsTextRefusal d text out
full d text out Done t = inl t
full d text out Refused t = inr t
full d text out Usage t = absurd t
full d text out NoImage t = absurd t

-- the sink failed on the way
pub not_written : (d : Direction) (text out : Text) (ended : Ended) (old new : Option (List ℕ)) (stop : Stop) → Translates d (Ok ended) text out → GainsPrefix old new out
    → (stop ≡ SourceFault → ⊥) → GainsSome old new (Translates d (Err stop) text)
not_written d text out ended old new SourceFault t f never = absurd (never refl)
not_written d text out ended old new SinkFault t f never = (f.0, f.2, inr (record { full = out; is = full d text out ended t; prefix = f.1 }))
not_written d text out ended old new NoMemory t f never = (f.0, f.2, inr (record { full = out; is = full d text out ended t; prefix = f.1 }))

-- ---- from what was read to what the source told

-- a front that passes the limit is refused where the whole is
refusal_alike : (d : Direction) (front whole out : Text) → input_limit < length front → IsPrefixOf front whole → IsTextRefusal d front out → IsTextRefusal d whole out
refusal_alike d front whole out long is p =
    let rest = is.0 in
    let t = there p.before p.line p.others (lines (front ++ rest)) (subst (λ (l : List (List ℕ)). Extends l (lines (front ++ rest))) p.cut (extends front rest)) in
    of t t.same
  where
    of : (t : IsThere p.before p.line p.others (lines (front ++ is.0))) → (t.grown ≡ p.line) ⊎ ((p.others ≡ []) × (length p.line ≤ length t.grown)) → IsTextRefusal d whole out
    of t (inl same) = record {
      before = p.before;
      line = p.line;
      others = t.others;
      texts = p.texts;
      seen = p.seen;
      word = p.word;
      place = p.place;
      cut = ap lines (sym is.1) ∙ t.cut ∙ ap (λ (l : List ℕ). p.before ++ (l ∷ t.others)) same;
      within = p.within;
      given = p.given;
      why = p.why;
      whole = p.whole;
    }
    of t (inr grew) =
        let last : lines front ≡ p.before ++ (p.line ∷ []) = p.cut ∙ ap (λ (l : List (List ℕ)). p.before ++ (p.line ∷ l)) grew.0 in
        let sum = ap length (sym (lines_joined front) ∙ ap concat last) ∙ concat-last p.before p.line in
        record {
          before = p.before;
          line = t.grown;
          others = t.others;
          texts = p.texts;
          seen = p.seen;
          word = p.word;
          place = p.place;
          cut = ap lines (sym is.1) ∙ t.cut;
          within = p.within;
          given = p.given;
          why = elim p.why [ inl far ↦ inl (omega (arith, far.0, grew.1), far.1) | inr near ↦ absurd (omega (arith, long, sum, near.0)) ];
          whole = p.whole;
        }

front_alike : (d : Direction) (text all out : Text) → IsPrefixOf text all → input_limit < length text → IsTextPrefix d text out → IsTextPrefix d all out
front_alike d text all out front long (inl none) = inl none
front_alike d text all out front long (inr p) = elim p.is [
  | inl whole ↦ absurd (omega (arith, long, whole.within))
  | inr placed ↦ inr (record { full = p.full; is = inr (refusal_alike d text all p.full long front placed); prefix = p.prefix })
]

alike : (d : Direction) (r : Result Ended Stop) (text all out : Text) → IsPrefixOf text all → input_limit < length text → Translates d r text out → Translates d r all out
alike d (Ok Done) text all out front long t = absurd (omega (arith, long, t.within))
alike d (Ok Refused) text all out front long t = refusal_alike d text all out long front t
alike d (Ok Usage) text all out front long t = t
alike d (Ok NoImage) text all out front long t = t
alike d (Err SourceFault) text all out front long t = t
alike d (Err SinkFault) text all out front long t = front_alike d text all out front long t
alike d (Err NoMemory) text all out front long t = front_alike d text all out front long t

-- what was read is turned into what all that the source told is
pub translated : (d : Direction) (told left : Option (List ℕ)) (text : Text) (old new : Option (List ℕ)) (r : Result Ended Stop) → IsRead told left text
    → GainsSome old new (Translates d r text) → Writes told old new (Translates d r)
translated d None left text old new r read gained = tt
translated d (Some all) left text old new r (inl whole) gained = subst (λ (t : List ℕ). GainsSome old new (Translates d r t)) whole.0 gained
translated d (Some all) left text old new r (inr cut) gained = (gained.0, gained.1, alike d r text all gained.0 cut.0 cut.1 gained.2)

-- nothing was written, since the source failed or there was no memory
pub unread : (d : Direction) (told : Option (List ℕ)) (sink : Option (List ℕ)) (stop : Stop) → (stop ≡ SinkFault → ⊥) → Writes told sink sink (Translates d (Err stop))
unread d None sink stop never = tt
unread d (Some all) sink SourceFault never = ([], gains_nothing sink, refl)
unread d (Some all) sink SinkFault never = absurd (never refl)
unread d (Some all) sink NoMemory never = ([], gains_nothing sink, inl refl)

-- where all was done, the source was read to its end
pub read_whole : (d : Direction) (told left : Option (List ℕ)) (text : Text) (old new : Option (List ℕ)) (r : Result Ended Stop) → IsRead told left text
    → GainsSome old new (Translates d r text) → IfOk r (λ ended. ended ≡ Done → IfSome told (λ all. left ≡ Some []))
read_whole d None left text old new (Ok ended) read gained = λ is. tt
read_whole d (Some all) left text old new (Ok ended) (inl whole) gained = λ is. whole.1
read_whole d (Some all) left text old new (Ok ended) (inr cut) gained = λ is.
    let done = subst (λ (e : Ended). Translates d (Ok e) text gained.0) is gained.2 in
    absurd (omega (arith, cut.1, done.within))
read_whole d told left text old new (Err stop) read gained = tt
