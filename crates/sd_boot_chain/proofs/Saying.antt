-- What a session writes over every link, one command more.
use Rattle.std.proofs.Common.{◌≡◌, ℕ, ◌+◌, ◌≤◌, List, [], ◌∷◌, ◌++◌, take, Option, refl, sym, ◌∙◌, ap, subst, append_assoc, arith}
use Rattle.std.proofs.lemmas.Grind.{flat_map-append}
use Rattle.std.proofs.lemmas.List.{append-nil}
use Rattle.sd_outside.specs.Streams.{Gains, IsPrefixOf}
use Rattle.sd_config.specs.declared.command.Command.{Command}
use Rattle.sd_script.specs.Answers.{answer_line}
use Rattle.sd_claims.specs.AnyLink.{IsMet, Needs, FaultIsCounted}
use Rattle.sd_claims.specs.Wrote.{Counted, Said, AllNeeded, counted_after, lines_of, text_of, Wrote, WrotePrefix}
use Rattle.sd_streams.specs.Writing.{GainsPrefix}
use Rattle.sd_boot_chain.specs.Step.{IsSaid}
use Rattle.sd_streams.proofs.Gaining.{gains_then, gains_nothing}

needed-push : (long : ℕ) (before : Counted) (commands : List Command) (command : Command) (said : List Said) (s : Said) → AllNeeded long before commands said
    → Needs long (IsMet (counted_after before said).handed s.counted.handed (counted_after before said).clock s.counted.clock) command s.answer → FaultIsCounted (counted_after before said).faults s.counted.faults s.answer
    → AllNeeded long before (commands ++ command ∷ []) (said ++ s ∷ [])
needed-push long before [] command [] s all one fault = (one, fault, tt)
needed-push long before [] command (e ∷ es) s all one fault = absurd all
needed-push long before (k ∷ ks) command [] s all one fault = absurd all
needed-push long before (k ∷ ks) command (e ∷ es) s all one fault = (all.0, all.1, needed-push long e.counted ks command es s all.2 one fault)

counted-push : (before : Counted) (said : List Said) (s : Said) → counted_after before (said ++ s ∷ []) ≡ s.counted
counted-push before [] s = refl
counted-push before (e ∷ es) s = counted-push e.counted es s

lines-push : (said : List Said) (s : Said) → lines_of (said ++ s ∷ []) ≡ lines_of said ++ s.lines
lines-push said s = flat_map-append (λ e. e.lines) said (s ∷ []) ∙ ap (λ (l : List ℕ). lines_of said ++ l) (append-nil s.lines)

text-push : (said : List Said) (s : Said) → text_of (said ++ s ∷ []) ≡ text_of said ++ (s.lines ++ answer_line s.answer)
text-push said s = flat_map-append (λ e. e.lines ++ answer_line e.answer) said (s ∷ []) ∙ ap (λ (l : List ℕ). text_of said ++ l) (append-nil (s.lines ++ answer_line s.answer))

pub wrote_nothing : (long : ℕ) (before : Counted) (drained : List ℕ) (sink : Option (List ℕ)) → Wrote long [] before before drained drained sink sink
wrote_nothing long before drained sink = record { said = []; needed = tt; counts = refl; drained = sym (append-nil drained); text = gains_nothing sink }

module _ (long : ℕ) (commands : List Command) (command : Command) (before mid now : Counted) (d0 d1 d2 : List ℕ) (s0 s1 : Option (List ℕ)) (text : List ℕ) (w : Wrote long commands before mid d0 d1 s0 s1) (is : IsSaid long command mid now d1 d2 text) where
  last : Said
  last = record { lines = is.lines; answer = is.answer; counted = now }

  more : List Said
  more = w.said ++ last ∷ []

  needed : AllNeeded long before (commands ++ command ∷ []) more
  unfolding last more
  needed = needed-push long before commands command w.said last w.needed (subst (λ (m : Counted). Needs long (IsMet m.handed now.handed m.clock now.clock) command is.answer) (sym w.counts) is.needed)
      (subst (λ (m : Counted). FaultIsCounted m.faults now.faults is.answer) (sym w.counts) is.counted)

  drained : d2 ≡ d0 ++ lines_of more
  unfolding last more
  drained = is.drained ∙ ap (λ (l : List ℕ). l ++ is.lines) w.drained ∙ append_assoc d0 (lines_of w.said) is.lines ∙ ap (λ (l : List ℕ). d0 ++ l) (sym (lines-push w.said last))

  whole : text_of more ≡ text_of w.said ++ text
  unfolding last more
  whole = text-push w.said last ∙ ap (λ (l : List ℕ). text_of w.said ++ l) (sym is.is)

  counts : counted_after before more ≡ now
  unfolding last more
  counts = counted-push before w.said last

  -- the text was written whole
  pub wrote_more : (s2 : Option (List ℕ)) → Gains s1 s2 text → Wrote long (commands ++ command ∷ []) before now d0 d2 s0 s2
  wrote_more s2 gained = record {
    said = more;
    needed = needed;
    counts = counts;
    drained = drained;
    text = subst (λ (l : List ℕ). Gains s0 s2 l) (sym whole) (gains_then s0 s1 s2 (text_of w.said) text w.text gained);
  }

  -- the text was written in part
  pub wrote_part : (all : List Command) (n : ℕ) (s2 : Option (List ℕ)) → take (n + 1) all ≡ commands ++ command ∷ [] → GainsPrefix s1 s2 text → WrotePrefix long all before now d0 d2 s0 s2
  wrote_part all n s2 these gained = record {
    count = n + 1;
    said = more;
    needed = subst (λ (l : List Command). AllNeeded long before l more) (sym these) needed;
    handed = let e = ap (λ (k : Counted). k.handed) counts in omega (arith, e);
    clock = let e = ap (λ (k : Counted). k.clock) counts in omega (arith, e);
    faults = let e = ap (λ (k : Counted). k.faults) counts in omega (arith, e);
    drained = ([], append-nil (d0 ++ lines_of more) ∙ sym drained);
    text = (
      text_of w.said ++ gained.0,
      (gained.1.0, append_assoc (text_of w.said) gained.0 gained.1.0 ∙ ap (λ (l : List ℕ). text_of w.said ++ l) gained.1.1 ∙ sym whole),
      gains_then s0 s1 s2 (text_of w.said) gained.0 w.text gained.2,
    );
  }

-- the next command ended without an answer
pub wrote_cut : (long : ℕ) (commands : List Command) (n : ℕ) (before mid now : Counted) (d0 d1 d2 : List ℕ) (s0 s1 : Option (List ℕ)) → Wrote long (take n commands) before mid d0 d1 s0 s1 → mid.handed ≤ now.handed → mid.clock ≤ now.clock → mid.faults ≤ now.faults → IsPrefixOf d1 d2
    → WrotePrefix long commands before now d0 d2 s0 s1
wrote_cut long commands n before mid now d0 d1 d2 s0 s1 w handed clock faults front = record {
  count = n;
  said = w.said;
  needed = w.needed;
  handed = let e = ap (λ (k : Counted). k.handed) w.counts in omega (arith, e, handed);
  clock = let e = ap (λ (k : Counted). k.clock) w.counts in omega (arith, e, clock);
  faults = let e = ap (λ (k : Counted). k.faults) w.counts in omega (arith, e, faults);
  drained = (front.0, ap (λ (l : List ℕ). l ++ front.0) (sym w.drained) ∙ front.1);
  text = (text_of w.said, ([], append-nil (text_of w.said)), w.text);
}
