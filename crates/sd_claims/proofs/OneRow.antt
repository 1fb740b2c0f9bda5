-- A row of calls leaves no choice: what comes of each call is fixed, and it fixes which call is next.
use Rattle.std.proofs.Common.{◌≡◌, ℕ, zero, suc, List, [], ◌++◌, Ok, Err, refl, sym, ◌∙◌, ap, subst, append_assoc}
use Rattle.sd_config.specs.declared.stage.Stage.{Stage}
use Rattle.sd_link.specs.Steps.{Step}
use Rattle.sd_link.specs.Tries.{beyond}
use Rattle.sd_rpc_retry.specs.declared.calling.Answer.{Answer}
use Rattle.sd_rpc_retry.specs.declared.calling.Caller.{Caller}
use Rattle.sd_rpc_retry.specs.Calling.{Verdict, request, hearing_of}
use Rattle.sd_rpc_retry.specs.Chain.{Call, OfCall, CallTold, after_call, Lead, on, out, nowhere, Way, Leads, here, further, RowEnd, came, timed_out, flooded, denied, failed, EndsAt, Row}
use Rattle.sd_claims.proofs.OneOutcome.{gave, Went, went_one, went_in_vain, went_in_flood, went_so}

-- the network didn't fail
abbrev pub IsCalm : {E : Type 0} → RowEnd E → Type 0
IsCalm (failed step) = ⊥
IsCalm end = Unit {0}

module _ {P E : Type 0} (way : Way P E) where
  -- how a row ends, and who would call next
  abbrev Ends : Type 0
  Ends = RowEnd E × Caller

  abbrev LeadsOn : (P → Caller → List Step → Ends → Type 0) → Caller → Lead P E → List Step → Ends → Type 0
  LeadsOn more caller (on next) rest r = more next (after_call caller) rest r
  LeadsOn more caller (out end) rest r = r ≡ (came end, after_call caller)
  LeadsOn more caller nowhere rest r = ⊥

  abbrev TellsOn : (P → Caller → List Step → Ends → Type 0) → P → Caller → Verdict → List Step → Ends → Type 0
  TellsOn more at caller (Ok answer) rest r = LeadsOn more caller (way.leads at answer) rest r
  TellsOn more at caller (Err code) rest r = r ≡ (denied (way.step at) code, after_call caller)

  -- what comes of the calls from a place on, at most so many
  pub RowWent : ℕ → P → Caller → List Step → Ends → Type 0
  RowWent zero at caller part r = ⊥
  RowWent (suc k) at caller part r =
      Went (request caller (way.call at).dst (way.call at).ask) (hearing_of caller (way.call at).dst (way.call at).ask) caller.tries (timed_out (way.step at), after_call caller) (flooded (way.step at), after_call caller)
      (λ verdict rest r. TellsOn (RowWent k) at caller verdict rest r) part r

  leads_one : (more other : P → Caller → List Step → Ends → Type 0) → ((at : P) (caller : Caller) (rest : List Step) (a b : Ends) → more at caller rest a → other at caller rest b → a ≡ b)
      → (caller : Caller) (lead : Lead P E) (rest : List Step) (a b : Ends) → LeadsOn more caller lead rest a → LeadsOn other caller lead rest b → a ≡ b
  leads_one more other one caller (on next) rest a b v w = one next (after_call caller) rest a b v w
  leads_one more other one caller (out end) rest a b v w = v ∙ sym w
  leads_one more other one caller nowhere rest a b v w = absurd v

  tells_one : (more other : P → Caller → List Step → Ends → Type 0) → ((at : P) (caller : Caller) (rest : List Step) (a b : Ends) → more at caller rest a → other at caller rest b → a ≡ b)
      → (at : P) (caller : Caller) (verdict : Verdict) (rest : List Step) (a b : Ends) → TellsOn more at caller verdict rest a → TellsOn other at caller verdict rest b → a ≡ b
  tells_one more other one at caller (Ok answer) rest a b v w = leads_one more other one caller (way.leads at answer) rest a b v w
  tells_one more other one at caller (Err code) rest a b v w = v ∙ sym w

  pub row_one : (j k : ℕ) (at : P) (caller : Caller) (part : List Step) (a b : Ends) → RowWent j at caller part a → RowWent k at caller part b → a ≡ b
  unfolding RowWent
  row_one zero k at caller part a b v w = absurd v
  row_one (suc j) zero at caller part a b v w = absurd w
  row_one (suc j) (suc k) at caller part a b v w =
      went_one (request caller (way.call at).dst (way.call at).ask) (hearing_of caller (way.call at).dst (way.call at).ask) caller.tries (timed_out (way.step at), after_call caller) (flooded (way.step at), after_call caller)
      (λ verdict rest r. TellsOn (RowWent j) at caller verdict rest r) (λ verdict rest r. TellsOn (RowWent k) at caller verdict rest r)
      (λ verdict rest a b v w. tells_one (RowWent j) (RowWent k) (λ at caller rest a b v w. row_one j k at caller rest a b v w) at caller verdict rest a b v w)
      part a b v w

  module _ (told : Verdict → OfCall) (is_told : (verdict : Verdict) (settled : List Step → Type 0) (caller : Caller) (call : Call) (part : List Step) → told verdict settled caller call part → CallTold verdict settled caller call part) where
    -- what comes after some calls is what comes of the whole row
    leads_then : (settled : List Step → Type 0) (from : P) (first : Caller) (at : P) (caller : Caller) (before : List Step) → Leads way told settled from first at caller before → (k : ℕ) (last : List Step) (r : Ends) → RowWent k at caller last r
        → (j : ℕ) × RowWent j from first (before ++ last) r
    unfolding RowWent
    leads_then settled from first _ _ _ here k last r went = (k, went)
    leads_then settled from first _ _ _ (further at next caller answer before more so_far t leads) k last r went =
        let one : RowWent (suc k) at caller (more ++ last) r = record {
          outcome = gave (Ok answer);
          own = more;
          rest = last;
          cut = refl;
          ended = (is_told (Ok answer) (beyond settled before) caller (way.call at) more t).ends;
          follows = subst (λ lead. LeadsOn (RowWent k) caller lead last r) (sym leads) went;
        } in
        let all = leads_then settled from first at caller before so_far (suc k) (more ++ last) r one in
        (all.0, subst (λ (l : List Step). RowWent all.0 from first l r) (sym (append_assoc before more last)) all.1)

    end_went : (settled : List Step → Type 0) (at : P) (caller : Caller) (end : RowEnd E) (part : List Step) → IsCalm end → EndsAt way told at end settled caller part → RowWent 1 at caller part (end, after_call caller)
    unfolding RowWent
    end_went settled at caller (came end) part calm x =
        went_so settled (request caller (way.call at).dst (way.call at).ask) (hearing_of caller (way.call at).dst (way.call at).ask) caller.tries caller.wait (timed_out (way.step at), after_call caller) (flooded (way.step at), after_call caller)
        (λ verdict rest r. TellsOn (RowWent 0) at caller verdict rest r) part (Ok x.0) (came end, after_call caller)
        (is_told (Ok x.0) settled caller (way.call at) part x.2)
        (subst (λ lead. LeadsOn (RowWent 0) caller lead [] (came end, after_call caller)) (sym x.1) refl)
    end_went settled at caller (timed_out step) part calm x =
        subst (λ s. RowWent 1 at caller part (timed_out s, after_call caller)) (sym x.0)
        (went_in_vain settled (request caller (way.call at).dst (way.call at).ask) (hearing_of caller (way.call at).dst (way.call at).ask) caller.tries caller.wait (timed_out (way.step at), after_call caller) (flooded (way.step at), after_call caller)
        (λ verdict rest r. TellsOn (RowWent 0) at caller verdict rest r) part x.1)
    end_went settled at caller (flooded step) part calm x =
        subst (λ s. RowWent 1 at caller part (flooded s, after_call caller)) (sym x.0)
        (went_in_flood settled (request caller (way.call at).dst (way.call at).ask) (hearing_of caller (way.call at).dst (way.call at).ask) caller.tries caller.wait (timed_out (way.step at), after_call caller) (flooded (way.step at), after_call caller)
        (λ verdict rest r. TellsOn (RowWent 0) at caller verdict rest r) part x.1)
    end_went settled at caller (denied step code) part calm x =
        went_so settled (request caller (way.call at).dst (way.call at).ask) (hearing_of caller (way.call at).dst (way.call at).ask) caller.tries caller.wait (timed_out (way.step at), after_call caller) (flooded (way.step at), after_call caller)
        (λ verdict rest r. TellsOn (RowWent 0) at caller verdict rest r) part (Err code) (denied step code, after_call caller)
        (is_told (Err code) settled caller (way.call at) part x.1)
        (ap (λ s. (denied s code, after_call caller)) x.0)
    end_went settled at caller (failed step) part calm x = absurd calm

    -- the row went so
    pub row_went : (settled : List Step → Type 0) (from : P) (first next : Caller) (end : RowEnd E) (part : List Step) → IsCalm end → Row way told settled from first end next part → (k : ℕ) × RowWent k from first part (end, next)
    row_went settled from first next end part calm r =
        let last = subst (λ c. RowWent 1 r.at r.caller r.last (end, c)) (sym r.next_is) (end_went (beyond settled r.before) r.at r.caller end r.last calm r.ends) in
        let all = leads_then settled from first r.at r.caller r.before r.leads 1 r.last (end, next) last in
        (all.0, subst (λ (l : List Step). RowWent all.0 from first l (end, next)) (sym r.cut) all.1)
