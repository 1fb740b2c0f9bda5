-- What holds of rows of calls.
use Rattle.std.proofs.Common.{◌≡◌, ℕ, ◌+◌, ◌≤◌, List, [], ◌++◌, Ok, Err, refl, sym, ◌∙◌, ap, subst, arith, append_assoc}
use Rattle.std.proofs.lemmas.List.{append-nil}
use Rattle.sd_config.specs.declared.stage.Stage.{Stage}
use Rattle.sd_link.specs.Steps.{Step}
use Rattle.sd_link.specs.Tries.{beyond}
use Rattle.sd_rpc_retry.specs.declared.calling.Answer.{Answer}
use Rattle.sd_rpc_retry.specs.declared.calling.Caller.{Caller}
use Rattle.sd_rpc_retry.specs.Calling.{Verdict}
use Rattle.sd_rpc_retry.specs.Chain.{Call, OfCall, after_call, Lead, on, out, Way, Leads, here, further, RowEnd, came, timed_out, flooded, denied, failed, EndsAt, Row}
use Rattle.sd_rpc_retry.proofs.Settling.{beyond-both}

module _ {P E : Type 0} (way : Way P E) where
  -- ---- one call first

  module _ (told : Verdict → OfCall) where
    told_first : (settled : List Step → Type 0) (from next : P) (first : Caller) (answer : Answer) (part : List Step) → told (Ok answer) settled first (way.call from) part → way.leads from answer ≡ on next
        → (to : P) (last : Caller) (rest : List Step) → Leads way told (beyond settled part) next (after_call first) to last rest → Leads way told settled from first to last (part ++ rest)
    told_first settled from next first answer part t leads _ _ _ here =
        subst (λ (l : List Step). Leads way told settled from first next (after_call first) l) (sym (append-nil part)) (further from next first answer [] part here t leads)
    told_first settled from next first answer part t leads _ _ _ (further at to caller more before last so_far u goes) =
        subst (λ (l : List Step). Leads way told settled from first to (after_call caller) l) (append_assoc part before last)
        (further at to caller more (part ++ before) last (told_first settled from next first answer part t leads at caller before so_far)
        (subst (λ (still : List Step → Type 0). told (Ok more) still caller (way.call at) last) (sym (beyond-both settled part before)) u) goes)

    -- the call of a place was answered, and what follows ended so
    pub row_then : (settled : List Step → Type 0) (from next : P) (first last : Caller) (answer : Answer) (end : RowEnd E) (part rest : List Step) → told (Ok answer) settled first (way.call from) part → way.leads from answer ≡ on next
        → Row way told (beyond settled part) next (after_call first) end last rest → Row way told settled from first end last (part ++ rest)
    row_then settled from next first last answer end part rest t leads r = record {
      at = r.at;
      caller = r.caller;
      before = part ++ r.before;
      last = r.last;
      leads = told_first settled from next first answer part t leads r.at r.caller r.before r.leads;
      ends = subst (λ (still : List Step → Type 0). EndsAt way told r.at end still r.caller r.last) (sym (beyond-both settled part r.before)) r.ends;
      next_is = r.next_is;
      cut = ap (λ (l : List Step). part ++ l) r.cut ∙ sym (append_assoc part r.before r.last);
    }

    -- a row of one call
    pub row_here : (settled : List Step → Type 0) (at : P) (caller : Caller) (end : RowEnd E) (part : List Step) → EndsAt way told at end settled caller part → Row way told settled at caller end (after_call caller) part
    row_here settled at caller end part ends = record { at = at; caller = caller; before = []; last = part; leads = here; ends = ends; next_is = refl; cut = refl }

    -- ---- each call takes a number

    leads_count : (settled : List Step → Type 0) (from : P) (first : Caller) (at : P) (caller : Caller) (part : List Step) → Leads way told settled from first at caller part → first.next_xid ≤ caller.next_xid
    leads_count settled from first _ _ _ here = omega arith
    leads_count settled from first _ _ _ (further at next caller answer before last so_far t leads) = let k = leads_count settled from first at caller before so_far in omega (arith, k)

    pub row_counts : (settled : List Step → Type 0) (from : P) (first next : Caller) (end : RowEnd E) (part : List Step) → Row way told settled from first end next part → first.next_xid + 1 ≤ next.next_xid
    row_counts settled from first next end part r =
        let k = leads_count settled from first r.at r.caller r.before r.leads in
        let e = ap (λ (c : Caller). c.next_xid) r.next_is in
        omega (arith, k, e)

  -- ---- what a call was told, in other words

  -- where this holds of the part in which it was told, and so of the pieces of a part
  module _ (told other : Verdict → OfCall) (Got : List Step → Type 0) (split : (xs ys : List Step) → Got (xs ++ ys) → Got xs × Got ys)
      (so : (at : P) (verdict : Verdict) (settled : List Step → Type 0) (caller : Caller) (part : List Step) → Got part → told verdict settled caller (way.call at) part → other verdict settled caller (way.call at) part) where
    leads_so : (settled : List Step → Type 0) (from : P) (first : Caller) (at : P) (caller : Caller) (part : List Step) → Got part → Leads way told settled from first at caller part → Leads way other settled from first at caller part
    leads_so settled from first _ _ _ got here = here
    leads_so settled from first _ _ _ got (further at next caller answer before last so_far t leads) =
        let g = split before last got in
        further at next caller answer before last (leads_so settled from first at caller before g.0 so_far) (so at (Ok answer) (beyond settled before) caller last g.1 t) leads

    ends_so : (end : RowEnd E) (at : P) (settled : List Step → Type 0) (caller : Caller) (part : List Step) → Got part → EndsAt way told at end settled caller part → EndsAt way other at end settled caller part
    ends_so (came e) at settled caller part got x = (x.0, x.1, so at (Ok x.0) settled caller part got x.2)
    ends_so (timed_out step) at settled caller part got x = x
    ends_so (flooded step) at settled caller part got x = x
    ends_so (denied step code) at settled caller part got x = (x.0, so at (Err code) settled caller part got x.1)
    ends_so (failed step) at settled caller part got x = x

    pub row_so : (settled : List Step → Type 0) (from : P) (first next : Caller) (end : RowEnd E) (part : List Step) → Got part → Row way told settled from first end next part → Row way other settled from first end next part
    row_so settled from first next end part got r =
        let g = split r.before r.last (subst Got r.cut got) in record {
          at = r.at;
          caller = r.caller;
          before = r.before;
          last = r.last;
          leads = leads_so settled from first r.at r.caller r.before g.0 r.leads;
          ends = ends_so end r.at (beyond settled r.before) r.caller r.last g.1 r.ends;
          next_is = r.next_is;
          cut = r.cut;
        }
