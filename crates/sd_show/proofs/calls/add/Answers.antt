use Rattle.std.proofs.Common.{◌≡◌, ◌++◌, ◌∷◌, [], List, length, Some, true, cond, sym, ap, subst, ◌∙◌, arith}
use Rattle.std.specs.Prelude.{is_ok}
use Rattle.std.specs.BTreeMap.{Updates}
use Rattle.sd_show.specs.declared.calls.Heard.{Heard}
use Rattle.sd_show.specs.declared.calls.Exchange.{Exchange}
use Rattle.sd_show.specs.Exchanges.{exchange_cmp, latest}
use Rattle.sd_show.proofs.Indexed.{index_grows}
use Rattle.sd_show.proofs.calls.add.Goals as goal

pub returns-clause-index : goal.returns-clause-index
returns-clause-index c = λ was e.
    let key = subst (λ (k : Exchange). Updates exchange_cmp c.args.index.now c.insert.new.self k (Some (length c.as_slice-place.result.now))) c.exchange_of.ensures c.in_ok-insert.ensures.updates in
    let pushed : is_ok c.push.result ≡ true = c.push.ensures.succeeds (omega (arith, c.in_ok-try_reserve.ensures.ok)) in
    let items : c.push.new.self.items ≡ c.args.calls.now.items ++ c.args.call ∷ [] =
    c.push.ensures.items ∙ ap (λ v. cond v (c.try_reserve.new.self.items ++ c.args.call ∷ []) c.try_reserve.new.self.items) pushed ∙ ap (λ (calls : List Heard). calls ++ c.args.call ∷ []) c.in_ok-try_reserve.ensures.items in
    index_grows c.args.index.now c.insert.new.self c.args.calls.now.items c.args.call (length c.as_slice-place.result.now) (ap length c.as_slice-place.ensures.value) key was e
    ∙ ap (λ (calls : List Heard). latest e 0 calls) (sym items)
