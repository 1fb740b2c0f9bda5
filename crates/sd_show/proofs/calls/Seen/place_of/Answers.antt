use Rattle.std.proofs.Common.{◌<◌, List, length, ap, subst, ◌∙◌}
use Rattle.std.specs.Prelude.{IfSome}
use Rattle.std.specs.BTreeMap.{get}
use Rattle.sd_show.specs.declared.calls.Heard.{Heard}
use Rattle.sd_show.specs.declared.calls.Exchange.{Exchange}
use Rattle.sd_show.specs.Calls.{answered}
use Rattle.sd_show.specs.Exchanges.{exchange_of, exchange_cmp, IsAskedAt}
use Rattle.sd_show.proofs.Indexed.{to_all, by_index, within}
use Rattle.sd_show.proofs.calls.Seen.place_of.Goals as goal

pub returns-clause-within : goal.returns-clause-within
returns-clause-within c =
    let index = c.self.inside.index in
    let back = exchange_of c.args.xid c.args.dst c.args.src in
    let all = exchange_of c.args.xid c.args.dst (to_all c.args.src) in
    subst (λ (calls : List Heard). IfSome c.later.result (λ place. place < length calls)) c.self.view_is
    (within index c.self.inside.calls.items back all c.copied-sent_back.result c.copied-sent_to_all.result c.later.result c.self.invariant c.later.ensures
    (c.copied-sent_back.ensures ∙ c.get.ensures.value ∙ ap (λ (e : Exchange). get exchange_cmp index e) c.exchange_of.ensures)
    (c.copied-sent_to_all.ensures ∙ c.get-2.ensures.value ∙ ap (λ (e : Exchange). get exchange_cmp index e) c.exchange_of-2.ensures))

pub returns-clause-asks : goal.returns-clause-asks
returns-clause-asks c =
    let index = c.self.inside.index in
    subst (λ (calls : List Heard). IsAskedAt calls c.later.result (answered c.args.xid c.args.src c.args.dst calls)) c.self.view_is
    (by_index c.args.xid c.args.src c.args.dst index c.self.inside.calls.items c.copied-sent_back.result c.copied-sent_to_all.result c.later.result c.self.invariant c.later.ensures
    (c.copied-sent_back.ensures ∙ c.get.ensures.value ∙ ap (λ (e : Exchange). get exchange_cmp index e) c.exchange_of.ensures)
    (c.copied-sent_to_all.ensures ∙ c.get-2.ensures.value ∙ ap (λ (e : Exchange). get exchange_cmp index e) c.exchange_of-2.ensures))
