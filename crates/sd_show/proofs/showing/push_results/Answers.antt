use Rattle.std.proofs.Common.{◌≡◌, ◌++◌, refl, ap, ◌∙◌, arith}
use Rattle.std.proofs.lemmas.Result.{err_from_is_err_and}
use Rattle.sd_outside.specs.Bytes.{IsBytes}
use Rattle.sd_xdr.specs.Kind.{whole}
use Rattle.sd_xdr.specs.Grammar.{Refuses}
use Rattle.sd_rpc_msg.specs.Layout.{auth_value}
use Rattle.sd_text.specs.Texts.{Text}
use Rattle.sd_show.specs.Programs.{known_text, results, results_kind}
use Rattle.sd_show.specs.Messages.{read_as}
use Rattle.sd_show.specs.Packing.{fields_of}
use Rattle.sd_show.proofs.Agreeing.{results_are}
use Rattle.sd_show.proofs.Joined.{done_text}
use Rattle.sd_show.proofs.ReadWhole.{refusal_as, all_said, all_refused, all_but_tail}
use Rattle.sd_show.proofs.showing.push_results.Goals as goal

pub returns-in_err-say_fields : goal.returns-in_err-say_fields
returns-in_err-say_fields c =
    let p = err_from_is_err_and c.from_residual-in_err-say_fields.result c.from_residual-in_err-say_fields.ensures.1 in
    let k = c.args.known in
    let bs = c.args.bytes.now in
    let e = c.in_err-say_fields.field-0.0 in
    let fits : IsBytes bs = λ i. omega (arith, c.type_inv.bytes i) in
    rw (p.1, p.2) (refusal_as e (λ (r : Refuses whole (results_kind k) 0 bs e). (k, refl, r))
    (all_refused (fields_of c.results.result) (results k) (results_kind k) bs c.new-reader.result e fits c.results.ensures (results_are k) c.new-reader.ensures c.in_err-say_fields.ensures))

pub returns-in_err-finish : goal.returns-in_err-finish
returns-in_err-finish c =
    let p = err_from_is_err_and c.from_residual-in_err-finish.result c.from_residual-in_err-finish.ensures.1 in
    let k = c.args.known in
    let bs = c.args.bytes.now in
    let e = c.in_err-finish.field-0.0 in
    let fits : IsBytes bs = λ i. omega (arith, c.type_inv.bytes i) in
    rw (p.1, p.2) (
      k,
      refl,
      all_but_tail (fields_of c.results.result) (results k) (results_kind k) bs c.new-reader.result c.say_fields.new.reader c.said-2.new.self c.say_fields.new.writer e fits
          c.results.ensures (results_are k) c.new-reader.ensures c.in_ok-say_fields.ensures c.in_err-finish.ensures.tail,
    )

pub returns : goal.returns
returns c =
    let k = c.args.known in
    let bs = c.args.bytes.now in
    let fits : IsBytes bs = λ i. omega (arith, c.type_inv.bytes i) in
    let s = all_said (fields_of c.results.result) (results k) (results_kind k) bs c.new-reader.result c.say_fields.new.reader c.said-2.new.self c.say_fields.new.writer fits
    c.results.ensures (results_are k) c.new-reader.ensures c.in_ok-say_fields.ensures c.in_ok-finish.ensures.ok in
    let named : c.said.new.self ≡ c.args.writer.now ++ known_text k = c.in_ok-said.ensures ∙ ap (λ (t : Text). c.args.writer.now ++ t) (c.as_bytes.ensures.value ∙ c.as_str.ensures) in
    (read_as k s.0, (refl, s.1), done_text c.args.writer.now c.said.new.self c.push_auth.new.writer c.said-2.new.self c.say_fields.new.writer k (auth_value c.args.verf.now) s.0 named c.in_ok-push_auth.ensures c.in_ok-said-2.ensures s.2)
