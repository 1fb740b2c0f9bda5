use Rattle.std.proofs.Common.{◌≡◌, ◌++◌, refl, ap, ◌∙◌, arith}
use Rattle.std.proofs.lemmas.Result.{err_from_is_err_and}
use Rattle.sd_outside.specs.Bytes.{IsBytes}
use Rattle.sd_xdr.specs.Kind.{whole}
use Rattle.sd_xdr.specs.Grammar.{Refuses}
use Rattle.sd_text.specs.Texts.{Text}
use Rattle.sd_show.specs.Programs.{numbers, known_text, args, args_kind}
use Rattle.sd_show.specs.Messages.{read_as}
use Rattle.sd_show.specs.Packing.{fields_of}
use Rattle.sd_show.proofs.Agreeing.{args_are}
use Rattle.sd_show.proofs.Joined.{named_text}
use Rattle.sd_show.proofs.ReadWhole.{refusal_as, all_said, all_refused, all_but_tail}
use Rattle.sd_show.proofs.showing.push_args.Goals as goal

pub returns-in_err-say_fields : goal.returns-in_err-say_fields
returns-in_err-say_fields c =
    let p = err_from_is_err_and c.from_residual-in_err-say_fields.result c.from_residual-in_err-say_fields.ensures.1 in
    let k = c.args.known in
    let bs = c.args.bytes.now in
    let e = c.in_err-say_fields.field-0.0 in
    let fits : IsBytes bs = λ i. omega (arith, c.type_inv.bytes i) in
    rw (p.1, p.2) (refusal_as e (λ (r : Refuses whole (args_kind k) 0 bs e). (k, refl, r))
    (all_refused (fields_of c.args-2.result) (args k) (args_kind k) bs c.new-reader.result e fits c.args-2.ensures (args_are k) c.new-reader.ensures c.in_err-say_fields.ensures))

pub returns-in_err-finish : goal.returns-in_err-finish
returns-in_err-finish c =
    let p = err_from_is_err_and c.from_residual-in_err-finish.result c.from_residual-in_err-finish.ensures.1 in
    let k = c.args.known in
    let bs = c.args.bytes.now in
    let e = c.in_err-finish.field-0.0 in
    let fits : IsBytes bs = λ i. omega (arith, c.type_inv.bytes i) in
    rw (p.1, p.2) (
      k,
      refl,
      all_but_tail (fields_of c.args-2.result) (args k) (args_kind k) bs c.new-reader.result c.say_fields.new.reader c.said.new.self c.say_fields.new.writer e fits
          c.args-2.ensures (args_are k) c.new-reader.ensures c.in_ok-say_fields.ensures c.in_err-finish.ensures.tail,
    )

pub returns : goal.returns
returns c =
    let k = c.args.known in
    let bs = c.args.bytes.now in
    let fits : IsBytes bs = λ i. omega (arith, c.type_inv.bytes i) in
    let s = all_said (fields_of c.args-2.result) (args k) (args_kind k) bs c.new-reader.result c.say_fields.new.reader c.said.new.self c.say_fields.new.writer fits
    c.args-2.ensures (args_are k) c.new-reader.ensures c.in_ok-say_fields.ensures c.in_ok-finish.ensures.ok in
    let named : c.said.new.self ≡ c.args.writer.now ++ known_text k = c.in_ok-said.ensures ∙ ap (λ (t : Text). c.args.writer.now ++ t) (c.as_bytes.ensures.value ∙ c.as_str.ensures) in
    (read_as k s.0, (refl, s.1), named_text c.args.writer.now c.said.new.self c.say_fields.new.writer (numbers k) k s.0 named s.2)
