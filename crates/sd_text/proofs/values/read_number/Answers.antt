use Rattle.std.proofs.Common.{◌≡◌, ◌<◌, ◌^◌, ◌∙◌, sym, refl, arith}
use Rattle.std.proofs.lemmas.Fmt.{IsAscii-decimal, parse-decimal, decimal_injective}
use Rattle.std.proofs.lemmas.Str.{IsUtf8-from_ascii}
use Rattle.std.specs.Str.{IsUtf8}
use Rattle.std.specs.Fmt.{decimal}
use Rattle.std.proofs.lemmas.Bool.{false≢true}
use Rattle.sd_text.specs.Values.{BeginsPlain}
use Rattle.sd_text.proofs.NumberLemmas.{plain_decimal, parsed_decimal}
use Rattle.sd_text.proofs.values.read_number.Goals as goal

pub returns-then-not-begins_plain : goal.returns-then-not-begins_plain
returns-then-not-begins_plain c = λ x h. false≢true ((c.if-not-begins_plain.ensures).1 (plain_decimal x c.args.text.now (omega arith) h.is))

pub returns-in_default : goal.returns-in_default
returns-in_default c = λ x h.
    let utf8 : IsUtf8 c.args.text.now = rw h.is (IsUtf8-from_ascii _ (IsAscii-decimal x (omega arith))) in
    (c.in_default.ensures).cases.0 utf8

pub returns-in_default-parse : goal.returns-in_default-parse
returns-in_default-parse c = λ x h.
    let small : x < 2 ^ 64 = omega arith in
    c.in_default-parse.not-Ok x (parse-decimal 64 x _ _ small small ((c.in-Ok.ensures).cases.0 ∙ h.is) c.parse.ensures.value.0)

pub returns-then-number-most : goal.returns-then-number-most
returns-then-number-most c = record {
  is = (
      let same : c.in-Ok.digits.now ≡ c.args.text.now = (c.in-Ok.ensures).cases.0 in
      let plain : BeginsPlain c.args.text.now = (c.if-not-begins_plain.ensures).0 refl in
      sym same ∙ parsed_decimal c.in-Ok.digits.now c.in-Ok-parse.number (rw same plain) (c.in-Ok-parse.ensures).value.0
      );
  low = c.if-least-number.true;
  high = c.if-number-most.true;
  fits = omega arith;
}

pub returns-else-least-number : goal.returns-else-least-number
returns-else-least-number c = λ x h.
    let same : c.in-Ok.digits.now ≡ c.args.text.now = (c.in-Ok.ensures).cases.0 in
    let plain : BeginsPlain c.args.text.now = (c.if-not-begins_plain.ensures).0 refl in
    let read : c.args.text.now ≡ decimal c.in-Ok-parse.number = sym same ∙ parsed_decimal c.in-Ok.digits.now c.in-Ok-parse.number (rw same plain) (c.in-Ok-parse.ensures).value.0 in
    let one : c.in-Ok-parse.number ≡ x = decimal_injective _ _ (omega arith) (omega arith) (sym read ∙ h.is) in
    omega (arith, c.else-least-number.either)
