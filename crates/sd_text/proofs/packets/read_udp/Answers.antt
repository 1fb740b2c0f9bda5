use Rattle.std.proofs.Common.{sym, refl, ◌∙◌}
use Rattle.std.proofs.lemmas.Result.{err_from_is_err_and}
use Rattle.sd_text.proofs.Exits.{handed_on, others}
use Rattle.sd_text.proofs.packets.read_udp.Goals as goal

pub returns-in_err-src : goal.returns-in_err-src
returns-in_err-src c =
    let p = err_from_is_err_and c.from_residual.result c.from_residual.ensures.1 in
    rw (p.1, p.2) (handed_on c.in_err-src.field-0.0 c.in_err-src.ensures (λ none z h. none h.from _ h.src h.text h.is_src))

pub returns-in_err-dst : goal.returns-in_err-dst
returns-in_err-dst c =
    let p = err_from_is_err_and c.from_residual-in_err-dst.result c.from_residual-in_err-dst.ensures.1 in
    let src = (c.in_ok-src.ensures) in
    rw (p.1, p.2) (handed_on c.in_err-dst.field-0.0 c.in_err-dst.ensures (λ none z h. none h.to _ h.dst (others (sym src.1 ∙ h.text)) h.is_dst))

pub returns-in_err-body : goal.returns-in_err-body
returns-in_err-body c =
    let p = err_from_is_err_and c.from_residual-in_err-body.result c.from_residual-in_err-body.ensures.1 in
    let src = (c.in_ok-src.ensures) in
    let dst = (c.in_ok-dst.ensures) in
    rw (p.1, p.2) (handed_on c.in_err-body.field-0.0 c.in_err-body.ensures (λ none z h. none h.bytes _ h.content (others (sym dst.1 ∙ others (sym src.1 ∙ h.text))) h.runs))

pub returns : goal.returns
returns c =
    let src = (c.in_ok-src.ensures) in
    let dst = (c.in_ok-dst.ensures) in
    let body = (c.in_ok-body.ensures) in
    record {
      src = c.in_ok-src.src;
      dst = c.in_ok-dst.dst;
      content = c.in_ok-body.body;
      from = src.0;
      to = dst.0;
      bytes = body.0;
      text = src.1 ∙ rw (dst.1, body.1, c.in_ok-take_end.ensures) refl;
      is_src = src.2;
      is_dst = dst.2;
      runs = body.2;
      means = refl;
    }
