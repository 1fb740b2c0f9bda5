use Rattle.std.proofs.Common.{sym, ◌∙◌}
use Rattle.std.proofs.lemmas.Bool.{false≢true}
use Rattle.std.proofs.lemmas.Result.{err_from_is_err_and}
use Rattle.sd_config.specs.Events.{IsElsewhere}
use Rattle.sd_text.specs.Texts.{IsAddr}
use Rattle.sd_text.proofs.Exits.{handed_on, firsts, others}
use Rattle.sd_text.proofs.PacketLemmas.{one_addr}
use Rattle.sd_script.proofs.lines.events.stranger_line.Goals as goal

pub returns-in_err-src : goal.returns-in_err-src
returns-in_err-src c =
    let p = err_from_is_err_and c.from_residual-in_err-src.result c.from_residual-in_err-src.ensures.1 in
    let tick = (c.in_ok-tick.ensures) in
    rw (p.1, p.2) (handed_on c.in_err-src.field-0.0 c.in_err-src.ensures
    (λ none other h. none h.from _ h.stranger.src (others (sym tick.1 ∙ h.text)) h.is_src))

pub returns-in_err-dst : goal.returns-in_err-dst
returns-in_err-dst c =
    let p = err_from_is_err_and c.from_residual-in_err-dst.result c.from_residual-in_err-dst.ensures.1 in
    let tick = (c.in_ok-tick.ensures) in
    let src = (c.in_ok-src.ensures) in
    rw (p.1, p.2) (handed_on c.in_err-dst.field-0.0 c.in_err-dst.ensures
    (λ none other h. none h.to _ h.stranger.dst (others (sym src.1 ∙ others (sym tick.1 ∙ h.text))) h.is_dst))

pub returns-in_err-body : goal.returns-in_err-body
returns-in_err-body c =
    let p = err_from_is_err_and c.from_residual-in_err-body.result c.from_residual-in_err-body.ensures.1 in
    let tick = (c.in_ok-tick.ensures) in
    let src = (c.in_ok-src.ensures) in
    let dst = (c.in_ok-dst.ensures) in
    rw (p.1, p.2) (handed_on c.in_err-body.field-0.0 c.in_err-body.ensures
    (λ none other h. none h.body _ h.stranger.body (others (sym dst.1 ∙ others (sym src.1 ∙ others (sym tick.1 ∙ h.text)))) h.is_body))

pub returns-then-not-is_elsewhere : goal.returns-then-not-is_elsewhere
returns-then-not-is_elsewhere c = λ other h.
    let tick = (c.in_ok-tick.ensures) in
    let src = (c.in_ok-src.ensures) in
    let config = c.args.draft.now.config in
    let here : IsAddr h.from c.in_ok-src.src = rw (firsts (sym src.1 ∙ others (sym tick.1 ∙ h.text))) at src.2 in
    let same = one_addr h.from h.stranger.src c.in_ok-src.src h.is_src here in
    let away : IsElsewhere config.client.ip config.server.ip c.in_ok-src.src = rw same at h.elsewhere in
    false≢true ((c.if-not-is_elsewhere.ensures).1 away)
