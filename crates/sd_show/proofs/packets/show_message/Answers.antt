use Rattle.std.proofs.Common.{◌<◌, ◌^◌, ℕ, ◌-◌, length, sym, ap, subst, ◌∙◌, arith}
use Rattle.sd_show.specs.declared.error.ShowError.{ShowError}
use Rattle.sd_show.specs.Lines.{carries_message}
use Rattle.sd_show.specs.Showing.{IsMessageNotShown, content_length, moved, PlaceFits}
use Rattle.sd_show.proofs.BodiesShown.{body_is, content_within, refusal_handed, behind_head}
use Rattle.sd_show.proofs.packets.show_message.Goals as goal

pub overflow_sub-body : goal.overflow_sub-body
overflow_sub-body c = omega (arith, c.content_len.ensures, content_within c.in_ok-message.message c.args.body.now c.in_ok-message.ensures.answers)

pub moved-requires : goal.moved-requires
moved-requires c =
    let len = length c.args.body.now in
    let m = c.in_ok-message.message in
    let lt : length c.args.body.now < 2 ^ 64 = omega arith in
    let h = refusal_handed c.args.seen.now c.args.src c.args.dst c.args.body.now m c.asked_of-asked.result c.in-Err.error c.requires c.in_ok-message.ensures.answers lt c.asked_of-asked.ensures c.in-Err.ensures in
    subst (λ (n : ℕ). PlaceFits (len - n) c.into.result) (sym c.content_len.ensures) (subst (λ (e : ShowError). PlaceFits (len - content_length m) e) (sym c.into.ensures) h.0)

pub returns-in-Err-clause-refused : goal.returns-in-Err-clause-refused
returns-in-Err-clause-refused c =
    let len = length c.args.body.now in
    let m = c.in_ok-message.message in
    let lt : length c.args.body.now < 2 ^ 64 = omega arith in
    let h = refusal_handed c.args.seen.now c.args.src c.args.dst c.args.body.now m c.asked_of-asked.result c.in-Err.error c.requires c.in_ok-message.ensures.answers lt c.asked_of-asked.ensures c.in-Err.ensures in
    subst (λ (e : ShowError). IsMessageNotShown c.args.seen.now c.args.src c.args.dst c.args.body.now e)
    (sym (c.moved.ensures ∙ ap (λ (n : ℕ). moved (len - n) c.into.result) c.content_len.ensures ∙ ap (λ (e : ShowError). moved (len - content_length m) e) c.into.ensures)) h.1

pub returns-clause-shows : goal.returns-clause-shows
returns-clause-shows c =
    let m = c.in_ok-message.message in
    let said = c.in-Ok.ensures in
    record {
      m = m;
      b = said.0;
      other = c.requires;
      reads = c.in_ok-message.ensures.answers;
      body = body_is c.args.seen.now c.args.src c.args.dst m c.asked_of-asked.result said.0 c.asked_of-asked.ensures said.1;
      means = c.finish.ensures ∙ behind_head c.args.src c.args.dst c.in_ok-writer.writer c.push_message.new.writer (carries_message m said.0) c.in_ok-writer.ensures said.2;
    }
