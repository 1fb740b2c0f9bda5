use Rattle.std.proofs.Common.{◌≡◌, ◌∷◌, ◌++◌, [], ◌∙◌, refl}
use Rattle.std.proofs.lemmas.Result.{on_err_weaker}
use Rattle.sd_link.specs.Printing.{entry_text}
use Rattle.sd_text.specs.Packets.{packet_text}
use Rattle.sd_link.specs.Steps as steps
use Rattle.sd_script.specs.PacketWriting.{head_of_sent}
use Rattle.sd_text.specs.Writing.{AppendsPrefix}
use Rattle.sd_text.proofs.Exits.{on_err}
use Rattle.sd_script.proofs.RecordLemmas.{front_within, front_before, sent_text}
use Rattle.sd_script.proofs.record.write_sent.Goals as goal

pub returns-in_err-write_packet_line-clause-err : goal.returns-in_err-write_packet_line-clause-err
returns-in_err-write_packet_line-clause-err c =
    let head = head_of_sent c.args.tick c.args.id in
    let packet = packet_text c.args.packet.now in
    let mid : c.push_slice.new.self ≡ c.args.text.now ++ head = c.in_ok-push_slice.ensures.ok ∙ rw (c.as_slice.ensures, c.in_ok-head.ensures) refl in
    let front : AppendsPrefix c.args.text.now c.write_packet_line.new.text (entry_text (steps.Sent c.args.tick c.args.id c.args.packet.now)) =
    front_within c.args.text.now _ _ head packet (10 ∷ []) _ mid (sent_text c.args.tick c.args.id c.args.packet.now) c.in_err-write_packet_line.ensures.err in
    on_err _ front

pub returns-clause-err : goal.returns-clause-err
returns-clause-err c =
    let head = head_of_sent c.args.tick c.args.id in
    let packet = packet_text c.args.packet.now in
    let mid : c.push_slice.new.self ≡ c.args.text.now ++ head = c.in_ok-push_slice.ensures.ok ∙ rw (c.as_slice.ensures, c.in_ok-head.ensures) refl in
    on_err_weaker c.push_slice-2.result
    (front_before c.args.text.now _ _ _ head packet (10 ∷ []) _ mid (sent_text c.args.tick c.args.id c.args.packet.now) c.in_ok-write_packet_line.ensures.ok)
    c.push_slice-2.ensures.err
