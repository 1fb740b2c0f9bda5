use Rattle.std.proofs.Common.{sym, refl, ◌∙◌}
use Rattle.sd_text.proofs.PacketLemmas.{frame_read, udp_read}
use Rattle.sd_text.proofs.packets.read_packet.Goals as goal

pub returns-then-same_text : goal.returns-then-same_text
returns-then-same_text c =
    let first = (c.if-same_text.ensures).0 refl in
    frame_read c.args.text.now c.next.new.self c.read_frame.result (sym c.new-fields.ensures ∙ c.in-Some.ensures ∙ rw first refl) c.read_frame.ensures

pub returns-then-same_text-2 : goal.returns-then-same_text-2
returns-then-same_text-2 c =
    let first = (c.if-same_text-2.ensures).0 refl in
    udp_read c.args.text.now c.next.new.self c.read_udp.result (sym c.new-fields.ensures ∙ c.in-Some.ensures ∙ rw first refl) c.read_udp.ensures
