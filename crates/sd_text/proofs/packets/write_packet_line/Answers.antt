use Rattle.std.proofs.Common.{◌≡◌, ◌++◌, ◌∙◌, ap, refl, append_assoc}
use Rattle.std.proofs.lemmas.Result.{on_err_weaker, on_ok_weaker}
use Rattle.sd_text.specs.Packets.{packet_text, head_of_udp}
use Rattle.sd_text.specs.Writing.{AppendsPrefix}
use Rattle.sd_text.proofs.Exits.{on_err}
use Rattle.sd_text.proofs.WriteLemmas.{nothing_written}
use Rattle.sd_text.specs.Runs.{runs_text}
use Rattle.sd_text.proofs.PacketLemmas.{udp_text, front_behind}
use Rattle.sd_text.proofs.packets.write_packet_line.Goals as goal

pub returns-in_ok-push_slice-in-Udp-clause-err : goal.returns-in_ok-push_slice-in-Udp-clause-err
returns-in_ok-push_slice-in-Udp-clause-err c =
    let src = c.in-Udp.src in
    let dst = c.in-Udp.dst in
    let whole = ap packet_text c.in-Udp.is ∙ udp_text src dst c.in-Udp.body in
    let head : c.in_ok-head-in-Udp.head ≡ head_of_udp src dst = (c.in_ok-head-in-Udp.ensures) in
    let mid : c.push_slice-in-Udp.new.self ≡ c.args.text.now ++ head_of_udp src dst = (c.in_ok-push_slice-in-Udp.ensures).ok ∙ rw (c.as_slice-in-Udp.ensures, head) refl in
    let behind = front_behind c.args.text.now c.push_slice-in-Udp.new.self c.write_runs-in-Udp.new.text (head_of_udp src dst) (runs_text c.in-Udp.body) mid in
    rw whole (on_err_weaker c.write_runs-in-Udp.result behind (rw c.as_slice-in-Udp-2.ensures at c.write_runs-in-Udp.ensures.err))

pub returns-in_err-push_slice-in-Udp-clause-err : goal.returns-in_err-push_slice-in-Udp-clause-err
returns-in_err-push_slice-in-Udp-clause-err c =
    let same : c.push_slice-in-Udp.new.self ≡ c.args.text.now = (c.in_err-push_slice-in-Udp.ensures).err in
    let front : AppendsPrefix c.args.text.now c.push_slice-in-Udp.new.self (packet_text c.args.packet.now) = nothing_written c.args.text.now _ _ same in
    on_err _ front

pub returns-in_ok-push_slice-in-Udp-clause-ok : goal.returns-in_ok-push_slice-in-Udp-clause-ok
returns-in_ok-push_slice-in-Udp-clause-ok c =
    let src = c.in-Udp.src in
    let dst = c.in-Udp.dst in
    let whole = ap packet_text c.in-Udp.is ∙ udp_text src dst c.in-Udp.body in
    let head : c.in_ok-head-in-Udp.head ≡ head_of_udp src dst = (c.in_ok-head-in-Udp.ensures) in
    let mid : c.push_slice-in-Udp.new.self ≡ c.args.text.now ++ head_of_udp src dst = (c.in_ok-push_slice-in-Udp.ensures).ok ∙ rw (c.as_slice-in-Udp.ensures, head) refl in
    let joined : c.push_slice-in-Udp.new.self ++ runs_text c.in-Udp.body ≡ c.args.text.now ++ packet_text c.args.packet.now = rw (whole, mid) (append_assoc c.args.text.now (head_of_udp src dst) (runs_text c.in-Udp.body)) in
    on_ok_weaker c.write_runs-in-Udp.result (λ e. e ∙ joined) (rw c.as_slice-in-Udp-2.ensures at c.write_runs-in-Udp.ensures.ok)
