use Rattle.sd_tftp.specs.declared.packet.TftpPacket.TheVariants.{Wrq}
use Rattle.std.proofs.Common.{true, false, List, ℕ, ◌∙◌, ap, sym, subst}
use Rattle.sd_services.specs.Sessions.{is_octet, asked_for}
use Rattle.sd_config.specs.Program.{boot_file}
use Rattle.sd_server.specs.Sessions.{Answers}
use Rattle.sd_server.proofs.Transfers.{rrq_so, requested_as}
use Rattle.sd_server.proofs.tftp.requested.Goals as goal

pub returns-then-is_octet : goal.returns-then-is_octet
returns-then-is_octet c = λ part number.
    rrq_so c.args.config.now c.args.tick part c.args.from c.args.packet.now c.in-Rrq.name c.in-Rrq.mode c.in_ok-asked_for-in-Rrq.field-0 true c.in-Rrq.is (ap is_octet (sym c.as_slice.ensures) ∙ sym c.is_octet.ensures ∙ c.if-is_octet.true)
    (subst (λ (n : List ℕ). Answers c.args.config.now part c.in_ok-asked_for-in-Rrq.field-0 (asked_for c.args.config.now c.args.tick part c.args.from n (boot_file c.args.config.now n))) c.as_slice-then-is_octet.ensures (c.in_ok-asked_for-in-Rrq.ensures part number))

pub returns-in_ok-refusal-in-Rrq : goal.returns-in_ok-refusal-in-Rrq
returns-in_ok-refusal-in-Rrq c = λ part number.
    rrq_so c.args.config.now c.args.tick part c.args.from c.args.packet.now c.in-Rrq.name c.in-Rrq.mode c.in_ok-refusal-in-Rrq.field-0 false c.in-Rrq.is (ap is_octet (sym c.as_slice.ensures) ∙ sym c.is_octet.ensures ∙ c.if-is_octet.false)
    (c.in_ok-refusal-in-Rrq.ensures part)

pub returns-in_ok-refusal-in-Wrq : goal.returns-in_ok-refusal-in-Wrq
returns-in_ok-refusal-in-Wrq c = λ part number.
    requested_as c.args.config.now c.args.tick part c.args.from (Wrq c.in-Wrq.name c.in-Wrq.mode) c.args.packet.now c.in_ok-refusal-in-Wrq.field-0 c.in-Wrq.is (c.in_ok-refusal-in-Wrq.ensures part)
