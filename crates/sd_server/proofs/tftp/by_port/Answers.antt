use Rattle.std.proofs.Common.{◌≡◌, Bool, true, false, cond, Ok, sym, subst, arith}
use Rattle.std.specs.Prelude.{◌==◌}
use Rattle.sd_tftp.specs.Grammar.{tftp_port}
use Rattle.sd_services.specs.Sessions.{requested, transferred}
use Rattle.sd_server.proofs.Transfers.{by_test}
use Rattle.sd_server.proofs.tftp.by_port.Goals as goal

pub returns-then-port-eq-TFTP_PORT : goal.returns-then-port-eq-TFTP_PORT
returns-then-port-eq-TFTP_PORT c = λ part are number.
    by_test c.args.config.now part c.in_ok-requested.field-0 (c.args.port == tftp_port) true _ _ (grind (arith, c.if-port-eq-TFTP_PORT.true)) (c.in_ok-requested.ensures part number)

pub returns : goal.returns
returns c = λ part are number.
    by_test c.args.config.now part c.in_ok-transferred.field-0 (c.args.port == tftp_port) false _ _ (grind (arith, c.if-port-eq-TFTP_PORT.false)) (c.in_ok-transferred.ensures part are)
