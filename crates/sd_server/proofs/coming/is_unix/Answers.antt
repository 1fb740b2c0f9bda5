use Rattle.std.proofs.Common.{◌∙◌, ap, sym}
use Rattle.std.specs.Option.{is_some}
use Rattle.sd_server.proofs.Known.{unix_says}
use Rattle.sd_server.proofs.coming.is_unix.Goals.{in-Some, in-None}
use Rattle.sd_server.proofs.coming.is_unix.Goals as goal

pub returns : goal.returns
returns c =
    let says = unix_says c.args.body.now c.read_unix.result c.in_ok-known.field-0 c.read_unix.ensures.answers c.in_ok-known.ensures in
    elim c.match-branch-2.branch [
      | in-Some w ↦ rw w.result-is (ap is_some (sym w.in-Some.is) ∙ says)
      | in-None w ↦ rw w.result-is (ap is_some (sym w.in-None.is) ∙ says)
    ]
