use Rattle.std.proofs.Common.{sym, ◌∙◌, ap}
use Rattle.std.specs.List.{concat}
use Rattle.sd_tftp.specs.Reception.{Reception}
use Rattle.sd_tftp.proofs.Pieces.{pieces-joined}
use Rattle.sd_tftp.proofs.receiver.Receiver.into_taken.Goals as goal

pub returns : goal.returns
returns c =
    sym (pieces-joined c.self.inside.number c.self.inside.bytes c.self.invariant.inside)
    ∙ ap (λ (r : Reception). concat r.blocks) c.self.view_is
