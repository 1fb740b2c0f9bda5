use Rattle.std.proofs.Common.{◌++◌, ◌∷◌, [], ◌∙◌, ap, ℕ}
use Rattle.sd_view.proofs.WholeLine.{whole_read}
use Rattle.sd_view.proofs.transcript.read_whole.Goals as goal

pub returns : goal.returns
returns c = whole_read c.args.line.now c.in-Some.body.now c.read_line.result (c.in-Some.ensures.cases.0 ∙ ap (λ (b : ℕ). c.in-Some.body.now ++ b ∷ []) c.if-last-ne10.false) c.read_line.ensures
