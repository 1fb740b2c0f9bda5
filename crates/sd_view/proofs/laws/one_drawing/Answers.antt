use Rattle.sd_view.proofs.OneDrawing as lemmas
use Rattle.sd_view.proofs.laws.one_drawing.Goals as goal

pub returns : goal.returns
returns c = lemmas.one_drawing
