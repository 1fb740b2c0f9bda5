use Rattle.sd_show.proofs.OneShown.{one_refusal, one_text_refusal}
use Rattle.sd_show.proofs.laws.one_refusal.Goals as goal

pub returns-clause-shown : goal.returns-clause-shown
returns-clause-shown c = one_refusal

pub returns-clause-packed : goal.returns-clause-packed
returns-clause-packed c = one_text_refusal
