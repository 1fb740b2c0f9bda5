use Rattle.sd_tftp.proofs.Whole as lemmas
use Rattle.sd_tftp.proofs.laws.reading_is_the_grammar.Goals as goal

pub returns : goal.returns
returns c = lemmas.reading_is_the_grammar
