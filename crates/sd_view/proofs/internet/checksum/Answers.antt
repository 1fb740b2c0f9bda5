use Rattle.std.proofs.Common.{sym, ◌∙◌}
use Rattle.std.proofs.lemmas.List.{take_rest}
use Rattle.sd_view.proofs.Summing.{next_word}
use Rattle.sd_view.proofs.internet.checksum.Goals as goal

pub words-preserved : goal.words-preserved
words-preserved c =
    record {
      sum = rw (take_rest c.words.rest.now 2, c.ones_add-sum.ensures.sum, c.from-high.ensures, c.from-low.ensures) (sym (next_word c.words.sum c.words.rest.now c.words-test.true) ∙ c.words.invariant.sum);
      fits = c.ones_add-sum.ensures.word;
    }
