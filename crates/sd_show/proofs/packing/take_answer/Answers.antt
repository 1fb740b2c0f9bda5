use Rattle.std.proofs.Common.{◌+◌, sym, ◌∙◌, refl, Some}
use Rattle.sd_text.specs.Kind.{◌&◌, spaced}
use Rattle.sd_show.specs.Lines.{place, auth, states, answer, answer_words, done}
use Rattle.sd_show.specs.Packing.{outcome_told}
use Rattle.sd_show.proofs.Knowing.{answer_back, verf_at, known_later, chosen_is}
use Rattle.sd_show.proofs.packing.take_answer.Goals as goal

pub returns-then-is_word-2-clause-takes : goal.returns-then-is_word-2-clause-takes
returns-then-is_word-2-clause-takes c =
    chosen_is answer_words answer c.args.reader.now c.front-word.result.now c.front-word.new.self c.take_accepted.new.reader 1 (spaced auth & spaced states) (outcome_told c.in_ok-take_accepted.field-0)
    c.front-word.ensures.front c.front-word.ensures.behind (verf_at c.front-word.result.now (sym c.is_word.ensures ∙ c.if-is_word.false) (sym c.is_word-2.ensures ∙ c.if-is_word-2.true)) refl c.in_ok-take_accepted.ensures.takes

pub returns-clause-takes : goal.returns-clause-takes
returns-clause-takes c =
    let k = c.in-Some.known in
    chosen_is answer_words answer c.args.reader.now c.front-word.result.now c.front-word.new.self c.take_done.new.reader (place k + 4) (done k) (outcome_told c.in_ok-take_done.field-0)
    c.front-word.ensures.front c.front-word.ensures.behind
    (known_later c.front-word.result.now (Some (place k + 4)) (sym c.is_word.ensures ∙ c.if-is_word.false) (sym c.is_word-2.ensures ∙ c.if-is_word-2.false) (sym c.is_word-3.ensures ∙ c.if-is_word-3.false) (sym c.is_word-4.ensures ∙ c.if-is_word-4.false) c.in-Some.ensures.later)
    (answer_back k) c.in_ok-take_done.ensures.takes
