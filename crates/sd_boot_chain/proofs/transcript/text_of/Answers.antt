use Rattle.std.proofs.Common.{◌≡◌, ℕ, ◌*◌, List, [], ◌++◌, Option, sym, ◌∙◌, ap, subst}
use Rattle.std.proofs.lemmas.List.{append-nil}
use Rattle.sd_outside.specs.Streams.{IsPrefixOf}
use Rattle.sd_claims.specs.AnyLink.{IsMet, Needs, FaultIsCounted}
use Rattle.sd_link.specs.Steps.{History}
use Rattle.sd_link.specs.Link.{Moves, Drains}
use Rattle.sd_script.specs.Answers.{answer_line}
use Rattle.sd_boot_chain.specs.Step.{IsDone}
use Rattle.sd_boot_chain.proofs.Stepping.{is_step}
use Rattle.sd_boot_chain.proofs.transcript.text_of.Goals as goal

pub returns-clause-done : goal.returns-clause-done
returns-clause-done g c =
    let client = c.args.client.now in
    let next = c.step.new.self in
    let command = c.args.command.now in
    let answer = c.in_ok-answer.answer in
    let before = g.L.Link.told c.args.link.now in
    let moved = subst (λ (o : Option History). Moves before o (IsDone client command answer next)) (sym c.drain.ensures.told) c.in_ok-answer.ensures.caused in
    let drains = subst (λ (l : List ℕ). Drains (g.L.Link.drained c.args.link.now) (g.L.Link.drained c.drain.new.self) l c.drain.new.text) c.empty-text.ensures
    (subst (λ (l : List ℕ). Drains l (g.L.Link.drained c.drain.new.self) c.empty-text.result c.drain.new.text) c.step.ensures.drained c.in_ok-drain.ensures.text) in
    is_step before (g.L.Link.told c.drain.new.self) client command answer next (g.L.Link.drained c.args.link.now) (g.L.Link.drained c.drain.new.self) drains.0 c.write_answer.new.text
    moved c.in_ok-drain.ensures.whole c.in_ok-drain.ensures.rests drains.1
    (c.in_ok-write_answer.ensures.ok ∙ ap (λ (l : List ℕ). l ++ answer_line answer) drains.2)

-- what the link gave, and the answer line
pub returns-clause-said : goal.returns-clause-said
returns-clause-said g c =
    let long = c.args.client.now.config.tries * c.args.client.now.config.wait in
    let command = c.args.command.now in
    let answer = c.in_ok-answer.answer in
    let handed = g.L.Link.handed c.args.link.now in
    let clock = g.L.Link.clock c.args.link.now in
    let drains = subst (λ (l : List ℕ). Drains (g.L.Link.drained c.args.link.now) (g.L.Link.drained c.drain.new.self) l c.drain.new.text) c.empty-text.ensures
    (subst (λ (l : List ℕ). Drains l (g.L.Link.drained c.drain.new.self) c.empty-text.result c.drain.new.text) c.step.ensures.drained c.in_ok-drain.ensures.text) in
    record {
      lines = drains.0;
      answer = answer;
      needed =
          subst (λ (n : ℕ). Needs long (IsMet handed n clock (g.L.Link.clock c.drain.new.self)) command answer) (sym c.drain.ensures.handed)
          (subst (λ (n : ℕ). Needs long (IsMet handed (g.L.Link.handed c.step.new.link) clock n) command answer) (sym c.drain.ensures.clock) c.in_ok-answer.ensures.needs);
      counted = subst (λ (n : ℕ). FaultIsCounted (g.L.Link.faults c.args.link.now) n answer) (sym c.drain.ensures.faults) c.in_ok-answer.ensures.fault;
      drained = drains.1;
      is = c.in_ok-write_answer.ensures.ok ∙ ap (λ (l : List ℕ). l ++ answer_line answer) drains.2;
    }

drained_on : (old mid new text_old text_new : List ℕ) → mid ≡ old → Drains mid new text_old text_new → IsPrefixOf old new
drained_on old mid new text_old text_new same d = (d.0, ap (λ (l : List ℕ). l ++ d.0) (sym same) ∙ sym d.1)

pub returns-clause-prefix : goal.returns-clause-prefix
returns-clause-prefix g c = drained_on _ _ _ _ _ c.step.ensures.drained c.in_ok-drain.ensures.text

pub returns-in_err-write_answer-clause-prefix : goal.returns-in_err-write_answer-clause-prefix
returns-in_err-write_answer-clause-prefix g c = drained_on _ _ _ _ _ c.step.ensures.drained c.in_ok-drain.ensures.text

pub returns-in_err-drain-clause-prefix : goal.returns-in_err-drain-clause-prefix
returns-in_err-drain-clause-prefix g c = ([], append-nil (g.L.Link.drained c.args.link.now) ∙ sym (c.in_err-drain.ensures.err ∙ c.step.ensures.drained))

pub returns-in_err-answer-clause-prefix : goal.returns-in_err-answer-clause-prefix
returns-in_err-answer-clause-prefix g c = ([], append-nil (g.L.Link.drained c.args.link.now) ∙ sym c.step.ensures.drained)
