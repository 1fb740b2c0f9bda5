use Rattle.std.proofs.Common.{◌∙◌, ap, ◌++◌}
use Rattle.std.specs.Prelude.{codes}
use Rattle.sd_text.specs.Texts.{Text}
use Rattle.sd_text.specs.Runs.{runs_text}
use Rattle.sd_script.specs.Answers.{stage_text}
use Rattle.sd_text.proofs.WriteLemmas.{written_in_turn}
use Rattle.sd_script.proofs.answers.push_unbuilt.Goals as goal

pub returns : goal.returns
returns c =
    let last = c.in_ok-write_runs.ensures.ok ∙ ap (λ (b : Text). c.push_slice.new.self ++ runs_text b) c.as_slice.ensures in
    written_in_turn c.args.line.now _ _ _ (codes "boot unbuilt " ++ stage_text c.args.step) (codes " program ") _ c.in_ok-push_step.ensures c.in_ok-push_slice.ensures.ok last
