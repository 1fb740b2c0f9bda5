use Rattle.std.proofs.Common.{drop, ap, ◌∙◌, arith, length-drop}
use Rattle.std.proofs.lemmas.List.{take_rest}
use Rattle.sd_text.specs.Writing.{run_length}
use Rattle.sd_text.proofs.RunLemmas.{long_run, short_run, short_run_more, pairs_stop, run_length-le, front_run_least}
use Rattle.sd_text.proofs.runs.writing.first_item.Goals as goal

pub returns-then-run-ge-LONG_RUN : goal.returns-then-run-ge-LONG_RUN
returns-then-run-ge-LONG_RUN c =
    let bytes = c.args.bytes.now in
    rw c.front_run-run.ensures record {
      least = front_run_least bytes c.requires;
      most = run_length-le bytes;
      items = long_run bytes c.requires (omega (arith, c.front_run-run.ensures));
    }

pub loop-at-init : goal.loop-at-init
loop-at-init c =
    let bytes = c.args.bytes.now in
    rw c.front_run-run.ensures record {
      least = front_run_least bytes c.requires;
      most = run_length-le bytes;
      items = short_run bytes c.requires (omega (arith, c.front_run-run.ensures));
    }

pub loop-at-preserved : goal.loop-at-preserved
loop-at-preserved c =
    let bytes = c.args.bytes.now in
    let run = c.front_run-run-in-loop-at.ensures ∙ ap run_length (take_rest bytes c.loop-at.at) in
    record {
      least = omega arith;
      most = omega (arith, run, run_length-le (drop c.loop-at.at bytes), length-drop c.loop-at.at bytes);
      items = short_run_more bytes c.loop-at.at _ c.loop-at-test.true run c.if-run-ge-LONG_RUN-2.false c.loop-at.invariant.items;
    }

pub returns-then-run-ge-LONG_RUN-2 : goal.returns-then-run-ge-LONG_RUN-2
returns-then-run-ge-LONG_RUN-2 c =
    let bytes = c.args.bytes.now in
    let run = c.front_run-run-in-loop-at.ensures ∙ ap run_length (take_rest bytes c.loop-at.at) in
    record {
      least = c.loop-at.invariant.least;
      most = c.loop-at.invariant.most;
      items = pairs_stop bytes c.loop-at.at _ c.loop-at-test.true run c.if-run-ge-LONG_RUN-2.true c.loop-at.invariant.items;
    }
