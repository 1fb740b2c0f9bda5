use Rattle.std.proofs.Common.{◌<◌, ◌∷◌, ◌+◌, length}
use Rattle.std.proofs.lemmas.Bool.{false≢true}
use Rattle.std.proofs.lemmas.Result.{err_from_is_err_and}
use Rattle.sd_text.specs.Texts.{cut}
use Rattle.sd_text.specs.Runs.{IsRunsWithin, item_bytes}
use Rattle.sd_text.specs.RunReading.{IsItemText, item_of}
use Rattle.sd_text.proofs.Exits.{reads_exit, outside_exit}
use Rattle.sd_text.proofs.ItemLemmas.{IsReading, reading_goes_on, reading_stops, reading_ends, no_item, too_many, no_runs}
use Rattle.sd_text.proofs.runs.reading.read_runs_within.Goals as goal

pub returns-in_err-item : goal.returns-in_err-item
returns-in_err-item c =
    let p = err_from_is_err_and c.from_residual.result c.from_residual.ensures.1 in
    let text = c.args.text.now in
    let bytes = c.loop-part.bytes.items in
    let here : IsReading c.args.most (cut 46 text) (c.in-Some.part.now ∷ c.next.new.self) bytes = rw (c.in-Some.ensures) at c.loop-part.invariant in
    reads_exit (IsItemText c.args.most c.in-Some.part.now) (IsRunsWithin c.args.most text) p.1 p.2 c.in_err-item.ensures
    (λ none. no_runs c.args.most text (λ e. false≢true ((c.if-same_text.ensures).1 e))
    (reading_stops c.args.most (cut 46 text) c.in-Some.part.now c.next.new.self bytes here (no_item c.args.most c.in-Some.part.now bytes none)))

pub returns-in_err-push_item : goal.returns-in_err-push_item
returns-in_err-push_item c =
    let p = err_from_is_err_and c.from_residual-in_err-push_item.result c.from_residual-in_err-push_item.ensures.1 in
    let text = c.args.text.now in
    let bytes = c.loop-part.bytes.items in
    let here : IsReading c.args.most (cut 46 text) (c.in-Some.part.now ∷ c.next.new.self) bytes = rw (c.in-Some.ensures) at c.loop-part.invariant in
    let first = item_of c.in_ok-item.item in
    let item = (c.in_ok-item.ensures) in
    outside_exit (c.args.most < length bytes + length (item_bytes first)) (IsRunsWithin c.args.most text) p.1 p.2 c.in_err-push_item.ensures
    (λ over. no_runs c.args.most text (λ e. false≢true ((c.if-same_text.ensures).1 e))
    (reading_stops c.args.most (cut 46 text) c.in-Some.part.now c.next.new.self bytes here
    (too_many c.args.most c.in-Some.part.now bytes first item.is_item item.is over)))

pub loop-part-preserved : goal.loop-part-preserved
loop-part-preserved c =
    let here : IsReading c.args.most (cut 46 c.args.text.now) (c.in-Some.part.now ∷ c.next.new.self) c.loop-part.bytes.items = rw (c.in-Some.ensures) at c.loop-part.invariant in
    let item = (c.in_ok-item.ensures) in
    let added = (c.in_ok-push_item.ensures) in
    reading_goes_on c.args.most _ _ _ _ _ _ here item.is_item item.is added.0 added.1

pub returns : goal.returns
returns c = rw c.from_vec-2.ensures (reading_ends c.args.most c.args.text.now c.loop-part.parts c.loop-part.bytes.items (c.in_default.ensures).0 c.loop-part.invariant)
