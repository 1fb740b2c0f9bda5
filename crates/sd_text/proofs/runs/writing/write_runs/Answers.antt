use Rattle.std.proofs.Common.{◌<◌, ◌∷◌, ◌++◌, ◌≡◌, [], length, arith}
use Rattle.sd_text.specs.Runs.{runs_text}
use Rattle.sd_text.specs.Writing.{AppendsPrefix}
use Rattle.sd_text.proofs.Exits.{on_err}
use Rattle.sd_text.proofs.WriteLemmas.{writing_begins, dot_written}
use Rattle.sd_text.proofs.runs.writing.write_runs.Goals as goal

pub loop-rest-init : goal.loop-rest-init
loop-rest-init c =
    let some : 0 < length c.args.bytes.now = grind arith in
    writing_begins c.args.bytes.now c.args.text.now _ _ some (c.in_ok-rest.ensures).ok

pub returns-in_err-rest-2-clause-err : goal.returns-in_err-rest-2-clause-err
returns-in_err-rest-2-clause-err c =
    let some : 0 < length c.loop-rest.rest.now = grind arith in
    let dot : c.push_slice-in-loop-rest.new.self ≡ c.loop-rest.text ++ (46 ∷ []) = c.in_ok-push_slice.ensures.ok in
    let same : c.write_item-in-loop-rest.new.text ≡ c.push_slice-in-loop-rest.new.self = (c.in_err-rest-2.ensures).err in
    let front : AppendsPrefix c.args.text.now c.write_item-in-loop-rest.new.text (runs_text c.args.bytes.now) =
    rw same (dot_written c.args.text.now c.loop-rest.text _ _ c.loop-rest.rest.now some c.loop-rest.invariant dot) in
    on_err _ front
