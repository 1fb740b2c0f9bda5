use Rattle.std.proofs.Common.{◌∙◌, sym}
use Rattle.std.specs.Cmp.Lexicographic.{bytes_decides}
use Rattle.std.proofs.Math.Bool.{true≢false}
use Rattle.sd_nfs_server.proofs.Handles.{live_again, handle_again}
use Rattle.sd_nfs_server.proofs.tree.Tree.live_file.Goals as goal

pub returns-then-not-is_live-clause-finds : goal.returns-then-not-is_live-clause-finds
returns-then-not-is_live-clause-finds c = λ place live is.
    let f = c.is_live.ensures.few place live in
    let p = c.numbers-export.ensures place.0 place.1 f.0 f.1 is in
    true≢false (sym (c.is_live.ensures.is.1 (live_again c.args.self.now _ _ place p.0 p.1 live)) ∙ c.if-not-is_live.true)

pub returns-else-eq-clause-finds : goal.returns-else-eq-clause-finds
returns-else-eq-clause-finds c = λ place live is.
    let f = c.is_live.ensures.few place live in
    let p = c.numbers-export.ensures place.0 place.1 f.0 f.1 is in
    let same = c.fhandle_of.ensures ∙ sym (is ∙ handle_again _ _ place p.0 p.1) in
    true≢false (sym ((bytes_decides _ _).1 same) ∙ sym c.eq.ensures ∙ c.if-eq.false)
