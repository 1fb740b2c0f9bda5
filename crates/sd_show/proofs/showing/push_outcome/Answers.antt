use Rattle.std.proofs.Common.{◌++◌, ℕ, ap, ◌∙◌, append_assoc}
use Rattle.std.specs.Prelude.{codes}
use Rattle.std.specs.Fmt.{decimal}
use Rattle.std.proofs.lemmas.Result.{on_ok_weaker}
use Rattle.sd_xdr.specs.Kind.{number, ◌⊗◌}
use Rattle.sd_rpc_msg.specs.Layout.{auth_value}
use Rattle.sd_text.specs.Texts.{Text}
use Rattle.sd_text.specs.Kind.{spaced}
use Rattle.sd_text.specs.Grammar.{writes}
use Rattle.sd_show.specs.Lines.{auth, range}
use Rattle.sd_show.proofs.Joined.{two}
use Rattle.sd_show.proofs.showing.push_outcome.Goals as goal

pub returns-in-ProgUnavail : goal.returns-in-ProgUnavail
unfolding writes
returns-in-ProgUnavail c = rw c.in-ProgUnavail.is c.push_accepted.ensures

pub returns-in_ok-push_accepted-in-ProgMismatch : goal.returns-in_ok-push_accepted-in-ProgMismatch
unfolding writes
returns-in_ok-push_accepted-in-ProgMismatch c =
    let text = c.args.writer.now in
    let mid = c.push_accepted-in-ProgMismatch.new.writer in
    let verf = writes (spaced auth) (auth_value c.in-ProgMismatch.verf) in
    let limits = writes range (number c.in-ProgMismatch.low ⊗ number c.in-ProgMismatch.high) in
    rw c.in-ProgMismatch.is (on_ok_weaker c.push_range.result
    (λ e. two text (codes "verf" ++ (verf ++ codes " progmismatch")) limits mid c.push_range.new.writer c.in_ok-push_accepted-in-ProgMismatch.ensures e
    ∙ ap (λ (t : Text). text ++ (codes "verf" ++ t)) (append_assoc verf (codes " progmismatch") limits)) c.push_range.ensures)

pub returns-in-ProcUnavail : goal.returns-in-ProcUnavail
unfolding writes
returns-in-ProcUnavail c = rw c.in-ProcUnavail.is c.push_accepted-in-ProcUnavail.ensures

pub returns-in-GarbageArgs : goal.returns-in-GarbageArgs
unfolding writes
returns-in-GarbageArgs c = rw c.in-GarbageArgs.is c.push_accepted-in-GarbageArgs.ensures

pub returns-in_ok-said-in-RpcMismatch : goal.returns-in_ok-said-in-RpcMismatch
unfolding writes
returns-in_ok-said-in-RpcMismatch c =
    let limits = writes range (number c.in-RpcMismatch.low ⊗ number c.in-RpcMismatch.high) in
    rw c.in-RpcMismatch.is (on_ok_weaker c.push_range-in-RpcMismatch.result
    (λ e. two c.args.writer.now (codes "rpcmismatch") limits c.said.new.self c.push_range-in-RpcMismatch.new.writer c.in_ok-said-in-RpcMismatch.ensures e) c.push_range-in-RpcMismatch.ensures)

pub returns-in_ok-said-in-AuthError : goal.returns-in_ok-said-in-AuthError
unfolding writes
returns-in_ok-said-in-AuthError c =
    rw c.in-AuthError.is (on_ok_weaker c.number.result
    (λ e. two c.args.writer.now (codes "autherror ") (decimal c.in-AuthError.stat) c.said-in-AuthError.new.self c.number.new.self c.in_ok-said-in-AuthError.ensures
    (e ∙ ap (λ (n : ℕ). c.said-in-AuthError.new.self ++ decimal n) c.from.ensures)) c.number.ensures)
