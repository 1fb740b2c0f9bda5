use Rattle.std.proofs.Common.{ℕ, ◌++◌, ap, ◌∙◌}
use Rattle.std.specs.Fmt.{decimal}
use Rattle.sd_xdr.specs.Kind.{◌⊗◌}
use Rattle.sd_rpc_msg.specs.Layout.{auth_value}
use Rattle.sd_text.specs.Grammar.{writes}
use Rattle.sd_show.specs.Calls.{procedure_of}
use Rattle.sd_show.specs.Lines.{asked, asked_value, auths}
use Rattle.sd_show.proofs.Joined.{call_text}
use Rattle.sd_show.proofs.showing.push_call.Goals as goal

pub returns : goal.returns
unfolding writes
returns c =
    let call = c.args.call.now in
    let h = c.in_ok-push_asked.ensures in
    let xid = c.in_ok-number.ensures ∙ ap (λ (n : ℕ). c.args.writer.now ++ decimal n) c.from.ensures in (
      h.0,
      h.1,
      call_text c.args.writer.now (decimal call.xid) (writes asked (asked_value (procedure_of call) h.0)) (writes auths (auth_value call.cred ⊗ auth_value call.verf))
          c.number.new.self c.said.new.self c.push_asked.new.writer c.push_auths.new.writer xid c.in_ok-said.ensures h.2 c.in_ok-push_auths.ensures,
    )
