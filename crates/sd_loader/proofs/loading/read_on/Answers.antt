use Rattle.std.proofs.Common.{◌≡◌, ◌≢◌, ℕ, List, ◌++◌, length, Result, Ok, Err, ap, subst, ◌∙◌, arith}
use Rattle.sd_config.specs.declared.stage.Stage.TheVariants as stage
use Rattle.sd_nfs_msg.specs.declared.message.NfsArgs.TheVariants as args
use Rattle.sd_link.specs.Link.{Moves}
use Rattle.sd_rpc_retry.specs.declared.calling.Ask.{Ask}
use Rattle.sd_rpc_retry.specs.declared.calling.Ask.TheVariants as asks
use Rattle.sd_rpc_retry.specs.declared.nfs_question.Piece.{Piece}
use Rattle.sd_rpc_retry.specs.Questions.{piece as piece_shown}
use Rattle.sd_loader.specs.declared.errors.LoadError.TheVariants as errors
use Rattle.sd_loader.specs.Found.{AreFirstBytes}
use Rattle.sd_loader.specs.Served.{IsServers}
use Rattle.sd_loader.specs.Trust.{Trusted}
use Rattle.sd_loader.specs.Causes.{CallCame}
use Rattle.sd_loader.specs.Went.{Went}
use Rattle.sd_loader.specs.LoadCalls.{wanted, next_read, ReadsOn}
use Rattle.sd_loader.proofs.Composing.{went_weaker}
use Rattle.sd_loader.proofs.Telling.{trusted_weaker}
use Rattle.sd_loader.proofs.Pieces.{front_grows}
use Rattle.sd_loader.proofs.loading.read_on.Goals as goal

pub returns-then-got-want-clause-went : goal.returns-then-got-want-clause-went
returns-then-got-want-clause-went g c =
    let first = c.args.caller.now in
    let bytes = c.args.bytes.now in
    let p = c.in-Ok-Ok.piece in
    let at_is : length c.as_slice.result.now ≡ length bytes = ap length c.as_slice.ensures in
    let want_is : c.min-want.result ≡ wanted c.args.size (length bytes) = omega (arith, c.min-want.ensures, at_is) in
    let from_is : c.from.result ≡ length bytes = omega (arith, c.from.ensures, at_is) in
    let got_is : length c.as_slice-data.result.now ≡ length p.bytes = ap length c.as_slice-data.ensures.bytes in
    let not : length p.bytes ≢ wanted c.args.size (length bytes) = λ e. absurd (omega (arith, c.if-got-want.true, got_is, want_is, e)) in
    let what = asks.Nfs (args.Read c.args.file (length c.as_slice.result.now) c.min-want.result 0) in
    let next : what ≡ next_read c.args.file c.args.size (length bytes) = λ i. asks.Nfs (args.Read c.args.file (at_is i) (want_is i) 0) in
    let old = g.L.Link.told c.args.link.now in
    let new = g.L.Link.told c.ask_at.new.link in
    let last = c.ask_at.new.caller.next_xid in
    went_weaker old new (CallCame stage.Read first c.args.nfs (next_read c.args.file c.args.size (length bytes)) piece_shown (Ok (Ok p)))
    (ReadsOn c.args.nfs c.args.file c.args.size first bytes bytes (Err (errors.Short c.from.result c.min-want.result (length c.as_slice-data.result.now)))) 0 first.next_xid last
    (λ h part k. (p.attr, p.bytes, from_is, want_is, got_is, not, k))
    (subst (λ (a : Ask). Moves old new (Went (CallCame stage.Read first c.args.nfs a piece_shown (Ok (Ok p))) 0 first.next_xid last)) next
    (subst (λ (r : Result Piece ℕ). Moves old new (Went (CallCame stage.Read first c.args.nfs what piece_shown (Ok r)) 0 first.next_xid last)) c.in-Ok-Ok.field-0-is c.in-Ok-Ok.ensures.went))

pub returns-in-Ok-clause-went : goal.returns-in-Ok-clause-went
returns-in-Ok-clause-went g c =
    let first = c.args.caller.now in
    let bytes = c.args.bytes.now in
    let p = c.in-Ok-Ok.piece in
    let at_is : length c.as_slice.result.now ≡ length bytes = ap length c.as_slice.ensures in
    let want_is : c.min-want.result ≡ wanted c.args.size (length bytes) = omega (arith, c.min-want.ensures, at_is) in
    let got_is : length c.as_slice-data.result.now ≡ length p.bytes = ap length c.as_slice-data.ensures.bytes in
    let long : length p.bytes ≡ wanted c.args.size (length bytes) = omega (arith, c.if-got-want.false, got_is, want_is) in
    let joined : c.push_slice.new.self ≡ bytes ++ p.bytes = c.in-Ok.ensures.ok ∙ ap (λ (l : List ℕ). bytes ++ l) c.as_slice-data.ensures.bytes in
    let what = asks.Nfs (args.Read c.args.file (length c.as_slice.result.now) c.min-want.result 0) in
    let next : what ≡ next_read c.args.file c.args.size (length bytes) = λ i. asks.Nfs (args.Read c.args.file (at_is i) (want_is i) 0) in
    let old = g.L.Link.told c.args.link.now in
    let new = g.L.Link.told c.ask_at.new.link in
    let last = c.ask_at.new.caller.next_xid in
    went_weaker old new (CallCame stage.Read first c.args.nfs (next_read c.args.file c.args.size (length bytes)) piece_shown (Ok (Ok p)))
    (ReadsOn c.args.nfs c.args.file c.args.size first bytes c.push_slice.new.self (Ok tt)) 0 first.next_xid last
    (λ h part k. (p.attr, p.bytes, joined, long, k))
    (subst (λ (a : Ask). Moves old new (Went (CallCame stage.Read first c.args.nfs a piece_shown (Ok (Ok p))) 0 first.next_xid last)) next
    (subst (λ (r : Result Piece ℕ). Moves old new (Went (CallCame stage.Read first c.args.nfs what piece_shown (Ok r)) 0 first.next_xid last)) c.in-Ok-Ok.field-0-is c.in-Ok-Ok.ensures.went))

pub returns-in-Ok-clause-trusted : goal.returns-in-Ok-clause-trusted
returns-in-Ok-clause-trusted g c =
    let first = c.args.caller.now in
    let bytes = c.args.bytes.now in
    let p = c.in-Ok-Ok.piece in
    let at_is : length c.as_slice.result.now ≡ length bytes = ap length c.as_slice.ensures in
    let want_is : c.min-want.result ≡ wanted c.args.size (length bytes) = omega (arith, c.min-want.ensures, at_is) in
    let got_is : length c.as_slice-data.result.now ≡ length p.bytes = ap length c.as_slice-data.ensures.bytes in
    let long : length p.bytes ≡ wanted c.args.size (length bytes) = omega (arith, c.if-got-want.false, got_is, want_is) in
    let joined : c.push_slice.new.self ≡ bytes ++ p.bytes = c.in-Ok.ensures.ok ∙ ap (λ (l : List ℕ). bytes ++ l) c.as_slice-data.ensures.bytes in
    let what = asks.Nfs (args.Read c.args.file (length c.as_slice.result.now) c.min-want.result 0) in
    let next : what ≡ next_read c.args.file c.args.size (length bytes) = λ i. asks.Nfs (args.Read c.args.file (at_is i) (want_is i) 0) in
    let old = g.L.Link.told c.args.link.now in
    let new = g.L.Link.told c.ask_at.new.link in
    let last = c.ask_at.new.caller.next_xid in
    trusted_weaker old new first c.args.nfs last (λ k. IsServers k first c.args.nfs (next_read c.args.file c.args.size (length bytes)) (Ok (piece_shown (Ok p))))
    (λ k. AreFirstBytes k c.args.file c.args.size bytes → AreFirstBytes k c.args.file c.args.size c.push_slice.new.self)
    (λ k is s front. front_grows k is first c.args.nfs c.requires.machine c.args.file c.args.size bytes c.push_slice.new.self p.bytes p.attr (omega arith) c.requires.more joined long s front)
    (subst (λ (a : Ask). Moves old new (Trusted first c.args.nfs last (λ k. IsServers k first c.args.nfs a (Ok (piece_shown (Ok p)))))) next
    (subst (λ (r : Result Piece ℕ). Moves old new (Trusted first c.args.nfs last (λ k. IsServers k first c.args.nfs what (Ok (piece_shown r))))) c.in-Ok-Ok.field-0-is c.in-Ok-Ok.ensures.trusted))
