use Rattle.std.proofs.Common.{List, ℕ, Result, Ok, Err, refl, sym, ◌∙◌, ap, subst, arith}
use Rattle.std.specs.Prelude.{codes}
use Rattle.std.proofs.lemmas.Result.{err_from_is_err_and}
use Rattle.sd_link.specs.Link.{Moves, IsSettledBy}
use Rattle.sd_config.specs.declared.stage.Stage.TheVariants as stage
use Rattle.sd_rpc_retry.specs.Lasting.{Fails, most_asking_ticks}
use Rattle.sd_rpc_retry.proofs.Failing.{fails_then}
use Rattle.sd_boot_chain.specs.Failing.{call_fails}
use Rattle.sd_rpc_retry.proofs.Lasting.{lasts_then}
use Rattle.sd_rpc_retry.specs.declared.calling.Answer.TheVariants as answers
use Rattle.sd_claims.specs.Booting.{asks_name, asks_root, asks_mount, whoami_call, getfile_call}
use Rattle.sd_boot_chain.specs.Durations.{most_calls_ticks}
use Rattle.sd_boot_chain.specs.declared.root.Unanswered.{Unanswered}
use Rattle.sd_boot_chain.specs.Root.{HasNoAnswer, Names, Places}
use Rattle.sd_boot_chain.proofs.Rooting.{stops_at, ends_with_port, after_answer, LeadsTo}
use Rattle.sd_boot_chain.proofs.root.find_mount.Goals as goal

error_of : Unanswered → Result ℕ Unanswered
error_of why = Err why

pub returns-in_err-named-clause-told : goal.returns-in_err-named-clause-told
unfolding error_of
returns-in_err-named-clause-told g c =
    let caller = c.args.caller.now in
    let why = c.in_err-named.field-0.0 in
    let p = err_from_is_err_and c.from_residual.result c.from_residual.ensures.1 in
    stops_at (g.L.Link.told c.args.link.now) (g.L.Link.told c.whoami.new.link) (asks_name caller.ip) caller c.whoami.new.caller c.from_residual.result why (p.1 ∙ ap error_of p.2) c.in_err-named.ensures.step c.whoami.ensures.xid c.in_err-named.ensures.told

pub returns-in_err-server-clause-told : goal.returns-in_err-server-clause-told
unfolding error_of
returns-in_err-server-clause-told g c =
    let caller = c.args.caller.now in
    let old = g.L.Link.told c.args.link.now in
    let mid = g.L.Link.told c.whoami.new.link in
    let new = g.L.Link.told c.getfile.new.link in
    let named = c.in_ok-named.named in
    let why = c.in_err-server.field-0.0 in
    let found = c.from_residual-in_err-server.result in
    let p = err_from_is_err_and found c.from_residual-in_err-server.ensures.1 in
    let second = subst (λ (key : List ℕ). Moves mid new (λ h part. HasNoAnswer why.error (IsSettledBy h) c.whoami.new.caller (getfile_call named.from named.client key) part)) c.requires.root c.in_err-server.ensures.told in
    after_answer old mid new (asks_name caller.ip) (asks_root named.from named.client) caller c.whoami.new.caller c.getfile.new.caller found (λ h part. Names named.from named.client (IsSettledBy h) caller (whoami_call caller.ip) part) c.whoami.ensures.xid
    (λ h part k. (answers.Whoami named.from named.client k.0 k.1, refl, k.2)) c.in_ok-named.ensures.told
    (stops_at mid new (asks_root named.from named.client) c.whoami.new.caller c.getfile.new.caller found why (p.1 ∙ ap error_of p.2) c.in_err-server.ensures.step c.getfile.ensures.xid second)

pub returns-in_err-server-clause-lasts : goal.returns-in_err-server-clause-lasts
returns-in_err-server-clause-lasts g c = lasts_then _ _ _ most_asking_ticks most_asking_ticks most_calls_ticks (omega arith) c.whoami.ensures.lasts c.getfile.ensures.lasts

pub returns-in_err-port-clause-told : goal.returns-in_err-port-clause-told
unfolding error_of
returns-in_err-port-clause-told g c =
    let caller = c.args.caller.now in
    let old = g.L.Link.told c.args.link.now in
    let mid = g.L.Link.told c.whoami.new.link in
    let late = g.L.Link.told c.getfile.new.link in
    let new = g.L.Link.told c.getport.new.link in
    let named = c.in_ok-named.named in
    let server = c.in_ok-server.server in
    let why = c.in_err-port.field-0.0 in
    let found = c.from_residual-in_err-port.result in
    let p = err_from_is_err_and found c.from_residual-in_err-port.ensures.1 in
    let second = subst (λ (key : List ℕ). Moves mid late (λ h part. Places server (IsSettledBy h) c.whoami.new.caller (getfile_call named.from named.client key) part)) c.requires.root c.in_ok-server.ensures.told in
    after_answer old mid new (asks_name caller.ip) (asks_root named.from named.client) caller c.whoami.new.caller c.getport.new.caller found (λ h part. Names named.from named.client (IsSettledBy h) caller (whoami_call caller.ip) part) c.whoami.ensures.xid
    (λ h part k. (answers.Whoami named.from named.client k.0 k.1, refl, k.2)) c.in_ok-named.ensures.told
    (after_answer mid late new (asks_root named.from named.client) (asks_mount server) c.whoami.new.caller c.getfile.new.caller c.getport.new.caller found
    (λ h part. Places server (IsSettledBy h) c.whoami.new.caller (getfile_call named.from named.client (codes "root")) part) c.getfile.ensures.xid (λ h part k. (answers.Getfile k.0 k.1 server k.2, refl, k.3)) second
    (stops_at late new (asks_mount server) c.getfile.new.caller c.getport.new.caller found why (p.1 ∙ ap error_of p.2) c.in_err-port.ensures.step c.getport.ensures.xid c.in_err-port.ensures.told))

pub returns-in_err-port-clause-lasts : goal.returns-in_err-port-clause-lasts
returns-in_err-port-clause-lasts g c =
    lasts_then _ _ _ most_asking_ticks 128000 most_calls_ticks (omega arith) c.whoami.ensures.lasts (lasts_then _ _ _ most_asking_ticks most_asking_ticks 128000 (omega arith) c.getfile.ensures.lasts c.getport.ensures.lasts)

pub returns-clause-told : goal.returns-clause-told
returns-clause-told g c =
    let caller = c.args.caller.now in
    let old = g.L.Link.told c.args.link.now in
    let mid = g.L.Link.told c.whoami.new.link in
    let late = g.L.Link.told c.getfile.new.link in
    let new = g.L.Link.told c.getport.new.link in
    let named = c.in_ok-named.named in
    let server = c.in_ok-server.server in
    let second = subst (λ (key : List ℕ). Moves mid late (λ h part. Places server (IsSettledBy h) c.whoami.new.caller (getfile_call named.from named.client key) part)) c.requires.root c.in_ok-server.ensures.told in
    after_answer old mid new (asks_name caller.ip) (asks_root named.from named.client) caller c.whoami.new.caller c.getport.new.caller (Ok c.in_ok-port.port) (λ h part. Names named.from named.client (IsSettledBy h) caller (whoami_call caller.ip) part) c.whoami.ensures.xid
    (λ h part k. (answers.Whoami named.from named.client k.0 k.1, refl, k.2)) c.in_ok-named.ensures.told
    (after_answer mid late new (asks_root named.from named.client) (asks_mount server) c.whoami.new.caller c.getfile.new.caller c.getport.new.caller (Ok c.in_ok-port.port)
    (λ h part. Places server (IsSettledBy h) c.whoami.new.caller (getfile_call named.from named.client (codes "root")) part) c.getfile.ensures.xid (λ h part k. (answers.Getfile k.0 k.1 server k.2, refl, k.3)) second
    (ends_with_port late new server c.getfile.new.caller c.getport.new.caller c.in_ok-port.port c.getport.ensures.xid c.in_ok-port.ensures.told))

pub returns-clause-lasts : goal.returns-clause-lasts
returns-clause-lasts g c =
    lasts_then _ _ _ most_asking_ticks 128000 most_calls_ticks (omega arith) c.whoami.ensures.lasts (lasts_then _ _ _ most_asking_ticks most_asking_ticks 128000 (omega arith) c.getfile.ensures.lasts c.getport.ensures.lasts)

pub returns-in_err-server-clause-fails : goal.returns-in_err-server-clause-fails
unfolding error_of
returns-in_err-server-clause-fails g c =
    let p = err_from_is_err_and c.from_residual-in_err-server.result c.from_residual-in_err-server.ensures.1 in
    subst (λ (r : Result ℕ Unanswered). Fails (call_fails r) (g.L.Link.told c.args.link.now) (g.L.Link.told c.getfile.new.link)) (sym (p.1 ∙ ap error_of p.2))
    (fails_then _ _ _ _ c.in_ok-named.ensures.fails c.in_err-server.ensures.fails)

pub returns-in_err-port-clause-fails : goal.returns-in_err-port-clause-fails
unfolding error_of
returns-in_err-port-clause-fails g c =
    let p = err_from_is_err_and c.from_residual-in_err-port.result c.from_residual-in_err-port.ensures.1 in
    subst (λ (r : Result ℕ Unanswered). Fails (call_fails r) (g.L.Link.told c.args.link.now) (g.L.Link.told c.getport.new.link)) (sym (p.1 ∙ ap error_of p.2))
    (fails_then _ _ _ _ c.in_ok-named.ensures.fails (fails_then _ _ _ _ c.in_ok-server.ensures.fails c.in_err-port.ensures.fails))

pub returns-clause-fails : goal.returns-clause-fails
returns-clause-fails g c = fails_then _ _ _ _ c.in_ok-named.ensures.fails (fails_then _ _ _ _ c.in_ok-server.ensures.fails c.in_ok-port.ensures.fails)
