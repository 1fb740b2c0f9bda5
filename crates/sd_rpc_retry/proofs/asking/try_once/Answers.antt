use Rattle.std.proofs.Common.{◌+◌, ℕ, Option, Ok, Err, sym, subst, arith, inl, inr, refl}
use Rattle.std.proofs.lemmas.Result.{IfOk-weaker}
use Rattle.sd_link.specs.Steps.{History}
use Rattle.sd_link.specs.Link.{Moves, Sends, IsNow}
use Rattle.sd_rpc_retry.specs.Asking.{Hears, Tried}
use Rattle.sd_rpc_retry.proofs.Getting.{lasts_from}
use Rattle.sd_rpc_retry.proofs.Lasting.{lasts_then, lasts_sent}
use Rattle.sd_rpc_retry.specs.declared.asking.Heard.TheVariants.{Fault}
use Rattle.sd_rpc_retry.proofs.Tried.{tries_once, tries_unsent, now_sent}
use Rattle.sd_rpc_retry.proofs.Still.{still_tried}
use Rattle.sd_rpc_retry.specs.Sending.{SendsOnly, IsReply, IsAsking}
use Rattle.sd_rpc_retry.proofs.Sent.{only_then, only_sent, only_weaker}
use Rattle.sd_link.specs.declared.link.LinkError.TheVariants.{Failed, NoMemory}
use Rattle.sd_rpc_retry.proofs.Failing.{fails_then, fails_sent, sent_err}
use Rattle.sd_rpc_retry.specs.Lasting.{Fails}
use Rattle.sd_rpc_retry.proofs.asking.try_once.Goals as goal

pub returns-in-Ok-clause-told : goal.returns-in-Ok-clause-told
returns-in-Ok-clause-told g c =
    let h = g.H.Listener.hearing c.args.listener.now in
    let shows = g.H.Listener.shows c.listen.new.listener in
    let old = g.L.Link.told c.args.link.now in
    let mid = g.L.Link.told c.send.new.self in
    let at : IsNow old c.now.result = subst (λ (o : Option History). IsNow o c.now.result) c.now.ensures.told (subst (λ (n : ℕ). IsNow (g.L.Link.told c.now.new.self) n) (sym c.now.ensures.value) c.now.ensures.tick) in
    let sent : Moves old mid (Sends c.args.request.now (Ok tt)) = subst (λ (o : Option History). Moves o mid (Sends c.args.request.now (Ok tt))) c.now.ensures.told c.in-Ok.ensures.told in
    IfOk-weaker c.listen.result
    (λ heard. Moves mid (g.L.Link.told c.listen.new.link) (Hears h shows (c.now.result + c.args.wait) heard))
    (λ heard. Moves old (g.L.Link.told c.listen.new.link) (Tried c.args.request.now h shows c.args.wait heard))
    (λ heard m. tries_once _ _ _ c.args.request.now h shows c.args.wait c.now.result heard sent (now_sent _ _ c.args.request.now c.now.result at sent) m)
    c.listen.ensures.told

pub returns-in-Ok-clause-goes : goal.returns-in-Ok-clause-goes
returns-in-Ok-clause-goes g c =
    let old = g.L.Link.told c.args.link.now in
    let mid = g.L.Link.told c.send.new.self in
    let at : IsNow old c.now.result = subst (λ (o : Option History). IsNow o c.now.result) c.now.ensures.told (subst (λ (n : ℕ). IsNow (g.L.Link.told c.now.new.self) n) (sym c.now.ensures.value) c.now.ensures.tick) in
    let sent : Moves old mid (Sends c.args.request.now (Ok tt)) = subst (λ (o : Option History). Moves o mid (Sends c.args.request.now (Ok tt))) c.now.ensures.told c.in-Ok.ensures.told in
    lasts_then _ _ _ 0 c.args.wait 1000 (omega arith) (lasts_sent _ _ c.args.request.now (Ok tt) sent)
    (lasts_from _ _ c.now.result c.args.wait (now_sent _ _ c.args.request.now c.now.result at sent) c.listen.ensures.goes)

pub returns-in-Ok-clause-still : goal.returns-in-Ok-clause-still
returns-in-Ok-clause-still g c =
    let h = g.H.Listener.hearing c.args.listener.now in
    let mid = g.L.Link.told c.send.new.self in
    let sent = subst (λ (o : Option History). Moves o mid (Sends c.args.request.now (Ok tt))) c.now.ensures.told c.in-Ok.ensures.told in
    still_tried h _ _ _ c.args.request.now sent c.listen.ensures.still

pub returns-in-Ok-clause-fails : goal.returns-in-Ok-clause-fails
returns-in-Ok-clause-fails g c =
    let mid = g.L.Link.told c.send.new.self in
    let sent = subst (λ (o : Option History). Moves o mid (Sends c.args.request.now (Ok tt))) c.now.ensures.told c.in-Ok.ensures.told in
    fails_then _ _ _ _ (fails_sent _ _ c.args.request.now (Ok tt) sent) c.listen.ensures.fails

pub returns-in-Err-Failed-clause-fails : goal.returns-in-Err-Failed-clause-fails
returns-in-Err-Failed-clause-fails g c =
    subst (λ (o : Option History). Fails 1 o (g.L.Link.told c.send.new.self)) c.now.ensures.told
    (sent_err _ _ c.args.request.now c.in-Err-Failed.field-0 Failed c.in-Err-Failed.field-0-is c.in-Err-Failed.ensures.told)

pub returns-in-Err-NoMemory-clause-fails : goal.returns-in-Err-NoMemory-clause-fails
returns-in-Err-NoMemory-clause-fails g c =
    subst (λ (o : Option History). Fails 0 o (g.L.Link.told c.send.new.self)) c.now.ensures.told
    (sent_err _ _ c.args.request.now c.in-Err-NoMemory.field-0 NoMemory c.in-Err-NoMemory.field-0-is c.in-Err-NoMemory.ensures.told)

pub returns-in-Ok-clause-sends : goal.returns-in-Ok-clause-sends
returns-in-Ok-clause-sends g c =
    let h = g.H.Listener.hearing c.args.listener.now in
    let request = c.args.request.now in
    let sent = subst (λ (o : Option History). Moves o (g.L.Link.told c.send.new.self) (Sends request (Ok tt))) c.now.ensures.told c.in-Ok.ensures.told in
    only_then (IsAsking request h) _ _ _ (only_sent (IsAsking request h) _ _ request (Ok tt) (inl refl) sent) (only_weaker (IsReply h) (IsAsking request h) _ _ (λ packet reply. inr reply) c.listen.ensures.sends)

pub returns-in-Err-Failed-clause-sends : goal.returns-in-Err-Failed-clause-sends
returns-in-Err-Failed-clause-sends g c =
    let h = g.H.Listener.hearing c.args.listener.now in
    let request = c.args.request.now in
    subst (λ (o : Option History). SendsOnly (IsAsking request h) o (g.L.Link.told c.send.new.self)) c.now.ensures.told (only_sent (IsAsking request h) _ _ request (Err c.in-Err-Failed.field-0) (inl refl) c.in-Err-Failed.ensures.told)

pub returns-in-Err-NoMemory-clause-sends : goal.returns-in-Err-NoMemory-clause-sends
returns-in-Err-NoMemory-clause-sends g c =
    let h = g.H.Listener.hearing c.args.listener.now in
    let request = c.args.request.now in
    subst (λ (o : Option History). SendsOnly (IsAsking request h) o (g.L.Link.told c.send.new.self)) c.now.ensures.told (only_sent (IsAsking request h) _ _ request (Err c.in-Err-NoMemory.field-0) (inl refl) c.in-Err-NoMemory.ensures.told)

pub returns-in-Err-Failed-clause-told : goal.returns-in-Err-Failed-clause-told
returns-in-Err-Failed-clause-told g c =
    let h = g.H.Listener.hearing c.args.listener.now in
    let request = c.args.request.now in
    subst (λ (o : Option History). Moves o (g.L.Link.told c.send.new.self) (Tried request h (g.H.Listener.shows c.args.listener.now) c.args.wait Fault)) c.now.ensures.told
    (tries_unsent _ _ request h (g.H.Listener.shows c.args.listener.now) c.args.wait c.in-Err-Failed.field-0 c.in-Err-Failed.field-0-is c.in-Err-Failed.ensures.told)
