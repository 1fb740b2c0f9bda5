use Rattle.std.specs.Prelude.{Result}
use Rattle.std.proofs.lemmas.Result.{err_from_is_err_and}
use Rattle.sd_outside.specs.declared.errors.NoMemory.{NoMemory}
use Rattle.sd_rpc_retry.specs.declared.asking.Heard.{Heard}
use Rattle.std.proofs.Common.{◌≤◌, ◌+◌, ap, Some, None, Ok, Err, sym, ◌∙◌, subst, arith}
use Rattle.sd_link.specs.Link.{Moves, Receives, Sends, Counts}
use Rattle.sd_rpc_retry.specs.Asking.{Looks, IsNoMatch}
use Rattle.sd_rpc_retry.specs.Sending.{RoseBy, heard_fails, SendsOnly, IsReply}
use Rattle.sd_rpc_retry.proofs.Sent.{only_then, only_received, only_sent}
use Rattle.sd_rpc_retry.proofs.Rising.{rose_one_more, counts_on}
use Rattle.sd_rpc_retry.specs.declared.asking.Look.TheVariants as look
use Rattle.sd_rpc_retry.specs.declared.asking.Heard.TheVariants as heard
use Rattle.sd_rpc_retry.proofs.Listening.{Quiet, Got, moves_got, moves_nothing, moves_failed, moves_reply, moves_unsent, moves_unsent_fault, moves_other, moves_found, moves_fault, moves_stays}
use Rattle.sd_rpc_retry.proofs.asking.listen.Goals.{in-Other, in-Reply+in-Ok+in-Frame-1, in-Reply+in-Ok+in-Udp-1}
use Rattle.sd_rpc_retry.proofs.Still.{still_receives, still_never, still_quiet}
use Rattle.sd_link.proofs.Histories.{moves_weaker}
use Rattle.sd_rpc_retry.specs.Lasting.{Fails}
use Rattle.sd_rpc_retry.proofs.Failing.{fails_then, fails_received, fails_sent, received_err, sent_err}
use Rattle.sd_link.specs.declared.link.LinkError.TheVariants as link_error
use Rattle.sd_rpc_retry.proofs.asking.listen.Goals as goal

pub returns-in-Ok-None-clause-told : goal.returns-in-Ok-None-clause-told
returns-in-Ok-None-clause-told g c =
    let h = g.H.Listener.hearing c.args.listener.now in
    let told = subst (λ o. Moves (g.L.Link.told c.loop-count.link) (g.L.Link.told c.recv.new.self) (Receives c.args.until (Ok o))) c.in-Ok-None.field-0-is c.in-Ok-None.ensures.told in
    moves_nothing h c.args.until c.loop-count.count _ _ _ (g.H.Listener.shows c.loop-count.listener) c.loop-count-test.true c.loop-count.invariant.moves told

pub returns-in-Ok-None-clause-goes : goal.returns-in-Ok-None-clause-goes
returns-in-Ok-None-clause-goes g c =
    moves_stays (g.H.Listener.hearing c.args.listener.now) (g.H.Listener.shows c.loop-count.listener) c.args.until _ _ heard.Nothing (returns-in-Ok-None-clause-told g c)

pub returns-in-Err-Failed-clause-goes : goal.returns-in-Err-Failed-clause-goes
returns-in-Err-Failed-clause-goes g c = moves_failed (g.H.Listener.hearing c.args.listener.now) c.args.until c.loop-count.count _ _ _ _ c.loop-count.invariant.moves c.in-Err-Failed.ensures.told

pub returns-in-Err-Failed-clause-told : goal.returns-in-Err-Failed-clause-told
returns-in-Err-Failed-clause-told g c =
    moves_fault (g.H.Listener.hearing c.args.listener.now) c.args.until c.loop-count.count _ _ _ (g.H.Listener.shows c.loop-count.listener) _ c.loop-count-test.true c.in-Err-Failed.field-0-is c.loop-count.invariant.moves c.in-Err-Failed.ensures.told

pub returns-in-Err-NoMemory-clause-goes : goal.returns-in-Err-NoMemory-clause-goes
returns-in-Err-NoMemory-clause-goes g c = moves_failed (g.H.Listener.hearing c.args.listener.now) c.args.until c.loop-count.count _ _ _ _ c.loop-count.invariant.moves c.in-Err-NoMemory.ensures.told

pub returns-in_err-found-clause-goes : goal.returns-in_err-found-clause-goes
returns-in_err-found-clause-goes g c =
    let told = subst (λ o. Moves (g.L.Link.told c.loop-count.link) (g.L.Link.told c.recv.new.self) (Receives c.args.until (Ok o))) c.in-Ok-Some.field-0-is c.in-Ok-Some.ensures.told in
    moves_weaker _ _ _ _ (λ a xs t. t.ticks) (moves_got (g.H.Listener.hearing c.args.listener.now) c.args.until c.loop-count.count _ _ _ c.in-Ok-Some.packet c.loop-count.invariant.moves told)

pub returns-in-Match-clause-told : goal.returns-in-Match-clause-told
returns-in-Match-clause-told g c =
    let h = g.H.Listener.hearing c.args.listener.now in
    let shows = g.H.Listener.shows c.look.new.self in
    let told = subst (λ o. Moves (g.L.Link.told c.loop-count.link) (g.L.Link.told c.recv.new.self) (Receives c.args.until (Ok o))) c.in-Ok-Some.field-0-is c.in-Ok-Some.ensures.told in
    let got = moves_got h c.args.until c.loop-count.count _ _ _ c.in-Ok-Some.packet c.loop-count.invariant.moves told in
    let looks : Looks h shows c.in-Ok-Some.packet (look.Match c.in-Match.found) =
    subst (λ l. Looks (g.H.Listener.hearing l) shows c.in-Ok-Some.packet (look.Match c.in-Match.found)) c.loop-count.invariant.same
    (subst (λ l. Looks (g.H.Listener.hearing c.loop-count.listener) shows c.in-Ok-Some.packet l) c.in-Match.is c.in_ok-found.ensures.looked) in
    moves_found h shows c.args.until _ _ c.loop-count.count c.in-Ok-Some.packet c.in-Match.found c.loop-count-test.true looks got

pub returns-in-Match-clause-found : goal.returns-in-Match-clause-found
returns-in-Match-clause-found g c =
    let shows = g.H.Listener.shows c.look.new.self in
    let looks : Looks (g.H.Listener.hearing c.args.listener.now) shows c.in-Ok-Some.packet (look.Match c.in-Match.found) =
    subst (λ l. Looks (g.H.Listener.hearing l) shows c.in-Ok-Some.packet (look.Match c.in-Match.found)) c.loop-count.invariant.same
    (subst (λ l. Looks (g.H.Listener.hearing c.loop-count.listener) shows c.in-Ok-Some.packet l) c.in-Match.is c.in_ok-found.ensures.looked) in
    (c.in-Ok-Some.packet, looks.0)

pub returns-in-Match-clause-goes : goal.returns-in-Match-clause-goes
returns-in-Match-clause-goes g c =
    moves_stays (g.H.Listener.hearing c.args.listener.now) (g.H.Listener.shows c.look.new.self) c.args.until _ _ (heard.Found c.in-Match.found) (returns-in-Match-clause-told g c)

pub returns-in-Err-Failed-send-clause-goes : goal.returns-in-Err-Failed-send-clause-goes
returns-in-Err-Failed-send-clause-goes g c =
    let h = g.H.Listener.hearing c.args.listener.now in
    let told = subst (λ o. Moves (g.L.Link.told c.loop-count.link) (g.L.Link.told c.recv.new.self) (Receives c.args.until (Ok o))) c.in-Ok-Some.field-0-is c.in-Ok-Some.ensures.told in
    let got = moves_got h c.args.until c.loop-count.count _ _ _ c.in-Ok-Some.packet c.loop-count.invariant.moves told in
    moves_unsent h c.args.until c.loop-count.count _ _ _ c.in-Ok-Some.packet c.in-Reply.reply _ got c.in-Err-Failed-send.ensures.told

pub returns-in-Err-Failed-send-clause-told : goal.returns-in-Err-Failed-send-clause-told
returns-in-Err-Failed-send-clause-told g c =
    let h = g.H.Listener.hearing c.args.listener.now in
    let shows = g.H.Listener.shows c.look.new.self in
    let told = subst (λ o. Moves (g.L.Link.told c.loop-count.link) (g.L.Link.told c.recv.new.self) (Receives c.args.until (Ok o))) c.in-Ok-Some.field-0-is c.in-Ok-Some.ensures.told in
    let got = moves_got h c.args.until c.loop-count.count _ _ _ c.in-Ok-Some.packet c.loop-count.invariant.moves told in
    let looks : Looks h shows c.in-Ok-Some.packet (look.Reply c.in-Reply.reply) =
    subst (λ l. Looks (g.H.Listener.hearing l) shows c.in-Ok-Some.packet (look.Reply c.in-Reply.reply)) c.loop-count.invariant.same
    (subst (λ l. Looks (g.H.Listener.hearing c.loop-count.listener) shows c.in-Ok-Some.packet l) c.in-Reply.is c.in_ok-found.ensures.looked) in
    moves_unsent_fault h c.args.until c.loop-count.count _ _ _ shows c.in-Ok-Some.packet c.in-Reply.reply _ c.loop-count-test.true c.in-Err-Failed-send.field-0-is looks got c.in-Err-Failed-send.ensures.told

pub returns-in-Err-NoMemory-send-clause-goes : goal.returns-in-Err-NoMemory-send-clause-goes
returns-in-Err-NoMemory-send-clause-goes g c =
    let h = g.H.Listener.hearing c.args.listener.now in
    let told = subst (λ o. Moves (g.L.Link.told c.loop-count.link) (g.L.Link.told c.recv.new.self) (Receives c.args.until (Ok o))) c.in-Ok-Some.field-0-is c.in-Ok-Some.ensures.told in
    let got = moves_got h c.args.until c.loop-count.count _ _ _ c.in-Ok-Some.packet c.loop-count.invariant.moves told in
    moves_unsent h c.args.until c.loop-count.count _ _ _ c.in-Ok-Some.packet c.in-Reply.reply _ got c.in-Err-NoMemory-send.ensures.told

pub loop-count-preserved : goal.loop-count-preserved
loop-count-preserved g c =
    let h = g.H.Listener.hearing c.args.listener.now in
    let told = subst (λ o. Moves (g.L.Link.told c.loop-count.link) (g.L.Link.told c.recv.new.self) (Receives c.args.until (Ok o))) c.in-Ok-Some.field-0-is c.in-Ok-Some.ensures.told in
    let got = moves_got h c.args.until c.loop-count.count _ _ _ c.in-Ok-Some.packet c.loop-count.invariant.moves told in
    let shows = g.H.Listener.shows c.look.new.self in
    let looks : Looks h shows c.in-Ok-Some.packet c.in_ok-found.field-0 = subst (λ l. Looks (g.H.Listener.hearing l) shows c.in-Ok-Some.packet c.in_ok-found.field-0) c.loop-count.invariant.same c.in_ok-found.ensures.looked in
    let given : Counts (g.L.Link.handed c.loop-count.link) (g.L.Link.handed c.recv.new.self) (Ok (Some c.in-Ok-Some.packet)) =
    subst (λ o. Counts (g.L.Link.handed c.loop-count.link) (g.L.Link.handed c.recv.new.self) (Ok o)) c.in-Ok-Some.field-0-is c.in-Ok-Some.ensures.handed in
    let handed = rose_one_more c.loop-count.count _ _ _ c.in-Ok-Some.packet c.loop-count.invariant.handed given in
    let counts = counts_on _ _ _ c.in-Ok-Some.packet c.loop-count.invariant.counts given in
    let later : g.L.Link.clock c.args.link.now ≤ g.L.Link.clock c.recv.new.self = omega (arith, c.loop-count.invariant.later, c.recv.ensures.later) in
    let fails = fails_then _ _ _ 0 c.loop-count.invariant.fails (fails_received _ _ c.args.until (Ok (Some c.in-Ok-Some.packet)) told) in
    let sends = only_then (IsReply h) _ _ _ c.loop-count.invariant.sends (only_received (IsReply h) _ _ c.args.until (Ok (Some c.in-Ok-Some.packet)) told) in
    elim c.match-branch-2.branch [
      | in-Other w ↦ record {
        moves =
            subst (λ l. Moves (g.L.Link.told c.args.link.now) (g.L.Link.told l) (Quiet h c.args.until (c.loop-count.count + 1))) (sym w.link-is)
            (moves_other h shows c.args.until _ _ c.loop-count.count c.in-Ok-Some.packet (subst (λ l. Looks h shows c.in-Ok-Some.packet l) w.in-Other.is looks) got);
        same = c.in_ok-found.ensures.same (subst IsNoMatch (sym w.in-Other.is) tt) ∙ c.loop-count.invariant.same;
        faults = subst (λ l. g.L.Link.faults c.args.link.now ≤ g.L.Link.faults l) (sym w.link-is) (omega (arith, c.recv.ensures.cause.later, c.loop-count.invariant.faults));
        handed = subst (λ l. RoseBy (c.loop-count.count + 1) (g.L.Link.handed c.args.link.now) (g.L.Link.handed l)) (sym w.link-is) handed;
        later = subst (λ l. g.L.Link.clock c.args.link.now ≤ g.L.Link.clock l) (sym w.link-is) later;
        counts = subst (λ l. g.L.Link.handed c.args.link.now ≤ g.L.Link.handed l) (sym w.link-is) counts;
        fails = subst (λ l. Fails 0 (g.L.Link.told c.args.link.now) (g.L.Link.told l)) (sym w.link-is) fails;
        sends = subst (λ l. SendsOnly (IsReply h) (g.L.Link.told c.args.link.now) (g.L.Link.told l)) (sym w.link-is) sends;
        drained = ap (λ l. g.L.Link.drained l) w.link-is ∙ c.recv.ensures.drained ∙ c.loop-count.invariant.drained;
      }
      | in-Reply+in-Ok+in-Frame-1 w ↦ record {
        moves =
            subst (λ l. Moves (g.L.Link.told c.args.link.now) (g.L.Link.told l) (Quiet h c.args.until (c.loop-count.count + 1))) (sym w.link-is)
            (moves_reply h c.args.until c.loop-count.count _ _ _ shows c.in-Ok-Some.packet w.in-Reply.reply (subst (λ l. Looks h shows c.in-Ok-Some.packet l) w.in-Reply.is looks) got w.in-Ok.ensures.told);
        same = c.in_ok-found.ensures.same (subst IsNoMatch (sym w.in-Reply.is) tt) ∙ c.loop-count.invariant.same;
        faults = subst (λ l. g.L.Link.faults c.args.link.now ≤ g.L.Link.faults l) (sym w.link-is) (omega (arith, w.send.ensures.cause.later, c.recv.ensures.cause.later, c.loop-count.invariant.faults));
        handed = subst (λ l. RoseBy (c.loop-count.count + 1) (g.L.Link.handed c.args.link.now) (g.L.Link.handed l)) (sym w.link-is) (subst (λ n. RoseBy (c.loop-count.count + 1) (g.L.Link.handed c.args.link.now) n) (sym w.send.ensures.handed) handed);
        later = subst (λ l. g.L.Link.clock c.args.link.now ≤ g.L.Link.clock l) (sym w.link-is) (omega (arith, later, w.send.ensures.later));
        counts = subst (λ l. g.L.Link.handed c.args.link.now ≤ g.L.Link.handed l) (sym w.link-is) (omega (arith, counts, w.send.ensures.handed));
        fails = subst (λ l. Fails 0 (g.L.Link.told c.args.link.now) (g.L.Link.told l)) (sym w.link-is) (fails_then _ _ _ 0 fails (fails_sent _ _ w.in-Reply.reply (Ok tt) w.in-Ok.ensures.told));
        sends = subst (λ l. SendsOnly (IsReply h) (g.L.Link.told c.args.link.now) (g.L.Link.told l)) (sym w.link-is)
            (only_then (IsReply h) _ _ _ sends (only_sent (IsReply h) _ _ w.in-Reply.reply (Ok tt) (c.in-Ok-Some.packet, (subst (λ l. Looks h shows c.in-Ok-Some.packet l) w.in-Reply.is looks).1) w.in-Ok.ensures.told));
        drained = ap (λ l. g.L.Link.drained l) w.link-is ∙ w.send.ensures.drained ∙ c.recv.ensures.drained ∙ c.loop-count.invariant.drained;
      }
      | in-Reply+in-Ok+in-Udp-1 w ↦ record {
        moves =
            subst (λ l. Moves (g.L.Link.told c.args.link.now) (g.L.Link.told l) (Quiet h c.args.until (c.loop-count.count + 1))) (sym w.link-is)
            (moves_reply h c.args.until c.loop-count.count _ _ _ shows c.in-Ok-Some.packet w.in-Reply.reply (subst (λ l. Looks h shows c.in-Ok-Some.packet l) w.in-Reply.is looks) got w.in-Ok.ensures.told);
        same = c.in_ok-found.ensures.same (subst IsNoMatch (sym w.in-Reply.is) tt) ∙ c.loop-count.invariant.same;
        faults = subst (λ l. g.L.Link.faults c.args.link.now ≤ g.L.Link.faults l) (sym w.link-is) (omega (arith, w.send.ensures.cause.later, c.recv.ensures.cause.later, c.loop-count.invariant.faults));
        handed = subst (λ l. RoseBy (c.loop-count.count + 1) (g.L.Link.handed c.args.link.now) (g.L.Link.handed l)) (sym w.link-is) (subst (λ n. RoseBy (c.loop-count.count + 1) (g.L.Link.handed c.args.link.now) n) (sym w.send.ensures.handed) handed);
        later = subst (λ l. g.L.Link.clock c.args.link.now ≤ g.L.Link.clock l) (sym w.link-is) (omega (arith, later, w.send.ensures.later));
        counts = subst (λ l. g.L.Link.handed c.args.link.now ≤ g.L.Link.handed l) (sym w.link-is) (omega (arith, counts, w.send.ensures.handed));
        fails = subst (λ l. Fails 0 (g.L.Link.told c.args.link.now) (g.L.Link.told l)) (sym w.link-is) (fails_then _ _ _ 0 fails (fails_sent _ _ w.in-Reply.reply (Ok tt) w.in-Ok.ensures.told));
        sends = subst (λ l. SendsOnly (IsReply h) (g.L.Link.told c.args.link.now) (g.L.Link.told l)) (sym w.link-is)
            (only_then (IsReply h) _ _ _ sends (only_sent (IsReply h) _ _ w.in-Reply.reply (Ok tt) (c.in-Ok-Some.packet, (subst (λ l. Looks h shows c.in-Ok-Some.packet l) w.in-Reply.is looks).1) w.in-Ok.ensures.told));
        drained = ap (λ l. g.L.Link.drained l) w.link-is ∙ w.send.ensures.drained ∙ c.recv.ensures.drained ∙ c.loop-count.invariant.drained;
      }
    ]

pub returns-in-Ok-None-clause-still : goal.returns-in-Ok-None-clause-still
returns-in-Ok-None-clause-still g c =
    let told = subst (λ o. Moves (g.L.Link.told c.loop-count.link) (g.L.Link.told c.recv.new.self) (Receives c.args.until (Ok o))) c.in-Ok-None.field-0-is c.in-Ok-None.ensures.told in
    still_receives (g.H.Listener.hearing c.args.listener.now) _ _ _ c.args.until c.loop-count.count (Ok None) c.loop-count.invariant.moves told

pub returns-in-Err-Failed-clause-still : goal.returns-in-Err-Failed-clause-still
returns-in-Err-Failed-clause-still g c =
    still_receives (g.H.Listener.hearing c.args.listener.now) _ _ _ c.args.until c.loop-count.count _ c.loop-count.invariant.moves c.in-Err-Failed.ensures.told

pub returns-in-Err-NoMemory-clause-still : goal.returns-in-Err-NoMemory-clause-still
returns-in-Err-NoMemory-clause-still g c =
    still_receives (g.H.Listener.hearing c.args.listener.now) _ _ _ c.args.until c.loop-count.count _ c.loop-count.invariant.moves c.in-Err-NoMemory.ensures.told

pub returns-in_err-found-clause-still : goal.returns-in_err-found-clause-still
returns-in_err-found-clause-still g c =
    let told = subst (λ o. Moves (g.L.Link.told c.loop-count.link) (g.L.Link.told c.recv.new.self) (Receives c.args.until (Ok o))) c.in-Ok-Some.field-0-is c.in-Ok-Some.ensures.told in
    still_receives (g.H.Listener.hearing c.args.listener.now) _ _ _ c.args.until c.loop-count.count (Ok (Some c.in-Ok-Some.packet)) c.loop-count.invariant.moves told

pub returns-in-Match-clause-still : goal.returns-in-Match-clause-still
returns-in-Match-clause-still g c =
    let told = subst (λ o. Moves (g.L.Link.told c.loop-count.link) (g.L.Link.told c.recv.new.self) (Receives c.args.until (Ok o))) c.in-Ok-Some.field-0-is c.in-Ok-Some.ensures.told in
    still_receives (g.H.Listener.hearing c.args.listener.now) _ _ _ c.args.until c.loop-count.count (Ok (Some c.in-Ok-Some.packet)) c.loop-count.invariant.moves told

pub returns-in-Err-Failed-send-clause-still : goal.returns-in-Err-Failed-send-clause-still
returns-in-Err-Failed-send-clause-still g c =
    let told = subst (λ o. Moves (g.L.Link.told c.loop-count.link) (g.L.Link.told c.recv.new.self) (Receives c.args.until (Ok o))) c.in-Ok-Some.field-0-is c.in-Ok-Some.ensures.told in
    let h = g.H.Listener.hearing c.args.listener.now in
    let shows = g.H.Listener.shows c.look.new.self in
    let got = moves_got h c.args.until c.loop-count.count _ _ _ c.in-Ok-Some.packet c.loop-count.invariant.moves told in
    let looks : Looks h shows c.in-Ok-Some.packet (look.Reply c.in-Reply.reply) =
    subst (λ l. Looks (g.H.Listener.hearing l) shows c.in-Ok-Some.packet (look.Reply c.in-Reply.reply)) c.loop-count.invariant.same
    (subst (λ l. Looks (g.H.Listener.hearing c.loop-count.listener) shows c.in-Ok-Some.packet l) c.in-Reply.is c.in_ok-found.ensures.looked) in
    still_never h _ _ _ shows c.in-Ok-Some.packet c.in-Reply.reply (Got h c.args.until c.loop-count.count c.in-Ok-Some.packet) (Sends c.in-Reply.reply (Err c.in-Err-Failed-send.field-0)) looks got c.in-Err-Failed-send.ensures.told

pub returns-in-Err-NoMemory-send-clause-still : goal.returns-in-Err-NoMemory-send-clause-still
returns-in-Err-NoMemory-send-clause-still g c =
    let told = subst (λ o. Moves (g.L.Link.told c.loop-count.link) (g.L.Link.told c.recv.new.self) (Receives c.args.until (Ok o))) c.in-Ok-Some.field-0-is c.in-Ok-Some.ensures.told in
    let h = g.H.Listener.hearing c.args.listener.now in
    let shows = g.H.Listener.shows c.look.new.self in
    let got = moves_got h c.args.until c.loop-count.count _ _ _ c.in-Ok-Some.packet c.loop-count.invariant.moves told in
    let looks : Looks h shows c.in-Ok-Some.packet (look.Reply c.in-Reply.reply) =
    subst (λ l. Looks (g.H.Listener.hearing l) shows c.in-Ok-Some.packet (look.Reply c.in-Reply.reply)) c.loop-count.invariant.same
    (subst (λ l. Looks (g.H.Listener.hearing c.loop-count.listener) shows c.in-Ok-Some.packet l) c.in-Reply.is c.in_ok-found.ensures.looked) in
    still_never h _ _ _ shows c.in-Ok-Some.packet c.in-Reply.reply (Got h c.args.until c.loop-count.count c.in-Ok-Some.packet) (Sends c.in-Reply.reply (Err c.in-Err-NoMemory-send.field-0)) looks got c.in-Err-NoMemory-send.ensures.told

pub returns-clause-still : goal.returns-clause-still
returns-clause-still g c =
    still_quiet (g.H.Listener.hearing c.args.listener.now) _ _ c.args.until c.loop-count.count c.loop-count.invariant.moves

pub returns-in-Ok-None-clause-fails : goal.returns-in-Ok-None-clause-fails
returns-in-Ok-None-clause-fails g c =
    let told = subst (λ o. Moves (g.L.Link.told c.loop-count.link) (g.L.Link.told c.recv.new.self) (Receives c.args.until (Ok o))) c.in-Ok-None.field-0-is c.in-Ok-None.ensures.told in
    fails_then _ _ _ 0 c.loop-count.invariant.fails (fails_received _ _ c.args.until (Ok None) told)

pub returns-in-Err-Failed-clause-fails : goal.returns-in-Err-Failed-clause-fails
returns-in-Err-Failed-clause-fails g c = fails_then _ _ _ 1 c.loop-count.invariant.fails (received_err _ _ c.args.until _ link_error.Failed c.in-Err-Failed.field-0-is c.in-Err-Failed.ensures.told)

pub returns-in-Err-NoMemory-clause-fails : goal.returns-in-Err-NoMemory-clause-fails
returns-in-Err-NoMemory-clause-fails g c = fails_then _ _ _ 0 c.loop-count.invariant.fails (received_err _ _ c.args.until _ link_error.NoMemory c.in-Err-NoMemory.field-0-is c.in-Err-NoMemory.ensures.told)

pub returns-in_err-found-clause-fails : goal.returns-in_err-found-clause-fails
returns-in_err-found-clause-fails g c =
    let told = subst (λ o. Moves (g.L.Link.told c.loop-count.link) (g.L.Link.told c.recv.new.self) (Receives c.args.until (Ok o))) c.in-Ok-Some.field-0-is c.in-Ok-Some.ensures.told in
    let p = err_from_is_err_and c.from_residual.result c.from_residual.ensures.1 in
    subst (λ (r : Result (Heard g.row.H-Found.Denot) NoMemory). Fails (heard_fails r) (g.L.Link.told c.args.link.now) (g.L.Link.told c.recv.new.self)) (sym p.1)
    (fails_then _ _ _ 0 c.loop-count.invariant.fails (fails_received _ _ c.args.until (Ok (Some c.in-Ok-Some.packet)) told))

pub returns-in-Match-clause-fails : goal.returns-in-Match-clause-fails
returns-in-Match-clause-fails g c =
    let told = subst (λ o. Moves (g.L.Link.told c.loop-count.link) (g.L.Link.told c.recv.new.self) (Receives c.args.until (Ok o))) c.in-Ok-Some.field-0-is c.in-Ok-Some.ensures.told in
    fails_then _ _ _ 0 c.loop-count.invariant.fails (fails_received _ _ c.args.until (Ok (Some c.in-Ok-Some.packet)) told)

pub returns-in-Err-Failed-send-clause-fails : goal.returns-in-Err-Failed-send-clause-fails
returns-in-Err-Failed-send-clause-fails g c =
    let told = subst (λ o. Moves (g.L.Link.told c.loop-count.link) (g.L.Link.told c.recv.new.self) (Receives c.args.until (Ok o))) c.in-Ok-Some.field-0-is c.in-Ok-Some.ensures.told in
    let got = fails_then _ _ _ 0 c.loop-count.invariant.fails (fails_received _ _ c.args.until (Ok (Some c.in-Ok-Some.packet)) told) in
    fails_then _ _ _ 1 got (sent_err _ _ c.in-Reply.reply c.in-Err-Failed-send.field-0 link_error.Failed c.in-Err-Failed-send.field-0-is c.in-Err-Failed-send.ensures.told)

pub returns-in-Err-NoMemory-send-clause-fails : goal.returns-in-Err-NoMemory-send-clause-fails
returns-in-Err-NoMemory-send-clause-fails g c =
    let told = subst (λ o. Moves (g.L.Link.told c.loop-count.link) (g.L.Link.told c.recv.new.self) (Receives c.args.until (Ok o))) c.in-Ok-Some.field-0-is c.in-Ok-Some.ensures.told in
    let got = fails_then _ _ _ 0 c.loop-count.invariant.fails (fails_received _ _ c.args.until (Ok (Some c.in-Ok-Some.packet)) told) in
    fails_then _ _ _ 0 got (sent_err _ _ c.in-Reply.reply c.in-Err-NoMemory-send.field-0 link_error.NoMemory c.in-Err-NoMemory-send.field-0-is c.in-Err-NoMemory-send.ensures.told)

pub returns-in-Ok-None-clause-sends : goal.returns-in-Ok-None-clause-sends
returns-in-Ok-None-clause-sends g c =
    let told = subst (λ o. Moves (g.L.Link.told c.loop-count.link) (g.L.Link.told c.recv.new.self) (Receives c.args.until (Ok o))) c.in-Ok-None.field-0-is c.in-Ok-None.ensures.told in
    only_then (IsReply (g.H.Listener.hearing c.args.listener.now)) _ _ _ c.loop-count.invariant.sends (only_received (IsReply (g.H.Listener.hearing c.args.listener.now)) _ _ c.args.until (Ok None) told)

pub returns-in-Err-Failed-clause-sends : goal.returns-in-Err-Failed-clause-sends
returns-in-Err-Failed-clause-sends g c = only_then (IsReply (g.H.Listener.hearing c.args.listener.now)) _ _ _ c.loop-count.invariant.sends (only_received (IsReply (g.H.Listener.hearing c.args.listener.now)) _ _ c.args.until _ c.in-Err-Failed.ensures.told)

pub returns-in-Err-NoMemory-clause-sends : goal.returns-in-Err-NoMemory-clause-sends
returns-in-Err-NoMemory-clause-sends g c = only_then (IsReply (g.H.Listener.hearing c.args.listener.now)) _ _ _ c.loop-count.invariant.sends (only_received (IsReply (g.H.Listener.hearing c.args.listener.now)) _ _ c.args.until _ c.in-Err-NoMemory.ensures.told)

pub returns-in_err-found-clause-sends : goal.returns-in_err-found-clause-sends
returns-in_err-found-clause-sends g c =
    let told = subst (λ o. Moves (g.L.Link.told c.loop-count.link) (g.L.Link.told c.recv.new.self) (Receives c.args.until (Ok o))) c.in-Ok-Some.field-0-is c.in-Ok-Some.ensures.told in
    only_then (IsReply (g.H.Listener.hearing c.args.listener.now)) _ _ _ c.loop-count.invariant.sends (only_received (IsReply (g.H.Listener.hearing c.args.listener.now)) _ _ c.args.until (Ok (Some c.in-Ok-Some.packet)) told)

pub returns-in-Match-clause-sends : goal.returns-in-Match-clause-sends
returns-in-Match-clause-sends g c =
    let told = subst (λ o. Moves (g.L.Link.told c.loop-count.link) (g.L.Link.told c.recv.new.self) (Receives c.args.until (Ok o))) c.in-Ok-Some.field-0-is c.in-Ok-Some.ensures.told in
    only_then (IsReply (g.H.Listener.hearing c.args.listener.now)) _ _ _ c.loop-count.invariant.sends (only_received (IsReply (g.H.Listener.hearing c.args.listener.now)) _ _ c.args.until (Ok (Some c.in-Ok-Some.packet)) told)

pub returns-in-Err-Failed-send-clause-sends : goal.returns-in-Err-Failed-send-clause-sends
returns-in-Err-Failed-send-clause-sends g c =
    let told = subst (λ o. Moves (g.L.Link.told c.loop-count.link) (g.L.Link.told c.recv.new.self) (Receives c.args.until (Ok o))) c.in-Ok-Some.field-0-is c.in-Ok-Some.ensures.told in
    let h = (g.H.Listener.hearing c.args.listener.now) in
    let shows = g.H.Listener.shows c.look.new.self in
    let got = only_then (IsReply (g.H.Listener.hearing c.args.listener.now)) _ _ _ c.loop-count.invariant.sends (only_received (IsReply (g.H.Listener.hearing c.args.listener.now)) _ _ c.args.until (Ok (Some c.in-Ok-Some.packet)) told) in
    let looks : Looks h shows c.in-Ok-Some.packet (look.Reply c.in-Reply.reply) =
    subst (λ l. Looks (g.H.Listener.hearing l) shows c.in-Ok-Some.packet (look.Reply c.in-Reply.reply)) c.loop-count.invariant.same
    (subst (λ l. Looks (g.H.Listener.hearing c.loop-count.listener) shows c.in-Ok-Some.packet l) c.in-Reply.is c.in_ok-found.ensures.looked) in
    only_then (IsReply h) _ _ _ got (only_sent (IsReply h) _ _ c.in-Reply.reply (Err c.in-Err-Failed-send.field-0) (c.in-Ok-Some.packet, looks.1) c.in-Err-Failed-send.ensures.told)

pub returns-in-Err-NoMemory-send-clause-sends : goal.returns-in-Err-NoMemory-send-clause-sends
returns-in-Err-NoMemory-send-clause-sends g c =
    let told = subst (λ o. Moves (g.L.Link.told c.loop-count.link) (g.L.Link.told c.recv.new.self) (Receives c.args.until (Ok o))) c.in-Ok-Some.field-0-is c.in-Ok-Some.ensures.told in
    let h = (g.H.Listener.hearing c.args.listener.now) in
    let shows = g.H.Listener.shows c.look.new.self in
    let got = only_then (IsReply (g.H.Listener.hearing c.args.listener.now)) _ _ _ c.loop-count.invariant.sends (only_received (IsReply (g.H.Listener.hearing c.args.listener.now)) _ _ c.args.until (Ok (Some c.in-Ok-Some.packet)) told) in
    let looks : Looks h shows c.in-Ok-Some.packet (look.Reply c.in-Reply.reply) =
    subst (λ l. Looks (g.H.Listener.hearing l) shows c.in-Ok-Some.packet (look.Reply c.in-Reply.reply)) c.loop-count.invariant.same
    (subst (λ l. Looks (g.H.Listener.hearing c.loop-count.listener) shows c.in-Ok-Some.packet l) c.in-Reply.is c.in_ok-found.ensures.looked) in
    only_then (IsReply h) _ _ _ got (only_sent (IsReply h) _ _ c.in-Reply.reply (Err c.in-Err-NoMemory-send.field-0) (c.in-Ok-Some.packet, looks.1) c.in-Err-NoMemory-send.ensures.told)
