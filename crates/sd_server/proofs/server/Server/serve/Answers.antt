use Rattle.std.proofs.Common.{◌≡◌, List, Bool, true, false, Option, refl, sym, ap, ◌∙◌, subst}
use Rattle.std.specs.Prelude.{IfSome, length, map, ◌||◌, is_some}
use Rattle.std.proofs.lemmas.Bool.{false≢true}
use Rattle.sd_server.specs.State.{Volatile}
use Rattle.sd_outside.specs.declared.packet.Packet.{Packet}
use Rattle.sd_outside.specs.DiskPlan.{Both, Makes, Plan}
use Rattle.sd_stable_disk.specs.Files.{Stored}
use Rattle.sd_server.specs.declared.access.Decision.{Decision}
use Rattle.sd_server.specs.Access.{change_by}
use Rattle.sd_server.specs.Deciding.{Decides, volatile_after}
use Rattle.sd_server.specs.Standing.{ServerView, Turns, Goes, damaged_by}
use Rattle.sd_server.proofs.Standings.{now_turn, later_turn}
use Rattle.sd_server.proofs.Untold.{goes_now, goes_later}
use Rattle.sd_server.proofs.Accesses.{crash_none, crash_act, same_rest, no_calls}
use Rattle.sd_server.proofs.server.Server.serve.Goals as goal

pub returns-in_err-answer-clause-crash : goal.returns-in_err-answer-clause-crash
returns-in_err-answer-clause-crash g c = λ s may.
    crash_none g.D.Disk.moment g.D.Disk.seen g.D.Disk.may_leave g.D.Disk.left_since c.args.self.now c.args.self.now c.args.packet.now s g.met.D.Disk.only_now refl may

pub returns-in_err-answer-in-Now-clause-crash : goal.returns-in_err-answer-in-Now-clause-crash
returns-in_err-answer-in-Now-clause-crash g c = λ s may.
    crash_none g.D.Disk.moment g.D.Disk.seen g.D.Disk.may_leave g.D.Disk.left_since c.args.self.now c.answer.new.self c.args.packet.now s g.met.D.Disk.only_now (ap (λ (v : ServerView g.row.D.Denot). v.store) c.in_err-answer-in-Now.ensures.err) may

pub returns-in_ok-answer-in-Now-clause-crash : goal.returns-in_ok-answer-in-Now-clause-crash
returns-in_ok-answer-in-Now-clause-crash g c = λ s may.
    crash_none g.D.Disk.moment g.D.Disk.seen g.D.Disk.may_leave g.D.Disk.left_since c.args.self.now c.answer.new.self c.args.packet.now s g.met.D.Disk.only_now (ap (λ (v : ServerView g.row.D.Denot). v.store) c.in_ok-answer-in-Now.ensures.ok) may

pub returns-in_ok-answer-in-Now-clause-turns : goal.returns-in_ok-answer-in-Now-clause-turns
returns-in_ok-answer-in-Now-clause-turns g c = λ s may.
    let old = c.args.self.now in
    let e = c.in_ok-answer-in-Now.ensures in
    let decides = subst (λ (d : Decision). Decides old.config old.volatile c.args.now c.args.packet.now d) c.in-Now.is c.in_ok-answer.ensures.decides in
    let new : ServerView g.row.D.Denot = record { config = old.config; volatile = volatile_after old.config old.volatile c.in-Now.answer.change; store = old.store } in
    subst (λ (v : ServerView g.row.D.Denot). Turns g.D.Disk.seen g.D.Disk.may_leave c.args.now c.args.packet.now old c.in_ok-answer-in-Now.field-0.packets c.in_ok-answer-in-Now.field-0.faulted v s) (sym e.ok)
    (subst (λ (b : Bool). Turns g.D.Disk.seen g.D.Disk.may_leave c.args.now c.args.packet.now old c.in_ok-answer-in-Now.field-0.packets b new s) (sym e.calm.0)
    (subst (λ (l : List Packet). Turns g.D.Disk.seen g.D.Disk.may_leave c.args.now c.args.packet.now old l false new s) (sym e.packets)
    (now_turn g.D.Disk.seen g.D.Disk.may_leave old.config c.args.now c.args.packet.now old.volatile old.store s c.in-Now.answer decides may)))

pub returns-in_ok-answer-in-Now-clause-plan : goal.returns-in_ok-answer-in-Now-clause-plan
returns-in_ok-answer-in-Now-clause-plan g c =
    let e = c.in_ok-answer-in-Now.ensures in
    subst (λ (o : Option Plan). Both (Makes 13 4 (c.in_ok-answer-in-Now.field-0.faulted ≡ true)) (g.D.Disk.plan c.args.self.now.store.disk) o) (ap (λ (v : ServerView g.row.D.Denot). g.D.Disk.plan v.store.disk) (sym e.ok))
    (no_calls (g.D.Disk.plan c.args.self.now.store.disk) c.in_ok-answer-in-Now.field-0.faulted e.calm.0)

pub returns-in-Later-clause-turns : goal.returns-in-Later-clause-turns
returns-in-Later-clause-turns g c = λ s may.
    let old = c.args.self.now in
    let new = c.access.new.self in
    let e = c.access.ensures in
    let later = subst (λ (d : Decision). Decides old.config old.volatile c.args.now c.args.packet.now d) c.in-Later.is c.in_ok-answer.ensures.decides in
    subst (λ (v : ServerView g.row.D.Denot). Turns g.D.Disk.seen g.D.Disk.may_leave c.args.now c.args.packet.now old c.access.result.packets c.access.result.faulted v s) (same_rest old new e.config e.volatile)
    (later_turn g.D.Disk.seen g.D.Disk.may_leave old.config c.args.now c.args.packet.now old.volatile old.store new.store s later.swap may c.in_ok-answer.ensures.server.sized e.sized c.in-Later.access c.access.result.packets c.access.result.faulted c.access.result.damaged later e.accessed)

pub returns-in-Later-clause-crash : goal.returns-in-Later-clause-crash
returns-in-Later-clause-crash g c = λ s may.
    let old = c.args.self.now in
    let later = subst (λ (d : Decision). Decides old.config old.volatile c.args.now c.args.packet.now d) c.in-Later.is c.in_ok-answer.ensures.decides in
    crash_act g.D.Disk.moment g.D.Disk.seen g.D.Disk.may_leave g.D.Disk.left_since old c.access.new.self c.args.packet.now s (change_by c.in-Later.access.act) later.change may c.access.ensures.moments

pub returns-in_ok-answer-in-Now-clause-goes : goal.returns-in_ok-answer-in-Now-clause-goes
returns-in_ok-answer-in-Now-clause-goes g c =
    let old = c.args.self.now in
    let e = c.in_ok-answer-in-Now.ensures in
    let decides = subst (λ (d : Decision). Decides old.config old.volatile c.args.now c.args.packet.now d) c.in-Now.is c.in_ok-answer.ensures.decides in
    let told : (c.in_ok-answer-in-Now.field-0.faulted || is_some c.in_ok-answer-in-Now.field-0.damaged) ≡ false = λ i. e.calm.0 i || is_some (e.calm.1 i) in
    subst (λ (v : ServerView g.row.D.Denot). Goes old.config c.args.now c.args.packet.now old.volatile c.in_ok-answer-in-Now.field-0.packets (c.in_ok-answer-in-Now.field-0.faulted || is_some c.in_ok-answer-in-Now.field-0.damaged) v.volatile) (sym e.ok)
    (subst (λ (b : Bool). Goes old.config c.args.now c.args.packet.now old.volatile c.in_ok-answer-in-Now.field-0.packets b (volatile_after old.config old.volatile c.in-Now.answer.change)) (sym told)
    (subst (λ (l : List Packet). Goes old.config c.args.now c.args.packet.now old.volatile l false (volatile_after old.config old.volatile c.in-Now.answer.change)) (sym e.packets)
    (goes_now old.config c.args.now c.args.packet.now old.volatile c.in-Now.answer decides)))

pub returns-in-Later-clause-goes : goal.returns-in-Later-clause-goes
returns-in-Later-clause-goes g c =
    let old = c.args.self.now in
    let new = c.access.new.self in
    let e = c.access.ensures in
    let later = subst (λ (d : Decision). Decides old.config old.volatile c.args.now c.args.packet.now d) c.in-Later.is c.in_ok-answer.ensures.decides in
    subst (λ (v : Volatile). Goes old.config c.args.now c.args.packet.now old.volatile c.access.result.packets (c.access.result.faulted || is_some c.access.result.damaged) v) (sym e.volatile)
    (goes_later g.D.Disk.seen g.D.Disk.may_leave old.config c.args.now c.args.packet.now old.volatile old.store new.store c.in-Later.access c.access.result.packets c.access.result.faulted c.access.result.damaged later e.accessed)

pub returns-in_ok-answer-in-Now-clause-damaged : goal.returns-in_ok-answer-in-Now-clause-damaged
returns-in_ok-answer-in-Now-clause-damaged g c =
    let old = c.args.self.now in
    let decides = subst (λ (d : Decision). Decides old.config old.volatile c.args.now c.args.packet.now d) c.in-Now.is c.in_ok-answer.ensures.decides in
    c.in_ok-answer-in-Now.ensures.calm.1 ∙ sym (λ i. damaged_by (decides.swap i) old.store.up c.answer.new.self.store.refusal)

pub returns-in-Later-clause-damaged : goal.returns-in-Later-clause-damaged
returns-in-Later-clause-damaged g c =
    let old = c.args.self.now in
    let later = subst (λ (d : Decision). Decides old.config old.volatile c.args.now c.args.packet.now d) c.in-Later.is c.in_ok-answer.ensures.decides in
    c.access.ensures.accessed.damaged_is ∙ sym (λ i. damaged_by (later.swap i) old.store.up c.access.new.self.store.refusal)

pub returns-in-Later-clause-idle : goal.returns-in-Later-clause-idle
returns-in-Later-clause-idle g c = λ idle.
    let later = subst (λ (d : Decision). Decides c.args.self.now.config c.args.self.now.volatile c.args.now c.args.packet.now d) c.in-Later.is c.in_ok-answer.ensures.decides in
    absurd (false≢true (sym idle ∙ later.swap))
