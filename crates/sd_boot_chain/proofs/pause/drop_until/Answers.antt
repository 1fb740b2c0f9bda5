use Rattle.std.proofs.Common.{◌≡◌, ◌+◌, ℕ, arith, Option, Some, None, Ok, Err, ◌∙◌, subst}
use Rattle.sd_outside.specs.declared.packet.Packet.{Packet}
use Rattle.sd_link.specs.Link.{Moves, Receives, Counts, failures}
use Rattle.sd_link.proofs.Histories.{moves_then, moves_weaker}
use Rattle.sd_link.specs.declared.link.LinkError.{LinkError}
use Rattle.sd_link.specs.declared.link.LinkError.TheVariants.{Failed}
use Rattle.sd_rpc_retry.specs.Lasting.{StaysBefore, Fails}
use Rattle.sd_rpc_retry.specs.Sending.{RoseBy}
use Rattle.sd_rpc_retry.proofs.Rising.{rose_one_more, counts_on}
use Rattle.sd_rpc_retry.proofs.Failing.{fails_then, fails_received}
use Rattle.sd_boot_chain.specs.Pause.{Passes}
use Rattle.sd_boot_chain.specs.declared.pause.Pause.TheVariants.{Over, Fault}
use Rattle.sd_boot_chain.proofs.Dropping.{Drops, gets_error, drops_packet}
use Rattle.sd_boot_chain.proofs.Pausing.{passes_over, passes_fault}
use Rattle.sd_boot_chain.proofs.pause.drop_until.Goals as goal

pub returns-in-Ok-None-clause-told : goal.returns-in-Ok-None-clause-told
returns-in-Ok-None-clause-told g c =
    let told : Moves (g.L.Link.told c.loop-count.link) (g.L.Link.told c.recv.new.self) (Receives c.args.until (Ok None)) =
    subst (λ (o : Option Packet). Moves (g.L.Link.told c.loop-count.link) (g.L.Link.told c.recv.new.self) (Receives c.args.until (Ok o))) c.in-Ok-None.field-0-is c.in-Ok-None.ensures.told in
    moves_then _ _ _ (Drops c.args.until c.loop-count.count) (Receives c.args.until (Ok None)) (Passes c.args.until Over)
    (λ a b xs ys goes q r. passes_over c.args.until c.loop-count.count a b xs ys goes q c.loop-count-test.true r)
    c.loop-count.invariant.moves told

pub returns-in-Ok-None-clause-goes : goal.returns-in-Ok-None-clause-goes
returns-in-Ok-None-clause-goes g c = moves_weaker _ _ (Passes c.args.until Over) (StaysBefore c.args.until) (λ h part x. x.ticks) (returns-in-Ok-None-clause-told g c)

pub returns-in-Err-Failed-clause-told : goal.returns-in-Err-Failed-clause-told
returns-in-Err-Failed-clause-told g c =
    moves_then _ _ _ (Drops c.args.until c.loop-count.count) (Receives c.args.until (Err Failed)) (Passes c.args.until Fault)
    (λ a b xs ys goes q r. passes_fault c.args.until c.loop-count.count a b xs ys goes q c.loop-count-test.true r)
    c.loop-count.invariant.moves
    (subst (λ (why : LinkError). Moves (g.L.Link.told c.loop-count.link) (g.L.Link.told c.recv.new.self) (Receives c.args.until (Err why))) c.in-Err-Failed.field-0-is c.in-Err-Failed.ensures.told)

pub returns-in-Err-Failed-clause-goes : goal.returns-in-Err-Failed-clause-goes
returns-in-Err-Failed-clause-goes g c = moves_weaker _ _ (Passes c.args.until Fault) (StaysBefore c.args.until) (λ h part x. x.ticks) (returns-in-Err-Failed-clause-told g c)

pub returns-in-Err-NoMemory-clause-goes : goal.returns-in-Err-NoMemory-clause-goes
returns-in-Err-NoMemory-clause-goes g c =
    moves_then _ _ _ (Drops c.args.until c.loop-count.count) _ (StaysBefore c.args.until)
    (λ a b xs ys goes q r. (gets_error c.args.until c.loop-count.count a b xs ys goes q.gets _ r).ticks)
    c.loop-count.invariant.moves c.in-Err-NoMemory.ensures.told

pub loop-count-preserved : goal.loop-count-preserved
loop-count-preserved g c = record {
  moves =
      let packet = c.in-Ok-Some.packet in
      let told : Moves (g.L.Link.told c.loop-count.link) (g.L.Link.told c.recv.new.self) (Receives c.args.until (Ok (Some packet))) =
      subst (λ (o : Option Packet). Moves (g.L.Link.told c.loop-count.link) (g.L.Link.told c.recv.new.self) (Receives c.args.until (Ok o))) c.in-Ok-Some.field-0-is c.in-Ok-Some.ensures.told in
      moves_then _ _ _ (Drops c.args.until c.loop-count.count) (Receives c.args.until (Ok (Some packet))) (Drops c.args.until (c.loop-count.count + 1))
      (λ a b xs ys goes q r. drops_packet c.args.until c.loop-count.count a b xs ys goes q packet r)
      c.loop-count.invariant.moves told;
  fails =
      let told = subst (λ (o : Option Packet). Moves (g.L.Link.told c.loop-count.link) (g.L.Link.told c.recv.new.self) (Receives c.args.until (Ok o))) c.in-Ok-Some.field-0-is c.in-Ok-Some.ensures.told in
      fails_then _ _ _ 0 c.loop-count.invariant.fails (fails_received _ _ c.args.until (Ok (Some c.in-Ok-Some.packet)) told);
  handed =
      let given : Counts (g.L.Link.handed c.loop-count.link) (g.L.Link.handed c.recv.new.self) (Ok (Some c.in-Ok-Some.packet)) =
      subst (λ (o : Option Packet). Counts (g.L.Link.handed c.loop-count.link) (g.L.Link.handed c.recv.new.self) (Ok o)) c.in-Ok-Some.field-0-is c.in-Ok-Some.ensures.handed in
      rose_one_more c.loop-count.count _ _ _ c.in-Ok-Some.packet c.loop-count.invariant.handed given;
  counts =
      let given : Counts (g.L.Link.handed c.loop-count.link) (g.L.Link.handed c.recv.new.self) (Ok (Some c.in-Ok-Some.packet)) =
      subst (λ (o : Option Packet). Counts (g.L.Link.handed c.loop-count.link) (g.L.Link.handed c.recv.new.self) (Ok o)) c.in-Ok-Some.field-0-is c.in-Ok-Some.ensures.handed in
      counts_on _ _ _ c.in-Ok-Some.packet c.loop-count.invariant.counts given;
  later = omega (arith, c.loop-count.invariant.later, c.recv.ensures.later);
  faults = omega (arith, c.recv.ensures.cause.later, c.loop-count.invariant.faults);
  drained = c.recv.ensures.drained ∙ c.loop-count.invariant.drained;
}

pub returns-in-Ok-None-clause-fails : goal.returns-in-Ok-None-clause-fails
returns-in-Ok-None-clause-fails g c =
    let told = subst (λ (o : Option Packet). Moves (g.L.Link.told c.loop-count.link) (g.L.Link.told c.recv.new.self) (Receives c.args.until (Ok o))) c.in-Ok-None.field-0-is c.in-Ok-None.ensures.told in
    fails_then _ _ _ 0 c.loop-count.invariant.fails (fails_received _ _ c.args.until (Ok None) told)

pub returns-in-Err-Failed-clause-fails : goal.returns-in-Err-Failed-clause-fails
returns-in-Err-Failed-clause-fails g c =
    fails_then _ _ _ 1 c.loop-count.invariant.fails
    (subst (λ (why : LinkError). Fails (failures (Err why)) (g.L.Link.told c.loop-count.link) (g.L.Link.told c.recv.new.self)) c.in-Err-Failed.field-0-is (fails_received _ _ c.args.until _ c.in-Err-Failed.ensures.told))

pub returns-in-Err-NoMemory-clause-fails : goal.returns-in-Err-NoMemory-clause-fails
returns-in-Err-NoMemory-clause-fails g c =
    fails_then _ _ _ 0 c.loop-count.invariant.fails
    (subst (λ (why : LinkError). Fails (failures (Err why)) (g.L.Link.told c.loop-count.link) (g.L.Link.told c.recv.new.self)) c.in-Err-NoMemory.field-0-is (fails_received _ _ c.args.until _ c.in-Err-NoMemory.ensures.told))

pub returns-clause-handed : goal.returns-clause-handed
returns-clause-handed g c = λ flood.
    let all : c.loop-count.count ≡ 4096 = omega arith in
    subst (λ (n : ℕ). RoseBy n (g.L.Link.handed c.args.link.now) (g.L.Link.handed c.loop-count.link)) all c.loop-count.invariant.handed
