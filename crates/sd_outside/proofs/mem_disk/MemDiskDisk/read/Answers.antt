use Rattle.std.proofs.Common.{refl, sym, ◌∙◌}
use Rattle.std.proofs.lemmas.Bool.{false≢true}
use Rattle.sd_outside.proofs.ChangeLaws.{answers_read}
use Rattle.sd_outside.proofs.mem_disk.MemDiskDisk.read.Goals as goal

pub returns-then-next-clause-plan : goal.returns-then-next-clause-plan
returns-then-next-clause-plan c =
    answers_read c.args.self.now.changes c.args.self.now.reads c.next.new.self c.args.self.now.stop _ _ c.next.ensures.left (λ fewer. refl) (λ fails. c.next.ensures.taken.0 c.if-next.true)

pub returns-clause-plan : goal.returns-clause-plan
returns-clause-plan c =
    answers_read c.args.self.now.changes c.args.self.now.reads c.next.new.self c.args.self.now.stop _ _ c.next.ensures.left (λ fewer. absurd (false≢true (sym c.if-next.false ∙ c.next.ensures.taken.1 fewer))) (λ fails. absurd (cc fails))
