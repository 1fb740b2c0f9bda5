use Rattle.std.proofs.Common.{refl, sym, ap, ◌∷◌, []}
use Rattle.sd_tftp.specs.declared.step.Step.TheVariants as step
use Rattle.sd_rpc_retry.specs.declared.asking.Look.TheVariants.{Match, Reply, Other}
use Rattle.sd_boot_chain.specs.declared.fetch.Progress.TheVariants as moves
use Rattle.sd_boot_chain.proofs.Looking.{looks_at}
use Rattle.sd_boot_chain.proofs.fetch.BlockListener.turn.Goals as goal

pub returns-in-Ignored-clause-turned : goal.returns-in-Ignored-clause-turned
returns-in-Ignored-clause-turned c =
    looks_at c.args.self.now.me c.args.self.now.receiver c.args.from c.args.packet.now _ step.Ignored c.step.new.self Other c.in_ok-step.ensures.exact c.in-Ignored.is (refl, refl)

pub returns-in_ok-turn_away-in-Stranger-clause-turned : goal.returns-in_ok-turn_away-in-Stranger-clause-turned
returns-in_ok-turn_away-in-Stranger-clause-turned c =
    looks_at c.args.self.now.me c.args.self.now.receiver c.args.from c.args.packet.now _ (step.Stranger c.in-Stranger.to) c.step.new.self (Reply c.in_ok-turn_away-in-Stranger.field-0) c.in_ok-step.ensures.exact c.in-Stranger.is
    (refl, ap (λ p. p ∷ []) (sym c.in_ok-turn_away-in-Stranger.ensures))

pub returns-in_ok-acknowledge-in-Again-clause-turned : goal.returns-in_ok-acknowledge-in-Again-clause-turned
returns-in_ok-acknowledge-in-Again-clause-turned c =
    looks_at c.args.self.now.me c.args.self.now.receiver c.args.from c.args.packet.now _ (step.Again c.in-Again.to c.in-Again.number) c.step.new.self (Reply c.in_ok-acknowledge-in-Again.field-0) c.in_ok-step.ensures.exact c.in-Again.is
    (refl, ap (λ p. p ∷ []) (sym c.in_ok-acknowledge-in-Again.ensures))

pub returns-in-Took-clause-turned : goal.returns-in-Took-clause-turned
returns-in-Took-clause-turned c =
    looks_at c.args.self.now.me c.args.self.now.receiver c.args.from c.args.packet.now _ (step.Took c.in-Took.to c.in-Took.number c.in-Took.last) c.step.new.self (Match (moves.Block c.in-Took.to c.in-Took.number c.in-Took.last))
    c.in_ok-step.ensures.exact c.in-Took.is (refl, refl)

pub returns-in-Refused-clause-turned : goal.returns-in-Refused-clause-turned
returns-in-Refused-clause-turned c =
    looks_at c.args.self.now.me c.args.self.now.receiver c.args.from c.args.packet.now _ (step.Refused c.in-Refused.code) c.step.new.self (Match (moves.Refused c.in-Refused.code)) c.in_ok-step.ensures.exact c.in-Refused.is (refl, refl)

pub returns-in-Over-clause-turned : goal.returns-in-Over-clause-turned
returns-in-Over-clause-turned c =
    looks_at c.args.self.now.me c.args.self.now.receiver c.args.from c.args.packet.now _ (step.Over c.in-Over.got) c.step.new.self (Match (moves.Over c.in-Over.got)) c.in_ok-step.ensures.exact c.in-Over.is (refl, refl)
