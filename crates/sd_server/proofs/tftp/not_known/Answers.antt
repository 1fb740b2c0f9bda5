use Rattle.sd_tftp.specs.declared.packet.TftpPacket.TheVariants.{Rrq, Wrq, Block, Ack}
use Rattle.sd_server.proofs.Transfers.{not_known_as}
use Rattle.sd_server.proofs.tftp.not_known.Goals as goal

pub returns-in_ok-refusal-in-Ack : goal.returns-in_ok-refusal-in-Ack
returns-in_ok-refusal-in-Ack c =
    λ part. not_known_as c.args.config.now part c.args.port c.args.from (Ack c.in-Ack.number) c.args.packet.now c.in_ok-refusal-in-Ack.field-0 c.in-Ack.is (c.in_ok-refusal-in-Ack.ensures part)

pub returns-in_ok-refusal-in-Block : goal.returns-in_ok-refusal-in-Block
returns-in_ok-refusal-in-Block c =
    λ part. not_known_as c.args.config.now part c.args.port c.args.from (Block c.in-Block.number c.in-Block.bytes) c.args.packet.now c.in_ok-refusal-in-Block.field-0 c.in-Block.is (c.in_ok-refusal-in-Block.ensures part)

pub returns-in_ok-refusal-in-Rrq : goal.returns-in_ok-refusal-in-Rrq
returns-in_ok-refusal-in-Rrq c =
    λ part. not_known_as c.args.config.now part c.args.port c.args.from (Rrq c.in-Rrq.name c.in-Rrq.mode) c.args.packet.now c.in_ok-refusal-in-Rrq.field-0 c.in-Rrq.is (c.in_ok-refusal-in-Rrq.ensures part)

pub returns-in_ok-refusal-in-Wrq : goal.returns-in_ok-refusal-in-Wrq
returns-in_ok-refusal-in-Wrq c =
    λ part. not_known_as c.args.config.now part c.args.port c.args.from (Wrq c.in-Wrq.name c.in-Wrq.mode) c.args.packet.now c.in_ok-refusal-in-Wrq.field-0 c.in-Wrq.is (c.in_ok-refusal-in-Wrq.ensures part)
