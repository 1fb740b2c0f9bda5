use Rattle.sd_server.proofs.Blocks.{block_fits}
use Rattle.sd_server.proofs.tftp.block_packet.Goals as goal

pub packet_from-requires : goal.packet_from-requires
packet_from-requires c =
    block_fits c.in_ok-bytes.bytes c.block_of.result.now c.bytes_at-file.result.now c.args.number c.in_ok-bytes.ensures c.block_of.ensures
