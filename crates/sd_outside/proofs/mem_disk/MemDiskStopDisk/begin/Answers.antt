use Rattle.sd_outside.proofs.HistoryLaws.{near_named}
use Rattle.sd_outside.proofs.mem_disk.MemDiskStopDisk.begin.Goals as goal

pub begin-requires-clause-near : goal.begin-requires-clause-near
begin-requires-clause-near c =
    let self = c.args.self.now in
    near_named self.history.changes self.history.named self.surface.state self.named_dirty self.bytes_replayed self.unsynced_replayed self.fit self.named_size self.named_unsynced_size self.unsynced_size self.covered
