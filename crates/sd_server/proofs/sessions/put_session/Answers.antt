use Rattle.std.proofs.Common.{◌==◌, if◌then◌else◌, false}
use Rattle.sd_server.specs.declared.sessions.Sending.{Sending}
use Rattle.sd_server.proofs.Found.{put_next}
use Rattle.sd_server.proofs.sessions.put_session.Goals as goal

pub loop-place-preserved : goal.loop-place-preserved
loop-place-preserved c =
    let f : Sending → Sending = λ s. if s.number == c.args.new.now.number then c.args.new.now else s in
    put_next f c.as_mut_slice-list.result.now c.loop-place.list c.loop-place.place c.index-list-place.result c.later.result c.loop-place-test.true c.loop-place.invariant c.later.ensures
