use Rattle.std.proofs.Common.{◌≡◌, ◌<◌, length, get_or, ◌∙◌, arith}
use Rattle.std.proofs.lemmas.List.{get_or_default}
use Rattle.sd_outside.specs.Moments.Change.{Sync}
use Rattle.sd_outside.proofs.RefreshLaws.{refreshed_then, spared_more}
use Rattle.sd_outside.proofs.history.refresh_all.Goals as goal

pub loop-place-preserved : goal.loop-place-preserved
loop-place-preserved g c =
    let changes = c.args.slots.now in
    let below : c.loop-place.place < length changes = omega (arith, c.loop-place-test.true) in
    let is : c.index-slots-place.result ≡ get_or changes c.loop-place.place Sync = c.index-slots-place.is ∙ get_or_default changes c.loop-place.place c.index-slots-place.result Sync below in
    refreshed_then c.args.from.now c.args.items.now.items c.loop-place.items.items c.refresh.new.items.items (λ place before last. spared_more c.loop-place.place changes place c.index-slots-place.result is before last) c.loop-place.invariant c.refresh.ensures
