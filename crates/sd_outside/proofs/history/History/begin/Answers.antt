use Rattle.std.proofs.Common.{◌∙◌, ap, ℕ, List, length, get_or, take, Bool, false}
use Rattle.sd_outside.proofs.HistoryLaws.{caught_up}
use Rattle.sd_outside.proofs.history.History.begin.Goals as goal

pub returns-clause-named : goal.returns-clause-named
returns-clause-named c =
    let old = c.args.self.now in
    let now = c.args.surface.now.state in
    let near = c.requires.near in
    let bytes_is = ap (λ v. v.named.bytes) c.self.view_is in
    let marks_is = ap (λ v. v.named.unsynced) c.self.view_is in
    let changes_is = ap (λ v. v.changes) c.self.view_is in
    let bytes = caught_up old.changes _ c.args.span now.bytes _ _ _ _ _ 0 (ap (take c.self.inside.kept) c.deref.ensures.value ∙ changes_is) c.bytes.ensures c.bytes-2.ensures c.refresh_all.ensures c.refresh.ensures (ap length bytes_is ∙ near.size)
    (λ place spared outside. ap (λ (l : List ℕ). get_or l place 0) bytes_is ∙ near.bytes place spared outside) in
    let marks = caught_up old.changes _ c.args.span now.unsynced _ _ _ _ _ false (ap (take c.self.inside.kept) c.deref-2.ensures.value ∙ changes_is) c.unsynced.ensures c.unsynced-2.ensures c.refresh_all-2.ensures c.refresh-2.ensures (ap length marks_is ∙ near.unsynced_size)
    (λ place spared outside. ap (λ (l : List Bool). get_or l place false) marks_is ∙ near.unsynced place spared outside) in
    λ i. record { bytes = bytes i; unsynced = marks i }
