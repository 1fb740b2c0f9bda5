use Rattle.std.proofs.Common.{◌+◌, ◌≤◌, leb, leb-true, arith, rules}
use Rattle.std.proofs.lemmas.List.Sorted.{IsPartitionPoint-from_clause, IsPartitionedBy-leb}
use Rattle.sd_segment.specs.declared.flown.Flown.{Flown}
use Rattle.sd_segment.proofs.Outlived.{first_all}
use Rattle.sd_segment.proofs.due.outlived.Goals as goal

pub returns-in-Some-clause-old : goal.returns-in-Some-clause-old
returns-in-Some-clause-old c =
    let last = c.in-Some.last in
    let parted = IsPartitionedBy-leb (λ (f : Flown). f.tick) _ last c.requires in
    let point = IsPartitionPoint-from_clause (λ (f : Flown). leb f.tick last) _ _ c.partition_point.ensures.partitioned parted (λ a r q k. search rules) in
    first_all (λ (f : Flown). f.tick + c.args.life ≤ c.args.tick) c.partition_point.result c.args.flight.now (λ k d low lt. omega (arith, leb-true _ _ (point.0 k d low lt), c.in-Some.ensures))
