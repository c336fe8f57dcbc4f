use Rattle.std.proofs.Common.{rules, arith, ltb}
use Rattle.std.proofs.lemmas.Bool.{ltb-true}
use Rattle.std.proofs.lemmas.List.Sorted.{IsPartitionPoint-from_clause, IsPartitionedBy-ltb}
use Rattle.claims.proofs.TraceLaws.{rises_along}
use Rattle.claims.proofs.seen.first_from.Goals as goal

pub returns-then-is_sorted : goal.returns-then-is_sorted
returns-then-is_sorted c =
    let sorted = rises_along 0 c.args.lines.now (c.requires c.if-is_sorted.true) in
    let parted = IsPartitionPoint-from_clause (λ l. ltb l.at c.args.from) c.args.lines.now c.partition_point.result c.partition_point.ensures.partitioned
    (IsPartitionedBy-ltb (λ l. l.at) c.args.lines.now c.args.from sorted) (λ a r q k. search rules) in
    λ k d g. ltb-true _ _ (parted.0 k d (omega arith) g)
