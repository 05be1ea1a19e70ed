use Rattle.std.proofs.Common.{ltb, ltb-true, arith, rules}
use Rattle.std.proofs.lemmas.Bool.Decides.{nat_tests}
use Rattle.std.proofs.lemmas.List.Sorted.{IsPartitionPoint-from_clause, IsPartitionedBy-ltb}
use Rattle.grid_core.proofs.Searches.{highs_rise}
use Rattle.grid_core.proofs.sorted_area.first_from.Goals as goal

pub returns : goal.returns
returns c =
    let parted = IsPartitionedBy-ltb (λ i. i.hi) _ c.args.lo (highs_rise c.args.intervals.now c.requires.ordered c.requires.apart) in
    let point = IsPartitionPoint-from_clause (λ i. ltb i.hi c.args.lo) _ _ c.partition_point.ensures.partitioned parted (λ a r q k. search rules) in
    (λ k d low high. ltb-true _ _ (point.0 k d low high), λ k d low high. let h = point.1 k d low high in grind (arith, nat_tests, h))
