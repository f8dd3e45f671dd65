-- Numbers never fall in the list, so the changes before the first number are a beginning of it, and those up to
-- the last one a beginning of the rest. What lies between is just the changes asked for.
use Rattle.std.proofs.Common.{◌≡◌, ◌-◌, List, length, take, drop, leb, ltb, sym, subst, arith, rules}
use Rattle.std.specs.List.Sorted.{IsNonDecreasingBy}
use Rattle.std.proofs.lemmas.Bool.{ltb-true, ltb-false, leb-true, leb-false}
use Rattle.std.proofs.lemmas.List.{take_rest}
use Rattle.std.proofs.lemmas.List.Sorted.{IsNonDecreasingBy-drop, IsPartitionPoint-from_clause, IsPartitionedBy-leb}
use Rattle.std.proofs.lemmas.List.Sorted.{IsPartitionedBy-ltb}
use Rattle.trend_archive.specs.declared.change.Changed.{Changed}
use Rattle.trend_archive.proofs.RangeLaws.{between-found}
use Rattle.trend_archive.proofs.ranges.between.Goals as goal

pub returns : goal.returns
returns c = λ rising.
    let rest : take (length c.args.list.now - c.partition_point-start.result)
    (drop c.partition_point-start.result c.args.list.now) ≡ drop c.partition_point-start.result c.args.list.now =
    take_rest c.args.list.now c.partition_point-start.result in
    let later = subst (λ (xs : List Changed). IsNonDecreasingBy (λ (x : Changed). x.number) xs) (sym rest)
    (IsNonDecreasingBy-drop (λ (x : Changed). x.number) c.partition_point-start.result c.args.list.now rising) in
    let low = IsPartitionPoint-from_clause (λ (x : Changed). ltb x.number c.args.first)
    _ _ c.partition_point-start.ensures.partitioned
    (IsPartitionedBy-ltb (λ (x : Changed). x.number) _ c.args.first rising) (λ a r q k. search rules) in
    let high = IsPartitionPoint-from_clause (λ (x : Changed). leb x.number c.args.last)
    _ _ c.partition_point-end.ensures.partitioned
    (IsPartitionedBy-leb (λ (x : Changed). x.number) _ c.args.last later) (λ a r q k. search rules) in
    between-found c.args.first c.args.last c.args.list.now _ c.partition_point-start.result
    c.partition_point-end.result rest
    (λ k d lt. ltb-true _ _ (low.0 k d (omega arith) lt)) (λ k d le within. ltb-false _ _ (low.1 k d le within))
    (λ k d lt. leb-true _ _ (high.0 k d (omega arith) lt)) (λ k d le within. leb-false _ _ (high.1 k d le within))
