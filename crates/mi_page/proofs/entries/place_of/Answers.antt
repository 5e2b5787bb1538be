use Rattle.std.proofs.Common.{rules, nat_lt}
use Rattle.std.proofs.lemmas.List.Sorted.{IsPartitionPoint-from_clause, IsPartitionedBy-ltb}
use Rattle.mi_page.proofs.OrderLemmas.{rises}
use Rattle.mi_page.proofs.PlaceLemmas.{point_is}
use Rattle.mi_page.proofs.entries.place_of.Goals as goal

pub returns-clause-place : goal.returns-clause-place
returns-clause-place c =
    let entries = c.args.entries.now in
    point_is (λ e. nat_lt e.key c.args.key) entries c.partition_point.result c.partition_point.ensures.bound
    (IsPartitionPoint-from_clause (λ e. nat_lt e.key c.args.key) entries c.partition_point.result c.partition_point.ensures.partitioned
    (IsPartitionedBy-ltb (λ e. e.key) entries c.args.key (rises (λ e. e.key) entries c.requires)) (λ a r f' k. search rules))
