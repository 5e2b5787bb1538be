use Rattle.std.proofs.Common.{rules, nat_lt}
use Rattle.std.proofs.lemmas.List.Sorted.{IsPartitionPoint-from_clause, IsPartitionedBy-ltb}
use Rattle.mi_page.proofs.OrderLemmas.{rises}
use Rattle.mi_page.proofs.PlaceLemmas.{point_is}
use Rattle.mi_page.proofs.routes.place_of.Goals as goal

pub returns-clause-place : goal.returns-clause-place
returns-clause-place c =
    let routes = c.args.routes.now in
    point_is (λ r. nat_lt r.key c.args.key) routes c.partition_point.result c.partition_point.ensures.bound
    (IsPartitionPoint-from_clause (λ r. nat_lt r.key c.args.key) routes c.partition_point.result c.partition_point.ensures.partitioned
    (IsPartitionedBy-ltb (λ r. r.key) routes c.args.key (rises (λ r. r.key) routes c.requires)) (λ a b f' k. search rules))
