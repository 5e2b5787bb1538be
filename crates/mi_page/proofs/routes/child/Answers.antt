use Rattle.std.proofs.Common.{rules, nat_le}
use Rattle.std.proofs.lemmas.List.Sorted.{IsPartitionPoint-from_clause, IsPartitionedBy-leb}
use Rattle.mi_page.proofs.OrderLemmas.{rises}
use Rattle.mi_page.proofs.RouteLemmas.{after_first, child_before}
use Rattle.mi_page.proofs.routes.child.Goals as goal

pub overflow_sub-result : goal.overflow_sub-result
overflow_sub-result c =
    after_first c.args.key c.args.routes.now c.partition_point-after.result c.requires.first
    (IsPartitionPoint-from_clause (λ r. nat_le r.key c.args.key) c.args.routes.now c.partition_point-after.result c.partition_point-after.ensures.partitioned
    (IsPartitionedBy-leb (λ r. r.key) c.args.routes.now c.args.key (rises (λ r. r.key) c.args.routes.now c.requires.order)) (λ a b f' k. search rules))

pub returns : goal.returns
returns c =
    child_before c.args.key c.args.routes.now c.partition_point-after.result c.index-routes-after.result c.requires.order c.requires.first c.partition_point-after.ensures.bound
    (IsPartitionPoint-from_clause (λ r. nat_le r.key c.args.key) c.args.routes.now c.partition_point-after.result c.partition_point-after.ensures.partitioned
    (IsPartitionedBy-leb (λ r. r.key) c.args.routes.now c.args.key (rises (λ r. r.key) c.args.routes.now c.requires.order)) (λ a b f' k. search rules))
