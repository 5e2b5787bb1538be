use Rattle.mi_nearest.proofs.RankLemmas.{RankedTo}
use Rattle.mi_nearest.proofs.order.ranked.Given as goal

abbrev pub invariant-loop-place : goal.invariant-loop-place
invariant-loop-place l = RankedTo l.query.items l.catalog.leaves l.place l.ranks.items
