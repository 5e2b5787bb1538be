use Rattle.std.proofs.Common.{◌≡◌, [], ◌+◌, ◌-◌, ◌*◌, ◌≤◌, length, map}
use Rattle.mi_choose.specs.Covering.{from_nearest}
use Rattle.mi_choose.specs.Farthest.{chosen_after, objects_at}
use Rattle.mi_choose.proofs.choosing.choose_places.Given as goal

-- what is chosen after those so far is what is chosen at all, and each distance is that from the nearest so far
abbrev pub invariant-loop : goal.invariant-loop
invariant-loop g l = record {
  rest : chosen_after (g.M.Metric.space l.metric) l.objects (l.count - l.counter) l.chosen ≡ chosen_after (g.M.Metric.space l.metric) l.objects l.count [];
  distances : l.distances ≡ map (from_nearest (g.M.Metric.space l.metric) (objects_at l.objects l.chosen)) l.objects;
  steps : l.steps ≡ l.initial.steps + length l.objects * length l.chosen;
  within : l.counter ≤ l.count;
}
