use Rattle.std.proofs.Common.{◌≡◌, map, take}
use Rattle.mi_base.specs.History.{live, updates_of}
use Rattle.test_board.proofs.conditions.live_of.Given as goal

-- the objects are those after the events so far
abbrev pub invariant-loop-event : goal.invariant-loop-event
invariant-loop-event l = map (λ o. record { id = o.id; vector = o.vector }) l.objects.items ≡ live (updates_of (take l.event-index l.log))
