use Rattle.std.proofs.Common.{◌≡◌, ◌≤◌, length, take}
use Rattle.mi_base.specs.History.{updates_of}
use Rattle.mi_print.proofs.transcript.count_updates.Given as goal

-- the updates among the events so far
abbrev pub invariant-loop-event : goal.invariant-loop-event
invariant-loop-event l = record {
  counted : l.updates ≡ length (updates_of (take l.event-index l.event-items));
  few : l.updates ≤ l.event-index;
  same : l.event-items ≡ l.initial.event-items;
}
