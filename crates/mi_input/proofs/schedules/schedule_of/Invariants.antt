use Rattle.std.proofs.Common.{◌≡◌, ◌≤◌, length}
use Rattle.mi_base.specs.declared.limits.TheConstants.{MAX_TURNS}
use Rattle.mi_input.specs.Schedules.{schedule_from, schedule_in}
use Rattle.mi_input.proofs.EachLemmas.{with_front}
use Rattle.mi_input.proofs.schedules.schedule_of.Given as goal

-- what was read and what is left is what is read from the start
abbrev pub invariant-loop-fields : goal.invariant-loop-fields
invariant-loop-fields l = record {
  so_far : with_front l.schedule (schedule_from l.sessions l.turns l.records.number l.records.records) ≡ schedule_in l.sessions l.bytes;
  few : l.records.number ≤ 1000001;
  small : l.turns ≤ MAX_TURNS;
}

abbrev pub decreases-loop-fields : goal.decreases-loop-fields
decreases-loop-fields l = length l.records.records
