use Rattle.std.proofs.Common.{◌≡◌, ◌≤◌, length}
use Rattle.mi_input.specs.Records.{records_in}
use Rattle.mi_input.specs.Scripts.{script_from}
use Rattle.mi_input.proofs.EachLemmas.{with_front}
use Rattle.mi_input.proofs.scripts.script_of.Given as goal

-- what was read and what is left is what is read from the start
abbrev pub invariant-loop-fields : goal.invariant-loop-fields
invariant-loop-fields l = record {
  so_far : with_front l.script (script_from l.shape l.records.number l.records.records) ≡ script_from l.shape 1 (records_in l.bytes);
  few : l.records.number ≤ 200001;
}

abbrev pub decreases-loop-fields : goal.decreases-loop-fields
decreases-loop-fields l = length l.records.records
