use Rattle.std.proofs.Common.{◌≡◌, ◌≤◌, length}
use Rattle.std.specs.Prelude.{take, vec_capacity}
use Rattle.mi_hall.specs.Passes.{place_view}
use Rattle.mi_session.specs.Scripts.{AnswersAll}
use Rattle.mi_run.proofs.workers.serve.Given as goal

-- so many operations were made
abbrev pub invariant-loop-op : goal.invariant-loop-op
invariant-loop-op g l = record {
  answers : AnswersAll 1 (place_view l.fn.place) (take l.op-index l.ops) l.replies.items (place_view l.session.world);
  count : length l.replies.items ≡ l.op-index;
  operations : l.session.operations ≡ l.op-index;
  room : length l.ops ≤ vec_capacity l.replies;
  table : l.session.world.table ≡ l.fn.place.table;
}
