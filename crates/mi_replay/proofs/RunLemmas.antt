-- The blocks of a run are one run.
use Rattle.std.proofs.Common.{List, [], ◌∷◌, ◌++◌, sym, subst}
use Rattle.mi_base.specs.declared.records.Op.{Op}
use Rattle.mi_base.specs.declared.records.ScheduleItem.{ScheduleItem}
use Rattle.mi_core.specs.State.{State}
use Rattle.mi_replay.specs.InOrder.{Blocks}
use Rattle.mi_settle.specs.Turns.{Chained, Turn}
use Rattle.mi_settle.proofs.TurnLemmas.{chained_on}

pub blocks_chained : (scripts : List (List Op)) (earlier : List Turn) (s : State) (items : List ScheduleItem) (turns : List Turn) (t : State) → Blocks scripts earlier s items turns t
    → Chained s turns t
blocks_chained scripts earlier s [] turns t h = subst (λ us. Chained s us t) (sym h.0) h.1
blocks_chained scripts earlier s (i ∷ is) turns t h =
    subst (λ us. Chained s us t) (sym h.3) (chained_on s h.2 t h.0 h.1 h.4 (blocks_chained scripts (earlier ++ h.0) h.2 is h.1 t h.6))
