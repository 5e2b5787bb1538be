use Rattle.std.proofs.Common.{length, subst, sym}
use Rattle.std.specs.List.{AllByRecursion}
use Rattle.mi_replay.specs.Tables.{IsItemOver}
use Rattle.mi_call.specs.declared.loading.Scheduled.{Scheduled}
use Rattle.mi_call.proofs.CallLemmas.{items_over}
use Rattle.mi_call.proofs.replaying.play.Goals as goal

pub replay-requires-clause-schedule : goal.replay-requires-clause-schedule
replay-requires-clause-schedule c =
    rw c.as_slice-scripts.ensures
    (subst (λ (s : Scheduled). AllByRecursion (IsItemOver (length s.loaded.scripts)) s.schedule) (sym c.inputs.view_is)
    (items_over (length c.args.inputs.now.loaded.scripts) c.args.inputs.now.schedule c.requires.schedule.each))
