use Rattle.std.proofs.Common.{length, ap, subst}
use Rattle.std.specs.Prelude.{IfOk}
use Rattle.std.proofs.lemmas.Result.{IfOk-weaker}
use Rattle.mi_legal.specs.Work.{AllTakeSteps}
use Rattle.mi_replay.specs.Outcomes.{IsLeft, Played}
use Rattle.mi_replay.proofs.OutcomeLemmas.{played, takes_steps}
use Rattle.mi_replay.proofs.outcomes.replay_with.Goals as goal

pub returns-clause-played : goal.returns-clause-played
returns-clause-played g c =
    let settings = c.args.settings.now in
    let scripts = c.args.scripts.now in
    let schedule = c.args.schedule.now in
    let t = c.in_ok-table.table in
    let s = t.solo.state in
    let seats = t.seats.items in
    IfOk-weaker c.outcome.result (IsLeft (length scripts) settings.pages s seats t.splitter) (Played settings scripts schedule)
    (λ o left. played settings scripts schedule s seats t.splitter o c.in_ok-table.ensures.finished left)
    (subst (λ n. IfOk c.outcome.result (IsLeft (length scripts) n s seats t.splitter)) (ap (λ k. k.pages) c.settings.view_is) c.outcome.ensures)

pub returns-clause-steps : goal.returns-clause-steps
returns-clause-steps g c =
    let settings = c.args.settings.now in
    let scripts = c.args.scripts.now in
    let schedule = c.args.schedule.now in
    let t = c.in_ok-table.table in
    let s = t.solo.state in
    let seats = t.seats.items in
    let steps = c.args.steps.now in
    IfOk-weaker c.outcome.result (IsLeft (length scripts) settings.pages s seats t.splitter) (λ o. AllTakeSteps settings o.log scripts o.replies steps c.finished.new.steps)
    (λ o left. takes_steps settings scripts schedule s seats t.splitter o c.in_ok-table.ensures.finished left steps c.finished.new.steps c.in_ok-table.ensures.spent)
    (subst (λ n. IfOk c.outcome.result (IsLeft (length scripts) n s seats t.splitter)) (ap (λ k. k.pages) c.settings.view_is) c.outcome.ensures)
