use Rattle.std.proofs.Common.{◌≡◌, ◌+◌, ◌++◌, ◌∷◌, [], List, sym, ap, ◌∙◌, subst, length, arith}
use Rattle.std.specs.Prelude.{take}
use Rattle.std.proofs.lemmas.List.{take_all, take_more}
use Rattle.std.proofs.lemmas.Option.{get_or_from_slice_get, slice_get_within}
use Rattle.mi_base.specs.declared.records.ScheduleItem.{ScheduleItem}
use Rattle.mi_base.specs.Configuration.{Configuration, metric_space}
use Rattle.mi_base.specs.Space.{IsMetric}
use Rattle.mi_replay.specs.Tables.{IsItemOver, Ran}
use Rattle.mi_replay.proofs.SpendingTables.{spent_none}
use Rattle.mi_tree.proofs.ListLemmas.{all_get}
use Rattle.mi_replay.proofs.replaying.scheduled.Goals as goal

pub open-requires-clause-metric : goal.open-requires-clause-metric
open-requires-clause-metric g c = subst IsMetric c.requires.space (g.met.M.Metric.laws c.args.metric.now)

pub loop-place-init : goal.loop-place-init
loop-place-init g c =
    let t = c.in_ok-table.table in
    record {
      ran = c.in_ok-table.ensures;
      spent = spent_none c.args.settings.now c.args.scripts.now t.solo.state t.seats.items t.splitter c.in_ok-table.ensures c.args.steps.now;
    }

pub item-requires-clause-space : goal.item-requires-clause-space
item-requires-clause-space g c = c.requires.space ∙ ap metric_space (sym c.loop-place.invariant.ran.at.settings)

pub item-requires-clause-pivots : goal.item-requires-clause-pivots
item-requires-clause-pivots g c = c.requires.pivots ∙ ap (λ (k : Configuration). k.pivots) (sym c.loop-place.invariant.ran.at.settings)

pub item-requires-clause-item : goal.item-requires-clause-item
item-requires-clause-item g c = all_get (IsItemOver (length c.args.scripts.now)) c.args.schedule.now c.loop-place.place c.at-item.result.now c.requires.schedule c.at-item.ensures

pub loop-place-preserved : goal.loop-place-preserved
loop-place-preserved g c =
    let l = c.loop-place in
    let xs = c.args.schedule.now in
    let item = c.at-item.result.now in
    let more : take (l.place + 1) xs ≡ take l.place xs ++ item ∷ [] =
    take_more xs l.place item (slice_get_within xs l.place item c.at-item.ensures) ∙ ap (λ x. take l.place xs ++ x ∷ []) (get_or_from_slice_get xs l.place item item c.at-item.ensures) in
    let t = c.item.new.self in
    record {
      ran = subst (λ (is : List ScheduleItem). Ran c.args.settings.now c.args.scripts.now is t.solo.state t.seats.items t.splitter) (sym more)
          (c.item.ensures.made.on c.args.settings.now (take l.place xs) l.invariant.ran);
      spent = c.item.ensures.spends c.args.steps.now l.invariant.spent;
    }

pub returns-clause-run : goal.returns-clause-run
returns-clause-run g c =
    let xs = c.args.schedule.now in
    let t = c.loop-place.table in
    let all : take c.loop-place.place xs ≡ xs = take_all c.loop-place.place xs (omega (arith, c.loop-place-test.false, c.len-place-end.ensures)) in
    subst (λ (is : List ScheduleItem). Ran c.args.settings.now c.args.scripts.now is t.solo.state t.seats.items t.splitter) all c.loop-place.invariant.ran
