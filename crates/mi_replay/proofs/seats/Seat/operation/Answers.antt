use Rattle.std.proofs.Common.{◌≡◌, ◌<◌, ◌≤◌, sym, ap, ◌∙◌, subst, inr}
use Rattle.mi_base.specs.Configuration.{Configuration, metric_space}
use Rattle.mi_solo.specs.States.{view_in}
use Rattle.mi_replay.specs.declared.seats.Taken.{Taken}
use Rattle.mi_replay.specs.declared.seats.Taken.TheVariants.{More}
use Rattle.mi_replay.proofs.SeatBlocks.{OnItsWay, left_falls, more_is, ready_under, seat_left, way_first, way_more, way_stops}
use Rattle.mi_replay.proofs.SpendingLemmas.{spends_on}
use Rattle.mi_replay.proofs.seats.Seat.operation.Goals as goal

pub loop-alloc-init : goal.loop-alloc-init
loop-alloc-init g c = record {
  way = way_first c.args.actor c.args.script.now c.args.solo.now.state c.args.self.now c.turn-taken.result c.turn-taken.new.self c.turn-taken.new.solo.state c.turn-taken.ensures.made
      c.requires.waits c.turn-taken.ensures.waits;
  spends = c.turn-taken.ensures.spends;
}

pub turn-taken-requires-in-loop-alloc-clause-space : goal.turn-taken-requires-in-loop-alloc-clause-space
turn-taken-requires-in-loop-alloc-clause-space g c = c.requires.space ∙ ap metric_space (sym c.loop-alloc.invariant.way.settings)

pub turn-taken-requires-in-loop-alloc-clause-pivots : goal.turn-taken-requires-in-loop-alloc-clause-pivots
turn-taken-requires-in-loop-alloc-clause-pivots g c = c.requires.pivots ∙ ap (λ (x : Configuration). x.pivots) (sym c.loop-alloc.invariant.way.settings)

pub turn-taken-requires-in-loop-alloc-clause-ready : goal.turn-taken-requires-in-loop-alloc-clause-ready
turn-taken-requires-in-loop-alloc-clause-ready g c =
    let l = c.loop-alloc in
    let more : l.taken ≡ More = more_is l.taken (sym c.is_more.ensures ∙ c.loop-alloc-test.true) in
    let way = subst (λ (r : Taken). OnItsWay c.args.actor c.args.script.now c.args.solo.now.state c.args.self.now r l.solo.state l.self) more l.invariant.way in
    ready_under l.solo.state c.args.actor c.args.script.now l.self way.stage.1 way.is.waits way.stage.2

pub loop-alloc-smaller : goal.loop-alloc-smaller
loop-alloc-smaller g c =
    let l = c.loop-alloc in
    let k = c.args.actor in
    let script = c.args.script.now in
    let b = c.turn-taken-in-loop-alloc.new.self in
    let t = c.turn-taken-in-loop-alloc.new.solo.state in
    let r = c.turn-taken-in-loop-alloc.result in
    let more : l.taken ≡ More = more_is l.taken (sym c.is_more.ensures ∙ c.loop-alloc-test.true) in
    let way = subst (λ (r : Taken). OnItsWay k script c.args.solo.now.state c.args.self.now r l.solo.state l.self) more l.invariant.way in
    let deep : l.solo.state.board.settings.levels ≤ 6 = subst (λ (x : Configuration). x.levels ≤ 6) (sym way.settings) c.requires.levels in
    let falls = left_falls k script l.solo.state l.self r b t way.stage.1 way.stage.2 deep c.turn-taken-in-loop-alloc.ensures.made in
    subst (λ (x : Taken). seat_left r b (view_in t k) < seat_left x l.self (view_in l.solo.state k)) (sym more) falls

pub loop-alloc-preserved : goal.loop-alloc-preserved
loop-alloc-preserved g c =
    let l = c.loop-alloc in
    let k = c.args.actor in
    let script = c.args.script.now in
    let turn = c.turn-taken-in-loop-alloc in
    let more : l.taken ≡ More = more_is l.taken (sym c.is_more.ensures ∙ c.loop-alloc-test.true) in
    let way = subst (λ (r : Taken). OnItsWay k script c.args.solo.now.state c.args.self.now r l.solo.state l.self) more l.invariant.way in
    record {
      way = way_more k script c.args.solo.now.state c.args.self.now l.solo.state l.self turn.result turn.new.self turn.new.solo.state way turn.ensures.made turn.ensures.waits;
      spends = spends_on k script c.args.solo.now.state l.solo.state turn.new.solo.state c.args.self.now l.self turn.new.self c.args.steps.now l.steps turn.new.steps l.invariant.spends turn.ensures.spends;
    }

pub returns-clause-made : goal.returns-clause-made
returns-clause-made g c =
    let l = c.loop-alloc in
    inr (l.taken, way_stops c.args.actor c.args.script.now c.args.solo.now.state c.args.self.now l.taken l.solo.state l.self l.invariant.way (sym c.is_more.ensures ∙ c.loop-alloc-test.false))
