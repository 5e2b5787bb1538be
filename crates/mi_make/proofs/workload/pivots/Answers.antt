use Rattle.mi_make.specs.Draws.{after_vector, vector}
use Rattle.mi_make.proofs.DrawLemmas.{all_drawn, drawn_on, left_on, none_left}
use Rattle.mi_make.proofs.workload.pivots.Goals as goal

pub loop-preserved : goal.loop-preserved
loop-preserved c = record {
  drawn = drawn_on vector after_vector c.args.count c.loop.counter c.loop.draws.state c.vector.new.self.state c.vector.result _ c.loop.list c.push.new.self c.loop-test.true c.vector.ensures.state c.vector.ensures.value c.in_ok-push.ensures.ok c.loop.invariant.drawn;
  state = left_on after_vector c.args.count c.loop.counter c.loop.draws.state c.vector.new.self.state _ c.loop-test.true c.vector.ensures.state c.loop.invariant.state;
}

pub returns-clause-value : goal.returns-clause-value
returns-clause-value c = all_drawn vector after_vector c.args.count c.loop.counter c.loop.draws.state _ c.loop.list c.loop-test.false c.loop.invariant.drawn

pub returns-clause-state : goal.returns-clause-state
returns-clause-state c = none_left after_vector c.args.count c.loop.counter c.loop.draws.state _ c.loop-test.false c.loop.invariant.state
