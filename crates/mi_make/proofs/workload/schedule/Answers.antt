use Rattle.mi_make.specs.Workloads.{after_item, item}
use Rattle.mi_make.proofs.DrawLemmas.{all_drawn, drawn_on}
use Rattle.mi_make.proofs.workload.schedule.Goals as goal

pub loop-preserved : goal.loop-preserved
loop-preserved c = record { drawn = drawn_on item after_item c.args.count c.loop.counter c.loop.draws.state c.next_item.new.draws.state c.next_item.result _ c.loop.list c.push.new.self c.loop-test.true c.next_item.ensures.state c.next_item.ensures.value c.in_ok-push.ensures.ok c.loop.invariant.drawn }

pub returns : goal.returns
returns c = all_drawn item after_item c.args.count c.loop.counter c.loop.draws.state _ c.loop.list c.loop-test.false c.loop.invariant.drawn
