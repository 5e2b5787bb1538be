use Rattle.mi_make.proofs.WorkloadLemmas.{all_shared, no_object, objects_on, shared_on}
use Rattle.mi_make.proofs.workload.scripts.Goals as goal

pub loop-number-preserved : goal.loop-number-preserved
loop-number-preserved c =
    let n = c.args.count in
    let i = c.loop-number.number in
    let x = c.loop-number.draws.state in
    let y = c.share.new.draws.state in
    let less = c.loop-number-test.true in
    let was = c.loop-number.invariant in
    let told = c.in_ok-share.ensures in
    record {
      even = shared_on 0 n i x y _ c.loop-number.even c.share.new.even less told.state told.even was.even;
      odd = shared_on 1 n i x y _ c.loop-number.odd c.share.new.odd less told.state told.odd was.odd;
      state = objects_on n i x y _ less told.state was.state;
    }

pub returns-clause-even : goal.returns-clause-even
returns-clause-even c = all_shared 0 c.args.count c.loop-number.number c.loop-number.draws.state _ c.loop-number.even c.loop-number-test.false c.loop-number.invariant.even

pub returns-clause-odd : goal.returns-clause-odd
returns-clause-odd c = all_shared 1 c.args.count c.loop-number.number c.loop-number.draws.state _ c.loop-number.odd c.loop-number-test.false c.loop-number.invariant.odd

pub returns-clause-state : goal.returns-clause-state
returns-clause-state c = no_object c.args.count c.loop-number.number c.loop-number.draws.state _ c.loop-number-test.false c.loop-number.invariant.state
