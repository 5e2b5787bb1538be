use Rattle.std.proofs.Common.{rules, FitsSigned, w64, pos, ap, ◌∙◌, arith}
use Rattle.std.proofs.lemmas.Int.{to_z-of_z}
use Rattle.mi_make.specs.Draws.{coordinate, next_state}
use Rattle.mi_make.proofs.DrawLemmas.{all_drawn, drawn_on, left_on, none_left}
use Rattle.mi_make.proofs.draws.Draws.items.Goals as goal

pub loop-preserved : goal.loop-preserved
loop-preserved c =
    let i = c.loop.counter in
    let x = c.loop.self.state in
    let y = c.below.new.self.state in
    let fits : FitsSigned w64 c.from.result = search rules in
    let put = simp to_z-of_z at c.push.ensures.items in
    record {
      drawn = drawn_on coordinate next_state 16 i x y c.from.result _ c.loop.items.items c.push.new.self.items c.loop-test.true c.below.ensures.state (c.from.ensures ∙ ap pos c.below.ensures.value) put c.loop.invariant.drawn;
      state = left_on next_state 16 i x y _ c.loop-test.true c.below.ensures.state c.loop.invariant.state;
      count = omega (arith, c.push.ensures.len, c.loop.invariant.count);
    }

pub returns-clause-value : goal.returns-clause-value
returns-clause-value c = all_drawn coordinate next_state 16 c.loop.counter c.loop.self.state _ c.loop.items.items c.loop-test.false c.loop.invariant.drawn

pub returns-clause-state : goal.returns-clause-state
returns-clause-state c = none_left next_state 16 c.loop.counter c.loop.self.state _ c.loop-test.false c.loop.invariant.state
