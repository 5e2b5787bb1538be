use Rattle.std.proofs.Common.{◌≡◌, ℕ, ◌+◌, ◌-◌, arith, subst, sym, ◌∙◌}
use Rattle.std.proofs.lemmas.Bool.{false≢true}
use Rattle.mi_job.specs.declared.care.CareTurn.{CareTurn}
use Rattle.mi_settle.specs.Splitters.{SplitterTurnsMade}
use Rattle.mi_settle.proofs.SplitterTurns.{Taken, counted, counting_idles, counting_on, taken_then, waits_then}
use Rattle.mi_settle.proofs.splitters.SplitterSeat.turns.Goals as goal
use Rattle.mi_settle.proofs.splitters.SplitterSeat.turns.Goals.{in-Idle, in_default}

pub turn-requires : goal.turn-requires
turn-requires c =
    let l = c.loop in
    record { waits = waits_then c.args.actor l.solo.state c.turn_to.new.self l.self c.turn_to.ensures.turn c.turn_to.ensures.seen l.invariant.turns.is.waits }

pub returns-then-matches : goal.returns-then-matches
returns-then-matches c =
    let l = c.loop in
    let u = c.turn in
    let a = c.args.actor in
    let s = c.args.solo.now.state in
    let x = c.args.self.now in
    let t = taken_then a l.solo.state c.turn_to.new.self l.self u.result u.new.solo.state u.new.self c.turn_to.ensures.turn c.turn_to.ensures.seen u.ensures.kept l.invariant.turns.is.waits u.ensures.turned in
    elim c.match-matches.branch [
      | in-Idle w ↦
          let idle = subst (λ (r : CareTurn). Taken a l.solo.state l.self r u.new.solo.state u.new.self) w.in-Idle.is t in
          let made = counting_idles a s x (l.counter + 1) l.solo.state l.self u.new.solo.state u.new.self (counting_on a s x l.counter l.solo.state l.self u.result u.new.solo.state u.new.self l.invariant.turns t) idle (c.args.count - (l.counter + 1)) in
          let all : (l.counter + 1) + (c.args.count - (l.counter + 1)) ≡ c.args.count = omega (arith, c.loop-test.true) in
          subst (λ (n : ℕ). SplitterTurnsMade a s x n u.new.solo.state u.new.self) all (counted a s x ((l.counter + 1) + (c.args.count - (l.counter + 1))) u.new.solo.state u.new.self (omega arith) made)
      | in_default w ↦ absurd (false≢true (sym w.matches-is ∙ c.if-matches.true))
    ]

pub loop-preserved : goal.loop-preserved
loop-preserved c =
    let l = c.loop in
    let u = c.turn in
    let t = taken_then c.args.actor l.solo.state c.turn_to.new.self l.self u.result u.new.solo.state u.new.self c.turn_to.ensures.turn c.turn_to.ensures.seen u.ensures.kept l.invariant.turns.is.waits u.ensures.turned in
    record { turns = counting_on c.args.actor c.args.solo.now.state c.args.self.now l.counter l.solo.state l.self u.result u.new.solo.state u.new.self l.invariant.turns t }
