use Rattle.std.proofs.Common.{subst, sym, ◌∙◌}
use Rattle.std.proofs.lemmas.Bool.{false≢true}
use Rattle.mi_job.specs.declared.care.CareTurn.{CareTurn}
use Rattle.mi_settle.proofs.SplitterTurns.{Taken, sets_out, taken_then, waits_then, way_ends, way_falls, way_on}
use Rattle.mi_settle.proofs.splitters.SplitterSeat.finish.Goals as goal
use Rattle.mi_settle.proofs.splitters.SplitterSeat.finish.Goals.{in-More, in_default}

pub loop-turn-init : goal.loop-turn-init
loop-turn-init c = record { way = sets_out c.args.actor c.args.solo.now.state c.args.self.now c.requires.waits }

pub turn-turn-requires : goal.turn-turn-requires
turn-turn-requires c =
    let l = c.loop-turn in
    record { waits = waits_then c.args.actor l.solo.state c.turn_to.new.self l.self c.turn_to.ensures.turn c.turn_to.ensures.seen l.invariant.way.is.waits }

pub returns-then-not-matches : goal.returns-then-not-matches
returns-then-not-matches c =
    let l = c.loop-turn in
    let u = c.turn-turn in
    let t = taken_then c.args.actor l.solo.state c.turn_to.new.self l.self u.result u.new.solo.state u.new.self c.turn_to.ensures.turn c.turn_to.ensures.seen u.ensures.kept l.invariant.way.is.waits u.ensures.turned in
    way_ends c.args.actor c.args.solo.now.state c.args.self.now l.solo.state l.self l.invariant.way u.result u.new.solo.state u.new.self
    (elim c.match-matches.branch [ in-More w ↦ absurd (false≢true (sym c.if-not-matches.true ∙ w.matches-is)) | in_default w ↦ w.in_default.not-More ]) t

pub loop-turn-smaller : goal.loop-turn-smaller
loop-turn-smaller c =
    let l = c.loop-turn in
    let u = c.turn-turn in
    let t = taken_then c.args.actor l.solo.state c.turn_to.new.self l.self u.result u.new.solo.state u.new.self c.turn_to.ensures.turn c.turn_to.ensures.seen u.ensures.kept l.invariant.way.is.waits u.ensures.turned in
    way_falls c.args.actor c.args.solo.now.state c.args.self.now l.solo.state l.self l.invariant.way u.new.solo.state u.new.self
    (elim c.match-matches.branch [
      | in-More w ↦ subst (λ (r : CareTurn). Taken c.args.actor l.solo.state l.self r u.new.solo.state u.new.self) w.in-More.is t
      | in_default w ↦ absurd (false≢true (sym w.matches-is ∙ c.if-not-matches.false))
    ])

pub loop-turn-preserved : goal.loop-turn-preserved
loop-turn-preserved c =
    let l = c.loop-turn in
    let u = c.turn-turn in
    let t = taken_then c.args.actor l.solo.state c.turn_to.new.self l.self u.result u.new.solo.state u.new.self c.turn_to.ensures.turn c.turn_to.ensures.seen u.ensures.kept l.invariant.way.is.waits u.ensures.turned in
    record {
      way = way_on c.args.actor c.args.solo.now.state c.args.self.now l.solo.state l.self l.invariant.way u.new.solo.state u.new.self
          (elim c.match-matches.branch [
            | in-More w ↦ subst (λ (r : CareTurn). Taken c.args.actor l.solo.state l.self r u.new.solo.state u.new.self) w.in-More.is t
            | in_default w ↦ absurd (false≢true (sym w.matches-is ∙ c.if-not-matches.false))
          ]);
    }
