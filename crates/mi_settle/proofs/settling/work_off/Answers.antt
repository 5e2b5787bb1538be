use Rattle.std.proofs.Common.{ℕ, false, sym, subst}
use Rattle.mi_job.specs.declared.care.CareTurn.{CareTurn}
use Rattle.mi_solo.specs.Solos.{MayTurn}
use Rattle.mi_settle.specs.Settling.{Works}
use Rattle.mi_settle.specs.Splitters.{SplitterWaits, StopsAt, lacks_memory}
use Rattle.mi_settle.proofs.SettlingLemmas.{seat_rests, works_fall, works_first, works_on}
use Rattle.mi_settle.proofs.settling.work_off.Goals as goal

pub loop-init : goal.loop-init
loop-init c =
    let a = c.args.actor in
    let s = c.args.solo.now.state in
    let may = subst (λ (n : ℕ). MayTurn s n) (sym c.requires.turn) c.log.ensures.turn in
    record { works = works_first a s c.log.ensures.kept may c.requires.rest; seat = c.new-splitter.ensures }

pub finish-requires : goal.finish-requires
finish-requires c =
    let l = c.loop in
    record { waits = subst (SplitterWaits l.solo.state c.args.actor) (sym l.invariant.seat) (l.invariant.works.is false).waits }

pub returns-in-Idle : goal.returns-in-Idle
returns-in-Idle c =
    let h = c.finish.ensures in
    let t = c.finish.new.solo.state in
    let works = works_on c.args.actor c.args.solo.now.state c.loop.solo.state c.loop.splitter c.finish.result t c.finish.new.self c.loop.invariant.works c.loop.invariant.seat h in (
      subst (λ (r : CareTurn). Works c.args.actor c.args.solo.now.state (lacks_memory r) t) c.in-Idle.is works,
      (subst (λ (r : CareTurn). StopsAt r h.made t) c.in-Idle.is h.stops, h.floor c.in-Idle.is),
    )

pub returns-in-Memory : goal.returns-in-Memory
returns-in-Memory c =
    let t = c.finish.new.solo.state in
    let works = works_on c.args.actor c.args.solo.now.state c.loop.solo.state c.loop.splitter c.finish.result t c.finish.new.self c.loop.invariant.works c.loop.invariant.seat c.finish.ensures in
    (subst (λ (r : CareTurn). Works c.args.actor c.args.solo.now.state (lacks_memory r) t) c.in-Memory.is works, tt)

pub loop-smaller : goal.loop-smaller
loop-smaller c =
    works_fall c.args.actor c.args.solo.now.state c.loop.solo.state c.loop.splitter c.finish.result c.finish.new.solo.state c.finish.new.self c.loop.invariant.works c.loop.invariant.seat c.finish.ensures
    c.in-Done.is

pub loop-preserved : goal.loop-preserved
loop-preserved c =
    let t = c.finish.new.solo.state in
    let works = works_on c.args.actor c.args.solo.now.state c.loop.solo.state c.loop.splitter c.finish.result t c.finish.new.self c.loop.invariant.works c.loop.invariant.seat c.finish.ensures in
    record {
      works = subst (λ (r : CareTurn). Works c.args.actor c.args.solo.now.state (lacks_memory r) t) c.in-Done.is works;
      seat = seat_rests c.args.actor c.args.solo.now.state c.loop.solo.state c.loop.splitter c.finish.result t c.finish.new.self c.loop.invariant.works c.loop.invariant.seat c.finish.ensures c.in-Done.is;
    }
