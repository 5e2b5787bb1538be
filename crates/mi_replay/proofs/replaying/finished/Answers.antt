use Rattle.std.proofs.Common.{sym, ap, ◌∙◌}
use Rattle.mi_base.specs.Configuration.{Configuration, metric_space}
use Rattle.mi_replay.proofs.TableOpening.{rounds_more, rounds_none}
use Rattle.mi_replay.proofs.replaying.finished.Goals as goal

pub loop-alloc-init : goal.loop-alloc-init
loop-alloc-init g c =
    let t = c.in_ok-table.table in
    record {
      made = rounds_none c.args.settings.now c.args.scripts.now c.args.schedule.now t.solo.state t.seats.items t.splitter c.in_ok-table.ensures.run;
      spent = c.in_ok-table.ensures.spent;
    }

pub round-requires-clause-space : goal.round-requires-clause-space
round-requires-clause-space g c = c.requires.space ∙ ap metric_space (sym c.loop-alloc.invariant.made.ran.at.settings)

pub round-requires-clause-pivots : goal.round-requires-clause-pivots
round-requires-clause-pivots g c = c.requires.pivots ∙ ap (λ (k : Configuration). k.pivots) (sym c.loop-alloc.invariant.made.ran.at.settings)

pub loop-alloc-preserved : goal.loop-alloc-preserved
loop-alloc-preserved g c =
    let l = c.loop-alloc.table in
    let t = c.round.new.self in
    record {
      made = rounds_more c.args.settings.now c.args.scripts.now c.args.schedule.now l.solo.state t.solo.state l.seats.items t.seats.items l.splitter t.splitter
          c.loop-alloc.invariant.made c.round.ensures.made;
      spent = c.round.ensures.spends c.args.steps.now c.loop-alloc.invariant.spent;
    }

pub loop-alloc-smaller : goal.loop-alloc-smaller
loop-alloc-smaller g c = c.round.ensures.eases.fewer (c.is_over.ensures.not c.loop-alloc-test.true)

pub returns-clause-finished : goal.returns-clause-finished
returns-clause-finished g c =
    let over = c.is_over.ensures.over c.loop-alloc-test.false in
    record { many = c.loop-alloc.invariant.made.many; ran = c.loop-alloc.invariant.made.ran; over = over.0; rests = over.1 }
