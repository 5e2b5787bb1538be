use Rattle.std.proofs.Common.{◌≡◌}
use Rattle.std.specs.Prelude.{take}
use Rattle.mi_hall.specs.Passes.{place_view}
use Rattle.mi_run.specs.Crews.{AreToServe, HasMade}
use Rattle.mi_run.proofs.crews.seat.Given as goal

-- so many actors were made
abbrev pub invariant-loop-other : goal.invariant-loop-other
invariant-loop-other g l = record {
  made : HasMade (place_view l.fn.first).settings l.fn.first.table l.first l.workers.items;
  serve : AreToServe (take l.other-index l.others) l.workers.items;
}
