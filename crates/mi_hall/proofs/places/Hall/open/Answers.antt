use Rattle.std.proofs.Common.{ap, arith}
use Rattle.atomic_table.specs.Seated.{TableId}
use Rattle.mi_base.specs.Configuration.{Configuration}
use Rattle.mi_hall.proofs.places.Hall.open.Goals as goal

pub first-requires-clause-near : goal.first-requires-clause-near
first-requires-clause-near c =
    let words = c.in_ok-latches.latches.words in
    let e = c.in_ok-latches.ensures.table in
    omega (arith, ap (λ (t : TableId). t.words) e.0, words, ap (λ (s : Configuration). s.pages) e.1, c.has_page.ensures)
