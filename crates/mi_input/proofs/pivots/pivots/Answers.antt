use Rattle.std.proofs.Common.{List, ℤ}
use Rattle.mi_input.specs.Settings.{ArePivots, pivots_in}
use Rattle.mi_input.specs.Vectors.{shape_under}
use Rattle.mi_input.proofs.CaseLemmas.{gives_law}
use Rattle.mi_input.proofs.PivotLaws.{pivots_over}
use Rattle.mi_input.proofs.pivots.pivots.Goals as goal

pub returns-clause-pivots : goal.returns-clause-pivots
returns-clause-pivots c =
    let measure = c.args.measure.now in
    let shape = shape_under measure.metric measure.dims measure.rows in
    let next = c.pivots_of.new.records in
    let gives = rw c.under-shape.ensures.shape at c.pivots_of.ensures.gives in
    gives_law (λ (pivots : List (List ℤ)). (pivots, next)) (ArePivots measure) c.pivots_of.result (pivots_in shape c.args.records.now) gives
    (λ pivots read. pivots_over measure c.args.records.now next pivots c.requires.measure read)
