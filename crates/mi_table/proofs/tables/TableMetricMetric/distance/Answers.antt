use Rattle.mi_table.specs.Laws.{is_square}
use Rattle.mi_table.proofs.tables.TableMetricMetric.distance.Goals as goal

pub entry-requires-clause-column : goal.entry-requires-clause-column
entry-requires-clause-column g c =
    let self = c.args.self.now in
    rw (is_square self.rows self.faultless c.row_number.result c.row_number.ensures.below) c.row_number-2.ensures.below
