use Rattle.std.proofs.Common.{ap}
use Rattle.std.specs.Prelude.{is_none}
use Rattle.std.proofs.lemmas.Result.{err_from_is_err_and}
use Rattle.mi_table.specs.Laws.{table_is_metric}
use Rattle.mi_table.proofs.SearchLemmas.{never_memory}
use Rattle.mi_table.proofs.tables.TableMetric.new.Goals as goal

pub returns-in_err-check-clause-no_memory : goal.returns-in_err-check-clause-no_memory
returns-in_err-check-clause-no_memory c =
    let p = err_from_is_err_and c.from_residual.result c.from_residual.ensures.1 in
    rw (p.1, p.2) (never_memory c.args.rows _ c.in_err-check.ensures)

pub returns-clause-metric : goal.returns-clause-metric
returns-clause-metric c = table_is_metric c.args.rows c.requires (ap is_none c.in_ok-check.ensures)
