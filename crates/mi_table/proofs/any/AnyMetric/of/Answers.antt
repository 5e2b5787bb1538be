use Rattle.std.proofs.Common.{◌≡◌, ap, sym, ◌∙◌, Some}
use Rattle.std.proofs.lemmas.Result.{err_from_is_err_and}
use Rattle.mi_base.specs.declared.settings.MetricKind.TheVariants.{Table}
use Rattle.mi_base.specs.Configuration.{Configuration, metric_space}
use Rattle.mi_base.specs.Space.{metric_of, table_metric}
use Rattle.mi_table.specs.declared.faults.TableFault.{TableFault}
use Rattle.mi_table.specs.declared.faults.TableFault.TheVariants.{NotSquare, Diagonal, Zero, Asymmetric, Triangle, Memory}
use Rattle.mi_table.specs.Faults.{HasNoMetric, first_fault}
use Rattle.mi_table.proofs.any.AnyMetric.of.Goals as goal

-- a table's first fault is a reason
refused : (s : Configuration) (fault : TableFault) → s.metric ≡ Table → first_fault s.rows ≡ Some fault → HasNoMetric s fault
refused s (NotSquare row) m h = (m, h)
refused s (Diagonal i) m h = (m, h)
refused s (Zero i j) m h = (m, h)
refused s (Asymmetric i j) m h = (m, h)
refused s (Triangle i j k) m h = (m, h)
refused s Memory m h = tt

pub returns-in_err-new-in-Table-clause-err : goal.returns-in_err-new-in-Table-clause-err
returns-in_err-new-in-Table-clause-err c =
    let s = c.args.settings.now in
    let metric : s.metric ≡ Table = ap (λ (s : Configuration). s.metric) (sym c.settings.view_is) ∙ c.in-Table.is in
    let rows : s.rows ≡ c.in-Ok.rows = ap (λ (s : Configuration). s.rows) (sym c.settings.view_is) ∙ sym c.in-Ok.ensures in
    let p = err_from_is_err_and c.from_residual.result c.from_residual.ensures.1 in
    rw (p.1, p.2) (refused s _ metric (ap first_fault rows ∙ c.in_err-new-in-Table.ensures.err))

pub returns-in_ok-new-in-Table-clause-space : goal.returns-in_ok-new-in-Table-clause-space
returns-in_ok-new-in-Table-clause-space c =
    let inside = c.settings.inside in
    let space : metric_space c.args.settings.now ≡ table_metric inside.rows =
    ap metric_space (sym c.settings.view_is) ∙ ap (λ k. metric_of k inside.dims inside.rows) c.in-Table.is in
    ap table_metric (c.in_ok-new-in-Table.ensures.ok.0 ∙ c.in-Ok.ensures) ∙ sym space

pub returns-in_ok-new-in-Table-clause-faultless : goal.returns-in_ok-new-in-Table-clause-faultless
returns-in_ok-new-in-Table-clause-faultless c =
    ap (λ (s : Configuration). first_fault s.rows) (sym c.settings.view_is) ∙ ap first_fault (sym c.in-Ok.ensures) ∙ c.in_ok-new-in-Table.ensures.ok.1
