use Rattle.std.proofs.lemmas.Result.{err_from_is_err_and}
use Rattle.mi_call.proofs.CallLemmas.{measured, unmeasured, without_metric}
use Rattle.mi_call.proofs.loading.load_measured.Goals as goal

pub returns-in_err-settings-clause-loads : goal.returns-in_err-settings-clause-loads
returns-in_err-settings-clause-loads g c =
    let p = err_from_is_err_and c.from_residual.result c.from_residual.ensures.1 in
    rw (p.1, p.2)
    (unmeasured (g.F.Files.state c.args.files.now) (g.F.Files.state c.load_settings.new.files) c.args.name.now c.in_err-settings.field-0.0
    c.in_err-settings.ensures.loads)

pub returns-in_err-metric-clause-loads : goal.returns-in_err-metric-clause-loads
returns-in_err-metric-clause-loads g c =
    let p = err_from_is_err_and c.from_residual-in_err-metric.result c.from_residual-in_err-metric.ensures.1 in
    rw (p.1, p.2)
    (without_metric (g.F.Files.state c.args.files.now) (g.F.Files.state c.load_settings.new.files) c.args.name.now c.in_ok-settings.settings c.in_err-metric.field-0.0
    c.in_ok-settings.ensures.loads c.in_err-metric.ensures)

pub returns-clause-loads : goal.returns-clause-loads
returns-clause-loads g c =
    measured (g.F.Files.state c.args.files.now) (g.F.Files.state c.load_settings.new.files) c.args.name.now c.in_ok-settings.settings
    c.in_ok-settings.ensures.loads c.in_ok-metric.ensures.1
