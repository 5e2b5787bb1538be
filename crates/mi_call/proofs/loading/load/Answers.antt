use Rattle.std.proofs.Common.{None, length, map, refl, sym, arith}
use Rattle.std.proofs.lemmas.List.{length-map}
use Rattle.std.proofs.lemmas.Result.{err_from_is_err_and}
use Rattle.std.specs.String.{string_bytes}
use Rattle.mi_call.specs.Inputs.{Names}
use Rattle.mi_call.proofs.CallLemmas.{loaded_all, may_run, no_schedule, stopped_at_scripts, stopped_at_settings}
use Rattle.mi_call.proofs.loading.load.Goals as goal

pub returns-in_err-measured-clause-loads : goal.returns-in_err-measured-clause-loads
returns-in_err-measured-clause-loads g c =
    let names : Names = record { settings = c.args.settings_name.now; schedule = None; scripts = map string_bytes c.args.script_names.now } in
    let p = err_from_is_err_and c.from_residual.result c.from_residual.ensures.1 in
    rw (p.1, p.2)
    (stopped_at_settings names (g.F.Files.state c.args.files.now) (g.F.Files.state c.load_measured.new.files) c.in_err-measured.field-0.0 c.in_err-measured.ensures.loads)

pub returns-in_err-scripts-clause-loads : goal.returns-in_err-scripts-clause-loads
returns-in_err-scripts-clause-loads g c =
    let f0 = g.F.Files.state c.args.files.now in
    let f1 = g.F.Files.state c.load_measured.new.files in
    let f2 = g.F.Files.state c.load_scripts.new.files in
    let names : Names = record { settings = c.args.settings_name.now; schedule = None; scripts = map string_bytes c.args.script_names.now } in
    let n = length c.args.script_names.now in
    let p = err_from_is_err_and c.from_residual-in_err-scripts.result c.from_residual-in_err-scripts.ensures.1 in
    rw (p.1, p.2)
    (stopped_at_scripts names f0 n (sym (length-map c.args.script_names.now string_bytes)) f1 f1 f2 c.in_ok-measured.measured.settings None c.in_ok-measured.ensures.loads (no_schedule f0 n) refl
    c.load_measured.ensures.contents c.in_err-scripts.field-0.0 c.in_err-scripts.ensures.loads)

pub returns-clause-loads : goal.returns-clause-loads
returns-clause-loads g c =
    let f0 = g.F.Files.state c.args.files.now in
    let f1 = g.F.Files.state c.load_measured.new.files in
    let f2 = g.F.Files.state c.load_scripts.new.files in
    let names : Names = record { settings = c.args.settings_name.now; schedule = None; scripts = map string_bytes c.args.script_names.now } in
    let n = length c.args.script_names.now in
    rw c.loaded.ensures
    (loaded_all names f0 n (sym (length-map c.args.script_names.now string_bytes)) f1 f1 f2 c.in_ok-measured.measured.settings None c.in_ok-measured.ensures.loads (no_schedule f0 n) refl
    c.load_measured.ensures.contents c.in_ok-scripts.scripts c.in_ok-scripts.ensures.loads)

pub returns-clause-may : goal.returns-clause-may
returns-clause-may g c =
    let m = c.in_ok-measured.measured in
    let same = length-map c.args.script_names.now string_bytes in
    rw c.loaded.ensures
    (may_run m.settings m.metric 1 (map string_bytes c.args.script_names.now) (g.F.Files.state c.load_measured.new.files) (g.F.Files.state c.load_scripts.new.files) c.in_ok-scripts.scripts
    c.in_ok-measured.ensures.metric (omega (arith, same, c.requires.some)) (omega (arith, same, c.requires.few)) c.in_ok-scripts.ensures.loads)
