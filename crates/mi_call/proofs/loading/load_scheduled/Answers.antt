use Rattle.std.proofs.Common.{◌∙◌, List, Some, Ok, Err, length, map, sym, subst, arith}
use Rattle.std.proofs.lemmas.List.{length-map}
use Rattle.std.proofs.lemmas.Result.{err_from_is_err_and}
use Rattle.std.specs.String.{string_bytes}
use Rattle.mi_base.specs.declared.records.ScheduleItem.{ScheduleItem}
use Rattle.mi_input.specs.Schedules.{IsScheduleOf, schedule_in}
use Rattle.mi_call.specs.Inputs.{Names, in_file}
use Rattle.mi_call.proofs.CallLemmas.{loaded_all, may_run, schedule_read, stopped_at_schedule, stopped_at_scripts, stopped_at_settings}
use Rattle.mi_call.proofs.LoadingLemmas.{loads_at}
use Rattle.mi_call.proofs.ScriptsLemmas.{scripts_counted}
use Rattle.mi_call.proofs.loading.load_scheduled.Goals as goal

pub returns-in_err-measured-clause-loads : goal.returns-in_err-measured-clause-loads
returns-in_err-measured-clause-loads g c =
    let names : Names = record { settings = c.args.settings_name.now; schedule = Some c.args.schedule_name.now; scripts = map string_bytes c.args.script_names.now } in
    let p = err_from_is_err_and c.from_residual.result c.from_residual.ensures.1 in
    rw (p.1, p.2)
    (stopped_at_settings names (g.F.Files.state c.args.files.now) (g.F.Files.state c.load_measured.new.files) c.in_err-measured.field-0.0 c.in_err-measured.ensures.loads)

pub returns-in_err-schedule-clause-loads : goal.returns-in_err-schedule-clause-loads
returns-in_err-schedule-clause-loads g c =
    let f0 = g.F.Files.state c.args.files.now in
    let f1 = g.F.Files.state c.load_measured.new.files in
    let f2 = g.F.Files.state c.load_schedule.new.files in
    let name = c.args.schedule_name.now in
    let s = c.in_err-schedule.field-0.0 in
    let n = length c.args.script_names.now in
    let p = err_from_is_err_and c.from_residual-in_err-schedule.result c.from_residual-in_err-schedule.ensures.1 in
    rw (p.1, p.2)
    (stopped_at_schedule c.args.settings_name.now name (map string_bytes c.args.script_names.now) f0 f1 f2 c.in_ok-measured.measured.settings n
    (sym (length-map c.args.script_names.now string_bytes)) s c.in_ok-measured.ensures.loads
    (loads_at {X = List ScheduleItem} f0 f1 f2 name 1 (in_file 1 (schedule_in n)) (Err s) (c.load_measured.ensures.contents name) c.in_err-schedule.ensures.loads))

pub returns-in_err-scripts-clause-loads : goal.returns-in_err-scripts-clause-loads
returns-in_err-scripts-clause-loads g c =
    let f0 = g.F.Files.state c.args.files.now in
    let f1 = g.F.Files.state c.load_measured.new.files in
    let f2 = g.F.Files.state c.load_schedule.new.files in
    let f3 = g.F.Files.state c.load_scripts.new.files in
    let name = c.args.schedule_name.now in
    let names : Names = record { settings = c.args.settings_name.now; schedule = Some name; scripts = map string_bytes c.args.script_names.now } in
    let schedule = c.in_ok-schedule.schedule in
    let n = length c.args.script_names.now in
    let read = loads_at f0 f1 f2 name 1 (in_file 1 (schedule_in n)) (Ok schedule) (c.load_measured.ensures.contents name) c.in_ok-schedule.ensures.loads in
    let p = err_from_is_err_and c.from_residual-in_err-scripts.result c.from_residual-in_err-scripts.ensures.1 in
    rw (p.1, p.2)
    (stopped_at_scripts names f0 n (sym (length-map c.args.script_names.now string_bytes)) f1 f2 f3 c.in_ok-measured.measured.settings (Some schedule) c.in_ok-measured.ensures.loads
    (schedule_read f0 f1 f2 name n schedule read) read.finds.1 (λ name. c.load_schedule.ensures.contents name ∙ c.load_measured.ensures.contents name)
    c.in_err-scripts.field-0.0 c.in_err-scripts.ensures.loads)

pub returns-clause-loads : goal.returns-clause-loads
returns-clause-loads g c =
    let f0 = g.F.Files.state c.args.files.now in
    let f1 = g.F.Files.state c.load_measured.new.files in
    let f2 = g.F.Files.state c.load_schedule.new.files in
    let f3 = g.F.Files.state c.load_scripts.new.files in
    let name = c.args.schedule_name.now in
    let names : Names = record { settings = c.args.settings_name.now; schedule = Some name; scripts = map string_bytes c.args.script_names.now } in
    let schedule = c.in_ok-schedule.schedule in
    let n = length c.args.script_names.now in
    let read = loads_at f0 f1 f2 name 1 (in_file 1 (schedule_in n)) (Ok schedule) (c.load_measured.ensures.contents name) c.in_ok-schedule.ensures.loads in
    rw c.loaded.ensures
    (loaded_all names f0 n (sym (length-map c.args.script_names.now string_bytes)) f1 f2 f3 c.in_ok-measured.measured.settings (Some schedule) c.in_ok-measured.ensures.loads
    (schedule_read f0 f1 f2 name n schedule read) read.finds.1 (λ name. c.load_schedule.ensures.contents name ∙ c.load_measured.ensures.contents name)
    c.in_ok-scripts.scripts c.in_ok-scripts.ensures.loads)

pub returns-clause-may : goal.returns-clause-may
returns-clause-may g c =
    let f2 = g.F.Files.state c.load_schedule.new.files in
    let f3 = g.F.Files.state c.load_scripts.new.files in
    let m = c.in_ok-measured.measured in
    let words = map string_bytes c.args.script_names.now in
    let scripts = c.in_ok-scripts.scripts in
    let schedule = c.in_ok-schedule.schedule in
    let same = length-map c.args.script_names.now string_bytes in
    let count = scripts_counted m.settings 2 words f2 f3 scripts c.in_ok-scripts.ensures.loads in
    rw c.loaded.ensures record {
      loaded = may_run m.settings m.metric 2 words f2 f3 scripts c.in_ok-measured.ensures.metric (omega (arith, same, c.requires.some)) (omega (arith, same, c.requires.few))
          c.in_ok-scripts.ensures.loads;
      schedule = subst (λ k. IsScheduleOf k schedule) (sym (count ∙ same)) c.in_ok-schedule.ensures.schedule;
    }
