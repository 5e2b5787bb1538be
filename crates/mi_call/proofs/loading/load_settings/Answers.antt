use Rattle.std.proofs.Common.{[], subst, sym}
use Rattle.mi_input.specs.Settings.{settings_in}
use Rattle.mi_outside.specs.Outside.{Reads}
use Rattle.mi_call.proofs.LoadingLemmas.{loads_fault, loads_refused}
use Rattle.mi_call.proofs.loading.load_settings.Goals as goal

pub returns-in-Ok-clause-loads : goal.returns-in-Ok-clause-loads
returns-in-Ok-clause-loads g c =
    let told = (g.F.Files.state c.args.files.now).content c.args.name.now in
    let reads = subst (λ before. Reads told before c.read.new.into.items) c.new-bytes.ensures.items c.in-Ok.ensures.ok in
    let bytes = subst (λ after. Reads told [] after) (sym c.as_slice.ensures.value) reads in
    rw c.fault_of.ensures
    (loads_fault (g.F.Files.state c.args.files.now) (g.F.Files.state c.read.new.self) c.args.name.now 0 settings_in c.as_slice.result.now c.in-Err-read_settings.fault
    bytes c.in-Err-read_settings.ensures.err c.in-Ok.ensures.uncounted)

pub returns-clause-loads : goal.returns-clause-loads
returns-clause-loads g c =
    rw c.stop_of.ensures
    (loads_refused (g.F.Files.state c.args.files.now) (g.F.Files.state c.read.new.self) c.args.name.now 0 settings_in c.in-Err.refusal
    c.in-Err.ensures.err c.read.ensures.count)
