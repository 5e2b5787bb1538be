use Rattle.mi_base.specs.Configuration.{metric_space}
use Rattle.mi_base.specs.Scripts.{IsScriptOver}
use Rattle.mi_input.specs.Records.{records_in}
use Rattle.mi_input.specs.Scripts.{script_in}
use Rattle.mi_input.proofs.CaseLemmas.{gives_law}
use Rattle.mi_input.proofs.ScriptLaws.{script_over}
use Rattle.mi_input.proofs.scripts.read_script.Goals as goal

pub returns-clause-script : goal.returns-clause-script
returns-clause-script c =
    let settings = c.args.settings.now in
    let gives = rw c.of.ensures.shape at c.script_of.ensures in
    gives_law (λ script. script) (IsScriptOver (metric_space settings)) c.script_of.result (script_in settings c.args.bytes.now) gives
    (λ script read. script_over settings (records_in c.args.bytes.now) script c.of.ensures.within read)
