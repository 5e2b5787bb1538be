use Rattle.std.proofs.lemmas.Result.{IfOk-weaker}
use Rattle.mi_settle.specs.Headlines.{Headline}
use Rattle.mi_call.specs.Calls.{KeepsSchedule}
use Rattle.mi_call.specs.Loading.{inputs_in}
use Rattle.mi_call.proofs.CallLemmas.{spoken_of}
use Rattle.mi_call.proofs.running.run_inputs.Goals as goal

pub returns : goal.returns
returns g c =
    let inputs = inputs_in c.args.inputs.now in
    spoken_of inputs c.run_scripts.result (g.S.Sink.state c.args.out.now) (g.S.Sink.state c.tell.new.out) c.tell.result
    (IfOk-weaker c.run_scripts.result (Headline inputs.settings inputs.scripts)
    (λ o. Headline inputs.settings inputs.scripts o × KeepsSchedule inputs.settings inputs.scripts inputs.schedule o) (λ o headline. (headline, tt)) c.run_scripts.ensures)
    c.tell.ensures
