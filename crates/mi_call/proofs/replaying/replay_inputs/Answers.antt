use Rattle.std.proofs.lemmas.Result.{IfOk-weaker}
use Rattle.mi_settle.specs.Headlines.{Headline}
use Rattle.mi_replay.specs.Outcomes.{Played}
use Rattle.mi_call.specs.Calls.{KeepsSchedule}
use Rattle.mi_call.specs.Loading.{scheduled_in}
use Rattle.mi_call.proofs.CallLemmas.{spoken_of}
use Rattle.mi_call.proofs.replaying.replay_inputs.Goals as goal

pub returns : goal.returns
returns g c =
    let inputs = scheduled_in c.args.inputs.now in
    spoken_of inputs c.play.result (g.S.Sink.state c.args.out.now) (g.S.Sink.state c.tell.new.out) c.tell.result
    (IfOk-weaker c.play.result (Played inputs.settings inputs.scripts c.args.inputs.now.schedule)
    (λ o. Headline inputs.settings inputs.scripts o × KeepsSchedule inputs.settings inputs.scripts inputs.schedule o) (λ o played. (played.headline, (played.order, played.short_is))) c.play.ensures)
    c.tell.ensures
