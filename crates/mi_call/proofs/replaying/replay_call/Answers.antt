use Rattle.std.proofs.Common.{map}
use Rattle.std.specs.String.{string_bytes}
use Rattle.mi_call.specs.Inputs.{replay_names_in}
use Rattle.mi_call.proofs.CallLemmas.{completes}
use Rattle.mi_call.proofs.replaying.replay_call.Goals as goal

pub returns-clause-answered : goal.returns-clause-answered
returns-clause-answered g c = record { ended = c.answer_call.result; number_is = c.number.ensures; answers = c.answer_call.ensures.answers }

pub returns-clause-complete : goal.returns-clause-complete
returns-clause-complete g c =
    completes (replay_names_in (map string_bytes c.args.words.now)) (g.F.Files.state c.args.files.now) (g.F.Files.state c.answer_call.new.files)
    (g.S.Sink.state c.args.out.now) (g.S.Sink.state c.answer_call.new.out) c.number.result
    (record { ended = c.answer_call.result; number_is = c.number.ensures; answers = c.answer_call.ensures.answers })
