use Rattle.std.proofs.Common.{map}
use Rattle.std.specs.String.{string_bytes}
use Rattle.mi_call.specs.Choosing.{choose_words_in}
use Rattle.mi_call.proofs.ChooseLemmas.{choice_completes}
use Rattle.mi_call.proofs.choosing.choose_call.Goals as goal

pub returns-clause-answered : goal.returns-clause-answered
returns-clause-answered g c = record { ended = c.answer_choose.result; number_is = c.number.ensures; answers = c.answer_choose.ensures.answers }

pub returns-clause-complete : goal.returns-clause-complete
returns-clause-complete g c =
    choice_completes (choose_words_in (map string_bytes c.args.words.now)) (g.F.Files.state c.args.files.now) (g.F.Files.state c.answer_choose.new.files)
    (g.S.Sink.state c.args.out.now) (g.S.Sink.state c.answer_choose.new.out) c.number.result
    (record { ended = c.answer_choose.result; number_is = c.number.ensures; answers = c.answer_choose.ensures.answers })
