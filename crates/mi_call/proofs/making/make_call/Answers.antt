use Rattle.std.proofs.Common.{map}
use Rattle.std.specs.String.{string_bytes}
use Rattle.mi_call.specs.Making.{seed_in}
use Rattle.mi_call.proofs.MakeLemmas.{make_completes}
use Rattle.mi_call.proofs.making.make_call.Goals as goal

pub returns-clause-answered : goal.returns-clause-answered
returns-clause-answered g c = record { ended = c.answer_make.result; number_is = c.number.ensures; made = c.answer_make.ensures }

pub returns-clause-complete : goal.returns-clause-complete
returns-clause-complete g c =
    make_completes (seed_in (map string_bytes c.args.words.now)) (g.S.Sink.state c.args.out.now) (g.S.Sink.state c.answer_make.new.out) c.number.result
    (record { ended = c.answer_make.result; number_is = c.number.ensures; made = c.answer_make.ensures })
