use Rattle.std.proofs.Common.{None, drop, map, refl, take}
use Rattle.std.specs.String.{string_bytes}
use Rattle.mi_call.specs.declared.statuses.Status.TheVariants as status
use Rattle.mi_call.specs.Calls.{usage_line}
use Rattle.mi_call.specs.Choosing.{ChooseWords, choose_words_in}
use Rattle.mi_call.specs.Inputs.{Names}
use Rattle.mi_call.specs.Loading.{inputs_in}
use Rattle.mi_call.proofs.CallLemmas.{ends_from}
use Rattle.mi_call.proofs.ChooseLemmas.{choice_stop, choice_told, choice_usage, choice_words}
use Rattle.mi_call.proofs.choosing.answer_choose.Goals as goal

pub returns-in_default-clause-answers : goal.returns-in_default-clause-answers
returns-in_default-clause-answers g c =
    choice_usage (choose_words_in (map string_bytes c.args.words.now)) (g.F.Files.state c.args.files.now) (g.S.Sink.state c.args.out.now) (g.S.Sink.state c.send_usage.new.out) c.ended.result
    c.in_default.ensures.served
    (ends_from status.Usage c.ended.result usage_line (g.S.Sink.state c.args.out.now) (g.S.Sink.state c.send_usage.new.out)
    c.send_usage.result c.send_usage.ensures c.ended.ensures.ok c.ended.ensures.err)

pub returns-in-Ok-clause-answers : goal.returns-in-Ok-clause-answers
returns-in-Ok-clause-answers g c =
    let names : Names = record { settings = c.as_str.result.now; schedule = None; scripts = map string_bytes (take 1 (drop 2 c.args.words.now)) } in
    let words : ChooseWords = record { names = names; count = c.in-Some.count } in
    let served = choice_words string_bytes c.args.words.now c.index-words-1.result c.as_str.result.now c.in-Some.count
    c.in-Some.ensures.served (c.in-Some.ensures.four refl) c.index-words-1.is c.as_str.ensures.value in
    choice_told (choose_words_in (map string_bytes c.args.words.now)) words (g.F.Files.state c.args.files.now) (g.F.Files.state c.load.new.files)
    (g.S.Sink.state c.args.out.now) (g.S.Sink.state c.propose.new.out) c.propose.result
    (inputs_in c.in-Ok.inputs) served c.in-Ok.ensures.loads c.propose.ensures

pub returns-in-Err-clause-answers : goal.returns-in-Err-clause-answers
returns-in-Err-clause-answers g c =
    let names : Names = record { settings = c.as_str.result.now; schedule = None; scripts = map string_bytes (take 1 (drop 2 c.args.words.now)) } in
    let words : ChooseWords = record { names = names; count = c.in-Some.count } in
    let served = choice_words string_bytes c.args.words.now c.index-words-1.result c.as_str.result.now c.in-Some.count
    c.in-Some.ensures.served (c.in-Some.ensures.four refl) c.index-words-1.is c.as_str.ensures.value in
    choice_stop (choose_words_in (map string_bytes c.args.words.now)) words (g.F.Files.state c.args.files.now) (g.F.Files.state c.load.new.files)
    (g.S.Sink.state c.args.out.now) (g.S.Sink.state c.stopped.new.out) c.stopped.result
    c.in-Err.stop served c.in-Err.ensures.loads c.stopped.ensures
