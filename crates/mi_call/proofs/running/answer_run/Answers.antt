use Rattle.std.proofs.Common.{◌≡◌, ◌-◌, ◌∙◌, None, ap, drop, length, length-drop, map, sym, take}
use Rattle.std.proofs.Math.Seq.{take-length}
use Rattle.std.specs.String.{string_bytes}
use Rattle.mi_call.specs.declared.statuses.Status.TheVariants as status
use Rattle.mi_call.specs.Calls.{usage_line}
use Rattle.mi_call.specs.Inputs.{Names, run_names_in}
use Rattle.mi_call.specs.Loading.{inputs_in}
use Rattle.mi_call.proofs.CallLemmas.{ends_from, run_named, says_run, says_stop, says_usage}
use Rattle.mi_call.proofs.running.answer_run.Goals as goal

pub returns-then-not-are_served-clause-answers : goal.returns-then-not-are_served-clause-answers
returns-then-not-are_served-clause-answers g c =
    says_usage (run_names_in (map string_bytes c.args.words.now)) (g.F.Files.state c.args.files.now) (g.S.Sink.state c.args.out.now) (g.S.Sink.state c.send_usage.new.out) c.ended.result
    (sym c.are_served.ensures.served ∙ c.if-not-are_served.true)
    (ends_from status.Usage c.ended.result usage_line (g.S.Sink.state c.args.out.now) (g.S.Sink.state c.send_usage.new.out)
    c.send_usage.result c.send_usage.ensures c.ended.ensures.ok c.ended.ensures.err)

pub returns-in-Ok-clause-answers : goal.returns-in-Ok-clause-answers
returns-in-Ok-clause-answers g c =
    let words = c.args.words.now in
    let names : Names = record { settings = c.as_str-settings.result.now; schedule = None; scripts = map string_bytes (take (length words - 2) (drop 2 words)) } in
    let behind : names.scripts ≡ map string_bytes (drop 2 words) =
    ap (λ n. map string_bytes (take n (drop 2 words))) (sym (length-drop 2 words)) ∙ ap (map string_bytes) (take-length (drop 2 words)) in
    let served = run_named string_bytes words c.index-words-1.result c.as_str-settings.result.now names.scripts
    (sym c.are_served.ensures.served ∙ c.if-not-are_served.false) (c.are_served.ensures.some c.if-not-are_served.false)
    c.index-words-1.is c.as_str-settings.ensures.value behind in
    says_run (run_names_in (map string_bytes words)) names (g.F.Files.state c.args.files.now) (g.F.Files.state c.load.new.files)
    (g.S.Sink.state c.args.out.now) (g.S.Sink.state c.run_inputs.new.out) c.run_inputs.result
    (inputs_in c.in-Ok.inputs) served c.in-Ok.ensures.loads c.run_inputs.ensures

pub returns-in-Err-clause-answers : goal.returns-in-Err-clause-answers
returns-in-Err-clause-answers g c =
    let words = c.args.words.now in
    let names : Names = record { settings = c.as_str-settings.result.now; schedule = None; scripts = map string_bytes (take (length words - 2) (drop 2 words)) } in
    let behind : names.scripts ≡ map string_bytes (drop 2 words) =
    ap (λ n. map string_bytes (take n (drop 2 words))) (sym (length-drop 2 words)) ∙ ap (map string_bytes) (take-length (drop 2 words)) in
    let served = run_named string_bytes words c.index-words-1.result c.as_str-settings.result.now names.scripts
    (sym c.are_served.ensures.served ∙ c.if-not-are_served.false) (c.are_served.ensures.some c.if-not-are_served.false)
    c.index-words-1.is c.as_str-settings.ensures.value behind in
    says_stop (run_names_in (map string_bytes words)) names (g.F.Files.state c.args.files.now) (g.F.Files.state c.load.new.files)
    (g.S.Sink.state c.args.out.now) (g.S.Sink.state c.stopped.new.out) c.stopped.result
    c.in-Err.stop served c.in-Err.ensures.loads c.stopped.ensures
