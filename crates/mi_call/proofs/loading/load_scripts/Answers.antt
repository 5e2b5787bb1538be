use Rattle.std.proofs.Common.{Err, ◌∷◌, [], ◌++◌, map, take, drop, suc, subst, arith, add-one, length-append}
use Rattle.std.proofs.lemmas.Result.{err_from_is_err_and}
use Rattle.std.specs.String.{string_bytes}
use Rattle.mi_call.specs.Loading.{LoadsScripts}
use Rattle.mi_call.proofs.ScriptsLemmas.{Front, front_more, front_stops, front_wants, words_around, words_to}
use Rattle.mi_call.proofs.loading.load_scripts.Goals as goal

pub returns-in_err-script-clause-loads : goal.returns-in_err-script-clause-loads
returns-in_err-script-clause-loads g c =
    let f0 = g.F.Files.state c.args.files.now in
    let f1 = g.F.Files.state c.loop-name.files in
    let f2 = g.F.Files.state c.load_script.new.files in
    let words = c.args.names.now in
    let i = c.loop-name.name-index in
    let name = c.name-item.result in
    let s = c.in_err-script.field-0.0 in
    let p = err_from_is_err_and c.from_residual.result c.from_residual.ensures.1 in
    let stops = front_stops c.args.settings.now c.args.first f0 f1 (map string_bytes (take i words)) c.loop-name.scripts c.loop-name.invariant.so_far f2 (string_bytes name) c.as_str.ensures.value (omega (arith, c.len.ensures))
    s (map string_bytes (drop (suc i) words)) c.in_err-script.ensures.loads in
    rw (p.1, p.2) (subst (λ ns. LoadsScripts c.args.settings.now c.args.first ns f0 f2 (Err s)) (words_around string_bytes words i name (omega arith) c.name-item.is) stops)

pub returns-in_err-push-clause-loads : goal.returns-in_err-push-clause-loads
returns-in_err-push-clause-loads g c =
    let f0 = g.F.Files.state c.args.files.now in
    let f1 = g.F.Files.state c.loop-name.files in
    let f2 = g.F.Files.state c.load_script.new.files in
    let words = c.args.names.now in
    let front = map string_bytes (take c.loop-name.name-index words) in
    let name = string_bytes c.name-item.result in
    let scripts = c.loop-name.scripts in
    let script = c.in_ok-script.script in
    let p = err_from_is_err_and c.from_residual-in_err-push.result c.from_residual-in_err-push.ensures.1 in
    let more = front_more c.args.settings.now c.args.first f0 f1 front scripts c.loop-name.invariant.so_far f2 name c.as_str.ensures.value (omega (arith, c.len.ensures))
    script c.in_ok-script.ensures.loads c.load_script.ensures.contents c.in_ok-script.ensures.script in
    rw (p.1, p.2) (front_wants c.args.settings.now c.args.first f0 f2 (front ++ name ∷ []) (scripts ++ script ∷ []) more (map string_bytes words))

pub loop-name-preserved : goal.loop-name-preserved
loop-name-preserved g c =
    let f0 = g.F.Files.state c.args.files.now in
    let f1 = g.F.Files.state c.loop-name.files in
    let f2 = g.F.Files.state c.load_script.new.files in
    let words = c.args.names.now in
    let i = c.loop-name.name-index in
    let name = c.name-item.result in
    let front = map string_bytes (take i words) in
    let scripts = c.loop-name.scripts in
    let script = c.in_ok-script.script in
    let more = front_more c.args.settings.now c.args.first f0 f1 front scripts c.loop-name.invariant.so_far f2 (string_bytes name) c.as_str.ensures.value (omega (arith, c.len.ensures))
    script c.in_ok-script.ensures.loads c.load_script.ensures.contents c.in_ok-script.ensures.script in
    rw (c.in_ok-push.ensures.ok, add-one i) record {
      so_far = subst (λ ns. Front c.args.settings.now c.args.first f0 f2 ns (scripts ++ script ∷ [])) (words_to string_bytes words i name (omega arith) c.name-item.is) more;
      count = omega (arith, length-append scripts (script ∷ []));
    }
