use Rattle.std.proofs.Common.{◌++◌, ◌∙◌, ap, drop, length, sym, arith, length-drop}
use Rattle.std.proofs.lemmas.List.{take-append-drop}
use Rattle.mi_call.proofs.adapters.RealFilesFiles.read.Goals as goal

pub returns-in-Ok-clause-ok : goal.returns-in-Ok-clause-ok
returns-in-Ok-clause-ok g c =
    let old = c.args.into.now.items in
    let new = c.read_bounded.new.into.items in
    record {
      bytes = drop (length old) new;
      gained = sym (take-append-drop (length old) new) ∙ ap (λ front. front ++ drop (length old) new) c.read_bounded.ensures.appends;
      few = omega (arith, length-drop (length old) new, c.in-Ok.ensures.count, c.if-bytes-le-MAX_FILE_SIZE.true);
      same = tt;
    }
