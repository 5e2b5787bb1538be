use Rattle.std.proofs.Common.{length, take, drop, arith, length-drop, sym}
use Rattle.std.proofs.lemmas.List.{take-append-drop, take_rest}
use Rattle.std.proofs.lemmas.Result.{err_from_is_err_and}
use Rattle.std.proofs.Math.Seq.{take-add}
use Rattle.mi_outside.proofs.SendingLemmas.{sends_write, sends_failed, sends_as}
use Rattle.mi_outside.proofs.writing.write_all.Goals as goal

pub returns-in_err-taken : goal.returns-in_err-taken
returns-in_err-taken g c =
    let p = err_from_is_err_and c.from_residual.result c.from_residual.ensures.1 in
    rw (p.1)
    (sends_as _ _
    (take-append-drop c.loop-sent.sent c.args.piece.now)
    (sends_failed p.0 (take c.loop-sent.sent c.args.piece.now) (drop c.loop-sent.sent c.args.piece.now)
    c.loop-sent.invariant.sends c.in_err-taken.ensures.err c.write_some.ensures.count))

pub loop-sent-preserved : goal.loop-sent-preserved
loop-sent-preserved g c =
    let next = rw (take_rest c.args.piece.now c.loop-sent.sent) at c.in_ok-taken.ensures.ok in
    record {
      within = omega (arith, length-drop c.loop-sent.sent c.args.piece.now, next.within);
      sends =
          sends_as _ _
          (sym (take-add c.loop-sent.sent c.in_ok-taken.taken c.args.piece.now))
          (sends_write (take c.loop-sent.sent c.args.piece.now) (drop c.loop-sent.sent c.args.piece.now)
          c.loop-sent.invariant.sends next c.in_ok-taken.ensures.some);
    }
