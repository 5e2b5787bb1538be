use Rattle.std.proofs.Common.{ℕ, false, Ok, Err, Result, subst, sym}
use Rattle.std.proofs.lemmas.Result.{err_from_is_err_and}
use Rattle.mi_base.specs.declared.refusals.NoMemory.{NoMemory}
use Rattle.mi_settle.specs.Settling.{Settles, WorksOff}
use Rattle.mi_settle.proofs.SettlingLemmas.{floor_whole, settles, settles_short}
use Rattle.mi_settle.proofs.settling.settle.Goals as goal

pub returns-in_err-work_off : goal.returns-in_err-work_off
returns-in_err-work_off c =
    let s = c.args.solo.now.state in
    let t = c.work_off.new.solo.state in
    let w = subst (λ (r : Result (Unit {0}) NoMemory). WorksOff c.actor-actor.result s r t) c.in_err-work_off.was c.work_off.ensures in
    let p = err_from_is_err_and c.from_residual.result c.from_residual.ensures.1 in
    record { settles = subst (λ (r : Result (Unit {0}) NoMemory). Settles c.args.solo.now.turn s r t) (sym p.1) (subst (λ (n : ℕ). Settles n s (Err p.0) t) c.actor-actor.ensures (settles_short c.actor-actor.result s t p.0 w)) }

pub trim_all-requires-clause-may : goal.trim_all-requires-clause-may
trim_all-requires-clause-may c = (c.work_off.ensures.0.is false).waits.may

pub trim_all-requires-clause-floor : goal.trim_all-requires-clause-floor
trim_all-requires-clause-floor c =
    let s = c.args.solo.now.state in
    let t = c.work_off.new.solo.state in
    let w = subst (λ (r : Result (Unit {0}) NoMemory). WorksOff c.actor-actor.result s r t) c.in_ok-work_off.was c.work_off.ensures in
    floor_whole c.actor-actor.result t w.0.kept w.0.rest w.1.1

pub returns : goal.returns
returns c =
    let s = c.args.solo.now.state in
    let m = c.work_off.new.solo.state in
    let t = c.trim_all.new.solo.state in
    let w = subst (λ (r : Result (Unit {0}) NoMemory). WorksOff c.actor-actor.result s r m) c.in_ok-work_off.was c.work_off.ensures in
    record { settles = subst (λ (n : ℕ). Settles n s (Ok tt) t) c.actor-actor.ensures (settles c.actor-actor.result s m t w c.trim_all.ensures) }
