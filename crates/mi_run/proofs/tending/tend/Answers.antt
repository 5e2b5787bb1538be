use Rattle.std.proofs.Common.{◌≡◌, ◌∙◌, Bool, true, false, Option, None, Some, refl, sym, ap}
use Rattle.std.specs.Prelude.{is_some, not}
use Rattle.mi_run.proofs.TendLemmas.{Tending, none_under, tending_looks, tending_turned, tends}
use Rattle.mi_run.proofs.tending.tend.Goals as goal

pub returns-then-ne : goal.returns-then-ne
returns-then-ne g c =
    let p = c.args.place.now in
    let l = c.loop in
    let m = c.is_last-last.new.place in
    let begins = not c.is_under_way-begins.result in
    let looked : Tending p m l.care = tending_looks p l.place m l.care begins (ap not c.is_under_way-begins.ensures) c.is_last-last.ensures l.invariant in
    let turned = tending_turned p m c.step-turn.new.world l.care c.step-turn.new.self c.step-turn.result looked c.step-turn.ensures.turned c.step-turn.ensures.section in
    tends p c.step-turn.new.world c.step-turn.new.self (none_under c.step-turn.new.self.task (sym c.is_under_way.ensures ∙ c.if-not-is_under_way.true)) turned

pub loop-preserved-then-eq : goal.loop-preserved-then-eq
loop-preserved-then-eq g c =
    let p = c.args.place.now in
    let l = c.loop in
    let m = c.is_last-last.new.place in
    let begins = not c.is_under_way-begins.result in
    let looked : Tending p m l.care = tending_looks p l.place m l.care begins (ap not c.is_under_way-begins.ensures) c.is_last-last.ensures l.invariant in
    tending_turned p m c.step-turn.new.world l.care c.step-turn.new.self c.step-turn.result looked c.step-turn.ensures.turned c.step-turn.ensures.section

pub loop-preserved : goal.loop-preserved
loop-preserved g c =
    let p = c.args.place.now in
    let l = c.loop in
    let m = c.is_last-last.new.place in
    let begins = not c.is_under_way-begins.result in
    let looked : Tending p m l.care = tending_looks p l.place m l.care begins (ap not c.is_under_way-begins.ensures) c.is_last-last.ensures l.invariant in
    tending_turned p m c.step-turn.new.world l.care c.step-turn.new.self c.step-turn.result looked c.step-turn.ensures.turned c.step-turn.ensures.section
