use Rattle.std.proofs.Common.{◌++◌, ◌∷◌, [], length, take, ap, sym, ◌∙◌, refl, arith}
use Rattle.std.proofs.lemmas.List.{take_more}
use Rattle.mi_base.specs.History.{updates_of}
use Rattle.mi_print.proofs.LoopLemmas.{updates_of-update, updates_of-split}
use Rattle.mi_print.proofs.transcript.count_updates.Goals as goal
use Rattle.mi_print.proofs.transcript.count_updates.Goals.{in-Update, in_default}

pub loop-event-preserved : goal.loop-event-preserved
loop-event-preserved c =
    let xs = c.as_slice-event-items.result.now in
    let i = c.loop-event.event-index in
    let next = ap (λ e. length (updates_of e)) (take_more xs i c.event-item.result c.loop-event-test.true) ∙ ap (λ e. length (updates_of (take i xs ++ e ∷ []))) (sym c.event-item.is) in
    elim c.match-event.branch [
      | in-Update w ↦
          let more = next ∙ ap (λ e. length (updates_of (take i xs ++ e ∷ []))) w.in-Update.is ∙ updates_of-update (take i xs) w.in-Update.session w.in-Update.op w.in-Update.update in
          record { counted = omega (arith, more, c.loop-event.invariant.counted, w.updates-is); few = omega (arith, c.loop-event.invariant.few, w.updates-is); same = refl }
      | in_default w ↦
          let more = next ∙ ap (λ e. length (updates_of (take i xs ++ e ∷ []))) w.in_default.is ∙ updates_of-split (take i xs) w.in_default.field-0 in
          record { counted = omega (arith, more, c.loop-event.invariant.counted, w.updates-is); few = omega (arith, c.loop-event.invariant.few, w.updates-is); same = refl }
    ]
