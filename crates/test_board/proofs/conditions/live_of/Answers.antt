use Rattle.std.proofs.Common.{◌≡◌, ◌∙◌, sym, ap, map, List, [], ◌∷◌, ◌++◌, take, ◌+◌}
use Rattle.std.proofs.lemmas.List.{take_more}
use Rattle.mi_base.specs.declared.records.LogEvent.{LogEvent}
use Rattle.mi_base.specs.declared.records.Update.{Update}
use Rattle.mi_base.specs.History.{Object, live, live_after, updates_of}
use Rattle.mi_base.proofs.HistoryLemmas.{updates_of-append, live-append}
use Rattle.test_board.specs.declared.conditions.Live.{Live}
use Rattle.test_board.proofs.conditions.live_of.Goals as goal
use Rattle.test_board.proofs.conditions.live_of.Goals.{in-Update+in_ok-change-in-Update, in-Split}

pub loop-event-preserved : goal.loop-event-preserved
loop-event-preserved c =
    let log = c.args.log.now in
    let i = c.loop-event.event-index in
    let e = c.event-item.result in
    let object : Live → Object = λ o. record { id = o.id; vector = o.vector } in
    let more : take (i + 1) log ≡ take i log ++ e ∷ [] = take_more log i e c.loop-event-test.true ∙ ap (λ (x : LogEvent). take i log ++ x ∷ []) (sym c.event-item.is) in
    let whole : live (updates_of (take (i + 1) log)) ≡ live (updates_of (take i log) ++ updates_of (e ∷ [])) = ap (λ (l : List LogEvent). live (updates_of l)) more ∙ ap live (updates_of-append (take i log) (e ∷ [])) in
    elim c.match-event.branch [
      | in-Update+in_ok-change-in-Update w ↦
          let u = w.in-Update.update in
          let one : updates_of (e ∷ []) ≡ u ∷ [] = ap (λ (x : LogEvent). updates_of (x ∷ [])) w.in-Update.is in
          let step : live (updates_of (take (i + 1) log)) ≡ live_after (live (updates_of (take i log))) u = whole ∙ ap (λ (us : List Update). live (updates_of (take i log) ++ us)) one ∙ live-append (updates_of (take i log)) (u ∷ []) in
          ap (λ o. map object o.items) w.objects-is ∙ w.in_ok-change-in-Update.ensures ∙ ap (λ os. live_after os u) c.loop-event.invariant ∙ sym step
      | in-Split w ↦
          let none : updates_of (e ∷ []) ≡ [] = ap (λ (x : LogEvent). updates_of (x ∷ [])) w.in-Split.is in
          let step : live (updates_of (take (i + 1) log)) ≡ live (updates_of (take i log)) = whole ∙ ap (λ (us : List Update). live (updates_of (take i log) ++ us)) none ∙ live-append (updates_of (take i log)) [] in
          ap (λ o. map object o.items) w.objects-is ∙ c.loop-event.invariant ∙ sym step
    ]
