use Rattle.std.proofs.Common.{ap, sym, ◌∙◌, ◌++◌}
use Rattle.std.specs.Prelude.{[], ◌∷◌, codes, length}
use Rattle.std.specs.List.{flat_map}
use Rattle.std.specs.Prelude.{◌-◌}
use Rattle.mi_print.specs.Render.{number_line, event_line}
use Rattle.mi_outside.proofs.SendingLemmas.{sends_ended, sends_then_is}
use Rattle.mi_print.proofs.transcript.send_history.Goals as goal

pub returns-in_err-send_numbers : goal.returns-in_err-send_numbers
returns-in_err-send_numbers g c =
    sends_ended _ c.from_residual.result
    (number_line (codes "history") (c.count_updates-updates.result ∷ c.saturating_sub-splits.result ∷ []))
    (flat_map event_line c.args.log.now)
    _ c.from_residual.ensures.1
    (ap (λ n. number_line (codes "history") (n ∷ (length c.args.log.now - n) ∷ []) ++ flat_map event_line c.args.log.now) (sym c.count_updates-updates.ensures)
    ∙ ap (λ n. number_line (codes "history") (c.count_updates-updates.result ∷ n ∷ []) ++ flat_map event_line c.args.log.now) (ap (λ n. n - c.count_updates-updates.result) (sym c.len.ensures) ∙ sym c.saturating_sub-splits.ensures))
    c.in_err-send_numbers.ensures

pub returns : goal.returns
returns g c =
    sends_then_is
    (number_line (codes "history") (c.count_updates-updates.result ∷ c.saturating_sub-splits.result ∷ []))
    (flat_map event_line c.args.log.now)
    _
    (ap (λ n. number_line (codes "history") (n ∷ (length c.args.log.now - n) ∷ []) ++ flat_map event_line c.args.log.now) (sym c.count_updates-updates.ensures)
    ∙ ap (λ n. number_line (codes "history") (c.count_updates-updates.result ∷ n ∷ []) ++ flat_map event_line c.args.log.now) (ap (λ n. n - c.count_updates-updates.result) (sym c.len.ensures) ∙ sym c.saturating_sub-splits.ensures))
    c.in_ok-send_numbers.ensures c.send_events.ensures
