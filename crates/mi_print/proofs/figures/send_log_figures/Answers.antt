use Rattle.std.proofs.Common.{◌≡◌, ◌++◌, ◌-◌, ℕ, List, length, ap, sym, refl, ◌∙◌}
use Rattle.std.specs.Prelude.{[], ◌∷◌, codes}
use Rattle.mi_base.specs.History.{updates_of}
use Rattle.mi_outside.proofs.SendingLemmas.{sends_ended, sends_then_is}
use Rattle.mi_print.specs.Render.{number_line}
use Rattle.mi_print.proofs.figures.send_log_figures.Goals as goal

-- the first two lines and the last two
first : ℕ → ℕ → List ℕ
first seed updates = number_line (codes "seed") (seed ∷ []) ++ number_line (codes "updates") (updates ∷ [])

last : ℕ → ℕ → List ℕ
last splits cells = number_line (codes "splits") (splits ∷ []) ++ number_line (codes "cells") (cells ∷ [])

pub returns-in_err-send_pair : goal.returns-in_err-send_pair
unfolding first last
returns-in_err-send_pair g c =
    let o = c.args.outcome.now in
    let u = length (updates_of o.log) in
    let t = last (length o.log - u) (length o.cells) in
    sends_ended _ c.from_residual.result (first c.args.seed c.count_updates-updates.result) t (first c.args.seed u ++ t) c.from_residual.ensures.1
    (ap (λ (n : ℕ). first c.args.seed n ++ t) (sym c.count_updates-updates.ensures))
    c.in_err-send_pair.ensures

pub returns : goal.returns
unfolding first last
returns g c =
    let o = c.args.outcome.now in
    let u = length (updates_of o.log) in
    let told = c.count_updates-updates.ensures in
    let splits : c.saturating_sub-splits.result ≡ length o.log - u = c.saturating_sub-splits.ensures ∙ ap (λ (n : ℕ). n - c.count_updates-updates.result) c.len.ensures ∙ ap (λ (n : ℕ). length o.log - n) told in
    let cells : c.len-2.result ≡ length o.cells = c.len-2.ensures in
    sends_then_is (first c.args.seed c.count_updates-updates.result) (last c.saturating_sub-splits.result c.len-2.result) (first c.args.seed u ++ last (length o.log - u) (length o.cells))
    (ap (λ (n : ℕ). first c.args.seed n ++ last (length o.log - u) (length o.cells)) (sym told)
    ∙ ap (λ (n : ℕ). first c.args.seed c.count_updates-updates.result ++ last n (length o.cells)) (sym splits)
    ∙ ap (λ (n : ℕ). first c.args.seed c.count_updates-updates.result ++ last c.saturating_sub-splits.result n) (sym cells))
    c.in_ok-send_pair.ensures c.send_pair-2.ensures
