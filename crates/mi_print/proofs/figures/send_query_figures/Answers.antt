use Rattle.std.proofs.Common.{◌≡◌, ◌++◌, ℕ, List, ap, sym, ◌∙◌}
use Rattle.std.specs.Prelude.{[], ◌∷◌, codes}
use Rattle.mi_outside.proofs.SendingLemmas.{sends_ended, sends_then_is}
use Rattle.mi_print.specs.declared.figures.Figure.TheVariants.{Queries, Rows, Opened, Distances}
use Rattle.mi_print.specs.Render.{number_line}
use Rattle.mi_print.specs.Summary.{figure_of}
use Rattle.mi_print.proofs.figures.send_query_figures.Goals as goal

-- the first two lines and the last two
first : ℕ → ℕ → List ℕ
first queries rows = number_line (codes "queries") (queries ∷ []) ++ number_line (codes "rows") (rows ∷ [])

last : ℕ → ℕ → List ℕ
last opened distances = number_line (codes "opened") (opened ∷ []) ++ number_line (codes "distances") (distances ∷ [])

pub returns-in_err-send_pair : goal.returns-in_err-send_pair
unfolding first last
returns-in_err-send_pair g c =
    let xs = c.args.sessions.now in
    let f = first (figure_of xs Queries) (figure_of xs Rows) in
    let t = last (figure_of xs Opened) (figure_of xs Distances) in
    sends_ended _ c.from_residual.result (first c.total-queries.result c.total-rows.result) t (f ++ t) c.from_residual.ensures.1
    (ap (λ (n : ℕ). first n (figure_of xs Rows) ++ t) (sym c.total-queries.ensures) ∙ ap (λ (n : ℕ). first c.total-queries.result n ++ t) (sym c.total-rows.ensures))
    c.in_err-send_pair.ensures

pub returns : goal.returns
unfolding first last
returns g c =
    let xs = c.args.sessions.now in
    let f = first (figure_of xs Queries) (figure_of xs Rows) in
    let t = last (figure_of xs Opened) (figure_of xs Distances) in
    let h = first c.total-queries.result c.total-rows.result in
    sends_then_is h (last c.total-opened.result c.total-distances.result) (f ++ t)
    (ap (λ (n : ℕ). first n (figure_of xs Rows) ++ t) (sym c.total-queries.ensures) ∙ ap (λ (n : ℕ). first c.total-queries.result n ++ t) (sym c.total-rows.ensures)
    ∙ ap (λ (n : ℕ). h ++ last n (figure_of xs Distances)) (sym c.total-opened.ensures) ∙ ap (λ (n : ℕ). h ++ last c.total-opened.result n) (sym c.total-distances.ensures))
    c.in_ok-send_pair.ensures c.send_pair-2.ensures
