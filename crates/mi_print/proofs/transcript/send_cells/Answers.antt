use Rattle.std.proofs.Common.{ap, sym, ◌++◌}
use Rattle.std.specs.Prelude.{[], ◌∷◌, codes}
use Rattle.std.specs.List.{flat_map}
use Rattle.mi_print.specs.Render.{number_line, leaf_line}
use Rattle.mi_outside.proofs.SendingLemmas.{sends_ended, sends_then_is}
use Rattle.mi_print.proofs.transcript.send_cells.Goals as goal

pub returns-in_err-send_numbers : goal.returns-in_err-send_numbers
returns-in_err-send_numbers g c =
    sends_ended _ c.from_residual.result
    (number_line (codes "cells") (c.len.result ∷ []))
    (flat_map leaf_line c.args.cells.now)
    _ c.from_residual.ensures.1
    (ap (λ n. number_line (codes "cells") (n ∷ []) ++ flat_map leaf_line c.args.cells.now) (sym c.len.ensures))
    c.in_err-send_numbers.ensures

pub returns : goal.returns
returns g c =
    sends_then_is
    (number_line (codes "cells") (c.len.result ∷ []))
    (flat_map leaf_line c.args.cells.now)
    _
    (ap (λ n. number_line (codes "cells") (n ∷ []) ++ flat_map leaf_line c.args.cells.now) (sym c.len.ensures))
    c.in_ok-send_numbers.ensures c.send_leaves.ensures
