use Rattle.std.proofs.Common.{◌≡◌, Ok, take}
use Rattle.std.specs.List.{flat_map}
use Rattle.mi_outside.specs.Outside.{Sends}
use Rattle.mi_print.specs.Render.{row_line}
use Rattle.mi_print.proofs.transcript.send_rows.Given as goal

-- the lines of the items so far were sent
abbrev pub invariant-loop-row : goal.invariant-loop-row
invariant-loop-row g l =
    Sends (g.S.Sink.state l.fn.out) (g.S.Sink.state l.out) (flat_map row_line (take l.row-index l.row-items)) (Ok tt)
    × (l.row-items ≡ l.initial.row-items)
