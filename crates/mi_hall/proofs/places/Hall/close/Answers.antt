use Rattle.std.proofs.Common.{arith, subst, sym, ◌∙◌, ◌+◌, length}
use Rattle.mi_world.specs.Families.{ClaimsNothing}
use Rattle.mi_hall.specs.Closing.{Closes, IsLast}
use Rattle.mi_hall.specs.Passes.{PassState}
use Rattle.mi_hall.specs.Seats.{seat_view}
use Rattle.mi_hall.proofs.ClosingLemmas.{left_cells, most_up, most_within}
use Rattle.mi_hall.proofs.ClosingPass.{closed_going, closed_kept, closed_so, covers, nothing_out}
use Rattle.mi_hall.proofs.places.Hall.close.Goals as goal

pub place-rows-requires-clause-within : goal.place-rows-requires-clause-within
place-rows-requires-clause-within c = most_within c.pass.inside.gone (c.pass.inside.actor + 1) (length c.in-Ok.room.rows.items) (omega (arith, c.in-Ok.ensures.rows, c.count_up-count.ensures))

pub place-rows-requires-clause-own : goal.place-rows-requires-clause-own
place-rows-requires-clause-own c = (let u = most_up (c.pass.inside.actor + 1) c.pass.inside.gone in omega (arith, u, c.in-Ok.ensures.rows, c.count_up-count.ensures))

pub close-requires-clause-last : goal.close-requires-clause-last
close-requires-clause-last c =
    let p = c.pass.invariant.0 in
    let idle = subst (λ (z : PassState). ClaimsNothing (seat_view z.sight)) (sym c.pass.view_is) c.requires.idle in
    let last = subst (λ (z : PassState). IsLast (seat_view z.sight)) (sym c.pass.view_is) c.requires.last in
    (p.live, p.unborn, nothing_out c.self.inside.latches.table.shared.key c.pass.inside.seat.me _ _ _ _ c.pass.inside.gone p c.pass.invariant.5 idle, covers c.pass.inside.seat.me.0 p.live p.unborn last)

pub core_of-core-requires-clause-values : goal.core_of-core-requires-clause-values
core_of-core-requires-clause-values c = let e = c.close.ensures in (e.leaves.core, left_cells c.self.inside.latches.table.shared.key c.pass.inside.seat.me.0 c.close.result.items e.leaves e.count, e.leaves.held.kept.sound.sixteen)

pub of_core-requires-clause-kept : goal.of_core-requires-clause-kept
of_core-requires-clause-kept c =
    let idle = subst (λ (z : PassState). ClaimsNothing (seat_view z.sight)) (sym c.pass.view_is) c.requires.idle in
    let e = c.close.ensures in
    let f = c.core_of-core.ensures in
    closed_kept c.self.inside.latches.table.shared.key c.pass.inside.seat.me _ c.pass.inside.row _ _ c.pass.inside.gone c.pass.invariant.0 c.pass.invariant.5 idle c.close.result.items e.leaves e.count
    c.in-Ok.room.rows.items (c.in-Ok.ensures.rows ∙ c.count_up-count.ensures) c.core_of-core.result f.board f.shards f.pages (f.actors ∙ c.place-rows.ensures)

pub of_core-requires-clause-going : goal.of_core-requires-clause-going
of_core-requires-clause-going c =
    let idle = subst (λ (z : PassState). ClaimsNothing (seat_view z.sight)) (sym c.pass.view_is) c.requires.idle in
    let e = c.close.ensures in
    let f = c.core_of-core.ensures in
    closed_going c.self.inside.latches.table.shared.key c.pass.inside.seat.me _ c.pass.inside.row _ _ c.pass.inside.gone c.pass.invariant.0 c.pass.invariant.5 idle c.close.result.items e.leaves e.count
    c.in-Ok.room.rows.items (c.in-Ok.ensures.rows ∙ c.count_up-count.ensures) c.core_of-core.result f.board f.shards f.pages (f.actors ∙ c.place-rows.ensures)

pub returns-clause-ok : goal.returns-clause-ok
returns-clause-ok c =
    let idle = subst (λ (z : PassState). ClaimsNothing (seat_view z.sight)) (sym c.pass.view_is) c.requires.idle in
    let e = c.close.ensures in
    let f = c.core_of-core.ensures in
    subst (λ (z : PassState). Closes (seat_view z.sight) c.of_core.result) c.pass.view_is
    (closed_so c.self.inside.latches.table.shared.key c.pass.inside.seat.me _ c.pass.inside.row _ _ c.pass.inside.gone c.pass.invariant.0 c.pass.invariant.5 idle c.close.result.items e.leaves e.count
    c.in-Ok.room.rows.items (c.in-Ok.ensures.rows ∙ c.count_up-count.ensures) c.core_of-core.result f.board f.shards f.pages (f.actors ∙ c.place-rows.ensures) c.of_core.result c.of_core.ensures)
