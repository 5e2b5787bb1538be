use Rattle.std.proofs.Common.{ap, ◌∙◌}
use Rattle.mi_tree.specs.declared.answers.Look.{Look}
use Rattle.mi_hall.proofs.AbsorbedLemmas.{kept_gone}
use Rattle.mi_hall.proofs.PassLemmas.{given_at, word_stays}
use Rattle.mi_hall.proofs.ReserveCall.{reserve_known, reserves_cells, reserves_does, reserves_hand, reserves_near, reserves_pass, reserves_returns, reserves_told, shard_shown}
use Rattle.mi_hall.proofs.passes.Pass.reserve.Goals as goal

pub reserve_row-result-requires : goal.reserve_row-result-requires
reserve_row-result-requires g c =
    let e = c.take_board-board.ensures in
    let s = shard_shown _ _ _ _ _ c.self.invariant.0 _ _ c.self.view_is c.requires.held in
    record { known = reserve_known _ _ _ _ _ _ _ _ c.self.invariant.0 e.took e.told s.0 s.1 _ c.in-Some.is }

pub give_beside_rows-requires-clause-last : goal.give_beside_rows-requires-clause-last
give_beside_rows-requires-clause-last g c = (_, c.take_board-board.ensures.last)

pub give_beside_rows-requires-clause-returns : goal.give_beside_rows-requires-clause-returns
give_beside_rows-requires-clause-returns g c =
    let e = c.take_board-board.ensures in
    let s = shard_shown _ _ _ _ _ c.self.invariant.0 _ _ c.self.view_is c.requires.held in
    reserves_returns _ _ _ _ _ _ _ _ c.self.invariant.0 e.took e.told s.0 s.1 _ c.in-Some.is _ _ _ c.reserve_row-result.result c.reserve_row-result.ensures e.last

pub give_beside_rows-requires-clause-does : goal.give_beside_rows-requires-clause-does
give_beside_rows-requires-clause-does g c =
    let e = c.take_board-board.ensures in
    let s = shard_shown _ _ _ _ _ c.self.invariant.0 _ _ c.self.view_is c.requires.held in
    reserves_does _ _ _ _ _ _ _ _ c.self.invariant.0 e.took e.told s.0 s.1 _ c.in-Some.is _ _ _ c.reserve_row-result.result c.reserve_row-result.ensures e.last

pub invariant_of-self : goal.invariant_of-self
invariant_of-self g c =
    let e = c.take_board-board.ensures in
    let p = c.self.invariant in
    let t = c.give_beside_rows.ensures.table.0 ∙ e.table.0 in
    let gave = c.give_beside_rows.ensures.gave in
    let s = shard_shown _ _ _ _ _ p.0 _ _ c.self.view_is c.requires.held in (
      reserves_pass _ _ _ _ _ _ _ _ p.0 e.took e.told s.0 s.1 _ c.in-Some.is _ _ _ c.reserve_row-result.result c.reserve_row-result.ensures _ gave,
      reserves_near _ _ _ _ _ _ _ _ p.0 e.took e.told s.0 s.1 _ c.in-Some.is _ _ _ c.reserve_row-result.result c.reserve_row-result.ensures _ gave _ _ c.args.latches.now.table.shared.table_id _ c.args.latches.now.words c.self.view_is c.requires.table t p.1,
      reserves_cells _ _ _ _ _ _ _ _ p.0 e.took e.told s.0 s.1 _ c.in-Some.is _ _ _ c.reserve_row-result.result c.reserve_row-result.ensures _ gave,
      word_stays _ _ _ _ t (reserves_hand _ _ _ _ _ _ _ _ p.0 e.took e.told s.0 s.1 _ c.in-Some.is _ _ _ c.reserve_row-result.result c.reserve_row-result.ensures) p.3,
      given_at _ _ _ gave (ap (λ (z : Look). z.at) c.look.ensures),
      kept_gone _ _ _ gave (kept_gone _ _ _ e.took p.5),
    )

pub returns-clause-told : goal.returns-clause-told
returns-clause-told g c =
    let e = c.take_board-board.ensures in
    let s = shard_shown _ _ _ _ _ c.self.invariant.0 _ _ c.self.view_is c.requires.held in
    reserves_told _ _ _ _ _ _ _ _ c.self.invariant.0 e.took e.told s.0 s.1 _ c.in-Some.is _ _ _ c.reserve_row-result.result c.reserve_row-result.ensures _ _ c.self.view_is _ c.give_beside_rows.ensures.gave
