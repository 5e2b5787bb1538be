use Rattle.std.proofs.Common.{◌∙◌}
use Rattle.mi_hall.proofs.AbsorbedLemmas.{kept_gone}
use Rattle.mi_hall.proofs.DepartCall.{actor_known}
use Rattle.mi_hall.proofs.GiveUpCall.{give_up_cells, give_up_claims, give_up_does, give_up_fresh, give_up_full, give_up_root, give_up_shard, give_up_told}
use Rattle.mi_hall.proofs.NamedPages.{board_near}
use Rattle.mi_hall.proofs.PassLemmas.{given_at, given_pass, word_stays}
use Rattle.mi_hall.proofs.passes.Pass.give_up.Goals as goal

pub give_up-requires-clause-known : goal.give_up-requires-clause-known
give_up-requires-clause-known g c = let e = c.take_board-board.ensures in actor_known _ _ _ _ _ _ _ _ c.self.invariant.0 e.took e.told

pub give_up-requires-clause-claims : goal.give_up-requires-clause-claims
give_up-requires-clause-claims g c = let e = c.take_board-board.ensures in give_up_claims _ _ _ _ _ _ _ _ c.self.invariant.0 e.took e.told _ _ c.self.view_is c.args.pages c.requires.claimed c.requires.none c.requires.told

pub give_up-requires-clause-pages : goal.give_up-requires-clause-pages
give_up-requires-clause-pages g c = let e = c.take_board-board.ensures in give_up_full _ _ _ _ _ _ _ _ c.self.invariant.0 e.took e.told _ _ c.self.view_is c.args.pages c.requires.claimed c.requires.none c.requires.told

pub give_board-requires-clause-last : goal.give_board-requires-clause-last
give_board-requires-clause-last g c = (_, c.take_board-board.ensures.last)

pub give_board-requires-clause-does : goal.give_board-requires-clause-does
give_board-requires-clause-does g c = let e = c.take_board-board.ensures in give_up_does _ _ _ _ _ _ _ _ c.self.invariant.0 e.took e.told _ _ c.self.view_is c.args.pages c.requires.claimed c.requires.none c.requires.told _ _ c.give_up.ensures c.end_split.ensures e.last

pub invariant_of-self : goal.invariant_of-self
invariant_of-self g c =
    let e = c.take_board-board.ensures in (
      given_pass _ _ _ _ _ _ _ _ _ _ _ c.self.invariant.0 e.took c.give_board.ensures.gave (give_up_shard _ _ _ _ _ _ _ _ c.self.invariant.0 e.took e.told _ _ c.self.view_is c.args.pages c.requires.claimed c.requires.none c.requires.told _ _ c.give_up.ensures c.end_split.ensures),
      board_near _ _ _ _ _ _ _ _ _ _ _ _ c.self.invariant.0.live e.took e.told c.give_board.ensures.gave (give_up_root _ _ _ _ _ _ _ _ c.self.invariant.0 e.took e.told _ _ c.self.view_is c.args.pages c.requires.claimed c.requires.none c.requires.told _ _ c.give_up.ensures c.end_split.ensures) c.args.latches.now.words c.self.view_is c.requires.table (c.give_board.ensures.table.0 ∙ e.table.0) c.self.invariant.1,
      give_up_cells _ _ _ _ _ _ _ _ c.self.invariant.0 e.took e.told _ _ c.self.view_is c.args.pages c.requires.claimed c.requires.none c.requires.told _ _ c.give_up.ensures c.end_split.ensures _ c.give_board.ensures.gave,
      word_stays _ _ _ _ (c.give_board.ensures.table.0 ∙ e.table.0) (give_up_fresh _ _ _ _ _ _ _ _ c.self.invariant.0 e.took e.told _ _ c.self.view_is c.args.pages c.requires.claimed c.requires.none c.requires.told _ _ c.give_up.ensures c.end_split.ensures) c.self.invariant.3,
      given_at _ _ _ c.give_board.ensures.gave c.give_board.ensures.at,
      kept_gone _ _ _ c.give_board.ensures.gave (kept_gone _ _ _ e.took c.self.invariant.5),
    )

pub returns-clause-told : goal.returns-clause-told
returns-clause-told g c = let e = c.take_board-board.ensures in give_up_told _ _ _ _ _ _ _ _ c.self.invariant.0 e.took e.told _ _ c.self.view_is c.args.pages c.requires.claimed c.requires.none c.requires.told _ _ c.give_up.ensures c.end_split.ensures _ c.give_board.ensures.gave
