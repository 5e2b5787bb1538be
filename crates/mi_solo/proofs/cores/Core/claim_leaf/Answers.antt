use Rattle.std.proofs.Common.{◌∙◌}
use Rattle.mi_solo.specs.BoardRows.{ClaimsRow}
use Rattle.mi_solo.proofs.BoardTurns.{claims_keep, on_the_board}
use Rattle.mi_solo.proofs.CoreLemmas.{on_board, suits}
use Rattle.mi_solo.proofs.cores.Core.claim_leaf.Goals as goal

pub claim_row-requires-clause-known : goal.claim_row-requires-clause-known
claim_row-requires-clause-known c = on_board c.args.self.now c.args.actor c.requires.going.known c.requires.kept

pub claim_row-requires-clause-free : goal.claim_row-requires-clause-free
claim_row-requires-clause-free c = (suits c.args.self.now c.args.actor c.requires.going.known c.requires.kept).holds.claim ∙ c.requires.free

pub returns : goal.returns
returns c =
    let s = c.args.self.now in
    let x = c.claim_row in
    on_the_board s c.args.actor c.requires.going.known c.index_mut-me.result.now c.index_mut-me.ensures.value (ClaimsRow c.args.actor c.args.perm.now x.result) x.new.board x.new.row
    (claims_keep c.args.actor s.board x.new.board _ _ c.args.perm.now x.result x.ensures).0 x.ensures
