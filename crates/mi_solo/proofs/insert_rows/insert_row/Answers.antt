use Rattle.std.proofs.Common.{◌≤◌, IsTrue, length, subst, sym}
use Rattle.mi_base.specs.Configuration.{Configuration}
use Rattle.mi_base.specs.Prefixes.{all_below}
use Rattle.mi_solo.proofs.InsertRow.{enter_fits, enter_sibling, enter_small}
use Rattle.mi_solo.proofs.insert_rows.insert_row.Goals as goal

pub key_of_row-key-requires-clause-depth : goal.key_of_row-key-requires-clause-depth
key_of_row-key-requires-clause-depth c p e = subst (λ (x : Configuration). length p ≤ x.levels) (sym c.settings.ensures)
    (enter_fits c.args.actor c.args.page c.args.id c.args.vector.now c.args.dists.now.items c.args.board.now c.args.node.now c.args.rows.now c.args.row.now c.requires p e).0

pub key_of_row-key-requires-clause-pivots : goal.key_of_row-key-requires-clause-pivots
key_of_row-key-requires-clause-pivots c p e = subst (λ (x : Configuration). IsTrue (all_below (length x.pivots) p)) (sym c.settings.ensures)
    (enter_fits c.args.actor c.args.page c.args.id c.args.vector.now c.args.dists.now.items c.args.board.now c.args.node.now c.args.rows.now c.args.row.now c.requires p e).1

pub key_of_row-key-requires-clause-distance : goal.key_of_row-key-requires-clause-distance
key_of_row-key-requires-clause-distance c =
    (enter_small c.args.actor c.args.page c.args.id c.args.vector.now c.args.dists.now.items c.args.board.now c.args.node.now c.args.rows.now c.args.row.now c.requires).0

pub seek-requires-clause-sibling : goal.seek-requires-clause-sibling
seek-requires-clause-sibling c =
    enter_sibling c.args.actor c.args.page c.args.id c.args.vector.now c.args.dists.now.items c.args.board.now c.args.node.now c.args.rows.now c.args.row.now c.requires
