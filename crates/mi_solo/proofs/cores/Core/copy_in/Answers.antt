use Rattle.std.proofs.Common.{◌≡◌, ◌<◌, ◌≤◌, ap, arith, false, length, subst, sym}
use Rattle.mi_base.specs.Configuration.{Configuration}
use Rattle.mi_entries.specs.Actors.{Actor}
use Rattle.mi_page.specs.Entries.{has_entry, without_dead}
use Rattle.mi_page.specs.Nodes.{Node}
use Rattle.mi_core.specs.Events.{copied_of}
use Rattle.mi_world.specs.Splits.{next_copy}
use Rattle.mi_solo.specs.LeafRows.{CopiesRow, IsSplitting, copied_by, copy_key}
use Rattle.mi_solo.specs.States.{actor_in, split_of, state_of, view_in}
use Rattle.mi_solo.specs.Viewing.{copy_keys, shown_to}
use Rattle.mi_solo.proofs.CopyRows.{copy_nowhere, has_copy, keys_many, row_splits}
use Rattle.mi_solo.proofs.CoreLemmas.{row_is, there}
use Rattle.mi_solo.proofs.DescentLemmas.{has_sibling}
use Rattle.mi_solo.proofs.PageLemmas.{node_here, page_here}
use Rattle.mi_solo.proofs.PageTurns.{on_page}
use Rattle.mi_solo.proofs.cores.Core.copy_in.Goals as goal

pub copy_row-requires-clause-splitting : goal.copy_row-requires-clause-splitting
copy_row-requires-clause-splitting c =
    let s = c.args.self.now in
    let a = c.args.actor in
    let row = c.index_mut-me.result.now in
    let its = ap (λ (r : Actor). r.split) (row_is s a c.requires.going.known row c.index_mut-me.ensures.value) in
    let works : IsSplitting s.board.settings row = row_splits (state_of s) c.requires.kept a (actor_in (state_of s) a) (there s a c.requires.going.known) row its c.requires.whole.splitting in
    subst (λ (x : Configuration). IsSplitting x row) (sym c.settings.ensures) works

pub copy_row-requires-clause-more : goal.copy_row-requires-clause-more
copy_row-requires-clause-more c =
    let s = c.args.self.now in
    let a = c.args.actor in
    let row = c.index_mut-me.result.now in
    let shown : copied_of (split_of row.split) < length (copy_keys s.board.settings (split_of row.split)) = subst (λ (r : Actor). (shown_to (state_of s) a r).copied < length (shown_to (state_of s) a r).copies) (row_is s a c.requires.going.known row c.index_mut-me.ensures.value) c.requires.more in
    omega (arith, shown, keys_many s.board.settings (split_of row.split))

pub copy_row-requires-clause-low : goal.copy_row-requires-clause-low
copy_row-requires-clause-low c =
    let s = c.args.self.now in
    let a = c.args.actor in
    let row = c.index_mut-me.result.now in
    let n = c.in-Some.node in
    subst (λ (x : Configuration). n.low ≤ copy_key x row (copied_by row)) (sym c.settings.ensures)
    (subst (λ (r : Actor). n.low ≤ next_copy (shown_to (state_of s) a r)) (row_is s a c.requires.going.known row c.index_mut-me.ensures.value)
    (subst (λ (m : Node). m.low ≤ next_copy (view_in (state_of s) a)) (node_here s c.args.page c.requires.linked c.index_mut.result.now c.index_mut.ensures.value c.in-Some.node c.in-Some.is) c.requires.low))

pub copy_row-requires-clause-absent : goal.copy_row-requires-clause-absent
copy_row-requires-clause-absent c leaf =
    let s = c.args.self.now in
    let a = c.args.actor in
    let row = c.index_mut-me.result.now in
    let its = ap (λ (r : Actor). r.split) (row_is s a c.requires.going.known row c.index_mut-me.ensures.value) in
    let works : IsSplitting s.board.settings row = row_splits (state_of s) c.requires.kept a (actor_in (state_of s) a) (there s a c.requires.going.known) row its c.requires.whole.splitting in
    let shown : copied_of (split_of row.split) < length (copy_keys s.board.settings (split_of row.split)) = subst (λ (r : Actor). (shown_to (state_of s) a r).copied < length (shown_to (state_of s) a r).copies) (row_is s a c.requires.going.known row c.index_mut-me.ensures.value) c.requires.more in
    let has = has_copy s.board.settings row works (copied_by row) (omega (arith, shown, keys_many s.board.settings (split_of row.split))) in
    subst (λ (x : Configuration). has_entry (copy_key x row (copied_by row)) (without_dead row.floor.updates c.in-Some.node.entries) ≡ false) (sym c.settings.ensures)
    (copy_nowhere (state_of s) c.requires.kept a (actor_in (state_of s) a) (there s a c.requires.going.known) row its c.args.page c.in-Some.node (page_here s c.args.page c.requires.linked c.index_mut.result.now c.index_mut.ensures.value c.in-Some.node c.in-Some.is) has.0 has.1 leaf row.floor.updates)

pub copy_row-requires-clause-sibling : goal.copy_row-requires-clause-sibling
copy_row-requires-clause-sibling c =
    let s = c.args.self.now in
    has_sibling (state_of s) c.requires.kept c.args.page c.in-Some.node (page_here s c.args.page c.requires.linked c.index_mut.result.now c.index_mut.ensures.value c.in-Some.node c.in-Some.is)

pub returns : goal.returns
returns c =
    let s = c.args.self.now in
    on_page s c.args.actor c.requires.going.known c.index_mut-me.result.now c.index_mut-me.ensures.value c.args.page c.requires.linked c.index_mut.result.now c.index_mut.ensures.value c.in-Some.node c.in-Some.is
    (CopiesRow s.board.settings c.args.page c.copy_row.result) c.copy_row.new.node c.copy_row.new.row
    (subst (λ (x : Configuration). CopiesRow x c.args.page c.copy_row.result c.in-Some.node c.index_mut-me.result.now c.copy_row.new.node c.copy_row.new.row) c.settings.ensures c.copy_row.ensures)
