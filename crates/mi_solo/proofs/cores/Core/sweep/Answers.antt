use Rattle.std.proofs.Common.{◌≤◌, ap, subst, sym}
use Rattle.mi_base.specs.Configuration.{Configuration}
use Rattle.mi_entries.specs.Actors.{Actor}
use Rattle.mi_page.specs.Nodes.{Node}
use Rattle.mi_solo.specs.LeafRows.{IsSweeping, SweepsRow}
use Rattle.mi_solo.specs.States.{actor_in, state_of}
use Rattle.mi_solo.specs.Viewing.{swept_to}
use Rattle.mi_solo.proofs.CoreLemmas.{row_is, there}
use Rattle.mi_solo.proofs.DescentLemmas.{has_sibling}
use Rattle.mi_solo.proofs.PageLemmas.{node_here, page_here}
use Rattle.mi_solo.proofs.PageTurns.{on_page}
use Rattle.mi_solo.proofs.SweepSections.{row_sweeps, shown_sweep}
use Rattle.mi_solo.proofs.cores.Core.sweep.Goals as goal

pub sweep_row-requires-clause-sweeping : goal.sweep_row-requires-clause-sweeping
sweep_row-requires-clause-sweeping c =
    let s = c.args.self.now in
    let a = c.args.actor in
    let row = c.index_mut-me.result.now in
    let its = ap (λ (r : Actor). r.sweep) (row_is s a c.requires.going.known row c.index_mut-me.ensures.value) in
    subst (λ (x : Configuration). IsSweeping x row) (sym c.settings.ensures)
    (row_sweeps (state_of s) c.requires.kept a (actor_in (state_of s) a) (there s a c.requires.going.known) row its (shown_sweep (actor_in (state_of s) a).sweep c.requires.sweeping))

pub sweep_row-requires-clause-low : goal.sweep_row-requires-clause-low
sweep_row-requires-clause-low c =
    let s = c.args.self.now in
    let a = c.args.actor in
    let it = node_here s c.args.page c.requires.linked c.index_mut.result.now c.index_mut.ensures.value c.in-Some.node c.in-Some.is in
    subst (λ (r : Actor). c.in-Some.node.low ≤ swept_to r.sweep) (row_is s a c.requires.going.known c.index_mut-me.result.now c.index_mut-me.ensures.value)
    (subst (λ (n : Node). n.low ≤ swept_to (actor_in (state_of s) a).sweep) it c.requires.low)

pub sweep_row-requires-clause-sibling : goal.sweep_row-requires-clause-sibling
sweep_row-requires-clause-sibling c =
    let s = c.args.self.now in
    has_sibling (state_of s) c.requires.kept c.args.page c.in-Some.node (page_here s c.args.page c.requires.linked c.index_mut.result.now c.index_mut.ensures.value c.in-Some.node c.in-Some.is)

pub returns : goal.returns
returns c =
    let s = c.args.self.now in
    on_page s c.args.actor c.requires.going.known c.index_mut-me.result.now c.index_mut-me.ensures.value c.args.page c.requires.linked c.index_mut.result.now c.index_mut.ensures.value c.in-Some.node c.in-Some.is
    (SweepsRow s.board.settings c.args.page c.sweep_row.result) c.sweep_row.new.node c.sweep_row.new.row
    (subst (λ (x : Configuration). SweepsRow x c.args.page c.sweep_row.result c.in-Some.node c.index_mut-me.result.now c.sweep_row.new.node c.sweep_row.new.row) c.settings.ensures c.sweep_row.ensures)
