use Rattle.std.proofs.Common.{◌≤◌, refl, sym, ap, subst}
use Rattle.mi_base.specs.Configuration.{Configuration}
use Rattle.mi_entries.specs.Actors.{Actor}
use Rattle.mi_page.specs.Nodes.{Node}
use Rattle.mi_world.specs.Splits.{gather_key}
use Rattle.mi_solo.specs.GatherRows.{GathersPage, GathersRow, IsClaiming, row_work}
use Rattle.mi_solo.specs.States.{actor_in, state_of, view_in}
use Rattle.mi_solo.proofs.CoreLemmas.{row_is, there}
use Rattle.mi_solo.proofs.DescentLemmas.{has_sibling}
use Rattle.mi_solo.proofs.GatherRows.{row_claims, row_mark}
use Rattle.mi_solo.proofs.PageLemmas.{node_here, page_here}
use Rattle.mi_solo.proofs.PageTurns.{on_read_page}
use Rattle.mi_solo.proofs.cores.Core.gather.Goals as goal

pub gather_row-requires-clause-claiming : goal.gather_row-requires-clause-claiming
gather_row-requires-clause-claiming c =
    let s = c.args.self.now in
    let a = c.args.actor in
    let row = c.index_mut-me.result.now in
    let is = row_is s a c.requires.going.known row c.index_mut-me.ensures.value in
    subst (λ (x : Configuration). IsClaiming x row) (sym c.settings.ensures)
    (row_claims (state_of s) c.requires.kept a (actor_in (state_of s) a) (there s a c.requires.going.known) row (ap (λ (r : Actor). r.claim) is) (ap (λ (r : Actor). r.split) is) c.requires.ready.leaf c.requires.ready.leaf_is)

pub gather_row-requires-clause-low : goal.gather_row-requires-clause-low
gather_row-requires-clause-low c =
    let s = c.args.self.now in
    let a = c.args.actor in
    let row = c.index_mut-me.result.now in
    let is = row_is s a c.requires.going.known row c.index_mut-me.ensures.value in
    let it = node_here s c.args.page c.requires.linked c.index.result.now c.index.ensures c.in-Some.node c.in-Some.is in
    let mark = row_mark (state_of s) c.requires.kept a (actor_in (state_of s) a) (there s a c.requires.going.known) c.requires.going.going c.args.page row (ap (λ (r : Actor). r.claim) is) (ap (λ (r : Actor). r.split) is) c.requires.ready.leaf c.requires.ready.leaf_is in
    subst (λ (x : Configuration). c.in-Some.node.low ≤ (row_work x row).mark) (sym c.settings.ensures)
    (subst (λ k. c.in-Some.node.low ≤ k) (sym mark) (subst (λ (n : Node). n.low ≤ gather_key (view_in (state_of s) a)) it c.requires.low))

pub gather_row-requires-clause-sibling : goal.gather_row-requires-clause-sibling
gather_row-requires-clause-sibling c =
    let s = c.args.self.now in
    has_sibling (state_of s) c.requires.kept c.args.page c.in-Some.node (page_here s c.args.page c.requires.linked c.index.result.now c.index.ensures c.in-Some.node c.in-Some.is)

pub returns : goal.returns
returns c =
    let s = c.args.self.now in
    let x = c.gather_row in
    on_read_page s c.args.actor c.requires.going.known c.index_mut-me.result.now c.index_mut-me.ensures.value c.args.page c.requires.linked c.index.result.now c.index.ensures c.in-Some.node c.in-Some.is
    (GathersPage s.board.settings c.args.page x.result) x.new.row
    (refl, subst (λ (z : Configuration). GathersRow z c.args.page x.result c.in-Some.node c.index_mut-me.result.now x.new.row) c.settings.ensures x.ensures)
