use Rattle.std.proofs.Common.{◌≡◌, ◌<◌, ◌≤◌, ◌-◌, ◌==◌, ◌∙◌, Bool, ap, arith, subst, sym, true}
use Rattle.mi_base.specs.Configuration.{Configuration}
use Rattle.mi_entries.specs.Actors.{Actor}
use Rattle.mi_page.specs.Entries.{has_entry}
use Rattle.mi_page.specs.Nodes.{Node}
use Rattle.mi_core.specs.Events.{copied_of}
use Rattle.mi_page.specs.Keys.{IsInside}
use Rattle.mi_world.specs.Splits.{last_copy}
use Rattle.mi_solo.specs.LeafRows.{IsSplitting, UncopiesRow, copied_by, copy_key}
use Rattle.mi_solo.specs.States.{actor_in, state_of, view_in}
use Rattle.mi_solo.specs.Viewing.{shown_to}
use Rattle.mi_solo.proofs.CopyRows.{copied_few, copy_on_page, has_copy, row_splits, some_split}
use Rattle.mi_solo.proofs.CoreLemmas.{row_is, there}
use Rattle.mi_solo.proofs.DescentLemmas.{has_sibling}
use Rattle.mi_solo.proofs.PageLemmas.{node_here, page_here}
use Rattle.mi_solo.proofs.PageTurns.{on_page}
use Rattle.mi_solo.proofs.cores.Core.uncopy.Goals as goal

pub uncopy_row-requires-clause-splitting : goal.uncopy_row-requires-clause-splitting
uncopy_row-requires-clause-splitting c =
    let s = c.args.self.now in
    let a = c.args.actor in
    let row = c.index_mut-me.result.now in
    let its = ap (λ (r : Actor). r.split) (row_is s a c.requires.going.known row c.index_mut-me.ensures.value) in
    let works : IsSplitting s.board.settings row = row_splits (state_of s) c.requires.kept a (actor_in (state_of s) a) (there s a c.requires.going.known) row its (some_split (actor_in (state_of s) a).split c.requires.some) in
    subst (λ (x : Configuration). IsSplitting x row) (sym c.settings-2.ensures) works

pub uncopy_row-requires-clause-some : goal.uncopy_row-requires-clause-some
uncopy_row-requires-clause-some c =
    let s = c.args.self.now in
    let a = c.args.actor in
    let row = c.index_mut-me.result.now in
    let some : 0 < copied_by row = subst (λ (r : Actor). 0 < copied_of r.split) (row_is s a c.requires.going.known row c.index_mut-me.ensures.value) c.requires.some in
    some

pub uncopy_row-requires-clause-few : goal.uncopy_row-requires-clause-few
uncopy_row-requires-clause-few c =
    let s = c.args.self.now in
    let a = c.args.actor in
    let row = c.index_mut-me.result.now in
    let its = ap (λ (r : Actor). r.split) (row_is s a c.requires.going.known row c.index_mut-me.ensures.value) in
    let works : IsSplitting s.board.settings row = row_splits (state_of s) c.requires.kept a (actor_in (state_of s) a) (there s a c.requires.going.known) row its (some_split (actor_in (state_of s) a).split c.requires.some) in
    copied_few (state_of s) c.requires.kept a (actor_in (state_of s) a) (there s a c.requires.going.known) row its works

pub uncopy_row-requires-clause-low : goal.uncopy_row-requires-clause-low
uncopy_row-requires-clause-low c =
    let s = c.args.self.now in
    let a = c.args.actor in
    let row = c.index_mut-me.result.now in
    let n = c.in-Some.node in
    subst (λ (x : Configuration). n.low ≤ copy_key x row (copied_by row - 1)) (sym c.settings-2.ensures)
    (subst (λ (r : Actor). n.low ≤ last_copy (shown_to (state_of s) a r)) (row_is s a c.requires.going.known row c.index_mut-me.ensures.value)
    (subst (λ (m : Node). m.low ≤ last_copy (view_in (state_of s) a)) (node_here s c.args.page c.requires.linked c.index_mut.result.now c.index_mut.ensures.value c.in-Some.node c.in-Some.is) c.requires.low))

pub uncopy_row-requires-clause-there : goal.uncopy_row-requires-clause-there
uncopy_row-requires-clause-there c leaf inside =
    let s = c.args.self.now in
    let a = c.args.actor in
    let row = c.index_mut-me.result.now in
    let its = ap (λ (r : Actor). r.split) (row_is s a c.requires.going.known row c.index_mut-me.ensures.value) in
    let works : IsSplitting s.board.settings row = row_splits (state_of s) c.requires.kept a (actor_in (state_of s) a) (there s a c.requires.going.known) row its (some_split (actor_in (state_of s) a).split c.requires.some) in
    let some : 0 < copied_by row = subst (λ (r : Actor). 0 < copied_of r.split) (row_is s a c.requires.going.known row c.index_mut-me.ensures.value) c.requires.some in
    let few = copied_few (state_of s) c.requires.kept a (actor_in (state_of s) a) (there s a c.requires.going.known) row its works in
    let has = has_copy s.board.settings row works (copied_by row - 1) (omega (arith, some, few)) in
    let n = c.in-Some.node in
    subst (λ (x : Configuration). has_entry (copy_key x row (copied_by row - 1)) n.entries ≡ true) (sym c.settings-2.ensures)
    (copy_on_page (state_of s) c.requires.kept a (actor_in (state_of s) a) (there s a c.requires.going.known) row its c.args.page n (page_here s c.args.page c.requires.linked c.index_mut.result.now c.index_mut.ensures.value c.in-Some.node c.in-Some.is) has.0 has.1 some leaf
    (subst (λ (x : Configuration). IsInside n.low n.high (copy_key x row (copied_by row - 1))) c.settings-2.ensures inside))

pub uncopy_row-requires-clause-sibling : goal.uncopy_row-requires-clause-sibling
uncopy_row-requires-clause-sibling c =
    let s = c.args.self.now in
    has_sibling (state_of s) c.requires.kept c.args.page c.in-Some.node (page_here s c.args.page c.requires.linked c.index_mut.result.now c.index_mut.ensures.value c.in-Some.node c.in-Some.is)

pub returns : goal.returns
returns c =
    let s = c.args.self.now in
    on_page s c.args.actor c.requires.going.known c.index_mut-me.result.now c.index_mut-me.ensures.value c.args.page c.requires.linked c.index_mut.result.now c.index_mut.ensures.value c.in-Some.node c.in-Some.is
    (UncopiesRow s.board.settings c.args.page (view_in (state_of s) c.args.actor).told c.uncopy_row.result) c.uncopy_row.new.node c.uncopy_row.new.row
    (subst (λ (b : Bool). UncopiesRow s.board.settings c.args.page b c.uncopy_row.result c.in-Some.node c.index_mut-me.result.now c.uncopy_row.new.node c.uncopy_row.new.row) (ap (λ n. n == c.behind-self.inside.pages) c.allotted.ensures.result ∙ ap (λ (x : Configuration). s.board.allotted == x.pages) (c.behind-self.view_is ∙ c.settings.ensures))
    (subst (λ (x : Configuration). UncopiesRow x c.args.page (c.allotted.result == c.behind-self.inside.pages) c.uncopy_row.result c.in-Some.node c.index_mut-me.result.now c.uncopy_row.new.node c.uncopy_row.new.row) c.settings-2.ensures c.uncopy_row.ensures))
