use Rattle.std.proofs.Common.{arith}
use Rattle.mi_solo.specs.PageRows.{PostsRow}
use Rattle.mi_solo.specs.States.{actor_in, state_of}
use Rattle.mi_solo.proofs.DescentLemmas.{has_sibling, shows_page}
use Rattle.mi_solo.proofs.PageLemmas.{page_here}
use Rattle.mi_solo.proofs.PageTurns.{on_page}
use Rattle.mi_solo.proofs.cores.Core.post.Goals as goal

pub post_row-requires-clause-inner : goal.post_row-requires-clause-inner
post_row-requires-clause-inner c = omega (arith, c.requires.route.level_is)

pub post_row-requires-clause-above : goal.post_row-requires-clause-above
post_row-requires-clause-above c =
    let s = c.args.self.now in
    let shows = shows_page (state_of s) c.args.actor (actor_in (state_of s) c.args.actor) c.args.page c.in-Some.node (page_here s c.args.page c.requires.seeks.named c.index_mut.result.now c.index_mut.ensures.value c.in-Some.node c.in-Some.is) in
    omega (arith, shows.level, c.requires.seeks.level_is)

pub post_row-requires-clause-low : goal.post_row-requires-clause-low
post_row-requires-clause-low c =
    let s = c.args.self.now in
    let shows = shows_page (state_of s) c.args.actor (actor_in (state_of s) c.args.actor) c.args.page c.in-Some.node (page_here s c.args.page c.requires.seeks.named c.index_mut.result.now c.index_mut.ensures.value c.in-Some.node c.in-Some.is) in
    omega (arith, shows.low, c.requires.seeks.low_is)

pub post_row-requires-clause-sibling : goal.post_row-requires-clause-sibling
post_row-requires-clause-sibling c =
    let s = c.args.self.now in
    has_sibling (state_of s) c.requires.kept c.args.page c.in-Some.node (page_here s c.args.page c.requires.seeks.named c.index_mut.result.now c.index_mut.ensures.value c.in-Some.node c.in-Some.is)

pub returns : goal.returns
returns c = on_page c.args.self.now c.args.actor c.requires.going.known c.index_mut-me.result.now c.index_mut-me.ensures.value c.args.page c.requires.seeks.named c.index_mut.result.now c.index_mut.ensures.value c.in-Some.node c.in-Some.is
    (PostsRow c.args.page c.args.level c.args.key c.args.child c.post_row.result) c.post_row.new.node c.post_row.new.row c.post_row.ensures
