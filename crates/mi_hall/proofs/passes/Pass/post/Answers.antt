use Rattle.std.proofs.Common.{◌∙◌, ap, subst, sym}
use Rattle.atomic_table.specs.Seated.{TableId}
use Rattle.mi_solo.proofs.PageTurns.{posts_keep}
use Rattle.mi_hall.specs.Passes.{AreNear}
use Rattle.mi_hall.proofs.AbsorbedLemmas.{kept_gone}
use Rattle.mi_hall.proofs.PassLemmas.{given_at, turned_cells, word_stays}
use Rattle.mi_hall.proofs.PageSection.{named_before, named_here, sibling_here, turned_near, turned_pass}
use Rattle.mi_hall.proofs.PostCall.{post_above, post_inner, post_low, posts_does, posts_told}
use Rattle.mi_hall.proofs.passes.Pass.post.Goals as goal

pub take_page-node-requires-clause-table : goal.take_page-node-requires-clause-table
take_page-node-requires-clause-table g c =
    named_before c.self.inside.seat.me c.self.inside.seat.table_id c.args.latches.now.table.shared.table_id c.args.self.now _ c.args.latches.now.words c.self.invariant.1 c.self.view_is c.requires.table _ c.requires.seeks.named

pub take_page-node-requires-clause-named : goal.take_page-node-requires-clause-named
take_page-node-requires-clause-named g c = named_here c.self.inside.seat.me c.self.inside.seat.table_id c.args.self.now c.self.view_is _ c.requires.seeks.named

pub post_row-answer-requires-clause-inner : goal.post_row-answer-requires-clause-inner
post_row-answer-requires-clause-inner g c = let e = c.take_page-node.ensures in post_inner _ _ _ _ _ _ _ _ _ c.self.invariant.0 e.took e.told _ _ c.self.view_is _ _ _ c.requires.route c.requires.seeks

pub post_row-answer-requires-clause-above : goal.post_row-answer-requires-clause-above
post_row-answer-requires-clause-above g c = let e = c.take_page-node.ensures in post_above _ _ _ _ _ _ _ _ _ c.self.invariant.0 e.took e.told _ _ c.self.view_is _ _ _ c.requires.route c.requires.seeks

pub post_row-answer-requires-clause-low : goal.post_row-answer-requires-clause-low
post_row-answer-requires-clause-low g c = let e = c.take_page-node.ensures in post_low _ _ _ _ _ _ _ _ _ c.self.invariant.0 e.took e.told _ _ c.self.view_is _ _ _ c.requires.route c.requires.seeks

pub post_row-answer-requires-clause-sibling : goal.post_row-answer-requires-clause-sibling
post_row-answer-requires-clause-sibling g c = let e = c.take_page-node.ensures in sibling_here _ _ _ _ _ _ _ _ _ c.self.invariant.0 e.took e.told

pub give_page-requires-clause-table : goal.give_page-requires-clause-table
give_page-requires-clause-table g c =
    let x = named_before c.self.inside.seat.me c.self.inside.seat.table_id c.args.latches.now.table.shared.table_id c.args.self.now _ c.args.latches.now.words c.self.invariant.1 c.self.view_is c.requires.table _ c.requires.seeks.named in
    (c.take_page-node.ensures.table.0 ∙ x.0, x.1)

pub give_page-requires-clause-last : goal.give_page-requires-clause-last
give_page-requires-clause-last g c = (_, c.take_page-node.ensures.last)

pub give_page-requires-clause-does : goal.give_page-requires-clause-does
give_page-requires-clause-does g c = let e = c.take_page-node.ensures in posts_does _ _ _ _ _ _ _ _ _ c.self.invariant.0 e.took e.told _ _ c.self.view_is _ _ _ c.requires.route c.requires.seeks _ _ c.post_row-answer.result c.post_row-answer.ensures e.last

pub invariant_of-self : goal.invariant_of-self
invariant_of-self g c =
    let e = c.take_page-node.ensures in
    let keeps = (posts_keep c.args.page c.args.level c.args.key c.args.child c.take_page-node.result c.post_row-answer.new.node c.self.inside.row c.post_row-answer.new.row c.post_row-answer.result c.post_row-answer.ensures).0 in
    let x = named_before c.self.inside.seat.me c.self.inside.seat.table_id c.args.latches.now.table.shared.table_id c.args.self.now _ c.args.latches.now.words c.self.invariant.1 c.self.view_is c.requires.table _ c.requires.seeks.named in (
      turned_pass _ _ _ _ _ _ _ _ _ c.self.invariant.0 e.took e.told c.give_page.new.seat.me c.post_row-answer.new.row c.post_row-answer.new.node c.give_page.ensures.gave keeps.shard,
      subst (λ (t : TableId). AreNear t.words c.give_page.new.seat.me.0.mine.named) (sym (c.give_page.ensures.table.0 ∙ e.table.0))
          (turned_near _ _ _ _ _ _ _ _ _ c.self.invariant.0 e.took e.told c.give_page.new.seat.me c.post_row-answer.new.row c.post_row-answer.new.node c.give_page.ensures.gave _ (ap (λ (t : TableId). t.words) x.0 ∙ c.args.latches.now.words) c.self.invariant.1),
      turned_cells _ _ c.give_page.new.seat.me _ _ c.post_row-answer.new.row _ _ _ c.take_page-node.result c.post_row-answer.new.node c.self.invariant.0 c.self.invariant.2 e.took c.give_page.ensures.gave keeps.pin,
      word_stays _ _ c.self.inside.row.hand.fresh c.post_row-answer.new.row.hand.fresh (c.give_page.ensures.table.0 ∙ e.table.0) keeps.fresh c.self.invariant.3,
      given_at _ _ _ c.give_page.ensures.gave (given_at _ _ _ e.took c.self.invariant.4),
      kept_gone _ _ _ c.give_page.ensures.gave (kept_gone _ _ _ e.took c.self.invariant.5),
    )

pub returns-clause-told : goal.returns-clause-told
returns-clause-told g c = let e = c.take_page-node.ensures in posts_told _ _ _ _ _ _ _ _ _ c.self.invariant.0 e.took e.told _ _ c.self.view_is _ _ _ c.requires.route c.requires.seeks _ _ _ c.give_page.ensures.gave c.post_row-answer.result c.post_row-answer.ensures
