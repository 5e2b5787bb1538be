use Rattle.std.proofs.Common.{◌∙◌, ap, refl, subst, sym}
use Rattle.atomic_table.specs.Seated.{TableId}
use Rattle.mi_hall.specs.Passes.{AreNear}
use Rattle.mi_hall.proofs.AbsorbedLemmas.{kept_gone}
use Rattle.mi_hall.proofs.PassLemmas.{given_at, turned_cells, word_stays}
use Rattle.mi_hall.proofs.PageSection.{named_before, named_here, noted_does, sibling_here, turned_near, turned_pass}
use Rattle.mi_hall.proofs.VisitCall.{visit_low, visit_offers, visit_takes, visit_told}
use Rattle.mi_hall.proofs.passes.Pass.visit.Goals as goal

pub take_page-node-requires-clause-table : goal.take_page-node-requires-clause-table
take_page-node-requires-clause-table g c = named_before c.self.inside.seat.me c.self.inside.seat.table_id c.args.latches.now.table.shared.table_id c.args.self.now _ c.args.latches.now.words c.self.invariant.1 c.self.view_is c.requires.table _ c.requires.named

pub take_page-node-requires-clause-named : goal.take_page-node-requires-clause-named
take_page-node-requires-clause-named g c = named_here c.self.inside.seat.me c.self.inside.seat.table_id c.args.self.now c.self.view_is _ c.requires.named

pub visit_page-answer-requires-clause-low : goal.visit_page-answer-requires-clause-low
visit_page-answer-requires-clause-low g c = let e = c.take_page-node.ensures in visit_low _ _ _ _ _ _ _ _ _ c.self.invariant.0 e.took e.told _ _ c.self.view_is c.args.range.now c.requires.named c.requires.low

pub visit_page-answer-requires-clause-sibling : goal.visit_page-answer-requires-clause-sibling
visit_page-answer-requires-clause-sibling g c = let e = c.take_page-node.ensures in sibling_here _ _ _ _ _ _ _ _ _ c.self.invariant.0 e.took e.told

pub visit_page-answer-requires-clause-takes : goal.visit_page-answer-requires-clause-takes
visit_page-answer-requires-clause-takes g c = let e = c.take_page-node.ensures in visit_takes _ _ _ _ _ _ _ _ _ c.self.invariant.0 e.took e.told _ _ c.self.view_is _ c.requires.takes _ _

pub give_page-requires-clause-table : goal.give_page-requires-clause-table
give_page-requires-clause-table g c =
    let x = named_before c.self.inside.seat.me c.self.inside.seat.table_id c.args.latches.now.table.shared.table_id c.args.self.now _ c.args.latches.now.words c.self.invariant.1 c.self.view_is c.requires.table _ c.requires.named in
    (c.take_page-node.ensures.table.0 ∙ x.0, x.1)

pub give_page-requires-clause-does : goal.give_page-requires-clause-does
give_page-requires-clause-does g c = let e = c.take_page-node.ensures in noted_does _ _ _ _ _ _ _ _ _ c.self.invariant.0 e.took e.told _ c.note.ensures _ refl e.last

pub invariant_of-self : goal.invariant_of-self
invariant_of-self g c =
    let e = c.take_page-node.ensures in
    let x = named_before c.self.inside.seat.me c.self.inside.seat.table_id c.args.latches.now.table.shared.table_id c.args.self.now _ c.args.latches.now.words c.self.invariant.1 c.self.view_is c.requires.table _ c.requires.named in (
      turned_pass _ _ _ _ _ _ _ _ _ c.self.invariant.0 e.took e.told c.give_page.new.seat.me c.note.new.self c.take_page-node.result c.give_page.ensures.gave (ap (λ z. z.shard) c.note.ensures),
      subst (λ (t : TableId). AreNear t.words c.give_page.new.seat.me.0.mine.named) (sym (c.give_page.ensures.table.0 ∙ e.table.0))
          (turned_near _ _ _ _ _ _ _ _ _ c.self.invariant.0 e.took e.told c.give_page.new.seat.me c.note.new.self c.take_page-node.result c.give_page.ensures.gave _ (ap (λ (t : TableId). t.words) x.0 ∙ c.args.latches.now.words) c.self.invariant.1),
      turned_cells _ _ c.give_page.new.seat.me _ _ c.note.new.self _ _ _ c.take_page-node.result c.take_page-node.result c.self.invariant.0 c.self.invariant.2 e.took c.give_page.ensures.gave (ap (λ z. z.pin) c.note.ensures),
      word_stays _ _ c.self.inside.row.hand.fresh c.note.new.self.hand.fresh (c.give_page.ensures.table.0 ∙ e.table.0) (ap (λ z. z.hand.fresh) c.note.ensures) c.self.invariant.3,
      given_at _ _ _ c.give_page.ensures.gave (given_at _ _ _ e.took c.self.invariant.4),
      kept_gone _ _ _ c.give_page.ensures.gave (kept_gone _ _ _ e.took c.self.invariant.5),
    )

pub returns-clause-told : goal.returns-clause-told
returns-clause-told g c = let e = c.take_page-node.ensures in visit_told _ _ _ _ _ _ _ _ _ c.self.invariant.0 e.took e.told _ _ c.self.view_is _ c.note.ensures _ c.give_page.ensures.gave _ _ c.visit_page-answer.ensures.told c.requires.named

pub returns-clause-offered : goal.returns-clause-offered
returns-clause-offered g c =
    let e = c.take_page-node.ensures in
    let same = visit_offers _ _ _ _ _ _ _ _ _ c.self.invariant.0 e.took e.told _ _ c.self.view_is _ c.note.ensures _ c.give_page.ensures.gave _ _ c.visit_page-answer.ensures.told c.requires.named c.requires.pin c.requires.inside _ c.in-Some.is in
    subst (λ os. g.S.Sieve.offered c.args.sieve.now os c.visit_page-answer.new.sieve) same c.visit_page-answer.ensures.offered
