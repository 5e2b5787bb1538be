use Rattle.std.proofs.Common.{◌≡◌, ◌≤◌, ◌∙◌, ap, false, subst, sym}
use Rattle.atomic_table.specs.Seated.{TableId}
use Rattle.mi_base.specs.Configuration.{Configuration}
use Rattle.mi_page.specs.Entries.{has_entry, without_dead}
use Rattle.mi_solo.specs.LeafRows.{CopiesRow, IsSplitting, copied_by, copy_key}
use Rattle.mi_hall.specs.Passes.{AreNear}
use Rattle.mi_hall.proofs.AbsorbedLemmas.{kept_gone}
use Rattle.mi_hall.proofs.CopyCalls.{copies_does, copies_told, copy_low, copy_more, copy_not_there, copy_works}
use Rattle.mi_solo.proofs.CopyRows.{copies_hand, copies_pin, copies_shard}
use Rattle.mi_hall.proofs.PassLemmas.{given_at, turned_cells, word_stays}
use Rattle.mi_hall.proofs.PageSection.{named_before, named_here, sibling_here, turned_near, turned_pass}
use Rattle.mi_hall.proofs.passes.Pass.copy_in.Goals as goal

pub take_page-node-requires-clause-table : goal.take_page-node-requires-clause-table
take_page-node-requires-clause-table g c =
    named_before c.self.inside.seat.me c.self.inside.seat.table_id c.args.latches.now.table.shared.table_id c.args.self.now _ c.args.latches.now.words c.self.invariant.1 c.self.view_is c.requires.table _ c.requires.named

pub take_page-node-requires-clause-named : goal.take_page-node-requires-clause-named
take_page-node-requires-clause-named g c = named_here c.self.inside.seat.me c.self.inside.seat.table_id c.args.self.now c.self.view_is _ c.requires.named

pub copy_row-answer-requires-clause-splitting : goal.copy_row-answer-requires-clause-splitting
copy_row-answer-requires-clause-splitting g c =
    let e = c.take_page-node.ensures in
    subst (λ (s : Configuration). IsSplitting s c.self.inside.row) (sym c.args.latches.now.same) (copy_works _ _ _ _ _ _ _ _ _ c.self.invariant.0 e.took e.told _ _ c.self.view_is c.requires.leaf.splitting c.requires.named)

pub copy_row-answer-requires-clause-more : goal.copy_row-answer-requires-clause-more
copy_row-answer-requires-clause-more g c =
    let e = c.take_page-node.ensures in
    copy_more _ _ _ _ _ _ _ _ _ c.self.invariant.0 e.took e.told _ _ c.self.view_is c.requires.leaf.splitting c.requires.named c.requires.leaf c.requires.more c.requires.low

pub copy_row-answer-requires-clause-low : goal.copy_row-answer-requires-clause-low
copy_row-answer-requires-clause-low g c =
    let e = c.take_page-node.ensures in
    subst (λ (s : Configuration). c.take_page-node.result.low ≤ copy_key s c.self.inside.row (copied_by c.self.inside.row)) (sym c.args.latches.now.same)
    (copy_low _ _ _ _ _ _ _ _ _ c.self.invariant.0 e.took e.told _ _ c.self.view_is c.requires.leaf.splitting c.requires.named c.requires.leaf c.requires.more c.requires.low)

pub copy_row-answer-requires-clause-absent : goal.copy_row-answer-requires-clause-absent
copy_row-answer-requires-clause-absent g c leaf =
    let e = c.take_page-node.ensures in
    subst (λ (s : Configuration). has_entry (copy_key s c.self.inside.row (copied_by c.self.inside.row)) (without_dead c.self.inside.row.floor.updates c.take_page-node.result.entries) ≡ false) (sym c.args.latches.now.same)
    (copy_not_there _ _ _ _ _ _ _ _ _ c.self.invariant.0 e.took e.told _ _ c.self.view_is c.requires.leaf.splitting c.requires.named c.requires.leaf c.requires.more c.requires.low leaf)

pub copy_row-answer-requires-clause-sibling : goal.copy_row-answer-requires-clause-sibling
copy_row-answer-requires-clause-sibling g c = let e = c.take_page-node.ensures in sibling_here _ _ _ _ _ _ _ _ _ c.self.invariant.0 e.took e.told

pub give_page-requires-clause-table : goal.give_page-requires-clause-table
give_page-requires-clause-table g c =
    let x = named_before c.self.inside.seat.me c.self.inside.seat.table_id c.args.latches.now.table.shared.table_id c.args.self.now _ c.args.latches.now.words c.self.invariant.1 c.self.view_is c.requires.table _ c.requires.named in
    (c.take_page-node.ensures.table.0 ∙ x.0, x.1)

pub give_page-requires-clause-last : goal.give_page-requires-clause-last
give_page-requires-clause-last g c = (_, c.take_page-node.ensures.last)

pub give_page-requires-clause-does : goal.give_page-requires-clause-does
give_page-requires-clause-does g c =
    let e = c.take_page-node.ensures in
    let x = subst (λ (s : Configuration). CopiesRow s c.args.page c.copy_row-answer.result c.take_page-node.result c.self.inside.row c.copy_row-answer.new.node c.copy_row-answer.new.row) c.args.latches.now.same c.copy_row-answer.ensures in
    copies_does _ _ _ _ _ _ _ _ _ c.self.invariant.0 e.took e.told _ _ c.self.view_is c.requires.leaf.splitting c.requires.named c.requires.leaf c.requires.more c.requires.low _ _ c.copy_row-answer.result x e.last

pub invariant_of-self : goal.invariant_of-self
invariant_of-self g c =
    let e = c.take_page-node.ensures in
    let x = named_before c.self.inside.seat.me c.self.inside.seat.table_id c.args.latches.now.table.shared.table_id c.args.self.now _ c.args.latches.now.words c.self.invariant.1 c.self.view_is c.requires.table _ c.requires.named in (
      turned_pass _ _ _ _ _ _ _ _ _ c.self.invariant.0 e.took e.told c.give_page.new.seat.me c.copy_row-answer.new.row c.copy_row-answer.new.node c.give_page.ensures.gave
          (copies_shard c.args.latches.now.settings _ c.take_page-node.result c.copy_row-answer.new.node c.self.inside.row c.copy_row-answer.new.row c.copy_row-answer.result c.copy_row-answer.ensures),
      subst (λ (t : TableId). AreNear t.words c.give_page.new.seat.me.0.mine.named) (sym (c.give_page.ensures.table.0 ∙ e.table.0))
          (turned_near _ _ _ _ _ _ _ _ _ c.self.invariant.0 e.took e.told c.give_page.new.seat.me c.copy_row-answer.new.row c.copy_row-answer.new.node c.give_page.ensures.gave _ (ap (λ (t : TableId). t.words) x.0 ∙ c.args.latches.now.words) c.self.invariant.1),
      turned_cells _ _ c.give_page.new.seat.me _ _ c.copy_row-answer.new.row _ _ _ c.take_page-node.result c.copy_row-answer.new.node c.self.invariant.0 c.self.invariant.2 e.took c.give_page.ensures.gave
          (copies_pin c.args.latches.now.settings _ c.take_page-node.result c.copy_row-answer.new.node c.self.inside.row c.copy_row-answer.new.row c.copy_row-answer.result c.copy_row-answer.ensures),
      word_stays _ _ c.self.inside.row.hand.fresh c.copy_row-answer.new.row.hand.fresh (c.give_page.ensures.table.0 ∙ e.table.0)
          (copies_hand c.args.latches.now.settings _ c.take_page-node.result c.copy_row-answer.new.node c.self.inside.row c.copy_row-answer.new.row c.copy_row-answer.result c.copy_row-answer.ensures) c.self.invariant.3,
      given_at _ _ _ c.give_page.ensures.gave (given_at _ _ _ e.took c.self.invariant.4),
      kept_gone _ _ _ c.give_page.ensures.gave (kept_gone _ _ _ e.took c.self.invariant.5),
    )

pub returns-clause-told : goal.returns-clause-told
returns-clause-told g c =
    let e = c.take_page-node.ensures in
    let x = subst (λ (s : Configuration). CopiesRow s c.args.page c.copy_row-answer.result c.take_page-node.result c.self.inside.row c.copy_row-answer.new.node c.copy_row-answer.new.row) c.args.latches.now.same c.copy_row-answer.ensures in
    copies_told _ _ _ _ _ _ _ _ _ c.self.invariant.0 e.took e.told _ _ c.self.view_is c.requires.leaf.splitting c.requires.named c.requires.leaf c.requires.more c.requires.low _ _ _ c.give_page.ensures.gave c.copy_row-answer.result x
