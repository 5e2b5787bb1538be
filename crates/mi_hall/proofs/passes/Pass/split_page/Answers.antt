use Rattle.std.proofs.Common.{◌∙◌, ◌++◌, IsTrue, ap, subst, sym}
use Rattle.atomic_table.specs.Seated.{TableId}
use Rattle.mi_latch.specs.Naming.{names_of}
use Rattle.mi_latch.specs.PageSteps.{halves_named}
use Rattle.mi_latch.specs.Views.{IsOne, Seated}
use Rattle.mi_world.specs.declared.answers.Parted.TheVariants.{Parted, Roomy}
use Rattle.mi_world.specs.Pages.{PartsPage}
use Rattle.mi_solo.specs.PageRows.{HalvesRow}
use Rattle.mi_hall.specs.Passes.{AreNear, HasWord, PassState}
use Rattle.mi_hall.specs.Seats.{seat_view}
use Rattle.mi_hall.proofs.AbsorbedLemmas.{kept_gone}
use Rattle.mi_hall.proofs.PageSection.{named_before, named_here}
use Rattle.mi_hall.proofs.PassLemmas.{given_at, told_of, word_stays}
use Rattle.mi_hall.proofs.SplitCall.{halve_level, halves_cells, halves_pass, lower_does, lower_returns, parted_ends, parted_near, parted_told, roomy_does, roomy_ends, roomy_near, roomy_told, taken, upper_last}
use Rattle.mi_hall.proofs.passes.Pass.split_page.Goals as goal

pub take_page-node-requires-clause-table : goal.take_page-node-requires-clause-table
take_page-node-requires-clause-table g c =
    let x = named_before c.self.inside.seat.me c.self.inside.seat.table_id c.args.latches.now.table.shared.table_id c.args.self.now _ c.args.latches.now.words c.self.invariant.1 c.self.view_is c.requires.table _ c.requires.named in
    (c.take_fresh-vacant.ensures.table.0 ∙ x.0, x.1)

pub take_page-node-requires-clause-named : goal.take_page-node-requires-clause-named
take_page-node-requires-clause-named g c =
    let y = named_here c.self.inside.seat.me c.self.inside.seat.table_id c.args.self.now c.self.view_is _ c.requires.named in
    (y.0, y.1, subst (λ (z : Seated). IsOne y.0 z.0.mine.named) (sym c.take_fresh-vacant.ensures.took) y.2)

pub halve_row-requires-clause-level : goal.halve_row-requires-clause-level
halve_row-requires-clause-level g c =
    let fr = sym c.fresh_number.ensures ∙ c.in-Some.is in
    let e = c.take_fresh-vacant.ensures in
    let d = c.take_page-node.ensures in
    let t = taken _ c.self.inside.seat.me c.take_fresh-vacant.new.seat.me c.take_page-node.new.seat.me c.args.page c.in-Some.child _ c.self.inside.row _ _ c.take_page-node.result c.take_fresh-vacant.result c.self.invariant.0 fr e.took e.told e.last d.took d.told in
    halve_level _ c.self.inside.seat.me c.args.page c.in-Some.child c.take_page-node.result _ c.self.inside.row _ _ c.self.invariant.0 fr t.found t.apart

pub give_page-requires-clause-table : goal.give_page-requires-clause-table
give_page-requires-clause-table g c =
    let x = named_before c.self.inside.seat.me c.self.inside.seat.table_id c.args.latches.now.table.shared.table_id c.args.self.now _ c.args.latches.now.words c.self.invariant.1 c.self.view_is c.requires.table _ c.requires.named in
    (c.take_page-node.ensures.table.0 ∙ c.take_fresh-vacant.ensures.table.0 ∙ x.0, x.1)

pub give_page-requires-clause-does : goal.give_page-requires-clause-does
give_page-requires-clause-does g c =
    let fr = sym c.fresh_number.ensures ∙ c.in-Some.is in
    let e = c.take_fresh-vacant.ensures in
    let d = c.take_page-node.ensures in
    let t = taken _ c.self.inside.seat.me c.take_fresh-vacant.new.seat.me c.take_page-node.new.seat.me c.args.page c.in-Some.child _ c.self.inside.row _ _ c.take_page-node.result c.take_fresh-vacant.result c.self.invariant.0 fr e.took e.told e.last d.took d.told in
    let hd = subst (λ o. HalvesRow c.args.page o c.take_page-node.result c.self.inside.row c.halve_row.new.node c.halve_row.new.row) c.in_default-halve_row.is c.halve_row.ensures in
    roomy_does _ c.self.inside.seat.me c.args.page c.in-Some.child c.take_page-node.result _ c.self.inside.row _ _ c.self.invariant.0 fr t.found t.apart c.halve_row.new.row c.halve_row.new.node hd c.take_page-node.new.seat.me t.is d.last

pub invariant_of-self : goal.invariant_of-self
invariant_of-self g c =
    let fr = sym c.fresh_number.ensures ∙ c.in-Some.is in
    let e = c.take_fresh-vacant.ensures in
    let d = c.take_page-node.ensures in
    let t = taken _ c.self.inside.seat.me c.take_fresh-vacant.new.seat.me c.take_page-node.new.seat.me c.args.page c.in-Some.child _ c.self.inside.row _ _ c.take_page-node.result c.take_fresh-vacant.result c.self.invariant.0 fr e.took e.told e.last d.took d.told in
    let hd = subst (λ o. HalvesRow c.args.page o c.take_page-node.result c.self.inside.row c.halve_row.new.node c.halve_row.new.row) c.in_default-halve_row.is c.halve_row.ensures in
    let x = named_before c.self.inside.seat.me c.self.inside.seat.table_id c.args.latches.now.table.shared.table_id c.args.self.now _ c.args.latches.now.words c.self.invariant.1 c.self.view_is c.requires.table _ c.requires.named in
    let ends = roomy_ends _ c.self.inside.seat.me c.args.page c.in-Some.child c.take_page-node.result _ c.self.inside.row _ _ c.self.invariant.0 fr t.found t.apart c.halve_row.new.row c.halve_row.new.node hd c.take_page-node.new.seat.me c.give_page.new.seat.me c.give_vacant.new.seat.me t.is c.give_page.ensures.gave c.give_vacant.ensures.gave in (
      halves_pass _ c.self.inside.seat.me c.args.page c.in-Some.child c.take_page-node.result _ c.self.inside.row _ _ c.self.invariant.0 fr t.found t.apart c.give_vacant.new.seat.me c.halve_row.new.row c.halve_row.new.node _ ends (ap (λ z. z.shard) hd.2),
      subst (λ (k : TableId). AreNear k.words c.give_vacant.new.seat.me.0.mine.named) (sym (c.give_vacant.ensures.table.0 ∙ c.give_page.ensures.table.0 ∙ d.table.0 ∙ e.table.0)) (roomy_near _ c.self.inside.seat.me c.args.page c.in-Some.child c.take_page-node.result _ c.self.inside.row _ _ c.self.invariant.0 fr t.found t.apart c.halve_row.new.row c.halve_row.new.node hd c.give_vacant.new.seat.me ends _ (ap (λ (k : TableId). k.words) x.0 ∙ c.args.latches.now.words) c.self.invariant.1),
      halves_cells _ c.self.inside.seat.me c.args.page c.in-Some.child c.take_page-node.result _ c.self.inside.row _ _ c.self.invariant.0 fr t.found t.apart c.give_vacant.new.seat.me c.halve_row.new.row c.halve_row.new.node _ ends (ap (λ z. z.pin) hd.2) c.self.invariant.2,
      word_stays _ _ _ _ (c.give_vacant.ensures.table.0 ∙ c.give_page.ensures.table.0 ∙ d.table.0 ∙ e.table.0) (ap (λ z. z.hand.fresh) hd.2) c.self.invariant.3,
      given_at _ _ _ ends c.self.invariant.4,
      kept_gone _ _ _ ends c.self.invariant.5,
    )

pub returns-in_default-halve_row-clause-told : goal.returns-in_default-halve_row-clause-told
returns-in_default-halve_row-clause-told g c =
    let fr = sym c.fresh_number.ensures ∙ c.in-Some.is in
    let e = c.take_fresh-vacant.ensures in
    let d = c.take_page-node.ensures in
    let t = taken _ c.self.inside.seat.me c.take_fresh-vacant.new.seat.me c.take_page-node.new.seat.me c.args.page c.in-Some.child _ c.self.inside.row _ _ c.take_page-node.result c.take_fresh-vacant.result c.self.invariant.0 fr e.took e.told e.last d.took d.told in
    let hd = subst (λ o. HalvesRow c.args.page o c.take_page-node.result c.self.inside.row c.halve_row.new.node c.halve_row.new.row) c.in_default-halve_row.is c.halve_row.ensures in
    let ends = roomy_ends _ c.self.inside.seat.me c.args.page c.in-Some.child c.take_page-node.result _ c.self.inside.row _ _ c.self.invariant.0 fr t.found t.apart c.halve_row.new.row c.halve_row.new.node hd c.take_page-node.new.seat.me c.give_page.new.seat.me c.give_vacant.new.seat.me t.is c.give_page.ensures.gave c.give_vacant.ensures.gave in
    let known = subst (λ (z : PassState). IsTrue ((seat_view z.sight).named c.args.page)) (sym c.self.view_is) c.requires.named in
    told_of (λ v w. PartsPage v w c.args.page Roomy) c.self.inside.seat.me.0 c.give_vacant.new.seat.me.0 _ _ c.self.view_is (roomy_told _ c.self.inside.seat.me c.args.page c.in-Some.child c.take_page-node.result _ c.self.inside.row _ _ c.self.invariant.0 fr t.found t.apart c.halve_row.new.row c.halve_row.new.node hd c.give_vacant.new.seat.me ends known)

pub give_lower-requires-clause-table : goal.give_lower-requires-clause-table
give_lower-requires-clause-table g c =
    let x = named_before c.self.inside.seat.me c.self.inside.seat.table_id c.args.latches.now.table.shared.table_id c.args.self.now _ c.args.latches.now.words c.self.invariant.1 c.self.view_is c.requires.table _ c.requires.named in
    (c.take_page-node.ensures.table.0 ∙ c.take_fresh-vacant.ensures.table.0 ∙ x.0, x.1)

pub give_lower-requires-clause-returns : goal.give_lower-requires-clause-returns
give_lower-requires-clause-returns g c =
    let fr = sym c.fresh_number.ensures ∙ c.in-Some.is in
    let e = c.take_fresh-vacant.ensures in
    let d = c.take_page-node.ensures in
    let t = taken _ c.self.inside.seat.me c.take_fresh-vacant.new.seat.me c.take_page-node.new.seat.me c.args.page c.in-Some.child _ c.self.inside.row _ _ c.take_page-node.result c.take_fresh-vacant.result c.self.invariant.0 fr e.took e.told e.last d.took d.told in
    let hd = subst (λ o. HalvesRow c.args.page o c.take_page-node.result c.self.inside.row c.halve_row.new.node c.halve_row.new.row) c.in-Some-halve_row.is c.halve_row.ensures in
    lower_returns _ c.self.inside.seat.me c.args.page c.in-Some.child c.take_page-node.result _ c.self.inside.row _ _ c.self.invariant.0 fr t.found t.apart c.halve_row.new.row c.in-Some-halve_row.upper c.halve_row.new.node hd c.take_page-node.new.seat.me t.is d.last

pub give_lower-requires-clause-does : goal.give_lower-requires-clause-does
give_lower-requires-clause-does g c =
    let fr = sym c.fresh_number.ensures ∙ c.in-Some.is in
    let e = c.take_fresh-vacant.ensures in
    let d = c.take_page-node.ensures in
    let t = taken _ c.self.inside.seat.me c.take_fresh-vacant.new.seat.me c.take_page-node.new.seat.me c.args.page c.in-Some.child _ c.self.inside.row _ _ c.take_page-node.result c.take_fresh-vacant.result c.self.invariant.0 fr e.took e.told e.last d.took d.told in
    let hd = subst (λ o. HalvesRow c.args.page o c.take_page-node.result c.self.inside.row c.halve_row.new.node c.halve_row.new.row) c.in-Some-halve_row.is c.halve_row.ensures in
    lower_does _ c.self.inside.seat.me c.args.page c.in-Some.child c.take_page-node.result _ c.self.inside.row _ _ c.self.invariant.0 fr t.found t.apart c.halve_row.new.row c.in-Some-halve_row.upper c.halve_row.new.node hd c.take_page-node.new.seat.me t.is d.last

pub give_page_back-requires-clause-last : goal.give_page_back-requires-clause-last
give_page_back-requires-clause-last g c =
    let fr = sym c.fresh_number.ensures ∙ c.in-Some.is in
    let e = c.take_fresh-vacant.ensures in
    let d = c.take_page-node.ensures in
    let t = taken _ c.self.inside.seat.me c.take_fresh-vacant.new.seat.me c.take_page-node.new.seat.me c.args.page c.in-Some.child _ c.self.inside.row _ _ c.take_page-node.result c.take_fresh-vacant.result c.self.invariant.0 fr e.took e.told e.last d.took d.told in
    let hd = subst (λ o. HalvesRow c.args.page o c.take_page-node.result c.self.inside.row c.halve_row.new.node c.halve_row.new.row) c.in-Some-halve_row.is c.halve_row.ensures in
    upper_last _ c.self.inside.seat.me c.args.page c.in-Some.child c.take_page-node.result _ c.self.inside.row _ _ c.self.invariant.0 fr t.found t.apart c.halve_row.new.row c.in-Some-halve_row.upper c.halve_row.new.node hd c.take_page-node.new.seat.me t.is d.last c.give_lower.new.seat.me c.give_lower.ensures.gave

pub invariant_of-self-2 : goal.invariant_of-self-2
invariant_of-self-2 g c =
    let fr = sym c.fresh_number.ensures ∙ c.in-Some.is in
    let e = c.take_fresh-vacant.ensures in
    let d = c.take_page-node.ensures in
    let t = taken _ c.self.inside.seat.me c.take_fresh-vacant.new.seat.me c.take_page-node.new.seat.me c.args.page c.in-Some.child _ c.self.inside.row _ _ c.take_page-node.result c.take_fresh-vacant.result c.self.invariant.0 fr e.took e.told e.last d.took d.told in
    let hd = subst (λ o. HalvesRow c.args.page o c.take_page-node.result c.self.inside.row c.halve_row.new.node c.halve_row.new.row) c.in-Some-halve_row.is c.halve_row.ensures in
    let x = named_before c.self.inside.seat.me c.self.inside.seat.table_id c.args.latches.now.table.shared.table_id c.args.self.now _ c.args.latches.now.words c.self.invariant.1 c.self.view_is c.requires.table _ c.requires.named in
    let ends = parted_ends _ c.self.inside.seat.me c.args.page c.in-Some.child c.take_page-node.result _ c.self.inside.row _ _ c.self.invariant.0 fr t.found t.apart c.halve_row.new.row c.in-Some-halve_row.upper c.halve_row.new.node hd c.take_page-node.new.seat.me t.is d.last c.give_lower.new.seat.me c.give_page_back.new.seat.me c.give_lower.ensures.gave c.give_page_back.ensures.gave in (
      halves_pass _ c.self.inside.seat.me c.args.page c.in-Some.child c.take_page-node.result _ c.self.inside.row _ _ c.self.invariant.0 fr t.found t.apart c.give_page_back.new.seat.me c.halve_row.new.row c.halve_row.new.node (halves_named c.in-Some.child c.take_page-node.result ++ names_of c.take_page-node.result) ends (ap (λ z. z.shard) hd.1.row_is),
      subst (λ (k : TableId). AreNear k.words c.give_page_back.new.seat.me.0.mine.named) (sym (c.give_page_back.ensures.table.0 ∙ c.give_lower.ensures.table.0 ∙ d.table.0 ∙ e.table.0)) (parted_near _ c.self.inside.seat.me c.args.page c.in-Some.child c.take_page-node.result _ c.self.inside.row _ _ c.self.invariant.0 fr t.found t.apart c.halve_row.new.row c.in-Some-halve_row.upper c.halve_row.new.node hd c.take_page-node.new.seat.me t.is d.last c.give_page_back.new.seat.me ends _ (ap (λ (k : TableId). k.words) x.0 ∙ c.args.latches.now.words) c.self.invariant.3 c.self.invariant.1),
      halves_cells _ c.self.inside.seat.me c.args.page c.in-Some.child c.take_page-node.result _ c.self.inside.row _ _ c.self.invariant.0 fr t.found t.apart c.give_page_back.new.seat.me c.halve_row.new.row c.halve_row.new.node (halves_named c.in-Some.child c.take_page-node.result ++ names_of c.take_page-node.result) ends (ap (λ z. z.pin) hd.1.row_is) c.self.invariant.2,
      subst (HasWord c.give_page_back.new.seat.table_id.words) (sym (ap (λ z. z.hand.fresh) hd.1.row_is)) tt,
      given_at _ _ _ ends c.self.invariant.4,
      kept_gone _ _ _ ends c.self.invariant.5,
    )

pub returns-clause-told : goal.returns-clause-told
returns-clause-told g c =
    let fr = sym c.fresh_number.ensures ∙ c.in-Some.is in
    let e = c.take_fresh-vacant.ensures in
    let d = c.take_page-node.ensures in
    let t = taken _ c.self.inside.seat.me c.take_fresh-vacant.new.seat.me c.take_page-node.new.seat.me c.args.page c.in-Some.child _ c.self.inside.row _ _ c.take_page-node.result c.take_fresh-vacant.result c.self.invariant.0 fr e.took e.told e.last d.took d.told in
    let hd = subst (λ o. HalvesRow c.args.page o c.take_page-node.result c.self.inside.row c.halve_row.new.node c.halve_row.new.row) c.in-Some-halve_row.is c.halve_row.ensures in
    let ends = parted_ends _ c.self.inside.seat.me c.args.page c.in-Some.child c.take_page-node.result _ c.self.inside.row _ _ c.self.invariant.0 fr t.found t.apart c.halve_row.new.row c.in-Some-halve_row.upper c.halve_row.new.node hd c.take_page-node.new.seat.me t.is d.last c.give_lower.new.seat.me c.give_page_back.new.seat.me c.give_lower.ensures.gave c.give_page_back.ensures.gave in
    let known = subst (λ (z : PassState). IsTrue ((seat_view z.sight).named c.args.page)) (sym c.self.view_is) c.requires.named in
    told_of (λ v w. PartsPage v w c.args.page (Parted c.low-key.result c.in-Some.child)) c.self.inside.seat.me.0 c.give_page_back.new.seat.me.0 _ _ c.self.view_is
    (parted_told _ c.self.inside.seat.me c.args.page c.in-Some.child c.take_page-node.result _ c.self.inside.row _ _ c.self.invariant.0 fr t.found t.apart c.halve_row.new.row c.in-Some-halve_row.upper c.halve_row.new.node hd c.take_page-node.new.seat.me t.is d.last c.give_page_back.new.seat.me ends known c.low-key.result c.low-key.ensures)
