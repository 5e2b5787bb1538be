use Rattle.std.proofs.Common.{◌∙◌, ap, subst, sym}
use Rattle.atomic_table.specs.Seated.{TableId}
use Rattle.mi_base.specs.Configuration.{Configuration}
use Rattle.mi_solo.specs.LeafRows.{IsSweeping, SweepsRow}
use Rattle.mi_hall.specs.Passes.{AreNear}
use Rattle.mi_hall.proofs.AbsorbedLemmas.{kept_gone}
use Rattle.mi_hall.proofs.PassLemmas.{given_at, turned_cells, word_stays}
use Rattle.mi_hall.proofs.PageSection.{named_before, named_here, sibling_here, turned_near, turned_pass}
use Rattle.mi_hall.proofs.SweepCall.{sweep_low, sweep_works, sweeps_does, sweeps_told}
use Rattle.mi_solo.proofs.SweepSections.{sweeps_keep}
use Rattle.mi_hall.proofs.passes.Pass.sweep.Goals as goal

pub take_page-node-requires-clause-table : goal.take_page-node-requires-clause-table
take_page-node-requires-clause-table g c =
    named_before c.self.inside.seat.me c.self.inside.seat.table_id c.args.latches.now.table.shared.table_id c.args.self.now _ c.args.latches.now.words c.self.invariant.1 c.self.view_is c.requires.table _ c.requires.named

pub take_page-node-requires-clause-named : goal.take_page-node-requires-clause-named
take_page-node-requires-clause-named g c = named_here c.self.inside.seat.me c.self.inside.seat.table_id c.args.self.now c.self.view_is _ c.requires.named

pub sweep_row-answer-requires-clause-sweeping : goal.sweep_row-answer-requires-clause-sweeping
sweep_row-answer-requires-clause-sweeping g c =
    let e = c.take_page-node.ensures in
    subst (λ (s : Configuration). IsSweeping s c.self.inside.row) (sym c.args.latches.now.same) (sweep_works _ _ _ _ _ _ _ _ _ c.self.invariant.0 e.took e.told _ _ c.self.view_is c.requires.given c.requires.named c.requires.low)

pub sweep_row-answer-requires-clause-low : goal.sweep_row-answer-requires-clause-low
sweep_row-answer-requires-clause-low g c = let e = c.take_page-node.ensures in sweep_low _ _ _ _ _ _ _ _ _ c.self.invariant.0 e.took e.told _ _ c.self.view_is c.requires.given c.requires.named c.requires.low

pub sweep_row-answer-requires-clause-sibling : goal.sweep_row-answer-requires-clause-sibling
sweep_row-answer-requires-clause-sibling g c = let e = c.take_page-node.ensures in sibling_here _ _ _ _ _ _ _ _ _ c.self.invariant.0 e.took e.told

pub give_page-requires-clause-table : goal.give_page-requires-clause-table
give_page-requires-clause-table g c =
    let x = named_before c.self.inside.seat.me c.self.inside.seat.table_id c.args.latches.now.table.shared.table_id c.args.self.now _ c.args.latches.now.words c.self.invariant.1 c.self.view_is c.requires.table _ c.requires.named in
    (c.take_page-node.ensures.table.0 ∙ x.0, x.1)

pub give_page-requires-clause-last : goal.give_page-requires-clause-last
give_page-requires-clause-last g c = (_, c.take_page-node.ensures.last)

pub give_page-requires-clause-does : goal.give_page-requires-clause-does
give_page-requires-clause-does g c =
    let e = c.take_page-node.ensures in
    let x = subst (λ (s : Configuration). SweepsRow s c.args.page c.sweep_row-answer.result c.take_page-node.result c.self.inside.row c.sweep_row-answer.new.node c.sweep_row-answer.new.row) c.args.latches.now.same c.sweep_row-answer.ensures in
    sweeps_does _ _ _ _ _ _ _ _ _ c.self.invariant.0 e.took e.told _ _ c.self.view_is c.requires.given c.requires.named c.requires.low _ _ c.sweep_row-answer.result x e.last

pub invariant_of-self : goal.invariant_of-self
invariant_of-self g c =
    let e = c.take_page-node.ensures in
    let x = named_before c.self.inside.seat.me c.self.inside.seat.table_id c.args.latches.now.table.shared.table_id c.args.self.now _ c.args.latches.now.words c.self.invariant.1 c.self.view_is c.requires.table _ c.requires.named in (
      turned_pass _ _ _ _ _ _ _ _ _ c.self.invariant.0 e.took e.told c.give_page.new.seat.me c.sweep_row-answer.new.row c.sweep_row-answer.new.node c.give_page.ensures.gave
          (sweeps_keep c.args.latches.now.settings _ c.take_page-node.result c.sweep_row-answer.new.node c.self.inside.row c.sweep_row-answer.new.row c.sweep_row-answer.result c.sweep_row-answer.ensures).0.shard,
      subst (λ (t : TableId). AreNear t.words c.give_page.new.seat.me.0.mine.named) (sym (c.give_page.ensures.table.0 ∙ e.table.0))
          (turned_near _ _ _ _ _ _ _ _ _ c.self.invariant.0 e.took e.told c.give_page.new.seat.me c.sweep_row-answer.new.row c.sweep_row-answer.new.node c.give_page.ensures.gave _ (ap (λ (t : TableId). t.words) x.0 ∙ c.args.latches.now.words) c.self.invariant.1),
      turned_cells _ _ c.give_page.new.seat.me _ _ c.sweep_row-answer.new.row _ _ _ c.take_page-node.result c.sweep_row-answer.new.node c.self.invariant.0 c.self.invariant.2 e.took c.give_page.ensures.gave
          (sweeps_keep c.args.latches.now.settings _ c.take_page-node.result c.sweep_row-answer.new.node c.self.inside.row c.sweep_row-answer.new.row c.sweep_row-answer.result c.sweep_row-answer.ensures).0.pin,
      word_stays _ _ c.self.inside.row.hand.fresh c.sweep_row-answer.new.row.hand.fresh (c.give_page.ensures.table.0 ∙ e.table.0)
          (sweeps_keep c.args.latches.now.settings _ c.take_page-node.result c.sweep_row-answer.new.node c.self.inside.row c.sweep_row-answer.new.row c.sweep_row-answer.result c.sweep_row-answer.ensures).0.fresh c.self.invariant.3,
      given_at _ _ _ c.give_page.ensures.gave (given_at _ _ _ e.took c.self.invariant.4),
      kept_gone _ _ _ c.give_page.ensures.gave (kept_gone _ _ _ e.took c.self.invariant.5),
    )

pub returns-clause-told : goal.returns-clause-told
returns-clause-told g c =
    let e = c.take_page-node.ensures in
    let x = subst (λ (s : Configuration). SweepsRow s c.args.page c.sweep_row-answer.result c.take_page-node.result c.self.inside.row c.sweep_row-answer.new.node c.sweep_row-answer.new.row) c.args.latches.now.same c.sweep_row-answer.ensures in
    sweeps_told _ _ _ _ _ _ _ _ _ c.self.invariant.0 e.took e.told _ _ c.self.view_is c.requires.given c.requires.named c.requires.low _ _ _ c.give_page.ensures.gave c.sweep_row-answer.result x
