use Rattle.std.proofs.Common.{◌≤◌, ◌∙◌, IsTrue, length, ap, refl, subst, sym}
use Rattle.std.proofs.lemmas.Option.{none-some, same_Some}
use Rattle.mi_base.specs.Prefixes.{all_below}
use Rattle.mi_core.specs.Effects.{sweep_node}
use Rattle.mi_core.specs.Events.{sweep_leaf}
use Rattle.mi_entries.specs.Entries.{grid}
use Rattle.mi_entries.specs.Marks.{cell_range, mark_past}
use Rattle.mi_key.specs.declared.ranges.Interval.{Interval}
use Rattle.mi_solo.specs.declared.rows.SweepRow.{SweepRow}
use Rattle.mi_solo.specs.Seeking.{EndsAfter, PointsDown, PointsRight, ReadsOn}
use Rattle.mi_solo.specs.States.{sweep_of}
use Rattle.mi_solo.specs.Viewing.{swept_to}
use Rattle.mi_solo.proofs.SweepSections.{row_swept, swept_alone}
use Rattle.mi_solo.proofs.leaf_rows.sweep_row.Goals as goal

pub unreachable-requires : goal.unreachable-requires
unreachable-requires c = let h = c.requires.sweeping in none-some h.work (sym c.in_default.is ∙ h.is)

pub cell_keys-keys-requires-clause-depth : goal.cell_keys-keys-requires-clause-depth
cell_keys-keys-requires-clause-depth c = let h = c.requires.sweeping in subst (λ (w : SweepRow). length w.leaf ≤ c.args.settings.now.levels) (same_Some h.work c.in-Some.work (sym h.is ∙ c.in-Some.is)) h.depth

pub cell_keys-keys-requires-clause-pivots : goal.cell_keys-keys-requires-clause-pivots
cell_keys-keys-requires-clause-pivots c = let h = c.requires.sweeping in subst (λ (w : SweepRow). IsTrue (all_below (length c.args.settings.now.pivots) w.leaf)) (same_Some h.work c.in-Some.work (sym h.is ∙ c.in-Some.is)) h.pivots

pub seek-requires-clause-low : goal.seek-requires-clause-low
seek-requires-clause-low c above = subst (λ o. c.args.node.now.low ≤ swept_to (sweep_of o)) c.in-Some.is c.requires.low

pub returns-in-Down : goal.returns-in-Down
returns-in-Down c = (subst (λ o. PointsDown c.args.node.now 0 (swept_to (sweep_of o)) c.in-Down.child) (sym c.in-Some.is) c.in-Down.ensures, record { same = refl; row_is = c.note.ensures })

pub returns-in-Right : goal.returns-in-Right
returns-in-Right c = (subst (λ o. PointsRight c.args.node.now 0 (swept_to (sweep_of o)) c.in-Right.next) (sym c.in-Some.is) c.in-Right.ensures, record { same = refl; row_is = c.note-in-Right.ensures })

pub returns-in-Here : goal.returns-in-Here
returns-in-Here c =
    let n = c.args.node.now in
    let s = c.args.settings.now in
    let w = c.in-Some.work in (
      subst (λ o. ReadsOn n (cell_range (grid s) (sweep_leaf (sweep_of o))).to c.next_page-next.result) (sym c.in-Some.is) (subst (λ (k : Interval). ReadsOn n k.to c.next_page-next.result) c.cell_keys-keys.ensures c.next_page-next.ensures),
      record {
        ends = subst (λ o. EndsAfter n 0 (swept_to (sweep_of o))) (sym c.in-Some.is) c.in-Here.ensures;
        swept = c.sweep.ensures ∙ ap (λ k. sweep_node k n) c.cell_keys-keys.ensures ∙ ap (λ o. sweep_node (cell_range (grid s) (sweep_leaf (sweep_of o))) n) (sym c.in-Some.is);
        row_is = swept_alone s c.args.page n c.args.row.now c.sweep_up_to.new.self w c.in-Some.is c.mark_past.result c.end_key-end.result c.sweep_up_to.ensures;
        goes_on = row_swept s c.args.page n c.args.row.now c.sweep_up_to.new.self w c.in-Some.is c.mark_past.result c.end_key-end.result c.sweep_up_to.ensures c.end_key-end.ensures (c.mark_past.ensures ∙ ap (λ h. mark_past h c.end_key-end.result) c.high.ensures);
      },
    )
