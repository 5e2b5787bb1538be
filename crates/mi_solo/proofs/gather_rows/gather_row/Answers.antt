use Rattle.std.proofs.Common.{◌≤◌, ◌∙◌, ap, subst, sym}
use Rattle.std.proofs.lemmas.Option.{none-some}
use Rattle.mi_solo.specs.Seeking.{EndsAfter, PointsDown, PointsRight}
use Rattle.mi_solo.specs.States.{split_of}
use Rattle.mi_solo.proofs.GatherRows.{begun_has, begun_mark, gathers_more, reads_more, still_begun}
use Rattle.mi_solo.proofs.gather_rows.gather_row.Goals as goal

pub unreachable-requires : goal.unreachable-requires
unreachable-requires c = none-some _ (sym (ap split_of c.in_default.is) ∙ c.start_row.ensures.begun)

pub seek-requires-clause-low : goal.seek-requires-clause-low
seek-requires-clause-low c above = subst (λ k. c.args.node.now.low ≤ k) (sym (begun_mark _ _ _ _ c.requires.claiming c.start_row.ensures c.in-Some.work c.in-Some.is)) c.requires.low

pub gather_here-requires-clause-work : goal.gather_here-requires-clause-work
gather_here-requires-clause-work c = begun_has _ _ _ _ c.requires.claiming c.start_row.ensures c.in-Some.work c.in-Some.is

pub gather_here-requires-clause-leaf : goal.gather_here-requires-clause-leaf
gather_here-requires-clause-leaf c = c.in-Here.ensures.level

pub returns-in-Down : goal.returns-in-Down
returns-in-Down c = (subst (λ k. PointsDown c.args.node.now 0 k c.in-Down.child) (begun_mark _ _ _ _ c.requires.claiming c.start_row.ensures c.in-Some.work c.in-Some.is) c.in-Down.ensures, c.start_row.ensures)

pub returns-in-Right : goal.returns-in-Right
returns-in-Right c = (subst (λ k. PointsRight c.args.node.now 0 k c.in-Right.next) (begun_mark _ _ _ _ c.requires.claiming c.start_row.ensures c.in-Some.work c.in-Some.is) c.in-Right.ensures, c.start_row.ensures)

pub returns-in-Err : goal.returns-in-Err
returns-in-Err c = still_begun c.args.settings.now c.args.page c.args.row.now c.start_row.new.row c.requires.claiming c.start_row.ensures c.gather_here.new.row c.in-Err.ensures.0 c.in-Err.ensures.1

pub returns-in-Ok : goal.returns-in-Ok
returns-in-Ok c =
    let ends = subst (EndsAfter c.args.node.now 0) (begun_mark _ _ _ _ c.requires.claiming c.start_row.ensures c.in-Some.work c.in-Some.is) c.in-Here.ensures in (
      reads_more c.args.settings.now c.args.page c.args.row.now c.start_row.new.row c.requires.claiming c.start_row.ensures c.args.node.now c.gather_here.new.row c.in-Ok.ensures.0 c.in-Ok.next c.in-Ok.ensures.1,
      gathers_more c.args.settings.now c.args.page c.args.row.now c.start_row.new.row c.requires.claiming c.start_row.ensures c.args.node.now c.gather_here.new.row c.in-Ok.ensures.0 c.in-Ok.next c.in-Ok.ensures.1 ends,
    )
