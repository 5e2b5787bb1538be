use Rattle.std.proofs.Common.{◌≤◌, ◌∙◌, IsTrue, length, sym, ap, subst}
use Rattle.mi_base.specs.Configuration.{Configuration}
use Rattle.mi_base.specs.Prefixes.{all_below}
use Rattle.mi_board.specs.Boards.{BoardState, GivesWork}
use Rattle.mi_solo.proofs.board_rows.work_row.Goals as goal

pub first_key-mark-requires-clause-depth : goal.first_key-mark-requires-clause-depth
first_key-mark-requires-clause-depth c =
    let told = subst (λ x. GivesWork c.args.board.now c.args.actor x c.next_work-work.new.self) c.in-Sweep.is c.next_work-work.ensures in
    subst (λ (x : Configuration). length c.in-Sweep.prefix ≤ x.levels) (sym (c.settings.ensures ∙ ap (λ (z : BoardState). z.settings) told.1)) (c.requires.cells c.in-Sweep.prefix told.0).0

pub first_key-mark-requires-clause-pivots : goal.first_key-mark-requires-clause-pivots
first_key-mark-requires-clause-pivots c =
    let told = subst (λ x. GivesWork c.args.board.now c.args.actor x c.next_work-work.new.self) c.in-Sweep.is c.next_work-work.ensures in
    subst (λ (x : Configuration). IsTrue (all_below (length x.pivots) c.in-Sweep.prefix)) (sym (c.settings.ensures ∙ ap (λ (z : BoardState). z.settings) told.1)) (c.requires.cells c.in-Sweep.prefix told.0).1
