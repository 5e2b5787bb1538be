use Rattle.std.proofs.Common.{◌∙◌, map, ap, subst, sym}
use Rattle.std.proofs.lemmas.Option.{none-some, same_Some}
use Rattle.mi_board.specs.Boards.{MayPublish, leaf_claimed}
use Rattle.mi_solo.specs.declared.rows.SplitRow.{SplitRow}
use Rattle.mi_solo.specs.Placing.{placed_entry}
use Rattle.mi_solo.proofs.board_rows.publish_row.Goals as goal

pub unreachable-requires : goal.unreachable-requires
unreachable-requires c = none-some c.requires.0 (sym c.in_default.is ∙ c.requires.1)

pub publish-requires : goal.publish-requires
publish-requires c =
    let b = c.args.board.now in
    let a = c.args.actor in
    subst (λ os. MayPublish b a os (leaf_claimed b a)) (sym (c.deref-2.ensures.value ∙ c.in-Ok.ensures ∙ ap (map placed_entry) c.deref.ensures.value))
    (subst (λ (w : SplitRow). MayPublish b a (map placed_entry w.gathered.items) (leaf_claimed b a)) (same_Some c.requires.0 c.in-Some.work (sym c.requires.1 ∙ c.in-Some.is)) c.requires.2)
