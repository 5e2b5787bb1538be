use Rattle.std.proofs.Common.{◌≡◌, ◌∙◌, sym, ap, Bool, Vec, Global}
use Rattle.mi_base.specs.Prefixes.{has}
use Rattle.mi_board.proofs.MarkLemmas.{child_mark, no_mark}
use Rattle.mi_board.proofs.marks.push_children.Goals as goal
use Rattle.mi_board.proofs.marks.push_children.Goals.{then-not-contains+in_ok-push, else-not-contains}

pub loop-pivot-preserved : goal.loop-pivot-preserved
loop-pivot-preserved c =
    let start = c.args.marks.now.items in
    let p = c.args.prefix.now in
    let i = c.loop-pivot.pivot-counter in
    let stands : c.contains.result ≡ has i p = c.contains.ensures.value ∙ ap (has i) c.as_slice.ensures.same in
    elim c.if-not-contains.branch [
      | then-not-contains+in_ok-push w ↦ child_mark start c.loop-pivot.marks.items c.if-not-contains.marks.items p i c.loop-pivot.invariant (sym stands ∙ w.if-not-contains.true)
          (ap (λ (v : Vec Bool Global). v.items) w.marks-is ∙ w.in_ok-push.ensures.items)
      | else-not-contains w ↦ no_mark start c.if-not-contains.marks.items p i (ap (λ (v : Vec Bool Global). v.items) w.marks-is ∙ c.loop-pivot.invariant) (sym stands ∙ w.if-not-contains.false)
    ]
