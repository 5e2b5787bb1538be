use Rattle.std.proofs.Common.{◌≡◌, ◌∙◌, sym, ap, subst, arith, length, take, get_or, [], ◌∷◌, ◌++◌, List, ℕ, Bool, ◌<◌, true, false, map, Vec, Global}
use Rattle.std.proofs.lemmas.List.{length-map, take_all}
use Rattle.std.proofs.lemmas.Option.{get_or_from_slice_get}
use Rattle.mi_board.specs.Marks.{split_marks}
use Rattle.mi_board.proofs.MarkLemmas.{split_more}
use Rattle.mi_tree.specs.declared.outcomes.Leaf.{Leaf}
use Rattle.mi_tree.specs.Catalog.{prefixes_of}
use Rattle.mi_tree.specs.Cells.{children, same_cell}
use Rattle.mi_tree.proofs.CatalogLemmas.{prefix_at}
use Rattle.mi_board.proofs.marks.marks_after.Goals as goal
use Rattle.mi_board.proofs.marks.marks_after.Goals.{then-is_same+in_ok-push_children, else-is_same+in_ok-push}

pub loop-place-preserved : goal.loop-place-preserved
loop-place-preserved c =
    let ls = c.args.catalog.now.leaves in
    let i = c.loop-place.place in
    let within : i < length ls = omega (arith, c.loop-place-test.true, c.requires) in
    let more = split_more c.args.pivots c.args.prefix.now (prefixes_of ls) c.args.marks.now i (omega (arith, within, length-map ls (λ (l : Leaf). l.prefix))) c.loop-place-test.true in
    let at : get_or (prefixes_of ls) i [] ≡ c.leaf.result.now.prefix = prefix_at ls i c.leaf.result.now within (sym (get_or_from_slice_get ls i c.leaf.result.now c.leaf.result.now c.leaf.ensures)) in
    elim c.if-is_same.branch [
      | then-is_same+in_ok-push_children w ↦
          let s : same_cell c.args.prefix.now (get_or (prefixes_of ls) i []) ≡ true = ap (same_cell c.args.prefix.now) at ∙ sym c.is_same.ensures ∙ w.if-is_same.true in
          let now = rw s at more in
          ap (λ (v : Vec Bool Global). v.items) w.after-is ∙ w.in_ok-push_children.ensures ∙ ap (λ (xs : List Bool). xs ++ map (λ _. false) (children c.args.pivots c.args.prefix.now)) c.loop-place.invariant ∙ sym now
      | else-is_same+in_ok-push w ↦
          let s : same_cell c.args.prefix.now (get_or (prefixes_of ls) i []) ≡ false = ap (same_cell c.args.prefix.now) at ∙ sym c.is_same.ensures ∙ w.if-is_same.false in
          let now = rw s at more in
          ap (λ (v : Vec Bool Global). v.items) w.after-is ∙ w.in_ok-push.ensures.items ∙ ap (λ (xs : List Bool). xs ++ get_or c.args.marks.now i false ∷ []) c.loop-place.invariant ∙ sym now
    ]

pub returns : goal.returns
returns c =
    let ls = c.args.catalog.now.leaves in
    let past : length ls ≡ length c.args.marks.now = omega (arith, c.requires) in
    let ps : take c.loop-place.place (prefixes_of ls) ≡ prefixes_of ls = take_all c.loop-place.place (prefixes_of ls) (omega (arith, c.loop-place-test.false, past, length-map ls (λ (l : Leaf). l.prefix))) in
    let ms : take c.loop-place.place c.args.marks.now ≡ c.args.marks.now = take_all c.loop-place.place c.args.marks.now c.loop-place-test.false in
    c.loop-place.invariant ∙ ap (λ (x : List (List ℕ)). split_marks c.args.pivots c.args.prefix.now x (take c.loop-place.place c.args.marks.now)) ps
    ∙ ap (split_marks c.args.pivots c.args.prefix.now (prefixes_of ls)) ms
