use Rattle.std.proofs.Common.{◌≡◌, ◌∙◌, sym, ap, subst, refl, arith, ◌≤◌, ℕ, [], false, None, map, length, replicate}
use Rattle.std.proofs.lemmas.List.{length-replicate}
use Rattle.mi_base.specs.Configuration.{Configuration, IsWithinLimits}
use Rattle.mi_board.specs.Actors.{idle}
use Rattle.mi_board.specs.Boards.{cells_in, opened_board}
use Rattle.std.specs.List.{AllByRecursion}
use Rattle.mi_board.specs.declared.retired.RetiredLeaf.{RetiredLeaf}
use Rattle.mi_board.specs.Kept.{IsRetired}
use Rattle.mi_board.specs.Marks.{marked}
use Rattle.mi_board.proofs.MarkLemmas.{marked-none}
use Rattle.mi_board.proofs.StepLemmas.{boards_equal, open_board}
use Rattle.mi_tree.specs.Catalog.{prefixes_of}
use Rattle.mi_tree.specs.Cells.{first_leaves}
use Rattle.mi_tree.specs.Counting.{leaf_among}
use Rattle.mi_board.proofs.boards.Board.open.Goals as goal

pub invariant_of-result : goal.invariant_of-result
invariant_of-result c =
    let same = c.settings.view_is ∙ sym c.in_ok-copy.ensures in
    let cells = c.in_ok-catalog.ensures
    ∙ ap (λ (n : ℕ). record { pivots = n; levels = c.settings.inside.levels; leaves = map (leaf_among []) (first_leaves n) }) c.len.ensures
    ∙ ap (λ (k : Configuration). cells_in k []) same in
    let few : c.loop.counter ≤ 4294967295 = let end = c.loop.auto.counter-end in let fits = c.ranges.actors.fits in omega (arith, end, fits) in
    let limits = subst IsWithinLimits same c.settings.invariant in
    record {
      board = open_board c.in_ok-copy.field-0 c.in_ok-catalog.catalog c.new.result.items c.new.ensures.items c.loop.counter c.loop.states.items _ limits cells c.loop.invariant few;
      each = ap length c.in_ok-marks.ensures ∙ length-replicate c.len-2.result false ∙ c.len-2.ensures;
      pages = limits.pages.0;
      shared = tt;
      retired_are = subst (AllByRecursion (IsRetired c.new.result.items)) (sym c.new-2.ensures.items) tt;
    }

pub returns : goal.returns
returns c =
    let many : c.loop.counter ≡ c.args.actors = let end = c.loop.auto.counter-end in let past = c.loop-test.false in omega (arith, end, past) in
    let none = ap (marked (prefixes_of c.in_ok-catalog.catalog.leaves)) c.in_ok-marks.ensures ∙ marked-none (prefixes_of c.in_ok-catalog.catalog.leaves) c.len-2.result in
    boards_equal c.in_ok-copy.field-0 0 0 1 None c.new.ensures.items (c.loop.invariant ∙ ap (λ (n : ℕ). replicate n idle) many) (ap (map (λ (r : RetiredLeaf). r.prefix)) c.new-2.ensures.items) none
    ∙ ap (λ (s : Configuration). opened_board s (replicate c.args.actors idle)) c.in_ok-copy.ensures
