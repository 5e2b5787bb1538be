use Rattle.std.proofs.Common.{◌≡◌, ◌∙◌, ◌<◌, ◌+◌, ◌++◌, [], ◌∷◌, None, ap, arith, subst, sym}
use Rattle.std.specs.Prelude.{IsSome}
use Rattle.mi_core.specs.Effects.{trim_leaf}
use Rattle.mi_core.specs.Events.{hand}
use Rattle.mi_page.specs.Nodes.{Node, item_count, lower_half, middle_key}
use Rattle.mi_solo.specs.declared.rows.ActorRow.{ActorRow}
use Rattle.mi_solo.specs.InHand.{InHand}
use Rattle.mi_solo.proofs.RouteSections.{few_items, trims_level}
use Rattle.mi_solo.specs.PageRows.{HalvesWhole}
use Rattle.mi_solo.proofs.page_rows.halve_row.Goals as goal

pub returns-then-len-lt-CAPACITY : goal.returns-then-len-lt-CAPACITY
returns-then-len-lt-CAPACITY c =
    let trimmed = c.trim_leaf.ensures ∙ ap (λ (z : ActorRow). trim_leaf z.floor.updates c.args.node.now) c.note.ensures in
    (subst (λ n. n < 32) (c.len.ensures.count ∙ ap item_count trimmed) c.if-len-lt-CAPACITY.true, trimmed, c.note.ensures)

pub halve-requires-clause-fresh : goal.halve-requires-clause-fresh
halve-requires-clause-fresh c = subst (λ (z : ActorRow). IsSome z.hand.fresh) (sym c.note.ensures) c.requires.fresh

pub halve-requires-clause-full : goal.halve-requires-clause-full
halve-requires-clause-full c = let few = few_items c.trim_leaf.new.page c.len.ensures.node in omega (arith, c.len.ensures.count, c.if-len-lt-CAPACITY.false, few)

pub halve-requires-clause-level : goal.halve-requires-clause-level
halve-requires-clause-level c =
    let level = ap (λ (n : Node). n.level) c.trim_leaf.ensures ∙ trims_level c.note.new.self.floor.updates c.args.node.now in
    omega (arith, c.requires.level, level)

pub returns : goal.returns
returns c =
    let n = c.trim_leaf.new.page in
    let trimmed = c.trim_leaf.ensures ∙ ap (λ (z : ActorRow). trim_leaf z.floor.updates c.args.node.now) c.note.ensures in
    let all : item_count n ≡ 32 = (let few = few_items n c.len.ensures.node in omega (arith, c.len.ensures.count, c.if-len-lt-CAPACITY.false, few)) in (
      sym (ap item_count trimmed) ∙ all,
      subst (λ (z : Node). HalvesWhole c.args.page z c.args.row.now c.halve.result c.halve.new.page (let y : ActorRow = record c.note.new.self { hand = c.halve.new.self } in y)) trimmed (record {
        lower = c.halve.ensures.lower ∙ ap (λ (z : ActorRow). lower_half (hand z.hand.fresh) n) c.note.ensures;
        upper_is = c.halve.ensures.upper;
        row_is = ap (λ (z : ActorRow). let y : ActorRow = record z { hand = c.halve.new.self } in y) c.note.ensures
            ∙ ap (λ (h : InHand). let y : ActorRow = record c.args.row.now { page = c.args.page; hand = h } in y) (c.halve.ensures.hand
            ∙ ap (λ (z : ActorRow). let y : InHand = record { fresh = None; owed = z.hand.owed ++ record { level = n.level + 1; key = middle_key n; child = hand z.hand.fresh } ∷ [] } in y) c.note.ensures);
      }),
    )
