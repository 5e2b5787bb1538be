use Rattle.std.proofs.Common.{◌∙◌, None, ap, arith, length, refl, subst, sym}
use Rattle.std.specs.Prelude.{IsSome}
use Rattle.mi_board.specs.Boards.{BoardState, Grows}
use Rattle.mi_core.specs.Effects.{paid}
use Rattle.mi_page.specs.Nodes.{root_node}
use Rattle.mi_solo.specs.declared.rows.ActorRow.{ActorRow}
use Rattle.mi_solo.specs.InHand.{InHand}
use Rattle.mi_tree.specs.declared.answers.Look.{Look}
use Rattle.mi_hall.proofs.grow_call.grow_row.Goals as goal

pub returns-then-not-grow : goal.returns-then-not-grow
returns-then-not-grow c =
    let told = subst (λ r. Grows c.args.board.now c.args.level c.args.fresh r c.grow.new.self) c.if-not-grow.true c.grow.ensures in
    (told.0, told.1, c.see.ensures ∙ ap (λ (b : BoardState). let y : ActorRow = record c.args.row.now { seen = length b.log } in y) told.1)

pub raise-root-requires-clause-fresh : goal.raise-root-requires-clause-fresh
raise-root-requires-clause-fresh c = subst IsSome (sym c.requires.fresh) refl

pub raise-root-requires-clause-level : goal.raise-root-requires-clause-level
raise-root-requires-clause-level c =
    let told = subst (λ r. Grows c.args.board.now c.args.level c.args.fresh r c.grow.new.self) c.if-not-grow.false c.grow.ensures in
    let up = told.0 in omega (arith, up)

pub returns : goal.returns
returns c =
    let told = subst (λ r. Grows c.args.board.now c.args.level c.args.fresh r c.grow.new.self) c.if-not-grow.false c.grow.ensures in (
      told.0,
      told.1,
      c.raise-root.ensures.root ∙ ap (λ (l : Look). root_node c.args.level l.root c.args.key c.args.child) c.look-left.ensures,
      c.see-2.ensures ∙ ap (λ (h : InHand). let y : ActorRow = record c.args.row.now { seen = length c.grow.new.self.log; hand = h } in y) c.raise-root.ensures.hand
          ∙ ap (λ (b : BoardState). let y : ActorRow = record c.args.row.now { seen = length b.log; hand = record { fresh = None; owed = paid c.args.child c.args.row.now.hand.owed } } in y) told.1,
    )
