use Rattle.std.proofs.Common.{◌∙◌, ap, arith, refl, sym}
use Rattle.mi_core.specs.Effects.{paid}
use Rattle.mi_solo.specs.declared.rows.ActorRow.{ActorRow}
use Rattle.mi_solo.specs.InHand.{InHand}
use Rattle.mi_solo.specs.Seeking.{EndsAfter}
use Rattle.mi_solo.proofs.RouteSections.{few_items}
use Rattle.mi_solo.proofs.page_rows.post_row.Goals as goal

pub put_route-requires-clause-inner : goal.put_route-requires-clause-inner
put_route-requires-clause-inner c =
    let ends : EndsAfter c.args.node.now c.args.level c.args.key = c.in-Here-2.ensures in
    omega (arith, ends.level, c.requires.inner)

pub put_route-requires-clause-few : goal.put_route-requires-clause-few
put_route-requires-clause-few c = let few = few_items c.args.node.now c.len.ensures.node in omega (arith, few, c.len.ensures.count, c.if-len-eq-CAPACITY.false)

pub put_route-requires-clause-inside : goal.put_route-requires-clause-inside
put_route-requires-clause-inside c =
    let ends : EndsAfter c.args.node.now c.args.level c.args.key = c.in-Here-2.ensures in
    record { from_low = c.requires.low; below_high = ends.under }

pub returns-in-Down : goal.returns-in-Down
returns-in-Down c = (c.in-Down.ensures, record { same = refl; row_is = c.note.ensures })

pub returns-in-Right : goal.returns-in-Right
returns-in-Right c = (c.in-Right.ensures, record { same = refl; row_is = c.note.ensures })

pub returns-in-Here : goal.returns-in-Here
returns-in-Here c = (c.in-Here.ensures, sym c.len.ensures.count ∙ c.if-len-eq-CAPACITY.true, record { same = refl; row_is = c.note.ensures })

pub returns-in-Here-2 : goal.returns-in-Here-2
returns-in-Here-2 c = (
  c.in-Here-2.ensures,
  record {
    few = (let few = few_items c.args.node.now c.len.ensures.node in omega (arith, few, c.len.ensures.count, c.if-len-eq-CAPACITY.false));
    posted = c.put_route.ensures;
    row_is = ap (λ (z : ActorRow). let y : ActorRow = record z { hand = c.pay.new.self } in y) c.note.ensures
        ∙ ap (λ (h : InHand). let y : ActorRow = record c.args.row.now { page = c.args.page; hand = h } in y) (c.pay.ensures ∙ ap (λ (z : ActorRow). let y : InHand = record z.hand { owed = paid c.args.child z.hand.owed } in y) c.note.ensures);
  },
)
