use Rattle.std.proofs.Common.{◌≡◌, ap, sym, ◌∙◌, subst, length, arith}
use Rattle.std.specs.Prelude.{IsTrue}
use Rattle.std.specs.List.{AllByRecursion}
use Rattle.std.proofs.lemmas.Grind.{common_steps}
use Rattle.std.proofs.lemmas.List.{take_all}
use Rattle.std.proofs.lemmas.List.Elements.{filter_map-append}
use Rattle.mi_call.specs.Choosing.{objects_of}
use Rattle.mi_call.proofs.ChooseLemmas.{objects_few, objects_fit}
use Rattle.mi_call.proofs.choosing.objects_of.Goals as goal
use Rattle.mi_call.proofs.choosing.objects_of.Goals.{in-Insert+in_ok-push, in_default}

pub loop-op-preserved : goal.loop-op-preserved
loop-op-preserved c =
    elim c.match-op.branch [
      | in-Insert+in_ok-push w ↦ grind (arith, common_steps, filter_map-append)
      | in_default w ↦ grind (arith, common_steps, filter_map-append)
    ]

pub returns-clause-fit : goal.returns-clause-fit
returns-clause-fit c = λ m over.
    let all : c.loop-op.objects ≡ objects_of c.args.script.now = c.loop-op.invariant ∙ ap objects_of (take_all c.loop-op.op-index c.as_slice-op-items.result.now c.loop-op-test.false ∙ c.as_slice-op-items.ensures) in
    subst (AllByRecursion (λ v. IsTrue (m.fits v))) (sym all) (objects_fit m c.args.script.now over.each)

pub returns-clause-few : goal.returns-clause-few
returns-clause-few c = λ m over.
    let all : c.loop-op.objects ≡ objects_of c.args.script.now = c.loop-op.invariant ∙ ap objects_of (take_all c.loop-op.op-index c.as_slice-op-items.result.now c.loop-op-test.false ∙ c.as_slice-op-items.ensures) in
    omega (arith, ap length all, objects_few c.args.script.now, over.few)
