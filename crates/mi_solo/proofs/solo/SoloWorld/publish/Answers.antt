use Rattle.std.proofs.Common.{◌≡◌, length, subst, sym}
use Rattle.mi_world.specs.Splits.{IsGathered}
use Rattle.mi_solo.specs.Solos.{SoloState, view_of}
use Rattle.mi_solo.proofs.WorkAnswers.{answer_publish}
use Rattle.mi_solo.proofs.SoloLemmas.{section_at, stays_so, told_at}
use Rattle.mi_solo.proofs.solo.SoloWorld.publish.Goals as goal

pub invariant_of-self : goal.invariant_of-self
invariant_of-self c =
    let s = c.self.inside in
    let d = c.publish.new.self in
    let x = answer_publish s.core d s.turn c.self.invariant.0 c.self.invariant.1 (subst (λ (t : SoloState). IsGathered (view_of t)) (sym c.self.view_is) c.requires.leaf) (subst (λ (t : SoloState). (view_of t).copied ≡ length (view_of t).copies) (sym c.self.view_is) c.requires.all) c.publish.result c.publish.ensures in
    stays_so s.core d s.turn x c.self.invariant.0 c.self.invariant.1

pub returns-clause-told : goal.returns-clause-told
returns-clause-told c =
    let s = c.self.inside in
    let d = c.publish.new.self in
    let x = answer_publish s.core d s.turn c.self.invariant.0 c.self.invariant.1 (subst (λ (t : SoloState). IsGathered (view_of t)) (sym c.self.view_is) c.requires.leaf) (subst (λ (t : SoloState). (view_of t).copied ≡ length (view_of t).copies) (sym c.self.view_is) c.requires.all) c.publish.result c.publish.ensures in
    told_at s.core d s.turn x c.args.self.now c.self.view_is

pub returns-clause-section : goal.returns-clause-section
returns-clause-section c =
    let s = c.self.inside in
    let d = c.publish.new.self in
    let x = answer_publish s.core d s.turn c.self.invariant.0 c.self.invariant.1 (subst (λ (t : SoloState). IsGathered (view_of t)) (sym c.self.view_is) c.requires.leaf) (subst (λ (t : SoloState). (view_of t).copied ≡ length (view_of t).copies) (sym c.self.view_is) c.requires.all) c.publish.result c.publish.ensures in
    section_at s.core d s.turn x c.self.invariant.0 c.self.invariant.1 c.args.self.now c.self.view_is
