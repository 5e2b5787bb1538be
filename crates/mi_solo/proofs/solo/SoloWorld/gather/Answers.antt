use Rattle.std.proofs.Common.{◌≤◌, subst, sym}
use Rattle.mi_world.specs.Splits.{MayGather, gather_key}
use Rattle.mi_solo.specs.Solos.{SoloState, view_of}
use Rattle.mi_solo.proofs.WorkAnswers.{answer_gather}
use Rattle.mi_solo.proofs.SoloLemmas.{section_at, stays_so, told_at}
use Rattle.mi_solo.proofs.solo.SoloWorld.gather.Goals as goal

pub invariant_of-self : goal.invariant_of-self
invariant_of-self c =
    let s = c.self.inside in
    let d = c.gather.new.self in
    let x = answer_gather s.core d s.turn c.self.invariant.0 c.self.invariant.1 c.args.page (subst (λ (t : SoloState). MayGather (view_of t)) (sym c.self.view_is) c.requires.leaf) (subst (λ (t : SoloState). (view_of t).low c.args.page ≤ gather_key (view_of t)) (sym c.self.view_is) c.requires.low) c.gather.result c.gather.ensures in
    stays_so s.core d s.turn x c.self.invariant.0 c.self.invariant.1

pub returns-clause-told : goal.returns-clause-told
returns-clause-told c =
    let s = c.self.inside in
    let d = c.gather.new.self in
    let x = answer_gather s.core d s.turn c.self.invariant.0 c.self.invariant.1 c.args.page (subst (λ (t : SoloState). MayGather (view_of t)) (sym c.self.view_is) c.requires.leaf) (subst (λ (t : SoloState). (view_of t).low c.args.page ≤ gather_key (view_of t)) (sym c.self.view_is) c.requires.low) c.gather.result c.gather.ensures in
    told_at s.core d s.turn x c.args.self.now c.self.view_is

pub returns-clause-section : goal.returns-clause-section
returns-clause-section c =
    let s = c.self.inside in
    let d = c.gather.new.self in
    let x = answer_gather s.core d s.turn c.self.invariant.0 c.self.invariant.1 c.args.page (subst (λ (t : SoloState). MayGather (view_of t)) (sym c.self.view_is) c.requires.leaf) (subst (λ (t : SoloState). (view_of t).low c.args.page ≤ gather_key (view_of t)) (sym c.self.view_is) c.requires.low) c.gather.result c.gather.ensures in
    section_at s.core d s.turn x c.self.invariant.0 c.self.invariant.1 c.args.self.now c.self.view_is
