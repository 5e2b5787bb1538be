use Rattle.std.proofs.Common.{◌≤◌, subst, sym}
use Rattle.std.specs.Prelude.{IsSome}
use Rattle.mi_solo.specs.Solos.{SoloState, view_of}
use Rattle.mi_solo.proofs.WorkAnswers.{answer_sweep}
use Rattle.mi_solo.proofs.SoloLemmas.{section_at, stays_so, told_at}
use Rattle.mi_solo.proofs.solo.SoloWorld.sweep.Goals as goal

pub invariant_of-self : goal.invariant_of-self
invariant_of-self c =
    let s = c.self.inside in
    let d = c.sweep.new.self in
    let at = subst (λ (t : SoloState). IsSome (view_of t).sweep × ((view_of t).low c.args.page ≤ (view_of t).swept)) (sym c.self.view_is) (c.requires.given, c.requires.low) in
    let x = answer_sweep s.core d s.turn c.self.invariant.0 c.self.invariant.1 c.args.page at.0 at.1 c.sweep.result c.sweep.ensures in
    stays_so s.core d s.turn x c.self.invariant.0 c.self.invariant.1

pub returns-clause-told : goal.returns-clause-told
returns-clause-told c =
    let s = c.self.inside in
    let d = c.sweep.new.self in
    let at = subst (λ (t : SoloState). IsSome (view_of t).sweep × ((view_of t).low c.args.page ≤ (view_of t).swept)) (sym c.self.view_is) (c.requires.given, c.requires.low) in
    let x = answer_sweep s.core d s.turn c.self.invariant.0 c.self.invariant.1 c.args.page at.0 at.1 c.sweep.result c.sweep.ensures in
    told_at s.core d s.turn x c.args.self.now c.self.view_is

pub returns-clause-section : goal.returns-clause-section
returns-clause-section c =
    let s = c.self.inside in
    let d = c.sweep.new.self in
    let at = subst (λ (t : SoloState). IsSome (view_of t).sweep × ((view_of t).low c.args.page ≤ (view_of t).swept)) (sym c.self.view_is) (c.requires.given, c.requires.low) in
    let x = answer_sweep s.core d s.turn c.self.invariant.0 c.self.invariant.1 c.args.page at.0 at.1 c.sweep.result c.sweep.ensures in
    section_at s.core d s.turn x c.self.invariant.0 c.self.invariant.1 c.args.self.now c.self.view_is
