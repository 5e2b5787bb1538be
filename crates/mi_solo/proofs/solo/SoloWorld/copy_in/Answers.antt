use Rattle.std.proofs.Common.{◌≤◌, subst, sym}
use Rattle.mi_world.specs.Splits.{IsGathered, next_copy}
use Rattle.mi_solo.specs.Solos.{SoloState, view_of}
use Rattle.mi_solo.proofs.CopyAnswers.{answer_copy}
use Rattle.mi_solo.proofs.SoloLemmas.{section_at, stays_so, told_at}
use Rattle.mi_solo.proofs.solo.SoloWorld.copy_in.Goals as goal

pub invariant_of-self : goal.invariant_of-self
invariant_of-self c =
    let s = c.self.inside in
    let d = c.copy_in.new.self in
    let at = subst (λ (t : SoloState). IsGathered (view_of t) × ((view_of t).low c.args.page ≤ next_copy (view_of t))) (sym c.self.view_is) (c.requires.leaf, c.requires.low) in
    let x = answer_copy s.core d s.turn c.self.invariant.0 c.self.invariant.1 c.args.page at.0 at.1 c.copy_in.result c.copy_in.ensures in
    stays_so s.core d s.turn x c.self.invariant.0 c.self.invariant.1

pub returns-clause-told : goal.returns-clause-told
returns-clause-told c =
    let s = c.self.inside in
    let d = c.copy_in.new.self in
    let at = subst (λ (t : SoloState). IsGathered (view_of t) × ((view_of t).low c.args.page ≤ next_copy (view_of t))) (sym c.self.view_is) (c.requires.leaf, c.requires.low) in
    let x = answer_copy s.core d s.turn c.self.invariant.0 c.self.invariant.1 c.args.page at.0 at.1 c.copy_in.result c.copy_in.ensures in
    told_at s.core d s.turn x c.args.self.now c.self.view_is

pub returns-clause-section : goal.returns-clause-section
returns-clause-section c =
    let s = c.self.inside in
    let d = c.copy_in.new.self in
    let at = subst (λ (t : SoloState). IsGathered (view_of t) × ((view_of t).low c.args.page ≤ next_copy (view_of t))) (sym c.self.view_is) (c.requires.leaf, c.requires.low) in
    let x = answer_copy s.core d s.turn c.self.invariant.0 c.self.invariant.1 c.args.page at.0 at.1 c.copy_in.result c.copy_in.ensures in
    section_at s.core d s.turn x c.self.invariant.0 c.self.invariant.1 c.args.self.now c.self.view_is
