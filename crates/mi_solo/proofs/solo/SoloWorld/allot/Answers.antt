use Rattle.std.proofs.Common.{◌≡◌, false, is_some, subst, sym}
use Rattle.mi_solo.specs.Solos.{SoloState, view_of}
use Rattle.mi_solo.proofs.CoreLemmas.{none_of}
use Rattle.mi_solo.proofs.AnswerLemmas.{answer_allot}
use Rattle.mi_solo.proofs.SoloLemmas.{section_at, stays_so, told_at}
use Rattle.mi_solo.proofs.solo.SoloWorld.allot.Goals as goal

pub invariant_of-self : goal.invariant_of-self
invariant_of-self c =
    let s = c.self.inside in
    let d = c.allot.new.self in
    let x = answer_allot s.core d s.turn c.self.invariant.0 c.self.invariant.1 (none_of _ (subst (λ (t : SoloState). is_some (view_of t).fresh ≡ false) (sym c.self.view_is) c.requires)) c.allot.result c.allot.ensures in
    stays_so s.core d s.turn x c.self.invariant.0 c.self.invariant.1

pub returns-clause-told : goal.returns-clause-told
returns-clause-told c =
    let s = c.self.inside in
    let d = c.allot.new.self in
    let x = answer_allot s.core d s.turn c.self.invariant.0 c.self.invariant.1 (none_of _ (subst (λ (t : SoloState). is_some (view_of t).fresh ≡ false) (sym c.self.view_is) c.requires)) c.allot.result c.allot.ensures in
    told_at s.core d s.turn x c.args.self.now c.self.view_is

pub returns-clause-section : goal.returns-clause-section
returns-clause-section c =
    let s = c.self.inside in
    let d = c.allot.new.self in
    let x = answer_allot s.core d s.turn c.self.invariant.0 c.self.invariant.1 (none_of _ (subst (λ (t : SoloState). is_some (view_of t).fresh ≡ false) (sym c.self.view_is) c.requires)) c.allot.result c.allot.ensures in
    section_at s.core d s.turn x c.self.invariant.0 c.self.invariant.1 c.args.self.now c.self.view_is
