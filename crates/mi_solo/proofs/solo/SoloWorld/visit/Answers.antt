use Rattle.std.proofs.Common.{IsTrue, subst, sym}
use Rattle.std.specs.Prelude.{IsSome}
use Rattle.mi_world.specs.Pages.{IsInLeaf, offered_by}
use Rattle.mi_solo.specs.Solos.{SoloState, view_of}
use Rattle.mi_solo.specs.States.{is_linked}
use Rattle.mi_solo.proofs.PageAnswers.{answer_visit, visit_offers}
use Rattle.mi_solo.proofs.SoloLemmas.{section_at, solo_of, stays_so, told_at}
use Rattle.mi_solo.proofs.solo.SoloWorld.visit.Goals as goal

pub invariant_of-self : goal.invariant_of-self
invariant_of-self g c =
    let s = c.self.inside in
    let d = c.visit.new.self in
    let x = answer_visit s.core d s.turn c.self.invariant.0 c.self.invariant.1 c.args.page (subst (λ (t : SoloState). IsTrue (is_linked t.state c.args.page)) (sym c.self.view_is) c.requires.named) c.args.range.now c.visit.result c.visit.ensures.told in
    stays_so s.core d s.turn x c.self.invariant.0 c.self.invariant.1

pub returns-clause-told : goal.returns-clause-told
returns-clause-told g c =
    let s = c.self.inside in
    let d = c.visit.new.self in
    let x = answer_visit s.core d s.turn c.self.invariant.0 c.self.invariant.1 c.args.page (subst (λ (t : SoloState). IsTrue (is_linked t.state c.args.page)) (sym c.self.view_is) c.requires.named) c.args.range.now c.visit.result c.visit.ensures.told in
    told_at s.core d s.turn x c.args.self.now c.self.view_is

pub returns-clause-section : goal.returns-clause-section
returns-clause-section g c =
    let s = c.self.inside in
    let d = c.visit.new.self in
    let x = answer_visit s.core d s.turn c.self.invariant.0 c.self.invariant.1 c.args.page (subst (λ (t : SoloState). IsTrue (is_linked t.state c.args.page)) (sym c.self.view_is) c.requires.named) c.args.range.now c.visit.result c.visit.ensures.told in
    section_at s.core d s.turn x c.self.invariant.0 c.self.invariant.1 c.args.self.now c.self.view_is

pub returns-clause-offered : goal.returns-clause-offered
returns-clause-offered g c =
    let s = c.self.inside in
    let d = c.visit.new.self in
    let some = subst (λ (t : SoloState). IsSome (view_of t).pin) (sym c.self.view_is) c.requires.pin in
    let inside = subst (λ (t : SoloState). IsInLeaf (view_of t) c.args.range.now) (sym c.self.view_is) c.requires.inside in
    let same = visit_offers s.core d s.turn c.self.invariant.0 c.self.invariant.1 c.args.page (subst (λ (t : SoloState). IsTrue (is_linked t.state c.args.page)) (sym c.self.view_is) c.requires.named) c.args.range.now c.visit.result c.visit.ensures.told some inside in
    subst (λ (t : SoloState). g.S.Sieve.offered c.args.sieve.now (offered_by (view_of t) (view_of (solo_of d s.turn)) c.args.page c.args.range.now c.visit.result) c.visit.new.sieve) c.self.view_is
    (subst (λ os. g.S.Sieve.offered c.args.sieve.now os c.visit.new.sieve) same c.visit.ensures.offered)
