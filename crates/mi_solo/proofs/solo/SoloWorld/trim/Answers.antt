use Rattle.std.proofs.Common.{◌≡◌, IsTrue, subst, sym}
use Rattle.mi_solo.specs.Solos.{SoloState}
use Rattle.mi_solo.specs.Sections.{Trims}
use Rattle.mi_solo.specs.States.{is_linked, node_in, state_of}
use Rattle.mi_solo.proofs.PageAnswers.{answer_trim, trims_are}
use Rattle.mi_solo.proofs.SoloLemmas.{section_at, stays_so, told_at}
use Rattle.mi_solo.proofs.solo.SoloWorld.trim.Goals as goal

pub invariant_of-self : goal.invariant_of-self
invariant_of-self c =
    let s = c.self.inside in
    let d = c.trim.new.self in
    let at = subst (λ (t : SoloState). IsTrue (is_linked t.state c.args.page) × ((node_in t.state c.args.page).level ≡ 0)) (sym c.self.view_is) (c.requires.named, c.requires.leaf) in
    let trims = trims_are s.core d s.turn c.self.invariant.0 c.self.invariant.1 c.args.page at.0 at.1 c.trim.result c.trim.ensures in
    let x = answer_trim s.core d s.turn c.self.invariant.0 c.self.invariant.1 c.args.page at.0 c.trim.result trims in
    stays_so s.core d s.turn x c.self.invariant.0 c.self.invariant.1

pub returns-clause-told : goal.returns-clause-told
returns-clause-told c =
    let s = c.self.inside in
    let d = c.trim.new.self in
    let at = subst (λ (t : SoloState). IsTrue (is_linked t.state c.args.page) × ((node_in t.state c.args.page).level ≡ 0)) (sym c.self.view_is) (c.requires.named, c.requires.leaf) in
    let trims = trims_are s.core d s.turn c.self.invariant.0 c.self.invariant.1 c.args.page at.0 at.1 c.trim.result c.trim.ensures in
    let x = answer_trim s.core d s.turn c.self.invariant.0 c.self.invariant.1 c.args.page at.0 c.trim.result trims in
    told_at s.core d s.turn x c.args.self.now c.self.view_is

pub returns-clause-section : goal.returns-clause-section
returns-clause-section c =
    let s = c.self.inside in
    let d = c.trim.new.self in
    let at = subst (λ (t : SoloState). IsTrue (is_linked t.state c.args.page) × ((node_in t.state c.args.page).level ≡ 0)) (sym c.self.view_is) (c.requires.named, c.requires.leaf) in
    let trims = trims_are s.core d s.turn c.self.invariant.0 c.self.invariant.1 c.args.page at.0 at.1 c.trim.result c.trim.ensures in
    let x = answer_trim s.core d s.turn c.self.invariant.0 c.self.invariant.1 c.args.page at.0 c.trim.result trims in
    section_at s.core d s.turn x c.self.invariant.0 c.self.invariant.1 c.args.self.now c.self.view_is

pub returns-clause-event : goal.returns-clause-event
returns-clause-event c =
    let s = c.self.inside in
    let d = c.trim.new.self in
    let at = subst (λ (t : SoloState). IsTrue (is_linked t.state c.args.page) × ((node_in t.state c.args.page).level ≡ 0)) (sym c.self.view_is) (c.requires.named, c.requires.leaf) in
    let trims = trims_are s.core d s.turn c.self.invariant.0 c.self.invariant.1 c.args.page at.0 at.1 c.trim.result c.trim.ensures in
    subst (λ (t : SoloState). Trims t.state t.turn c.args.page c.trim.result (state_of d)) c.self.view_is trims
