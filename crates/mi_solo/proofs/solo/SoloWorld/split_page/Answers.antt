use Rattle.mi_solo.proofs.RouteAnswers.{answer_halve}
use Rattle.mi_solo.proofs.SoloLemmas.{section_at, stays_so, told_at}
use Rattle.mi_solo.proofs.solo.SoloWorld.split_page.Goals as goal

pub invariant_of-self : goal.invariant_of-self
invariant_of-self c =
    let s = c.self.inside in
    let d = c.split_page.new.self in
    let x = answer_halve s.core d s.turn c.self.invariant.0 c.self.invariant.1 c.args.page c.split_page.result c.split_page.ensures in
    stays_so s.core d s.turn x c.self.invariant.0 c.self.invariant.1

pub returns-clause-told : goal.returns-clause-told
returns-clause-told c =
    let s = c.self.inside in
    let d = c.split_page.new.self in
    let x = answer_halve s.core d s.turn c.self.invariant.0 c.self.invariant.1 c.args.page c.split_page.result c.split_page.ensures in
    told_at s.core d s.turn x c.args.self.now c.self.view_is

pub returns-clause-section : goal.returns-clause-section
returns-clause-section c =
    let s = c.self.inside in
    let d = c.split_page.new.self in
    let x = answer_halve s.core d s.turn c.self.invariant.0 c.self.invariant.1 c.args.page c.split_page.result c.split_page.ensures in
    section_at s.core d s.turn x c.self.invariant.0 c.self.invariant.1 c.args.self.now c.self.view_is
