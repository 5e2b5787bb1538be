use Rattle.std.proofs.Common.{subst, sym}
use Rattle.mi_world.specs.Pages.{IsChildAt, MayPost}
use Rattle.mi_solo.specs.Solos.{SoloState, view_of}
use Rattle.mi_solo.proofs.RouteAnswers.{answer_post}
use Rattle.mi_solo.proofs.SoloLemmas.{section_at, stays_so, told_at}
use Rattle.mi_solo.proofs.solo.SoloWorld.post.Goals as goal

pub invariant_of-self : goal.invariant_of-self
invariant_of-self c =
    let s = c.self.inside in
    let d = c.post.new.self in
    let may = subst (λ (t : SoloState). IsChildAt (view_of t) c.args.level c.args.key c.args.child × MayPost (view_of t) c.args.page c.args.level c.args.key) (sym c.self.view_is) (c.requires.route, c.requires.seeks) in
    let x = answer_post s.core d s.turn c.self.invariant.0 c.self.invariant.1 c.args.page c.args.level c.args.key c.args.child may.0 may.1 c.post.result c.post.ensures in
    stays_so s.core d s.turn x c.self.invariant.0 c.self.invariant.1

pub returns-clause-told : goal.returns-clause-told
returns-clause-told c =
    let s = c.self.inside in
    let d = c.post.new.self in
    let may = subst (λ (t : SoloState). IsChildAt (view_of t) c.args.level c.args.key c.args.child × MayPost (view_of t) c.args.page c.args.level c.args.key) (sym c.self.view_is) (c.requires.route, c.requires.seeks) in
    let x = answer_post s.core d s.turn c.self.invariant.0 c.self.invariant.1 c.args.page c.args.level c.args.key c.args.child may.0 may.1 c.post.result c.post.ensures in
    told_at s.core d s.turn x c.args.self.now c.self.view_is

pub returns-clause-section : goal.returns-clause-section
returns-clause-section c =
    let s = c.self.inside in
    let d = c.post.new.self in
    let may = subst (λ (t : SoloState). IsChildAt (view_of t) c.args.level c.args.key c.args.child × MayPost (view_of t) c.args.page c.args.level c.args.key) (sym c.self.view_is) (c.requires.route, c.requires.seeks) in
    let x = answer_post s.core d s.turn c.self.invariant.0 c.self.invariant.1 c.args.page c.args.level c.args.key c.args.child may.0 may.1 c.post.result c.post.ensures in
    section_at s.core d s.turn x c.self.invariant.0 c.self.invariant.1 c.args.self.now c.self.view_is
