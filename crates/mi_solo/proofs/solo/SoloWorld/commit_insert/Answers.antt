use Rattle.std.proofs.Common.{◌<◌, ◌^◌, arith, subst, sym}
use Rattle.mi_world.specs.Pages.{MayInsert, MaySeek}
use Rattle.mi_solo.specs.Solos.{SoloState, view_of}
use Rattle.mi_solo.proofs.PageAnswers.{answer_insert}
use Rattle.mi_solo.proofs.SoloLemmas.{section_at, stays_so, told_at}
use Rattle.mi_solo.proofs.solo.SoloWorld.commit_insert.Goals as goal

pub invariant_of-self : goal.invariant_of-self
invariant_of-self c =
    let s = c.self.inside in
    let d = c.commit_insert.new.self in
    let small : c.args.id < 2 ^ 40 = omega (arith, c.get.ensures.small, c.get.ensures.same) in
    let at = subst (λ (t : SoloState). MayInsert (view_of t) c.args.id c.args.vector.now c.args.dists.now.items × MaySeek (view_of t) c.args.page c.args.dists.now.items c.args.id) (sym c.self.view_is) (c.requires.ready, c.requires.seeks) in
    let x = answer_insert s.core d s.turn c.self.invariant.0 c.self.invariant.1 c.args.page c.args.op c.args.id c.args.vector.now c.args.dists.now.items small at.0 at.1 c.commit_insert.result c.commit_insert.ensures in
    stays_so s.core d s.turn x c.self.invariant.0 c.self.invariant.1

pub returns-clause-told : goal.returns-clause-told
returns-clause-told c =
    let s = c.self.inside in
    let d = c.commit_insert.new.self in
    let small : c.args.id < 2 ^ 40 = omega (arith, c.get.ensures.small, c.get.ensures.same) in
    let at = subst (λ (t : SoloState). MayInsert (view_of t) c.args.id c.args.vector.now c.args.dists.now.items × MaySeek (view_of t) c.args.page c.args.dists.now.items c.args.id) (sym c.self.view_is) (c.requires.ready, c.requires.seeks) in
    let x = answer_insert s.core d s.turn c.self.invariant.0 c.self.invariant.1 c.args.page c.args.op c.args.id c.args.vector.now c.args.dists.now.items small at.0 at.1 c.commit_insert.result c.commit_insert.ensures in
    told_at s.core d s.turn x c.args.self.now c.self.view_is

pub returns-clause-section : goal.returns-clause-section
returns-clause-section c =
    let s = c.self.inside in
    let d = c.commit_insert.new.self in
    let small : c.args.id < 2 ^ 40 = omega (arith, c.get.ensures.small, c.get.ensures.same) in
    let at = subst (λ (t : SoloState). MayInsert (view_of t) c.args.id c.args.vector.now c.args.dists.now.items × MaySeek (view_of t) c.args.page c.args.dists.now.items c.args.id) (sym c.self.view_is) (c.requires.ready, c.requires.seeks) in
    let x = answer_insert s.core d s.turn c.self.invariant.0 c.self.invariant.1 c.args.page c.args.op c.args.id c.args.vector.now c.args.dists.now.items small at.0 at.1 c.commit_insert.result c.commit_insert.ensures in
    section_at s.core d s.turn x c.self.invariant.0 c.self.invariant.1 c.args.self.now c.self.view_is
