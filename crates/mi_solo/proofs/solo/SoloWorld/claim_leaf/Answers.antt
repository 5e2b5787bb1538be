use Rattle.std.proofs.Common.{◌≡◌, None, length, subst, sym}
use Rattle.mi_core.specs.Events.{IsFree}
use Rattle.mi_solo.specs.Solos.{SoloState, view_of}
use Rattle.mi_solo.specs.States.{actor_in, state_of}
use Rattle.mi_solo.proofs.BoardTurns.{shown_free}
use Rattle.mi_solo.proofs.AnswerLemmas.{answer_leaf}
use Rattle.mi_solo.proofs.SoloLemmas.{section_at, stays_so, told_at}
use Rattle.mi_solo.proofs.solo.SoloWorld.claim_leaf.Goals as goal

pub invariant_of-self : goal.invariant_of-self
invariant_of-self c =
    let s = c.self.inside in
    let d = c.claim_leaf.new.self in
    let at = subst (λ (t : SoloState). ((view_of t).leaf ≡ None) × ((view_of t).sweep ≡ None)) (sym c.self.view_is) (c.requires.free, c.requires.idle) in
    let free : IsFree (actor_in (state_of s.core) s.turn) = record { claim = at.0; sweep = shown_free (actor_in (state_of s.core) s.turn).sweep at.1 } in
    let x = answer_leaf s.core d s.turn c.self.invariant.0 c.self.invariant.1 free c.args.perm.now c.as_slice.ensures.permutation (subst (λ (t : SoloState). length c.args.perm.now ≡ length (view_of t).settings.pivots) (sym c.self.view_is) c.requires.long) c.claim_leaf.result c.claim_leaf.ensures in
    stays_so s.core d s.turn x c.self.invariant.0 c.self.invariant.1

pub returns-clause-told : goal.returns-clause-told
returns-clause-told c =
    let s = c.self.inside in
    let d = c.claim_leaf.new.self in
    let at = subst (λ (t : SoloState). ((view_of t).leaf ≡ None) × ((view_of t).sweep ≡ None)) (sym c.self.view_is) (c.requires.free, c.requires.idle) in
    let free : IsFree (actor_in (state_of s.core) s.turn) = record { claim = at.0; sweep = shown_free (actor_in (state_of s.core) s.turn).sweep at.1 } in
    let x = answer_leaf s.core d s.turn c.self.invariant.0 c.self.invariant.1 free c.args.perm.now c.as_slice.ensures.permutation (subst (λ (t : SoloState). length c.args.perm.now ≡ length (view_of t).settings.pivots) (sym c.self.view_is) c.requires.long) c.claim_leaf.result c.claim_leaf.ensures in
    told_at s.core d s.turn x c.args.self.now c.self.view_is

pub returns-clause-section : goal.returns-clause-section
returns-clause-section c =
    let s = c.self.inside in
    let d = c.claim_leaf.new.self in
    let at = subst (λ (t : SoloState). ((view_of t).leaf ≡ None) × ((view_of t).sweep ≡ None)) (sym c.self.view_is) (c.requires.free, c.requires.idle) in
    let free : IsFree (actor_in (state_of s.core) s.turn) = record { claim = at.0; sweep = shown_free (actor_in (state_of s.core) s.turn).sweep at.1 } in
    let x = answer_leaf s.core d s.turn c.self.invariant.0 c.self.invariant.1 free c.args.perm.now c.as_slice.ensures.permutation (subst (λ (t : SoloState). length c.args.perm.now ≡ length (view_of t).settings.pivots) (sym c.self.view_is) c.requires.long) c.claim_leaf.result c.claim_leaf.ensures in
    section_at s.core d s.turn x c.self.invariant.0 c.self.invariant.1 c.args.self.now c.self.view_is
