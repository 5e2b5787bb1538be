use Rattle.std.proofs.Common.{◌≡◌, sym, ap, ◌∙◌, arith}
use Rattle.mi_solo.specs.Solos.{MayTurn}
use Rattle.mi_solo.specs.States.{actor_in}
use Rattle.mi_replay.specs.Outcomes.{SameButSeen}
use Rattle.mi_replay.proofs.OutcomeSeen.{lacks_none, lacks_some, may_seen, none_more, seen_more, seen_none}
use Rattle.mi_replay.proofs.outcomes.lacks_page.Goals as goal

pub loop-actor-init : goal.loop-actor-init
loop-actor-init c = record { same = seen_none c.args.solo.now.state; none = λ a lt. absurd (omega (arith, lt)) }

pub turn_to-requires : goal.turn_to-requires
turn_to-requires c =
    may_seen c.args.solo.now.state c.loop-actor.solo.state c.loop-actor.actor c.loop-actor.invariant.same (omega (arith, c.loop-actor-test.true, c.requires.all))
    (c.requires.going c.loop-actor.actor (omega (arith, c.loop-actor-test.true)))

pub loop-actor-preserved : goal.loop-actor-preserved
loop-actor-preserved c =
    let s = c.args.solo.now.state in
    let m = c.loop-actor.solo.state in
    let t = c.turn_to.new.self.state in
    let n = c.loop-actor.actor in
    let may : MayTurn m n = may_seen s m n c.loop-actor.invariant.same (omega (arith, c.loop-actor-test.true, c.requires.all)) (c.requires.going n (omega (arith, c.loop-actor-test.true))) in
    let seen : SameButSeen s t = seen_more s m t n c.loop-actor.invariant.same may c.turn_to.ensures.seen in
    let lacks : (actor_in s n).lacked ≡ c.lacked.result = sym (seen.lacked n) ∙ ap (λ k. (actor_in t k).lacked) (sym c.turn_to.ensures.turn) ∙ sym c.lacked.ensures in
    record { same = seen; none = none_more s n c.loop-actor.invariant.none (lacks ∙ c.if-lacked.false) }

pub returns-then-lacked : goal.returns-then-lacked
returns-then-lacked c =
    let s = c.args.solo.now.state in
    let m = c.loop-actor.solo.state in
    let t = c.turn_to.new.self.state in
    let n = c.loop-actor.actor in
    let may : MayTurn m n = may_seen s m n c.loop-actor.invariant.same (omega (arith, c.loop-actor-test.true, c.requires.all)) (c.requires.going n (omega (arith, c.loop-actor-test.true))) in
    let seen : SameButSeen s t = seen_more s m t n c.loop-actor.invariant.same may c.turn_to.ensures.seen in
    let lacks : (actor_in s n).lacked ≡ c.lacked.result = sym (seen.lacked n) ∙ ap (λ k. (actor_in t k).lacked) (sym c.turn_to.ensures.turn) ∙ sym c.lacked.ensures in
    record { result = sym (lacks_some s n (omega (arith, c.loop-actor-test.true, c.requires.all)) (lacks ∙ c.if-lacked.true)); same = seen }

pub returns-clause-result : goal.returns-clause-result
returns-clause-result c =
    sym (lacks_none c.args.solo.now.state (λ a lt. c.loop-actor.invariant.none a (omega (arith, lt, c.loop-actor-test.false, c.requires.all))))
