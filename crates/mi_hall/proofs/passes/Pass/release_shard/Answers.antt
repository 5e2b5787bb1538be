use Rattle.std.proofs.Common.{ap, subst, sym, ◌∙◌}
use Rattle.atomic_table.specs.Seated.{TableId}
use Rattle.atomic_table.specs.Table.{rest}
use Rattle.mi_latch.specs.Views.{Seated}
use Rattle.mi_solo.specs.declared.rows.ActorRow.{ActorRow}
use Rattle.mi_hall.specs.Passes.{AreNear, IsPass}
use Rattle.mi_hall.specs.ShardHolds.{releasing}
use Rattle.mi_hall.proofs.AbsorbedLemmas.{kept_gone}
use Rattle.mi_hall.proofs.PassLemmas.{given_at, word_stays}
use Rattle.mi_hall.proofs.ShardCalls.{held_low, released_cells, released_near, released_pass, released_told}
use Rattle.mi_hall.proofs.passes.Pass.release_shard.Goals as goal

pub give_shard-requires-clause-near : goal.give_shard-requires-clause-near
give_shard-requires-clause-near c = held_low _ _ _ _ _ c.self.invariant.0 _ c.in-Some.is _ (sym c.take.ensures.value ∙ c.in-Some-take.is) _ c.learn.ensures.told

pub invariant_of-self : goal.invariant_of-self
invariant_of-self c =
    let p = c.self.invariant in
    let hold = sym c.take.ensures.value ∙ c.in-Some-take.is in
    let gave = c.give_shard.ensures.gave ∙ ap (λ (z : Seated). let x : Seated = (releasing z.0, rest z.1) in x) c.learn.ensures.same in
    let t = c.give_shard.ensures.table.0 ∙ c.learn.ensures.table.0 in (
      subst (λ rows. IsPass c.give_shard.new.seat.me c.self.inside.actor c.leave_shard.new.self rows c.self.inside.told) (sym c.take.ensures.after)
          (released_pass _ _ _ _ _ p.0 _ c.in-Some.is _ hold _ gave _ c.leave_shard.ensures),
      subst (λ (t : TableId). AreNear t.words c.give_shard.new.seat.me.0.mine.named) (sym t) (released_near _ _ _ _ _ p.0 _ c.in-Some.is _ hold _ gave _ p.1),
      released_cells _ _ _ _ _ p.0 _ c.in-Some.is _ hold _ gave p.2,
      word_stays _ _ _ _ t (ap (λ (z : ActorRow). z.hand.fresh) c.leave_shard.ensures) p.3,
      given_at _ _ _ gave p.4,
      kept_gone _ _ _ gave p.5,
    )

pub returns-clause-told : goal.returns-clause-told
returns-clause-told c =
    let gave = c.give_shard.ensures.gave ∙ ap (λ (z : Seated). let x : Seated = (releasing z.0, rest z.1) in x) c.learn.ensures.same in
    released_told _ _ _ _ _ c.self.invariant.0 _ c.in-Some.is _ (sym c.take.ensures.value ∙ c.in-Some-take.is) _ gave _ _ c.self.view_is
