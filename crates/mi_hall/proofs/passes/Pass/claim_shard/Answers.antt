use Rattle.std.proofs.Common.{ap, subst, sym, ◌%◌}
use Rattle.atomic_table.specs.Seated.{TableId}
use Rattle.mi_solo.specs.declared.rows.ActorRow.{ActorRow}
use Rattle.mi_hall.specs.Passes.{AreNear}
use Rattle.mi_hall.proofs.AbsorbedLemmas.{kept_gone}
use Rattle.mi_hall.proofs.PassLemmas.{given_at, word_stays}
use Rattle.mi_hall.proofs.ShardCalls.{missed_cells, missed_near, missed_pass, missed_told, none_held, taken_cells, taken_near, taken_pass, taken_told}
use Rattle.mi_hall.proofs.passes.Pass.claim_shard.Goals as goal

pub invariant_of-self : goal.invariant_of-self
invariant_of-self c =
    let took = c.in-Ok.ensures.took.0 in
    let p = c.self.invariant in
    let t = c.try_shard.ensures.table.0 in (
      taken_pass _ _ _ _ _ p.0 _ _ _ took (none_held _ _ _ c.self.view_is c.requires.free) _ c.take_shard.ensures,
      subst (λ (t : TableId). AreNear t.words c.try_shard.new.seat.me.0.mine.named) (sym t) (taken_near _ _ _ _ _ p.0 _ _ _ took _ p.1),
      taken_cells _ _ _ _ _ p.0 _ _ _ took p.2,
      word_stays _ _ _ _ t (ap (λ (z : ActorRow). z.hand.fresh) c.take_shard.ensures) p.3,
      given_at _ _ _ took p.4,
      kept_gone _ _ _ took p.5,
    )

pub invariant_of-self-in-Err : goal.invariant_of-self-in-Err
invariant_of-self-in-Err c =
    let took = c.in-Err.ensures.took.0 in
    let p = c.self.invariant in
    let t = c.try_shard.ensures.table.0 in (
      missed_pass _ _ _ _ _ p.0 _ _ _ took _ c.miss_shard.ensures,
      subst (λ (t : TableId). AreNear t.words c.try_shard.new.seat.me.0.mine.named) (sym t) (missed_near _ _ _ _ _ p.0 _ _ _ took _ p.1),
      missed_cells _ _ _ _ _ p.0 _ _ _ took p.2,
      word_stays _ _ _ _ t (ap (λ (z : ActorRow). z.hand.fresh) c.miss_shard.ensures) p.3,
      given_at _ _ _ took p.4,
      kept_gone _ _ _ took p.5,
    )

pub returns-in-Ok-clause-told : goal.returns-in-Ok-clause-told
returns-in-Ok-clause-told c = taken_told _ _ _ _ _ c.self.invariant.0 _ _ _ c.in-Ok.ensures.took.0 c.args.id (ap (λ i. i % 16) c.get.ensures.same) _ c.record_in-kept.ensures _ _ c.self.view_is

pub returns-in-Err-clause-told : goal.returns-in-Err-clause-told
returns-in-Err-clause-told c = missed_told _ _ _ _ _ c.self.invariant.0 _ _ _ c.in-Err.ensures.took.0 c.args.id (ap (λ i. i % 16) c.get.ensures.same) c.in-Err.ensures.took.1 _ _ c.self.view_is c.requires.free
