use Rattle.std.proofs.Common.{◌∙◌, ◌++◌, ap, sym, map, arith, None}
use Rattle.std.specs.Prelude.{slice_range}
use Rattle.std.specs.Vec.Iter.{drain_items}
use Rattle.mi_entries.specs.Records.{held_by}
use Rattle.mi_hall.specs.Seats.{rows_in}
use Rattle.mi_hall.proofs.ClosingLemmas.{room_left}
use Rattle.mi_hall.proofs.closing.move_shards.Goals as goal

pub push_reserved-requires : goal.push_reserved-requires
push_reserved-requires c =
    let left = room_left (λ x. held_by None (rows_in x)) c.loop-value.shards.items (drain_items c.next.new.self) (drain_items c.into_iter-value-iterator.result) c.args.values.now.items c.in-Some.value 1
    (sym (ap (λ xs. c.loop-value.shards.items ++ map (λ x. held_by None (rows_in x)) xs) c.in-Some.ensures.steps.0) ∙ c.loop-value.invariant.2)
    (ap drain_items c.into_iter-value-iterator.ensures.into_iter_gives ∙ c.drain-value-items.ensures.rest ∙ ap (slice_range c.args.values.now.items 1) c.args.values.now.ok.0) in
    omega (arith, left, c.loop-value.invariant.3, c.loop-value.shards.ok, c.args.shards.now.ok, c.requires.room.1)
