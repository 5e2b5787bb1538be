use Rattle.std.proofs.Common.{◌≡◌, ◌+◌, ◌<◌, ◌++◌, length, ℕ, List, ◌∷◌, arith, ap, sym, ◌∙◌, length-append}
use Rattle.std.specs.Vec.Iter.{drain_items}
use Rattle.std.specs.Prelude.{slice_range}
use Rattle.std.proofs.lemmas.List.Edits.{length-between}
use Rattle.mi_page.proofs.pages.move_upper.Goals as goal

-- an element that is still to be moved has room
room_left : {X : Type 0} (moved rest before drained all : List X) (x : X) (start : ℕ) → moved ++ (x ∷ rest) ≡ before ++ drained → drained ≡ slice_range all start (length all) → length moved < length before + length all
room_left moved rest before drained all x start e d =
    omega (arith, length-append moved (x ∷ rest), length-append before drained, ap length e, ap length d, length-between all start (length all))

pub push_reserved-requires : goal.push_reserved-requires
push_reserved-requires g c =
    let left : length c.loop-item.to.items < length c.args.to.now.items + length c.args.from.now.items =
    room_left c.loop-item.to.items (drain_items c.next.new.self) c.args.to.now.items (drain_items c.into_iter-item-iterator.result) c.args.from.now.items c.in-Some.item c.min-start.result
    (sym (ap (λ xs. c.loop-item.to.items ++ xs) c.in-Some.ensures.steps.0) ∙ c.loop-item.invariant.2)
    (ap drain_items c.into_iter-item-iterator.ensures.into_iter_gives ∙ c.drain-item-items.ensures.rest ∙ ap (slice_range c.args.from.now.items c.min-start.result) c.args.from.now.ok.0) in
    omega (arith, c.loop-item.invariant.3, c.loop-item.to.ok, c.args.from.now.ok, c.args.to.now.ok, c.requires)
