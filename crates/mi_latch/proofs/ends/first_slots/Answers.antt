use Rattle.std.proofs.Common.{ap, sym, replicate, ◌∙◌}
use Rattle.mi_base.specs.Configuration.{Configuration}
use Rattle.mi_board.specs.Actors.{idle}
use Rattle.mi_board.specs.Boards.{opened_board}
use Rattle.mi_latch.proofs.Parting.{cells_are}
use Rattle.mi_latch.proofs.ends.first_slots.Goals as goal

pub returns : goal.returns
returns c = rw (← c.settings.view_is, c.in_ok-push_vacant.ensures, c.in_ok-push-2.ensures.items, c.in_ok-push_shards.ensures, c.in_ok-push.ensures.items, c.in_ok-slots.ensures.items, c.in_ok-open.ensures ∙ ap (λ (x : Configuration). opened_board x (replicate 1 idle)) (sym c.settings.view_is), c.in_ok-fresh.ensures)
    (cells_are _ _)
