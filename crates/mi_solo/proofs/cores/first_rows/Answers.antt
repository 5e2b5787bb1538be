use Rattle.std.proofs.Common.{[], ◌∷◌, ◌++◌, ap, ◌∙◌}
use Rattle.mi_core.specs.Events.{first_actor}
use Rattle.mi_solo.specs.States.{actors_of}
use Rattle.mi_solo.proofs.CoreLemmas.{actors_more, one_more_of}
use Rattle.mi_solo.proofs.cores.first_rows.Goals as goal

pub loop-preserved : goal.loop-preserved
loop-preserved c settings = ap (actors_of settings [] 0) c.in_ok-push.ensures.items
    ∙ actors_more settings [] 0 c.loop.rows.items c.first.result first_actor (c.first.ensures settings)
    ∙ ap (λ rs. rs ++ first_actor ∷ []) (c.loop.invariant settings) ∙ one_more_of c.loop.counter first_actor
