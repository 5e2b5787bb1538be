use Rattle.std.proofs.Common.{subst, sym}
use Rattle.mi_core.specs.Events.Event.{see}
use Rattle.mi_solo.specs.Solos.{MayTurn, SoloState}
use Rattle.mi_solo.proofs.SoloLemmas.{is_going, stays}
use Rattle.mi_solo.proofs.solo.Solo.turn_to.Goals as goal

pub see-requires : goal.see-requires
see-requires c = is_going c.self.inside.core c.args.actor (subst (λ (t : SoloState). MayTurn t.state c.args.actor) (sym c.self.view_is) c.requires)

pub invariant_of-self : goal.invariant_of-self
invariant_of-self c =
    let mine = is_going c.self.inside.core c.args.actor (subst (λ (t : SoloState). MayTurn t.state c.args.actor) (sym c.self.view_is) c.requires) in
    stays c.self.inside.core c.see.new.self c.args.actor c.self.invariant.0 mine see c.see.ensures
