-- Many events keep what one does.
use Rattle.std.proofs.Common.{sym, subst}
use Rattle.mi_core.specs.Kept.{Kept}
use Rattle.mi_core.specs.Law.{Here, Reaches, Step}
use Rattle.mi_core.specs.State.{State}
use Rattle.mi_core.proofs.KeptEvents.{each_keeps}

pub reached_kept : (s : State) → Kept s → (t : State) → Reaches s t → Kept t
reached_kept s k _ Here = k
reached_kept s k _ (Step t u a r l) = subst Kept (sym l.is) (each_keeps l.event t (reached_kept s k t r) a l.actor l.there l.going l.can)
