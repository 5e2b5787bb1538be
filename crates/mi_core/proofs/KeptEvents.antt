-- The law of the core: each event of an actor that hasn't ended keeps what is kept.
use Rattle.std.proofs.Common.{◌≡◌, ℕ, suc}
use Rattle.mi_base.specs.Configuration.{Configuration, IsWithinLimits, metric_space}
use Rattle.mi_base.specs.Space.{IsMetric}
use Rattle.mi_core.specs.Events.{Event, opened}
use Rattle.mi_core.specs.Kept.{Kept}
use Rattle.mi_core.specs.Law.{Keeps}
use Rattle.mi_core.proofs.EndedEvents.{event_keeps_ended, opened_ended}
use Rattle.mi_core.proofs.LaterEvents.{event_keeps_notes, opened_notes}
use Rattle.mi_core.proofs.LawLemmas.{event_keeps}
use Rattle.mi_core.proofs.OpeningLemmas.{opened_is_kept}
use Rattle.mi_core.proofs.SingleEvents.{event_keeps_single, opened_single}

pub each_keeps : (e : Event) → Keeps e
each_keeps e s k a r there going can = record {
  sound = event_keeps e s k.sound a r there can;
  noted = event_keeps_notes e s k.sound k.noted a r there can;
  ended = event_keeps_ended e s k.ended a r there going can;
  single = event_keeps_single e s k.single a r can;
}

pub opened_kept : (c : Configuration) → IsWithinLimits c → IsMetric (metric_space c) → (count more : ℕ) → c.pages ≡ suc more → Kept (opened c count more)
opened_kept c limits metric count more pages = record {
  sound = opened_is_kept c limits metric count more pages;
  noted = opened_notes c count more;
  ended = opened_ended c count more;
  single = opened_single c count more;
}
