-- Positions and floors as a log grows.
use Rattle.std.proofs.Common.{◌≡◌, ℕ, ◌≤◌, List, [], ◌∷◌, ◌++◌, length, Bool, true, false, cond, nat_le, refl, ap, ◌∙◌, sym, arith, Option, Some, None, length-append, take}
use Rattle.std.proofs.lemmas.Bool.{leb-true}
use Rattle.std.proofs.lemmas.List.{take_all, take-append-le}
use Rattle.mi_base.specs.declared.records.LogEvent.{LogEvent}
use Rattle.mi_base.specs.declared.records.Position.{Position}
use Rattle.mi_base.specs.Configuration.{Configuration}
use Rattle.mi_base.specs.History.{IsPosition, at_position, end_of, events_at, updates_of}
use Rattle.mi_base.proofs.HistoryLemmas.{few_updates}
use Rattle.mi_board.specs.declared.actors.ActorState.{ActorState}
use Rattle.mi_board.specs.declared.shared.KeptCatalog.{KeptCatalog}
use Rattle.mi_board.specs.Boards.{cells_in}
use Rattle.mi_board.specs.Floors.{earlier, least_pin}
use Rattle.mi_board.specs.Kept.{IsShared}

pub end_events : (log : List LogEvent) → events_at (end_of log) ≡ length log
end_events log = omega (arith, few_updates log)

-- all of a log is before its end
pub at_end : (log : List LogEvent) → at_position log (end_of log) ≡ log
at_end log = take_all (events_at (end_of log)) log (omega (arith, few_updates log))

pub end_position : (log : List LogEvent) → IsPosition log (end_of log)
end_position log = record {
  within = omega (arith, few_updates log);
  updates = ap (λ (l : List LogEvent). length (updates_of l)) (at_end log);
}

-- a position names the same part of a log that goes on
pub at_more : (log xs : List LogEvent) (p : Position) → IsPosition log p → at_position (log ++ xs) p ≡ at_position log p
at_more log xs p h = take-append-le (events_at p) log xs h.within

pub position_more : (log xs : List LogEvent) (p : Position) → IsPosition log p → IsPosition (log ++ xs) p
position_more log xs p h = record {
  within = (let w = h.within in omega (arith, length-append log xs));
  updates = ap (λ (l : List LogEvent). length (updates_of l)) (at_more log xs p h) ∙ h.updates;
}

-- the kept catalog stays that of its position
pub shared_more : (c : Configuration) (log xs : List LogEvent) (kept : Option KeptCatalog) → IsShared c log kept → IsShared c (log ++ xs) kept
shared_more c log xs None h = tt
shared_more c log xs (Some k) h = (position_more log xs k.at h.0, h.1 ∙ ap (cells_in c) (sym (at_more log xs k.at h.0)))

pub earlier_low : (o : Option Position) (q : Position) → events_at (earlier o q) ≤ events_at q
earlier_low None q = omega arith
earlier_low (Some p) q =
    let Q : Bool → Type 0 = λ b. nat_le (events_at p) (events_at q) ≡ b → events_at (cond b p q) ≤ events_at q in
    (elim (nat_le (events_at p) (events_at q)) as Q [ true ↦ λ s. leb-true (events_at p) (events_at q) s | false ↦ λ s. omega arith ]) refl

-- no pin is after the end
pub least_low : (end : Position) (actors : List ActorState) → events_at (least_pin end actors) ≤ events_at end
least_low end [] = omega arith
least_low end (a ∷ actors) = omega (arith, earlier_low a.pin (least_pin end actors), least_low end actors)
