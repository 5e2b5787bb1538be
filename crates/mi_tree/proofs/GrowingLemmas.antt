-- Logs that go on, and their ends.
use Rattle.std.proofs.Common.{◌≡◌, ℕ, ◌+◌, ◌≤◌, List, [], ◌++◌, length, take, refl, sym, ap, ◌∙◌, arith, length-append, append-nil, append_assoc}
use Rattle.std.proofs.lemmas.List.{length-map, take-append-le, take_all}
use Rattle.mi_base.specs.declared.records.LogEvent.{LogEvent}
use Rattle.mi_base.specs.declared.records.Position.{Position}
use Rattle.mi_base.specs.History.{entered, updates_of, splits_of, events_at, at_position, end_of, IsPosition}
use Rattle.mi_base.proofs.HistoryLemmas.{few_updates}
use Rattle.mi_tree.specs.Growing.{Grows, GrowsBySplits}

pub grows_none : (log : List LogEvent) → Grows log log
grows_none log = record { by = []; is = sym (append-nil log) }

pub grows_on : (old mid new : List LogEvent) → Grows old mid → Grows mid new → Grows old new
grows_on old mid new a b = record { by = a.by ++ b.by; is = b.is ∙ ap (λ l. l ++ b.by) a.is ∙ append_assoc old a.by b.by }

pub grows_length : (old new : List LogEvent) → Grows old new → length old ≤ length new
grows_length old new g = omega (arith, ap length g.is, length-append old g.by)

-- splits after splits
pub splits_on : (old mid new : List LogEvent) → GrowsBySplits old mid → GrowsBySplits mid new → GrowsBySplits old new
splits_on old mid new a b = record { grows = grows_on old mid new a.grows b.grows; enters = b.enters ∙ a.enters }

-- each update is entered once
pub length-updates_of : (log : List LogEvent) → length (updates_of log) ≡ length (entered log)
length-updates_of log = length-map (entered log) (λ e. e.update)

-- a prefix of a log is the same prefix of one that goes on
pub at_grows : (log more : List LogEvent) (p : Position) → IsPosition log p → at_position (log ++ more) p ≡ at_position log p
at_grows log more p is = take-append-le (events_at p) log more is.within

pub position_grows : (log more : List LogEvent) (p : Position) → IsPosition log p → IsPosition (log ++ more) p
position_grows log more p is = record {
  within = omega (arith, is.within, length-append log more);
  updates = ap (λ l. length (updates_of l)) (at_grows log more p is) ∙ is.updates;
}

-- the end of a log is a position, and its prefix is the log
pub end_events : (log : List LogEvent) → length (updates_of log) + splits_of log ≡ length log
end_events log = omega (arith, few_updates log)

pub at_end : (log : List LogEvent) → at_position log (end_of log) ≡ log
at_end log = ap (λ n. take n log) (end_events log) ∙ take_all (length log) log (omega arith)

pub end_is : (log : List LogEvent) → IsPosition log (end_of log)
end_is log = record { within = omega (arith, end_events log); updates = ap (λ (l : List LogEvent). length (updates_of l)) (at_end log) }
