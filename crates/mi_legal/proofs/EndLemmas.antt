-- Answers at the end of a log.
use Rattle.std.proofs.Common.{◌≡◌, ℕ, ℤ, ◌+◌, List, length, sym, ap, ◌∙◌, subst}
use Rattle.mi_base.specs.declared.records.LogEvent.{LogEvent}
use Rattle.mi_base.specs.declared.records.Position.{Position}
use Rattle.mi_base.specs.declared.records.Row.{Row}
use Rattle.mi_base.specs.Configuration.{Configuration, metric_space, space_of}
use Rattle.mi_base.specs.History.{end_of, nearest_scan, range_scan, updates_of}
use Rattle.mi_legal.specs.Right.{IsNearest, IsRange}
use Rattle.mi_rules.specs.Passing.{candidates, kth_distance, opened_count, reached_count}
use Rattle.mi_tree.proofs.GrowingLemmas.{at_end, end_is}

pub range_at_end : (c : Configuration) (log : List LogEvent) (radius : ℕ) (query : List ℤ) (at : Position) (rows : List Row) (cells distances : ℕ) → at ≡ end_of log
    → rows ≡ range_scan (metric_space c) (updates_of log) query radius → cells ≡ opened_count (space_of c) c.levels log query radius
    → distances ≡ length c.pivots + length (candidates (space_of c) c.levels log query radius) → IsRange c log radius query at rows cells distances
range_at_end c log radius query at rows cells distances at_is rows_are cells_are distances_are =
    let whole = sym (at_end log) in
    subst (λ (p : Position). IsRange c log radius query p rows cells distances) (sym at_is) (record {
      position = end_is log;
      rows_are = rows_are ∙ ap (λ (l : List LogEvent). range_scan (metric_space c) (updates_of l) query radius) whole;
      cells_are = cells_are ∙ ap (λ (l : List LogEvent). opened_count (space_of c) c.levels l query radius) whole;
      distances_are = distances_are ∙ ap (λ (l : List LogEvent). length c.pivots + length (candidates (space_of c) c.levels l query radius)) whole;
    })

pub nearest_at_end : (c : Configuration) (log : List LogEvent) (count : ℕ) (query : List ℤ) (at : Position) (rows : List Row) (cells : ℕ) → at ≡ end_of log
    → rows ≡ nearest_scan (metric_space c) (updates_of log) query count → cells ≡ reached_count (space_of c) c.levels log query (kth_distance count rows) → IsNearest c log count query at rows cells
nearest_at_end c log count query at rows cells at_is rows_are cells_are =
    let whole = sym (at_end log) in
    subst (λ (p : Position). IsNearest c log count query p rows cells) (sym at_is) (record {
      position = end_is log;
      rows_are = rows_are ∙ ap (λ (l : List LogEvent). nearest_scan (metric_space c) (updates_of l) query count) whole;
      cells_are = cells_are ∙ ap (λ (l : List LogEvent). reached_count (space_of c) c.levels l query (kth_distance count rows)) whole;
    })
