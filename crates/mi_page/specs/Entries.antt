-- Lists of entries in key order, and what they show.
use Rattle.std.specs.Prelude.{ℕ, List, map, Bool, true, not, ◌&&◌, ◌==◌, nat_le, nat_lt, Option, Some, None, is_none, if◌then◌else◌}
use Rattle.std.specs.declared.cmp.Ordering.{Ordering}
use Rattle.std.specs.Ordering.{nat_cmp, on}
use Rattle.std.specs.List.{filter, list_any}
use Rattle.mi_base.specs.Prefixes.{has}
use Rattle.mi_key.specs.declared.entries.Entry.{Entry}
use Rattle.mi_key.specs.declared.ranges.Interval.{Interval}
use Rattle.mi_key.specs.Ranges.{is_within}

abbrev pub entry_keys : List Entry → List ℕ
entry_keys entries = map (λ e. e.key) entries

-- by key
abbrev pub entry_cmp : Entry → Entry → Ordering
entry_cmp = on (λ e. e.key) nat_cmp

-- an entry has this key
abbrev pub has_entry : ℕ → List Entry → Bool
has_entry key entries = has key (entry_keys entries)

-- an entry has this key, and no death
abbrev pub has_living : ℕ → List Entry → Bool
has_living key entries = list_any (λ e. (e.key == key) && is_none e.death) entries

-- a death comes after so many updates, or there is none
abbrev pub outlives : Option ℕ → ℕ → Bool
outlives None updates = true
outlives (Some death) updates = nat_lt updates death

-- the entry is shown at a position with so many updates: it was born by then, and its death comes later
abbrev pub is_shown : ℕ → Entry → Bool
is_shown updates e = nat_le e.birth updates && outlives e.death updates

-- the entries of an interval that are shown at a position with so many updates
abbrev pub shown_in : Interval → ℕ → List Entry → List Entry
shown_in range updates entries = filter (λ e. is_within range e.key && is_shown updates e) entries

-- the entry of this key gets a death
abbrev pub with_death : ℕ → ℕ → Entry → Entry
with_death key number e =
    if e.key == key
    then record { key = e.key; vector = e.vector; dists = e.dists; birth = e.birth; death = Some number }
    else e

-- all but the entry of this key
abbrev pub without_key : ℕ → List Entry → List Entry
without_key key entries = filter (λ e. not (e.key == key)) entries

-- all but the entries whose death is at most the floor
abbrev pub without_dead : ℕ → List Entry → List Entry
without_dead floor entries = filter (λ e. outlives e.death floor) entries

-- all but the entries of the interval
abbrev pub without_interval : Interval → List Entry → List Entry
without_interval range entries = filter (λ e. not (is_within range e.key)) entries
