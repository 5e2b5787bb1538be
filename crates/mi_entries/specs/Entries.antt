-- What the entries of the leaf pages are and show, all of them as one list in key order.
use Rattle.std.specs.Prelude.{◌≡◌, ◌≤◌, ◌<◌, ◌⊎◌, ℕ, ℤ, ◌+◌, ◌-◌, ◌^◌, ◌==◌, ◌&&◌, List, Bool, true, false, length, map, take, nat_lt, Some, None, slice_get, IsTrue}
use Rattle.std.specs.List.{filter, list_any}
use Rattle.mi_base.specs.declared.records.Update.TheVariants.{Insert}
use Rattle.mi_base.specs.declared.records.LogEvent.{LogEvent}
use Rattle.mi_base.specs.Configuration.{Configuration, metric_space, space_of}
use Rattle.mi_base.specs.History.{updates_of}
use Rattle.mi_base.specs.Permutations.{begins, distances, key_distance}
use Rattle.mi_base.specs.Sorting.{SameElements}
use Rattle.mi_key.specs.declared.entries.Entry.{Entry}
use Rattle.mi_key.specs.Clusters.{cluster_of}
use Rattle.mi_key.specs.Keys.{key_of, parts_of}
use Rattle.mi_page.specs.Entries.{is_shown}
use Rattle.mi_tree.specs.Cells.{Grid, depth, grid_of}
use Rattle.mi_tree.specs.Births.{Born, born}
use Rattle.mi_entries.specs.Deaths.{IsFirstDelete, updates_by}
use Rattle.mi_entries.specs.Actors.{Actor, SplitWork, SweepWork}
use Rattle.mi_entries.specs.Records.{ShardRecord}

-- how the space of settings places vectors
abbrev pub grid : Configuration → Grid
grid c = grid_of (space_of c) c.levels

-- the key of an object in the cell of a prefix
abbrev pub key_in : Grid → List ℕ → Born → ℕ
key_in g q o = key_of (record { cluster = cluster_of g.pivots g.levels q; distance = g.distance o.vector; id = o.id; birth = o.birth })

-- the key of a recorded object in the cell of a prefix
abbrev pub record_key : Grid → List ℕ → ShardRecord → ℕ
record_key g q x = key_of (record { cluster = cluster_of g.pivots g.levels q; distance = key_distance x.dists; id = x.id; birth = x.birth })

-- its key in the cell of its permutation at a depth
abbrev pub key_down : Grid → ℕ → Born → ℕ
key_down g d o = key_in g (take d (g.perm o.vector)) o

-- an entry's identifier, which stands in its key
abbrev pub id_of : Entry → ℕ
id_of e = (parts_of e.key).id

-- an entry's object with its birth
abbrev pub born_in : Entry → Born
born_in e = record { id = id_of e; vector = e.vector; birth = e.birth }

-- the depth of the leaf of an entry's object after a log
abbrev pub depth_of : Grid → List LogEvent → Entry → ℕ
depth_of g log e = depth g log (g.perm e.vector)

-- an entry lies in the cell of its object's permutation at a depth
abbrev pub is_down : Grid → ℕ → Entry → Bool
is_down g d e = e.key == key_down g d (born_in e)

-- an entry lies in the leaf of its object after a log
abbrev pub is_placed : Grid → List LogEvent → Entry → Bool
is_placed g log e = is_down g (depth_of g log e) e

-- an entry lies in a child of the leaf of its object
abbrev pub is_ahead : Grid → List LogEvent → Entry → Bool
is_ahead g log e = nat_lt (depth_of g log e) g.levels && is_down g (depth_of g log e + 1) e

-- the prefix begins the permutation of an entry's object
abbrev pub is_under : Grid → List ℕ → Entry → Bool
is_under g p e = begins p (g.perm e.vector)

-- the entries of objects whose permutation begins so
abbrev pub under : Grid → List ℕ → List Entry → List Entry
under g p entries = filter (is_under g p) entries

-- an entry lies in a cell
abbrev pub is_in : Grid → List ℕ → Entry → Bool
is_in g q e = is_down g (length q) e && is_under g q e

-- an entry counts at the end of a log: it is shown there, and lies in a leaf of that time
abbrev pub counts : Grid → List LogEvent → Entry → Bool
counts g log e = is_shown (length (updates_of log)) e && is_placed g log e

-- the entries that count at the end of a log are of the live objects, each once
pub record Shows (g : Grid) (log : List LogEvent) (entries : List Entry) : Type 0 where
  pub same : SameElements (map born_in (filter (counts g log) entries)) (born (updates_of log))

-- an object's parts fit into a key
pub record FitsKey (g : Grid) (o : Born) : Type 0 where
  pub id : o.id < 2 ^ 40
  pub distance : g.distance o.vector < 2 ^ 27
  pub birth : o.birth < 2 ^ 30

-- an entry's object was inserted at its birth; it has its object's distances, and lies in a cell of its permutation, at most one below its leaf.
-- Its death is the first delete of its object. A delete gave a death to the entry in the leaf of that time, and found none deeper.
pub record IsEntry (c : Configuration) (log : List LogEvent) (e : Entry) : Type 0 where
  pub born : (0 < e.birth) × (slice_get (updates_of log) (e.birth - 1) ≡ Some (Insert (id_of e) e.vector))
  pub dists : e.dists.items ≡ distances (space_of c) e.vector
  pub fits : FitsKey (grid c) (born_in e)
  pub down : ℕ
  pub deep : down ≤ c.levels
  pub near : down ≤ depth_of (grid c) log e + 1
  pub keyed : e.key ≡ key_down (grid c) down (born_in e)
  pub death : (d : ℕ) → e.death ≡ Some d → (k : ℕ) × IsFirstDelete log (id_of e) e.birth k × (d ≡ updates_by log k + 1)
  pub died : (k : ℕ) → IsFirstDelete log (id_of e) e.birth k → down ≡ depth_of (grid c) (take k log) e → e.death ≡ Some (updates_by log k + 1)
  pub none_deeper : (k : ℕ) → IsFirstDelete log (id_of e) e.birth k → down ≤ depth_of (grid c) (take k log) e

-- an actor splits a leaf to which these vectors belong
pub record IsWorked (g : Grid) (actors : List Actor) (vector : List ℤ) : Type 0 where
  pub by : ℕ
  pub actor : Actor
  pub there : slice_get actors by ≡ Some actor
  pub work : SplitWork
  pub split : actor.split ≡ Some work
  pub under : begins work.leaf (g.perm vector) ≡ true

-- an actor sweeps the entry's cell, and hasn't reached its key
pub record IsUnswept (g : Grid) (actors : List Actor) (e : Entry) : Type 0 where
  pub by : ℕ
  pub actor : Actor
  pub there : slice_get actors by ≡ Some actor
  pub work : SweepWork
  pub sweep : actor.sweep ≡ Some work
  pub lies : is_in g work.leaf e ≡ true
  pub ahead : work.mark ≤ e.key

-- an entry below its leaf is a copy of a split under way, and has no death; one above it lies in a retired leaf, or where a sweep hasn't come yet
pub record HasPlace (c : Configuration) (log : List LogEvent) (actors : List Actor) (retired : List (List ℕ)) (e : Entry) : Type 0 where
  pub is : IsEntry c log e
  pub copied : is.down ≡ depth_of (grid c) log e + 1 → (e.death ≡ None) × IsWorked (grid c) actors e.vector
  pub left : is.down < depth_of (grid c) log e → (list_any (λ q. is_in (grid c) q e) retired ≡ true) ⊎ IsUnswept (grid c) actors e

-- the entry, in this leaf, of an object that is inserted next under this identifier
pub record IsNewEntry (c : Configuration) (log : List LogEvent) (leaf : List ℕ) (id : ℕ) (e : Entry) : Type 0 where
  pub small : id < 2 ^ 40
  pub fits : IsTrue ((metric_space c).fits e.vector)
  pub birth : e.birth ≡ length (updates_of log) + 1
  pub dists : e.dists.items ≡ distances (space_of c) e.vector
  pub death : e.death ≡ None
  pub key : e.key ≡ key_in (grid c) leaf (record { id = id; vector = e.vector; birth = e.birth })

-- nobody splits the leaf of this permutation
abbrev pub NobodySplits : List Actor → List ℕ → Type 0
NobodySplits actors perm = (a : ℕ) (r : Actor) (w : SplitWork) → slice_get actors a ≡ Some r → r.split ≡ Some w → begins w.leaf perm ≡ false
