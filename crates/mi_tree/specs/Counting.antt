-- The leaves after a log, each with its count and hull, counted over all live objects at once.
use Rattle.std.specs.Prelude.{◌+◌, ◌-◌, ◌*◌, ◌∷◌, ◌++◌, [], ℕ, List, Bool, cond, not, length, map, min, max, nat_lt, nat_le, false, ◌&&◌, Option, Some, None}
use Rattle.std.specs.List.{filter, fold, list_any}
use Rattle.mi_base.specs.declared.records.Update.TheVariants.{Insert, Delete}
use Rattle.mi_base.specs.declared.records.LogEvent.{LogEvent}
use Rattle.mi_base.specs.declared.records.LogEvent.TheVariants.{Update as Made, Split}
use Rattle.mi_base.specs.Permutations.{begins}
use Rattle.mi_base.specs.History.{Object, live_after}
use Rattle.mi_tree.specs.declared.outcomes.Leaf.{Leaf}
use Rattle.mi_tree.specs.declared.counts.Placed.{Placed}
use Rattle.mi_tree.specs.Cells.{Grid, leaves, children, same_cell}

-- the least interval that has a number too
abbrev pub widen : ℕ → Option (ℕ × ℕ) → Option (ℕ × ℕ)
widen d None = Some (d, d)
widen d (Some h) = Some (min h.0 d, max h.1 d)

-- the least interval of numbers, or none
abbrev pub hull_of : List ℕ → Option (ℕ × ℕ)
hull_of [] = None
hull_of (d ∷ ds) = widen d (hull_of ds)

-- a number is in an interval; none is in no interval
abbrev pub in_hull : ℕ → Option (ℕ × ℕ) → Bool
in_hull d None = false
in_hull d (Some h) = nat_le h.0 d && nat_le d h.1

-- the live objects after a log, and those that were put into the leaves of that time
pub record Population : Type 0 where
  pub live : List Object
  pub put_in : List Object

-- an object belongs to the leaf whose prefix begins its permutation
abbrev pub belongs : Grid → List ℕ → Object → Bool
belongs g p o = begins p (g.perm o.vector)

-- an insert puts its object into a leaf, a delete takes none out, a split puts the live objects of its leaf into the children
abbrev pub population_after : Grid → Population → LogEvent → Population
population_after g h (Made session op (Insert id vector)) = record { live = live_after h.live (Insert id vector); put_in = record { id = id; vector = vector } ∷ h.put_in }
population_after g h (Made session op (Delete id)) = record { live = live_after h.live (Delete id); put_in = h.put_in }
population_after g h (Split p) = record { live = h.live; put_in = filter (λ o. not (belongs g p o)) h.put_in ++ filter (belongs g p) h.live }

abbrev pub population : Grid → List LogEvent → Population
population g log = fold (population_after g) (record { live = []; put_in = [] }) log

-- a leaf counts the live objects that belong to it, and its hull is that of all that were put into it
abbrev pub leaf_with : Grid → Population → List ℕ → Leaf
leaf_with g h p = record {
  prefix = p;
  count = length (filter (belongs g p) h.live);
  hull = hull_of (map (λ o. g.distance o.vector) (filter (belongs g p) h.put_in));
}

-- the leaves after a log, in dictionary order of their prefixes
abbrev pub catalog_after : Grid → List LogEvent → List Leaf
catalog_after g log = map (leaf_with g (population g log)) (leaves g log)

-- a leaf may be split: it is above the greatest depth
abbrev pub is_splittable : ℕ → Leaf → Bool
is_splittable levels leaf = nat_lt (length leaf.prefix) levels

-- a leaf is to be split: it may be, and has more than so many objects
abbrev pub is_wanted : ℕ → ℕ → Leaf → Bool
is_wanted levels cell leaf = is_splittable levels leaf && nat_lt cell leaf.count

-- an insert may not enter a leaf: it may be split, and has four times the cell size
abbrev pub is_crowded : ℕ → ℕ → Leaf → Bool
is_crowded levels cell leaf = is_splittable levels leaf && nat_le (4 * cell) leaf.count

-- more than a leaf may ever hold that may be split
abbrev pub is_overfull : ℕ → ℕ → Leaf → Bool
is_overfull levels cell leaf = is_splittable levels leaf && nat_lt (4 * cell) leaf.count

-- an object as a catalog is told of it
abbrev pub placed_object : Grid → Object → Placed
placed_object g o = record { perm = g.perm o.vector; distance = g.distance o.vector }

-- one more object with this permutation and key distance
abbrev pub with_added : List ℕ → ℕ → Leaf → Leaf
with_added perm d leaf = cond (begins leaf.prefix perm) (record { prefix = leaf.prefix; count = leaf.count + 1; hull = widen d leaf.hull }) leaf

-- one object less with this permutation
abbrev pub with_removed : List ℕ → Leaf → Leaf
with_removed perm leaf = cond (begins leaf.prefix perm) (record { prefix = leaf.prefix; count = leaf.count - 1; hull = leaf.hull }) leaf

-- the leaf of a prefix with those of the objects that belong to it
abbrev pub leaf_among : List Placed → List ℕ → Leaf
leaf_among objects p = record {
  prefix = p;
  count = length (filter (λ o. begins p o.perm) objects);
  hull = hull_of (map (λ o. o.distance) (filter (λ o. begins p o.perm) objects));
}

-- the children of p in place of its leaf, with these objects
abbrev pub split_leaf : ℕ → List ℕ → List Placed → Leaf → List Leaf
split_leaf pivots p objects leaf = cond (same_cell p leaf.prefix) (map (leaf_among objects) (children pivots p)) (leaf ∷ [])

-- the leaves whose prefix begins a permutation
abbrev pub leaves_beginning : List ℕ → List Leaf → List Leaf
leaves_beginning perm ls = filter (λ l. begins l.prefix perm) ls

-- a leaf has this prefix
abbrev pub has_leaf : List ℕ → List Leaf → Bool
has_leaf p ls = list_any (λ l. same_cell p l.prefix) ls
