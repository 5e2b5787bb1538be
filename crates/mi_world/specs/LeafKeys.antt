-- What a log shows to a reader: its live objects, each under its key in the leaf that it belongs to.
use Rattle.std.specs.Prelude.{◌-◌, ◌^◌, ℕ, ℤ, List, length, map}
use Rattle.mi_base.specs.declared.limits.TheConstants.{MAX_ID}
use Rattle.mi_base.specs.declared.records.LogEvent.{LogEvent}
use Rattle.mi_base.specs.Configuration.{Configuration, space_of}
use Rattle.mi_base.specs.History.{updates_of}
use Rattle.mi_base.specs.Permutations.{distances}
use Rattle.mi_base.specs.Sorting.{sorted}
use Rattle.mi_key.specs.Clusters.{cluster_of}
use Rattle.mi_key.specs.declared.keys.KeyParts.{KeyParts}
use Rattle.mi_key.specs.Keys.{key_of}
use Rattle.mi_key.specs.Shown.{Shown, shown_cmp}
use Rattle.mi_tree.specs.Births.{Born, born, object_born}
use Rattle.mi_tree.specs.Cells.{leaf_of}
use Rattle.mi_tree.specs.Placing.{grid_under}

-- the key in the cell of a prefix, for a key distance, an identifier and a birth number
abbrev pub key_under : Configuration → List ℕ → ℕ → ℕ → ℕ → ℕ
key_under c prefix distance id birth = key_of (record { cluster = cluster_of (length c.pivots) c.levels prefix; distance = distance; id = id; birth = birth })

-- the least and the greatest key of a cell
abbrev pub least_key : Configuration → List ℕ → ℕ
least_key c prefix = key_under c prefix 0 0 0

abbrev pub greatest_key : Configuration → List ℕ → ℕ
greatest_key c prefix = key_under c prefix (2 ^ 27 - 1) MAX_ID (2 ^ 30 - 1)

-- the parts of an object's key in the leaf that it belongs to after a log, and that key
abbrev pub leaf_parts : Configuration → List LogEvent → ℕ → List ℤ → ℕ → KeyParts
leaf_parts c log id vector birth = record {
  cluster = cluster_of (length c.pivots) c.levels (leaf_of (grid_under c) log ((grid_under c).perm vector));
  distance = (grid_under c).distance vector;
  id = id;
  birth = birth;
}

abbrev pub leaf_key : Configuration → List LogEvent → ℕ → List ℤ → ℕ → ℕ
leaf_key c log id vector birth = key_of (leaf_parts c log id vector birth)

-- a live object shows its key in its leaf, and its distances
abbrev pub shown_as : Configuration → List LogEvent → Born → Shown
shown_as c log b = record {
  key = leaf_key c log b.id b.vector b.birth;
  offering = record { object = object_born b; dists = distances (space_of c) b.vector };
}

-- what a log shows to a reader: the live objects, in key order
abbrev pub shown : Configuration → List LogEvent → List Shown
shown c log = sorted shown_cmp (map (shown_as c log) (born (updates_of log)))
