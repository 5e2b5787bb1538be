-- The entry of an object that is inserted next.
use Rattle.std.proofs.Common.{◌≡◌, ◌≤◌, ◌<◌, ℕ, List, true, length, sym, ap, ◌∙◌, subst, arith}
use Rattle.mi_base.specs.declared.records.LogEvent.{LogEvent}
use Rattle.mi_base.specs.Configuration.{Configuration, IsWithinLimits, metric_space}
use Rattle.mi_base.specs.History.{updates_of}
use Rattle.mi_base.specs.Permutations.{begins}
use Rattle.mi_base.specs.Space.{IsMetric}
use Rattle.mi_key.specs.declared.entries.Entry.{Entry}
use Rattle.mi_key.specs.Keys.{parts_of}
use Rattle.mi_tree.specs.Births.{Born}
use Rattle.mi_tree.specs.Cells.{AllMaySplit, Grid, is_leaf, leaf_of}
use Rattle.mi_tree.specs.Legal.{LegalLog}
use Rattle.mi_tree.proofs.LeafLemmas.{leaf_is}
use Rattle.mi_tree.proofs.LegalLemmas.{all_may}
use Rattle.mi_entries.specs.Entries.{FitsKey, IsNewEntry, born_in, depth_of, grid, id_of, key_down, key_in}
use Rattle.mi_entries.proofs.DepthLemmas.{depth_deep}
use Rattle.mi_entries.proofs.KeyedLemmas.{distance_small, is_keyed}

module _ (c : Configuration) (limits : IsWithinLimits c) (metric : IsMetric (metric_space c)) (log : List LogEvent) (legal : LegalLog c log) (few : length (updates_of log) < c.updates)
    (leaf : List ℕ) (id : ℕ) (e : Entry) (present : is_leaf (grid c) log leaf ≡ true) (under : begins leaf ((grid c).perm e.vector) ≡ true) (new : IsNewEntry c log leaf id e) where
  abbrev g : Grid
  g = grid c

  abbrev object : Born
  object = record { id = id; vector = e.vector; birth = e.birth }

  may_split : AllMaySplit g log
  may_split = all_may c log legal

  -- the leaf is the object's
  pub its_leaf : leaf ≡ leaf_of g log (g.perm e.vector)
  its_leaf = leaf_is g (is_keyed c limits).grid log may_split leaf e.vector present under

  -- the object's parts fit into a key
  pub fits : FitsKey g object
  fits = record {
    id = new.small;
    distance = distance_small c limits metric e.vector new.fits;
    birth = (let n = new.birth in let f = few in let u = limits.updates.1 in omega arith);
  }

  pub key_is : e.key ≡ key_down g (depth_of g log e) object
  key_is = new.key ∙ ap (λ (q : List ℕ). key_in g q object) its_leaf

  deep : depth_of g log e ≤ c.levels
  deep = depth_deep g (is_keyed c limits) log may_split (g.perm e.vector)

  pub named : id_of e ≡ id
  named = ap (λ n. (parts_of n).id) key_is ∙ (is_keyed c limits).named object fits (depth_of g log e) deep

  pub aged : (parts_of e.key).birth ≡ e.birth
  aged = ap (λ n. (parts_of n).birth) key_is ∙ (is_keyed c limits).aged object fits (depth_of g log e) deep

  pub key_here : e.key ≡ key_down g (depth_of g log e) (born_in e)
  key_here = key_is ∙ ap (λ (n : ℕ). key_down g (depth_of g log e) (record { id = n; vector = e.vector; birth = e.birth })) (sym named)

  pub fits_here : FitsKey g (born_in e)
  fits_here = subst (λ (n : ℕ). FitsKey g (record { id = n; vector = e.vector; birth = e.birth })) (sym named) fits
