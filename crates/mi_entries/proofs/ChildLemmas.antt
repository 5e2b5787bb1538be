-- The copy of a gathered entry lies in the child of its own leaf.
use Rattle.std.proofs.Common.{◌≡◌, ℕ, Bool, ◌+◌, List, map, take, true, ◌&&◌, nat_lt, sym, ap, subst, None}
use Rattle.std.specs.List.{AllByRecursion}
use Rattle.mi_base.specs.declared.records.LogEvent.{LogEvent}
use Rattle.mi_key.specs.declared.entries.Entry.{Entry}
use Rattle.mi_tree.specs.Cells.{Grid, AllMaySplit}
use Rattle.mi_entries.specs.Entries.{born_in, counts, depth_of, is_under, key_down, under}
use Rattle.mi_entries.specs.Splits.{IsWork, copy_in_child}
use Rattle.mi_entries.specs.Actors.{SplitWork}
use Rattle.mi_entries.proofs.DepthLemmas.{IsKeyed, leaf_deep}
use Rattle.mi_entries.proofs.FilterLemmas.{all_passes}
use Rattle.mi_base.proofs.SortingLemmas.{filter_keeps}
use Rattle.mi_tree.proofs.ListLemmas.{all_take, all_weaker, map_same}

-- an entry in the child of its leaf
abbrev pub child_entry : Grid → List LogEvent → Entry → Entry
child_entry g log e = record { key = key_down g (depth_of g log e + 1) (born_in e); vector = e.vector; dists = e.dists; birth = e.birth; death = None }

module _ (g : Grid) (ok : IsKeyed g) (log : List LogEvent) (legal : AllMaySplit g log) (entries : List Entry) (w : SplitWork) (work : IsWork g log entries w) where
  abbrev F : Entry → Bool
  F e = counts g log e && nat_lt e.key w.mark

  under_work : AllByRecursion (λ e. is_under g w.leaf e ≡ true) w.gathered
  under_work = subst (AllByRecursion (λ (e : Entry). is_under g w.leaf e ≡ true)) (sym work.gathered)
      (filter_keeps (λ e. is_under g w.leaf e ≡ true) F (under g w.leaf entries) (all_passes (is_under g w.leaf) entries))

  one_same : (e : Entry) → is_under g w.leaf e ≡ true → copy_in_child g w.leaf e ≡ child_entry g log e
  one_same e t = ap (λ (d : ℕ). let x : Entry = record { key = key_down g (d + 1) (born_in e); vector = e.vector; dists = e.dists; birth = e.birth; death = None } in x) (sym (leaf_deep g ok log legal w.leaf e.vector work.leaf t))

  pub all_same : AllByRecursion (λ e. copy_in_child g w.leaf e ≡ child_entry g log e) w.gathered
  all_same = all_weaker _ _ one_same w.gathered under_work

  pub copies_same : (n : ℕ) → map (copy_in_child g w.leaf) (take n w.gathered) ≡ map (child_entry g log) (take n w.gathered)
  copies_same n = map_same (copy_in_child g w.leaf) (child_entry g log) (take n w.gathered) (all_take _ n w.gathered all_same)
