-- The entries of the leaf pages from left to right.
use Rattle.std.proofs.Common.{◌≡◌, ◌≢◌, ℕ, ◌<◌, List, ◌∷◌, ◌++◌, true, false, refl, sym, ap, ◌∙◌, subst}
use Rattle.std.specs.List.{AllByRecursion, flat_map, filter}
use Rattle.std.proofs.lemmas.Grind.{flat_map-append}
use Rattle.mi_base.specs.Prefixes.{has}
use Rattle.mi_key.specs.declared.entries.Entry.{Entry}
use Rattle.mi_page.specs.Keys.{Ascending, IsInside, is_below}
use Rattle.mi_page.specs.Entries.{entry_keys}
use Rattle.mi_page.specs.Nodes.{Node, IsNode, in_range}
use Rattle.mi_tree.proofs.ListLemmas.{map-flat, flat_same, all_weaker, all_from_map}
use Rattle.mi_forest.specs.Forests.{Forest, IsForest, IsLinked, all_entries}
use Rattle.mi_forest.proofs.ChainLemmas.{Around, around, chain_ascends}
use Rattle.mi_forest.proofs.ListLemmas.{ChangesAt, own_entries}
use Rattle.mi_forest.proofs.MoveLemmas.{stands}

abbrev entries_at : Forest → List ℕ → List Entry
entries_at f ns = flat_map (λ n. (f.node n).entries) ns

keys_of : (f : Forest) (ns : List ℕ) → flat_map (λ n. entry_keys (f.node n).entries) ns ≡ entry_keys (entries_at f ns)
keys_of f ns = sym (map-flat (λ e. e.key) (λ n. (f.node n).entries) ns)

pub flat_ascends : (f : Forest) → IsForest f → Ascending (entry_keys (all_entries f))
flat_ascends f h = subst Ascending (keys_of f (f.chain 0)) (chain_ascends f.node 0 (λ p. entry_keys p.entries) (λ p i. i.entries) (f.chain 0) (h.chains 0))

around_flat : (f : Forest) (ns before behind : List ℕ) (n : ℕ) → ns ≡ before ++ n ∷ behind → entries_at f ns ≡ entries_at f before ++ ((f.node n).entries ++ entries_at f behind)
around_flat f ns before behind n e = ap (entries_at f) e ∙ flat_map-append (λ m. (f.node m).entries) before (n ∷ behind)

module _ (f : Forest) (h : IsForest f) (n : ℕ) (linked : IsLinked f n) (leaf : (f.node n).level ≡ 0) where
  there : has n (f.chain 0) ≡ true
  there = subst (λ (l : ℕ). has n (f.chain l) ≡ true) leaf linked

  place : Around f.node (λ p. entry_keys p.entries) n (f.chain 0)
  place = around f.node 0 (λ p. entry_keys p.entries) (λ p i. i.entries) n (f.chain 0) (h.chains 0) there

  -- other pages in the place of one, where the others stay
  pub changes_at : (new : Forest) → new.chain 0 ≡ f.chain 0 → ((m : ℕ) → m ≢ n → new.node m ≡ f.node m) → ChangesAt (f.node n) (new.node n).entries (all_entries f) (all_entries new)
  changes_at new chain others =
      let same : (ms : List ℕ) → AllByRecursion (λ m. m ≢ n) ms → entries_at new ms ≡ entries_at f ms =
      λ ms a. flat_same (λ m. (new.node m).entries) (λ m. (f.node m).entries) ms (all_weaker (λ m. m ≢ n) (λ m. (new.node m).entries ≡ (f.node m).entries) (λ m o. ap (λ (p : Node). p.entries) (others m o)) ms a) in
      record {
        before = entries_at f place.before;
        behind = entries_at f place.behind;
        was = around_flat f (f.chain 0) place.before place.behind n place.is;
        is = ap (entries_at new) chain ∙ around_flat new (f.chain 0) place.before place.behind n place.is
            ∙ ap (λ zs. zs ++ ((new.node n).entries ++ entries_at new place.behind)) (same place.before place.apart_before)
            ∙ ap (λ zs. entries_at f place.before ++ ((new.node n).entries ++ zs)) (same place.behind place.apart_behind);
        below = all_from_map (λ (e : Entry). e.key) (λ k. k < (f.node n).low) (entries_at f place.before) (subst (AllByRecursion (λ (k : ℕ). k < (f.node n).low)) (keys_of f place.before) place.below);
        above = all_from_map (λ (e : Entry). e.key) (λ k. is_below (f.node n).high k ≡ false) (entries_at f place.behind)
            (subst (AllByRecursion (λ (k : ℕ). is_below (f.node n).high k ≡ false)) (keys_of f place.behind) place.above);
      }

  -- a leaf page has the entries of its range
  pub leaf_entries : filter (λ e. in_range (f.node n) e.key) (all_entries f) ≡ (f.node n).entries
  leaf_entries = own_entries (f.node n) (f.node n).entries (all_entries f) (all_entries f) (changes_at f refl (λ m o. refl))
      (all_from_map (λ (e : Entry). e.key) (IsInside (f.node n).low (f.node n).high) (f.node n).entries page.entries.inside)
    where
      page : IsNode (f.node n)
      page = (stands f h n linked).stands.page
