-- What a leaf page offers at a pin is what the pinned log shows of its range.
use Rattle.std.proofs.Common.{◌≡◌, ℕ, suc, ◌+◌, ◌-◌, ◌^◌, ◌<◌, ◌≤◌, ◌==◌, List, [], ◌∷◌, ◌++◌, map, length, take, drop, Bool, true, false, cond, not, ◌&&◌, nat_lt, nat_le, ◌||◌, IsTrue, refl, sym, ap, ◌∙◌, subst, arith, Option, Some}
use Rattle.std.specs.Prelude.{slice_get}
use Rattle.std.specs.List.{AllByRecursion, filter, list_any}
use Rattle.std.specs.Cmp.{IsTotalOrder, on_total, nat_cmp_total}
use Rattle.std.specs.Ordering.{is_lt, nat_cmp}
use Rattle.std.proofs.lemmas.Bool.{and_parts, eq-eqb, eqb-true, false≢true, lt-ltb, ltb-true, leb-true}
use Rattle.std.proofs.lemmas.Bool.Decides.{nat_tests}
use Rattle.std.proofs.lemmas.List.{take-append-drop}
use Rattle.std.proofs.lemmas.List.Elements.{recursion_from_All}
use Rattle.std.proofs.lemmas.Map.Lookups.{exact_unsigned}
use Rattle.mi_base.specs.declared.records.LogEvent.{LogEvent}
use Rattle.mi_base.specs.declared.records.Update.{Update}
use Rattle.mi_base.specs.declared.records.Update.TheVariants.{Insert, Delete}
use Rattle.mi_base.specs.Configuration.{Configuration, IsWithinLimits, space_of}
use Rattle.mi_base.specs.History.{updates_of}
use Rattle.mi_base.specs.Permutations.{begins, distances}
use Rattle.mi_base.specs.Prefixes.{all_below}
use Rattle.mi_base.specs.Sorting.{Ascends, SameElements, sorted}
use Rattle.mi_base.proofs.HistoryLemmas.{updates_of-append}
use Rattle.mi_base.proofs.SortingLemmas.{ascending_unique, ascends_filter_any, filter_keeps, same_filter, same_length, same_map, same_sorted, same_sym, same_trans, sorted_ascends}
use Rattle.mi_key.specs.declared.entries.Entry.{Entry}
use Rattle.mi_key.specs.declared.keys.KeyParts.{KeyParts}
use Rattle.mi_key.specs.declared.ranges.Interval.{Interval}
use Rattle.mi_key.specs.Clusters.{cluster_of}
use Rattle.mi_key.specs.Entries.{Offering}
use Rattle.mi_key.specs.Keys.{parts_of}
use Rattle.mi_key.specs.Ranges.{is_within}
use Rattle.mi_key.specs.Shown.{Shown, shown_cmp, shown_of, within}
use Rattle.mi_key.proofs.ClusterLemmas.{cluster-exact}
use Rattle.mi_page.specs.Entries.{entry_keys, is_shown, outlives}
use Rattle.mi_page.specs.Keys.{Ascending}
use Rattle.mi_page.proofs.OrderLemmas.{filter_ascends, is_lt-nat_cmp}
use Rattle.mi_tree.specs.Births.{Born, born, born_after, born_from}
use Rattle.mi_tree.specs.Cells.{AllMaySplit, Grid, depth, is_leaf, leaves, same_cell}
use Rattle.mi_tree.proofs.FitLemmas.{leaves_fit}
use Rattle.mi_tree.proofs.LeafLemmas.{begins_take, same_cell_is}
use Rattle.mi_tree.proofs.ListLemmas.{all_any, all_map, all_put, all_weaker, filter_map, filter_none, filter_same, filter_twice, map_same, map_twice}
use Rattle.mi_entries.specs.Entries.{FitsKey, IsEntry, Shows, born_in, counts, depth_of, grid, id_of, is_down, key_down}
use Rattle.mi_entries.proofs.DepthLemmas.{depth_deep, leaf_deep}
use Rattle.mi_entries.proofs.EntryLemmas.{get_before}
use Rattle.mi_entries.proofs.FilterLemmas.{all_both, all_where, and_no, same_is}
use Rattle.mi_entries.proofs.KeyedLemmas.{below, is_grid, is_keyed, parts, short}
use Rattle.mi_world.specs.LeafKeys.{shown, shown_as}

-- two lists whose elements are told by their keys
told_apart : {X : Type 0} (key : X → ℕ) (back : ℕ → X) (xs ys : List X) → AllByRecursion (λ x. back (key x) ≡ x) xs → AllByRecursion (λ x. back (key x) ≡ x) ys → map key xs ≡ map key ys → xs ≡ ys
told_apart key back xs ys h i e = sym (again xs h) ∙ ap (map back) e ∙ again ys i
  where
    again : (zs : List _) → AllByRecursion (λ x. back (key x) ≡ x) zs → map back (map key zs) ≡ zs
    again [] h = refl
    again (z ∷ zs) h = let rest = again zs h.1 in let first = h.0 in cc

-- keys in order
ascends_keys : (ks : List ℕ) → Ascending ks → Ascends nat_cmp ks
ascends_keys [] a = tt
ascends_keys (k ∷ ks) a = (all_weaker (λ j. k < j) (λ j. is_lt (nat_cmp j k) ≡ false) (λ j l. is_lt-nat_cmp j k ∙ (grind (arith, nat_tests))) ks a.0, ascends_keys ks a.1)

keys_ascend : (xs : List Shown) → Ascends shown_cmp xs → Ascends nat_cmp (map (λ x. x.key) xs)
keys_ascend [] a = tt
keys_ascend (x ∷ xs) a = (all_map (λ (y : Shown). y.key) (λ k. is_lt (nat_cmp k x.key) ≡ false) xs a.0, keys_ascend xs a.1)

shown_total : IsTotalOrder shown_cmp
shown_total = on_total (λ (x : Shown). x.key) nat_cmp_total

all_sorted : (P : Shown → Type 0) (xs : List Shown) → AllByRecursion P xs → AllByRecursion P (sorted shown_cmp xs)
all_sorted P [] h = tt
all_sorted P (x ∷ xs) h = all_put shown_cmp P x (sorted shown_cmp xs) h.0 (all_sorted P xs h.1)

-- a live object was inserted at its birth
abbrev IsInserted : List Update → Born → Type 0
IsInserted us o = (0 < o.birth) × (slice_get us (o.birth - 1) ≡ Some (Insert o.id o.vector))

one_of : (P : List ℕ → Type 0) (p : List ℕ) (ls : List (List ℕ)) → AllByRecursion P ls → list_any (same_cell p) ls ≡ true → P p
one_of P p [] h t = absurd (false≢true t)
one_of P p (q ∷ ls) h t =
    let Q : Bool → Type 0 = λ b. same_cell p q ≡ b → (b || list_any (same_cell p) ls) ≡ true → P p in
    (elim (same_cell p q) as Q [ true ↦ λ e _. subst P (sym (same_cell_is p q e)) h.0 | false ↦ λ e r. one_of P p ls h.1 r ]) refl t

module _ (c : Configuration) (limits : IsWithinLimits c) (log : List LogEvent) (may : AllMaySplit (grid c) log) (range : Interval) (p : List ℕ) (leaf : is_leaf (grid c) log p ≡ true)
    (inside : (key : ℕ) → IsTrue (is_within range key) → (parts_of key).cluster ≡ cluster_of (length c.pivots) c.levels p) where
  abbrev g : Grid
  g = grid c

  -- an entry with a key of the leaf's cluster lies in the leaf of its object
  lies : (now : List LogEvent) (e : Entry) → IsEntry c now e → is_within range e.key ≡ true → is_down g (depth g log (g.perm e.vector)) e ≡ true
  lies now e i t =
      let q : List ℕ = take i.down (g.perm e.vector) in
      let fit = one_of (λ n. (length n ≤ c.levels) × (all_below (length c.pivots) n ≡ true)) p (leaves g log) (recursion_from_All _ (leaves g log) (leaves_fit g (is_grid c limits) log may)) leaf in
      let deep = i.deep in
      let clusters : cluster_of g.pivots g.levels q ≡ cluster_of g.pivots g.levels p =
      sym (ap (λ (k : KeyParts). k.cluster) (ap parts_of i.keyed ∙ parts c limits (born_in e) i.fits i.down i.deep)) ∙ inside e.key t in
      let same : q ≡ p = cluster-exact (length c.pivots) c.levels q p (omega (arith, short c limits e.vector i.down i.deep)) fit.0 (below c limits e.vector i.down) fit.1 clusters in
      let d : depth g log (g.perm e.vector) ≡ i.down =
      leaf_deep g (is_keyed c limits) log may p e.vector leaf (subst (λ (n : List ℕ). begins n (g.perm e.vector) ≡ true) same (begins_take i.down (g.perm e.vector))) ∙ ap length (sym same) ∙ short c limits e.vector i.down i.deep in
      eq-eqb e.key (key_down g (depth g log (g.perm e.vector)) (born_in e)) (i.keyed ∙ ap (λ n. key_down g n (born_in e)) (sym d))

-- what a test says of all elements it says of the same elements in another order
pub all_tested : {X : Type 0} (t : X → Bool) (xs ys : List X) → SameElements xs ys → AllByRecursion (λ x. t x ≡ true) xs → AllByRecursion (λ y. t y ≡ true) ys
all_tested {X = X} t xs ys s h = none ys (sym (same_length _ _ (same_filter (λ x. not (t x)) xs ys s)) ∙ ap length (filter_none (λ x. not (t x)) xs (all_weaker (λ x. t x ≡ true) (λ x. not (t x) ≡ false) (λ x e. ap not e) xs h)))
  where
    none : (zs : List X) → length (filter (λ x. not (t x)) zs) ≡ 0 → AllByRecursion (λ z. t z ≡ true) zs
    none [] e = tt
    none (z ∷ zs) e =
        let P : Bool → Type 0 = λ b. t z ≡ b → length (cond (not b) (z ∷ filter (λ x. not (t x)) zs) (filter (λ x. not (t x)) zs)) ≡ 0 → AllByRecursion (λ z. t z ≡ true) (z ∷ zs) in
        (elim (t z) as P [ true ↦ λ is r. (is, none zs r) | false ↦ λ is r. absurd (omega arith) ]) refl e

inserted_all : (us : List Update) (n : ℕ) (os : List Born) (vs : List Update) → ((i : ℕ) → slice_get us (n + i) ≡ slice_get vs i) → AllByRecursion (IsInserted us) os → AllByRecursion (IsInserted us) (born_from n os vs)
inserted_all us n os [] at h = h
inserted_all us n os (Insert id v ∷ vs) at h =
    inserted_all us (n + 1) (born_after (n + 1) os (Insert id v)) vs (λ i. ap (slice_get us) (omega arith) ∙ at (suc i)) ((omega arith, ap (slice_get us) (omega arith) ∙ at 0), h)
inserted_all us n os (Delete id ∷ vs) at h =
    inserted_all us (n + 1) (born_after (n + 1) os (Delete id)) vs (λ i. ap (slice_get us) (omega arith) ∙ at (suc i)) (filter_keeps (IsInserted us) (λ o. not (o.id == id)) os h)

-- what an update of a history gives away
abbrev given : Configuration → Option Update → Offering
given c (Some (Insert id v)) = record { object = record { id = id; vector = v }; dists = distances (space_of c) v }
given c _ = record { object = record { id = 0; vector = [] }; dists = [] }

-- the object that a key names, by its birth
abbrev shown_back : Configuration → List Update → ℕ → Shown
shown_back c us key = record { key = key; offering = given c (slice_get us ((parts_of key).birth - 1)) }

abbrev fits_key : Grid → Born → Bool
fits_key g o = nat_lt o.id (2 ^ 40) && (nat_lt (g.distance o.vector) (2 ^ 27) && nat_lt o.birth (2 ^ 30))

from_fits : (g : Grid) (o : Born) → FitsKey g o → fits_key g o ≡ true
from_fits g o f = rw (lt-ltb o.id (2 ^ 40) f.id, lt-ltb (g.distance o.vector) (2 ^ 27) f.distance, lt-ltb o.birth (2 ^ 30) f.birth) refl

to_fits : (g : Grid) (o : Born) → fits_key g o ≡ true → FitsKey g o
to_fits g o t =
    let x = and_parts (nat_lt o.id (2 ^ 40)) (nat_lt (g.distance o.vector) (2 ^ 27) && nat_lt o.birth (2 ^ 30)) t in
    let y = and_parts (nat_lt (g.distance o.vector) (2 ^ 27)) (nat_lt o.birth (2 ^ 30)) x.1 in
    record { id = ltb-true o.id (2 ^ 40) x.0; distance = ltb-true (g.distance o.vector) (2 ^ 27) y.0; birth = ltb-true o.birth (2 ^ 30) y.1 }

module _ (c : Configuration) (limits : IsWithinLimits c) (now : List LogEvent) (k : ℕ) (may : AllMaySplit (grid c) (take k now)) (range : Interval) (p : List ℕ)
    (leaf : is_leaf (grid c) (take k now) p ≡ true) (inside : (key : ℕ) → IsTrue (is_within range key) → (parts_of key).cluster ≡ cluster_of (length c.pivots) c.levels p)
    (entries : List Entry) (ascend : Ascending (entry_keys entries)) (good : AllByRecursion (IsEntry c now) entries) (shows : Shows (grid c) (take k now) entries) where
  abbrev log : List LogEvent
  log = take k now

  abbrev us : List Update
  us = updates_of log

  abbrev gr : Grid
  gr = grid c

  -- the key of an object in the leaf of the pinned log
  abbrev stand : Born → ℕ
  stand o = key_down gr (depth gr log (gr.perm o.vector)) o

  abbrev read : Entry → Bool
  read e = is_within range e.key && is_shown (length us) e

  stands_at : AllByRecursion (λ e. counts gr log e ≡ true → stand (born_in e) ≡ e.key) entries
  stands_at = all_any (λ e. counts gr log e ≡ true → stand (born_in e) ≡ e.key) (λ e t. sym (eqb-true e.key (stand (born_in e)) (and_parts (is_shown (length us) e) (is_down gr (depth_of gr log e) e) t).1)) entries

  read_test : AllByRecursion (λ e. (counts gr log e && is_within range e.key) ≡ read e) entries
  read_test = all_weaker (IsEntry c now) _ one entries good
    where
      one : (e : Entry) → IsEntry c now e → (counts gr log e && is_within range e.key) ≡ read e
      one e i =
          let P : Bool → Type 0 = λ b. is_within range e.key ≡ b → (counts gr log e && b) ≡ (b && is_shown (length us) e) in
          (elim (is_within range e.key) as P [
            | true ↦ λ t. rw (lies c limits log may range p leaf inside now e i t) (yes (is_shown (length us) e))
            | false ↦ λ t. and_no (counts gr log e) false refl
          ]) refl
        where
          yes : (b : Bool) → ((b && true) && true) ≡ b
          yes true = refl
          yes false = refl

  counted : SameElements (map (λ e. e.key) (filter (counts gr log) entries)) (map stand (born us))
  counted = same_trans (same_is _ _ (sym (map_twice stand born_in (filter (counts gr log) entries) ∙ map_same _ (λ e. e.key) (filter (counts gr log) entries) (all_where _ (counts gr log) entries stands_at)))) (same_map stand _ _ shows.same)

  here : SameElements (map (λ e. e.key) (filter read entries)) (filter (is_within range) (map stand (born us)))
  here = same_trans
      (same_is _ _ (ap (map (λ (e : Entry). e.key)) (sym (filter_same _ read entries read_test) ∙ sym (filter_twice (λ (e : Entry). is_within range e.key) (counts gr log) entries)) ∙ filter_map (λ (e : Entry). e.key) (is_within range) (filter (counts gr log) entries)))
      (same_filter (is_within range) _ _ counted)

  keys_shown : map (λ (x : Shown). x.key) (map (shown_as c log) (born us)) ≡ map stand (born us)
  keys_shown = map_twice (λ (x : Shown). x.key) (shown_as c log) (born us)

  there : SameElements (map (λ (x : Shown). x.key) (within range (shown c log))) (filter (is_within range) (map stand (born us)))
  there = same_trans (same_map (λ (x : Shown). x.key) _ _ (same_filter (λ (x : Shown). is_within range x.key) _ _ (same_sorted shown_cmp (map (shown_as c log) (born us)))))
      (same_is _ _ (filter_map (λ (x : Shown). x.key) (is_within range) (map (shown_as c log) (born us)) ∙ ap (filter (is_within range)) keys_shown))

  same_keys : map (λ (x : Shown). x.key) (map shown_of (filter read entries)) ≡ map (λ (x : Shown). x.key) (within range (shown c log))
  same_keys = ascending_unique nat_cmp nat_cmp_total exact_unsigned _ _
      (subst (Ascends nat_cmp) (sym (map_twice (λ (x : Shown). x.key) shown_of (filter read entries))) (ascends_keys _ (filter_ascends (λ (e : Entry). e.key) read entries ascend)))
      (keys_ascend _ (ascends_filter_any shown_cmp shown_total (λ x. is_within range x.key) (shown c log) (sorted_ascends shown_cmp shown_total (map (shown_as c log) (born us)))))
      (same_trans (subst (λ ks. SameElements ks (filter (is_within range) (map stand (born us)))) (sym (map_twice (λ (x : Shown). x.key) shown_of (filter read entries))) here) (same_sym there))

  history : updates_of now ≡ us ++ updates_of (drop k now)
  history = ap updates_of (sym (take-append-drop k now)) ∙ updates_of-append log (drop k now)

  entry_back : AllByRecursion (λ e. read e ≡ true → shown_back c us (shown_of e).key ≡ shown_of e) entries
  entry_back = all_weaker (IsEntry c now) (λ e. read e ≡ true → shown_back c us e.key ≡ shown_of e) one entries good
    where
      one : (e : Entry) → IsEntry c now e → read e ≡ true → shown_back c us e.key ≡ shown_of e
      one e i t =
          let timely = and_parts (nat_le e.birth (length us)) (outlives e.death (length us)) (and_parts (is_within range e.key) (is_shown (length us) e) t).1 in
          let born : e.birth ≤ length us = leb-true e.birth (length us) timely.0 in
          let some : 0 < e.birth = i.born.0 in
          let aged : (parts_of e.key).birth ≡ e.birth = ap (λ n. (parts_of n).birth) i.keyed ∙ (is_keyed c limits).aged (born_in e) i.fits i.down i.deep in
          let is : slice_get us ((parts_of e.key).birth - 1) ≡ Some (Insert (id_of e) e.vector) =
          ap (λ n. slice_get us (n - 1)) aged ∙ sym (get_before us (updates_of (drop k now)) (e.birth - 1) (omega arith)) ∙ ap (λ (vs : List Update). slice_get vs (e.birth - 1)) (sym history) ∙ i.born.1 in
          ap (λ o. record { key = e.key; offering = given c o }) is ∙ ap (λ ds. record { key = e.key; offering = record { object = record { id = id_of e; vector = e.vector }; dists = ds } }) (sym i.dists)

  fitting : AllByRecursion (λ o. fits_key gr o ≡ true) (born us)
  fitting = all_tested (fits_key gr) _ _ shows.same (all_map born_in (λ o. fits_key gr o ≡ true) (filter (counts gr log) entries)
      (filter_keeps (λ (e : Entry). fits_key gr (born_in e) ≡ true) (counts gr log) entries (all_weaker (IsEntry c now) (λ e. fits_key gr (born_in e) ≡ true) (λ e i. from_fits gr (born_in e) i.fits) entries good)))

  born_back : AllByRecursion (λ x. shown_back c us x.key ≡ x) (map (shown_as c log) (born us))
  born_back = all_map (shown_as c log) (λ x. shown_back c us x.key ≡ x) (born us)
      (all_weaker (λ o. (fits_key gr o ≡ true) × IsInserted us o) _ one (born us) (all_both (λ o. fits_key gr o ≡ true) (IsInserted us) (born us) fitting (inserted_all us 0 [] us (λ i. ap (slice_get us) (omega arith)) tt)))
    where
      one : (o : Born) → (fits_key gr o ≡ true) × IsInserted us o → shown_back c us (stand o) ≡ shown_as c log o
      one o h =
          let aged : (parts_of (stand o)).birth ≡ o.birth = (is_keyed c limits).aged o (to_fits gr o h.0) (depth gr log (gr.perm o.vector)) (depth_deep gr (is_keyed c limits) log may (gr.perm o.vector)) in
          ap (λ u. record { key = stand o; offering = given c u }) (ap (λ n. slice_get us (n - 1)) aged ∙ h.1.1)

  -- what is read of the interval is what the log shows of it
  pub shown_is : map shown_of (filter read entries) ≡ within range (shown c log)
  shown_is = told_apart (λ x. x.key) (shown_back c us) _ _
      (all_map shown_of (λ x. shown_back c us x.key ≡ x) (filter read entries) (all_where (λ e. shown_back c us e.key ≡ shown_of e) read entries entry_back))
      (filter_keeps (λ x. shown_back c us x.key ≡ x) (λ x. is_within range x.key) (shown c log) (all_sorted (λ x. shown_back c us x.key ≡ x) (map (shown_as c log) (born us)) born_back))
      same_keys
