-- No entry has the key of the next copy.
use Rattle.std.proofs.Common.{◌≡◌, ◌≢◌, ℕ, ℤ, suc, zero, ◌+◌, ◌-◌, ◌<◌, ◌==◌, List, [], ◌∷◌, map, length, take, nat_lt, Bool, true, false, cond, ◌&&◌, ◌||◌, refl, sym, ap, ◌∙◌, subst, arith, Some, eq-eqb}
use Rattle.std.specs.Prelude.{slice_get}
use Rattle.std.specs.List.{AllByRecursion, filter, list_any}
use Rattle.std.proofs.lemmas.Bool.{false≢true, or_parts, lt-ltb, and_parts, eqb-true}
use Rattle.mi_base.specs.declared.records.LogEvent.{LogEvent}
use Rattle.mi_base.specs.declared.records.Update.{Update}
use Rattle.mi_base.specs.declared.records.Update.TheVariants.{Insert, Delete}
use Rattle.mi_base.specs.Configuration.{Configuration, IsWithinLimits}
use Rattle.mi_tree.specs.Legal.{LegalLog}
use Rattle.mi_tree.proofs.ListLemmas.{all_get}
use Rattle.mi_base.specs.History.{updates_of}
use Rattle.mi_base.specs.Permutations.{begins}
use Rattle.mi_key.specs.declared.entries.Entry.{Entry}
use Rattle.mi_key.specs.Keys.{parts_of}
use Rattle.mi_tree.specs.Cells.{Grid, AllMaySplit, depth}
use Rattle.mi_tree.proofs.LegalLemmas.{all_may}
use Rattle.mi_tree.specs.Births.{Born}
use Rattle.mi_entries.specs.Entries.{HasPlace, born_in, depth_of, id_of, key_down, grid, counts, is_under, under, IsEntry, is_ahead}
use Rattle.mi_entries.specs.Actors.{Actor, SplitWork}
use Rattle.std.proofs.lemmas.Option.{same_Some}
use Rattle.mi_entries.proofs.KeyedLemmas.{is_keyed}
use Rattle.mi_entries.proofs.FilterLemmas.{all_both, not_true, all_passes}
use Rattle.mi_base.proofs.SortingLemmas.{filter_keeps}
use Rattle.mi_tree.proofs.ListLemmas.{all_weaker, all_take, all_map, filter_twice, all_from_map}
use Rattle.mi_entries.specs.Splits.{AreEntries, IsWork}
use Rattle.mi_entries.proofs.DepthLemmas.{IsKeyed, leaf_deep}
use Rattle.mi_base.proofs.HistoryLemmas.{same_any}
use Rattle.mi_page.specs.Entries.{entry_keys}
use Rattle.mi_page.specs.Keys.{Ascending}
use Rattle.mi_entries.proofs.ContentLemmas.{counts_down}
use Rattle.mi_entries.proofs.ChildLemmas.{child_entry, copies_same}

-- keys ascend
abbrev pub Rising : List Entry → Type 0
Rising [] = Unit {0}
Rising (x ∷ xs) = AllByRecursion (λ (y : Entry). x.key < y.key) xs × Rising xs

pub rising : (xs : List Entry) → Ascending (entry_keys xs) → Rising xs
rising [] h = tt
rising (x ∷ xs) h = (all_from_map (λ (y : Entry). y.key) (λ n. x.key < n) xs h.0, rising xs h.1)

rising_filter : (p : Entry → Bool) (xs : List Entry) → Rising xs → Rising (filter p xs)
rising_filter p [] h = tt
rising_filter p (x ∷ xs) h =
    let Q : Bool → Type 0 = λ b. Rising (cond b (x ∷ filter p xs) (filter p xs)) in
    elim (p x) as Q [ true ↦ (filter_keeps (λ y. x.key < y.key) p xs h.0, rising_filter p xs h.1) | false ↦ rising_filter p xs h.1 ]

below_next : (xs : List Entry) (n : ℕ) (x : Entry) → Rising xs → slice_get xs n ≡ Some x → AllByRecursion (λ (y : Entry). y.key < x.key) (take n xs)
below_next xs zero x h e = tt
below_next [] (suc n) x h e = tt
below_next (y ∷ xs) (suc n) x h e = (all_get (λ z. y.key < z.key) xs n x h.0 e, below_next xs n x h.1 e)

-- a test that lets through only what another test does
any_filter : (t p : Entry → Bool) (xs : List Entry) → AllByRecursion (λ x. t x ≡ true → p x ≡ true) xs → list_any t (filter p xs) ≡ list_any t xs
any_filter t p [] h = refl
any_filter t p (x ∷ xs) h =
    let P : Bool → Type 0 = λ b. p x ≡ b → list_any t (cond b (x ∷ filter p xs) (filter p xs)) ≡ (t x || list_any t xs) in
    (elim (p x) as P [
      | true ↦ λ e. ap (λ b. t x || b) (any_filter t p xs h.1)
      | false ↦ λ e. any_filter t p xs h.1 ∙ sym (ap (λ b. b || list_any t xs) (not_true (t x) (λ u. false≢true (sym e ∙ h.0 u))))
    ]) refl

none_any : (t : Entry → Bool) (xs : List Entry) → AllByRecursion (λ x. t x ≡ false) xs → list_any t xs ≡ false
none_any t [] h = refl
none_any t (x ∷ xs) h = rw (h.0, none_any t xs h.1) refl

all_none : (key : ℕ) (xs : List Entry) → list_any (λ x. x.key == key) xs ≡ false → AllByRecursion (λ (x : Entry). x.key ≢ key) xs
all_none key [] h = tt
all_none key (x ∷ xs) h =
    let both = or_parts (x.key == key) (list_any (λ x. x.key == key) xs) h in
    ((λ e. false≢true (sym both.0 ∙ eq-eqb x.key key e)), all_none key xs both.1)

vector_of : Update → List ℤ
vector_of (Insert id v) = v
vector_of (Delete id) = []

-- entries with one identifier and birth are of one object
pub one_object : (c : Configuration) (log : List LogEvent) (y z : Entry) → IsEntry c log y → IsEntry c log z → id_of y ≡ id_of z → y.birth ≡ z.birth → born_in y ≡ born_in z
unfolding vector_of
one_object c log y z h i ids births =
    let both : Some (Insert (id_of y) y.vector) ≡ Some (Insert (id_of z) z.vector) = sym h.born.1 ∙ ap (λ n. slice_get (updates_of log) (n - 1)) births ∙ i.born.1 in
    let vectors : y.vector ≡ z.vector = ap vector_of (same_Some (Insert (id_of y) y.vector) (Insert (id_of z) z.vector) both) in
    ap (λ (n : ℕ). record { id = n; vector = y.vector; birth = y.birth }) ids ∙ ap (λ (v : List ℤ). record { id = id_of z; vector = v; birth = y.birth }) vectors ∙ ap (λ (n : ℕ). record { id = id_of z; vector = z.vector; birth = n }) births

module _ (c : Configuration) (limits : IsWithinLimits c) (log : List LogEvent) (legal : LegalLog c log) (floor : ℕ) (actors : List Actor) (retired : List (List ℕ)) (F : List Entry)
    (k : AreEntries c log floor actors retired F) (rises : Rising F) (a : ℕ) (r : Actor) (there : slice_get actors a ≡ Some r) (w : SplitWork) (split : r.split ≡ Some w) (old : Entry) (n : ℕ) (next : slice_get w.gathered n ≡ Some old) where
  abbrev g : Grid
  g = grid c

  abbrev e : Entry
  e = child_entry g log old

  ok : IsKeyed g
  ok = is_keyed c limits

  may_split : AllMaySplit g log
  may_split = all_may c log legal

  work : IsWork g log F w
  work = k.works a r w there split

  abbrev Good : Entry → Type 0
  Good y = HasPlace c log actors retired y × (is_under g w.leaf y ≡ true) × (counts g log y ≡ true)

  all_good : AllByRecursion Good w.gathered
  all_good =
      let T : Entry → Bool = λ x. counts g log x && nat_lt x.key w.mark in
      subst (AllByRecursion Good) (sym work.gathered)
      (all_weaker _ _ (λ y h. (h.0.0, h.0.1, (and_parts (counts g log y) (nat_lt y.key w.mark) h.1).0)) (filter T (under g w.leaf F))
      (all_both _ _ (filter T (under g w.leaf F))
      (filter_keeps _ T (under g w.leaf F) (all_both _ _ (under g w.leaf F) (filter_keeps _ (is_under g w.leaf) F k.places) (all_passes (is_under g w.leaf) F)))
      (all_passes T (under g w.leaf F))))

  pub good : Good old
  good = all_get Good w.gathered n old all_good next

  at_leaf : depth_of g log old ≡ length w.leaf
  at_leaf = leaf_deep g ok log may_split w.leaf old.vector work.leaf good.1

  above : depth_of g log old < c.levels
  above = let n = work.above in let m = at_leaf in omega arith

  -- a copy has the identifier and the birth of its source
  copy_parts : (y : Entry) → Good y → ((parts_of (child_entry g log y).key).id ≡ id_of y) × ((parts_of (child_entry g log y).key).birth ≡ y.birth)
  copy_parts y h =
      let d = leaf_deep g ok log may_split w.leaf y.vector work.leaf h.1 in
      let n = work.above in
      (ok.named (born_in y) h.0.is.fits (depth_of g log y + 1) (omega arith), ok.aged (born_in y) h.0.is.fits (depth_of g log y + 1) (omega arith))

  -- an entry with the copy's key is a copy in the leaf
  pub is_copy : (z : Entry) → HasPlace c log actors retired z → (z.key == e.key) ≡ true → (is_under g w.leaf z && is_ahead g log z) ≡ true
  is_copy z h t =
      let key = eqb-true z.key e.key t in
      let p = copy_parts old good in
      let aged : (parts_of z.key).birth ≡ z.birth = ap (λ n. (parts_of n).birth) h.is.keyed ∙ ok.aged (born_in z) h.is.fits h.is.down h.is.deep in
      let same : born_in z ≡ born_in old = one_object c log z old h.is good.0.is (ap (λ n. (parts_of n).id) key ∙ p.0) (sym aged ∙ ap (λ n. (parts_of n).birth) key ∙ p.1) in
      let vectors : z.vector ≡ old.vector = ap (λ (o : Born). o.vector) same in
      let deep : depth_of g log z ≡ depth_of g log old = ap (λ v. depth g log (g.perm v)) vectors in
      let down : z.key ≡ key_down g (depth_of g log z + 1) (born_in z) = key ∙ ap (λ o. key_down g (depth_of g log old + 1) o) (sym same) ∙ ap (λ d. key_down g (d + 1) (born_in z)) (sym deep) in
      let u : is_under g w.leaf z ≡ true = ap (λ v. begins w.leaf (g.perm v)) vectors ∙ good.1 in
      let l = above in
      rw (u, lt-ltb (depth_of g log z) c.levels (omega arith), eq-eqb z.key (key_down g (depth_of g log z + 1) (born_in z)) down) refl

  -- the copies made are others
  other_copy : (y : Entry) → Good y × (y.key < old.key) → ((child_entry g log y).key == e.key) ≡ false
  other_copy y h = not_true ((child_entry g log y).key == e.key) (λ t.
      let key = eqb-true (child_entry g log y).key e.key t in
      let p = copy_parts y h.0 in
      let o = copy_parts old good in
      let same : born_in y ≡ born_in old = one_object c log y old h.0.0.is good.0.is (sym p.0 ∙ ap (λ n. (parts_of n).id) key ∙ o.0) (sym p.1 ∙ ap (λ n. (parts_of n).birth) key ∙ o.1) in
      let dy = counts_down c ok log may_split y h.0.0.is h.0.2 ∙ leaf_deep g ok log may_split w.leaf y.vector work.leaf h.0.1 in
      let dz = counts_down c ok log may_split old good.0.is good.2 ∙ at_leaf in
      let one : y.key ≡ old.key = h.0.0.is.keyed ∙ ap (λ d. key_down g d (born_in y)) (dy ∙ sym dz) ∙ ap (key_down g good.0.is.down) same ∙ sym good.0.is.keyed in
      let lt = h.1 in
      omega arith)

  -- the copies of those gathered before have other keys
  pub made_before : AllByRecursion (λ z. (z.key == e.key) ≡ false) (map (child_entry g log) (take n w.gathered))
  made_before =
      let rising_gathered : Rising w.gathered = subst Rising (sym work.gathered) (rising_filter _ (under g w.leaf F) (rising_filter (is_under g w.leaf) F rises)) in
      all_map (child_entry g log) (λ z. (z.key == e.key) ≡ false) (take n w.gathered)
      (all_weaker _ _ other_copy (take n w.gathered) (all_both Good (λ y. y.key < old.key) (take n w.gathered) (all_take Good n w.gathered all_good) (below_next w.gathered n old rising_gathered next)))

  pub absent_copy : n ≡ w.copied → AllByRecursion (λ (z : Entry). z.key ≢ e.key) F
  absent_copy all =
      let t : Entry → Bool = λ z. z.key == e.key in
      let p : Entry → Bool = λ z. is_under g w.leaf z && is_ahead g log z in
      all_none e.key F
      (sym (any_filter t p F (all_weaker _ _ is_copy F k.places))
      ∙ ap (list_any t) (sym (filter_twice (is_ahead g log) (is_under g w.leaf) F))
      ∙ same_any t _ _ work.copies
      ∙ ap (list_any t) (copies_same g (is_keyed c limits) log may_split F w work w.copied)
      ∙ ap (λ m. list_any t (map (child_entry g log) (take m w.gathered))) (sym all)
      ∙ none_any t (map (child_entry g log) (take n w.gathered)) made_before)
