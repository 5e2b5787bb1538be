-- Each event keeps what holds of entries.
use Rattle.std.proofs.Common.{◌≡◌, ◌≢◌, ℕ, ℤ, ◌+◌, ◌-◌, ◌<◌, ◌≤◌, List, [], ◌∷◌, ◌++◌, map, length, take, Bool, true, false, not, ◌&&◌, ◌||◌, nat_le, nat_lt, refl, sym, ap, ◌∙◌, subst, arith, Option, Some, None, inl, inr, ◌⊎◌}
use Rattle.std.specs.Prelude.{slice_get}
use Rattle.std.specs.List.{AllByRecursion, filter, list_any, flat_map}
use Rattle.std.proofs.lemmas.Bool.{and_parts, lt-ltb, ltb-true, eqb-true, eq-eqb, false≢true, cases_eq}
use Rattle.std.proofs.lemmas.List.{take_all, map-append}
use Rattle.mi_tree.proofs.LegalLemmas.{updates_of_split}
use Rattle.mi_base.specs.declared.records.LogEvent.{LogEvent}
use Rattle.mi_base.specs.declared.records.LogEvent.TheVariants.{Update as Made, Split}
use Rattle.mi_base.specs.declared.records.Update.{Update}
use Rattle.mi_base.specs.declared.records.Update.TheVariants.{Insert, Delete}
use Rattle.mi_base.specs.Configuration.{Configuration, space_of}
use Rattle.mi_base.specs.History.{updates_of}
use Rattle.mi_base.specs.Permutations.{begins, distances}
use Rattle.mi_base.specs.Sorting.{put, SameElements}
use Rattle.mi_base.proofs.HistoryLemmas.{updates_of-append}
use Rattle.mi_base.proofs.SortingLemmas.{same_trans, same_cons, filter_keeps}
use Rattle.mi_key.specs.declared.entries.Entry.{Entry}
use Rattle.mi_page.specs.Entries.{entry_cmp, is_shown, outlives}
use Rattle.mi_tree.specs.Cells.{Grid, AllMaySplit, depth, is_leaf, leaves, leaves_after, first_leaves, same_cell, split_cell}
use Rattle.mi_tree.proofs.LeafLemmas.{leaf_apart, same_cell_is}
use Rattle.std.proofs.lemmas.Grind.{fold-append}
use Rattle.mi_entries.specs.Deaths.{IsFirstDelete, updates_by}
use Rattle.mi_entries.specs.Entries.{FitsKey, HasPlace, IsEntry, IsUnswept, IsWorked, Shows, born_in, counts, depth_of, id_of, is_ahead, is_down, is_in, is_placed, is_under, key_down, under, grid}
use Rattle.mi_entries.specs.Splits.{AreEntries, IsWork, copy_in_child}
use Rattle.mi_entries.specs.Actors.{Actor, SplitWork, SweepWork}
use Rattle.mi_entries.proofs.FilterLemmas.{same_is, filter_dropped, filter_put_out, all_where, all_last, all_both, same_last, all_passes, put_in, not_true, and_no, no_and}
use Rattle.mi_tree.proofs.ListLemmas.{filter_same, filter_twice, all_put, all_take, all_weaker, all_any}
use Rattle.mi_entries.proofs.DepthLemmas.{IsKeyed, depth_take, depth_deep, leaf_deep, not_down, depth_not_under, depth_under}
use Rattle.mi_entries.proofs.PublishLemmas.{copy_shows, publish_shows, shown}
use Rattle.mi_entries.proofs.ShowLemmas.{IsTimely, count_between, count_take, counts_more, dead_on, depth_more, drop_shows, extend, insert_before, insert_now, take_less}
use Rattle.mi_entries.proofs.EntryLemmas.{count_at, delete_before, entry_more, get_last, timely}
use Rattle.mi_entries.proofs.ChildLemmas.{child_entry, copies_same}

pub record HasSplit (actors : List Actor) (a : ℕ) (w : SplitWork) : Type 0 where
  pub actor : Actor
  pub there : slice_get actors a ≡ Some actor
  pub split : actor.split ≡ Some w

pub record HasSweep (actors : List Actor) (a : ℕ) (w : SweepWork) : Type 0 where
  pub actor : Actor
  pub there : slice_get actors a ≡ Some actor
  pub sweep : actor.sweep ≡ Some w

-- splits and sweeps under way are the same
pub record SameWorks (old new : List Actor) : Type 0 where
  pub split : (a : ℕ) (w : SplitWork) → HasSplit old a w → HasSplit new a w
  pub sweep : (a : ℕ) (w : SweepWork) → HasSweep old a w → HasSweep new a w
  pub back : (a : ℕ) (w : SplitWork) → HasSplit new a w → HasSplit old a w

-- an entry keeps its place where whoever works on it or hasn't swept it does so on
pub place_stays : (c : Configuration) (log : List LogEvent) (old new : List Actor) (retired : List (List ℕ)) (e : Entry) → (IsWorked (grid c) old e.vector → IsWorked (grid c) new e.vector) → (IsUnswept (grid c) old e → IsUnswept (grid c) new e)
    → HasPlace c log old retired e → HasPlace c log new retired e
place_stays c log old new retired e worked unswept h = record {
  is = h.is;
  copied = λ d. let p = h.copied d in (p.0, worked p.1);
  left = λ l. elim (h.left l) [ inl r ↦ inl r | inr u ↦ inr (unswept u) ];
}

module _ (old new : List Actor) (same : SameWorks old new) where
  worked_same : (g : Grid) (v : List ℤ) → IsWorked g old v → IsWorked g new v
  worked_same g v h =
      let n = same.split h.by h.work (record { actor = h.actor; there = h.there; split = h.split }) in
      record { by = h.by; actor = n.actor; there = n.there; work = h.work; split = n.split; under = h.under }

  unswept_same : (g : Grid) (e : Entry) → IsUnswept g old e → IsUnswept g new e
  unswept_same g e h =
      let n = same.sweep h.by h.work (record { actor = h.actor; there = h.there; sweep = h.sweep }) in
      record { by = h.by; actor = n.actor; there = n.there; work = h.work; sweep = n.sweep; lies = h.lies; ahead = h.ahead }

  -- an event that leaves splits and sweeps as they were
  pub entries_stay : (c : Configuration) (log : List LogEvent) (floor : ℕ) (retired : List (List ℕ)) (entries : List Entry) → AreEntries c log floor old retired entries → AreEntries c log floor new retired entries
  entries_stay c log floor retired entries h = record {
    places = all_weaker _ _ (λ e p. place_stays c log old new retired e (worked_same (grid c) e.vector) (unswept_same (grid c) e) p) entries h.places;
    shows = h.shows;
    works = λ a r w there split. let o = same.back a w (record { actor = r; there = there; split = split }) in h.works a o.actor w o.there o.split;
  }

-- a floor that rises
pub entries_rise : (c : Configuration) (log : List LogEvent) (floor higher : ℕ) (actors : List Actor) (retired : List (List ℕ)) (entries : List Entry) → floor ≤ higher
    → AreEntries c log floor actors retired entries → AreEntries c log higher actors retired entries
entries_rise c log floor higher actors retired entries le h = record { places = h.places; shows = λ k a b. h.shows k (omega arith) b; works = h.works }

-- a split under way doesn't see what happens elsewhere
module _ (g : Grid) (log log' : List LogEvent) (entries entries' : List Entry) (w : SplitWork) (i : IsWork g log entries w)
    (leaf' : is_leaf g log' w.leaf ≡ true)
    (same : under g w.leaf entries' ≡ under g w.leaf entries)
    (deep : (v : List ℤ) → begins w.leaf (g.perm v) ≡ true → depth g log' (g.perm v) ≡ depth g log (g.perm v))
    (tests : AllByRecursion (λ e. is_under g w.leaf e ≡ true → counts g log' e ≡ counts g log e) entries) where
  ahead_same : (e : Entry) → is_under g w.leaf e ≡ true → is_ahead g log' e ≡ is_ahead g log e
  ahead_same e t = ap (λ d. nat_lt d g.levels && is_down g (d + 1) e) (deep e.vector t)

  kept_gathered : w.gathered ≡ filter (λ e. counts g log' e && nat_lt e.key w.mark) (under g w.leaf entries')
  kept_gathered = i.gathered
      ∙ sym (filter_same (λ e. counts g log' e && nat_lt e.key w.mark) (λ e. counts g log e && nat_lt e.key w.mark) (under g w.leaf entries)
      (all_weaker _ _ (λ e h. ap (λ b. b && nat_lt e.key w.mark) h) _ (all_where (λ e. counts g log' e ≡ counts g log e) (is_under g w.leaf) entries tests)))
      ∙ ap (filter (λ e. counts g log' e && nat_lt e.key w.mark)) (sym same)

  kept_copies : SameElements (filter (is_ahead g log') (under g w.leaf entries')) (map (copy_in_child g w.leaf) (take w.copied w.gathered))
  kept_copies = same_trans
      (same_is _ _ (ap (filter (is_ahead g log')) same ∙ filter_same (is_ahead g log') (is_ahead g log) (under g w.leaf entries) (all_weaker _ _ ahead_same _ (all_passes (is_under g w.leaf) entries))))
      i.copies

  pub work_kept : IsWork g log' entries' w
  work_kept = record { leaf = leaf'; above = i.above; gathered = kept_gathered; few = i.few; copies = kept_copies }

pub leaf_more : (g : Grid) (log : List LogEvent) (a op : ℕ) (x : Update) (p : List ℕ) → is_leaf g (log ++ Made a op x ∷ []) p ≡ is_leaf g log p
leaf_more g log a op x p = ap (list_any (same_cell p)) (fold-append (leaves_after g.pivots) (first_leaves g.pivots) log (Made a op x ∷ []))

-- An insert of an object whose leaf nobody splits, with its entry.
module _ (c : Configuration) (ok : IsKeyed (grid c)) (log : List LogEvent) (legal : AllMaySplit (grid c) log) (floor : ℕ) (actors : List Actor) (retired : List (List ℕ)) (entries : List Entry)
    (s : AreEntries c log floor actors retired entries) (low : floor ≤ length log)
    (a op id : ℕ) (e : Entry) (birth : e.birth ≡ length (updates_of log) + 1) (death : e.death ≡ None) (dists : e.dists.items ≡ distances (space_of c) e.vector) (fits : FitsKey (grid c) (born_in e))
    (named : id_of e ≡ id) (key : e.key ≡ key_down (grid c) (depth_of (grid c) log e) (born_in e))
    (free : (b : ℕ) (w : SplitWork) → HasSplit actors b w → begins w.leaf ((grid c).perm e.vector) ≡ false) where
  abbrev x : LogEvent
  x = Made a op (Insert id e.vector)

  all_timely : AllByRecursion (IsTimely log) entries
  all_timely = all_weaker _ _ (λ y h. timely c log y h.is) entries s.places

  old_place : (y : Entry) → HasPlace c log actors retired y → HasPlace c (log ++ x ∷ []) actors retired y
  old_place y h =
      let d : depth_of (grid c) (log ++ x ∷ []) y ≡ depth_of (grid c) log y = depth_more (grid c) log a op (Insert id e.vector) ((grid c).perm y.vector) in
      let m = entry_more c log x y refl (omega arith) h.is in
      let n = m.1 in
      record { is = m.0; copied = λ k. h.copied (omega arith); left = λ l. h.left (omega arith) }

  none_yet : (k : ℕ) → IsFirstDelete (log ++ x ∷ []) (id_of e) e.birth k → ⊥
  none_yet k f =
      let b = delete_before log x (id_of e) e.birth k refl f in
      let n = b.0.later in
      omega (arith, count_take k log)

  new_place : HasPlace c (log ++ x ∷ []) actors retired e
  new_place =
      let d : depth_of (grid c) (log ++ x ∷ []) e ≡ depth_of (grid c) log e = depth_more (grid c) log a op (Insert id e.vector) ((grid c).perm e.vector) in
      record {
        is = record {
          born = (
            omega arith,
            subst (λ (us : List Update). slice_get us (e.birth - 1) ≡ Some (Insert (id_of e) e.vector)) (sym (updates_of-append log (x ∷ [])))
                (ap (slice_get (updates_of log ++ Insert id e.vector ∷ [])) (omega arith) ∙ get_last (updates_of log) (Insert id e.vector) ∙ ap (λ (n : ℕ). Some (Insert n e.vector)) (sym named)),
          );
          dists = dists;
          fits = fits;
          down = depth_of (grid c) log e;
          deep = depth_deep (grid c) ok log legal ((grid c).perm e.vector);
          near = omega arith;
          keyed = key;
          death = λ n t. cc;
          died = λ k f _. absurd (none_yet k f);
          none_deeper = λ k f. absurd (none_yet k f);
        };
        copied = λ k. absurd (omega arith);
        left = λ l. absurd (omega arith);
      }

  placed : is_placed (grid c) log e ≡ true
  placed = eq-eqb e.key (key_down (grid c) (depth_of (grid c) log e) (born_in e)) key

  born_is : born_in e ≡ record { id = id; vector = e.vector; birth = e.birth }
  born_is = ap (λ (n : ℕ). record { id = n; vector = e.vector; birth = e.birth }) named

  pub entries_insert : AreEntries c (log ++ x ∷ []) floor actors retired (put entry_cmp e entries)
  entries_insert = record {
    places = all_put entry_cmp (HasPlace c (log ++ x ∷ []) actors retired) e entries new_place (all_weaker _ _ old_place entries s.places);
    shows = extend (grid c) log x (put entry_cmp e entries) floor
        (λ k l m. insert_before (grid c) log a op id e entries all_timely birth death born_is placed k (s.shows k l m))
        (insert_now (grid c) log a op id e entries all_timely birth death born_is placed
        (subst (λ (l : List LogEvent). Shows (grid c) l entries) (take_all (length log) log (omega arith)) (s.shows (length log) low (omega arith))));
    works = λ b r w there split.
        let h = s.works b r w there split in
        work_kept (grid c) log (log ++ x ∷ []) entries (put entry_cmp e entries) w h
        (leaf_more (grid c) log a op (Insert id e.vector) w.leaf ∙ h.leaf)
        (filter_put_out entry_cmp (is_under (grid c) w.leaf) e (free b w (record { actor = r; there = there; split = split })) entries)
        (λ y t. depth_more (grid c) log a op (Insert id e.vector) ((grid c).perm y))
        (all_weaker _ _ (λ y h _. counts_more (grid c) log a op (Insert id e.vector) y h) entries all_timely);
  }

-- What is dropped counts at no position from the floor on, and lies under no split's leaf.
module _ (c : Configuration) (log : List LogEvent) (floor : ℕ) (actors : List Actor) (retired : List (List ℕ)) (entries : List Entry) (low : floor ≤ length log)
    (out : Entry → Bool)
    (past : AllByRecursion (λ e. out e ≡ true → (k : ℕ) → floor ≤ k → k ≤ length log → counts (grid c) (take k log) e ≡ false) entries)
    (behind : AllByRecursion (λ e. out e ≡ true → is_ahead (grid c) log e ≡ false) entries) where
  dropped_under : (p : List ℕ) (F : Entry → Bool) → AllByRecursion (λ e. out e ≡ true → F e ≡ false) entries
      → filter F (under (grid c) p (filter (λ e. not (out e)) entries)) ≡ filter F (under (grid c) p entries)
  dropped_under p F a =
      filter_twice F (is_under (grid c) p) (filter (λ e. not (out e)) entries)
      ∙ filter_dropped (λ e. is_under (grid c) p e && F e) out entries (all_weaker _ _ (λ e i o. and_no (is_under (grid c) p e) (F e) (i o)) entries a)
      ∙ sym (filter_twice F (is_under (grid c) p) entries)

  not_now : (e : Entry) → (out e ≡ true → (k : ℕ) → floor ≤ k → k ≤ length log → counts (grid c) (take k log) e ≡ false) → out e ≡ true → counts (grid c) log e ≡ false
  not_now e h o = subst (λ (l : List LogEvent). counts (grid c) l e ≡ false) (take_all (length log) log (omega arith)) (h o (length log) low (omega arith))

  pub shows_dropped : ((k : ℕ) → floor ≤ k → k ≤ length log → Shows (grid c) (take k log) entries) → (k : ℕ) → floor ≤ k → k ≤ length log → Shows (grid c) (take k log) (filter (λ e. not (out e)) entries)
  shows_dropped s k l m = drop_shows (grid c) (take k log) entries out (all_weaker _ _ (λ e h o. h o k l m) entries past) (s k l m)

  pub work_dropped : (w : SplitWork) → IsWork (grid c) log entries w → IsWork (grid c) log (filter (λ e. not (out e)) entries) w
  work_dropped w h = record {
    leaf = h.leaf;
    above = h.above;
    gathered = h.gathered ∙ sym (dropped_under w.leaf (λ e. counts (grid c) log e && nat_lt e.key w.mark) (all_weaker _ _ (λ e i o. no_and (counts (grid c) log e) (nat_lt e.key w.mark) (not_now e i o)) entries past));
    few = h.few;
    copies = same_trans (same_is _ _ (dropped_under w.leaf (is_ahead (grid c) log) behind)) h.copies;
  }

  pub entries_drop : AreEntries c log floor actors retired entries → AreEntries c log floor actors retired (filter (λ e. not (out e)) entries)
  entries_drop s = record {
    places = filter_keeps (HasPlace c log actors retired) (λ e. not (out e)) entries s.places;
    shows = shows_dropped s.shows;
    works = λ a r w there split. work_dropped w (s.works a r w there split);
  }

module _ (c : Configuration) (ok : IsKeyed (grid c)) (log : List LogEvent) (legal : AllMaySplit (grid c) log) where
  -- an entry ahead is one below its leaf, and one that counts is in its leaf
  pub ahead_down : (e : Entry) → (h : IsEntry c log e) → is_ahead (grid c) log e ≡ true → h.down ≡ depth_of (grid c) log e + 1
  ahead_down e h t =
      let both = and_parts (nat_lt (depth_of (grid c) log e) c.levels) (is_down (grid c) (depth_of (grid c) log e + 1) e) t in
      let lt = ltb-true (depth_of (grid c) log e) c.levels both.0 in
      ok.apart (born_in e) h.down (depth_of (grid c) log e + 1) h.deep (omega arith)
      (sym h.keyed ∙ eqb-true e.key (key_down (grid c) (depth_of (grid c) log e + 1) (born_in e)) both.1)

  pub counts_down : (e : Entry) → (h : IsEntry c log e) → counts (grid c) log e ≡ true → h.down ≡ depth_of (grid c) log e
  counts_down e h t =
      ok.apart (born_in e) h.down (depth_of (grid c) log e) h.deep (depth_deep (grid c) ok log legal ((grid c).perm e.vector))
      (sym h.keyed ∙ eqb-true e.key (key_down (grid c) (depth_of (grid c) log e) (born_in e)) (and_parts (is_shown (length (updates_of log)) e) (is_placed (grid c) log e) t).1)

-- A trim: what died by so many updates, at most those of the floor.
module _ (c : Configuration) (ok : IsKeyed (grid c)) (log : List LogEvent) (legal : AllMaySplit (grid c) log) (floor : ℕ) (actors : List Actor) (retired : List (List ℕ)) (entries : List Entry)
    (s : AreEntries c log floor actors retired entries) (low : floor ≤ length log) (u : ℕ) (le : u ≤ length (updates_of (take floor log))) (inside : ℕ → Bool) where
  pub entries_trim : AreEntries c log floor actors retired (filter (λ e. not (inside e.key && not (outlives e.death u))) entries)
  entries_trim = entries_drop c log floor actors retired entries low (λ e. inside e.key && not (outlives e.death u))
      (all_any _ (λ e t k l m.
      let dead = (and_parts (inside e.key) (not (outlives e.death u)) t).1 in
      let n = count_between floor k log l in
      no_and _ _ (and_no _ _ (dead_on u (length (updates_of (take k log))) e.death (omega arith) dead))) entries)
      (all_weaker _ _ (λ e h t. not_true (is_ahead (grid c) log e) (λ i.
      let dead = (and_parts (inside e.key) (not (outlives e.death u)) t).1 in
      let lives = (h.copied (ahead_down c ok log legal e h.is i)).0 in
      false≢true (rw lives at dead))) entries s.places)
      s

or_true : (b : Bool) → (b || true) ≡ true
or_true true = refl
or_true false = refl

any_more : (t : List ℕ → Bool) (ps : List (List ℕ)) (q : List ℕ) → list_any t ps ≡ true → list_any t (ps ++ q ∷ []) ≡ true
any_more t [] q h = absurd (false≢true h)
any_more t (p ∷ ps) q h =
    let P : Bool → Type 0 = λ b. (b || list_any t ps) ≡ true → (b || list_any t (ps ++ q ∷ [])) ≡ true in
    (elim (t p) as P [ true ↦ λ _. refl | false ↦ λ r. any_more t ps q r ]) h

any_there : (t : List ℕ → Bool) (ps : List (List ℕ)) (q : List ℕ) → t q ≡ true → list_any t (ps ++ q ∷ []) ≡ true
any_there t [] q h = rw h refl
any_there t (p ∷ ps) q h =
    let P : Bool → Type 0 = λ b. (b || list_any t (ps ++ q ∷ [])) ≡ true in
    elim (t p) as P [ true ↦ refl | false ↦ any_there t ps q h ]

any-append : {X : Type 0} (t : X → Bool) (xs ys : List X) → list_any t (xs ++ ys) ≡ (list_any t xs || list_any t ys)
any-append t [] ys = refl
any-append t (x ∷ xs) ys =
    let P : Bool → Type 0 = λ b. (b || list_any t (xs ++ ys)) ≡ ((b || list_any t xs) || list_any t ys) in
    elim (t x) as P [ true ↦ refl | false ↦ any-append t xs ys ]

split_kept : (n : ℕ) (p q : List ℕ) → same_cell p q ≡ false → (ls : List (List ℕ)) → list_any (same_cell q) ls ≡ true → list_any (same_cell q) (flat_map (split_cell n p) ls) ≡ true
split_kept n p q ne [] h = h
split_kept n p q ne (x ∷ ls) h =
    let P : Bool → Type 0 = λ b. same_cell q x ≡ b → (b || list_any (same_cell q) ls) ≡ true → (list_any (same_cell q) (split_cell n p x) || list_any (same_cell q) (flat_map (split_cell n p) ls)) ≡ true in
    any-append (same_cell q) (split_cell n p x) (flat_map (split_cell n p) ls)
    ∙ (elim (same_cell q x) as P [
      | true ↦ λ e _.
          let other : same_cell p x ≡ false = subst (λ (y : List ℕ). same_cell p y ≡ false) (same_cell_is q x e) ne in
          rw (other, e) refl
      | false ↦ λ e r. rw (split_kept n p q ne ls r) (or_true (list_any (same_cell q) (split_cell n p x)))
    ]) refl h

pub leaf_split : (g : Grid) (log : List LogEvent) (p q : List ℕ) → same_cell p q ≡ false → is_leaf g log q ≡ true → is_leaf g (log ++ Split p ∷ []) q ≡ true
leaf_split g log p q ne l = ap (list_any (same_cell q)) (fold-append (leaves_after g.pivots) (first_leaves g.pivots) log (Split p ∷ [])) ∙ split_kept g.pivots p q ne (leaves g log) l

turn : (a b : Bool) → (a && (b && true)) ≡ (b && a)
turn true true = refl
turn true false = refl
turn false true = refl
turn false false = refl

flip : (a b : Bool) → (a && b) ≡ (b && a)
flip true true = refl
flip true false = refl
flip false true = refl
flip false false = refl

-- the split of one actor is over, and all else is as before
pub record EndsSplit (old new : List Actor) (a : ℕ) : Type 0 where
  pub split : (b : ℕ) (w : SplitWork) → b ≢ a → HasSplit old b w → HasSplit new b w
  pub sweep : (b : ℕ) (w : SweepWork) → HasSweep old b w → HasSweep new b w
  pub back : (b : ℕ) (w : SplitWork) → HasSplit new b w → HasSplit old b w × (b ≢ a)

-- A publish of a split that has gathered and copied its whole leaf.
module _ (c : Configuration) (ok : IsKeyed (grid c)) (log : List LogEvent) (legal : AllMaySplit (grid c) log) (floor : ℕ) (actors new : List Actor) (retired : List (List ℕ)) (entries : List Entry)
    (s : AreEntries c log floor actors retired entries) (low : floor ≤ length log)
    (a : ℕ) (w : SplitWork) (has : HasSplit actors a w) (ends : EndsSplit actors new a)
    (apart : (b : ℕ) (x : SplitWork) → b ≢ a → HasSplit actors b x → same_cell w.leaf x.leaf ≡ false)
    (all_copied : w.copied ≡ length w.gathered)
    (past_all : AllByRecursion (λ e. is_under (grid c) w.leaf e ≡ true → counts (grid c) log e ≡ true → nat_lt e.key w.mark ≡ true) entries)
    (same_born : AllByRecursion (λ e. born_in (child_entry (grid c) log e) ≡ born_in e) w.gathered) where
  abbrev g : Grid
  g = grid c

  work : IsWork g log entries w
  work = s.works a has.actor w has.there has.split

  deep_leaf : (v : List ℤ) → begins w.leaf (g.perm v) ≡ true → depth g log (g.perm v) ≡ length w.leaf
  deep_leaf v h = leaf_deep g ok log legal w.leaf v work.leaf h

  whole_test : (e : Entry) → (is_under g w.leaf e ≡ true → counts g log e ≡ true → nat_lt e.key w.mark ≡ true) → (is_under g w.leaf e && (counts g log e && nat_lt e.key w.mark)) ≡ (counts g log e && is_under g w.leaf e)
  whole_test e h =
      let P : Bool → Bool → Type 0 = λ b d. (b ≡ true → d ≡ true → nat_lt e.key w.mark ≡ true) → (b && (d && nat_lt e.key w.mark)) ≡ (d && b) in
      let go : (b d : Bool) → P b d = elim [
        | true ↦ elim [ true ↦ λ i. i refl refl | false ↦ λ i. refl ]
        | false ↦ elim [ true ↦ λ i. refl | false ↦ λ i. refl ]
      ] in
      go (is_under g w.leaf e) (counts g log e) h

  whole : w.gathered ≡ filter (is_under g w.leaf) (shown g log entries)
  whole = work.gathered
      ∙ filter_twice (λ e. counts g log e && nat_lt e.key w.mark) (is_under g w.leaf) entries
      ∙ filter_same (λ e. is_under g w.leaf e && (counts g log e && nat_lt e.key w.mark)) (λ e. counts g log e && is_under g w.leaf e) entries
      (all_weaker _ _ whole_test entries past_all)
      ∙ sym (filter_twice (is_under g w.leaf) (counts g log) entries)

  copies : SameElements (filter (λ e. is_ahead g log e && is_under g w.leaf e) entries) (map (child_entry g log) w.gathered)
  copies = same_trans
      (same_is _ _ (sym (filter_twice (is_ahead g log) (is_under g w.leaf) entries
      ∙ filter_same (λ e. is_under g w.leaf e && is_ahead g log e) (λ e. is_ahead g log e && is_under g w.leaf e) entries (all_any _ (λ e. flip (is_under g w.leaf e) (is_ahead g log e)) entries))))
      (same_trans work.copies (same_is _ _ (copies_same g ok log legal entries w work w.copied ∙ ap (map (child_entry g log)) (take_all w.copied w.gathered (omega arith)))))

  shows_now : Shows g (log ++ Split w.leaf ∷ []) entries
  shows_now = publish_shows g log w.leaf entries w.gathered work.above deep_leaf
      (subst (λ (l : List LogEvent). Shows g l entries) (take_all (length log) log (omega arith)) (s.shows (length log) low (omega arith))) whole copies same_born

  updates_same : updates_of (log ++ Split w.leaf ∷ []) ≡ updates_of log
  updates_same = updates_of_split log w.leaf

  grown : (e : Entry) → depth_of g log e ≤ depth_of g (log ++ Split w.leaf ∷ []) e
  grown e = subst (λ (n : ℕ). n ≤ depth_of g (log ++ Split w.leaf ∷ []) e) (ap (λ (l : List LogEvent). depth_of g l e) (take_before (length log) (omega arith))) (depth_take g (log ++ Split w.leaf ∷ []) (length log) (g.perm e.vector))
    where
      take_before : (k : ℕ) → k ≤ length log → take (length log) (log ++ Split w.leaf ∷ []) ≡ log
      take_before k le = take_less log (Split w.leaf) (length log) (omega arith) ∙ take_all (length log) log (omega arith)

  unswept : (e : Entry) → IsUnswept g actors e → IsUnswept g new e
  unswept e h =
      let n = ends.sweep h.by h.work (record { actor = h.actor; there = h.there; sweep = h.sweep }) in
      record { by = h.by; actor = n.actor; there = n.there; work = h.work; sweep = n.sweep; lies = h.lies; ahead = h.ahead }

  -- one who works on another leaf does so on
  worked : (e : Entry) → is_under g w.leaf e ≡ false → IsWorked g actors e.vector → IsWorked g new e.vector
  worked e t h =
      let other : h.by ≢ a = λ same.
      let mine : HasSplit actors a h.work = subst (λ (b : ℕ). HasSplit actors b h.work) same (record { actor = h.actor; there = h.there; split = h.split }) in
      let actor_same : Some mine.actor ≡ Some has.actor = sym mine.there ∙ has.there in
      let one : mine.actor ≡ has.actor = cc in
      let both : Some h.work ≡ Some w = sym mine.split ∙ ap (λ (r : Actor). r.split) one ∙ has.split in
      let work_same : h.work ≡ w = cc in
      false≢true (sym t ∙ subst (λ (x : SplitWork). begins x.leaf (g.perm e.vector) ≡ true) work_same h.under) in
      let n = ends.split h.by h.work other (record { actor = h.actor; there = h.there; split = h.split }) in
      record { by = h.by; actor = n.actor; there = n.there; work = h.work; split = n.split; under = h.under }

  place_under : (e : Entry) → HasPlace c log actors retired e → is_under g w.leaf e ≡ true → HasPlace c (log ++ Split w.leaf ∷ []) new (retired ++ w.leaf ∷ []) e
  place_under e h t =
      let d : depth_of g log e ≡ length w.leaf = deep_leaf e.vector t in
      let d' : depth_of g (log ++ Split w.leaf ∷ []) e ≡ depth_of g log e + 1 = depth_under g log w.leaf (g.perm e.vector) t d in
      let near = h.is.near in
      let m = entry_more c log (Split w.leaf) e refl (grown e) h.is in
      let n = m.1 in
      record {
        is = m.0;
        copied = λ k. absurd (omega arith);
        left = λ l. elim (cases_eq h.is.down (length w.leaf)) [
          | inl here ↦
              let lies : is_down g (length w.leaf) e ≡ true = eq-eqb e.key (key_down g (length w.leaf) (born_in e)) (h.is.keyed ∙ ap (λ n. key_down g n (born_in e)) here) in
              inl (any_there (λ q. is_in g q e) retired w.leaf (rw (lies, t) refl))
          | inr ne ↦ elim (h.left (omega arith)) [ inl r ↦ inl (any_more (λ q. is_in g q e) retired w.leaf r) | inr u ↦ inr (unswept e u) ]
        ];
      }

  place_out : (e : Entry) → HasPlace c log actors retired e → is_under g w.leaf e ≡ false → HasPlace c (log ++ Split w.leaf ∷ []) new (retired ++ w.leaf ∷ []) e
  place_out e h t =
      let d' : depth_of g (log ++ Split w.leaf ∷ []) e ≡ depth_of g log e = depth_not_under g log w.leaf (g.perm e.vector) t in
      let m = entry_more c log (Split w.leaf) e refl (grown e) h.is in
      let n = m.1 in
      record {
        is = m.0;
        copied = λ k. let was = h.copied (omega arith) in (was.0, worked e t was.1);
        left = λ l. elim (h.left (omega arith)) [ inl r ↦ inl (any_more (λ q. is_in g q e) retired w.leaf r) | inr u ↦ inr (unswept e u) ];
      }

  place_now : (e : Entry) → HasPlace c log actors retired e → HasPlace c (log ++ Split w.leaf ∷ []) new (retired ++ w.leaf ∷ []) e
  place_now e h =
      let P : Bool → Type 0 = λ b. is_under g w.leaf e ≡ b → HasPlace c (log ++ Split w.leaf ∷ []) new (retired ++ w.leaf ∷ []) e in
      (elim (is_under g w.leaf e) as P [ true ↦ λ t. place_under e h t | false ↦ λ t. place_out e h t ]) refl

  one_kept : (x : SplitWork) → IsWork g log entries x → same_cell w.leaf x.leaf ≡ false → IsWork g (log ++ Split w.leaf ∷ []) entries x
  one_kept x h n =
      let out : (v : List ℤ) → begins x.leaf (g.perm v) ≡ true → depth g (log ++ Split w.leaf ∷ []) (g.perm v) ≡ depth g log (g.perm v) = λ v t.
      depth_not_under g log w.leaf (g.perm v) (leaf_apart g ok.grid log legal w.leaf x.leaf v work.leaf h.leaf n t) in
      work_kept g log (log ++ Split w.leaf ∷ []) entries entries x h (leaf_split g log w.leaf x.leaf n h.leaf) refl out
      (all_any _ (λ e t. rw (updates_same, out e.vector t) refl) entries)

  pub entries_publish : AreEntries c (log ++ Split w.leaf ∷ []) floor new (retired ++ w.leaf ∷ []) entries
  entries_publish = record {
    places = all_weaker _ _ place_now entries s.places;
    shows = extend g log (Split w.leaf) entries floor s.shows shows_now;
    works = λ b r x there split.
        let o = ends.back b x (record { actor = r; there = there; split = split }) in
        one_kept x (s.works b o.0.actor x o.0.there o.0.split) (apart b x o.1 o.0);
  }

-- one actor's split has copied one more
pub record Copies (old new : List Actor) (a : ℕ) (w w' : SplitWork) : Type 0 where
  pub now : HasSplit new a w'
  pub split : (b : ℕ) (x : SplitWork) → b ≢ a → HasSplit old b x → HasSplit new b x
  pub sweep : (b : ℕ) (x : SweepWork) → HasSweep old b x → HasSweep new b x
  pub back : (b : ℕ) (x : SplitWork) → HasSplit new b x → ((b ≡ a) × (x ≡ w')) ⊎ ((b ≢ a) × HasSplit old b x)

-- A copy of the next gathered entry.
module _ (c : Configuration) (ok : IsKeyed (grid c)) (log : List LogEvent) (legal : AllMaySplit (grid c) log) (floor : ℕ) (actors new : List Actor) (retired : List (List ℕ)) (entries : List Entry)
    (s : AreEntries c log floor actors retired entries) (a : ℕ) (w : SplitWork) (has : HasSplit actors a w)
    (apart : (b : ℕ) (x : SplitWork) → b ≢ a → HasSplit actors b x → same_cell w.leaf x.leaf ≡ false)
    (e : Entry) (next : take (w.copied + 1) w.gathered ≡ take w.copied w.gathered ++ e ∷ []) (more : w.copied < length w.gathered)
    (copies : Copies actors new a w (record w { copied = w.copied + 1 })) where
  abbrev h : Grid
  h = grid c

  abbrev copy : Entry
  copy = child_entry (grid c) log e

  its_work : IsWork h log entries w
  its_work = s.works a has.actor w has.there has.split

  source : HasPlace c log actors retired e × (is_under h w.leaf e ≡ true)
  source =
      let P : Entry → Type 0 = λ x. HasPlace c log actors retired x × (is_under h w.leaf x ≡ true) in
      let all : AllByRecursion P w.gathered = subst (AllByRecursion P) (sym its_work.gathered)
      (filter_keeps P (λ x. counts h log x && nat_lt x.key w.mark) (under h w.leaf entries) (all_both _ _ (under h w.leaf entries) (filter_keeps _ (is_under h w.leaf) entries s.places) (all_passes (is_under h w.leaf) entries))) in
      all_last P (take w.copied w.gathered) e (subst (AllByRecursion P) next (all_take P (w.copied + 1) w.gathered all))

  at_leaf : depth_of h log e ≡ length w.leaf
  at_leaf = leaf_deep h ok log legal w.leaf e.vector its_work.leaf source.1

  room : depth_of h log e < c.levels
  room = let n = its_work.above in let m = at_leaf in omega arith

  copy_id : id_of copy ≡ id_of e
  copy_id = ok.named (born_in e) source.0.is.fits (depth_of h log e + 1) (let r = room in omega arith)

  pub copy_born : born_in copy ≡ born_in e
  copy_born = ap (λ (n : ℕ). record { id = n; vector = e.vector; birth = e.birth }) copy_id

  copy_key : copy.key ≡ key_down h (depth_of h log e + 1) (born_in copy)
  copy_key = ap (key_down h (depth_of h log e + 1)) (sym copy_born)

  counted : counts h log e ≡ true
  counted =
      let T : Entry → Bool = λ x. counts h log x && nat_lt x.key w.mark in
      let all : AllByRecursion (λ (x : Entry). T x ≡ true) w.gathered = subst (AllByRecursion (λ (x : Entry). T x ≡ true)) (sym its_work.gathered) (all_passes T (under h w.leaf entries)) in
      (and_parts (counts h log e) (nat_lt e.key w.mark) (all_last (λ x. T x ≡ true) (take w.copied w.gathered) e (subst (AllByRecursion (λ (x : Entry). T x ≡ true)) next (all_take (λ x. T x ≡ true) (w.copied + 1) w.gathered all)))).0

  -- its object wasn't deleted
  no_delete : (k : ℕ) → IsFirstDelete log (id_of e) e.birth k → ⊥
  no_delete k f =
      let i = source.0.is in
      let d : i.down ≡ depth_of h log e = counts_down c ok log legal e i counted in
      let n = i.none_deeper k f in
      let t = depth_take h log k (h.perm e.vector) in
      let died : e.death ≡ Some (updates_by log k + 1) = i.died k f (omega arith) in
      let few = count_at k log f.session f.op (Delete (id_of e)) f.there in
      let shown = (and_parts (nat_le e.birth (length (updates_of log))) (outlives e.death (length (updates_of log))) (and_parts (is_shown (length (updates_of log)) e) (is_placed h log e) counted).0).1 in
      let after : nat_lt (length (updates_of log)) (updates_by log k + 1) ≡ true = ap (λ (o : Option ℕ). outlives o (length (updates_of log))) (sym died) ∙ shown in
      let l = ltb-true (length (updates_of log)) (updates_by log k + 1) after in
      omega arith

  copy_out : counts h log copy ≡ false
  copy_out =
      let ne : depth_of h log e + 1 ≢ depth_of h log e = omega arith in
      let r = room in
      and_no _ _ (not_down h ok copy (depth_of h log e + 1) (depth_of h log e) copy_key (omega arith) (omega arith) ne)

  copy_ahead : is_ahead h log copy ≡ true
  copy_ahead = let r = room in rw (lt-ltb (depth_of h log e) c.levels r, eq-eqb copy.key (key_down h (depth_of h log e + 1) (born_in copy)) copy_key) refl

  copy_work : IsWork h log (put entry_cmp copy entries) (record w { copied = w.copied + 1 })
  copy_work =
      let i = its_work in
      let F : Entry → Bool = λ x. counts h log x && nat_lt x.key w.mark in
      record {
        leaf = i.leaf;
        above = i.above;
        gathered = i.gathered
            ∙ filter_twice F (is_under h w.leaf) entries
            ∙ sym (filter_put_out entry_cmp (λ x. is_under h w.leaf x && F x) copy (and_no (is_under h w.leaf copy) (F copy) (no_and (counts h log copy) (nat_lt copy.key w.mark) copy_out)) entries)
            ∙ sym (filter_twice F (is_under h w.leaf) (put entry_cmp copy entries));
        few = omega arith;
        copies = same_trans (same_is _ _ (filter_twice (is_ahead h log) (is_under h w.leaf) (put entry_cmp copy entries)))
            (same_trans (put_in entry_cmp (λ x. is_under h w.leaf x && is_ahead h log x) copy entries (rw (source.1, copy_ahead) refl))
            (same_trans (same_cons copy _ _ (same_trans (same_is _ _ (sym (filter_twice (is_ahead h log) (is_under h w.leaf) entries))) (same_trans i.copies (same_is _ _ (copies_same h ok log legal entries w i w.copied)))))
            (same_trans (same_last (map (child_entry h log) (take w.copied w.gathered)) copy)
            (same_is _ _ (sym (copies_same h ok log legal entries w i (w.copied + 1) ∙ ap (map (child_entry h log)) next ∙ map-append (child_entry h log) (take w.copied w.gathered) (e ∷ [])))))));
      }

  other_work : (b : ℕ) (x : SplitWork) → b ≢ a → HasSplit actors b x → IsWork h log (put entry_cmp copy entries) x
  other_work b x n hs =
      let i = s.works b hs.actor x hs.there hs.split in
      let out : begins x.leaf (h.perm e.vector) ≡ false = not_true (begins x.leaf (h.perm e.vector)) (λ u. false≢true (sym (leaf_apart h ok.grid log legal w.leaf x.leaf e.vector its_work.leaf i.leaf (apart b x n hs) u) ∙ source.1)) in
      work_kept h log log entries (put entry_cmp copy entries) x i i.leaf
      (filter_put_out entry_cmp (is_under h x.leaf) copy out entries) (λ v t. refl) (all_any _ (λ y t. refl) entries)

  worked_on : (v : List ℤ) → IsWorked h actors v → IsWorked h new v
  worked_on v i = elim (cases_eq i.by a) [
    | inl b ↦
        let actor_is : Some i.actor ≡ Some has.actor = sym i.there ∙ ap (slice_get actors) b ∙ has.there in
        let one : i.actor ≡ has.actor = cc in
        let both : Some i.work ≡ Some w = sym i.split ∙ ap (λ (r : Actor). r.split) one ∙ has.split in
        let work_is : i.work ≡ w = cc in
        record { by = a; actor = copies.now.actor; there = copies.now.there; work = record w { copied = w.copied + 1 }; split = copies.now.split; under = subst (λ (x : SplitWork). begins x.leaf (h.perm v) ≡ true) work_is i.under }
    | inr n ↦
        let m = copies.split i.by i.work n (record { actor = i.actor; there = i.there; split = i.split }) in
        record { by = i.by; actor = m.actor; there = m.there; work = i.work; split = m.split; under = i.under }
  ]

  unswept_on : (y : Entry) → IsUnswept h actors y → IsUnswept h new y
  unswept_on y u =
      let m = copies.sweep u.by u.work (record { actor = u.actor; there = u.there; sweep = u.sweep }) in
      record { by = u.by; actor = m.actor; there = m.there; work = u.work; sweep = m.sweep; lies = u.lies; ahead = u.ahead }

  copy_place : HasPlace c log new retired copy
  copy_place =
      let i = source.0.is in
      let r = room in
      record {
        is = record {
          born = (i.born.0, i.born.1 ∙ ap (λ (n : ℕ). Some (Insert n e.vector)) (sym copy_id));
          dists = i.dists;
          fits = subst (FitsKey h) (sym copy_born) i.fits;
          down = depth_of h log e + 1;
          deep = omega arith;
          near = omega arith;
          keyed = copy_key;
          death = λ n t. cc;
          died = λ k f d. absurd (no_delete k (subst (λ (n : ℕ). IsFirstDelete log n e.birth k) copy_id f));
          none_deeper = λ k f. absurd (no_delete k (subst (λ (n : ℕ). IsFirstDelete log n e.birth k) copy_id f));
        };
        copied = λ d. (refl, worked_on e.vector (record { by = a; actor = has.actor; there = has.there; work = w; split = has.split; under = source.1 }));
        left = λ l. absurd (omega arith);
      }

  pub entries_copy : AreEntries c log floor new retired (put entry_cmp copy entries)
  entries_copy = record {
    places = all_put entry_cmp (HasPlace c log new retired) copy entries copy_place (all_weaker _ _ (λ y i. place_stays c log actors new retired y (worked_on y.vector) (unswept_on y) i) entries s.places);
    shows = λ k l m. copy_shows h ok log legal entries e room copy_born k (s.shows k l m);
    works = λ b r x there split. elim (copies.back b x (record { actor = r; there = there; split = split })) [
      | inl m ↦ subst (IsWork h log (put entry_cmp copy entries)) (sym m.1) copy_work
      | inr m ↦ other_work b x m.0 m.1
    ];
  }
