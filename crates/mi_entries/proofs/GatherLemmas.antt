-- What a page adds to what a split has gathered.
use Rattle.std.proofs.Common.{◌≡◌, ℕ, ◌-◌, ◌<◌, ◌≤◌, List, [], ◌∷◌, ◌++◌, append-nil, length, map, nat_le, nat_lt, Bool, true, false, cond, ◌&&◌, refl, sym, ap, ◌∙◌, subst, arith, Option, Some, None, is_none, inl, inr, length-append, eq-eqb}
use Rattle.std.specs.List.{AllByRecursion, filter}
use Rattle.std.proofs.lemmas.Bool.{and_from, and_parts, cases_lt, false≢true, le-leb, leb-true, lt-leb, le-ltb, lt-ltb, ltb-true}
use Rattle.std.proofs.lemmas.List.{take-append-le}
use Rattle.mi_base.specs.declared.records.LogEvent.{LogEvent}
use Rattle.mi_base.specs.Configuration.{Configuration, IsWithinLimits}
use Rattle.mi_base.specs.History.{updates_of}
use Rattle.mi_base.specs.Sorting.{SameElements}
use Rattle.mi_key.specs.declared.entries.Entry.{Entry}
use Rattle.mi_key.specs.Ranges.{is_within}
use Rattle.mi_page.specs.Entries.{is_shown, outlives}
use Rattle.mi_page.specs.Keys.{IsInside, is_below}
use Rattle.mi_page.specs.Nodes.{Node, in_range}
use Rattle.mi_tree.specs.Cells.{Grid, AllMaySplit, is_leaf}
use Rattle.mi_tree.specs.Legal.{LegalLog}
use Rattle.mi_tree.proofs.LeafLemmas.{begins_is}
use Rattle.mi_tree.proofs.LegalLemmas.{all_may}
use Rattle.mi_entries.specs.Marks.{cell_end, cell_range, cell_start, gather_more, gathered_in, mark_past}
use Rattle.mi_entries.specs.Entries.{HasPlace, born_in, counts, depth_of, is_ahead, is_placed, is_under, key_down, key_in, under, grid}
use Rattle.mi_entries.specs.Splits.{IsWork, copy_in_child}
use Rattle.mi_entries.specs.Actors.{Actor, SplitWork}
use Rattle.mi_entries.proofs.AbsentLemmas.{Rising}
use Rattle.mi_entries.proofs.ContentLemmas.{counts_down}
use Rattle.mi_entries.proofs.DepthLemmas.{IsKeyed, leaf_deep}
use Rattle.mi_entries.proofs.EntryLemmas.{timely}
use Rattle.mi_entries.proofs.KeyedLemmas.{is_keyed}
use Rattle.mi_entries.proofs.RetiredLemmas.{in_cell, leaf_fits, below_end, from_start}
use Rattle.mi_entries.proofs.FilterLemmas.{and_no, not_true}
use Rattle.mi_tree.proofs.ListLemmas.{all_any, all_weaker, filter_none, filter_same, filter_twice}

-- an entry that counts in a leaf has its key there
pub at_leaf_key : (c : Configuration) → IsWithinLimits c → (log : List LogEvent) → LegalLog c log → (p : List ℕ) → is_leaf (grid c) log p ≡ true → (e : Entry) {actors : List Actor} {retired : List (List ℕ)}
    → HasPlace c log actors retired e → is_under (grid c) p e ≡ true → counts (grid c) log e ≡ true → e.key ≡ key_in (grid c) p (born_in e)
at_leaf_key c limits log legal p leaf e h u t =
    let ok = is_keyed c limits in
    let may = all_may c log legal in
    let d = counts_down c ok log may e h.is t ∙ leaf_deep (grid c) ok log may p e.vector leaf u in
    h.is.keyed ∙ ap (λ n. key_down (grid c) n (born_in e)) d ∙ ap (λ q. key_in (grid c) q (born_in e)) (sym (begins_is p ((grid c).perm e.vector) u))

-- two tests that are true together are one
both_ways : (a b : Bool) → (a ≡ true → b ≡ true) → (b ≡ true → a ≡ true) → a ≡ b
both_ways true b f g = sym (f refl)
both_ways false b f g = sym (not_true b (λ t. false≢true (g t)))

-- keys up to a mark are those up to an earlier one, and those between
rising_parts : (u : Entry → Bool) (m n : ℕ) → m ≤ n → (xs : List Entry) → Rising xs
    → filter (λ e. u e && nat_lt e.key n) xs ≡ filter (λ e. u e && nat_lt e.key m) xs ++ filter (λ e. u e && (nat_le m e.key && nat_lt e.key n)) xs
rising_parts u m n le [] h = refl
rising_parts u m n le (x ∷ xs) h = elim (cases_lt x.key m) [
  | inl low ↦
      let P : Bool → Type 0 = λ b. cond (b && true) (x ∷ filter (λ e. u e && nat_lt e.key n) xs) (filter (λ e. u e && nat_lt e.key n) xs)
      ≡ cond (b && true) (x ∷ filter (λ e. u e && nat_lt e.key m) xs) (filter (λ e. u e && nat_lt e.key m) xs) ++ cond (b && (false && true)) (x ∷ filter (λ e. u e && (nat_le m e.key && nat_lt e.key n)) xs) (filter (λ e. u e && (nat_le m e.key && nat_lt e.key n)) xs) in
      let r = rising_parts u m n le xs h.1 in
      rw (lt-ltb x.key n (omega arith), lt-ltb x.key m low, lt-leb m x.key low) (elim (u x) as P [ true ↦ ap (λ es. x ∷ es) r | false ↦ r ])
  | inr high ↦
      let past : AllByRecursion (λ (e : Entry). m ≤ e.key) (x ∷ xs) = (high, all_weaker (λ (e : Entry). x.key < e.key) (λ (e : Entry). m ≤ e.key) (λ e l. omega arith) xs h.0) in
      filter_same (λ e. u e && nat_lt e.key n) (λ e. u e && (nat_le m e.key && nat_lt e.key n)) (x ∷ xs) (all_weaker (λ (e : Entry). m ≤ e.key) (λ (e : Entry). (u e && nat_lt e.key n) ≡ (u e && (nat_le m e.key && nat_lt e.key n))) (λ e l. rw (le-leb m e.key l) refl) (x ∷ xs) past)
      ∙ sym (ap (λ es. es ++ filter (λ e. u e && (nat_le m e.key && nat_lt e.key n)) (x ∷ xs)) (filter_none (λ e. u e && nat_lt e.key m) (x ∷ xs) (all_weaker (λ (e : Entry). m ≤ e.key) (λ (e : Entry). (u e && nat_lt e.key m) ≡ false) (λ e l. and_no (u e) (nat_lt e.key m) (le-ltb e.key m l)) (x ∷ xs) past)))
]

-- what is below the mark is below the page's high key
below_mark : (high : Option ℕ) (last key : ℕ) → key < mark_past high last → is_below high key ≡ true
below_mark None last key l = refl
below_mark (Some h) last key l =
    let P : Bool → Type 0 = λ b. nat_lt h last ≡ b → key < cond b h last → nat_lt key h ≡ true in
    (elim (nat_lt h last) as P [ true ↦ λ e l. lt-ltb key h l | false ↦ λ e l. lt-ltb key h (not_less e l) ]) refl l
  where
    not_less : nat_lt h last ≡ false → key < last → key < h
    not_less e l = elim (cases_lt h last) [ inl t ↦ absurd (false≢true (sym e ∙ lt-ltb h last t)) | inr t ↦ omega arith ]

mark_above : (high : Option ℕ) (last key : ℕ) → is_below high key ≡ true → key < last → key < mark_past high last
mark_above None last key b l = l
mark_above (Some h) last key b l =
    let less = ltb-true key h b in
    let P : Bool → Type 0 = λ t. key < cond t h last in
    elim (nat_lt h last) as P [ true ↦ less | false ↦ l ]

module _ (c : Configuration) (limits : IsWithinLimits c) (log : List LogEvent) (legal : LegalLog c log) (actors : List Actor) (retired : List (List ℕ)) (F : List Entry)
    (places : AllByRecursion (HasPlace c log actors retired) F) (rises : Rising F) (node : Node) (own : filter (λ e. in_range node e.key) F ≡ node.entries)
    (w : SplitWork) (work : IsWork (grid c) log F w) (inside : IsInside node.low node.high w.mark) where
  abbrev g : Grid
  g = grid c

  abbrev last : ℕ
  last = cell_end g w.leaf

  abbrev next : ℕ
  next = mark_past node.high last

  may : AllMaySplit g log
  may = all_may c log legal

  ok : IsKeyed g
  ok = is_keyed c limits

  abbrev mine : Entry → Bool
  mine e = is_under g w.leaf e && counts g log e

  abbrev added : Entry → Bool
  added e = in_range node e.key && (is_none e.death && (is_within (cell_range g w.leaf) e.key && nat_le w.mark e.key))

  -- an entry that counts in the leaf has a key of the cell, and no death
  in_leaf : (e : Entry) → HasPlace c log actors retired e → mine e ≡ true → (cell_start g w.leaf ≤ e.key) × (e.key < last) × (is_none e.death ≡ true)
  in_leaf e h t =
      let both = and_parts (is_under g w.leaf e) (counts g log e) t in
      let key = at_leaf_key c limits log legal w.leaf work.leaf e h both.0 both.1 in
      let start = from_start g w.leaf (born_in e) in
      let end = below_end g w.leaf (born_in e) h.is.fits in
      let shown = and_parts (nat_le e.birth (length (updates_of log))) (outlives e.death (length (updates_of log))) (and_parts (is_shown (length (updates_of log)) e) (is_placed g log e) both.1).0 in
      (omega (arith, key, start), omega (arith, key, end), living e.death (timely c log e h.is).death shown.1)
    where
      living : (o : Option ℕ) → ((d : ℕ) → o ≡ Some d → d ≤ length (updates_of log)) → outlives o (length (updates_of log)) ≡ true → is_none o ≡ true
      living None d s = refl
      living (Some n) d s = let a = d n refl in let b = ltb-true (length (updates_of log)) n s in absurd (omega arith)

  -- what the page adds are the entries that count in the leaf from the mark to the next one
  same_test : (e : Entry) → HasPlace c log actors retired e → added e ≡ (mine e && (nat_le w.mark e.key && nat_lt e.key next))
  same_test e h = both_ways (added e) (mine e && (nat_le w.mark e.key && nat_lt e.key next)) there back
    where
      there : added e ≡ true → (mine e && (nat_le w.mark e.key && nat_lt e.key next)) ≡ true
      there t =
          let a = and_parts (in_range node e.key) (is_none e.death && (is_within (cell_range g w.leaf) e.key && nat_le w.mark e.key)) t in
          let b = and_parts (is_none e.death) (is_within (cell_range g w.leaf) e.key && nat_le w.mark e.key) a.1 in
          let d = and_parts (is_within (cell_range g w.leaf) e.key) (nat_le w.mark e.key) b.1 in
          let fit = leaf_fits c limits w.leaf log may work.leaf in
          let cell = in_cell c limits w.leaf fit.0 fit.1 (born_in e) h.is.fits h.is.down h.is.deep (ap (is_within (cell_range g w.leaf)) (sym h.is.keyed) ∙ d.0) in
          let deep = leaf_deep g ok log may w.leaf e.vector work.leaf cell.1 in
          let placed : is_placed g log e ≡ true = eq-eqb e.key (key_down g (depth_of g log e) (born_in e)) (h.is.keyed ∙ ap (λ n. key_down g n (born_in e)) (cell.0 ∙ sym deep)) in
          let old = (timely c log e h.is).birth in
          let shown : is_shown (length (updates_of log)) e ≡ true = and_from (nat_le e.birth (length (updates_of log))) (outlives e.death (length (updates_of log))) (le-leb e.birth (length (updates_of log)) old) (lives e.death b.0) in
          let counts_it : mine e ≡ true = and_from (is_under g w.leaf e) (counts g log e) cell.1 (and_from (is_shown (length (updates_of log)) e) (is_placed g log e) shown placed) in
          let low = (in_leaf e h counts_it).1 in
          let below = (and_parts (nat_le node.low e.key) (is_below node.high e.key) a.0).1 in
          and_from (mine e) (nat_le w.mark e.key && nat_lt e.key next) counts_it (and_from (nat_le w.mark e.key) (nat_lt e.key next) d.1 (lt-ltb e.key next (mark_above node.high last e.key below low)))
        where
          lives : (o : Option ℕ) → is_none o ≡ true → outlives o (length (updates_of log)) ≡ true
          lives None t = refl
          lives (Some n) t = absurd (false≢true t)

      back : (mine e && (nat_le w.mark e.key && nat_lt e.key next)) ≡ true → added e ≡ true
      back t =
          let a = and_parts (mine e) (nat_le w.mark e.key && nat_lt e.key next) t in
          let b = and_parts (nat_le w.mark e.key) (nat_lt e.key next) a.1 in
          let l = in_leaf e h a.0 in
          let from = leb-true w.mark e.key b.0 in
          let to = ltb-true e.key next b.1 in
          let low = inside.from_low in
          let start = l.0 in
          let end = l.1 in
          let within : is_within (cell_range g w.leaf) e.key ≡ true = and_from (nat_le (cell_start g w.leaf) e.key) (nat_le e.key (last - 1)) (le-leb (cell_start g w.leaf) e.key start) (le-leb e.key (last - 1) (omega arith)) in
          and_from (in_range node e.key) (is_none e.death && (is_within (cell_range g w.leaf) e.key && nat_le w.mark e.key))
          (and_from (nat_le node.low e.key) (is_below node.high e.key) (le-leb node.low e.key (omega arith)) (below_mark node.high last e.key to))
          (and_from (is_none e.death) (is_within (cell_range g w.leaf) e.key && nat_le w.mark e.key) l.2 (and_from (is_within (cell_range g w.leaf) e.key) (nat_le w.mark e.key) within b.0))

  added_is : gathered_in g w node ≡ filter (λ e. mine e && (nat_le w.mark e.key && nat_lt e.key next)) F
  added_is = ap (filter (λ e. is_none e.death && (is_within (cell_range g w.leaf) e.key && nat_le w.mark e.key))) (sym own)
      ∙ filter_twice (λ e. is_none e.death && (is_within (cell_range g w.leaf) e.key && nat_le w.mark e.key)) (λ e. in_range node e.key) F
      ∙ filter_same added (λ e. mine e && (nat_le w.mark e.key && nat_lt e.key next)) F (all_weaker _ _ same_test F places)

  to_mark : (n : ℕ) → filter (λ e. counts g log e && nat_lt e.key n) (under g w.leaf F) ≡ filter (λ e. mine e && nat_lt e.key n) F
  to_mark n = filter_twice (λ e. counts g log e && nat_lt e.key n) (is_under g w.leaf) F ∙ filter_same _ _ F (all_any _ (λ e. and_and (is_under g w.leaf e) (counts g log e) (nat_lt e.key n)) F)
    where
      and_and : (x y z : Bool) → (x && (y && z)) ≡ ((x && y) && z)
      and_and true y z = refl
      and_and false y z = refl

  -- a mark past the leaf stays past it
  gathered_on : w.gathered ++ gathered_in g w node ≡ filter (λ e. mine e && nat_lt e.key next) F
  gathered_on = elim (cases_lt next w.mark) [
    | inr le ↦ ap (λ es. es ++ gathered_in g w node) (work.gathered ∙ to_mark w.mark) ∙ ap (λ es. filter (λ e. mine e && nat_lt e.key w.mark) F ++ es) added_is ∙ sym (rising_parts mine w.mark next le F rises)
    | inl past ↦
        let short : last < w.mark = past_last node.high inside.below_high past in
        let none : filter (λ e. mine e && (nat_le w.mark e.key && nat_lt e.key next)) F ≡ [] = filter_none _ F (all_any _ (λ e. and_no (mine e) (nat_le w.mark e.key && nat_lt e.key next) (never past e.key)) F) in
        ap (λ es. es ++ gathered_in g w node) (work.gathered ∙ to_mark w.mark) ∙ ap (λ es. filter (λ e. mine e && nat_lt e.key w.mark) F ++ es) (added_is ∙ none)
        ∙ append-nil (filter (λ e. mine e && nat_lt e.key w.mark) F)
        ∙ filter_same (λ e. mine e && nat_lt e.key w.mark) (λ e. mine e && nat_lt e.key next) F (all_weaker _ _ (λ e h. both_ways _ _
        (λ t. let a = and_parts (mine e) (nat_lt e.key w.mark) t in let l = (in_leaf e h a.0).1 in and_from (mine e) (nat_lt e.key next) a.0 (lt-ltb e.key next (next_last node.high inside.below_high past e.key l)))
        (λ t. let a = and_parts (mine e) (nat_lt e.key next) t in let l = (in_leaf e h a.0).1 in and_from (mine e) (nat_lt e.key w.mark) a.0 (lt-ltb e.key w.mark (omega arith)))) F places)
  ]
    where
      never : next < w.mark → (key : ℕ) → (nat_le w.mark key && nat_lt key next) ≡ false
      never past key = not_true _ (λ t. let b = and_parts (nat_le w.mark key) (nat_lt key next) t in let x = leb-true w.mark key b.0 in let y = ltb-true key next b.1 in omega arith)

      past_last : (high : Option ℕ) → is_below high w.mark ≡ true → mark_past high last < w.mark → last < w.mark
      past_last None b l = l
      past_last (Some h) b l =
          let less = ltb-true w.mark h b in
          let P : Bool → Type 0 = λ t. cond t h last < w.mark → last < w.mark in
          (elim (nat_lt h last) as P [ true ↦ λ l. absurd (omega arith) | false ↦ λ l. l ]) l

      next_last : (high : Option ℕ) → is_below high w.mark ≡ true → mark_past high last < w.mark → (key : ℕ) → key < last → key < mark_past high last
      next_last None b l key k = k
      next_last (Some h) b l key k =
          let less = ltb-true w.mark h b in
          let P : Bool → Type 0 = λ t. cond t h last < w.mark → key < cond t h last in
          (elim (nat_lt h last) as P [ true ↦ λ l. absurd (omega arith) | false ↦ λ l. k ]) l

  pub more_work : IsWork g log F (gather_more g w node)
  more_work = record {
    leaf = work.leaf;
    above = work.above;
    gathered = gathered_on ∙ sym (to_mark next);
    few = (let f = work.few in omega (arith, length-append w.gathered (gathered_in g w node)));
    copies = subst (λ (es : List Entry). SameElements (filter (λ e. is_ahead g log e) (under g w.leaf F)) (map (copy_in_child g w.leaf) es)) (sym (take-append-le w.copied w.gathered (gathered_in g w node) work.few)) work.copies;
  }
