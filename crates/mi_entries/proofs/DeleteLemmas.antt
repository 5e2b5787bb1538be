-- A delete keeps what holds of entries.
use Rattle.std.proofs.Common.{◌≡◌, ◌≢◌, ℕ, ◌+◌, ◌-◌, ◌<◌, ◌≤◌, ◌==◌, List, [], ◌∷◌, ◌++◌, map, length, take, drop, Bool, true, false, cond, not, ◌&&◌, ◌||◌, nat_le, nat_lt, refl, sym, ap, ◌∙◌, subst, arith, Option, Some, None, inl, inr, ◌⊎◌, length-append, eq-eqb}
use Rattle.std.specs.Prelude.{slice_get}
use Rattle.std.specs.List.{AllByRecursion, filter, list_any}
use Rattle.std.proofs.lemmas.Bool.{and_parts, cases_eq, cases_lt, eqb-true, false≢true, le-ltb, lt-ltb, ltb-true, ne_eqb}
use Rattle.std.proofs.lemmas.List.{take-append-le, take_all}
use Rattle.std.proofs.lemmas.Option.{slice_get_within, same_Some}
use Rattle.mi_base.specs.declared.records.LogEvent.{LogEvent}
use Rattle.mi_base.specs.declared.records.LogEvent.TheVariants.{Update as Made}
use Rattle.mi_base.specs.declared.records.Update.{Update}
use Rattle.mi_base.specs.declared.records.Update.TheVariants.{Insert, Delete}
use Rattle.mi_base.specs.Configuration.{Configuration}
use Rattle.mi_base.specs.History.{updates_of}
use Rattle.mi_base.specs.Permutations.{begins}
use Rattle.mi_base.proofs.HistoryLemmas.{length-entered, same_any, updates_of-append}
use Rattle.mi_base.proofs.SortingLemmas.{same_trans, same_filter}
use Rattle.mi_key.specs.declared.entries.Entry.{Entry}
use Rattle.mi_key.specs.Keys.{parts_of}
use Rattle.mi_page.specs.Entries.{is_shown, outlives, with_death}
use Rattle.mi_tree.specs.Cells.{Grid, AllMaySplit, depth}
use Rattle.mi_tree.specs.Legal.{LegalLog}
use Rattle.mi_tree.proofs.LegalLemmas.{all_may}
use Rattle.mi_tree.specs.Births.{Born, born}
use Rattle.mi_entries.specs.Deaths.{IsFirstDelete, deletes, updates_by}
use Rattle.mi_entries.specs.Entries.{HasPlace, IsEntry, Shows, born_in, counts, depth_of, id_of, is_placed, is_under, key_down, grid}
use Rattle.mi_entries.specs.Splits.{AreEntries}
use Rattle.mi_entries.specs.Actors.{Actor, SplitWork}
use Rattle.mi_entries.proofs.AbsentLemmas.{one_object}
use Rattle.mi_entries.proofs.ContentLemmas.{HasSplit, counts_down, leaf_more, work_kept}
use Rattle.mi_entries.proofs.DepthLemmas.{IsKeyed, depth_take}
use Rattle.mi_entries.proofs.EntryLemmas.{count_at, delete_more, get_before, get_last, get_more, timely}
use Rattle.mi_entries.proofs.LivingLemmas.{born_at, lives_on, not_deleted, same_birth}
use Rattle.mi_entries.proofs.ShowLemmas.{born_more, count_take, counts_more, depth_more, extend}
use Rattle.mi_entries.proofs.FilterLemmas.{all_both, and_no, no_and, not_true, same_is}
use Rattle.mi_tree.proofs.ListLemmas.{all_map, all_weaker}

-- what passes is among the others
each_in : {X Y : Type 0} (p : X → Bool) (f : X → Y) (t : Y → Y → Bool) → ((y : Y) → t y y ≡ true) → (zs : List Y) (xs : List X)
    → ((q : Y → Bool) → list_any q (map f (filter p xs)) ≡ true → list_any q zs ≡ true) → AllByRecursion (λ x. p x ≡ true → list_any (t (f x)) zs ≡ true) xs
each_in p f t same zs [] h = tt
each_in {Y = Y} p f t same zs (x ∷ xs) h =
    ((λ e. h (t (f x)) (rw (e, same (f x)) refl)), each_in p f t same zs xs (λ q a. h q (more q a)))
  where
    more : (q : Y → Bool) → list_any q (map f (filter p xs)) ≡ true → list_any q (map f (cond (p x) (x ∷ filter p xs) (filter p xs))) ≡ true
    more q a =
        let P : Bool → Type 0 = λ b. list_any q (map f (cond b (x ∷ filter p xs) (filter p xs))) ≡ true in
        elim (p x) as P [ true ↦ ap (λ b. q (f x) || b) a ∙ or_true (q (f x)) | false ↦ a ]
      where
        or_true : (b : Bool) → (b || true) ≡ true
        or_true true = refl
        or_true false = refl

-- a change that leaves names as they are, and counts out one identifier
counted_out : (p q : Entry → Bool) (f : Entry → Entry) (id : ℕ) (es : List Entry) → AllByRecursion (λ y. (p (f y) ≡ (q y && not (id_of y == id))) × (born_in (f y) ≡ born_in y)) es
    → map born_in (filter p (map f es)) ≡ filter (λ (o : Born). not (o.id == id)) (map born_in (filter q es))
counted_out p q f id [] h = refl
counted_out p q f id (y ∷ es) h =
    let r = counted_out p q f id es h.1 in
    let P : Bool → Bool → Type 0 = λ a b. map born_in (cond (a && not b) (f y ∷ filter p (map f es)) (filter p (map f es))) ≡ filter (λ (o : Born). not (o.id == id)) (map born_in (cond a (y ∷ filter q es) (filter q es))) in
    let Q : Bool → Type 0 = λ a. map born_in (cond a (f y ∷ filter p (map f es)) (filter p (map f es))) ≡ filter (λ (o : Born). not (o.id == id)) (map born_in (cond (q y) (y ∷ filter q es) (filter q es))) in
    let R : Bool → Type 0 = λ b. (id_of y == id) ≡ b → (a : Bool) → P a b in
    let go : (a : Bool) → P a (id_of y == id) = (elim (id_of y == id) as R [
      | true ↦ λ e. elim [ true ↦ rw e r | false ↦ r ]
      | false ↦ λ e. elim [ true ↦ rw e (ap (λ (o : Born). o ∷ map born_in (filter p (map f es))) h.0.1 ∙ ap (λ os. born_in y ∷ os) r) | false ↦ r ]
    ]) refl in
    subst Q (sym h.0.0) (go (q y))

-- a change that a filter doesn't see
under_map : (p : Entry → Bool) (f : Entry → Entry) (es : List Entry) → AllByRecursion (λ y. (p (f y) ≡ p y) × (p y ≡ true → f y ≡ y)) es → filter p (map f es) ≡ filter p es
under_map p f [] h = refl
under_map p f (y ∷ es) h =
    let r = under_map p f es h.1 in
    let P : Bool → Type 0 = λ b. p y ≡ b → cond b (f y ∷ filter p (map f es)) (filter p (map f es)) ≡ cond b (y ∷ filter p es) (filter p es) in
    ap (λ b. cond b (f y ∷ filter p (map f es)) (filter p (map f es))) h.0.0
    ∙ (elim (p y) as P [ true ↦ λ e. ap (λ z. z ∷ filter p (map f es)) (h.0.1 e) ∙ ap (λ zs. y ∷ zs) r | false ↦ λ e. r ]) refl

-- what counts is of living objects
pub living_all : (c : Configuration) (log : List LogEvent) (entries : List Entry) → Shows (grid c) log entries
    → AllByRecursion (λ y. counts (grid c) log y ≡ true → list_any (born_at (id_of y) y.birth) (born (updates_of log)) ≡ true) entries
living_all c log entries s = each_in (counts (grid c) log) born_in (λ o. born_at o.id o.birth) (λ o. rw (eq-eqb o.id o.id refl, eq-eqb o.birth o.birth refl) refl) (born (updates_of log)) entries
    (λ q a. sym (same_any q _ _ s.same) ∙ a)

module _ (c : Configuration) (ok : IsKeyed (grid c)) (log : List LogEvent) (lawful : LegalLog c log) (floor : ℕ) (actors : List Actor) (retired : List (List ℕ)) (entries : List Entry)
    (s : AreEntries c log floor actors retired entries) (low : floor ≤ length log)
    (a op id : ℕ) (e : Entry) (its : HasPlace c log actors retired e) (named : id_of e ≡ id) (counted : counts (grid c) log e ≡ true)
    (lives : list_any (born_at id e.birth) (born (updates_of log)) ≡ true)
    (free : (b : ℕ) (w : SplitWork) → HasSplit actors b w → begins w.leaf ((grid c).perm e.vector) ≡ false) where
  abbrev g : Grid
  g = grid c

  abbrev us : List Update
  us = updates_of log

  abbrev x : LogEvent
  x = Made a op (Delete id)

  abbrev log' : List LogEvent
  log' = log ++ x ∷ []

  abbrev n : ℕ
  n = length us + 1

  abbrev f : Entry → Entry
  f = with_death e.key n

  abbrev dead : Entry → Entry
  dead y = record { key = y.key; vector = y.vector; dists = y.dists; birth = y.birth; death = Some n }

  legal : AllMaySplit g log
  legal = all_may c log lawful

  deep_same : (perm : List ℕ) → depth g log' perm ≡ depth g log perm
  deep_same perm = depth_more g log a op (Delete id) perm

  before : (k : ℕ) → k ≤ length log → take k log' ≡ take k log
  before k le = take-append-le k log (x ∷ []) le

  all_before : take (length log) log' ≡ log
  all_before = before (length log) (omega arith) ∙ take_all (length log) log (omega arith)

  down_e : its.is.down ≡ depth_of g log e
  down_e = counts_down c ok log legal e its.is counted

  -- an entry that lies in the leaf of its object is known by its object
  key_of_object : (y : Entry) (h : IsEntry c log y) → born_in y ≡ born_in e → h.down ≡ depth_of g log y → y.key ≡ e.key
  key_of_object y h same d =
      let vectors : y.vector ≡ e.vector = ap (λ (o : Born). o.vector) same in
      let deep : depth_of g log y ≡ depth_of g log e = ap (λ v. depth g log (g.perm v)) vectors in
      h.keyed ∙ ap (λ m. key_down g m (born_in y)) (d ∙ deep ∙ sym down_e) ∙ ap (key_down g its.is.down) same ∙ sym its.is.keyed

  same_by_birth : (y : Entry) → IsEntry c log y → id_of y ≡ id → list_any (born_at id y.birth) (born us) ≡ true → born_in y ≡ born_in e
  same_by_birth y h i t = one_object c log y e h its.is (i ∙ sym named) (same_birth c log lawful id y.birth e.birth t lives)

  same_by_key : (y : Entry) → IsEntry c log y → y.key ≡ e.key → born_in y ≡ born_in e
  same_by_key y h one =
      let mine : (parts_of y.key).birth ≡ y.birth = ap (λ m. (parts_of m).birth) h.keyed ∙ ok.aged (born_in y) h.fits h.down h.deep in
      let theirs : (parts_of e.key).birth ≡ e.birth = ap (λ m. (parts_of m).birth) its.is.keyed ∙ ok.aged (born_in e) its.is.fits its.is.down its.is.deep in
      one_object c log y e h its.is (ap (λ m. (parts_of m).id) one) (sym mine ∙ ap (λ m. (parts_of m).birth) one ∙ theirs)

  down_by_key : (y : Entry) (h : IsEntry c log y) → y.key ≡ e.key → h.down ≡ depth_of g log y
  down_by_key y h one =
      let same = same_by_key y h one in
      let deep : depth_of g log y ≡ depth_of g log e = ap (λ (o : Born). depth g log (g.perm o.vector)) same in
      ok.apart (born_in y) h.down its.is.down h.deep its.is.deep (sym h.keyed ∙ one ∙ its.is.keyed ∙ ap (key_down g its.is.down) (sym same)) ∙ down_e ∙ sym deep

  -- an earlier delete, or this one
  when_deleted : (y birth k : ℕ) → IsFirstDelete log' y birth k → (IsFirstDelete log y birth k × (k < length log)) ⊎ ((k ≡ length log) × (y ≡ id) × (list_any (deletes y) (drop birth us) ≡ false))
  when_deleted y birth k h = elim (cases_lt k (length log)) [
    | inl l ↦
        let t : take k log' ≡ take k log = before k (omega arith) in
        inl (
          record {
            session = h.session;
            op = h.op;
            there = sym (get_before log (x ∷ []) k l) ∙ h.there;
            later = subst (λ (l : List LogEvent). birth ≤ length (updates_of l)) t h.later;
            first = subst (λ (l : List LogEvent). list_any (deletes y) (drop birth (updates_of l)) ≡ false) t h.first;
          },
          l,
        )
    | inr l ↦
        let w = slice_get_within log' k (Made h.session h.op (Delete y)) h.there in
        let here : k ≡ length log = omega (arith, w, length-append log (x ∷ [])) in
        let is : Some x ≡ Some (Made h.session h.op (Delete y)) = sym (get_last log x) ∙ ap (slice_get log') (sym here) ∙ h.there in
        let t : take k log' ≡ log = ap (λ m. take m log') here ∙ all_before in
        inr (here, name_of h.session h.op y is, subst (λ (l : List LogEvent). list_any (deletes y) (drop birth (updates_of l)) ≡ false) t h.first)
  ]
    where
      name_of : (p q y : ℕ) → Some (Made a op (Delete id)) ≡ Some (Made p q (Delete y)) → y ≡ id
      name_of p q y h = cc

  -- an earlier delete is still the first
  entry_more : (y : Entry) (h : IsEntry c log y) (death : Option ℕ)
      → ((d : ℕ) → death ≡ Some d → (k : ℕ) × IsFirstDelete log' (id_of y) y.birth k × (d ≡ updates_by log' k + 1))
      → ((k : ℕ) → IsFirstDelete log' (id_of y) y.birth k → h.down ≡ depth_of g (take k log') y → death ≡ Some (updates_by log' k + 1))
      → ((k : ℕ) → IsFirstDelete log' (id_of y) y.birth k → h.down ≤ depth_of g (take k log') y)
      → (i : IsEntry c log' (record { key = y.key; vector = y.vector; dists = y.dists; birth = y.birth; death = death })) × (i.down ≡ h.down)
  entry_more y h death dies died none_deeper =
      let d : depth_of g log' y ≡ depth_of g log y = deep_same (g.perm y.vector) in
      let near = h.near in (
        record {
          born = (h.born.0, subst (λ (vs : List Update). slice_get vs (y.birth - 1) ≡ Some (Insert (id_of y) y.vector)) (sym (updates_of-append log (x ∷ []))) (get_more us (updates_of (x ∷ [])) (y.birth - 1) (Insert (id_of y) y.vector) h.born.1));
          dists = h.dists;
          fits = h.fits;
          down = h.down;
          deep = h.deep;
          near = omega arith;
          keyed = h.keyed;
          death = dies;
          died = died;
          none_deeper = none_deeper;
        },
        refl,
      )

  old_death : (y : Entry) (h : IsEntry c log y) (d : ℕ) → y.death ≡ Some d → (k : ℕ) × IsFirstDelete log' (id_of y) y.birth k × (d ≡ updates_by log' k + 1)
  old_death y h d t =
      let o = h.death d t in
      let w = slice_get_within log o.0 (Made o.1.session o.1.op (Delete (id_of y))) o.1.there in
      (o.0, delete_more log x (id_of y) y.birth o.0 o.1, o.2 ∙ ap (λ (l : List LogEvent). length (updates_of l) + 1) (sym (before o.0 (omega arith))))

  -- an entry with another key
  place_other : (y : Entry) → HasPlace c log actors retired y → y.key ≢ e.key → HasPlace c log' actors retired y
  place_other y h other =
      let d : depth_of g log' y ≡ depth_of g log y = deep_same (g.perm y.vector) in
      let m = entry_more y h.is y.death (old_death y h.is) died none_deeper in
      let u = m.1 in
      record { is = m.0; copied = λ k. h.copied (omega arith); left = λ l. h.left (omega arith) }
    where
      -- this delete is not of its object, if it lies in its leaf or deeper
      not_here : y.birth ≡ y.birth → id_of y ≡ id → list_any (deletes (id_of y)) (drop y.birth us) ≡ false → h.is.down < depth_of g log y
      not_here r i first =
          let alive : list_any (born_at id y.birth) (born us) ≡ true = subst (λ (m : ℕ). list_any (born_at m y.birth) (born us) ≡ true) i (lives_on us (id_of y) y.birth y.vector h.is.born.0 h.is.born.1 first) in
          let same = same_by_birth y h.is i alive in
          elim (cases_lt h.is.down (depth_of g log y)) [
            | inl l ↦ l
            | inr l ↦ elim (cases_eq h.is.down (depth_of g log y)) [
              | inl q ↦ absurd (other (key_of_object y h.is same q))
              | inr q ↦
                  let near = h.is.near in
                  let w = (h.copied (omega arith)).1 in
                  let out = free w.by w.work (record { actor = w.actor; there = w.there; split = w.split }) in
                  absurd (false≢true (sym out ∙ ap (λ (o : Born). begins w.work.leaf (g.perm o.vector)) (sym same) ∙ w.under))
            ]
          ]

      died : (k : ℕ) → IsFirstDelete log' (id_of y) y.birth k → h.is.down ≡ depth_of g (take k log') y → y.death ≡ Some (updates_by log' k + 1)
      died k t d = elim (when_deleted (id_of y) y.birth k t) [
        | inl o ↦
            let b : take k log' ≡ take k log = before k (let l = o.1 in omega arith) in
            h.is.died k o.0 (d ∙ ap (λ (l : List LogEvent). depth_of g l y) b) ∙ ap (λ (l : List LogEvent). Some (length (updates_of l) + 1)) (sym b)
        | inr o ↦
            let less = not_here refl o.1 o.2 in
            let deep : depth_of g (take k log') y ≡ depth_of g log y = ap (λ m. depth_of g (take m log') y) o.0 ∙ ap (λ (l : List LogEvent). depth_of g l y) all_before in
            absurd (omega arith)
      ]

      none_deeper : (k : ℕ) → IsFirstDelete log' (id_of y) y.birth k → h.is.down ≤ depth_of g (take k log') y
      none_deeper k t = elim (when_deleted (id_of y) y.birth k t) [
        | inl o ↦
            let b : take k log' ≡ take k log = before k (let l = o.1 in omega arith) in
            subst (λ (l : List LogEvent). h.is.down ≤ depth_of g l y) (sym b) (h.is.none_deeper k o.0)
        | inr o ↦
            let less = not_here refl o.1 o.2 in
            let deep : depth_of g (take k log') y ≡ depth_of g log y = ap (λ m. depth_of g (take m log') y) o.0 ∙ ap (λ (l : List LogEvent). depth_of g l y) all_before in
            omega arith
      ]

  -- the entry that is marked: its object was not deleted before
  no_delete : (y : Entry) (h : IsEntry c log y) → y.key ≡ e.key → list_any (deletes (id_of y)) (drop y.birth us) ≡ false
  no_delete y h one =
      let same = same_by_key y h one in
      subst (λ (o : Born). list_any (deletes o.id) (drop o.birth us) ≡ false) (sym same) (subst (λ (m : ℕ). list_any (deletes m) (drop e.birth us) ≡ false) (sym named) (not_deleted us id e.birth lives))

  alive : (y : Entry) (h : IsEntry c log y) → y.key ≡ e.key → list_any (born_at (id_of y) y.birth) (born us) ≡ true
  alive y h one = lives_on us (id_of y) y.birth y.vector h.born.0 h.born.1 (no_delete y h one)

  none_before : (y : Entry) (h : IsEntry c log y) → y.key ≡ e.key → (k : ℕ) → IsFirstDelete log (id_of y) y.birth k → ⊥
  none_before y h one k t =
      let same = same_by_key y h one in
      let shown = (and_parts (nat_le e.birth (length us)) (outlives e.death (length us)) (and_parts (is_shown (length us) e) (is_placed g log e) counted).0).1 in
      absurd (dead_e k (subst (λ (o : Born). IsFirstDelete log o.id o.birth k) same t) shown)
    where
      dead_e : (k : ℕ) → IsFirstDelete log (id_of e) e.birth k → outlives e.death (length us) ≡ true → ⊥
      dead_e k t shown =
          let deeper = its.is.none_deeper k t in
          let b = slice_get_within log k (Made t.session t.op (Delete (id_of e))) t.there in
          let less = depth_take g log k (g.perm e.vector) in
          let d = its.is.died k t (let z = down_e in omega arith) in
          let few = count_at k log t.session t.op (Delete (id_of e)) t.there in
          let after : nat_lt (length us) (updates_by log k + 1) ≡ true = ap (λ (o : Option ℕ). outlives o (length us)) (sym d) ∙ shown in
          let l = ltb-true (length us) (updates_by log k + 1) after in
          omega arith

  lived : (y : Entry) (h : IsEntry c log y) → y.key ≡ e.key → y.death ≡ None
  lived y h one =
      let P : Option ℕ → Type 0 = λ o. y.death ≡ o → y.death ≡ None in
      (elim y.death as P [ None ↦ λ t. t | Some d ↦ λ t. let o = h.death d t in absurd (none_before y h one o.0 o.1) ]) refl

  place_dead : (y : Entry) → HasPlace c log actors retired y → y.key ≡ e.key → HasPlace c log' actors retired (dead y)
  place_dead y h one =
      let d : depth_of g log' y ≡ depth_of g log y = deep_same (g.perm y.vector) in
      let here = down_by_key y h.is one in
      let m = entry_more y h.is (Some n) dies died none_deeper in
      let u = m.1 in
      record { is = m.0; copied = λ k. absurd (omega arith); left = λ l. absurd (omega arith) }
    where
      at_end : (k : ℕ) → IsFirstDelete log' (id_of y) y.birth k → k ≡ length log
      at_end k t = elim (when_deleted (id_of y) y.birth k t) [ inl o ↦ absurd (none_before y h.is one k o.0) | inr o ↦ o.0 ]

      count_end : updates_by log' (length log) ≡ length us
      count_end = ap (λ (l : List LogEvent). length (updates_of l)) all_before

      id_is : id_of y ≡ id
      id_is = ap (λ (o : Born). o.id) (same_by_key y h.is one) ∙ named

      dies : (d : ℕ) → Some n ≡ Some d → (k : ℕ) × IsFirstDelete log' (id_of y) y.birth k × (d ≡ updates_by log' k + 1)
      dies d t =
          let old = (timely c log y h.is).birth in (
            length log,
            record {
              session = a;
              op = op;
              there = get_last log x ∙ ap (λ (m : ℕ). Some (Made a op (Delete m))) (sym id_is);
              later = omega (arith, count_end);
              first = subst (λ (l : List LogEvent). list_any (deletes (id_of y)) (drop y.birth (updates_of l)) ≡ false) (sym all_before) (no_delete y h.is one);
            },
            sym (same_Some n d t) ∙ ap (λ (m : ℕ). m + 1) (sym count_end),
          )

      died : (k : ℕ) → IsFirstDelete log' (id_of y) y.birth k → h.is.down ≡ depth_of g (take k log') y → Some n ≡ Some (updates_by log' k + 1)
      died k t d = ap (λ (m : ℕ). Some (m + 1)) (sym count_end ∙ ap (updates_by log') (sym (at_end k t)))

      none_deeper : (k : ℕ) → IsFirstDelete log' (id_of y) y.birth k → h.is.down ≤ depth_of g (take k log') y
      none_deeper k t =
          let deep : depth_of g (take k log') y ≡ depth_of g log y = ap (λ m. depth_of g (take m log') y) (at_end k t) ∙ ap (λ (l : List LogEvent). depth_of g l y) all_before in
          let here = down_by_key y h.is one in
          omega arith

  hit : (y : Entry) → y.key ≡ e.key → f y ≡ dead y
  hit y one = ap (λ b. cond b (dead y) y) (eq-eqb y.key e.key one)

  miss : (y : Entry) → y.key ≢ e.key → f y ≡ y
  miss y other = ap (λ b. cond b (dead y) y) (ne_eqb y.key e.key other)

  place_now : (y : Entry) → HasPlace c log actors retired y → HasPlace c log' actors retired (f y)
  place_now y h = elim (cases_eq y.key e.key) [
    | inl one ↦ subst (HasPlace c log' actors retired) (sym (hit y one)) (place_dead y h one)
    | inr other ↦ subst (HasPlace c log' actors retired) (sym (miss y other)) (place_other y h other)
  ]

  born_same : (y : Entry) → born_in (f y) ≡ born_in y
  born_same y = elim (cases_eq y.key e.key) [ inl one ↦ ap born_in (hit y one) | inr other ↦ ap born_in (miss y other) ]

  -- it counts where it counted
  counts_before : (k : ℕ) → (y : Entry) → HasPlace c log actors retired y → counts g (take k log) (f y) ≡ counts g (take k log) y
  counts_before k y h = elim (cases_eq y.key e.key) [
    | inl one ↦
        let few = count_take k log in
        ap (counts g (take k log)) (hit y one) ∙ rw (lived y h.is one, lt-ltb (length (updates_of (take k log))) n (omega arith)) refl
    | inr other ↦ ap (counts g (take k log)) (miss y other)
  ]

  -- and it doesn't count any more
  counts_now : (y : Entry) → HasPlace c log actors retired y × (counts g log y ≡ true → list_any (born_at (id_of y) y.birth) (born us) ≡ true) → counts g log' (f y) ≡ (counts g log y && not (id_of y == id))
  counts_now y h = elim (cases_eq y.key e.key) [
    | inl one ↦
        let i : id_of y ≡ id = ap (λ (o : Born). o.id) (same_by_key y h.0.is one) ∙ named in
        ap (counts g log') (hit y one)
        ∙ no_and (is_shown (length (updates_of log')) (dead y)) (is_placed g log' (dead y)) (and_no (nat_le y.birth (length (updates_of log'))) (nat_lt (length (updates_of log')) n) (le-ltb (length (updates_of log')) n (omega (arith, length-entered log a op (Delete id)))))
        ∙ sym (and_no (counts g log y) (not (id_of y == id)) (ap not (eq-eqb (id_of y) id i)))
    | inr other ↦
        ap (counts g log') (miss y other) ∙ counts_more g log a op (Delete id) y (timely c log y h.0.is)
        ∙ keeps (counts g log y) (not (id_of y == id)) (λ t. ap not (not_true (id_of y == id) (λ u.
        let i : id_of y ≡ id = eqb-true (id_of y) id u in
        let same = same_by_birth y h.0.is i (subst (λ (m : ℕ). list_any (born_at m y.birth) (born us) ≡ true) i (h.1 t)) in
        other (key_of_object y h.0.is same (counts_down c ok log legal y h.0.is t)))))
  ]
    where
      keeps : (p q : Bool) → (p ≡ true → q ≡ true) → p ≡ (p && q)
      keeps true q h = sym (h refl)
      keeps false q h = refl

  shows_end : Shows g log entries
  shows_end = subst (λ (l : List LogEvent). Shows g l entries) (take_all (length log) log (omega arith)) (s.shows (length log) low (omega arith))

  pub entries_delete : AreEntries c log' floor actors retired (map f entries)
  entries_delete = record {
    places = all_map f (HasPlace c log' actors retired) entries (all_weaker _ _ place_now entries s.places);
    shows = extend g log x (map f entries) floor
        (λ k l m. record { same = same_trans (same_is _ _ (map_counted (counts g (take k log)) entries (all_weaker _ _ (λ y h. (counts_before k y h, born_same y)) entries s.places))) ((s.shows k l m).same) })
        (record {
          same = same_trans (same_is _ _ (counted_out (counts g log') (counts g log) f id entries
              (all_weaker _ _ (λ y h. (counts_now y h, born_same y)) entries (all_both _ _ entries s.places (living_all c log entries shows_end)))))
              (same_trans (same_filter (λ (o : Born). not (o.id == id)) _ _ shows_end.same) (same_is _ _ (sym (born_more log a op (Delete id)))));
        });
    works = λ b r w there split.
        let h = s.works b r w there split in
        work_kept g log log' entries (map f entries) w h
        (leaf_more g log a op (Delete id) w.leaf ∙ h.leaf)
        (under_map (is_under g w.leaf) f entries (all_weaker _ _ (λ y i. (
          ap (λ (o : Born). begins w.leaf (g.perm o.vector)) (born_same y),
          λ u. miss y (λ one.
              let same = same_by_key y i.is one in
              false≢true (sym (free b w (record { actor = r; there = there; split = split })) ∙ ap (λ (o : Born). begins w.leaf (g.perm o.vector)) (sym same) ∙ u)),
        )) entries s.places))
        (λ y t. depth_more g log a op (Delete id) ((grid c).perm y))
        (all_weaker _ _ (λ y i _. counts_more g log a op (Delete id) y (timely c log y i.is)) entries s.places);
  }
    where
      map_counted : (p : Entry → Bool) (es : List Entry) → AllByRecursion (λ y. (p (f y) ≡ p y) × (born_in (f y) ≡ born_in y)) es → map born_in (filter p (map f es)) ≡ map born_in (filter p es)
      map_counted p [] h = refl
      map_counted p (y ∷ es) h =
          let P : Bool → Type 0 = λ b. map born_in (cond b (f y ∷ filter p (map f es)) (filter p (map f es))) ≡ map born_in (cond b (y ∷ filter p es) (filter p es)) in
          let r = map_counted p es h.1 in
          ap (λ b. map born_in (cond b (f y ∷ filter p (map f es)) (filter p (map f es)))) h.0.0
          ∙ elim (p y) as P [ true ↦ ap (λ (o : Born). o ∷ map born_in (filter p (map f es))) h.0.1 ∙ ap (λ os. born_in y ∷ os) r | false ↦ r ]
