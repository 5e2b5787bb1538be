-- A legal outcome of inputs within their limits has numbers that can be read back from its text.
use Rattle.std.proofs.Common.{◌≡◌, ℕ, zero, suc, ◌+◌, ◌<◌, ◌≤◌, ◌^◌, ◌==◌, ◌&&◌, ◌||◌, ℤ, pos, negsuc, List, [], ◌∷◌, ◌++◌, length, map, take, drop, Option, Bool, true, false, cond, not, IsTrue, nat_lt, nat_le, refl, sym, ap, ◌∙◌, subst, arith, length-append}
use Rattle.std.specs.List.{AllByRecursion, filter, fold, list_any}
use Rattle.std.specs.Int.Signed.{mag}
use Rattle.std.proofs.lemmas.Bool.{and_parts, eq-eqb, eqb-true, leb-true, ltb-true, false≢true}
use Rattle.std.proofs.lemmas.List.{length-map, take-append-drop}
use Rattle.std.proofs.lemmas.List.Sums.{count_by-le-length}
use Rattle.std.proofs.lemmas.List.Elements.{recursion_from_All}
use Rattle.mi_base.specs.declared.settings.MetricKind.{MetricKind}
use Rattle.mi_base.specs.declared.settings.MetricKind.TheVariants.{L1, Max, Hamming, Table}
use Rattle.mi_base.specs.declared.records.Update.{Update}
use Rattle.mi_base.specs.declared.records.Update.TheVariants as update
use Rattle.mi_base.specs.declared.records.LogEvent.{LogEvent}
use Rattle.mi_base.specs.declared.records.LogEvent.TheVariants as event
use Rattle.mi_base.specs.declared.records.Op.{Op}
use Rattle.mi_base.specs.declared.records.Op.TheVariants.{Insert, Delete, Range, Nearest}
use Rattle.mi_base.specs.declared.records.Reply.{Reply}
use Rattle.mi_base.specs.declared.records.Reply.TheVariants as reply
use Rattle.mi_base.specs.declared.records.Position.{Position}
use Rattle.mi_base.specs.declared.records.Row.{Row}
use Rattle.mi_base.specs.Configuration.{Configuration, HasItsRows, IsWithinLimits, metric_space, space_of}
use Rattle.mi_base.specs.History.{Entered, IsPosition, Object, at_position, entered, hits, is_among, live, live_after, row_cmp, row_of, updates_of}
use Rattle.mi_base.specs.Permutations.{distances}
use Rattle.mi_base.specs.Prefixes.{all_below}
use Rattle.mi_base.specs.Scripts.{IsOpOver, IsScriptOver}
use Rattle.mi_base.specs.Sorting.{sorted}
use Rattle.mi_base.specs.Space.{IsMetric, MetricSpace, Space, is_row, metric_of}
use Rattle.mi_base.specs.Vectors.{all_coordinates, is_coordinate}
use Rattle.mi_base.proofs.HistoryLemmas.{few_updates, updates_of-append}
use Rattle.mi_base.proofs.LiveLemmas.{few_live, length_filter}
use Rattle.mi_base.proofs.SortingLemmas.{filter_keeps, same_length, same_sorted}
use Rattle.mi_tree.specs.declared.outcomes.Outcome.{Outcome}
use Rattle.mi_tree.specs.Cells.{AllMaySplit, MaySplit, grid_of, leaves, same_cell}
use Rattle.mi_tree.specs.Counting.{catalog_after}
use Rattle.mi_tree.specs.Legal.{EachMayFollow, LegalLog, cells_of}
use Rattle.mi_tree.proofs.FitLemmas.{Fits, leaves_fit}
use Rattle.mi_tree.proofs.GridLemmas.{space_is_grid}
use Rattle.mi_tree.proofs.LeafLemmas.{same_cell_is}
use Rattle.mi_tree.proofs.LegalLemmas.{grid, live_updated, updates_of_split, wanted}
use Rattle.mi_tree.proofs.ListLemmas.{all_from_test, all_joined, all_map, all_put, all_take, all_weaker}
use Rattle.mi_tree.proofs.LimitLemmas.{few_cells, log_short}
use Rattle.mi_legal.specs.Legal.{AllEntered, AllRight, EachRight, accepted_in, accepted_update}
use Rattle.mi_legal.specs.Right.{IsNearest, IsRange, IsUpdateNumber, Right}
use Rattle.mi_legal.proofs.ReplyLemmas.{number_within}
use Rattle.mi_rules.specs.Passing.{candidates, is_opened, is_reached, kth_distance, lets_through, opened_count, passes, reached_count}
use Rattle.mi_settle.specs.Headlines.{Headline}
use Rattle.mi_print.specs.Meaning.{AreCoordinates, AreNumbers, IsPrintableEvent, IsPrintableReply, IsPrintableRow}
use Rattle.mi_print.proofs.MeaningLemmas.{history_told}
use Rattle.mi_call.specs.Meaning.{AreLimited, OneHistory}

-- coordinates, and those of vectors that fit

magnitude_small : (z : ℤ) → IsTrue (is_coordinate z) → mag z < 2 ^ 63
magnitude_small (pos n) h = let few : n ≤ 1000000 = leb-true n 1000000 h in omega (arith, few)
magnitude_small (negsuc n) h = let few : suc n ≤ 1000000 = leb-true (suc n) 1000000 h in omega (arith, few)

coordinates_small : (zs : List ℤ) → IsTrue (all_coordinates zs) → AreCoordinates zs
coordinates_small [] h = tt
coordinates_small (z ∷ zs) h = let p = and_parts (is_coordinate z) (all_coordinates zs) h in (magnitude_small z p.0, coordinates_small zs p.1)

row_small : (n : ℕ) (v : List ℤ) → n ≤ 128 → IsTrue (is_row n v) → AreCoordinates v
row_small n [] few h = tt
row_small n (pos i ∷ []) few h = let low : i < n = ltb-true i n h in (omega (arith, low, few), tt)
row_small n (pos i ∷ z ∷ zs) few h = absurd (false≢true h)
row_small n (negsuc i ∷ zs) few h = absurd (false≢true h)

fits_small : (metric : MetricKind) (dims : ℕ) (rows : List (List ℕ)) (v : List ℤ) → HasItsRows metric dims rows → IsTrue ((metric_of metric dims rows).fits v) → AreCoordinates v
fits_small L1 dims rows v own h = coordinates_small v (and_parts (length v == dims) (all_coordinates v) h).1
fits_small Max dims rows v own h = coordinates_small v (and_parts (length v == dims) (all_coordinates v) h).1
fits_small Hamming dims rows v own h = coordinates_small v (and_parts (length v == dims) (all_coordinates v) h).1
fits_small Table dims rows v own h = row_small (length rows) v own.1.few h

-- lists

all_sorted : (P : Row → Type 0) (rows : List Row) → AllByRecursion P rows → AllByRecursion P (sorted row_cmp rows)
all_sorted P [] h = tt
all_sorted P (row ∷ rows) h = all_put row_cmp P row (sorted row_cmp rows) h.0 (all_sorted P rows h.1)

taken_few : {X : Type 0} (k : ℕ) (xs : List X) → length (take k xs) ≤ length xs
taken_few k xs = omega (arith, ap length (take-append-drop k xs), length-append (take k xs) (drop k xs))

prefix_small : (n : ℕ) (p : List ℕ) → n ≤ 32 → all_below n p ≡ true → AreNumbers p
prefix_small n p few h = all_weaker _ _ (λ (x : ℕ) (e : nat_lt x n ≡ true). let low : x < n = ltb-true x n e in omega (arith, low, few)) p (all_from_test (λ x. nat_lt x n) p h)

-- objects and updates whose identifier has 40 bits and whose vector fits

abbrev Small : MetricSpace → Object → Type 0
Small m o = (o.id < 2 ^ 40) × IsTrue (m.fits o.vector)

abbrev SmallUpdate : MetricSpace → Update → Type 0
SmallUpdate m (update.Insert id v) = (id < 2 ^ 40) × IsTrue (m.fits v)
SmallUpdate m (update.Delete id) = id < 2 ^ 40

abbrev SmallEvent : Configuration → LogEvent → Type 0
SmallEvent c (event.Update session op u) = SmallUpdate (metric_space c) u
SmallEvent c (event.Split p) = all_below (length c.pivots) p ≡ true

among_small : (m : MetricSpace) (id : ℕ) (os : List Object) → AllByRecursion (Small m) os → is_among id os ≡ true → id < 2 ^ 40
among_small m id [] h e = absurd (false≢true e)
among_small m id (o ∷ os) h e =
    let P : Bool → Type 0 = λ b. (o.id == id) ≡ b → (b || is_among id os) ≡ true → id < 2 ^ 40 in
    (elim (o.id == id) as P [
      | true ↦ λ same _. subst (λ n. n < 2 ^ 40) (eqb-true o.id id same) h.0.0
      | false ↦ λ other more. among_small m id os h.1 more
    ]) refl e

leaf_below : (n levels : ℕ) (p : List ℕ) (ls : List (List ℕ)) → AllByRecursion (Fits n levels) ls → list_any (same_cell p) ls ≡ true → all_below n p ≡ true
leaf_below n levels p [] h e = absurd (false≢true e)
leaf_below n levels p (q ∷ ls) h e =
    let P : Bool → Type 0 = λ b. same_cell p q ≡ b → (b || list_any (same_cell p) ls) ≡ true → all_below n p ≡ true in
    (elim (same_cell p q) as P [
      | true ↦ λ same _. subst (λ (x : List ℕ). all_below n x ≡ true) (sym (same_cell_is p q same)) h.0.1
      | false ↦ λ other more. leaf_below n levels p ls h.1 more
    ]) refl e

updates_small : (c : Configuration) (log : List LogEvent) → AllByRecursion (SmallEvent c) log → AllByRecursion (SmallUpdate (metric_space c)) (updates_of log)
updates_small c [] h = tt
updates_small c (event.Update session op u ∷ log) h = (h.0, updates_small c log h.1)
updates_small c (event.Split p ∷ log) h = updates_small c log h.1

live_small_from : (m : MetricSpace) (os : List Object) (us : List Update) → AllByRecursion (Small m) os → AllByRecursion (SmallUpdate m) us → AllByRecursion (Small m) (fold live_after os us)
live_small_from m os [] h k = h
live_small_from m os (update.Insert id v ∷ us) h k = live_small_from m (live_after os (update.Insert id v)) us (k.0, h) k.1
live_small_from m os (update.Delete id ∷ us) h k = live_small_from m (live_after os (update.Delete id)) us (filter_keeps (Small m) (λ o. not (o.id == id)) os h) k.1

module _ (c : Configuration) (limits : IsWithinLimits c) where
  events_small : (earlier es : List LogEvent) → AllByRecursion (Small (metric_space c)) (live (updates_of earlier)) → AllMaySplit (grid c) earlier → EachMayFollow c earlier es → AllByRecursion (SmallEvent c) es
  events_small earlier [] os may h = tt
  events_small earlier (event.Update session op (update.Insert id v) ∷ es) os may h =
      let e = event.Update session op (update.Insert id v) in
      let after = subst (AllByRecursion (Small (metric_space c))) (sym (live_updated earlier session op (update.Insert id v))) ((h.0.2, h.0.0), os) in
      ((h.0.2, h.0.0), events_small (earlier ++ e ∷ []) es after (all_joined (MaySplit (grid c)) earlier (e ∷ []) may (tt, tt)) h.1.1)
  events_small earlier (event.Update session op (update.Delete id) ∷ es) os may h =
      let e = event.Update session op (update.Delete id) in
      let after = subst (AllByRecursion (Small (metric_space c))) (sym (live_updated earlier session op (update.Delete id)))
      (filter_keeps (Small (metric_space c)) (λ o. not (o.id == id)) (live (updates_of earlier)) os) in
      (among_small (metric_space c) id (live (updates_of earlier)) os h.0, events_small (earlier ++ e ∷ []) es after (all_joined (MaySplit (grid c)) earlier (e ∷ []) may (tt, tt)) h.1.1)
  events_small earlier (event.Split p ∷ es) os may h =
      let found = wanted c earlier p h.0 in
      let fit = recursion_from_All (Fits (length c.pivots) c.levels) (leaves (grid c) earlier) (leaves_fit (grid c) (space_is_grid (space_of c) c.levels limits.few_pivots limits.levels) earlier may) in
      let after = subst (λ us. AllByRecursion (Small (metric_space c)) (live us)) (sym (updates_of_split earlier p)) os in (
        leaf_below (length c.pivots) c.levels p (leaves (grid c) earlier) fit found.0,
        events_small (earlier ++ event.Split p ∷ []) es after (all_joined (MaySplit (grid c)) earlier (event.Split p ∷ []) may (found.1.0, tt)) h.1.1,
      )

  log_small : (log : List LogEvent) → LegalLog c log → AllByRecursion (SmallEvent c) log
  log_small log legal = events_small [] log tt tt legal.each

  live_small : (log : List LogEvent) → LegalLog c log → AllByRecursion (Small (metric_space c)) (live (updates_of log))
  live_small log legal = live_small_from (metric_space c) [] (updates_of log) tt (updates_small c log (log_small log legal))

-- a front of a legal log is legal
front_may : (c : Configuration) (earlier es : List LogEvent) (k : ℕ) → EachMayFollow c earlier es → EachMayFollow c earlier (take k es)
front_may c earlier es zero h = tt
front_may c earlier [] (suc k) h = tt
front_may c earlier (e ∷ es) (suc k) h = (h.0, (h.1.0, front_may c (earlier ++ e ∷ []) es k h.1.1))

front_legal : (c : Configuration) (log : List LogEvent) (k : ℕ) → LegalLog c log → LegalLog c (take k log)
front_legal c log k legal = record {
  few = omega (arith, legal.few, ap (λ l. length (updates_of l)) (take-append-drop k log), ap length (updates_of-append (take k log) (drop k log)), length-append (updates_of (take k log)) (updates_of (drop k log)));
  each = front_may c [] log k legal.each;
}

-- there are no more candidates than live objects, and no more leaves are opened than there are
few_candidates : (space : Space) (levels : ℕ) (log : List LogEvent) (query : List ℤ) (r : ℕ) → length (candidates space levels log query r) ≤ length (live (updates_of log))
few_candidates space levels log query r = length_filter (λ o. is_opened space levels log query r o && lets_through r (distances space query) (distances space o.vector)) (live (updates_of log))

few_opened : (space : Space) (levels : ℕ) (log : List LogEvent) (query : List ℤ) (r : ℕ) → opened_count space levels log query r ≤ length (catalog_after (grid_of space levels) log)
few_opened space levels log query r = count_by-le-length (passes (distances space query) r) (catalog_after (grid_of space levels) log)

few_reached : (space : Space) (levels : ℕ) (log : List LogEvent) (query : List ℤ) (worst : Option ℕ) → reached_count space levels log query worst ≤ length (catalog_after (grid_of space levels) log)
few_reached space levels log query worst = count_by-le-length (is_reached (distances space query) worst) (catalog_after (grid_of space levels) log)

-- replies

module _ (c : Configuration) (limits : IsWithinLimits c) (metric : IsMetric (metric_space c)) (log : List LogEvent) (legal : LegalLog c log) where
  few_events : (p : Position) → IsPosition log p → (p.updates ≤ 1400000) × (p.splits ≤ 1400000)
  few_events p at = let short = log_short c limits log legal in (omega (arith, short, at.within), omega (arith, short, at.within))

  few_objects : (p : Position) → length (live (updates_of (at_position log p))) ≤ 1400000
  few_objects p =
      let l = at_position log p in
      omega (arith, few_live (updates_of l), few_updates l, taken_few (p.updates + p.splits) log, log_short c limits log legal)

  few_leaves : (p : Position) → length (cells_of c (at_position log p)) < 4294967295
  few_leaves p = few_cells c limits (at_position log p) (front_legal c log (p.updates + p.splits) legal)

  row_printable : (query : List ℤ) → IsTrue ((metric_space c).fits query) → (o : Object) → Small (metric_space c) o → IsPrintableRow (row_of (metric_space c) query o)
  row_printable query fits o small =
      let near = metric.bound query o.vector fits small.1 in
      let id = small.0 in
      (omega (arith, near), (omega (arith, id), tt))

  rows_printable : (query : List ℤ) → IsTrue ((metric_space c).fits query) → (p : Position) → AllByRecursion IsPrintableRow (map (row_of (metric_space c) query) (live (updates_of (at_position log p))))
  rows_printable query fits p =
      let os = live (updates_of (at_position log p)) in
      all_map (row_of (metric_space c) query) IsPrintableRow os
      (all_weaker (Small (metric_space c)) _ (row_printable query fits) os (live_small c limits (at_position log p) (front_legal c log (p.updates + p.splits) legal)))

  range_printable : (radius : ℕ) (query : List ℤ) → IsTrue ((metric_space c).fits query) → (p : Position) (rows : List Row) (cells distances : ℕ) → IsRange c log radius query p rows cells distances
      → IsPrintableReply (reply.Range p rows cells distances)
  range_printable radius query fits p rows cells distances is =
      let os = live (updates_of (at_position log p)) in
      let all = map (row_of (metric_space c) query) os in
      let near : Row → Bool = λ row. nat_le row.distance radius in
      let found = hits (metric_space c) query radius os in
      let few = few_events p is.position in
      let most : length rows ≤ 1400000 = omega (arith, ap length is.rows_are, same_length _ _ (same_sorted row_cmp found), length_filter near all, length-map os (row_of (metric_space c) query), few_objects p) in
      let opened : cells < 4294967295 = omega (arith, is.cells_are, few_opened (space_of c) c.levels (at_position log p) query radius, few_leaves p) in
      let compared : distances ≤ 1400032 = omega (arith, is.distances_are, limits.few_pivots, few_candidates (space_of c) c.levels (at_position log p) query radius, few_objects p) in
      let printable : AllByRecursion IsPrintableRow rows = subst (AllByRecursion IsPrintableRow) (sym is.rows_are) (all_sorted IsPrintableRow found (filter_keeps IsPrintableRow near all (rows_printable query fits p))) in
      ((omega (arith, few.0), (omega (arith, few.1), (omega (arith, most), (omega (arith, opened), (omega (arith, compared), tt))))), printable)

  nearest_printable : (count : ℕ) (query : List ℤ) → IsTrue ((metric_space c).fits query) → (p : Position) (rows : List Row) (cells : ℕ) → IsNearest c log count query p rows cells
      → IsPrintableReply (reply.Nearest p rows cells)
  nearest_printable count query fits p rows cells is =
      let os = live (updates_of (at_position log p)) in
      let all = map (row_of (metric_space c) query) os in
      let few = few_events p is.position in
      let most : length rows ≤ 1400000 = omega (arith, ap length is.rows_are, taken_few count (sorted row_cmp all), same_length _ _ (same_sorted row_cmp all), length-map os (row_of (metric_space c) query), few_objects p) in
      let opened : cells < 4294967295 = omega (arith, is.cells_are, few_reached (space_of c) c.levels (at_position log p) query (kth_distance count rows), few_leaves p) in
      let printable : AllByRecursion IsPrintableRow rows = subst (AllByRecursion IsPrintableRow) (sym is.rows_are) (all_take IsPrintableRow count (sorted row_cmp all) (all_sorted IsPrintableRow all (rows_printable query fits p))) in
      ((omega (arith, few.0), (omega (arith, few.1), (omega (arith, most), (omega (arith, opened), tt)))), printable)

  number_small : (n : ℕ) (e : Entered) → IsUpdateNumber log n e → n < 2 ^ 64
  number_small n e is = omega (arith, number_within log n e is, few_updates log, log_short c limits log legal)

  reply_printable : (allotted session op : ℕ) (o : Op) (y : Reply) → IsOpOver (metric_space c) o → Right c log allotted session op o y → IsPrintableReply y
  reply_printable allotted session op (Insert id v) (reply.Stored n) over h = ((number_small n _ h.0, tt), tt)
  reply_printable allotted session op (Delete id) (reply.Removed n) over h = ((number_small n _ h.0, tt), tt)
  reply_printable allotted session op (Insert id v) (reply.Present p) over h = let few = few_events p h.0 in ((omega (arith, few.0), (omega (arith, few.1), tt)), tt)
  reply_printable allotted session op (Delete id) (reply.Absent p) over h = let few = few_events p h.0 in ((omega (arith, few.0), (omega (arith, few.1), tt)), tt)
  reply_printable allotted session op (Insert id v) (reply.Full limit) over h = ((omega (arith, h.0, limits.updates.1), tt), tt)
  reply_printable allotted session op (Delete id) (reply.Full limit) over h = ((omega (arith, h.0, limits.updates.1), tt), tt)
  reply_printable allotted session op (Insert id v) (reply.NoPages limit) over h = ((omega (arith, h.0, limits.pages.1), tt), tt)
  reply_printable allotted session op (Range radius query) (reply.Range p rows cells distances) over h = range_printable radius query over.1 p rows cells distances h
  reply_printable allotted session op (Nearest count query) (reply.Nearest p rows cells) over h = nearest_printable count query over.2 p rows cells h
  reply_printable allotted session op o reply.Memory over h = (tt, tt)
  reply_printable allotted session op o y over h = absurd h

  replies_printable : (allotted session op : ℕ) (os : List Op) (ys : List Reply) → AllByRecursion (IsOpOver (metric_space c)) os → EachRight c log allotted session op os ys → AllByRecursion IsPrintableReply ys
  replies_printable allotted session op [] [] over h = tt
  replies_printable allotted session op (o ∷ os) (y ∷ ys) over h = (reply_printable allotted session op o y over.0 h.0, replies_printable allotted session (op + 1) os ys over.1 h.1)
  replies_printable allotted session op [] (y ∷ ys) over h = absurd h
  replies_printable allotted session op (o ∷ os) [] over h = absurd h

-- the log

abbrev SmallEntry : ℕ → ℕ → Entered → Type 0
SmallEntry sessions most e = (e.session < sessions) × (e.op ≤ most)

update_small : (session op most : ℕ) (o : Op) (y : Reply) → op ≤ most → AllByRecursion (λ e. e.op ≤ most) (accepted_update session op o y)
update_small session op most (Insert id v) (reply.Stored n) few = (few, tt)
update_small session op most (Delete id) (reply.Removed n) few = (few, tt)
update_small session op most o y few = tt

accepted_small : (session op most : ℕ) (os : List Op) (ys : List Reply) → length os + op ≤ most + 1 → AllByRecursion (λ e. e.op ≤ most) (accepted_in session op os ys)
accepted_small session op most [] [] few = tt
accepted_small session op most [] (y ∷ ys) few = tt
accepted_small session op most (o ∷ os) [] few = tt
accepted_small session op most (o ∷ os) (y ∷ ys) few =
    all_joined (λ (e : Entered). e.op ≤ most) (accepted_update session op o y) (accepted_in session (op + 1) os ys)
    (update_small session op most o y (omega (arith, few))) (accepted_small session (op + 1) most os ys (omega (arith, few)))

-- those of one session
abbrev of_session : ℕ → List Entered → List Entered
of_session session es = filter (λ e. e.session == session) es

own_small : (most : ℕ) (log : List LogEvent) (session : ℕ) (scripts : List (List Op)) (replies : List (List Reply)) → AllByRecursion (λ os. length os ≤ most) scripts → AllEntered log session scripts replies
    → (k n : ℕ) → n ≡ session + k → k < length scripts → AllByRecursion (λ e. e.op ≤ most) (of_session n (entered log))
own_small most log session [] replies few own k n is low = absurd (omega (arith, low))
own_small most log session (os ∷ scripts) [] few own k n is low = absurd own
own_small most log session (os ∷ scripts) (ys ∷ replies) few own zero n is low =
    let first : session ≡ n = omega (arith, is) in
    subst (λ m. AllByRecursion (λ e. e.op ≤ most) (of_session m (entered log))) first
    (subst (AllByRecursion (λ (e : Entered). e.op ≤ most)) (sym own.0) (accepted_small session 1 most os ys (omega (arith, few.0))))
own_small most log session (os ∷ scripts) (ys ∷ replies) few own (suc k) n is low =
    own_small most log (session + 1) scripts replies few.1 own.1 k n (omega (arith, is)) (omega (arith, low))

rest_small : (P : Entered → Type 0) (test : Bool) (e : Entered) (es : List Entered) → AllByRecursion P (cond test (e ∷ es) es) → AllByRecursion P es
rest_small P true e es h = h.1
rest_small P false e es h = h

-- what each session's entries are all are
entries_small : (sessions most : ℕ) (es : List Entered) → AllByRecursion (λ e. e.session < sessions) es → ((k : ℕ) → k < sessions → AllByRecursion (λ e. e.op ≤ most) (of_session k es))
    → AllByRecursion (SmallEntry sessions most) es
entries_small sessions most [] h k = tt
entries_small sessions most (e ∷ es) h k =
    let Q : Bool → Type 0 = λ b. AllByRecursion (λ (x : Entered). x.op ≤ most) (cond b (e ∷ of_session e.session es) (of_session e.session es)) in
    let own = subst Q (eq-eqb e.session e.session refl) (k e.session h.0) in
    ((h.0, own.0), entries_small sessions most es h.1 (λ n low. rest_small (λ (x : Entered). x.op ≤ most) (e.session == n) e (of_session n es) (k n low)))

events_printable : (c : Configuration) → IsWithinLimits c → (sessions most : ℕ) → sessions ≤ 16 → most ≤ 200000 → (log : List LogEvent) → AllByRecursion (SmallEvent c) log → AllByRecursion (SmallEntry sessions most) (entered log) → AllByRecursion IsPrintableEvent log
events_printable c limits sessions most low few [] h k = tt
events_printable c limits sessions most low few (event.Update session op (update.Insert id v) ∷ log) h k =
    let first = h.0.0 in
    let own = k.0 in
    (((omega (arith, own.0, low), (omega (arith, own.1, few), (omega (arith, first), tt))), fits_small c.metric c.dims c.rows v limits.rows h.0.1), events_printable c limits sessions most low few log h.1 k.1)
events_printable c limits sessions most low few (event.Update session op (update.Delete id) ∷ log) h k =
    let first = h.0 in
    let own = k.0 in
    ((omega (arith, own.0, low), (omega (arith, own.1, few), (omega (arith, first), tt))), events_printable c limits sessions most low few log h.1 k.1)
events_printable c limits sessions most low few (event.Split p ∷ log) h k = (prefix_small (length c.pivots) p limits.few_pivots h.0, events_printable c limits sessions most low few log h.1 k)

-- the replies of all sessions
all_printable : (c : Configuration) → IsWithinLimits c → IsMetric (metric_space c) → (log : List LogEvent) → LegalLog c log → (allotted session : ℕ) (scripts : List (List Op)) (replies : List (List Reply))
    → AllByRecursion (IsScriptOver (metric_space c)) scripts → AllRight c log allotted session scripts replies → AllByRecursion (λ ys. AllByRecursion IsPrintableReply ys) replies
all_printable c limits metric log legal allotted session [] [] over right = tt
all_printable c limits metric log legal allotted session [] (ys ∷ replies) over right = absurd right
all_printable c limits metric log legal allotted session (os ∷ scripts) [] over right = absurd right
all_printable c limits metric log legal allotted session (os ∷ scripts) (ys ∷ replies) over right = (
  replies_printable c limits metric log legal allotted session 1 os ys over.0.each right.0,
  all_printable c limits metric log legal allotted (session + 1) scripts replies over.1 right.1,
)

-- the same outcome with the cells of its log
abbrev outcome_of : Configuration → Outcome → Outcome
outcome_of c o = record o { cells = cells_of c o.log; limit = c.pages }

module _ (c : Configuration) (scripts : List (List Op)) (o : Outcome) (headline : Headline c scripts o) (limited : AreLimited c scripts) where
  replies_told : AllByRecursion (λ ys. AllByRecursion IsPrintableReply ys) o.replies
  replies_told = all_printable c limited.limits limited.metric o.log headline.legal.log_is o.allotted 0 scripts o.replies limited.scripts_are headline.legal.right

  log_told : AllByRecursion IsPrintableEvent o.log
  log_told =
      let legal = headline.legal in
      let short = all_weaker (IsScriptOver (metric_space c)) (λ os. length os ≤ 200000) (λ os over. over.few) scripts limited.scripts_are in
      events_printable c limited.limits (length scripts) 200000 limited.few (omega arith) o.log (log_small c limited.limits o.log legal.log_is)
      (entries_small (length scripts) 200000 (entered o.log) legal.named (λ k low. own_small 200000 o.log 0 scripts o.replies short legal.entered_are k k (omega arith) low))

pub one_history : OneHistory
one_history c d scripts others s t text la lb x y =
    let same = history_told (outcome_of c x.outcome) (outcome_of d y.outcome) (replies_told c scripts x.outcome x.headline la) (replies_told d others y.outcome y.headline lb)
    (log_told c scripts x.outcome x.headline la) (log_told d others y.outcome y.headline lb) (sym x.text_is ∙ y.text_is) in
    (same.1, same.0)
