-- Copies that are made and taken back.
use Rattle.std.proofs.Common.{◌≡◌, ◌≢◌, ℕ, suc, zero, ◌+◌, ◌-◌, ◌<◌, ◌≤◌, ◌==◌, List, [], ◌∷◌, length, map, take, Bool, true, false, cond, not, ◌&&◌, ◌||◌, refl, sym, ap, ◌∙◌, subst, arith, Option, Some, None, is_some, set, get_or-set_same}
use Rattle.std.specs.Prelude.{slice_get, slice_index}
use Rattle.std.specs.List.{AllByRecursion, filter}
use Rattle.std.proofs.lemmas.Bool.{and_parts, eq-eqb, eqb-true, leb-true, ne_eqb}
use Rattle.std.proofs.lemmas.Option.{none-some, same_Some}
use Rattle.mi_base.specs.Configuration.{Configuration}
use Rattle.mi_base.specs.History.{events_at}
use Rattle.mi_base.specs.Prefixes.{has}
use Rattle.mi_base.proofs.SortingLemmas.{filter_keeps, same_filter, same_length}
use Rattle.mi_key.specs.declared.entries.Entry.{Entry}
use Rattle.mi_page.specs.Entries.{entry_keys, has_entry, outlives, without_dead}
use Rattle.mi_page.specs.Keys.{IsInside, is_below}
use Rattle.mi_page.specs.Nodes.{Node, item_count}
use Rattle.mi_tree.specs.Cells.{Grid}
use Rattle.mi_tree.proofs.ListLemmas.{filter_twice}
use Rattle.mi_board.specs.Boards.{floor_of}
use Rattle.mi_entries.specs.Actors.{Actor, SplitWork}
use Rattle.mi_entries.specs.Entries.{grid, is_ahead, is_under}
use Rattle.mi_entries.specs.Marks.{cell_end}
use Rattle.mi_entries.specs.Splits.{copy_in_child}
use Rattle.mi_entries.proofs.AbsentLemmas.{absent_copy}
use Rattle.mi_forest.specs.Forests.{Forest, all_entries}
use Rattle.mi_forest.proofs.LawLemmas.{has_here}
use Rattle.mi_core.specs.Effects.{drop_entry, put_entry, trim_leaf}
use Rattle.mi_core.specs.Events.{Can, after, copied_of, copied_to, with_split_at}
use Rattle.mi_core.specs.Events.Event.{copy_in, uncopy, visit}
use Rattle.mi_core.specs.Kept.{Kept}
use Rattle.mi_core.specs.Pages.{forest_of, node_or_fresh}
use Rattle.mi_core.specs.State.{State, node_at}
use Rattle.mi_core.proofs.ActorLemmas.{set_there}
use Rattle.mi_core.proofs.CopyEvents.{copy_is}
use Rattle.mi_core.proofs.KeptLemmas.{keys_rise}
use Rattle.mi_core.proofs.PageLemmas.{within}
use Rattle.mi_world.specs.declared.answers.Put.{Put}
use Rattle.mi_world.specs.declared.answers.Put.TheVariants as put
use Rattle.mi_world.specs.Pages.{HasTaken}
use Rattle.mi_world.specs.Splits.{CopiesIn, CopyAnswer, SameGathered, Uncopies, UncopyAnswer, last_copy, next_copy}
use Rattle.mi_world.specs.View.{Later, SameFlags, View}
use Rattle.mi_solo.specs.Onward.{Makes, Onward}
use Rattle.mi_solo.specs.Seeking.{EndsAfter, PointsDown, PointsRight}
use Rattle.mi_solo.specs.Viewing.{copy_keys, gathered_to, is_whole, page_seen, shown_to}
use Rattle.mi_solo.proofs.CommitEvents.{full_page}
use Rattle.mi_solo.proofs.DescentLemmas.{goes_down, goes_right, is_reached, page_in, page_stands}
use Rattle.mi_solo.proofs.EnterEvents.{put_count}
use Rattle.mi_solo.proofs.LaterLemmas.{onward}
use Rattle.mi_solo.proofs.MarkLemmas.{fewer, index_map}
use Rattle.mi_solo.proofs.OwnLemmas.{later_own, made}
use Rattle.mi_solo.proofs.QuietLemmas.{board_by, leaf_by, tries_by, update_by}

-- what of a split stays, whatever number of copies is made
module _ (s : State) (pages : List (Option Node)) (actors : List Actor) (a : ℕ) (r : Actor) (page : ℕ) (o : Option SplitWork) (undone early : Bool) where
  abbrev t : State
  t = record { board = s.board; shards = s.shards; pages = pages; actors = actors }

  abbrev q : Actor
  q = record r { page = page; split = o; undone = undone; early = early }

  abbrev w : View
  w = shown_to (record { board = s.board; shards = s.shards; pages = pages; actors = actors }) a (record r { page = page; split = o; undone = undone; early = early })

  module _ (later : Later (shown_to s a r) w) (same : SameGathered (shown_to s a r) w) where
    copies_by : SameFlags (shown_to s a r) w → (result : Put) → CopyAnswer (shown_to s a r) w page result → CopiesIn (shown_to s a r) w page result
    copies_by flags result answer = record {
      later = later;
      update = update_by s t a r q refl refl refl refl;
      leaf = leaf_by s t a r q refl refl;
      sweep = record { sweep = refl; swept = refl };
      gathered = same;
      flags = flags;
      actors = record { absorbed = refl; forked = refl };
      pin = refl;
      floor = refl;
      fresh = refl;
      owes = refl;
      board = board_by s t a r q refl refl;
      tries = tries_by s t a r q refl refl;
      page_is = refl;
      answer = answer;
    }

    uncopies_by : (result : Put) → UncopyAnswer (shown_to s a r) w page result → Uncopies (shown_to s a r) w page result
    uncopies_by result answer = record {
      later = later;
      update = update_by s t a r q refl refl refl refl;
      leaf = leaf_by s t a r q refl refl;
      sweep = record { sweep = refl; swept = refl };
      gathered = same;
      actors = record { absorbed = refl; forked = refl };
      pin = refl;
      floor = refl;
      fresh = refl;
      owes = refl;
      board = board_by s t a r q refl refl;
      tries = tries_by s t a r q refl refl;
      page_is = refl;
      answer = answer;
    }

-- a split's copies are other in number alone
counted_to : (s : State) (pages : List (Option Node)) (actors : List Actor) (a : ℕ) (r : Actor) (page n : ℕ) (undone early : Bool)
    → SameGathered (shown_to s a r) (shown_to (record { board = s.board; shards = s.shards; pages = pages; actors = actors }) a (record r { page = page; split = copied_to n r.split; undone = undone; early = early }))
counted_to s pages actors a r page n undone early =
    let f = parts r.split in
    record { splitting = f.0; mark = f.1; whole = f.2; copies = f.3 }
  where
    parts : (o : Option SplitWork)
        → (is_some (copied_to n o) ≡ is_some o) × (gathered_to (copied_to n o) ≡ gathered_to o) × (is_whole s.board.settings (copied_to n o) ≡ is_whole s.board.settings o) × (copy_keys s.board.settings (copied_to n o) ≡ copy_keys s.board.settings o)
    parts None = (refl, refl, refl, refl)
    parts (Some w) = (refl, refl, refl, refl)

-- the copy at a place is told by the view
module _ (s : State) (a : ℕ) (r : Actor) (w : SplitWork) (split : r.split ≡ Some w) where
  abbrev c : Configuration
  c = s.board.settings

  keys_are : copy_keys s.board.settings r.split ≡ map (λ z. (copy_in_child (grid s.board.settings) w.leaf z).key) w.gathered
  keys_are = ap (copy_keys c) split

  copied_is : copied_of r.split ≡ w.copied
  copied_is = ap copied_of split

  pub next_is : (old : Entry) → slice_get w.gathered w.copied ≡ Some old → next_copy (shown_to s a r) ≡ (copy_in_child (grid s.board.settings) w.leaf old).key
  next_is old at = ap (λ ks. slice_index ks (copied_of r.split)) keys_are ∙ ap (slice_index (map (λ z. (copy_in_child (grid c) w.leaf z).key) w.gathered)) copied_is
      ∙ index_map (λ z. (copy_in_child (grid c) w.leaf z).key) w.gathered w.copied old at

  pub last_is : (old : Entry) → slice_get w.gathered (w.copied - 1) ≡ Some old → last_copy (shown_to s a r) ≡ (copy_in_child (grid s.board.settings) w.leaf old).key
  last_is old at = ap (λ ks. slice_index ks (copied_of r.split - 1)) keys_are ∙ ap (λ n. slice_index (map (λ z. (copy_in_child (grid c) w.leaf z).key) w.gathered) (n - 1)) copied_is
      ∙ index_map (λ z. (copy_in_child (grid c) w.leaf z).key) w.gathered (w.copied - 1) old at

module _ (s : State) (k : Kept s) (a : ℕ) (r : Actor) (there : slice_get s.actors a ≡ Some r) (going : r.ended ≡ false) (page : ℕ) (node : Node) where
  abbrev v : View
  v = shown_to s a r

  -- where no copy is made or taken back
  module _ (here : node_at s.pages page ≡ Some node) (can : Can s a r (visit page)) where
    abbrev qv : Actor
    qv = record r { page = page }

    abbrev tv : State
    tv = after s a r (visit page)

    abbrev wv : View
    wv = shown_to (after s a r (visit page)) a (record r { page = page })

    on : Onward s (after s a r (visit page))
    on = onward s k a r there (visit page) can

    high_is : (node_or_fresh (node_at s.pages page)).high ≡ node.high
    high_is = ap (λ o. (node_or_fresh o).high) here

    copies_not : (result : Put) → CopyAnswer v wv page result → CopiesIn v wv page result
    copies_not result answer = copies_by s s.pages (set s.actors a qv) a r page r.split r.undone r.early (later_own s k a r there going (visit page) can qv (set_there s.actors a qv r there))
        (record { splitting = refl; mark = refl; whole = refl; copies = refl }) (record { undone = refl; early = refl }) result answer

    uncopies_not : (result : Put) → UncopyAnswer v wv page result → Uncopies v wv page result
    uncopies_not result answer = uncopies_by s s.pages (set s.actors a qv) a r page r.split r.undone r.early (later_own s k a r there going (visit page) can qv (set_there s.actors a qv r there))
        (record { splitting = refl; mark = refl; whole = refl; copies = refl }) result answer

    pub copy_down : (child : ℕ) → PointsDown node 0 (next_copy v) child → CopiesIn v wv page (put.Down child)
    copy_down child x = copies_not (put.Down child) (refl, goes_down s k tv on a r qv page node here high_is 0 (next_copy v) child x)

    pub copy_right : (next : ℕ) → PointsRight node 0 (next_copy v) next → CopiesIn v wv page (put.Right next)
    copy_right next x = copies_not (put.Right next) (refl, goes_right s k tv on a r qv page node here high_is 0 (next_copy v) next x)

    pub copy_full : EndsAfter node 0 (next_copy v) → item_count (trim_leaf r.floor.updates node) ≡ 32 → CopiesIn v wv page put.PageFull
    copy_full e many = copies_not put.PageFull (refl, is_reached s k tv on a r qv page node here high_is 0 (next_copy v) e, full_page s k a r page r.seen (record { node = node; there = here; items = many }))

    pub uncopy_down : (child : ℕ) → PointsDown node 0 (last_copy v) child → Uncopies v wv page (put.Down child)
    uncopy_down child x = uncopies_not (put.Down child) (refl, goes_down s k tv on a r qv page node here high_is 0 (last_copy v) child x, record { undone = refl; early = refl })

    pub uncopy_right : (next : ℕ) → PointsRight node 0 (last_copy v) next → Uncopies v wv page (put.Right next)
    uncopy_right next x = uncopies_not (put.Right next) (refl, goes_right s k tv on a r qv page node here high_is 0 (last_copy v) next x, record { undone = refl; early = refl })

  -- a copy is made
  module _ (e : Entry) (can : Can s a r (copy_in page node e)) where
    abbrev tc : State
    tc = after s a r (copy_in page node e)

    abbrev qc : Actor
    qc = with_split_at (copied_to (copied_of r.split + 1) r.split) page r

    abbrev wc : View
    wc = shown_to (after s a r (copy_in page node e)) a (with_split_at (copied_to (copied_of r.split + 1) r.split) page r)

    there_now : node_at (set s.pages page (Some (put_entry r.floor.updates e node))) page ≡ Some (put_entry r.floor.updates e node)
    there_now = get_or-set_same s.pages page (Some (put_entry r.floor.updates e node)) None (within s.pages page node can.0.there)

    next : next_copy v ≡ e.key
    next = next_is s a r can.1 can.2.split can.3 can.4 ∙ ap (λ (z : Entry). z.key) (sym can.5)

    before_count : item_count (page_seen s r page) ≡ length (without_dead r.floor.updates node.entries)
    before_count =
        let none : length node.routes ≡ 0 = ap length ((page_stands s k page node can.0.there).leaf can.0.level) in
        ap (λ o. item_count (trim_leaf r.floor.updates (node_or_fresh o))) can.0.there ∙ (rw can.0.level (omega (arith, none)))

    after_count : item_count (page_seen (after s a r (copy_in page node e)) (with_split_at (copied_to (copied_of r.split + 1) r.split) page r) page) ≡ 1 + length (without_dead r.floor.updates node.entries)
    after_count = ap (λ o. item_count (trim_leaf r.floor.updates (node_or_fresh o))) there_now ∙ put_count r.floor.updates e node can.0.level (ap (λ (z : Entry). z.death) can.5)
        ∙ ap (λ n. 1 + n) (sym (ap (λ o. item_count (trim_leaf r.floor.updates (node_or_fresh o))) can.0.there) ∙ before_count)

    taken : HasTaken v wc page
    taken = (let space = can.7 in record {
      some = omega (arith, after_count);
      few = omega (arith, after_count);
      was_roomy = λ _. ne_eqb (item_count (page_seen s r page)) 32 (λ same. omega (arith, before_count));
    })

    pub copy_done : CopiesIn v wc page put.Done
    copy_done = copies_by s tc.pages tc.actors a r page (copied_to (copied_of r.split + 1) r.split) r.undone r.early (later_own s k a r there going (copy_in page node e) can qc (set_there s.actors a qc r there))
        (counted_to s tc.pages tc.actors a r page (copied_of r.split + 1) r.undone r.early) (record { undone = refl; early = refl }) put.Done (
          ap (λ o. copied_of (copied_to (copied_of o + 1) o)) can.2.split ∙ ap (λ o. copied_of o + 1) (sym can.2.split),
          is_reached s k tc (onward s k a r there (copy_in page node e) can) a r qc page node can.0.there (ap (λ o. (node_or_fresh o).high) there_now) 0 (next_copy v)
              (record { level = can.0.level; under = ap (is_below node.high) next ∙ can.6.below_high }),
          taken,
        )

  -- the last copy is taken back
  module _ (e : Entry) (told : Bool) (can : Can s a r (uncopy page node e told)) where
    abbrev tu : State
    tu = after s a r (uncopy page node e told)

    abbrev qu : Actor
    qu = record (with_split_at (copied_to (copied_of r.split - 1) r.split) page r) { undone = true; early = cond told r.early true }

    abbrev wu : View
    wu = shown_to (after s a r (uncopy page node e told)) a (record (with_split_at (copied_to (copied_of r.split - 1) r.split) page r) { undone = true; early = cond told r.early true })

    left_now : node_at (set s.pages page (Some (drop_entry e.key node))) page ≡ Some (drop_entry e.key node)
    left_now = get_or-set_same s.pages page (Some (drop_entry e.key node)) None (within s.pages page node can.0.there)

    last : last_copy v ≡ e.key
    last = last_is s a r can.1 can.2 can.4 can.5 ∙ ap (λ (z : Entry). z.key) (sym can.6)

    early_is : (t b : Bool) → cond t b true ≡ (b || not t)
    early_is true true = refl
    early_is true false = refl
    early_is false true = refl
    early_is false false = refl

    fewer_copied : copied_of (copied_to (copied_of r.split - 1) r.split) + 1 ≡ copied_of r.split
    fewer_copied = (let some = can.3 in omega (arith, ap (λ o. copied_of (copied_to (copied_of o - 1) o)) can.2, ap copied_of can.2))

    pub uncopy_done : told ≡ v.told → Uncopies v wu page put.Done
    uncopy_done is = uncopies_by s tu.pages tu.actors a r page (copied_to (copied_of r.split - 1) r.split) true (cond told r.early true)
        (later_own s k a r there going (uncopy page node e told) can qu (set_there s.actors a qu r there)) (counted_to s tu.pages tu.actors a r page (copied_of r.split - 1) true (cond told r.early true)) put.Done (
          fewer_copied,
          is_reached s k tu (onward s k a r there (uncopy page node e told) can) a r qu page node can.0.there (ap (λ o. (node_or_fresh o).high) left_now) 0 (last_copy v)
              (record { level = can.0.level; under = ap (is_below node.high) last ∙ can.7.below_high }),
          refl,
          early_is told r.early ∙ ap (λ b. r.early || not b) is,
        )

-- the same, of each event
module _ (page : ℕ) (node : Node) where
  pub copies_down : (child : ℕ) → Makes (visit page) (λ s v w. node_at s.pages page ≡ Some node → PointsDown node 0 (next_copy v) child → CopiesIn v w page (put.Down child))
  copies_down child = made (visit page) (λ s v w. node_at s.pages page ≡ Some node → PointsDown node 0 (next_copy v) child → CopiesIn v w page (put.Down child))
      (λ s k a r there going can. (_, set_there s.actors a (record r { page = page }) r there, λ here x. copy_down s k a r there going page node here can child x))

  pub copies_right : (next : ℕ) → Makes (visit page) (λ s v w. node_at s.pages page ≡ Some node → PointsRight node 0 (next_copy v) next → CopiesIn v w page (put.Right next))
  copies_right next = made (visit page) (λ s v w. node_at s.pages page ≡ Some node → PointsRight node 0 (next_copy v) next → CopiesIn v w page (put.Right next))
      (λ s k a r there going can. (_, set_there s.actors a (record r { page = page }) r there, λ here x. copy_right s k a r there going page node here can next x))

  pub copies_full : Makes (visit page) (λ s v w. node_at s.pages page ≡ Some node → EndsAfter node 0 (next_copy v) → item_count (trim_leaf v.floor.updates node) ≡ 32 → CopiesIn v w page put.PageFull)
  copies_full = made (visit page) (λ s v w. node_at s.pages page ≡ Some node → EndsAfter node 0 (next_copy v) → item_count (trim_leaf v.floor.updates node) ≡ 32 → CopiesIn v w page put.PageFull)
      (λ s k a r there going can. (_, set_there s.actors a (record r { page = page }) r there, λ here e many. copy_full s k a r there going page node here can e many))

  pub copies_done : (e : Entry) → Makes (copy_in page node e) (λ s v w. CopiesIn v w page put.Done)
  copies_done e = made (copy_in page node e) (λ s v w. CopiesIn v w page put.Done)
      (λ s k a r there going can. (_, set_there s.actors a (with_split_at (copied_to (copied_of r.split + 1) r.split) page r) r there, copy_done s k a r there going page node e can))

  pub uncopies_down : (child : ℕ) → Makes (visit page) (λ s v w. node_at s.pages page ≡ Some node → PointsDown node 0 (last_copy v) child → Uncopies v w page (put.Down child))
  uncopies_down child = made (visit page) (λ s v w. node_at s.pages page ≡ Some node → PointsDown node 0 (last_copy v) child → Uncopies v w page (put.Down child))
      (λ s k a r there going can. (_, set_there s.actors a (record r { page = page }) r there, λ here x. uncopy_down s k a r there going page node here can child x))

  pub uncopies_right : (next : ℕ) → Makes (visit page) (λ s v w. node_at s.pages page ≡ Some node → PointsRight node 0 (last_copy v) next → Uncopies v w page (put.Right next))
  uncopies_right next = made (visit page) (λ s v w. node_at s.pages page ≡ Some node → PointsRight node 0 (last_copy v) next → Uncopies v w page (put.Right next))
      (λ s k a r there going can. (_, set_there s.actors a (record r { page = page }) r there, λ here x. uncopy_right s k a r there going page node here can next x))

  pub uncopies_done : (e : Entry) (told : Bool) → Makes (uncopy page node e told) (λ s v w. told ≡ v.told → Uncopies v w page put.Done)
  uncopies_done e told = made (uncopy page node e told) (λ s v w. told ≡ v.told → Uncopies v w page put.Done)
      (λ s k a r there going can. (
        _,
        set_there s.actors a (record (with_split_at (copied_to (copied_of r.split - 1) r.split) page r) { undone = true; early = cond told r.early true }) r there,
        λ is. uncopy_done s k a r there going page node e told can is,
      ))

has_some : (key : ℕ) (xs : List Entry) → 1 ≤ length (filter (λ z. z.key == key) xs) → has key (entry_keys xs) ≡ true
has_some key [] h = absurd (omega arith)
has_some key (x ∷ xs) h =
    let P : Bool → Type 0 = λ b. 1 ≤ length (cond b (x ∷ filter (λ z. z.key == key) xs) (filter (λ z. z.key == key) xs)) → (b || has key (entry_keys xs)) ≡ true in
    (elim (x.key == key) as P [ true ↦ λ _. refl | false ↦ λ m. has_some key xs m ]) h

some_taken : (t : Entry → Bool) (f : Entry → Entry) (n i : ℕ) (xs : List Entry) (x : Entry) → i < n → slice_get xs i ≡ Some x → t (f x) ≡ true → 1 ≤ length (filter t (map f (take n xs)))
some_taken t f n i [] x lt at is = absurd (none-some x at)
some_taken t f zero i (y ∷ ys) x lt at is = absurd (omega arith)
some_taken t f (suc n) zero (y ∷ ys) x lt at is =
    let same : t (f y) ≡ true = ap (λ z. t (f z)) (same_Some y x at) ∙ is in
    rw same (omega arith)
some_taken t f (suc n) (suc i) (y ∷ ys) x lt at is =
    let rest = some_taken t f n i ys x (omega arith) at is in
    let P : Bool → Type 0 = λ b. 1 ≤ length (cond b (f y ∷ filter t (map f (take n ys))) (filter t (map f (take n ys)))) in
    elim (t (f y)) as P [ true ↦ omega arith | false ↦ rest ]

not_there : (key : ℕ) (entries : List Entry) → AllByRecursion (λ z. z.key ≢ key) entries → has_entry key entries ≡ false
not_there key [] h = refl
not_there key (z ∷ zs) h = let n = h.0 in rw (ne_eqb z.key key n, not_there key zs h.1) refl

-- when they may be events
module _ (s : State) (k : Kept s) (a : ℕ) (r : Actor) (there : slice_get s.actors a ≡ Some r) (page : ℕ) (node : Node) (here : node_at s.pages page ≡ Some node) (w : SplitWork) (split : r.split ≡ Some w) (old : Entry) where
  abbrev view : View
  view = shown_to s a r

  abbrev copy : Entry
  copy = copy_in_child (grid s.board.settings) w.leaf old

  low_is : view.low page ≡ node.low
  low_is = ap (λ o. (node_or_fresh o).low) here

  pub can_copy : slice_get w.gathered w.copied ≡ Some old → view.whole ≡ true → view.low page ≤ next_copy view → EndsAfter node 0 (next_copy view) → length (without_dead r.floor.updates node.entries) < 32
      → Can s a r (copy_in page node (copy_in_child (grid s.board.settings) w.leaf old))
  can_copy at whole low e space =
      let key = next_is s a r w split old at in (
        record { there = here; level = e.level },
        w,
        record { split = split; whole = leb-true (cell_end (grid s.board.settings) w.leaf) w.mark (sym (ap (is_whole s.board.settings) split) ∙ whole) },
        old,
        at,
        refl,
        record { from_low = omega (arith, low, low_is, key); below_high = ap (is_below node.high) (sym key) ∙ e.under },
        space,
      )

  -- no entry has the key of the next copy
  pub copy_absent : slice_get w.gathered w.copied ≡ Some old → node.level ≡ 0 → (floor : ℕ) → has_entry copy.key (without_dead floor node.entries) ≡ false
  copy_absent at leaf floor =
      not_there copy.key (without_dead floor node.entries) (filter_keeps (λ z. z.key ≢ copy.key) (λ z. outlives z.death floor) node.entries (page_in s k page node here leaf (λ z. z.key ≢ copy.key)
      (subst (λ (y : Entry). AllByRecursion (λ (z : Entry). z.key ≢ y.key) (all_entries (forest_of s.board s.pages s.actors k.sound.chain))) (sym (copy_is s k.sound a r there w split w.copied old at))
      (absent_copy s.board.settings k.sound.limits s.board.log k.sound.legal (events_at (floor_of s.board)) s.actors s.board.retired (all_entries (forest_of s.board s.pages s.actors k.sound.chain)) k.sound.entries (keys_rise s k.sound)
      a r there w split old w.copied at refl))))

  pub can_uncopy : slice_get w.gathered (w.copied - 1) ≡ Some old → 0 < w.copied → view.low page ≤ last_copy view → EndsAfter node 0 (last_copy view) → (told : Bool) → told ≡ view.told
      → Can s a r (uncopy page node (copy_in_child (grid s.board.settings) w.leaf old) told)
  can_uncopy at some low e told is =
      let key = last_is s a r w split old at in (
        record { there = here; level = e.level },
        w,
        split,
        some,
        old,
        at,
        refl,
        record { from_low = omega (arith, low, low_is, key); below_high = ap (is_below node.high) (sym key) ∙ e.under },
        λ t. eqb-true s.board.allotted s.board.settings.pages (sym is ∙ t),
      )

  -- the last copy is on the page in whose range its key lies
  pub copy_there : slice_get w.gathered (w.copied - 1) ≡ Some old → 0 < w.copied → node.level ≡ 0 → IsInside node.low node.high copy.key → has_entry copy.key node.entries ≡ true
  copy_there at some leaf inside =
      let g : Grid = grid s.board.settings in
      let f : Forest = forest_of s.board s.pages s.actors k.sound.chain in
      let t : Entry → Bool = λ z. z.key == copy.key in
      let p : Entry → Bool = is_ahead g s.board.log in
      let u : Entry → Bool = is_under g w.leaf in
      let one : 1 ≤ length (filter t (map (copy_in_child g w.leaf) (take w.copied w.gathered))) = some_taken t (copy_in_child g w.leaf) w.copied (w.copied - 1) w.gathered old (omega arith) at (eq-eqb copy.key copy.key refl) in
      let same = same_length _ _ (same_filter t _ _ (k.sound.entries.works a r w there split).copies) in
      let whole : 1 ≤ length (filter t (all_entries f)) =
      omega (
        arith,
        one,
        same,
        ap length (filter_twice t p (filter u (all_entries f))),
        ap length (filter_twice (λ x. p x && t x) u (all_entries f)),
        fewer (λ x. u x && (p x && t x)) t (λ x h. (and_parts (p x) (t x) (and_parts (u x) (p x && t x) h).1).1) (all_entries f),
      ) in
      ap (λ (n : Node). has_entry copy.key n.entries) (sym (ap node_or_fresh here))
      ∙ sym (has_here f k.sound.pages.forest page (k.sound.pages.linked page node here) (ap (λ o. (node_or_fresh o).level) here ∙ leaf) copy.key
      (subst (λ (n : Node). IsInside n.low n.high copy.key) (sym (ap node_or_fresh here)) inside))
      ∙ has_some copy.key (all_entries f) whole
