-- What commits require of a view is what their events require of the state.
use Rattle.std.proofs.Common.{◌≡◌, ◌≢◌, ℕ, ℤ, ◌^◌, ◌<◌, ◌≤◌, ◌==◌, List, [], ◌∷◌, length, map, Bool, true, false, cond, ◌&&◌, ◌||◌, nat_le, refl, sym, ap, ◌∙◌, subst, arith, Option, Some, None, is_some}
use Rattle.std.specs.Prelude.{slice_get}
use Rattle.std.specs.List.{AllByRecursion, find, list_any}
use Rattle.std.proofs.lemmas.Bool.{and_parts, false≢true, ltb-true, ne_eqb}
use Rattle.std.proofs.lemmas.Option.{none-some, same_Some}
use Rattle.mi_base.specs.declared.records.LogEvent.{LogEvent}
use Rattle.mi_base.specs.Configuration.{Configuration}
use Rattle.mi_base.specs.History.{Object, updates_of}
use Rattle.mi_base.specs.Permutations.{begins, key_distance, permutation_of}
use Rattle.mi_base.proofs.SortingLemmas.{filter_keeps}
use Rattle.mi_key.specs.declared.entries.Entry.{Entry}
use Rattle.mi_key.specs.Keys.{parts_of}
use Rattle.mi_page.specs.Entries.{has_entry, has_living, is_shown, outlives, without_dead}
use Rattle.mi_page.specs.Keys.{IsInside}
use Rattle.mi_page.specs.Nodes.{Node}
use Rattle.mi_page.proofs.LawLemmas.{found_lives}
use Rattle.mi_tree.specs.Births.{Born, born}
use Rattle.mi_tree.specs.Cells.{same_cell}
use Rattle.mi_tree.proofs.LeafLemmas.{same_self}
use Rattle.mi_tree.proofs.ListLemmas.{all_get, all_weaker}
use Rattle.mi_board.specs.Actors.{claims_leaf_of}
use Rattle.mi_board.specs.Boards as board
use Rattle.mi_board.specs.Boards.{HasRoom, MayCommit, crowded_at}
use Rattle.mi_entries.specs.Actors.{Actor}
use Rattle.mi_entries.specs.Entries.{HasPlace, IsEntry, grid, is_placed}
use Rattle.mi_entries.specs.Records.{Rows, Shard, ShardRecord, home, shard_at}
use Rattle.mi_entries.proofs.EntryLemmas.{timely}
use Rattle.mi_entries.proofs.KeyedLemmas.{is_keyed}
use Rattle.mi_entries.proofs.NewLemmas.{aged}
use Rattle.mi_entries.proofs.RecordLemmas.{born_live, object}
use Rattle.mi_core.specs.Events.{CanDelete, CanInsert}
use Rattle.mi_core.specs.Kept.{Kept}
use Rattle.mi_core.specs.Named.{EntryOf}
use Rattle.mi_core.specs.Pages.{node_or_fresh}
use Rattle.mi_core.specs.State.{State, node_at}
use Rattle.mi_core.proofs.KeptLemmas.{on_board}
use Rattle.mi_core.proofs.RecordedLemmas.{entry_here, key_there, object_of}
use Rattle.mi_world.specs.declared.answers.Record.{Record}
use Rattle.mi_world.specs.Claims.{holds_leaf_of}
use Rattle.mi_world.specs.Pages.{MayDelete, MayInsert, delete_key, insert_key, key_of_record, next_number}
use Rattle.mi_world.specs.LeafKeys.{key_under}
use Rattle.mi_world.specs.View.{Agrees, View, prefix_or}
use Rattle.mi_solo.specs.Seeking.{EndsAfter}
use Rattle.mi_solo.specs.Viewing.{record_shown, records_in, shown_to}
use Rattle.mi_solo.proofs.BoardLemmas.{sees_board}
use Rattle.mi_solo.proofs.CommitEvents.{held_leaf}
use Rattle.mi_solo.proofs.DescentLemmas.{page_in}
use Rattle.mi_solo.proofs.EnterEvents.{found_id}

none_of : {X : Type 0} (o : Option X) → is_some o ≡ false → o ≡ None
none_of None h = refl
none_of (Some x) h = absurd (false≢true (sym h))

not_shown : (o : Option ShardRecord) → record_shown o ≡ None → o ≡ None
not_shown None h = refl
not_shown (Some x) h = cc

-- an identifier whose record isn't told has none in the shard that is held
pub unrecorded : (shards : List Shard) (o : Option ℕ) (k id : ℕ) → o ≡ Some k → records_in shards o id ≡ None → find (λ x. x.id == id) (shard_at shards k).rows.records ≡ None
unrecorded shards o k id held none = not_shown _ (sym (ap (λ p. records_in shards p id) held) ∙ none)

shown_from : (o : Option ShardRecord) (x : Record) → record_shown o ≡ Some x → (y : ShardRecord) × (o ≡ Some y) × (x.birth ≡ y.birth) × (x.dists.items ≡ y.dists)
shown_from None x h = absurd (none-some x h)
shown_from (Some y) x h =
    let same = same_Some (record { birth = y.birth; dists = record { items = y.dists } }) x h in
    (y, refl, ap (λ (z : Record). z.birth) (sym same), ap (λ (z : Record). z.dists.items) (sym same))

not_there : (key : ℕ) (entries : List Entry) → AllByRecursion (λ z. z.key ≢ key) entries → has_entry key entries ≡ false
not_there key [] h = refl
not_there key (z ∷ zs) h = let n = h.0 in rw (ne_eqb z.key key n, not_there key zs h.1) refl

found_any : (X : List ℤ → Bool) (id : ℕ) (os : List Born) (b : Born) → find (λ x. x.id == id) os ≡ Some b → X b.vector ≡ true → list_any (λ o. (o.id == id) && X o.vector) (map object os) ≡ true
found_any X id [] b h x = absurd (none-some b h)
found_any X id (o ∷ os) b h x =
    let P : Bool → Type 0 = λ t. cond t (Some o) (find (λ y. y.id == id) os) ≡ Some b → ((t && X o.vector) || list_any (λ z. (z.id == id) && X z.vector) (map object os)) ≡ true in
    (elim (o.id == id) as P [
      | true ↦ λ e. (let same : X o.vector ≡ true = ap (λ (z : Born). X z.vector) (same_Some o b e) ∙ x in rw same refl)
      | false ↦ λ e. found_any X id os b e x
    ]) h

claims : (perm : List ℕ) (o : Option (List ℕ)) → holds_leaf_of perm o ≡ true → claims_leaf_of perm o ≡ true
claims perm None h = h
claims perm (Some p) h = h

module _ (s : State) (k : Kept s) (a : ℕ) (r : Actor) (there : slice_get s.actors a ≡ Some r) where
  abbrev v : View
  v = shown_to s a r

  abbrev c : Configuration
  c = s.board.settings

  abbrev log : List LogEvent
  log = s.board.log

  -- a leaf page that ends after a key, and begins no later than there
  inside_of : (page : ℕ) (node : Node) → node_at s.pages page ≡ Some node → (key : ℕ) → v.low page ≤ key → EndsAfter node 0 key → IsInside node.low node.high key
  inside_of page node here key low e = record { from_low = omega (arith, ap (λ o. (node_or_fresh o).low) here, low); below_high = e.under }

  -- an actor that has reserved with a claim of a leaf may commit
  may_commit : (m : ℕ) → r.shard ≡ Some m → r.reserved_here ≡ true → (perm : List ℕ) → holds_leaf_of perm r.claim ≡ true → MayCommit s.board a perm
  may_commit m held reserved perm leaf =
      let h = (k.sound.each a r there).holds in
      record {
        known = on_board s k.sound a r there;
        claims = ap (claims_leaf_of perm) h.claim ∙ claims perm r.claim leaf;
        reserved = h.reserved ∙ (h.room m held reserved).0;
      }

  module _ (id : ℕ) (vector : List ℤ) (dists : List ℕ) (may : MayInsert v id vector dists) where
    pub insert_commits : MayCommit s.board a (permutation_of dists)
    insert_commits = may_commit (home id) may.shard may.reserved (permutation_of dists) may.leaf

    pub insert_board : board.MayInsert s.board id vector (permutation_of dists) (key_distance dists)
    insert_board = record {
      fits = may.fits;
      absent = subst (Agrees c log id) may.absent ((sees_board s k a r there).guards id may.shard);
      perm_is = ap permutation_of may.measured;
      distance_is = ap key_distance may.measured;
    }

  module _ (id : ℕ) (may : MayDelete v id) where
    pub delete_commits : MayCommit s.board a (permutation_of may.kept.dists.items)
    delete_commits = may_commit (home id) may.shard may.reserved (permutation_of may.kept.dists.items) may.leaf

    pub delete_board : board.MayDelete s.board id (permutation_of may.kept.dists.items)
    delete_board =
        let g : Agrees c log id (Some may.kept) = subst (Agrees c log id) may.is ((sees_board s k a r there).guards id may.shard) in
        subst (λ (os : List Object). list_any (λ o. (o.id == id) && same_cell (permutation_of may.kept.dists.items) ((grid c).perm o.vector)) os ≡ true) (born_live (updates_of log))
        (found_any (λ x. same_cell (permutation_of may.kept.dists.items) ((grid c).perm x)) id (born (updates_of log)) g.1.0 g.1.1
        (ap (λ ds. same_cell (permutation_of may.kept.dists.items) (permutation_of ds)) (sym g.1.3) ∙ same_self (permutation_of may.kept.dists.items)))

  module _ (page : ℕ) (node : Node) (here : node_at s.pages page ≡ Some node) where
    -- the entry that the call makes is one that its event puts in
    module _ (id : ℕ) (e : Entry) (may : MayInsert v id e.vector e.dists.items) (small : id < 2 ^ 40) (birth : e.birth ≡ next_number v) (death : e.death ≡ None)
        (key : e.key ≡ insert_key v e.dists.items id e.birth) (low : v.low page ≤ insert_key v e.dists.items id (next_number v)) (ends : EndsAfter node 0 (insert_key v e.dists.items id (next_number v)))
        (room : HasRoom s.board) (calm : crowded_at s.board ((grid s.board.settings).perm e.vector) ≡ false) (space : length (without_dead r.floor.updates node.entries) < 32) where
      abbrev leaf : List ℕ
      leaf = (held_leaf (permutation_of e.dists.items) r.claim may.leaf).0

      claim : r.claim ≡ Some leaf
      claim = (held_leaf (permutation_of e.dists.items) r.claim may.leaf).1

      its_key : e.key ≡ insert_key v e.dists.items id (next_number v)
      its_key = key ∙ ap (insert_key v e.dists.items id) birth

      pub can_insert : CanInsert s r id page node (shard_at s.shards (home id)).rows e
      can_insert = record {
        leaf = leaf;
        may = record {
          shard = may.shard;
          here = may.reserved;
          kept_is = refl;
          whole = none_of r.split may.unsplit;
          claim = claim;
          under = ap (λ ds. begins leaf (permutation_of ds)) (sym may.measured) ∙ (held_leaf (permutation_of e.dists.items) r.claim may.leaf).2;
          few = room;
          page_is = record { there = here; level = ends.level };
          inside = subst (IsInside node.low node.high) (sym its_key) (inside_of page node here _ low ends);
        };
        new = record {
          small = small;
          fits = may.fits;
          birth = birth;
          dists = may.measured;
          death = death;
          key = key ∙ ap (λ o. key_under c (prefix_or o) (key_distance e.dists.items) id e.birth) claim ∙ ap (λ ds. key_under c leaf (key_distance ds) id e.birth) may.measured;
        };
        absent = unrecorded s.shards r.shard (home id) id may.shard may.absent;
        calm = calm;
        space = space;
      }

    -- no entry has the key of the one that is put in
    pub insert_absent : (id : ℕ) (kept : Rows) (e : Entry) → CanInsert s r id page node kept e → (floor : ℕ) → has_entry e.key (without_dead floor node.entries) ≡ false
    insert_absent id kept e can floor = not_there e.key (without_dead floor node.entries)
        (filter_keeps (λ z. z.key ≢ e.key) (λ z. outlives z.death floor) node.entries
        (all_weaker (HasPlace c log s.actors s.board.retired) (λ z. z.key ≢ e.key) one node.entries (page_in s k page node here can.may.page_is.level _ k.sound.entries.places)))
      where
        own : (parts_of e.key).birth ≡ e.birth
        own = aged c k.sound.limits k.sound.metric log k.sound.legal can.may.few can.leaf id e ((k.sound.each a r there).holds.leaf can.leaf can.may.claim) can.may.under can.new

        one : (z : Entry) → HasPlace c log s.actors s.board.retired z → z.key ≢ e.key
        one z h same =
            let old = (timely c log z h.is).birth in
            let its : (parts_of z.key).birth ≡ z.birth = ap (λ n. (parts_of n).birth) h.is.keyed ∙ (is_keyed c k.sound.limits).aged _ h.is.fits h.is.down h.is.deep in
            let both : (parts_of z.key).birth ≡ (parts_of e.key).birth = ap (λ n. (parts_of n).birth) same in
            let new = can.new.birth in
            omega (arith, its, own, both)

    -- the shard's record tells the key of the entry that is deleted
    module _ (id : ℕ) (may : MayDelete v id) (low : v.low page ≤ delete_key v id) (ends : EndsAfter node 0 (delete_key v id)) (room : HasRoom s.board) where
      abbrev rows : Rows
      rows = (shard_at s.shards (home id)).rows

      kept : (y : ShardRecord) × (find (λ x. x.id == id) (shard_at s.shards (home id)).rows.records ≡ Some y) × (may.kept.birth ≡ y.birth) × (may.kept.dists.items ≡ y.dists)
      kept = shown_from (find (λ x. x.id == id) rows.records) may.kept (sym (ap (λ o. records_in s.shards o id) may.shard) ∙ may.is)

      abbrev leaf_d : List ℕ
      leaf_d = (held_leaf (permutation_of may.kept.dists.items) r.claim may.leaf).0

      claim_d : r.claim ≡ Some leaf_d
      claim_d = (held_leaf (permutation_of may.kept.dists.items) r.claim may.leaf).1

      pub can_delete : CanDelete s r id page node (shard_at s.shards (home id)).rows (delete_key v id)
      can_delete = record {
        leaf = leaf_d;
        has = kept.0;
        found = kept.1;
        may = record {
          shard = may.shard;
          here = may.reserved;
          kept_is = refl;
          whole = none_of r.split may.unsplit;
          claim = claim_d;
          under = ap (λ ds. begins leaf_d (permutation_of ds)) (sym kept.3) ∙ (held_leaf (permutation_of may.kept.dists.items) r.claim may.leaf).2;
          few = room;
          page_is = record { there = here; level = ends.level };
          inside = inside_of page node here _ low ends;
        };
        key_is = ap (key_of_record c r.claim id) may.is
            ∙ ap (λ o. key_under c (prefix_or o) (key_distance may.kept.dists.items) id may.kept.birth) claim_d
            ∙ ap (λ n. key_under c leaf_d (key_distance may.kept.dists.items) id n) kept.2
            ∙ ap (λ ds. key_under c leaf_d (key_distance ds) id kept.0.birth) kept.3
            ∙ ap (λ i. key_under c leaf_d (key_distance kept.0.dists) i kept.0.birth) (sym (found_id id rows.records kept.0 kept.1));
      }

    -- that entry is on the page, and has no death
    pub delete_living : (id : ℕ) (rows : Rows) (key : ℕ) → CanDelete s r id page node rows key → has_living key node.entries ≡ true
    delete_living id rows key can = found_lives key x.place node.entries x.entry x.there (x.key ∙ sym (key_there s k.sound a r there id page node rows key can)) (lives x.entry.death refl)
      where
        x : EntryOf s node (object_of s k.sound a r there id page node rows key can).object
        x = entry_here s k.sound a r there id page node rows key can

        its : IsEntry c log x.entry
        its = (all_get (HasPlace c log s.actors s.board.retired) node.entries x.place x.entry (page_in s k page node here can.may.page_is.level (HasPlace c log s.actors s.board.retired) k.sound.entries.places) x.there).is

        lives : (o : Option ℕ) → x.entry.death ≡ o → x.entry.death ≡ None
        lives None e = e
        lives (Some d) e =
            let shown = and_parts (is_shown (length (updates_of log)) x.entry) (is_placed (grid c) log x.entry) x.counted in
            let out = and_parts (nat_le x.entry.birth (length (updates_of log))) (outlives x.entry.death (length (updates_of log))) shown.0 in
            let late : length (updates_of log) < d = ltb-true (length (updates_of log)) d (ap (λ o. outlives o (length (updates_of log))) (sym e) ∙ out.1) in
            let early = (timely c log x.entry its).death d e in
            absurd (omega arith)
