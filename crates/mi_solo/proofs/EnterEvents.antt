-- Commits that enter an update.
use Rattle.std.proofs.Common.{◌≡◌, ℕ, ◌+◌, ◌==◌, List, [], ◌∷◌, ◌++◌, length, Bool, true, false, cond, ◌&&◌, append-nil, refl, sym, ap, ◌∙◌, subst, arith, Option, Some, None, set, get_or-set_same}
use Rattle.std.specs.Prelude.{slice_get}
use Rattle.std.specs.List.{filter, find}
use Rattle.std.proofs.lemmas.Bool.{eqb-true, ne_eqb}
use Rattle.std.proofs.lemmas.Option.{none-some}
use Rattle.mi_base.specs.declared.records.LogEvent.{LogEvent}
use Rattle.mi_base.specs.declared.records.LogEvent.TheVariants.{Update as Made}
use Rattle.mi_base.specs.declared.records.Update.{Update}
use Rattle.mi_base.specs.declared.records.Update.TheVariants as update
use Rattle.mi_base.specs.Configuration.{Configuration}
use Rattle.mi_base.specs.History.{is_live, updates_of}
use Rattle.mi_base.specs.Permutations.{key_distance}
use Rattle.mi_base.proofs.SortingLemmas.{same_length}
use Rattle.mi_key.specs.declared.entries.Entry.{Entry}
use Rattle.mi_page.specs.Entries.{entry_cmp, outlives, without_dead}
use Rattle.mi_page.specs.Keys.{is_below}
use Rattle.mi_page.specs.Nodes.{Node, item_count}
use Rattle.mi_tree.proofs.ListLemmas.{all_any, filter_same, filter_twice}
use Rattle.mi_entries.specs.Actors.{Actor}
use Rattle.mi_entries.specs.Records.{Rows, Shard, ShardRecord, held_by, home, no_shard, shard_at, with_record, without_id}
use Rattle.mi_entries.proofs.FilterLemmas.{put_in}
use Rattle.mi_core.specs.Effects.{committed, mark_entry, put_entry, trim_leaf, with_update}
use Rattle.mi_core.specs.Events.{Can, after}
use Rattle.mi_core.specs.Events.Event.{delete, insert}
use Rattle.mi_core.specs.Kept.{Kept}
use Rattle.mi_core.specs.Pages.{node_or_fresh}
use Rattle.mi_core.specs.State.{State, node_at}
use Rattle.mi_core.proofs.ActorLemmas.{set_there}
use Rattle.mi_core.proofs.PageLemmas.{within}
use Rattle.mi_world.specs.declared.answers.Commit.TheVariants as commit
use Rattle.mi_world.specs.declared.answers.Record.{Record}
use Rattle.mi_world.specs.Pages.{CommitsDelete, CommitsInsert, Enters, HasTaken, Recorded, delete_key, insert_key, key_of_record, next_number}
use Rattle.mi_world.specs.LeafKeys.{key_under}
use Rattle.mi_world.specs.View.{Agrees, View, prefix_or}
use Rattle.mi_solo.specs.Onward.{Makes}
use Rattle.mi_solo.specs.Viewing.{another, page_seen, pinned_log, record_shown, records_in, shown_to}
use Rattle.mi_solo.proofs.BoardLemmas.{sees_board}
use Rattle.mi_solo.proofs.CommitLemmas.{find_else, find_gone, find_more, find_new}
use Rattle.mi_solo.proofs.DescentLemmas.{is_reached, page_stands}
use Rattle.mi_solo.proofs.LaterLemmas.{onward}
use Rattle.mi_solo.proofs.OwnLemmas.{later_own, made, sees_own}
use Rattle.mi_solo.proofs.SectionLemmas.{another_self, apart_by, low, own_found}
use Rattle.mi_solo.proofs.ViewLemmas.{pin_more}

live_of : (c : Configuration) (log : List LogEvent) (id : ℕ) (o : Option Record) (x : Record) → o ≡ Some x → Agrees c log id o → is_live id (updates_of log) ≡ true
live_of c log id None x e g = absurd (none-some x e)
live_of c log id (Some y) x e g = g.0

pub found_id : (id : ℕ) (xs : List ShardRecord) (x : ShardRecord) → find (λ y. y.id == id) xs ≡ Some x → x.id ≡ id
found_id id [] x h = absurd (none-some x h)
found_id id (y ∷ ys) x h =
    let P : Bool → Type 0 = λ b. (y.id == id) ≡ b → cond b (Some y) (find (λ z. z.id == id) ys) ≡ Some x → x.id ≡ id in
    (elim (y.id == id) as P [ true ↦ λ e i. (let same : y ≡ x = cc in ap (λ (z : ShardRecord). z.id) (sym same) ∙ eqb-true y.id id e) | false ↦ λ _ i. found_id id ys x i ]) refl h

both : (b : Bool) → (b && b) ≡ b
both true = refl
both false = refl

-- an entry without death is put in after a trim, which then takes nothing off
pub put_count : (floor : ℕ) (e : Entry) (n : Node) → n.level ≡ 0 → e.death ≡ None → item_count (trim_leaf floor (put_entry floor e n)) ≡ 1 + item_count (trim_leaf floor n)
put_count floor e n leaf alive =
    let P : Entry → Bool = λ x. outlives x.death floor in
    let gain = same_length _ _ (put_in entry_cmp P e (filter P n.entries) (ap (λ d. outlives d floor) alive)) in
    let again : filter P (filter P n.entries) ≡ filter P n.entries = filter_twice P P n.entries ∙ filter_same _ _ n.entries (all_any (λ x. (P x && P x) ≡ P x) (λ x. both (P x)) n.entries) in
    (rw leaf (omega (arith, gain, ap length again)))

-- an actor's commit of any update
module _ (s : State) (k : Kept s) (a : ℕ) (r : Actor) (there : slice_get s.actors a ≡ Some r) (op id : ℕ) (u : Update) (kept : Rows) (held : r.shard ≡ Some (home id)) (kept_is : (shard_at s.shards (home id)).rows ≡ kept) where
  abbrev c : Configuration
  c = s.board.settings

  abbrev log : List LogEvent
  log = s.board.log

  same_pin : pinned_log (s.board.log ++ Made a op u ∷ []) r.pin ≡ pinned_log s.board.log r.pin
  same_pin = pin_more log (Made a op u ∷ []) r.pin (λ p is. ((k.sound.each a r there).saw.pin p is).0)

  -- what the view finds in the shard, before and after
  in_shard : (i : ℕ) → records_in s.shards r.shard i ≡ record_shown (find (λ y. y.id == i) kept.records)
  in_shard i = ap (λ o. records_in s.shards o i) held ∙ ap (λ (z : Rows). record_shown (find (λ y. y.id == i) z.records)) kept_is

  then_shard : (x : Rows) (i : ℕ) → records_in (set s.shards (home id) (held_by (Some a) x)) r.shard i ≡ record_shown (find (λ y. y.id == i) x.records)
  then_shard x i = ap (λ o. records_in (set s.shards (home id) (held_by (Some a) x)) o i) held
      ∙ ap (λ (z : Shard). record_shown (find (λ y. y.id == i) z.rows.records)) (get_or-set_same s.shards (home id) (held_by (Some a) x) no_shard (low s k a r there (home id) held))

  -- whoever held the shard that was tried holds it still
  same_found : (x : Rows) → another a (shard_at (set s.shards (home id) (held_by (Some a) x)) r.tried).holder ≡ another a (shard_at s.shards r.tried).holder
  same_found x = own_found s k a r there (home id) held (Some a) x (another_self a) r.tried

  agreed : Agrees s.board.settings s.board.log id (records_in s.shards r.shard id)
  agreed = (sees_board s k a r there).guards id held

module _ (s : State) (k : Kept s) (a : ℕ) (r : Actor) (there : slice_get s.actors a ≡ Some r) (going : r.ended ≡ false) where
  abbrev v : View
  v = shown_to s a r

  module _ (op id page : ℕ) (node : Node) (kept : Rows) (e : Entry) (can : Can s a r (insert op id page node kept e)) where
    abbrev t : State
    t = after s a r (insert op id page node kept e)

    abbrev ui : Update
    ui = update.Insert id e.vector

    abbrev qi : Actor
    qi = committed (with_update a op (update.Insert id e.vector) s.board) a op (update.Insert id e.vector) page r

    abbrev wi : View
    wi = shown_to (after s a r (insert op id page node kept e)) a (committed (with_update a op (update.Insert id e.vector) s.board) a op (update.Insert id e.vector) page r)

    pub now_insert : slice_get (after s a r (insert op id page node kept e)).actors a ≡ Some (committed (with_update a op (update.Insert id e.vector) s.board) a op (update.Insert id e.vector) page r)
    now_insert = set_there s.actors a qi r there

    abbrev y : ShardRecord
    y = record { id = id; birth = e.birth; dists = e.dists.items }

    there_now : node_at (set s.pages page (Some (put_entry r.floor.updates e node))) page ≡ Some (put_entry r.floor.updates e node)
    there_now = get_or-set_same s.pages page (Some (put_entry r.floor.updates e node)) None (within s.pages page node can.may.page_is.there)

    enters : Enters v wi op id ui false e.birth
    enters = record {
      before = s.board.log;
      grows = record { by = []; is = sym (append-nil s.board.log) };
      room = can.may.few;
      known = subst (Agrees s.board.settings s.board.log id) (in_shard s k a r there op id ui kept can.may.shard can.may.kept_is id ∙ ap record_shown can.absent) (agreed s k a r there op id ui kept can.may.shard can.may.kept_is);
      seen = refl;
      number_is = can.new.birth;
      own = refl;
      shard = refl;
      records = λ i n. then_shard s k a r there op id ui kept can.may.shard can.may.kept_is (with_record y kept) i ∙ ap record_shown (find_more y i n kept.records)
          ∙ sym (in_shard s k a r there op id ui kept can.may.shard can.may.kept_is i);
      reserved = refl;
    }

    recorded : Recorded wi id e.birth e.dists.items
    recorded = record {
      kept = record { birth = e.birth; dists = record { items = e.dists.items } };
      is = then_shard s k a r there op id ui kept can.may.shard can.may.kept_is (with_record y kept) id ∙ ap record_shown (find_new y kept.records can.absent);
      birth_is = refl;
      dists_are = refl;
    }

    key_is : insert_key wi e.dists.items id e.birth ≡ e.key
    key_is = ap (λ o. key_under s.board.settings (prefix_or o) (key_distance e.dists.items) id e.birth) can.may.claim ∙ ap (λ ds. key_under s.board.settings can.leaf (key_distance ds) id e.birth) can.new.dists ∙ sym can.new.key

    -- how many items the actor counted on the page
    before_count : item_count (page_seen s r page) ≡ length (without_dead r.floor.updates node.entries)
    before_count =
        let none : length node.routes ≡ 0 = ap length ((page_stands s k page node can.may.page_is.there).leaf can.may.page_is.level) in
        ap (λ o. item_count (trim_leaf r.floor.updates (node_or_fresh o))) can.may.page_is.there ∙ (rw can.may.page_is.level (omega (arith, none)))

    after_count : item_count (page_seen (after s a r (insert op id page node kept e)) qi page) ≡ 1 + length (without_dead r.floor.updates node.entries)
    after_count = ap (λ o. item_count (trim_leaf r.floor.updates (node_or_fresh o))) there_now ∙ put_count r.floor.updates e node can.may.page_is.level can.new.death
        ∙ ap (λ n. 1 + n) (sym (ap (λ o. item_count (trim_leaf r.floor.updates (node_or_fresh o))) can.may.page_is.there) ∙ before_count)

    taken : HasTaken v wi page
    taken = (let space = can.space in record {
      some = omega (arith, after_count);
      few = omega (arith, after_count);
      was_roomy = λ _. ne_eqb (item_count (page_seen s r page)) 32 (λ same. omega (arith, before_count));
    })

    pub insert_done : CommitsInsert (shown_to s a r) (shown_to (after s a r (insert op id page node kept e)) a (committed (with_update a op (update.Insert id e.vector) s.board) a op (update.Insert id e.vector) page r)) page op id e.vector e.dists.items (commit.Done e.birth)
    insert_done = record {
      later = later_own s k a r there going (insert op id page node kept e) can qi now_insert;
      lacked = refl;
      told = refl;
      leaf = refl;
      apart = apart_by s t a r qi refl refl refl refl refl (same_pin s k a r there op id ui kept can.may.shard can.may.kept_is);
      floor = refl;
      fresh = refl;
      owes = refl;
      board = sees_own s k a r there going (insert op id page node kept e) can qi now_insert;
      tries = record { tried = refl; found = same_found s k a r there op id ui kept can.may.shard can.may.kept_is (with_record y kept) };
      page_is = refl;
      answer = (
        enters,
        is_reached s k t (onward s k a r there (insert op id page node kept e) can) a r qi page node can.may.page_is.there (ap (λ o. (node_or_fresh o).high) there_now) 0 (insert_key wi e.dists.items id e.birth)
            (record { level = can.may.page_is.level; under = ap (is_below node.high) key_is ∙ can.may.inside.below_high }),
        recorded,
        taken,
      );
    }

  module _ (op id page : ℕ) (node : Node) (kept : Rows) (key : ℕ) (can : Can s a r (delete op id page node kept key)) where
    abbrev td : State
    td = after s a r (delete op id page node kept key)

    abbrev ud : Update
    ud = update.Delete id

    abbrev qd : Actor
    qd = committed (with_update a op (update.Delete id) s.board) a op (update.Delete id) page r

    abbrev wd : View
    wd = shown_to (after s a r (delete op id page node kept key)) a (committed (with_update a op (update.Delete id) s.board) a op (update.Delete id) page r)

    pub now_delete : slice_get (after s a r (delete op id page node kept key)).actors a ≡ Some (committed (with_update a op (update.Delete id) s.board) a op (update.Delete id) page r)
    now_delete = set_there s.actors a qd r there

    marked : node_at (set s.pages page (Some (mark_entry key (length (updates_of s.board.log) + 1) node))) page ≡ Some (mark_entry key (length (updates_of s.board.log) + 1) node)
    marked = get_or-set_same s.pages page (Some (mark_entry key (length (updates_of s.board.log) + 1) node)) None (within s.pages page node can.may.page_is.there)

    -- what the view has of the identifier
    record_is : v.records id ≡ Some (record { birth = can.has.birth; dists = record { items = can.has.dists } })
    record_is = in_shard s k a r there op id ud kept can.may.shard can.may.kept_is id ∙ ap record_shown can.found

    enters_delete : Enters v wd op id ud true (length (updates_of s.board.log) + 1)
    enters_delete = record {
      before = s.board.log;
      grows = record { by = []; is = sym (append-nil s.board.log) };
      room = can.may.few;
      known = live_of s.board.settings s.board.log id (v.records id) _ record_is (agreed s k a r there op id ud kept can.may.shard can.may.kept_is);
      seen = refl;
      number_is = refl;
      own = refl;
      shard = refl;
      records = λ i n. then_shard s k a r there op id ud kept can.may.shard can.may.kept_is (without_id id kept) i ∙ ap record_shown (find_else id i n kept.records)
          ∙ sym (in_shard s k a r there op id ud kept can.may.shard can.may.kept_is i);
      reserved = refl;
    }

    pub key_is_d : delete_key (shown_to s a r) id ≡ key
    key_is_d =
        ap (key_of_record s.board.settings r.claim id) record_is
        ∙ ap (λ o. key_under s.board.settings (prefix_or o) (key_distance can.has.dists) id can.has.birth) can.may.claim
        ∙ ap (λ i. key_under s.board.settings can.leaf (key_distance can.has.dists) i can.has.birth) (sym (found_id id kept.records can.has can.found))
        ∙ sym can.key_is

    pub delete_done : CommitsDelete (shown_to s a r) (shown_to (after s a r (delete op id page node kept key)) a (committed (with_update a op (update.Delete id) s.board) a op (update.Delete id) page r)) page op id (commit.Done (length (updates_of s.board.log) + 1))
    delete_done = record {
      later = later_own s k a r there going (delete op id page node kept key) can qd now_delete;
      lacked = refl;
      told = refl;
      leaf = refl;
      apart = apart_by s td a r qd refl refl refl refl refl (same_pin s k a r there op id ud kept can.may.shard can.may.kept_is);
      floor = refl;
      fresh = refl;
      owes = refl;
      board = sees_own s k a r there going (delete op id page node kept key) can qd now_delete;
      tries = record { tried = refl; found = same_found s k a r there op id ud kept can.may.shard can.may.kept_is (without_id id kept) };
      page_is = refl;
      answer = (
        enters_delete,
        is_reached s k td (onward s k a r there (delete op id page node kept key) can) a r qd page node can.may.page_is.there (ap (λ o. (node_or_fresh o).high) marked) 0 (delete_key v id)
            (record { level = can.may.page_is.level; under = ap (is_below node.high) key_is_d ∙ can.may.inside.below_high }),
        then_shard s k a r there op id ud kept can.may.shard can.may.kept_is (without_id id kept) id ∙ ap record_shown (find_gone id kept.records),
      );
    }

pub inserts_done : (op id page : ℕ) (node : Node) (kept : Rows) (e : Entry) → Makes (insert op id page node kept e) (λ s v w. CommitsInsert v w page op id e.vector e.dists.items (commit.Done e.birth))
inserts_done op id page node kept e = made (insert op id page node kept e) (λ s v w. CommitsInsert v w page op id e.vector e.dists.items (commit.Done e.birth))
    (λ s k a r there going can. (_, now_insert s k a r there going op id page node kept e can, insert_done s k a r there going op id page node kept e can))

pub deletes_done : (op id page : ℕ) (node : Node) (kept : Rows) (key : ℕ) → Makes (delete op id page node kept key) (λ s v w. CommitsDelete v w page op id (commit.Done (next_number v)))
deletes_done op id page node kept key = made (delete op id page node kept key) (λ s v w. CommitsDelete v w page op id (commit.Done (next_number v)))
    (λ s k a r there going can. (_, now_delete s k a r there going op id page node kept key can, delete_done s k a r there going op id page node kept key can))
