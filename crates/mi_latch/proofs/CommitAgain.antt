-- The same of events that write a page, a shard or both beside the board.
use Rattle.std.proofs.Common.{◌≡◌, ℕ, ◌+◌, length, refl, sym, subst, Some}
use Rattle.std.specs.Prelude.{slice_get}
use Rattle.mi_base.specs.History.{updates_of}
use Rattle.mi_key.specs.declared.entries.Entry.{Entry}
use Rattle.mi_page.specs.Nodes.{Node, root_node}
use Rattle.mi_core.specs.Effects.{mark_entry, put_entry}
use Rattle.mi_core.specs.Events.{Can, Event, after, hand}
use Rattle.mi_core.specs.Events.Event.{reserve, grow, insert, delete}
use Rattle.mi_core.specs.Named.{IsNamed}
use Rattle.mi_core.specs.State.{State, node_at, put_board, put_page, put_shard}
use Rattle.mi_entries.specs.Actors.{Actor}
use Rattle.mi_entries.specs.Records.{Rows, held_by, home, shard_at, with_record, without_id}
use Rattle.mi_latch.proofs.BoardAgain.{Comes, comes}

-- in c the event is made with these parts written beside the board, as it is in s
abbrev Made : State → State → State → ℕ → Actor → Actor → Event → Type 0
Made s c mid a r q e = Can c a r e × Comes (after c a r e) a r q (after s a r e).board mid

module _ (s c : State) (a : ℕ) (r q : Actor) (there : slice_get s.actors a ≡ Some r) (is : c.board ≡ s.board) where
  -- from the state with the board of s to c
  at_board : (e : Event) (mid : State) → Can (put_board s.board c) a r e → Comes (after (put_board s.board c) a r e) a r q (after s a r e).board mid → Made s c mid a r q e
  at_board e mid can now = subst (λ b. Can (put_board b c) a r e × Comes (after (put_board b c) a r e) a r q (after s a r e).board mid) (sym is) (can, now)

  -- room is reserved in the shard in hand
  pub reserve_again : (k room : ℕ) (rows : Rows) → Can s a r (reserve k rows room) → (shard_at c.shards k).rows ≡ rows → slice_get (after s a r (reserve k rows room)).actors a ≡ Some q
      → Made s c (put_shard k (held_by (Some a) (record rows { room = room })) c) a r q (reserve k rows room)
  reserve_again k room rows can here new =
      let mid = put_shard k (held_by (Some a) (record rows { room = room })) c in
      at_board (reserve k rows room) mid (can.0, here, can.2, can.3) (comes s mid a r q _ (after s a r (reserve k rows room)).board there new refl refl)

  -- the fresh page becomes the root, above the old one and a page that was named
  pub grow_again : (level key child : ℕ) → Can s a r (grow level key child) → IsNamed c.pages (record { page = child; level = s.board.height; low = key }) → slice_get (after s a r (grow level key child)).actors a ≡ Some q
      → Made s c (put_page (hand r.fresh) (root_node level s.board.root key child) c) a r q (grow level key child)
  grow_again level key child can named new =
      let mid = put_page (hand r.fresh) (root_node level s.board.root key child) c in
      at_board (grow level key child) mid (can.0, can.1, can.2, can.3, named.node, named.there, named.level, named.low)
      (comes s mid a r q _ (after s a r (grow level key child)).board there new refl refl)

  module _ (op id page : ℕ) (node : Node) (rows : Rows) (on : node_at c.pages page ≡ Some node) (here : (shard_at c.shards (home id)).rows ≡ rows) where
    -- an entry is put into the page, and a record into the shard
    pub insert_again : (e : Entry) → Can s a r (insert op id page node rows e) → slice_get (after s a r (insert op id page node rows e)).actors a ≡ Some q
        → Made s c (put_page page (put_entry r.floor.updates e node) (put_shard (home id) (held_by (Some a) (with_record (record { id = id; birth = e.birth; dists = e.dists.items }) rows)) c)) a r q (insert op id page node rows e)
    insert_again e can new =
        let mid = put_page page (put_entry r.floor.updates e node) (put_shard (home id) (held_by (Some a) (with_record (record { id = id; birth = e.birth; dists = e.dists.items }) rows)) c) in
        at_board (insert op id page node rows e) mid
        record {
          leaf = can.leaf;
          may = record {
            shard = can.may.shard;
            here = can.may.here;
            kept_is = here;
            whole = can.may.whole;
            claim = can.may.claim;
            under = can.may.under;
            few = can.may.few;
            page_is = record { there = on; level = can.may.page_is.level };
            inside = can.may.inside;
          };
          new = can.new;
          absent = can.absent;
          calm = can.calm;
          space = can.space;
        }
        (comes s mid a r q _ (after s a r (insert op id page node rows e)).board there new refl refl)

    -- the entry of the key gets a death, and the shard loses the identifier's record
    pub delete_again : (key : ℕ) → Can s a r (delete op id page node rows key) → slice_get (after s a r (delete op id page node rows key)).actors a ≡ Some q
        → Made s c (put_page page (mark_entry key (length (updates_of s.board.log) + 1) node) (put_shard (home id) (held_by (Some a) (without_id id rows)) c)) a r q (delete op id page node rows key)
    delete_again key can new =
        let mid = put_page page (mark_entry key (length (updates_of s.board.log) + 1) node) (put_shard (home id) (held_by (Some a) (without_id id rows)) c) in
        at_board (delete op id page node rows key) mid
        record {
          leaf = can.leaf;
          has = can.has;
          found = can.found;
          may = record {
            shard = can.may.shard;
            here = can.may.here;
            kept_is = here;
            whole = can.may.whole;
            claim = can.may.claim;
            under = can.may.under;
            few = can.may.few;
            page_is = record { there = on; level = can.may.page_is.level };
            inside = can.may.inside;
          };
          key_is = can.key_is;
        }
        (comes s mid a r q _ (after s a r (delete op id page node rows key)).board there new refl refl)
