-- The sections of the board with other slots in hand: what the seat gives back, and what it knows then.
use Rattle.std.proofs.Common.{◌≡◌, inl, ℕ, ◌+◌, List, ◌∷◌, [], length, Some, None, true, refl, sym, ap, ◌∙◌, subst, arith}
use Rattle.std.specs.Prelude.{slice_get, slice_set}
use Rattle.atomic_table.specs.Table.{rest}
use Rattle.mi_base.specs.Configuration.{Configuration}
use Rattle.mi_base.specs.declared.records.Update.TheVariants.{Delete, Insert}
use Rattle.mi_base.specs.History.{updates_of}
use Rattle.mi_key.specs.declared.entries.Entry.{Entry}
use Rattle.mi_page.specs.Nodes.{Node, root_node}
use Rattle.mi_board.specs.Actors.{with_reserved}
use Rattle.mi_board.specs.Boards.{BoardState, grown, with_actor}
use Rattle.mi_core.specs.Effects.{committed, looked, mark_entry, noted, paid, put_entry, saw, with_update}
use Rattle.mi_core.specs.Events.{Can, Event, after, hand}
use Rattle.mi_core.specs.Events.Event.{meet, refuse_at, reserve, grow, insert, delete}
use Rattle.mi_core.specs.Refusals.{Refusal}
use Rattle.mi_core.specs.State.{State, node_at}
use Rattle.mi_core.proofs.ActorLemmas.{set_there}
use Rattle.mi_entries.specs.Actors.{Actor}
use Rattle.mi_entries.specs.Records.{Rows, home, with_record, without_id}
use Rattle.mi_latch.specs.declared.slots.Slot.{Slot}
use Rattle.mi_latch.specs.declared.slots.Slot.TheVariants.{OfBoard, OfPage, OfShard, Vacant}
use Rattle.mi_latch.specs.Boards.{Telling, seeing}
use Rattle.mi_latch.specs.Boths.{HoldsBoth, HoldsCommit}
use Rattle.mi_latch.specs.Decided.{SameCause}
use Rattle.mi_latch.specs.Found.{FoundBoard, MayTell}
use Rattle.mi_latch.specs.Layout.{at}
use Rattle.mi_latch.specs.Shows.{Has}
use Rattle.mi_latch.specs.Views.{Doing, IsOne, Mine, Seated, now}
use Rattle.mi_latch.proofs.BoardGives.{both_does, commit_does}
use Rattle.mi_latch.proofs.CommitMakes.{Leaves, beside_makes, delete_makes, grow_makes, insert_makes, reserve_makes}
use Rattle.mi_latch.proofs.Ones.{of_page, read_page}

module _ (settings : Configuration) (m : Seated) (was : BoardState) (found : FoundBoard settings m.0.actor m.0.mine (rest m.0.out) was) (t : Telling) where
  abbrev a : ℕ
  a = m.0.actor

  abbrev mine : Mine
  mine = m.0.mine

  abbrev r : Actor
  r = m.0.mine.part

  abbrev s : State
  s = found.core

  abbrev May : Event → Type 0
  May e = Can s a r e

  abbrev Tells : BoardState → Type 0
  Tells board = MayTell a mine was board t

  -- the board and this record of the actor come back, and these values are still out
  abbrev Gives : Actor → BoardState → List (ℕ × Slot) → Type 0
  Gives to board out = Doing settings m.0 (now m.0 (seeing to board t mine) out) 0 (OfBoard board)

  -- the event makes this record and this board of the one in hand
  leaves : (f : BoardState → Actor) (g : BoardState → BoardState) (may : Tells (g was)) (e : Event) → May e → (after s a r e).actors ≡ slice_set s.actors a (f s.board) → (after s a r e).board ≡ g s.board
      → Leaves settings a mine (rest m.0.out) was found (f was) (g was) t may e
  leaves f g may e can actors board = record {
    can = can;
    new = ap (λ l. slice_get l a) actors ∙ set_there s.actors a (f s.board) r found.fits.part ∙ ap (λ b. Some (f b)) found.board;
    makes = board ∙ ap g found.board;
  }

  -- a board that goes back as it was, beside a page
  module _ (page : ℕ) (node : Node) (more : List (ℕ × Slot)) (h : HoldsBoth m was (page + 17) (OfPage node) more) where
    on_page : (c : State) → length c.shards ≡ 16 → at c (page + 17) ≡ OfPage node → node_at c.pages page ≡ Some node
    on_page c sixteen on = of_page (node_at c.pages page) node (sym (read_page c page sixteen) ∙ on)

    here : node_at s.pages page ≡ Some node
    here = on_page s found.held.kept.sound.sixteen (found.values (page + 17) (OfPage node) (subst (λ l. Has l (page + 17) (OfPage node)) (sym h.also) (inl (refl, refl))))

    pub meet_gives : Tells was → Gives (noted page (saw was r)) was ((page + 17, OfPage node) ∷ more)
    meet_gives may = both_does settings m was was (noted page (saw was r)) t (page + 17) (OfPage node) (OfPage node) more (meet page) h (λ e. absurd (omega arith))
        (beside_makes settings a mine (rest m.0.out) was found (noted page (saw was r)) was t may (page + 17) (OfPage node) (meet page)
        (leaves (λ b. noted page (saw b r)) (λ b. b) may (meet page) (node, here) refl refl) (node, here)
        (λ c hc fc is on. (node, on_page c hc.kept.sound.sixteen on)))

    pub refuse_at_gives : (why : Refusal) → May (refuse_at page why) → ((c : State) → node_at c.pages page ≡ Some node → SameCause why s c) → Tells was → Gives (noted page (saw was r)) was ((page + 17, OfPage node) ∷ more)
    refuse_at_gives why can cause may = both_does settings m was was (noted page (saw was r)) t (page + 17) (OfPage node) (OfPage node) more (refuse_at page why) h (λ e. absurd (omega arith))
        (beside_makes settings a mine (rest m.0.out) was found (noted page (saw was r)) was t may (page + 17) (OfPage node) (refuse_at page why)
        (leaves (λ b. noted page (saw b r)) (λ b. b) may (refuse_at page why) can refl refl) ((node, here), cause s here)
        (λ c hc fc is on. let there = on_page c hc.kept.sound.sixteen on in ((node, there), cause c there)))

  -- room is reserved on the board and in the shard in hand
  pub reserve_gives : (k room : ℕ) (rows : Rows) (more : List (ℕ × Slot)) → HoldsBoth m was (k + 1) (OfShard rows) more → May (reserve k rows room) → Tells (with_actor (with_reserved true) a was)
      → Gives (record (looked was r) { reserved = true; reserved_here = true }) (with_actor (with_reserved true) a was) ((k + 1, OfShard (record rows { room = room })) ∷ more)
  reserve_gives k room rows more h can may =
      let f : BoardState → Actor = λ b. record (looked b r) { reserved = true; reserved_here = true } in
      let g : BoardState → BoardState = with_actor (with_reserved true) a in
      both_does settings m was (g was) (f was) t (k + 1) (OfShard rows) (OfShard (record rows { room = room })) more (reserve k rows room) h (λ e. absurd (omega arith))
      (reserve_makes settings a mine (rest m.0.out) was found (f was) (g was) t may k room rows (leaves f g may (reserve k rows room) can refl refl))

  -- the fresh page in hand becomes the root, above the old one and a page that was named
  pub grow_gives : (p level key child : ℕ) (more : List (ℕ × Slot)) → HoldsBoth m was (p + 17) Vacant more → r.fresh ≡ Some p → IsOne (record { page = child; level = was.height; low = key }) mine.named → May (grow level key child) → Tells (grown level p was)
      → Gives (record (saw was r) { fresh = None; owed = paid child r.owed }) (grown level p was) ((p + 17, OfPage (root_node level was.root key child)) ∷ more)
  grow_gives p level key child more h fresh named can may =
      let f : BoardState → Actor = λ b. record (saw b r) { fresh = None; owed = paid child r.owed } in
      let g : BoardState → BoardState = grown level p in
      both_does settings m was (g was) (f was) t (p + 17) Vacant (OfPage (root_node level was.root key child)) more (grow level key child) h (λ e. absurd (omega arith))
      (grow_makes settings a mine (rest m.0.out) was found (f was) (g was) t may p level key child fresh named (leaves f g may (grow level key child) can refl (ap (λ o. grown level (hand o) s.board) fresh)))

  module _ (op id page : ℕ) (node : Node) (rows : Rows) (h : HoldsCommit m was page node (home id) rows) where
    -- an insert
    pub insert_gives : (e : Entry) → May (insert op id page node rows e) → Tells (with_update a op (Insert id e.vector) was)
        → Gives (committed (with_update a op (Insert id e.vector) was) a op (Insert id e.vector) page r) (with_update a op (Insert id e.vector) was)
        ((page + 17, OfPage (put_entry r.floor.updates e node)) ∷ (home id + 1, OfShard (with_record (record { id = id; birth = e.birth; dists = e.dists.items }) rows)) ∷ [])
    insert_gives e can may =
        let g : BoardState → BoardState = with_update a op (Insert id e.vector) in
        let f : BoardState → Actor = λ b. committed (g b) a op (Insert id e.vector) page r in
        commit_does settings m was (g was) (f was) t page node (put_entry r.floor.updates e node) (home id) rows (with_record (record { id = id; birth = e.birth; dists = e.dists.items }) rows) (insert op id page node rows e) h
        (insert_makes settings a mine (rest m.0.out) was found (f was) (g was) t may op id page node rows e (leaves f g may (insert op id page node rows e) can refl refl))

    -- a delete
    pub delete_gives : (key : ℕ) → May (delete op id page node rows key) → Tells (with_update a op (Delete id) was)
        → Gives (committed (with_update a op (Delete id) was) a op (Delete id) page r) (with_update a op (Delete id) was)
        ((page + 17, OfPage (mark_entry key (length (updates_of was.log) + 1) node)) ∷ (home id + 1, OfShard (without_id id rows)) ∷ [])
    delete_gives key can may =
        let g : BoardState → BoardState = with_update a op (Delete id) in
        let f : BoardState → Actor = λ b. committed (g b) a op (Delete id) page r in
        commit_does settings m was (g was) (f was) t page node (mark_entry key (length (updates_of was.log) + 1) node) (home id) rows (without_id id rows) (delete op id page node rows key) h
        (delete_makes settings a mine (rest m.0.out) was found (f was) (g was) t may op id page node rows key (leaves f g may (delete op id page node rows key) can refl refl))
