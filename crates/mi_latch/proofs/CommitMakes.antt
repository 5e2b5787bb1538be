-- What comes back from events with the board and other slots in hand, from the state that the take of the board found.
use Rattle.std.proofs.Common.{◌≡◌, ℕ, ◌+◌, ◌<◌, List, length, refl, sym, ap, ◌∙◌, subst, arith, Option, Some}
use Rattle.std.specs.Prelude.{slice_get}
use Rattle.mi_base.specs.Configuration.{Configuration}
use Rattle.mi_base.specs.History.{updates_of}
use Rattle.mi_key.specs.declared.entries.Entry.{Entry}
use Rattle.mi_page.specs.Nodes.{Node, root_node}
use Rattle.mi_board.specs.Boards.{BoardState}
use Rattle.mi_core.specs.Effects.{mark_entry, put_entry}
use Rattle.mi_core.specs.Events.{Can, Event, after, hand}
use Rattle.mi_core.specs.Events.Event.{reserve, grow, insert, delete}
use Rattle.mi_core.specs.Named.{Named}
use Rattle.mi_core.specs.State.{State, put_actor, put_board, put_page, put_shard}
use Rattle.mi_entries.specs.Actors.{Actor}
use Rattle.mi_entries.specs.Records.{Rows, held_by, home, shard_at, with_record, without_id}
use Rattle.mi_latch.specs.declared.slots.Slot.{Slot}
use Rattle.mi_latch.specs.declared.slots.Slot.TheVariants.{OfPage, OfShard, Vacant}
use Rattle.mi_latch.specs.Boards.{Telling}
use Rattle.mi_latch.specs.Boths.{MakesBoth, MakesCommit}
use Rattle.mi_latch.specs.Decided.{IsDecided}
use Rattle.mi_latch.specs.Found.{FoundBoard, MayTell}
use Rattle.mi_latch.specs.Layout.{at}
use Rattle.mi_latch.specs.Views.{Fits, Held, IsOne, Mine}
use Rattle.mi_latch.proofs.BoardAgain.{decided}
use Rattle.mi_latch.proofs.BoardGives.{same_holders}
use Rattle.mi_latch.proofs.BoardTold.{tells_so}
use Rattle.mi_latch.proofs.CommitAgain.{delete_again, grow_again, insert_again, reserve_again}
use Rattle.mi_latch.proofs.Ones.{at_page, at_shard, of_rows, read_shard}
use Rattle.mi_latch.proofs.Writing.{one_same}

module _ (settings : Configuration) (a : ℕ) (m : Mine) (out : List (ℕ × Slot)) (was : BoardState) (found : FoundBoard settings a m out was) (to : Actor) (board : BoardState) (t : Telling) (may : MayTell a m was board t) where
  abbrev s : State
  s = found.core

  abbrev r : Actor
  r = m.part

  -- the event can be in the state that was found, and makes this record and this board there
  pub record Leaves (e : Event) : Type 0 where
    pub can : Can s a r e
    pub new : slice_get (after s a r e).actors a ≡ Some to
    pub makes : (after s a r e).board ≡ board

  -- a slot beside the board goes on as it was
  pub beside_makes : (i : ℕ) (x : Slot) (e : Event) → Leaves e → IsDecided e s s → ((c : State) → Held settings c → Fits c a m → c.board ≡ was → at c i ≡ x → IsDecided e s c)
      → MakesBoth settings a m was board to t i x x e
  beside_makes i x e l here beside =
      let y = decided s s a r to found.fits.part e here l.can l.new refl in
      record {
        does = λ c hc fc is on.
            let d = decided s c a r to found.fits.part e (beside c hc fc is on) l.can l.new (is ∙ sym found.board) in
            record {
              can = d.0;
              mid = c;
              is = d.1.is ∙ ap (λ b. put_actor a to (put_board b c)) l.makes;
              one = one_same (at c) (at c) i x (λ j. refl) on;
              actors = refl;
              holders = λ j low. refl;
            };
        tells = tells_so settings a m out was found e l.can to l.new board l.makes t may y.1.seen y.1.going;
      }

  -- room is reserved in the shard in hand
  pub reserve_makes : (k room : ℕ) (rows : Rows) → Leaves (reserve k rows room) → MakesBoth settings a m was board to t (k + 1) (OfShard rows) (OfShard (record rows { room = room })) (reserve k rows room)
  reserve_makes k room rows l =
      let y = reserve_again s s a r to found.fits.part refl k room rows l.can l.can.1 l.new in
      let left : Rows = record rows { room = room } in
      record {
        does = λ c hc fc is on.
            let sixteen = hc.kept.sound.sixteen in
            let hold = (hc.kept.sound.each a r fc.part).holds.shard k l.can.0 in
            let here = of_rows (shard_at c.shards k) rows (sym (read_shard c k sixteen hold.0) ∙ on) in
            let d = reserve_again s c a r to found.fits.part (is ∙ sym found.board) k room rows l.can here l.new in
            record {
              can = d.0;
              mid = put_shard k (held_by (Some a) left) c;
              is = d.1.is ∙ ap (λ b. put_actor a to (put_board b (put_shard k (held_by (Some a) left) c))) l.makes;
              one = at_shard c k (held_by (Some a) left) sixteen hold.0;
              actors = refl;
              holders = λ j low. same_holders c k a left sixteen hold.0 hold.1 j;
            };
        tells = tells_so settings a m out was found (reserve k rows room) l.can to l.new board l.makes t may y.1.seen y.1.going;
      }

  -- the fresh page becomes the root, above the old one and a page that was named
  pub grow_makes : (p level key child : ℕ) → r.fresh ≡ Some p → IsOne (record { page = child; level = was.height; low = key }) m.named → Leaves (grow level key child)
      → MakesBoth settings a m was board to t (p + 17) Vacant (OfPage (root_node level was.root key child)) (grow level key child)
  grow_makes p level key child fresh named l =
      let x : Named = record { page = child; level = s.board.height; low = key } in
      let one : IsOne x m.named = subst (λ (b : BoardState). IsOne (record { page = child; level = b.height; low = key }) m.named) (sym found.board) named in
      let y = grow_again s s a r to found.fits.part refl level key child l.can (found.fits.knows.named x one) l.new in
      let root : Node = root_node level was.root key child in
      record {
        does = λ c hc fc is on.
            let d = grow_again s c a r to found.fits.part (is ∙ sym found.board) level key child l.can (fc.knows.named x one) l.new in
            let k = hc.kept.sound in
            let free = (k.each a r fc.part).fresh p fresh in
            let long : p < length c.pages = omega (arith, free.0, k.pages.length_is, k.pages.most) in
            record {
              can = d.0;
              mid = put_page p root c;
              is = d.1.is ∙ ap (λ (o : Option ℕ). put_actor a to (put_board (after s a r (grow level key child)).board (put_page (hand o) (root_node level s.board.root key child) c))) fresh
                  ∙ ap (λ (b : BoardState). put_actor a to (put_board (after s a r (grow level key child)).board (put_page p (root_node level b.root key child) c))) found.board
                  ∙ ap (λ b. put_actor a to (put_board b (put_page p root c))) l.makes;
              one = at_page c p root k.sixteen long;
              actors = refl;
              holders = λ j low. refl;
            };
        tells = tells_so settings a m out was found (grow level key child) l.can to l.new board l.makes t may y.1.seen y.1.going;
      }

  module _ (op id page : ℕ) (node : Node) (rows : Rows) where
    -- an entry is put into the page, and a record into the shard
    pub insert_makes : (e : Entry) → Leaves (insert op id page node rows e)
        → MakesCommit settings a m was board to t page node (put_entry r.floor.updates e node) (home id) rows (with_record (record { id = id; birth = e.birth; dists = e.dists.items }) rows) (insert op id page node rows e)
    insert_makes e l =
        let y = insert_again s s a r to found.fits.part refl op id page node rows l.can.may.page_is.there l.can.may.kept_is e l.can l.new in
        let left : Rows = with_record (record { id = id; birth = e.birth; dists = e.dists.items }) rows in
        record {
          does = λ c hc fc is on here.
              let d = insert_again s c a r to found.fits.part (is ∙ sym found.board) op id page node rows on here e l.can l.new in
              (d.0, d.1.is ∙ ap (λ b. put_actor a to (put_board b (put_page page (put_entry r.floor.updates e node) (put_shard (home id) (held_by (Some a) left) c)))) l.makes);
          tells = tells_so settings a m out was found (insert op id page node rows e) l.can to l.new board l.makes t may y.1.seen y.1.going;
        }

    -- the entry of the key gets a death, and the shard loses the identifier's record
    pub delete_makes : (key : ℕ) → Leaves (delete op id page node rows key)
        → MakesCommit settings a m was board to t page node (mark_entry key (length (updates_of was.log) + 1) node) (home id) rows (without_id id rows) (delete op id page node rows key)
    delete_makes key l =
        let y = delete_again s s a r to found.fits.part refl op id page node rows l.can.may.page_is.there l.can.may.kept_is key l.can l.new in
        record {
          does = λ c hc fc is on here.
              let d = delete_again s c a r to found.fits.part (is ∙ sym found.board) op id page node rows on here key l.can l.new in (
                d.0,
                d.1.is
                    ∙ ap (λ (b : BoardState). put_actor a to (put_board (after s a r (delete op id page node rows key)).board (put_page page (mark_entry key (length (updates_of b.log) + 1) node) (put_shard (home id) (held_by (Some a) (without_id id rows)) c)))) found.board
                    ∙ ap (λ b. put_actor a to (put_board b (put_page page (mark_entry key (length (updates_of was.log) + 1) node) (put_shard (home id) (held_by (Some a) (without_id id rows)) c)))) l.makes,
              );
          tells = tells_so settings a m out was found (delete op id page node rows key) l.can to l.new board l.makes t may y.1.seen y.1.going;
        }
