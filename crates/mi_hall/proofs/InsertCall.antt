-- An insert by a pass.
use Rattle.std.proofs.Common.{◌≡◌, ℕ, ℤ, ◌+◌, ◌<◌, ◌≤◌, ◌^◌, List, [], ◌∷◌, length, Bool, true, false, IsTrue, refl, sym, ap, ◌∙◌, subst, arith, Option, Some, None, get_or-set_same}
use Rattle.std.specs.Prelude.{IsSome, slice_get, slice_set}
use Rattle.std.proofs.lemmas.Option.{same_Some}
use Rattle.atomic_table.specs.Table.{rest}
use Rattle.mi_base.specs.declared.records.Update.TheVariants.{Insert}
use Rattle.mi_base.specs.Configuration.{Configuration}
use Rattle.mi_base.specs.History.{Entered, updates_of}
use Rattle.mi_base.specs.Permutations.{key_distance, permutation_of}
use Rattle.mi_base.specs.Prefixes.{all_below}
use Rattle.mi_board.specs.Boards.{BoardState, HasRoom, crowded_at}
use Rattle.mi_core.specs.Effects.{committed, noted, put_entry, saw, trim_leaf, with_update}
use Rattle.mi_core.specs.Events.{Can, CanInsert, Event, after}
use Rattle.mi_core.specs.Events.Event.{insert, meet, refuse_at}
use Rattle.mi_core.specs.Refusals.{Refusal}
use Rattle.mi_core.specs.Refusals.Refusal.{crowded, full, page_full}
use Rattle.mi_core.specs.State.{State, node_at}
use Rattle.mi_core.proofs.ActorLemmas.{set_there}
use Rattle.mi_core.proofs.PageLemmas.{within}
use Rattle.mi_entries.specs.Actors.{Actor}
use Rattle.mi_entries.specs.Entries.{grid}
use Rattle.mi_entries.specs.Records.{Rows, Shard, held_by, home, no_shard, shard_at, with_record}
use Rattle.mi_key.specs.declared.entries.Entry.{Entry}
use Rattle.mi_latch.specs.declared.slots.Slot.TheVariants.{OfBoard, OfPage, OfShard}
use Rattle.mi_latch.specs.Boards.{Telling, seeing}
use Rattle.mi_latch.specs.Decided.{SameCause}
use Rattle.mi_latch.specs.Found.{FoundBoard}
use Rattle.mi_latch.specs.Naming.{names_of}
use Rattle.mi_latch.specs.Shows.{HasKey}
use Rattle.mi_latch.specs.Takes.{Finds, see_none, took}
use Rattle.mi_latch.specs.Views.{Doing, HoldsLast, Seated, Sight, now}
use Rattle.mi_latch.proofs.CommitSections.{insert_gives, meet_gives, refuse_at_gives}
use Rattle.mi_page.specs.Entries.{without_dead}
use Rattle.mi_page.specs.Nodes.{Node, item_count}
use Rattle.mi_page.specs.Routes.{IsChild}
use Rattle.mi_solo.specs.declared.rows.ActorRow.{ActorRow}
use Rattle.mi_solo.specs.Seeking.{EndsAfter, PointsDown, PointsRight}
use Rattle.mi_solo.specs.States.{actor_of}
use Rattle.mi_solo.specs.Viewing.{shown_to}
use Rattle.mi_solo.proofs.CommitEvents.{held_leaf}
use Rattle.mi_solo.proofs.DescentLemmas.{shows_page}
use Rattle.mi_solo.proofs.InsertSection.{made_mine}
use Rattle.mi_solo.proofs.KeyLemmas.{claim_fits, insert_fits}
use Rattle.mi_world.specs.declared.answers.Commit.{Commit}
use Rattle.mi_world.specs.declared.answers.Commit.TheVariants as commit
use Rattle.mi_world.specs.LeafKeys.{key_under}
use Rattle.mi_world.specs.Pages.{CommitsInsert, MayInsert, MaySeek, insert_key, next_number}
use Rattle.mi_world.specs.View.{View, prefix_or}
use Rattle.mi_solo.specs.CommitRows.{InsertsRow, IsMade, MayEnter, OnlyMeets, PutsEntry, key_in_row, next_birth}
use Rattle.mi_hall.specs.CommitRows.{giving_beside}
use Rattle.mi_hall.specs.Knowledge.{is_named}
use Rattle.mi_hall.specs.Passes.{IsPass, turning}
use Rattle.mi_hall.specs.Places.{BothMake, IsBacked}
use Rattle.mi_hall.specs.Seats.{seat_view}
use Rattle.mi_hall.proofs.CommitPasses.{Commits, Keeps, back, ended_tells, ends, found, has_rows, here, holds_both, holds_commit, in_hand, its_settings, outs_are, row_there, shard_near, telling, tells}
use Rattle.mi_hall.proofs.CommitPlaces.{inserts_crowded_seated, inserts_down_seated, inserts_full_seated, inserts_page_full_seated, inserts_right_seated, inserts_seated}
use Rattle.mi_solo.proofs.InsertRow.{may_enter}
use Rattle.mi_hall.proofs.KnowledgeLemmas.{first_named}
use Rattle.mi_hall.proofs.NamedPages.{names_after, names_child}
use Rattle.mi_hall.proofs.PageSection as section
use Rattle.mi_hall.proofs.SeatConditions.{insert_seated, seek_seated}

-- the page is above the leaf pages: the way of the key goes on at one of its children
module _ (settings : Configuration) (old m : Seated) (page : ℕ) (had : Node) (a : ℕ) (row : ActorRow) (rows : Option Rows) (told : Bool) (p : IsPass old a row rows told) (is : m ≡ took see_none old (page + 17) (OfPage had))
    (f : Finds settings old.0 (page + 17) (OfPage had)) (id : ℕ) (vector : List ℤ) (dists : List ℕ) (may : MayInsert (seat_view old.0) id vector dists) (seeks : MaySeek (seat_view old.0) page dists id) where
  abbrev r : Actor
  r = old.0.mine.part

  backed : IsBacked f.core old.0
  backed = section.backed settings old m page had a row rows told p is f

  page_at : node_at f.core.pages page ≡ Some had
  page_at = section.here settings old m page had a row rows told p is f

  claim_is : old.0.mine.part.claim ≡ row.claim
  claim_is = ap (λ (z : Actor). z.claim) p.row_is

  may_there : MayInsert (shown_to f.core old.0.actor old.0.mine.part) id vector dists
  may_there = insert_seated id vector dists f.core old.0 backed may

  pub down_claims : IsSome row.claim
  down_claims = let held = held_leaf (permutation_of dists) r.claim may_there.leaf in subst IsSome (sym (sym claim_is ∙ held.1)) refl

  pub down_fits : (q : List ℕ) → row.claim ≡ Some q → (length q ≤ settings.levels) × (all_below (length settings.pivots) q ≡ true)
  down_fits q e = subst (λ (c : Configuration). (length q ≤ c.levels) × (all_below (length c.pivots) q ≡ true)) f.held.same (claim_fits f.core f.held.kept old.0.actor r backed.fits.part q (claim_is ∙ e))

  pub down_distance : key_distance dists < 2 ^ 27
  down_distance = (insert_fits f.core f.held.kept old.0.actor r backed.fits.part id vector dists may_there).0

  pub down_low : 0 < had.level → had.low ≤ key_in_row settings row dists id 0
  down_low high =
      let shows = shows_page f.core old.0.actor r page had page_at in
      let low = (seek_seated page dists id f.core old.0 backed seeks).above (omega (arith, high, shows.level)) in
      let key : insert_key (shown_to f.core old.0.actor old.0.mine.part) dists id 0 ≡ key_in_row settings row dists id 0 =
      ap (λ (c : Configuration). key_under c (prefix_or r.claim) (key_distance dists) id 0) f.held.same ∙ ap (λ (o : Option (List ℕ)). key_under settings (prefix_or o) (key_distance dists) id 0) claim_is in
      omega (arith, low, key, shows.low)

  pub down_told : (new : Seated) (made : ActorRow) (n : Node) → new ≡ (turning m.0 made n, rest m.1) → made ≡ record row { page = page } → n ≡ had → (op child : ℕ) → 0 < had.level → IsChild (key_in_row settings row dists id 0) had.routes child
      → CommitsInsert (seat_view old.0) (seat_view new.0) page op id vector dists (commit.Down child)
  down_told new made n gave row_is same op child high route =
      let key : key_in_row settings row dists id 0 ≡ insert_key (seat_view old.0) dists id 0 =
      ap (λ (o : Option (List ℕ)). key_under settings (prefix_or o) (key_distance dists) id 0) (sym claim_is)
      ∙ ap (λ (c : Configuration). key_under c (prefix_or r.claim) (key_distance dists) id 0) (sym f.held.same ∙ backed.fits.knows.note.settings) in
      let points : PointsDown had 0 (insert_key (seat_view old.0) dists id 0) child = subst (λ k. PointsDown had 0 k child) key (record { above = high; route = route }) in
      section.noted_tells settings old m page had a row rows told p is f new made n gave
      (λ c v w. IsTrue (v.named page) → ((i : ℕ) → Some child ≡ Some i → IsTrue (w.named i)) → node_at c.pages page ≡ Some had → PointsDown had 0 (insert_key v dists id 0) child → CommitsInsert v w page op id vector dists (commit.Down child))
      (inserts_down_seated page op id had vector dists child) row_is same seeks.named
      (λ i e. section.turn_names settings old m page had a row rows told p is f new made n gave i (subst (λ z. IsTrue (is_named (names_of had) z)) (same_Some child i e) (names_child had (key_in_row settings row dists id 0) child route)))
      page_at points

-- the page is a leaf page: the board decides
module _ (settings : Configuration) (start : Seated) (page : ℕ) (had : Node) (b : BoardState) (a : ℕ) (row : ActorRow) (x : Rows) (told : Bool) (id : ℕ) (p : IsPass start a row (Some x) told) (holds : start.0.mine.part.shard ≡ Some (home id))
    (f : Finds settings (took see_none start (page + 17) (OfPage had)).0 0 (OfBoard b)) (apart : HasKey start.0.out (page + 17) → ⊥)
    (vector : List ℤ) (dists : List ℕ) (may : MayInsert (seat_view start.0) id vector dists) (seeks : MaySeek (seat_view start.0) page dists id) where
  abbrev i : ℕ
  i = start.0.actor

  abbrev part : Actor
  part = start.0.mine.part

  abbrev whole : Seated
  whole = took see_none (took see_none start (page + 17) (OfPage had)) 0 (OfBoard b)

  abbrev pub at : FoundBoard settings start.0.actor start.0.mine ((page + 17, OfPage had) ∷ start.0.out) b
  at = found settings start page had b a row x told (home id) p holds f apart

  -- the event of the give of the board, and what it leaves; and what the row and the page keep
  abbrev pub Leaves : BoardState → Node → Rows → ActorRow → Event → Type 0
  Leaves board n kept made = Commits settings start page had b a row x told (home id) p holds f apart board n kept made

  abbrev pub Stays : BoardState → Node → Rows → ActorRow → Type 0
  Stays board n kept made = Keeps settings start page had b a row x told (home id) p holds f apart board n kept made

  -- the seat after both gives
  abbrev pub final : BoardState → Node → Rows → ActorRow → Sight
  final board n kept made = ends settings start page had b a row x told (home id) p holds f apart board n kept made

  abbrev pub tells_of : Actor → Node → Telling
  tells_of q n = telling settings start page had b a row x told (home id) p holds f apart q n

  pub page_there : node_at at.core.pages page ≡ Some had
  page_there = here settings start page had b a row x told (home id) p holds f apart

  row_of : start.0.mine.part ≡ actor_of b.settings b.log start.0.actor row
  row_of = row_there settings start page had b a row x told (home id) p holds f apart

  pub claimed : start.0.mine.part.claim ≡ row.claim
  claimed = ap (λ (z : Actor). z.claim) p.row_is

  abbrev pub may_hand : id < 2 ^ 40 → had.level ≡ 0 → MayEnter start.0.actor page id vector dists b had x row
  may_hand small leaf =
      let known = back settings start page had b a row x told (home id) p holds f apart in
      let shows = shows_page at.core i part page had page_there in
      let low = (seek_seated page dists id at.core start.0 known seeks).at_leaf (shows.level ∙ leaf) in
      let key : insert_key (shown_to at.core i part) dists id (next_number (shown_to at.core i part)) ≡ key_in_row b.settings row dists id (next_birth b) =
      ap (λ (z : BoardState). key_under z.settings (prefix_or part.claim) (key_distance dists) id (length (updates_of z.log) + 1)) at.board
      ∙ ap (λ (o : Option (List ℕ)). key_under b.settings (prefix_or o) (key_distance dists) id (next_birth b)) claimed in
      record {
        hand = in_hand settings start page had b a row x told (home id) p holds f apart;
        small = small;
        may = insert_seated id vector dists at.core start.0 known may;
        leaf = leaf;
        low = omega (arith, low, key, shows.low);
      }

  module _ (board : BoardState) (n : Node) (kept : Rows) (made : ActorRow) where
    -- what comes of a section at whose end the board, the page and the rows are as they were
    meets_keeps : OnlyMeets page b had x row board n kept made → Stays board n kept made
    meets_keeps d = record { noted_is = ap (λ (z : ActorRow). z.page) d.row_is; shard_is = ap (λ (z : ActorRow). z.shard) d.row_is; fresh_is = ap (λ (z : ActorRow). z.hand.fresh) d.row_is; names_are = ap names_of d.page_is }

    meets_tie : OnlyMeets page b had x row board n kept made → noted page (saw b start.0.mine.part) ≡ actor_of board.settings board.log start.0.actor made
    meets_tie d = ap (λ (z : Actor). noted page (saw b z)) row_of
        ∙ ap (actor_of b.settings b.log i) (sym d.row_is) ∙ ap (λ (z : BoardState). actor_of z.settings z.log i made) (sym d.board_is)

    meets_as : OnlyMeets page b had x row board n kept made → (e : Event) → Can at.core start.0.actor start.0.mine.part e
        → (after at.core start.0.actor start.0.mine.part e).actors
        ≡ slice_set at.core.actors start.0.actor (noted page (saw at.core.board start.0.mine.part))
        → (after at.core start.0.actor start.0.mine.part e).board ≡ at.core.board
        → (after at.core start.0.actor start.0.mine.part e).pages ≡ at.core.pages
        → (after at.core start.0.actor start.0.mine.part e).shards ≡ at.core.shards
        → Leaves board n kept made e
    meets_as d e can acts same pages shards =
        record {
          can = can;
          actor_is = ap (λ l. slice_get l i) acts ∙ set_there at.core.actors i (noted page (saw at.core.board part)) part at.fits.part
              ∙ ap (λ (z : BoardState). Some (noted page (saw z part))) at.board ∙ ap Some (meets_tie d);
          board_is = same ∙ at.board ∙ sym d.board_is;
          page_is = ap (λ l. node_at l page) pages ∙ page_there ∙ ap Some (sym d.page_is);
          rows_are = ap (λ l. (shard_at l (home id)).rows) shards ∙ has_rows settings start page had b a row x told (home id) p holds f apart ∙ sym d.rows_are;
        }

    -- the give of the board is then one of a pass with this row
    meets_does : OnlyMeets page b had x row board n kept made
        → Doing settings whole.0 (now whole.0 (seeing (noted page (saw b start.0.mine.part)) b (tells_of (actor_of b.settings b.log start.0.actor made) had) start.0.mine) ((page + 17, OfPage had) ∷ start.0.out)) 0 (OfBoard b)
        → Doing settings whole.0 (giving_beside whole.0 made board page n (home id) kept) 0 (OfBoard board)
    meets_does d does =
        let q : Actor = actor_of b.settings b.log i made in
        let outs : start.0.out ≡ (home id + 1, OfShard x) ∷ [] = outs_are settings start page had b a row x told (home id) p holds f apart in
        let tie : noted page (saw b part) ≡ q = meets_tie d ∙ ap (λ (y : BoardState). actor_of y.settings y.log i made) d.board_is in
        subst (λ (y : BoardState). Doing settings whole.0 (giving_beside whole.0 made y page n (home id) kept) 0 (OfBoard y)) (sym d.board_is)
        (subst (λ (y : Rows). Doing settings whole.0 (giving_beside whole.0 made b page n (home id) y) 0 (OfBoard b)) (sym d.rows_are)
        (subst (λ (y : Node). Doing settings whole.0 (giving_beside whole.0 made b page y (home id) x) 0 (OfBoard b)) (sym d.page_is)
        (subst (λ (y : Actor). Doing settings whole.0 (now whole.0 (seeing y b (tells_of q had) start.0.mine) ((page + 17, OfPage had) ∷ (home id + 1, OfShard x) ∷ [])) 0 (OfBoard b)) tie
        (subst (λ o. Doing settings whole.0 (now whole.0 (seeing (noted page (saw b part)) b (tells_of q had) start.0.mine) ((page + 17, OfPage had) ∷ o)) 0 (OfBoard b)) outs does))))

    -- an insert that goes right, and ones that are refused
    meets_event : OnlyMeets page b had x row board n kept made → Leaves board n kept made (meet page)
    meets_event d = meets_as d (meet page) (had, page_there) refl refl refl refl

    full_can : length (updates_of b.log) ≡ b.settings.updates → Can at.core start.0.actor start.0.mine.part (refuse_at page full)
    full_can many = ((had, page_there), subst (λ (y : BoardState). length (updates_of y.log) ≡ y.settings.updates) (sym at.board) many)

    crowded_can : crowded_at b ((grid b.settings).perm vector) ≡ true → Can at.core start.0.actor start.0.mine.part (refuse_at page (crowded vector))
    crowded_can many = ((had, page_there), subst (λ (y : BoardState). crowded_at y ((grid y.settings).perm vector) ≡ true) (sym at.board) many)

    floor_is : row.floor.updates ≡ start.0.mine.part.floor.updates
    floor_is = ap (λ (y : Actor). y.floor.updates) (sym p.row_is)

    whole_can : item_count (trim_leaf row.floor.updates had) ≡ 32 → Can at.core start.0.actor start.0.mine.part (refuse_at page (page_full page))
    whole_can many = ((had, page_there), record { node = had; there = page_there; items = subst (λ u. item_count (trim_leaf u had) ≡ 32) floor_is many })

    goes_right : OnlyMeets page b had x row board n kept made → HoldsLast whole 0 (OfBoard b) → Doing settings whole.0 (giving_beside whole.0 made board page n (home id) kept) 0 (OfBoard board)
    goes_right d last = meets_does d (meet_gives settings whole b at (tells_of (actor_of b.settings b.log i made) had) page had start.0.out
        (holds_both settings start page had b a row x told (home id) p holds f apart last) (tells settings start page had b a row x told (home id) p holds f apart (actor_of b.settings b.log i made) had b))

    is_refused : OnlyMeets page b had x row board n kept made → HoldsLast whole 0 (OfBoard b) → (why : Refusal) → Can at.core start.0.actor start.0.mine.part (refuse_at page why)
        → ((c : State) → node_at c.pages page ≡ Some had → SameCause why at.core c) → Doing settings whole.0 (giving_beside whole.0 made board page n (home id) kept) 0 (OfBoard board)
    is_refused d last why can cause = meets_does d (refuse_at_gives settings whole b at (tells_of (actor_of b.settings b.log i made) had) page had start.0.out
        (holds_both settings start page had b a row x told (home id) p holds f apart last) why can cause (tells settings start page had b a row x told (home id) p holds f apart (actor_of b.settings b.log i made) had b))

    -- an insert that is entered
    module _ (op : ℕ) (e : Entry) (can : CanInsert at.core start.0.mine.part id page had x e) (d : PutsEntry start.0.actor op id page e b had x row board n kept made) where
      abbrev more : BoardState
      more = with_update start.0.actor op (Insert id e.vector) b

      abbrev put : Node
      put = put_entry start.0.mine.part.floor.updates e had

      abbrev left : Rows
      left = with_record (record { id = id; birth = e.birth; dists = e.dists.items }) x

      abbrev at_last : BoardState → ActorRow
      at_last y = record row { seen = length y.log; reserved = false; reserved_here = false; page = page }

      put_is : n ≡ put_entry start.0.mine.part.floor.updates e had
      put_is = d.page_is ∙ ap (λ u. put_entry u e had) floor_is

      done_tie : committed (with_update start.0.actor op (Insert id e.vector) b) start.0.actor op (Insert id e.vector) page start.0.mine.part
          ≡ actor_of (with_update start.0.actor op (Insert id e.vector) b).settings (with_update start.0.actor op (Insert id e.vector) b).log start.0.actor made
      done_tie = ap (committed more i op (Insert id e.vector) page) row_of
          ∙ ap (λ (own : List Entered). record (actor_of more.settings more.log i (at_last more)) { own = own }) (sym (made_mine b.log i op (Insert id e.vector)))
          ∙ ap (actor_of more.settings more.log i) (sym (d.row_is ∙ ap at_last d.board_is))

      done_keeps : Stays board n kept made
      done_keeps = record { noted_is = ap (λ (y : ActorRow). y.page) d.row_is; shard_is = ap (λ (y : ActorRow). y.shard) d.row_is; fresh_is = ap (λ (y : ActorRow). y.hand.fresh) d.row_is; names_are = ap names_of d.page_is }

      done_event : Leaves board n kept made (insert op id page had x e)
      done_event =
          let whom : BoardState → Actor = λ y. committed (with_update i op (Insert id e.vector) y) i op (Insert id e.vector) page part in
          record {
            can = can;
            actor_is = set_there at.core.actors i (whom at.core.board) part at.fits.part ∙ ap (λ y. Some (whom y)) at.board ∙ ap Some done_tie ∙ ap (λ (y : BoardState). Some (actor_of y.settings y.log i made)) (sym d.board_is);
            board_is = ap (with_update i op (Insert id e.vector)) at.board ∙ sym d.board_is;
            page_is = get_or-set_same at.core.pages page (Some put) None (within at.core.pages page had page_there) ∙ ap Some (sym put_is);
            rows_are = ap (λ (y : Shard). y.rows) (get_or-set_same at.core.shards (home id) (held_by (Some i) left) no_shard (shard_near settings start page had b a row x told (home id) p holds f apart)) ∙ sym d.rows_are;
          }

      done_does : HoldsLast whole 0 (OfBoard b) → Doing settings whole.0 (giving_beside whole.0 made board page n (home id) kept) 0 (OfBoard board)
      done_does last =
          let q : Actor = actor_of more.settings more.log i made in
          subst (λ (y : BoardState). Doing settings whole.0 (giving_beside whole.0 made y page n (home id) kept) 0 (OfBoard y)) (sym d.board_is)
          (subst (λ (y : Rows). Doing settings whole.0 (giving_beside whole.0 made more page n (home id) y) 0 (OfBoard more)) (sym d.rows_are)
          (subst (λ (y : Node). Doing settings whole.0 (giving_beside whole.0 made more page y (home id) left) 0 (OfBoard more)) (sym put_is)
          (subst (λ (y : Actor). Doing settings whole.0 (now whole.0 (seeing y more (tells_of q put) start.0.mine) ((page + 17, OfPage put) ∷ (home id + 1, OfShard left) ∷ [])) 0 (OfBoard more)) done_tie
          (insert_gives settings whole b at (tells_of q put) op id page had x (holds_commit settings start page had b a row x told (home id) p holds f apart last) e can
          (tells settings start page had b a row x told (home id) p holds f apart q put more)))))

    module _ (op : ℕ) (leaf : had.level ≡ 0) (small : id < 2 ^ 40) where
      abbrev pub Made : Commit → Type 0
      Made answer = InsertsRow start.0.actor page op id (key_in_row b.settings row dists id (next_birth b)) vector dists answer b had x row board n kept made

      enters : (e : Entry) → IsMade (key_in_row b.settings row dists id (next_birth b)) (next_birth b) vector dists e → EndsAfter had 0 (key_in_row b.settings row dists id (next_birth b)) → HasRoom b → crowded_at b ((grid b.settings).perm vector) ≡ false
          → length (without_dead row.floor.updates had.entries) < 32 → CanInsert at.core start.0.mine.part id page had x e
      enters e is_made end room calm space = may_enter start.0.actor page id vector dists b had x row (may_hand small leaf) (key_in_row b.settings row dists id (next_birth b)) refl e is_made end room calm space

      pub inserts_keep : (answer : Commit) → Made answer → Stays board n kept made
      inserts_keep (commit.Down q) h = absurd h
      inserts_keep (commit.Right q) h = meets_keeps h.1
      inserts_keep (commit.Full limit) h = meets_keeps h.1.2
      inserts_keep commit.Crowded h = meets_keeps h.1.2
      inserts_keep commit.PageFull h = meets_keeps h.1.3
      inserts_keep (commit.Done number) h = done_keeps op h.1.3 (enters h.1.3 h.1.4 h.0 h.1.0 h.1.1 h.1.2) h.1.6

      does_so : (answer : Commit) → Made answer → HoldsLast whole 0 (OfBoard b) → Doing settings whole.0 (giving_beside whole.0 made board page n (home id) kept) 0 (OfBoard board)
      does_so (commit.Down q) h last = absurd h
      does_so (commit.Right q) h last = goes_right h.1 last
      does_so (commit.Full limit) h last = is_refused h.1.2 last full (full_can h.1.1) (λ c y. tt)
      does_so commit.Crowded h last = is_refused h.1.2 last (crowded vector) (crowded_can h.1.1) (λ c y. tt)
      does_so commit.PageFull h last = is_refused h.1.3 last (page_full page) (whole_can h.1.2) (λ c y. y ∙ sym page_there)
      does_so (commit.Done number) h last = done_does op h.1.3 (enters h.1.3 h.1.4 h.0 h.1.0 h.1.1 h.1.2) h.1.6 last

      pub inserts_does : (answer : Commit) → Made answer → (y : Seated) → y ≡ whole → HoldsLast y 0 (OfBoard b) → Doing settings y.0 (giving_beside y.0 made board page n (home id) kept) 0 (OfBoard board)
      inserts_does answer h y is last = subst (λ (w : Seated). Doing settings w.0 (giving_beside w.0 made board page n (home id) kept) 0 (OfBoard board)) (sym is) (does_so answer h (subst (λ w. HoldsLast w 0 (OfBoard b)) is last))

      pub inserts_leave : (answer : Commit) → Made answer → (e : Event) × Leaves board n kept made e
      inserts_leave (commit.Down q) h = absurd h
      inserts_leave (commit.Right q) h = (meet page, meets_event h.1)
      inserts_leave (commit.Full limit) h = (refuse_at page full, meets_as h.1.2 (refuse_at page full) (full_can h.1.1) refl refl refl refl)
      inserts_leave commit.Crowded h = (refuse_at page (crowded vector), meets_as h.1.2 (refuse_at page (crowded vector)) (crowded_can h.1.1) refl refl refl refl)
      inserts_leave commit.PageFull h = (refuse_at page (page_full page), meets_as h.1.3 (refuse_at page (page_full page)) (whole_can h.1.2) refl refl refl refl)
      inserts_leave (commit.Done number) h = (insert op id page had x h.1.3, done_event op h.1.3 (enters h.1.3 h.1.4 h.0 h.1.0 h.1.1 h.1.2) h.1.6)

      -- the key that it sought, as the seat's view has it
      key_seen : key_in_row b.settings row dists id (next_birth b) ≡ insert_key (seat_view start.0) dists id (length (updates_of at.core.board.log) + 1)
      key_seen = ap (λ (y : BoardState). key_in_row b.settings row dists id (length (updates_of y.log) + 1)) (sym at.board)
          ∙ ap (λ (c : Configuration). key_in_row c row dists id (length (updates_of at.core.board.log) + 1)) (its_settings settings start page had b a row x told (home id) p holds f apart)
          ∙ ap (λ (o : Option (List ℕ)). key_under start.0.mine.note.board.settings (prefix_or o) (key_distance dists) id (length (updates_of at.core.board.log) + 1)) (sym claimed)

      on_found : (P : BoardState → Type 0) → P b → P at.core.board
      on_found P = subst P (sym at.board)

      module _ (new : Seated) (is : new ≡ (final board n kept made, start.1)) where
        told_by : Stays board n kept made → (e : Event) → Leaves board n kept made e → (rel : State → View → View → Type 0) → BothMake e rel → rel at.core (seat_view start.0) (seat_view new.0)
        told_by keeps e leaves rel law = ended_tells settings start page had b a row x told (home id) p holds f apart board n kept made e leaves keeps rel law new is

        pub inserts_told : (answer : Commit) → Made answer → CommitsInsert (seat_view start.0) (seat_view new.0) page op id vector dists answer
        inserts_told (commit.Down q) h = absurd h
        inserts_told (commit.Right q) h = told_by (meets_keeps h.1) (meet page) (meets_event h.1)
            (λ c v w. IsTrue (v.named page) → ((j : ℕ) → Some q ≡ Some j → IsTrue (w.named j)) → node_at c.pages page ≡ Some had → PointsRight had 0 (insert_key v dists id (length (updates_of c.board.log) + 1)) q → CommitsInsert v w page op id vector dists (commit.Right q))
            (inserts_right_seated page op id had vector dists q) seeks.named
            (λ j e. subst (λ (y : Seated). IsTrue ((seat_view y.0).named j)) (sym is) (first_named (names_of n) start.0.mine.named j
            (subst (λ names. IsTrue (is_named names j)) (sym (ap names_of h.1.page_is)) (subst (λ y. IsTrue (is_named (names_of had) y)) (same_Some q j e) (names_after had _ q h.0.ends)))))
            page_there (subst (λ y. PointsRight had 0 y q) key_seen h.0)
        inserts_told (commit.Full limit) h = subst (λ y. CommitsInsert (seat_view start.0) (seat_view new.0) page op id vector dists (commit.Full y)) (ap (λ (y : BoardState). y.settings.updates) at.board ∙ sym h.1.0)
            (told_by (meets_keeps h.1.2) (refuse_at page full) (meets_as h.1.2 (refuse_at page full) (full_can h.1.1) refl refl refl refl)
            (λ c v w. IsTrue (v.named page) → node_at c.pages page ≡ Some had → EndsAfter had 0 (insert_key v dists id (length (updates_of c.board.log) + 1)) → CommitsInsert v w page op id vector dists (commit.Full c.board.settings.updates))
            (inserts_full_seated page op id had vector dists) seeks.named page_there (subst (EndsAfter had 0) key_seen h.0))
        inserts_told commit.Crowded h = told_by (meets_keeps h.1.2) (refuse_at page (crowded vector)) (meets_as h.1.2 (refuse_at page (crowded vector)) (crowded_can h.1.1) refl refl refl refl)
            (λ c v w. IsTrue (v.named page) → node_at c.pages page ≡ Some had → MayInsert v id vector dists → EndsAfter had 0 (insert_key v dists id (length (updates_of c.board.log) + 1)) → HasRoom c.board → CommitsInsert v w page op id vector dists commit.Crowded)
            (inserts_crowded_seated page op id had vector dists) seeks.named page_there may (subst (EndsAfter had 0) key_seen h.0) (on_found HasRoom h.1.0)
        inserts_told commit.PageFull h = told_by (meets_keeps h.1.3) (refuse_at page (page_full page)) (meets_as h.1.3 (refuse_at page (page_full page)) (whole_can h.1.2) refl refl refl refl)
            (λ c v w. IsTrue (v.named page) → node_at c.pages page ≡ Some had → MayInsert v id vector dists → EndsAfter had 0 (insert_key v dists id (length (updates_of c.board.log) + 1)) → HasRoom c.board → crowded_at c.board ((grid c.board.settings).perm vector) ≡ false → CommitsInsert v w page op id vector dists commit.PageFull)
            (inserts_page_full_seated page op id had vector dists) seeks.named page_there may (subst (EndsAfter had 0) key_seen h.0) (on_found HasRoom h.1.0)
            (on_found (λ y. crowded_at y ((grid y.settings).perm vector) ≡ false) h.1.1)
        inserts_told (commit.Done number) h =
            let e : Entry = h.1.3 in
            let can : CanInsert at.core part id page had x e = enters e h.1.4 h.0 h.1.0 h.1.1 h.1.2 in
            subst (λ y. CommitsInsert (seat_view start.0) (seat_view new.0) page op id y dists (commit.Done number)) h.1.4.vector_is
            (subst (λ y. CommitsInsert (seat_view start.0) (seat_view new.0) page op id e.vector y (commit.Done number)) h.1.4.dists_are
            (subst (λ y. CommitsInsert (seat_view start.0) (seat_view new.0) page op id e.vector e.dists.items (commit.Done y)) (sym h.1.5)
            (told_by (done_keeps op e can h.1.6) (insert op id page had x e) (done_event op e can h.1.6)
            (λ c v w. IsTrue (v.named page) → CommitsInsert v w page op id e.vector e.dists.items (commit.Done e.birth)) (inserts_seated op id page had x e) seeks.named)))
