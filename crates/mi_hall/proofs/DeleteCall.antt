-- The commit of a delete by a pass.
use Rattle.std.proofs.Common.{◌≡◌, ℕ, ◌+◌, ◌≤◌, ◌<◌, ◌==◌, ◌^◌, List, [], ◌∷◌, Bool, true, cond, IsTrue, length, refl, sym, ap, ◌∙◌, subst, arith, eq-eqb, get_or-set_same, set, false, inl, Option, Some, None}
use Rattle.std.specs.List.{find}
use Rattle.std.proofs.lemmas.Option.{none-some, same_Some}
use Rattle.atomic_table.specs.Seated.{TableId}
use Rattle.atomic_table.specs.Table.{rest}
use Rattle.mi_base.specs.Configuration.{Configuration}
use Rattle.mi_base.specs.History.{Entered, updates_of}
use Rattle.mi_base.specs.Permutations.{key_distance, permutation_of}
use Rattle.mi_base.specs.Prefixes.{all_below}
use Rattle.mi_base.specs.declared.records.Update.TheVariants.{Delete}
use Rattle.mi_board.specs.Boards as board
use Rattle.mi_board.specs.Boards.{BoardState, HasRoom, MayCommit}
use Rattle.mi_core.specs.Effects.{committed, mark_entry, noted, saw, with_update}
use Rattle.mi_core.specs.Events.{Can, CanDelete}
use Rattle.mi_core.specs.Events.Event.{delete, refuse_at}
use Rattle.mi_core.specs.Refusals.Refusal.{full}
use Rattle.mi_core.specs.State.{State, node_at}
use Rattle.mi_core.proofs.PageLemmas.{within}
use Rattle.mi_entries.specs.Actors.{Actor}
use Rattle.mi_entries.specs.Records.{Rows, Shard, ShardRecord, held_by, home, no_shard, shard_at, without_id}
use Rattle.mi_latch.specs.declared.slots.Slot.{Slot}
use Rattle.mi_latch.specs.declared.slots.Slot.TheVariants.{OfBoard, OfPage, OfShard}
use Rattle.mi_latch.specs.Naming.{names_of}
use Rattle.mi_latch.specs.PageSteps.{items_for}
use Rattle.mi_latch.specs.Boards.{Telling}
use Rattle.mi_latch.specs.Found.{FoundBoard, MayTell}
use Rattle.mi_latch.specs.Takes.{Finds, see_none, took}
use Rattle.mi_latch.specs.Views.{Doing, HoldsLast, Seated, Sight}
use Rattle.mi_latch.proofs.CommitSections.{delete_gives, refuse_at_gives}
use Rattle.mi_page.specs.Nodes.{Node}
use Rattle.mi_solo.specs.declared.rows.ActorRow.{ActorRow}
use Rattle.mi_solo.specs.Seeking.{EndsAfter, PointsDown, PointsRight}
use Rattle.mi_solo.specs.States.{actor_of}
use Rattle.mi_solo.specs.Viewing.{record_shown, records_in, shown_to}
use Rattle.mi_solo.proofs.CanLemmas.{can_delete, delete_board, delete_commits, delete_living}
use Rattle.mi_solo.proofs.CommitEvents.{held_leaf}
use Rattle.mi_solo.proofs.DescentLemmas.{shows_page}
use Rattle.mi_solo.proofs.InsertSection.{made_mine}
use Rattle.mi_solo.proofs.KeyLemmas.{claim_fits, delete_fits}
use Rattle.mi_world.specs.declared.answers.Commit.{Commit}
use Rattle.mi_world.specs.declared.answers.Commit.TheVariants.{Crowded, Done, Down, Full, PageFull, Right}
use Rattle.mi_world.specs.declared.answers.Record.{Record}
use Rattle.mi_world.specs.Pages.{CommitsDelete, MayDelete, delete_key, key_of_record}
use Rattle.mi_world.specs.View.{View}
use Rattle.mi_hall.specs.Commits.{DeletesRow, FitsKey, MayEnterDelete, SeeksRow, commits_to, committing}
use Rattle.mi_hall.specs.Knowledge.{is_named}
use Rattle.mi_hall.specs.Passes.{HasCells, HasOut, IsPass, PassState, turning}
use Rattle.mi_hall.specs.Places.{IsBacked}
use Rattle.mi_hall.specs.Seats.{records_out, rows_out, seat_view}
use Rattle.mi_hall.proofs.CommitGives.{TakenBoth, both, both_backs, commit_cells, commit_gives, commit_tells, found_both, holds_both, holds_commit, near_shard, page_here, row_there, rows_here, shard_out}
use Rattle.mi_hall.proofs.CommitPlaces.{deletes_down_seated, deletes_full_seated, deletes_right_seated, deletes_seated}
use Rattle.mi_hall.proofs.NamedPages.{names_after, names_child}
use Rattle.mi_hall.proofs.PageSection.{backed, here, noted_does, noted_tells, turn_names}
use Rattle.mi_hall.proofs.SeatConditions.{delete_seated, low_seated, seat_backed}

-- who shows a record has it
record_from : (o : Option ShardRecord) (x : Record) → record_shown o ≡ Some x → (y : ShardRecord) × (o ≡ Some y) × (x ≡ record { birth = y.birth; dists = record { items = y.dists } })
record_from None x h = absurd (none-some x h)
record_from (Some y) x h = (y, refl, sym (same_Some (record { birth = y.birth; dists = record { items = y.dists } }) x h))

-- the work leaves the shard in hand, the pin and the fresh page
pub seeks_row : (page key : ℕ) (n : Node) (row made : ActorRow) (answer : Commit) → SeeksRow page key n row (Some answer) made → made ≡ record row { page = page }
seeks_row page key n row made (Down q) d = d.1
seeks_row page key n row made (Right q) d = d.1
seeks_row page key n row made (Full limit) d = absurd d
seeks_row page key n row made Crowded d = absurd d
seeks_row page key n row made PageFull d = absurd d
seeks_row page key n row made (Done number) d = absurd d

pub record KeepsRow (row made : ActorRow) : Type 0 where
  pub shard : made.shard ≡ row.shard
  pub fresh : made.hand.fresh ≡ row.hand.fresh

pub deletes_keep : (a page op id key : ℕ) (b board : BoardState) (n new : Node) (x left : Rows) (row made : ActorRow) (answer : Commit) → DeletesRow a page op id key b n x row answer board new left made → KeepsRow row made
deletes_keep a page op id key b board n new x left row made (Full limit) d = record { shard = ap (λ (z : ActorRow). z.shard) d.1.row_is; fresh = ap (λ (z : ActorRow). z.hand.fresh) d.1.row_is }
deletes_keep a page op id key b board n new x left row made (Done number) d = record { shard = ap (λ (z : ActorRow). z.shard) d.row_is; fresh = ap (λ (z : ActorRow). z.hand.fresh) d.row_is }
deletes_keep a page op id key b board n new x left row made (Down q) d = absurd d
deletes_keep a page op id key b board n new x left row made (Right q) d = absurd d
deletes_keep a page op id key b board n new x left row made Crowded d = absurd d
deletes_keep a page op id key b board n new x left row made PageFull d = absurd d

-- what the call needs of its pass, as its seat has it
pub record Asks (old : Seated) (page id key : ℕ) : Type 0 where
  pub ready : MayDelete (seat_view old.0) id
  pub named : IsTrue ((seat_view old.0).named page)
  pub low : (seat_view old.0).low page ≤ delete_key (seat_view old.0) id
  pub key_is : key ≡ delete_key (seat_view old.0) id

-- as the pass tells it
pub asked : (old : Seated) (table : TableId) (was : PassState) → record { sight = old.0; table = table } ≡ was → (page id : ℕ) → MayDelete (seat_view was.sight) id → IsTrue ((seat_view was.sight).named page)
    → (seat_view was.sight).low page ≤ delete_key (seat_view was.sight) id → (key : ℕ) → key ≡ delete_key (seat_view old.0) id → Asks old page id key
asked old table was same page id ready named low key key_is =
    let sight : was.sight ≡ old.0 = ap (λ (z : PassState). z.sight) (sym same) in
    record {
      ready = subst (λ (z : Sight). MayDelete (seat_view z) id) sight ready;
      named = subst (λ (z : Sight). IsTrue ((seat_view z).named page)) sight named;
      low = subst (λ (z : Sight). (seat_view z).low page ≤ delete_key (seat_view z) id) sight low;
      key_is = key_is;
    }

-- so it is in a state that backs the seat
module _ (old : Seated) (page id key : ℕ) (s : Asks old page id key) (c : State) (back : IsBacked c old.0) where
  abbrev r : Actor
  r = old.0.mine.part

  abbrev v : View
  v = shown_to c old.0.actor old.0.mine.part

  pub may : MayDelete (shown_to c old.0.actor old.0.mine.part) id
  may = delete_seated id c old.0 back s.ready

  pub key_there : key ≡ delete_key (shown_to c old.0.actor old.0.mine.part) id
  key_there = s.key_is ∙ ap (λ z. delete_key z id) (seat_backed c old.0 back)

  pub low_there : (shown_to c old.0.actor old.0.mine.part).low page ≤ key
  low_there = (low_seated page key c old.0 back (s.named, subst (λ n. (seat_view old.0).low page ≤ n) (sym s.key_is) s.low)).1

  -- the shard in hand has the record
  pub kept_there : (x : Rows) → (shard_at c.shards (home id)).rows ≡ x → (y : ShardRecord) × (find (λ z. z.id == id) x.records ≡ Some y) × (may.kept ≡ record { birth = y.birth; dists = record { items = y.dists } })
  kept_there x is = record_from (find (λ z. z.id == id) x.records) may.kept
      (ap (λ (z : Rows). record_shown (find (λ y. y.id == id) z.records)) (sym is) ∙ sym (ap (λ o. records_in c.shards o id) may.shard) ∙ may.is)

-- the page is in hand
module _ (settings : Configuration) (old m : Seated) (page : ℕ) (had : Node) (a : ℕ) (row : ActorRow) (x : Rows) (told : Bool) (p : IsPass old a row (Some x) told) (is : m ≡ took see_none old (page + 17) (OfPage had))
    (f : Finds settings old.0 (page + 17) (OfPage had)) (id key : ℕ) (s : Asks old page id key) where
  abbrev part : Actor
  part = old.0.mine.part

  back : IsBacked f.core old.0
  back = backed settings old m page had a row (Some x) told p is f

  at_page : node_at f.core.pages page ≡ Some had
  at_page = here settings old m page had a row (Some x) told p is f

  rows_x : rows_out old.0.out (home id) ≡ x
  rows_x =
      let outs = subst (λ (o : Option ℕ). HasOut o (Some x) old.0.out old.1) s.ready.shard p.out in
      ap (λ o. rows_out o (home id)) outs.0 ∙ ap (λ z. cond z x no_shard.rows) (eq-eqb (home id + 1) (home id + 1) refl)

  rows_there : (shard_at f.core.shards (home id)).rows ≡ x
  rows_there = sym (back.rows (home id) s.ready.shard) ∙ rows_x

  -- its key fits into a key
  pub has_key : FitsKey settings row x id
  has_key =
      let ready = may old page id key s f.core back in
      let kept = kept_there old page id key s f.core back x rows_there in
      let leaf = held_leaf (permutation_of ready.kept.dists.items) old.0.mine.part.claim ready.leaf in
      let fits = claim_fits f.core f.held.kept old.0.actor part back.fits.part leaf.0 leaf.1 in
      let small = delete_fits f.core f.held.kept old.0.actor part back.fits.part id ready in
      record {
        leaf = leaf.0;
        claim = sym (ap (λ (z : Actor). z.claim) p.row_is) ∙ leaf.1;
        depth = subst (λ (c : Configuration). length leaf.0 ≤ c.levels) f.held.same fits.0;
        pivots = subst (λ (c : Configuration). all_below (length c.pivots) leaf.0 ≡ true) f.held.same fits.1;
        has = kept.0;
        found = kept.1;
        distance = subst (λ (z : Record). key_distance z.dists.items < 2 ^ 27) kept.2 small.0;
        birth = subst (λ (z : Record). z.birth < 2 ^ 30) kept.2 small.1;
      }

  -- and is the one that is sought
  pub key_sought : key_of_record settings row.claim id (record_shown (find (λ y. y.id == id) x.records)) ≡ delete_key (seat_view old.0) id
  key_sought =
      let c : Configuration = old.0.mine.note.board.settings in
      let shown : Option Record = record_shown (find (λ y. y.id == id) x.records) in
      let same : settings ≡ old.0.mine.note.board.settings = sym f.held.same ∙ back.fits.knows.note.settings in
      ap (λ z. key_of_record z row.claim id shown) same ∙ ap (λ z. key_of_record c z id shown) (sym (ap (λ (z : Actor). z.claim) p.row_is))
      ∙ ap (key_of_record c old.0.mine.part.claim id) (sym (ap (λ o. records_out old.0.out o id) s.ready.shard ∙ ap (λ (z : Rows). record_shown (find (λ y. y.id == id) z.records)) rows_x))

  pub asks_of : (given : Configuration) → given ≡ settings → (found : ℕ) → found ≡ key_of_record given row.claim id (record_shown (find (λ y. y.id == id) x.records)) → Asks old page id found
  asks_of given same found found_is = record {
    ready = s.ready;
    named = s.named;
    low = s.low;
    key_is = found_is ∙ ap (λ z. key_of_record z row.claim id (record_shown (find (λ y. y.id == id) x.records))) same ∙ key_sought;
  }

  pub seek_low : had.low ≤ key
  seek_low =
      let shows = shows_page f.core old.0.actor part page had at_page in
      let low = low_there old page id key s f.core back in
      omega (arith, shows.low, low)

  -- the key lies elsewhere
  module _ (made : ActorRow) where
    pub seeks_does : (answer : Commit) → SeeksRow page key had row (Some answer) made → HoldsLast m (page + 17) (OfPage had) → Doing settings m.0 (turning m.0 made had) (page + 17) (OfPage had)
    seeks_does answer d last = noted_does settings old m page had a row (Some x) told p is f made (seeks_row page key had row made answer d) had refl last

    module _ (new : Seated) (gave : new ≡ (turning m.0 made had, rest m.1)) (op : ℕ) where
      names : (q : ℕ) → IsTrue (is_named (names_of had) q) → (i : ℕ) → Some q ≡ Some i → IsTrue ((seat_view new.0).named i)
      names q h i e = turn_names settings old m page had a row (Some x) told p is f new made had gave i (subst (λ z. IsTrue (is_named (names_of had) z)) (same_Some q i e) h)

      pub seeks_told : (answer : Commit) → SeeksRow page key had row (Some answer) made → CommitsDelete (seat_view old.0) (seat_view new.0) page op id answer
      seeks_told (Down q) d = noted_tells settings old m page had a row (Some x) told p is f new made had gave
          (λ c v w. IsTrue (v.named page) → ((i : ℕ) → Some q ≡ Some i → IsTrue (w.named i)) → node_at c.pages page ≡ Some had → PointsDown had 0 (delete_key v id) q → CommitsDelete v w page op id (Down q))
          (deletes_down_seated page op id had q) d.1 refl s.named (names q (names_child had key q d.0.route)) at_page (subst (λ n. PointsDown had 0 n q) s.key_is d.0)
      seeks_told (Right q) d = noted_tells settings old m page had a row (Some x) told p is f new made had gave
          (λ c v w. IsTrue (v.named page) → ((i : ℕ) → Some q ≡ Some i → IsTrue (w.named i)) → node_at c.pages page ≡ Some had → PointsRight had 0 (delete_key v id) q → CommitsDelete v w page op id (Right q))
          (deletes_right_seated page op id had q) d.1 refl s.named (names q (names_after had key q d.0.ends)) at_page (subst (λ n. PointsRight had 0 n q) s.key_is d.0)
      seeks_told (Full limit) d = absurd d
      seeks_told Crowded d = absurd d
      seeks_told PageFull d = absurd d
      seeks_told (Done number) d = absurd d

-- the board is in hand beside it, and the key lies in the page
module _ (settings : Configuration) (start m : Seated) (page : ℕ) (had : Node) (b : BoardState) (a : ℕ) (row : ActorRow) (x : Rows) (told : Bool) (p : IsPass start a row (Some x) told) (t : TakenBoth settings start m page had b)
    (id key : ℕ) (s : Asks start page id key) (ends : EndsAfter had 0 key) where
  abbrev mine : Actor
  mine = start.0.mine.part

  pub held : row.shard ≡ Some (home id)
  held = sym (ap (λ (z : Actor). z.shard) p.row_is) ∙ s.ready.shard

  abbrev fb : FoundBoard settings start.0.actor start.0.mine ((page + 17, OfPage had) ∷ start.0.out) b
  fb = found_both settings start m page (home id) had b a row x told p held t

  abbrev c : State
  c = fb.core

  on_page : node_at fb.core.pages page ≡ Some had
  on_page = page_here settings start m page (home id) had b a row x told p held t

  rows_in_shard : (shard_at fb.core.shards (home id)).rows ≡ x
  rows_in_shard = rows_here settings start m page (home id) had b a row x told p held t

  back_there : IsBacked fb.core start.0
  back_there = both_backs settings start m page (home id) had b a row x told p held t

  can_there : HasRoom b → CanDelete fb.core start.0.mine.part id page had x key
  can_there room =
      let v : View = shown_to c start.0.actor mine in
      let same = key_there start page id key s c back_there in
      subst (λ n. CanDelete c mine id page had x n) (sym same)
      (subst (λ z. CanDelete c mine id page had z (delete_key v id)) rows_in_shard
      (can_delete c fb.held.kept start.0.actor mine fb.fits.part page had on_page id (may start page id key s c back_there) (subst (λ n. v.low page ≤ n) same (low_there start page id key s c back_there)) (subst (EndsAfter had 0) same ends) (subst HasRoom (sym fb.board) room)))

  pub may_enter : MayEnterDelete start.0.actor id key b had x
  may_enter =
      let ready = may start page id key s c back_there in
      let kept = kept_there start page id key s c back_there x rows_in_shard in
      record {
        has = kept.0;
        found = kept.1;
        commits = subst (λ z. MayCommit z start.0.actor (permutation_of kept.0.dists)) fb.board
            (subst (λ (z : Record). MayCommit c.board start.0.actor (permutation_of z.dists.items)) kept.2 (delete_commits c fb.held.kept start.0.actor mine fb.fits.part id ready));
        object = subst (λ z. board.MayDelete z id (permutation_of kept.0.dists)) fb.board
            (subst (λ (z : Record). board.MayDelete c.board id (permutation_of z.dists.items)) kept.2 (delete_board c fb.held.kept start.0.actor mine fb.fits.part id ready));
        leaf = ends.level;
        living = λ room. delete_living c fb.held.kept start.0.actor mine fb.fits.part page had on_page id x key (can_there room);
      }

  module _ (op : ℕ) (made : ActorRow) (after_it : BoardState) (n : Node) (left : Rows) where
    -- what is told when the page is noted as n beside this record of the actor
    abbrev telling : Actor → Node → Telling
    telling q z = record { told = start.0.mine.told; names = []; high = z.high; items = items_for q z }

    tells : (z : BoardState) (q : Actor) (y : Node) → MayTell start.0.actor start.0.mine b z (telling q y)
    tells z q y = record { told = λ h. inl h; named = λ i k fits e w one. absurd one }

    abbrev Gives : BoardState → Node → Rows → Type 0
    Gives z y w = Doing settings m.0 (committing m.0 made z page y (home id) w) 0 (OfBoard z)

    -- the log is full
    module _ (limit : ℕ) (d : DeletesRow start.0.actor page op id key b had x row (Full limit) after_it n left made) where
      tie_full : noted page (saw b start.0.mine.part) ≡ actor_of b.settings b.log start.0.actor made
      tie_full = ap (λ q. noted page (saw b q)) (row_there settings start m page (home id) had b a row x told p held t) ∙ ap (actor_of b.settings b.log start.0.actor) (sym d.1.row_is)

      can_full : Can fb.core start.0.actor start.0.mine.part (refuse_at page full)
      can_full = ((had, on_page), subst (λ (z : BoardState). length (updates_of z.log) ≡ z.settings.updates) (sym fb.board) (d.0.1 ∙ d.0.0))

      full_does : Doing settings m.0 (committing m.0 made after_it page n (home id) left) 0 (OfBoard after_it)
      full_does =
          let q : Actor = noted page (saw b mine) in
          let more : List (ℕ × Slot) = start.0.out in
          let z : Seated = both settings start m page (home id) had b a row x told p held t in
          subst (λ y. Gives y n left) (sym d.1.board_is) (subst (λ y. Gives b y left) (sym d.1.same) (subst (λ y. Gives b had y) (sym d.1.rows_are)
          (commit_gives settings start m page (home id) had b a row x told p held t made b had x q ((page + 17, OfPage had) ∷ more) (ap (λ o. (page + 17, OfPage had) ∷ o) (shard_out settings start m page (home id) had b a row x told p held t)) tie_full
          (refuse_at_gives settings z b fb (telling q had) page had more (holds_both settings start m page (home id) had b a row x told p held t) full can_full (λ i e. tt) (tells b q had)))))

      tie_given : noted page (saw b start.0.mine.part) ≡ actor_of after_it.settings after_it.log start.0.actor made
      tie_given = tie_full ∙ ap (λ (z : BoardState). actor_of z.settings z.log start.0.actor made) (sym d.1.board_is)

      module _ (new : Seated) (gave : new ≡ (commits_to m.0 made after_it n (home id) left, rest (rest m.1))) where
        full_told : CommitsDelete (seat_view start.0) (seat_view new.0) page op id (Full limit)
        full_told =
            let law = commit_tells settings start m page (home id) had b a row x told p held t made after_it n left new gave (refuse_at page full) can_full (λ z. noted page (saw z mine)) (λ z. z) refl refl d.1.board_is tie_given
            (λ i v w. IsTrue (v.named page) → node_at i.pages page ≡ Some had → EndsAfter had 0 (delete_key v id) → CommitsDelete v w page op id (Full i.board.settings.updates)) (deletes_full_seated page op id had)
            (on_page ∙ ap Some (sym d.1.same)) (rows_in_shard ∙ sym d.1.rows_are) refl s.named on_page (subst (EndsAfter had 0) s.key_is ends) in
            subst (λ z. CommitsDelete (seat_view start.0) (seat_view new.0) page op id (Full z)) (ap (λ (z : BoardState). z.settings.updates) fb.board ∙ sym d.0.0) law

        full_cells : HasCells new.0.mine
        full_cells = commit_cells settings start m page (home id) had b a row x told p held t made after_it n left new gave (refuse_at page full) can_full (λ z. noted page (saw z mine)) (λ z. z) refl refl d.1.board_is tie_given

    -- the delete is entered
    module _ (number : ℕ) (d : DeletesRow start.0.actor page op id key b had x row (Done number) after_it n left made) where
      abbrev to : BoardState → BoardState
      to = with_update start.0.actor op (Delete id)

      abbrev entered : BoardState → Actor
      entered z = committed (to z) start.0.actor op (Delete id) page mine

      can_done : Can fb.core start.0.actor start.0.mine.part (delete op id page had x key)
      can_done = can_there d.room

      node_is : n ≡ mark_entry key (length (updates_of b.log) + 1) had
      node_is = d.marked ∙ ap (λ i. mark_entry key i had) d.number_is

      tie_done : committed (with_update start.0.actor op (Delete id) b) start.0.actor op (Delete id) page start.0.mine.part ≡ actor_of b.settings (with_update start.0.actor op (Delete id) b).log start.0.actor made
      tie_done =
          let now : BoardState = to b in
          let done_row : ℕ → ActorRow = λ i. record row { seen = i; reserved = false; reserved_here = false; page = page } in
          let with_own : List Entered → Actor = λ own. record (actor_of b.settings [] 0 (done_row (length now.log))) { own = own } in
          ap (committed now start.0.actor op (Delete id) page) (row_there settings start m page (home id) had b a row x told p held t)
          ∙ ap with_own (sym (made_mine b.log start.0.actor op (Delete id)))
          ∙ ap (actor_of b.settings now.log start.0.actor) (sym (d.row_is ∙ ap (λ (z : BoardState). done_row (length z.log)) d.board_is))

      done_does : Doing settings m.0 (committing m.0 made after_it page n (home id) left) 0 (OfBoard after_it)
      done_does =
          let q : Actor = entered b in
          let z : Seated = both settings start m page (home id) had b a row x told p held t in
          let new_node : Node = mark_entry key (length (updates_of b.log) + 1) had in
          let new_rows : Rows = without_id id x in
          subst (λ y. Gives y n left) (sym d.board_is) (subst (λ y. Gives (to b) y left) (sym node_is) (subst (λ y. Gives (to b) new_node y) (sym d.rows_are)
          (commit_gives settings start m page (home id) had b a row x told p held t made (to b) new_node new_rows q ((page + 17, OfPage new_node) ∷ (home id + 1, OfShard new_rows) ∷ []) refl tie_done
          (delete_gives settings z b fb (telling q new_node) op id page had x (holds_commit settings start m page (home id) had b a row x told p held t) key can_done (tells (to b) q new_node)))))

      tie_after : committed (with_update start.0.actor op (Delete id) b) start.0.actor op (Delete id) page start.0.mine.part ≡ actor_of after_it.settings after_it.log start.0.actor made
      tie_after = tie_done ∙ ap (λ (z : BoardState). actor_of z.settings z.log start.0.actor made) (sym d.board_is)

      module _ (new : Seated) (gave : new ≡ (commits_to m.0 made after_it n (home id) left, rest (rest m.1))) where
        done_told : CommitsDelete (seat_view start.0) (seat_view new.0) page op id (Done number)
        done_told =
            let marked : ℕ → Node = λ i. mark_entry key i had in
            let on : node_at (set c.pages page (Some (marked (length (updates_of c.board.log) + 1)))) page ≡ Some n =
            get_or-set_same c.pages page (Some (marked (length (updates_of c.board.log) + 1))) None (within c.pages page had on_page)
            ∙ ap (λ (z : BoardState). Some (marked (length (updates_of z.log) + 1))) fb.board ∙ ap Some (sym node_is) in
            let low : home id < length c.shards = let many = fb.held.kept.sound.sixteen in let near = near_shard settings start m page (home id) had b a row x told p held t in omega (arith, many, near) in
            let left_is : (shard_at (set c.shards (home id) (held_by (Some start.0.actor) (without_id id x))) (home id)).rows ≡ left =
            ap (λ (z : Shard). z.rows) (get_or-set_same c.shards (home id) (held_by (Some start.0.actor) (without_id id x)) no_shard low) ∙ sym d.rows_are in
            let law = commit_tells settings start m page (home id) had b a row x told p held t made after_it n left new gave (delete op id page had x key) can_done entered to refl refl d.board_is tie_after
            (λ i v w. IsTrue (v.named page) → CommitsDelete v w page op id (Done (length (updates_of i.board.log) + 1))) (deletes_seated op id page had x key) on left_is refl s.named in
            subst (λ z. CommitsDelete (seat_view start.0) (seat_view new.0) page op id (Done z)) (ap (λ (z : BoardState). length (updates_of z.log) + 1) fb.board ∙ sym d.number_is) law

        done_cells : HasCells new.0.mine
        done_cells = commit_cells settings start m page (home id) had b a row x told p held t made after_it n left new gave (delete op id page had x key) can_done entered to refl refl d.board_is tie_after

    -- each answer
    pub deletes_does : (answer : Commit) → DeletesRow start.0.actor page op id key b had x row answer after_it n left made → Doing settings m.0 (committing m.0 made after_it page n (home id) left) 0 (OfBoard after_it)
    deletes_does (Full limit) d = full_does limit d
    deletes_does (Done number) d = done_does number d
    deletes_does (Down q) d = absurd d
    deletes_does (Right q) d = absurd d
    deletes_does Crowded d = absurd d
    deletes_does PageFull d = absurd d

    module _ (new : Seated) (gave : new ≡ (commits_to m.0 made after_it n (home id) left, rest (rest m.1))) where
      pub deletes_told : (answer : Commit) → DeletesRow start.0.actor page op id key b had x row answer after_it n left made → CommitsDelete (seat_view start.0) (seat_view new.0) page op id answer
      deletes_told (Full limit) d = full_told limit d new gave
      deletes_told (Done number) d = done_told number d new gave
      deletes_told (Down q) d = absurd d
      deletes_told (Right q) d = absurd d
      deletes_told Crowded d = absurd d
      deletes_told PageFull d = absurd d

      pub deletes_cells : (answer : Commit) → DeletesRow start.0.actor page op id key b had x row answer after_it n left made → HasCells new.0.mine
      deletes_cells (Full limit) d = full_cells limit d new gave
      deletes_cells (Done number) d = done_cells number d new gave
      deletes_cells (Down q) d = absurd d
      deletes_cells (Right q) d = absurd d
      deletes_cells Crowded d = absurd d
      deletes_cells PageFull d = absurd d
