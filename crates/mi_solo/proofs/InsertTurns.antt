-- Which event the commit of an insert is: of any state that has in hand what it has.
use Rattle.std.proofs.Common.{◌≡◌, ◌≢◌, ℕ, ℤ, ◌<◌, ◌≤◌, ◌^◌, List, length, set, false, refl, sym, ap, ◌∙◌, subst, Option, Some, None}
use Rattle.std.specs.Prelude.{slice_get}
use Rattle.std.proofs.lemmas.List.{set-get_or}
use Rattle.std.proofs.lemmas.Option.{get_or_from_slice_get}
use Rattle.mi_base.specs.History.{Entered}
use Rattle.mi_base.specs.declared.records.Update.{Update}
use Rattle.mi_base.specs.declared.records.Update.TheVariants.{Insert}
use Rattle.mi_board.specs.Boards.{BoardState}
use Rattle.mi_core.specs.Actors.{made_by}
use Rattle.mi_core.specs.Effects.{committed, noted, put_entry, saw, with_update}
use Rattle.mi_core.specs.Events.{Can, CanInsert, Event, after, first_actor}
use Rattle.mi_core.specs.Events.Event.{insert, meet, refuse_at}
use Rattle.mi_core.specs.Kept.{Kept}
use Rattle.mi_core.specs.Refusals.Refusal.{crowded, full, page_full}
use Rattle.mi_core.specs.State.{State, node_at, put_actor, put_board, put_page, put_shard}
use Rattle.mi_entries.specs.Actors.{Actor}
use Rattle.mi_entries.specs.Records.{Rows, Shard, held_by, home, no_shard, shard_at, with_record}
use Rattle.mi_key.specs.declared.entries.Entry.{Entry}
use Rattle.mi_page.specs.Nodes.{Node}
use Rattle.mi_world.specs.declared.answers.Commit.{Commit}
use Rattle.mi_world.specs.declared.answers.Commit.TheVariants as commit
use Rattle.mi_world.specs.Pages.{MayInsert}
use Rattle.mi_solo.specs.declared.rows.ActorRow.{ActorRow}
use Rattle.mi_solo.specs.CommitRows.{InsertsRow, MayEnter, OnlyMeets, PutsEntry, key_in_row, next_birth}
use Rattle.mi_solo.specs.Inserting.{CommitsInsert}
use Rattle.mi_solo.specs.OnHelds.{OnHeld, TurnsHeld, with_held}
use Rattle.mi_solo.specs.States.{Does, actor_in, actor_of}
use Rattle.mi_solo.specs.Viewing.{shown_to}
use Rattle.mi_solo.proofs.InsertRow.{may_enter}
use Rattle.mi_solo.proofs.InsertSection.{made_mine, made_others}

module _ (s : State) (k : Kept s) (a page id : ℕ) (n : Node) (row : ActorRow) (there : slice_get s.actors a ≡ Some (actor_of s.board.settings s.board.log a row)) (here : node_at s.pages page ≡ Some n)
    (board : BoardState) (new : Node) (kept : Rows) (made : ActorRow) where
  abbrev R : Actor
  R = actor_of s.board.settings s.board.log a row

  abbrev rows : Rows
  rows = (shard_at s.shards (home id)).rows

  abbrev F : BoardState → Node → Rows → ActorRow → State
  F b m x q = with_held s a page (home id) b m x (actor_of b.settings b.log a q)

  -- nothing changes but that the board is seen, and the page noted
  meets_is : (e : Event) → Can s a (actor_of s.board.settings s.board.log a row) e
      → after s a (actor_of s.board.settings s.board.log a row) e ≡ put_actor a (noted page (saw s.board (actor_of s.board.settings s.board.log a row))) s
      → OnlyMeets page s.board n (shard_at s.shards (home id)).rows row board new kept made
      → TurnsHeld s a (actor_of s.board.settings s.board.log a row) e page (home id) board new kept (actor_of board.settings board.log a made)
  meets_is e can eq d =
      let to : ActorRow = record row { seen = length s.board.log; page = page } in
      let Q : Actor = actor_of s.board.settings s.board.log a to in
      let P : List (Option Node) → List Shard → State = λ ps xs. record { board = s.board; shards = xs; pages = ps; actors = set s.actors a Q } in
      let pages = sym (ap (set s.pages page) (sym here) ∙ set-get_or s.pages page None) in
      let shards = sym (set-get_or s.shards (home id) no_shard) in
      let chain : F board new kept made ≡ F s.board n rows to =
      ap (λ b. F b new kept made) d.board_is ∙ ap (λ m. F s.board m kept made) d.page_is ∙ ap (λ x. F s.board n x made) d.rows_are ∙ ap (F s.board n rows) d.row_is in
      (can, eq ∙ ap (λ ps. P ps s.shards) pages ∙ ap (P (set s.pages page (Some n))) shards ∙ sym chain)

  -- the entry is put in
  enters_is : (op : ℕ) (e : Entry) → (actor_of s.board.settings s.board.log a row).shard ≡ Some (home id) → CanInsert s (actor_of s.board.settings s.board.log a row) id page n (shard_at s.shards (home id)).rows e
      → PutsEntry a op id page e s.board n (shard_at s.shards (home id)).rows row board new kept made
      → TurnsHeld s a (actor_of s.board.settings s.board.log a row) (insert op id page n (shard_at s.shards (home id)).rows e) page (home id) board new kept (actor_of board.settings board.log a made)
  enters_is op e holds can d =
      let u : Update = Insert id e.vector in
      let b : BoardState = with_update a op u s.board in
      let m : Node = put_entry row.floor.updates e n in
      let x : Rows = with_record (record { id = id; birth = e.birth; dists = e.dists.items }) rows in
      let at : BoardState → ActorRow = λ z. record row { seen = length z.log; reserved = false; reserved_here = false; page = page } in
      let chain : F board new kept made ≡ F b m x (at b) =
      ap (λ z. F z new kept made) d.board_is ∙ ap (λ z. F b z kept made) d.page_is ∙ ap (λ z. F b m z made) d.rows_are ∙ ap (F b m x) (d.row_is ∙ ap at d.board_is) in
      let mine = (k.sound.each a R there).holds.shard (home id) holds in
      let G : Actor → Option ℕ → State = λ q o. put_actor a q (put_page page m (put_shard (home id) (held_by o x) (put_board b s))) in
      let tie : committed b a op u page R ≡ actor_of b.settings b.log a (at b) = ap (λ (own : List Entered). let y : Actor = record (actor_of b.settings b.log a (at b)) { own = own } in y) (sym (made_mine s.board.log a op u)) in
      (can, ap (λ q. G q (Some a)) tie ∙ ap (G (actor_of b.settings b.log a (at b))) (sym mine.1) ∙ sym chain)

  -- which event the commit is, by its answer
  module _ (op : ℕ) (vector : List ℤ) (dists : List ℕ) (small : id < 2 ^ 40) (may : MayInsert (shown_to s a (actor_of s.board.settings s.board.log a row)) id vector dists) (leaf : n.level ≡ 0)
      (low : n.low ≤ key_in_row s.board.settings row dists id (next_birth s.board)) where
    abbrev pub hand : MayEnter a page id vector dists s.board n (shard_at s.shards (home id)).rows row
    hand = record {
      hand = record { state = s; kept = k; part = actor_of s.board.settings s.board.log a row; there = there; row_is = refl; board_is = refl; page_is = here; rows_are = refl };
      small = small;
      may = may;
      leaf = leaf;
      low = low;
    }

    abbrev pub Inserts : Commit → Type 0
    Inserts r = InsertsRow a page op id (key_in_row s.board.settings row dists id (next_birth s.board)) vector dists r s.board n (shard_at s.shards (home id)).rows row board new kept made

    abbrev pub insert_event : (r : Commit) → InsertsRow a page op id (key_in_row s.board.settings row dists id (next_birth s.board)) vector dists r s.board n (shard_at s.shards (home id)).rows row board new kept made → Event
    insert_event (commit.Down p) x = absurd x
    insert_event (commit.Right p) x = meet page
    insert_event (commit.Full limit) x = refuse_at page full
    insert_event commit.Crowded x = refuse_at page (crowded vector)
    insert_event commit.PageFull x = refuse_at page (page_full page)
    insert_event (commit.Done number) x = insert op id page n (shard_at s.shards (home id)).rows x.1.3

    pub insert_is : (r : Commit) (x : InsertsRow a page op id (key_in_row s.board.settings row dists id (next_birth s.board)) vector dists r s.board n (shard_at s.shards (home id)).rows row board new kept made)
        → TurnsHeld s a (actor_of s.board.settings s.board.log a row) (insert_event r x) page (home id) board new kept (actor_of board.settings board.log a made)
    insert_is (commit.Down p) x = absurd x
    insert_is (commit.Right p) x = meets_is (meet page) (n, here) refl x.1
    insert_is (commit.Full limit) x = meets_is (refuse_at page full) ((n, here), x.1.1) refl x.1.2
    insert_is commit.Crowded x = meets_is (refuse_at page (crowded vector)) ((n, here), x.1.1) refl x.1.2
    insert_is commit.PageFull x = meets_is (refuse_at page (page_full page)) ((n, here), record { node = n; there = here; items = x.1.2 }) refl x.1.3
    insert_is (commit.Done number) x =
        enters_is op x.1.3 may.shard (may_enter a page id vector dists s.board n (shard_at s.shards (home id)).rows row hand (key_in_row s.board.settings row dists id (next_birth s.board)) refl x.1.3 x.1.4 x.0 x.1.0 x.1.1 x.1.2) x.1.6

-- a commit is an event that makes this of what was in hand and of its actor's record
pub held_does : (s : State) (a page k : ℕ) {makes : BoardState → Node → Rows → ActorRow → BoardState → Node → Rows → ActorRow → Type 0} (t : State) (x : OnHeld s a page k makes t) (e : Event)
    → TurnsHeld s a (actor_of s.board.settings s.board.log a x.row) e page k x.board x.new x.kept (actor_of x.board.settings x.board.log a x.made) → Does s a e t
held_does s a page k t x e turns =
    let its : actor_in s a ≡ actor_of s.board.settings s.board.log a x.row = get_or_from_slice_get s.actors a _ first_actor x.row_is in
    let y = subst (λ r. TurnsHeld s a r e page k x.board x.new x.kept (actor_of x.board.settings x.board.log a x.made)) (sym its) turns in
    record { can = y.0; is = x.is ∙ sym y.1 }

-- an insert leaves the settings, and what the log has of others
pub inserts_stay : (a page op id key : ℕ) (vector : List ℤ) (dists : List ℕ) (b : BoardState) (n : Node) (rows : Rows) (row : ActorRow) (board : BoardState) (new : Node) (kept : Rows) (made : ActorRow) (r : Commit)
    → InsertsRow a page op id key vector dists r b n rows row board new kept made → (board.settings ≡ b.settings) × ((m : ℕ) → m ≢ a → made_by m board.log ≡ made_by m b.log)
inserts_stay a page op id key vector dists b n rows row board new kept made r x = go r x
  where
    same : board ≡ b → (board.settings ≡ b.settings) × ((m : ℕ) → m ≢ a → made_by m board.log ≡ made_by m b.log)
    same e = (ap (λ (z : BoardState). z.settings) e, λ m other. ap (λ (z : BoardState). made_by m z.log) e)

    go : (r : Commit) → InsertsRow a page op id key vector dists r b n rows row board new kept made → (board.settings ≡ b.settings) × ((m : ℕ) → m ≢ a → made_by m board.log ≡ made_by m b.log)
    go (commit.Down p) x = absurd x
    go (commit.Right p) x = same x.1.board_is
    go (commit.Full limit) x = same x.1.2.board_is
    go commit.Crowded x = same x.1.2.board_is
    go commit.PageFull x = same x.1.3.board_is
    go (commit.Done number) x =
        let e : Entry = x.1.3 in
        let is = x.1.6.board_is in
        (ap (λ (z : BoardState). z.settings) is, λ m other. ap (λ (z : BoardState). made_by m z.log) is ∙ made_others b.log a op (Insert id e.vector) m other)

-- where the board decides, that tells the answer
pub commits_at : (s : State) (a page op id : ℕ) (vector : List ℤ) (dists : List ℕ) (r : Commit) (t : State)
    → OnHeld s a page (home id) (λ b n rows row board new kept made. InsertsRow a page op id (key_in_row b.settings row dists id (next_birth b)) vector dists r b n rows row board new kept made) t → CommitsInsert s a page op id vector dists r t
commits_at s a page op id vector dists (commit.Down p) t x = absurd x.does
commits_at s a page op id vector dists (commit.Right p) t x = x
commits_at s a page op id vector dists (commit.Full limit) t x = x
commits_at s a page op id vector dists commit.Crowded t x = x
commits_at s a page op id vector dists commit.PageFull t x = x
commits_at s a page op id vector dists (commit.Done number) t x = x
