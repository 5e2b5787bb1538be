-- What the commit of a delete makes of the state.
use Rattle.std.proofs.Common.{◌≡◌, ℕ, ◌+◌, ◌<◌, ◌≤◌, ◌==◌, length, map, get_or, set, true, false, refl, sym, ap, ◌∙◌, subst, arith, Option, Some}
use Rattle.std.specs.List.{find}
use Rattle.mi_base.specs.declared.records.Update.TheVariants.{Delete}
use Rattle.mi_base.specs.History.{updates_of}
use Rattle.mi_board.specs.Boards.{BoardState, HasRoom}
use Rattle.mi_core.specs.Effects.{committed, mark_entry, with_update}
use Rattle.mi_core.specs.Events.{CanDelete}
use Rattle.mi_core.specs.Events.Event.{delete}
use Rattle.mi_core.specs.Kept.{Kept}
use Rattle.mi_core.specs.Pages.{node_or_fresh}
use Rattle.mi_core.specs.State.{State, node_at}
use Rattle.mi_entries.specs.Records.{Shard, held_by, home, no_shard, shard_at, without_id}
use Rattle.mi_page.specs.Entries.{has_living, with_death}
use Rattle.mi_page.specs.Nodes.{Node}
use Rattle.mi_world.specs.declared.answers.Commit.{Commit}
use Rattle.mi_world.specs.declared.answers.Commit.TheVariants as commit
use Rattle.mi_world.specs.Pages.{MayDelete, delete_key}
use Rattle.mi_solo.specs.declared.cores.Core.{Core}
use Rattle.mi_solo.specs.declared.rows.ActorRow.{ActorRow}
use Rattle.mi_solo.specs.Deleting.{CommitsDelete, EntersDelete}
use Rattle.mi_solo.specs.Sections.{rows_at}
use Rattle.mi_solo.specs.Seeking.{EndsAfter}
use Rattle.mi_world.specs.declared.answers.Record.{Record}
use Rattle.mi_solo.specs.Viewing.{record_shown, records_in}
use Rattle.mi_solo.specs.States.{Does, actor_in, actor_of, actors_of, node_in, state_of, view_in}
use Rattle.mi_solo.proofs.CanLemmas.{can_delete, delete_living}
use Rattle.mi_solo.proofs.CoreLemmas.{comes_to, read_is, suits, there}
use Rattle.mi_solo.proofs.InsertSection.{made_mine, made_others}

-- where the key lies in the page, that tells the answer
pub deletes : (s : State) (a page op id : ℕ) (answer : Commit) (t : State) → EndsAfter (node_in s page) 0 (delete_key (view_in s a) id) → EntersDelete s a page op id answer t → CommitsDelete s a page op id answer t
deletes s a page op id (commit.Down p) t e h = absurd h
deletes s a page op id (commit.Right p) t e h = absurd h
deletes s a page op id (commit.Full limit) t e h = (e, h)
deletes s a page op id commit.Crowded t e h = absurd h
deletes s a page op id commit.PageFull t e h = absurd h
deletes s a page op id (commit.Done number) t e h = (e, h)

-- the identifier's record is what its shard tells
pub recorded : (c : Core) (a : ℕ) → a < length c.actors.items → Kept (state_of c) → (id : ℕ) → MayDelete (view_in (state_of c) a) id → (j : ℕ) → j ≡ home id → (was : Shard) → was ≡ get_or c.shards.items j was
    → (r : Option Record) → r ≡ record_shown (find (λ x. x.id == id) was.rows.records) → (view_in (state_of c) a).records id ≡ r
recorded c a known k id ready j is was at r told =
    let mine = (suits c a known k).holds.shard (home id) ready.shard in
    let low : home id < length c.shards.items = let many = k.sound.sixteen in omega (arith, mine.0) in
    let same : was ≡ shard_at c.shards.items (home id) = read_is c.shards.items (home id) no_shard was low (subst (λ m. was ≡ get_or c.shards.items m was) is at) in
    ap (λ o. records_in c.shards.items o id) ready.shard ∙ ap (λ (x : Shard). record_shown (find (λ y. y.id == id) x.rows.records)) (sym same) ∙ sym told

module _ (c : Core) (a : ℕ) (known : a < length c.actors.items) (k : Kept (state_of c)) (row : ActorRow) (at : row ≡ get_or c.actors.items a row) (page : ℕ) (node : Node) (here : node_at (state_of c).pages page ≡ Some node)
    (id : ℕ) (ready : MayDelete (view_in (state_of c) a) id) (key : ℕ) (key_is : key ≡ delete_key (view_in (state_of c) a) id) (low : (node_in (state_of c) page).low ≤ key) (ends : EndsAfter (node_in (state_of c) page) 0 key)
    (room : HasRoom c.board) where
  it : node_in (state_of c) page ≡ node
  it = ap node_or_fresh here

  pub may_delete : CanDelete (state_of c) (actor_in (state_of c) a) id page node (shard_at c.shards.items (home id)).rows (delete_key (view_in (state_of c) a) id)
  may_delete = can_delete (state_of c) k a (actor_in (state_of c) a) (there c a known) page node here id ready
      (subst (λ n. (node_in (state_of c) page).low ≤ n) key_is low) (subst (λ n. EndsAfter n 0 (delete_key (view_in (state_of c) a) id)) it (subst (EndsAfter (node_in (state_of c) page) 0) key_is ends)) room

  pub lives : has_living key node.entries ≡ true
  lives = ap (λ n. has_living n node.entries) key_is ∙ delete_living (state_of c) k a (actor_in (state_of c) a) (there c a known) page node here id (shard_at c.shards.items (home id)).rows (delete_key (view_in (state_of c) a) id) may_delete

  -- the board, the shard and the page are changed together
  pub is_deleted : (op : ℕ) (b : BoardState) → b ≡ with_update a op (Delete id) c.board → (was now : Shard) → was ≡ get_or c.shards.items (home id) was → now ≡ held_by was.holder (without_id id was.rows)
      → (number : ℕ) → number ≡ length (updates_of c.board.log) + 1 → (marked : Node) → marked ≡ record node { entries = map (with_death key number) node.entries }
      → (new : ActorRow) → new ≡ record row { seen = length b.log; reserved = false; reserved_here = false; page = page }
      → Does (state_of c) a (delete op id page (node_in (state_of c) page) (rows_at (state_of c) (home id)) (delete_key (view_in (state_of c) a) id))
      (record { board = b; shards = set c.shards.items (home id) now; pages = set c.pages.items page (Some marked); actors = actors_of b.settings b.log 0 (set c.actors.items a new) })
  is_deleted op b is was now at_home kept_now number counted marked mark_is new e_row =
      let to = with_update a op (Delete id) c.board in
      let r = actor_in (state_of c) a in
      let dk = delete_key (view_in (state_of c) a) id in
      let mine = (suits c a known k).holds.shard (home id) ready.shard in
      let low_shard : home id < length c.shards.items = let many = k.sound.sixteen in omega (arith, mine.0) in
      let same : was ≡ shard_at c.shards.items (home id) = read_is c.shards.items (home id) no_shard was low_shard at_home in
      let shard_is : now ≡ held_by (Some a) (without_id id (shard_at c.shards.items (home id)).rows) =
      kept_now ∙ ap (λ (x : Shard). held_by x.holder (without_id id x.rows)) same ∙ ap (λ o. held_by o (without_id id (shard_at c.shards.items (home id)).rows)) mine.1 in
      let node_is : marked ≡ mark_entry dk (length (updates_of c.board.log) + 1) (node_in (state_of c) page) =
      mark_is ∙ ap (λ n. mark_entry n number node) key_is ∙ ap (λ n. mark_entry dk n node) counted ∙ ap (mark_entry dk (length (updates_of c.board.log) + 1)) (sym it) in
      record {
        can = subst (λ n. CanDelete (state_of c) r id page n (shard_at c.shards.items (home id)).rows dk) (sym it) may_delete;
        is = comes_to c a known row at b to is refl (made_others c.board.log a op (Delete id)) (set c.shards.items (home id) now) (set c.shards.items (home id) (held_by (Some a) (without_id id (rows_at (state_of c) (home id)))))
            (ap (set c.shards.items (home id)) shard_is) (set c.pages.items page (Some marked)) (set c.pages.items page (Some (mark_entry dk (length (updates_of c.board.log) + 1) (node_in (state_of c) page)))) (ap (λ n. set c.pages.items page (Some n)) node_is)
            new (committed to a op (Delete id) page)
            (ap (actor_of to.settings to.log a) e_row ∙ ap (λ (z : BoardState). actor_of to.settings to.log a (record row { seen = length z.log; reserved = false; reserved_here = false; page = page })) is
            ∙ ap (λ own. record (actor_of to.settings to.log a (record row { seen = length to.log; reserved = false; reserved_here = false; page = page })) { own = own }) (made_mine c.board.log a op (Delete id)));
      }
