-- What sections of the shards make of the state.
use Rattle.std.proofs.Common.{◌≡◌, ℕ, ◌+◌, ◌<◌, ◌==◌, List, length, get_or, set, true, false, refl, sym, ap, ◌∙◌, subst, arith, Option, Some, None, is_some, Err, Ok}
use Rattle.std.specs.List.{find}
use Rattle.std.proofs.lemmas.List.{set-get_or}
use Rattle.mi_board.specs.Actors.{with_reserved}
use Rattle.mi_board.specs.Boards.{BoardState, look_of, with_actor}
use Rattle.mi_core.specs.Effects.{looked, saw}
use Rattle.mi_core.specs.Events.{hand}
use Rattle.mi_core.specs.Events.Event.{claim_shard, miss_shard}
use Rattle.mi_core.specs.Kept.{Kept}
use Rattle.mi_core.specs.State.{State}
use Rattle.mi_entries.specs.Actors.{Actor}
use Rattle.mi_entries.specs.Records.{Rows, Shard, held_by, home, no_shard, shard_at}
use Rattle.mi_tree.specs.declared.answers.Look.{Look}
use Rattle.mi_tree.specs.declared.answers.ReserveRefusal.{ReserveRefusal}
use Rattle.mi_tree.specs.declared.answers.ReserveRefusal.TheVariants.{Full, Memory}
use Rattle.mi_world.specs.declared.answers.Record.{Record}
use Rattle.mi_solo.specs.declared.cores.Core.{Core}
use Rattle.mi_solo.specs.declared.rows.ActorRow.{ActorRow}
use Rattle.mi_solo.specs.Sections.{Promises, Reserves, rows_at}
use Rattle.mi_solo.specs.States.{Does, actor_in, actor_of, actors_of, state_of}
use Rattle.mi_solo.specs.Viewing.{record_shown}
use Rattle.mi_solo.proofs.CoreLemmas.{comes_to, log_of, read_is, some_of}

-- what was read is written again
pub set_read : {X : Type 0} (xs : List X) (i : ℕ) (x : X) → x ≡ get_or xs i x → set xs i x ≡ xs
set_read xs i x e = ap (set xs i) e ∙ set-get_or xs i x

module _ (c : Core) (a : ℕ) (known : a < length c.actors.items) (kept : Kept (state_of c)) (row : ActorRow) (at : row ≡ get_or c.actors.items a row) (new : ActorRow) (k : ℕ) (low : k < length c.shards.items) where
  pub shard_missed : (id : ℕ) → k ≡ home id → (actor_in (state_of c) a).shard ≡ None → (was : Shard) → was ≡ get_or c.shards.items k was → (by : Option ℕ) → by ≡ was.holder → is_some by ≡ true
      → new ≡ record row { tried = k; found = by }
      → Does (state_of c) a (miss_shard (home id)) (record { board = c.board; shards = c.shards.items; pages = c.pages.items; actors = actors_of c.board.settings c.board.log 0 (set c.actors.items a new) })
  shard_missed id is free was there by its some e =
      let t : State = record { board = c.board; shards = c.shards.items; pages = c.pages.items; actors = actors_of c.board.settings c.board.log 0 (set c.actors.items a new) } in
      let holder : by ≡ (shard_at c.shards.items k).holder = its ∙ ap (λ (x : Shard). x.holder) (read_is c.shards.items k no_shard was low there) in
      let one = some_of by some in
      subst (λ n. Does (state_of c) a (miss_shard n) t) is (record {
        can = ((let many = kept.sound.sixteen in omega arith), free, one.0, sym holder ∙ one.1);
        is = comes_to c a known row at c.board c.board refl refl (λ m n. refl) c.shards.items c.shards.items refl c.pages.items c.pages.items refl new (λ (r : Actor). record r { tried = k; found = (shard_at c.shards.items k).holder })
            (ap (actor_of c.board.settings c.board.log a) e ∙ ap (λ o. actor_of c.board.settings c.board.log a (record row { tried = k; found = o })) holder);
      })

  pub shard_claimed : (id : ℕ) → k ≡ home id → (actor_in (state_of c) a).shard ≡ None → (was : Shard) → was ≡ get_or c.shards.items k was → was.holder ≡ None → (now : Shard) → now ≡ held_by (Some a) was.rows
      → new ≡ record row { shard = Some k; tried = k; found = None; reserved_here = false } → (answer : Option Record) → answer ≡ record_shown (find (λ x. x.id == id) now.rows.records)
      → Does (state_of c) a (claim_shard (home id) (rows_at (state_of c) (home id))) (record { board = c.board; shards = set c.shards.items k now; pages = c.pages.items; actors = actors_of c.board.settings c.board.log 0 (set c.actors.items a new) })
      × (answer ≡ record_shown (find (λ x. x.id == id) (rows_at (state_of c) (home id)).records))
  shard_claimed id is free was there none now given e answer told =
      let t : State = record { board = c.board; shards = set c.shards.items k now; pages = c.pages.items; actors = actors_of c.board.settings c.board.log 0 (set c.actors.items a new) } in
      let it : was ≡ shard_at c.shards.items k = read_is c.shards.items k no_shard was low there in
      subst (λ n. Does (state_of c) a (claim_shard n (rows_at (state_of c) n)) t × (answer ≡ record_shown (find (λ x. x.id == id) (rows_at (state_of c) n).records))) is (
        record {
          can = ((let many = kept.sound.sixteen in omega arith), free, refl, ap (λ (x : Shard). x.holder) (sym it) ∙ none);
          is = comes_to c a known row at c.board c.board refl refl (λ m n. refl) (set c.shards.items k now) (set c.shards.items k (held_by (Some a) (shard_at c.shards.items k).rows))
              (ap (set c.shards.items k) (given ∙ ap (λ (x : Shard). held_by (Some a) x.rows) it)) c.pages.items c.pages.items refl new
              (λ (r : Actor). record r { shard = Some k; tried = k; found = None; reserved_here = false }) (ap (actor_of c.board.settings c.board.log a) e);
        },
        told ∙ ap (λ (x : Shard). record_shown (find (λ x. x.id == id) x.rows.records)) (given ∙ ap (λ (x : Shard). held_by (Some a) x.rows) it),
      )

  module _ (was : Shard) (there : was ≡ get_or c.shards.items k was) (held : (actor_in (state_of c) a).shard ≡ Some k) (b : BoardState) (now : Shard) where
    abbrev then : State
    then = record { board = b; shards = set c.shards.items k now; pages = c.pages.items; actors = actors_of b.settings b.log 0 (set c.actors.items a new) }

    it : was ≡ shard_at c.shards.items k
    it = read_is c.shards.items k no_shard was low there

    pub room_reserved : (look : Look) → Promises c.board was a (Ok look) b now → (holder : was.holder ≡ Some a) → (before : Look) → before ≡ look_of c.board
        → new ≡ record row { seen = length b.log; floor = before.floor; reserved = true; reserved_here = true } → Reserves (state_of c) a (Ok look) then
    room_reserved look told holder before was_look e =
        let to = with_actor (with_reserved true) a c.board in
        let rows : Rows = (shard_at c.shards.items k).rows in
        let n : hand (actor_in (state_of c) a).shard ≡ k = ap hand held in
        let mine : Shard → Shard = λ x. held_by (Some a) (record x.rows { room = length x.rows.records + 1 }) in
        let now_is : now ≡ mine (shard_at c.shards.items k) = ap (held_by now.holder) told.0.3 ∙ ap (λ o. held_by o (record was.rows { room = length was.rows.records + 1 })) (told.1 ∙ holder) ∙ ap mine it in (
          record {
            can = (held ∙ ap Some (sym n), refl, omega arith, told.0.0);
            is = comes_to c a known row at b to told.0.2 refl (λ m n. refl) (set c.shards.items k now) (set c.shards.items (hand (actor_in (state_of c) a).shard) (mine (shard_at c.shards.items (hand (actor_in (state_of c) a).shard))))
                (ap (set c.shards.items k) now_is ∙ ap (λ m. set c.shards.items m (mine (shard_at c.shards.items m))) (sym n)) c.pages.items c.pages.items refl new
                (λ (r : Actor). record (looked c.board r) { reserved = true; reserved_here = true })
                (ap (actor_of c.board.settings c.board.log a) e ∙ log_of c.board.settings c.board.log b to told.0.2 a (λ n. record row { seen = n; floor = before.floor; reserved = true; reserved_here = true })
                ∙ ap (λ (l : Look). actor_of c.board.settings c.board.log a (record row { seen = length c.board.log; floor = l.floor; reserved = true; reserved_here = true })) was_look);
          },
          told.0.1,
        )

    same_state : b ≡ c.board → now ≡ was → new ≡ record row { seen = length b.log } → then ≡ record { board = c.board; shards = c.shards.items; pages = c.pages.items; actors = set (state_of c).actors a (saw c.board (actor_in (state_of c) a)) }
    same_state is one e = comes_to c a known row at b c.board is refl (λ m n. refl) (set c.shards.items k now) c.shards.items (ap (set c.shards.items k) one ∙ set_read c.shards.items k was there) c.pages.items c.pages.items refl new (saw c.board)
        (ap (actor_of c.board.settings c.board.log a) e ∙ log_of c.board.settings c.board.log b c.board is a (λ n. record row { seen = n }))

    same_shard : now.rows ≡ was.rows → now.holder ≡ was.holder → now ≡ was
    same_shard rows holder = ap (held_by now.holder) rows ∙ ap (λ o. held_by o was.rows) holder

    pub room_refused : (why : ReserveRefusal) → Promises c.board was a (Err why) b now → new ≡ record row { seen = length b.log } → Reserves (state_of c) a (Err why) then
    room_refused (Full limit) told e = (record { can = told.0.0.1 ∙ told.0.0.0; is = same_state told.0.1 (same_shard told.0.2 told.1) e }, told.0.0.0)
    room_refused Memory told e = record { can = tt; is = same_state told.0.0 (same_shard told.0.1 told.1) e }
