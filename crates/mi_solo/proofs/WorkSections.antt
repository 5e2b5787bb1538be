-- What a splitter's next work and the end of a split make of the state.
use Rattle.std.proofs.Common.{◌≡◌, ℕ, ◌<◌, ◌≤◌, List, is_some, length, get_or, set, Bool, true, IsTrue, refl, ap, ◌∙◌, arith, Some, None}
use Rattle.mi_base.specs.History.{at_position, events_at}
use Rattle.mi_base.specs.Prefixes.{all_below}
use Rattle.mi_board.specs.Boards.{BoardState, floor_of, given_up, next_sweep}
use Rattle.mi_core.specs.Effects.{saw}
use Rattle.mi_core.specs.Events.Event.{give_up}
use Rattle.mi_core.specs.Kept.{Kept}
use Rattle.mi_core.specs.State.{State}
use Rattle.mi_core.proofs.NextLemmas.{next_swept}
use Rattle.mi_entries.specs.Actors.{Actor}
use Rattle.mi_entries.proofs.RetiredLemmas.{IsPast, past_later}
use Rattle.mi_solo.specs.declared.cores.Core.{Core}
use Rattle.mi_solo.specs.declared.rows.ActorRow.{ActorRow}
use Rattle.mi_solo.specs.States.{Does, actor_in, actor_of, actors_of, state_of, view_in}
use Rattle.mi_world.specs.Splits.{copied_in}
use Rattle.mi_solo.proofs.CoreLemmas.{comes_to, log_of, there}
use Rattle.mi_solo.proofs.GatheredLemmas.{may_give_up}

-- a leaf that is to be swept is a cell of the pivots
pub retired_fits : (c : Core) → Kept (state_of c) → (p : List ℕ) → next_sweep c.board ≡ Some p → (length p ≤ c.board.settings.levels) × (all_below (length c.board.settings.pivots) p ≡ true)
retired_fits c k p e =
    let n : ℕ = events_at (floor_of c.board) in
    let due = (next_swept (at_position c.board.log (floor_of c.board)) c.board.retired p e).2 in
    let past : IsPast c.board.settings (at_position c.board.log (floor_of c.board)) p = past_later c.board.settings k.sound.limits p c.board.log k.sound.legal n n (omega arith) due in
    let above = past.above in
    (omega arith, past.pivots)

module _ (c : Core) (a : ℕ) (known : a < length c.actors.items) (row : ActorRow) (at : row ≡ get_or c.actors.items a row) (b : BoardState) (new : ActorRow) where
  abbrev then : State
  then = record { board = b; shards = c.shards.items; pages = c.pages.items; actors = actors_of b.settings b.log 0 (set c.actors.items a new) }

  -- the split is given up
  pub given_back : Kept (state_of c) → (pages : Bool) → IsTrue (is_some (actor_in (state_of c) a).claim) → copied_in (view_in (state_of c) a) ≡ 0 → (IsTrue pages → IsTrue (view_in (state_of c) a).told)
      → b ≡ given_up pages a c.board → new ≡ record row { seen = length b.log; claim = None; split = None } → Does (state_of c) a (give_up pages) then
  given_back k pages claimed none told is e =
      let to = given_up pages a c.board in
      record {
        can = may_give_up (state_of c) k a (actor_in (state_of c) a) (there c a known) pages claimed none told;
        is = comes_to c a known row at b to is refl (λ m n. refl) c.shards.items c.shards.items refl c.pages.items c.pages.items refl new (λ (x : Actor). record (saw c.board x) { claim = None; split = None })
            (ap (actor_of c.board.settings c.board.log a) e ∙ log_of c.board.settings c.board.log b to is a (λ n. record row { seen = n; claim = None; split = None }));
      }
