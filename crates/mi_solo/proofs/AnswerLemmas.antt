-- The event that each section of the board and of a shard is, by its answer, and what the trait tells of it.
use Rattle.std.proofs.Common.{◌≡◌, ℕ, List, length, IsTrue, sym, ap, ◌∙◌, subst, None, Result, Ok, Err}
use Rattle.mi_base.specs.declared.refusals.NoMemory.{NoMemory}
use Rattle.mi_base.specs.Permutations.{is_permutation}
use Rattle.mi_board.specs.Actors.{actor_at}
use Rattle.mi_board.specs.Boards.{BoardState, leaf_claimed, look_of}
use Rattle.mi_core.specs.Actors.{made_by}
use Rattle.mi_core.specs.Events.{IsFree, after, first_actor}
use Rattle.mi_core.specs.Events.Event.{look as look_event, pin, release_leaf as release_leaf_event, release_shard as release_shard_event, unpin as unpin_event}
use Rattle.mi_core.specs.Kept.{Kept}
use Rattle.mi_core.specs.State.{State}
use Rattle.mi_entries.specs.Actors.{Actor}
use Rattle.std.proofs.lemmas.Option.{get_or_from_slice_get}
use Rattle.mi_tree.specs.declared.answers.AllotRefusal.{AllotRefusal}
use Rattle.mi_tree.specs.declared.answers.AllotRefusal.TheVariants as allot
use Rattle.mi_tree.specs.declared.answers.LeafClaim.{LeafClaim}
use Rattle.mi_tree.specs.declared.answers.LeafClaim.TheVariants as leaf
use Rattle.mi_tree.specs.declared.answers.Look.{Look}
use Rattle.mi_tree.specs.declared.answers.ReserveRefusal.{ReserveRefusal}
use Rattle.mi_tree.specs.declared.answers.ReserveRefusal.TheVariants as reserve
use Rattle.mi_world.specs.declared.answers.ShardClaim.{ShardClaim}
use Rattle.mi_world.specs.declared.answers.ShardClaim.TheVariants as shard
use Rattle.mi_world.specs.Boards.{Allots, Looks, Pins, Reserves, Unpins}
use Rattle.mi_world.specs.Claims.{ClaimsLeaf, ClaimsShard, ReleasesLeaf, ReleasesShard}
use Rattle.mi_solo.specs.declared.cores.Core.{Core}
use Rattle.mi_solo.specs.Sections as made
use Rattle.mi_solo.specs.declared.rows.ActorRow.{ActorRow}
use Rattle.mi_solo.specs.BoardRows.{AllotsRow, ClaimsRow, PinsRow}
use Rattle.mi_solo.specs.OnBoards.{OnBoard}
use Rattle.mi_solo.specs.States.{Does, IsGoing, actor_in, actor_of, state_of}
use Rattle.mi_solo.specs.Solos.{view_of}
use Rattle.mi_solo.proofs.BoardEvents.{allots, allots_full, allots_none, looks, pins, pins_none, reserves, reserves_full, reserves_none, unpins}
use Rattle.mi_solo.proofs.BoardTurns.{allot_event, allot_is, board_does, claim_event, claim_is, claims_one, pin_event, pin_is, shown_bare}
use Rattle.mi_solo.proofs.ClaimEvents.{claims_held, claims_leaf, claims_shard, misses_shard, releases_leaf, releases_shard}
use Rattle.mi_solo.proofs.CoreLemmas.{there}
use Rattle.mi_solo.proofs.SoloLemmas.{Answered, after_view, answered, now, solo_of}

module _ (c d : Core) (a : ℕ) (k : Kept (state_of c)) (g : IsGoing c a) where
  pub answer_look : (look : Look) → Does (state_of c) a look_event (state_of d) → look ≡ look_of c.board → Answered c d a (λ v w. Looks v w look)
  answer_look look does is = answered c d a k g does tt (subst (λ l. Looks (view_of (solo_of c a)) (after_view c d a k g does) l) (sym is) (looks (state_of c) k a (actor_in (state_of c) a) _ (there c a g.known) g.going does.can (now c d a k g does)))

  pub answer_shard : (id : ℕ) (r : ShardClaim) → made.ClaimsShard (state_of c) a id r (state_of d) → Answered c d a (λ v w. ClaimsShard v w id r)
  answer_shard id (shard.Taken kept) x =
      answered c d a k g x.0 tt (subst (λ z. ClaimsShard (view_of (solo_of c a)) (after_view c d a k g x.0) id (shard.Taken z)) (sym x.1) ((claims_shard id _) (state_of c) k a (actor_in (state_of c) a) _ (there c a g.known) g.going x.0.can (now c d a k g x.0)))
  answer_shard id shard.Held x = answered c d a k g x tt ((misses_shard id) (state_of c) k a (actor_in (state_of c) a) _ (there c a g.known) g.going x.can (now c d a k g x))

  pub answer_released : (n : ℕ) (kept : _) → Does (state_of c) a (release_shard_event n kept) (state_of d) → Answered c d a ReleasesShard
  answer_released n kept does = answered c d a k g does tt ((releases_shard n kept) (state_of c) k a (actor_in (state_of c) a) _ (there c a g.known) g.going does.can (now c d a k g does))

  pub answer_reserve : (r : Result Look ReserveRefusal) → made.Reserves (state_of c) a r (state_of d) → Answered c d a (λ v w. Reserves v w r)
  answer_reserve (Ok look) x =
      answered c d a k g x.0 tt (subst (λ l. Reserves (view_of (solo_of c a)) (after_view c d a k g x.0) (Ok l)) (sym (x.1 ∙ ap (λ (s : State). look_of s.board) x.0.is)) ((reserves _ _ _) (state_of c) k a (actor_in (state_of c) a) _ (there c a g.known) g.going x.0.can (now c d a k g x.0)))
  answer_reserve (Err (reserve.Full limit)) x =
      answered c d a k g x.0 tt (subst (λ l. Reserves (view_of (solo_of c a)) (after_view c d a k g x.0) (Err (reserve.Full l))) (sym x.1) (reserves_full (state_of c) k a (actor_in (state_of c) a) _ (there c a g.known) g.going x.0.can (now c d a k g x.0)))
  answer_reserve (Err reserve.Memory) x = answered c d a k g x tt (reserves_none (state_of c) k a (actor_in (state_of c) a) _ (there c a g.known) g.going x.can (now c d a k g x))

  -- the row's record is its actor's
  its : {makes : BoardState → ActorRow → BoardState → ActorRow → Type 0} (x : OnBoard (state_of c) a makes (state_of d)) → actor_in (state_of c) a ≡ actor_of c.board.settings c.board.log a x.row
  its x = get_or_from_slice_get (state_of c).actors a _ first_actor x.row_is

  pub answer_leaf : IsFree (actor_in (state_of c) a) → (perm : List ℕ) → IsTrue (is_permutation perm) → length perm ≡ length c.board.settings.pivots
      → (r : LeafClaim) → OnBoard (state_of c) a (ClaimsRow a perm r) (state_of d) → Answered c d a (λ v w. ClaimsLeaf v w perm r)
  answer_leaf free perm is long r x = go r x.does (board_does (state_of c) a (state_of d) x (claim_event c.board r) (claim_is (state_of c) a (made_by a c.board.log) x.row x.made x.board (subst IsFree (its x) free) perm r x.does))
    where
      go : (r : LeafClaim) → ClaimsRow a perm r c.board x.row x.board x.made → Does (state_of c) a (claim_event c.board r) (state_of d) → Answered c d a (λ v w. ClaimsLeaf v w perm r)
      go (leaf.Taken l) h y = answered c d a k g y tt ((claims_leaf l) (state_of c) k a (actor_in (state_of c) a) _ (there c a g.known) g.going y.can (now c d a k g y) perm h.0.0)
      go (leaf.Held by) h y = answered c d a k g y tt ((claims_held (leaf_claimed c.board by) by) (state_of c) k a (actor_in (state_of c) a) _ (there c a g.known) g.going y.can (now c d a k g y) perm is long
          (claims_one perm (actor_at c.board.actors by).claim h.0.1.1.0).1 free.claim)

  pub answer_left : Does (state_of c) a release_leaf_event (state_of d) → Answered c d a ReleasesLeaf
  answer_left does = answered c d a k g does tt (releases_leaf (state_of c) k a (actor_in (state_of c) a) _ (there c a g.known) g.going does.can (now c d a k g does))

  pub answer_pin : (view_of (solo_of c a)).pin ≡ None → (r : Result Look NoMemory) → OnBoard (state_of c) a (PinsRow a r) (state_of d) → Answered c d a (λ v w. Pins v w r)
  answer_pin bare r x = go r x.does (board_does (state_of c) a (state_of d) x (pin_event r) (pin_is (state_of c) a (made_by a c.board.log) x.row x.made x.board (sym (ap (λ (q : Actor). q.pin) (its x)) ∙ shown_bare c.board.log (actor_in (state_of c) a).pin bare) r x.does))
    where
      go : (r : Result Look NoMemory) → PinsRow a r c.board x.row x.board x.made → Does (state_of c) a (pin_event r) (state_of d) → Answered c d a (λ v w. Pins v w r)
      go (Ok look) h y =
          let seen : look ≡ look_of (after (state_of c) a (actor_in (state_of c) a) pin).board = h.0 ∙ sym (ap (λ (s : State). look_of s.board) x.is) ∙ ap (λ (s : State). look_of s.board) y.is in
          answered c d a k g y tt (subst (λ l. Pins (view_of (solo_of c a)) (after_view c d a k g y) (Ok l)) (sym seen) (pins (state_of c) k a (actor_in (state_of c) a) _ (there c a g.known) g.going y.can (now c d a k g y)))
      go (Err e) h y = answered c d a k g y tt ((pins_none e) (state_of c) k a (actor_in (state_of c) a) _ (there c a g.known) g.going y.can (now c d a k g y) bare)

  pub answer_unpin : Does (state_of c) a unpin_event (state_of d) → Answered c d a Unpins
  answer_unpin does = answered c d a k g does tt (unpins (state_of c) k a (actor_in (state_of c) a) _ (there c a g.known) g.going does.can (now c d a k g does))

  pub answer_allot : (actor_in (state_of c) a).fresh ≡ None → (r : Result (Unit {0}) AllotRefusal) → OnBoard (state_of c) a (AllotsRow r) (state_of d) → Answered c d a (λ v w. Allots v w r)
  answer_allot free r x = go r x.does (board_does (state_of c) a (state_of d) x (allot_event r) (allot_is (state_of c) a (made_by a c.board.log) x.row x.made x.board (sym (ap (λ (q : Actor). q.fresh) (its x)) ∙ free) r x.does))
    where
      go : (r : Result (Unit {0}) AllotRefusal) → AllotsRow r c.board x.row x.board x.made → Does (state_of c) a (allot_event r) (state_of d) → Answered c d a (λ v w. Allots v w r)
      go (Ok u) h y = answered c d a k g y tt (allots (state_of c) k a (actor_in (state_of c) a) _ (there c a g.known) g.going y.can (now c d a k g y))
      go (Err (allot.PagesFull limit)) h y =
          answered c d a k g y tt (subst (λ l. Allots (view_of (solo_of c a)) (after_view c d a k g y) (Err (allot.PagesFull l))) (sym h.0) (allots_full (state_of c) k a (actor_in (state_of c) a) _ (there c a g.known) g.going y.can (now c d a k g y)))
      go (Err allot.Memory) h y = answered c d a k g y tt (allots_none (state_of c) k a (actor_in (state_of c) a) _ (there c a g.known) g.going y.can (now c d a k g y))
