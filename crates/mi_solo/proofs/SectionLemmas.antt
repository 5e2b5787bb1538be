-- What sections leave as it was, in parts of a view that many of them share.
use Rattle.std.proofs.Common.{◌≡◌, ℕ, suc, zero, ◌<◌, ◌≤◌, List, [], ◌∷◌, length, Bool, true, false, cond, nat_le, is_some, refl, sym, ap, ◌∙◌, subst, arith, Option, Some, None, inl, inr, ◌⊎◌, set, get_or-set_same, get_or-set_other, eq-eqb}
use Rattle.std.specs.Prelude.{slice_get, slice_index_or}
use Rattle.std.proofs.lemmas.Bool.{cases_eq}
use Rattle.std.proofs.lemmas.Bool.Decides.{nat_tests}
use Rattle.std.proofs.lemmas.Option.{none-some}
use Rattle.mi_base.specs.declared.records.Position.{Position}
use Rattle.mi_base.specs.History.{end_of, events_at}
use Rattle.mi_board.specs.Actors.{actor_at, change, idle}
use Rattle.mi_board.specs.Boards.{floor_of, look_of}
use Rattle.mi_board.specs.Floors.{earlier, least_pin}
use Rattle.mi_board.specs.declared.actors.ActorState.{ActorState}
use Rattle.mi_board.proofs.FloorLemmas.{least_low}
use Rattle.mi_entries.specs.Actors.{Actor}
use Rattle.mi_entries.specs.Records.{Rows, Shard, held_by, no_shard, shard_at}
use Rattle.mi_core.specs.Kept.{Kept}
use Rattle.mi_core.specs.Pages.{node_or_fresh}
use Rattle.mi_core.specs.State.{State, board_actor, node_at}
use Rattle.mi_core.proofs.FloorLemmas.{least_is}
use Rattle.mi_core.proofs.KeptLemmas.{on_board}
use Rattle.mi_core.proofs.NamedLemmas.{few_levels, root_named}
use Rattle.mi_page.specs.Nodes.{item_count}
use Rattle.mi_core.specs.Effects.{trim_leaf}
use Rattle.mi_world.specs.Boards.{Tells}
use Rattle.mi_world.specs.View.{IsFloor, SameApart, SamePage, SameSplit, prefix_or}
use Rattle.mi_solo.specs.Viewing.{another, copy_keys, gathered_to, holder_from, is_whole, pinned_log, shown_to, swept_leaf, swept_to}
use Rattle.mi_core.specs.Events.{copied_of}
use Rattle.mi_solo.proofs.BoardLemmas.{claims_it}
use Rattle.mi_solo.proofs.ViewLemmas.{holder_none}

module _ (s t : State) (a : ℕ) (r q : Actor) where
  pub split_by : t.board.settings ≡ s.board.settings → q.split ≡ r.split → SameSplit (shown_to s a r) (shown_to t a q)
  split_by settings split = record {
    splitting = ap is_some split;
    mark = ap gathered_to split;
    whole = ap (λ c. is_whole c q.split) settings ∙ ap (is_whole s.board.settings) split;
    copies = ap (λ c. copy_keys c q.split) settings ∙ ap (copy_keys s.board.settings) split;
    copied = ap copied_of split;
  }

  -- the settings, the sweep, the split, the flags and the pin stay
  pub apart_by : t.board.settings ≡ s.board.settings → q.sweep ≡ r.sweep → q.split ≡ r.split → q.undone ≡ r.undone → q.early ≡ r.early → pinned_log t.board.log q.pin ≡ pinned_log s.board.log r.pin
      → SameApart (shown_to s a r) (shown_to t a q)
  apart_by settings sweep split undone early pin = record {
    sweep = record { sweep = ap swept_leaf sweep; swept = ap swept_to sweep };
    split = split_by settings split;
    flags = record { undone = undone; early = early };
    actors = record { absorbed = refl; forked = refl };
    pin = pin;
  }

  -- the pages and the page that was noted stay
  pub page_by : t.pages ≡ s.pages → q.page ≡ r.page → SamePage (shown_to s a r) (shown_to t a q)
  page_by pages page = record {
    page = page;
    high = ap (λ z. (node_or_fresh (node_at z q.page)).high) pages ∙ ap (λ p. (node_or_fresh (node_at s.pages p)).high) page;
    items = λ e. ap (λ (f : Position). item_count (trim_leaf f.updates (node_or_fresh (node_at t.pages q.page)))) e
        ∙ ap (λ z. item_count (trim_leaf r.floor.updates (node_or_fresh (node_at z q.page)))) pages
        ∙ ap (λ p. item_count (trim_leaf r.floor.updates (node_or_fresh (node_at s.pages p)))) page;
  }

-- another holds each shard where one did, if one shard changes that no other held or holds
pub found_by : (a : ℕ) (shards : List Shard) (n : ℕ) (y : Shard) → n < length shards → another a y.holder ≡ another a (shard_at shards n).holder
    → (k : ℕ) → another a (shard_at (set shards n y) k).holder ≡ another a (shard_at shards k).holder
found_by a shards n y lt same k = elim (cases_eq k n) [
  | inl e ↦ ap (λ i. another a (shard_at (set shards n y) i).holder) e ∙ ap (λ (z : Shard). another a z.holder) (get_or-set_same shards n y no_shard lt) ∙ same
      ∙ ap (λ i. another a (shard_at shards i).holder) (sym e)
  | inr d ↦ ap (λ (z : Shard). another a z.holder) (get_or-set_other shards n k y no_shard d)
]

-- an actor is no other one
pub another_self : (a : ℕ) → another a (Some a) ≡ None
another_self a = rw (eq-eqb a a refl) refl

module _ (s : State) (k : Kept s) (a : ℕ) (r : Actor) (there : slice_get s.actors a ≡ Some r) (n : ℕ) (its : r.shard ≡ Some n) where
  -- the shard that it holds is there
  pub low : n < length s.shards
  low = let l = ((k.sound.each a r there).holds.shard n its).0 in omega (arith, k.sound.sixteen)

  -- and nothing of it is another's, whatever it makes of it
  pub own_found : (o : Option ℕ) (x : Rows) → another a o ≡ None → (tried : ℕ) → another a (shard_at (set s.shards n (held_by o x)) tried).holder ≡ another a (shard_at s.shards tried).holder
  own_found o x none = found_by a s.shards n (held_by o x) low (none ∙ sym (ap (another a) ((k.sound.each a r there).holds.shard n its).1 ∙ another_self a))

-- no pin is below the least one
pub least_below : (end : Position) (actors : List ActorState) (i : ℕ) (q : Position) → (slice_index_or actors i idle).pin ≡ Some q → events_at (least_pin end actors) ≤ events_at q
least_below end [] i q h = absurd (none-some q h)
least_below end (x ∷ actors) zero q h = omega (arith, first q (least_pin end actors), ap (λ o. events_at (earlier o (least_pin end actors))) h)
  where
    not_le : (q z : Position) → nat_le (events_at q) (events_at z) ≡ false → events_at z ≤ events_at q
    not_le q z e = grind (arith, nat_tests)

    first : (q z : Position) → events_at (earlier (Some q) z) ≤ events_at q
    first q z =
        let Q : Bool → Type 0 = λ b. nat_le (events_at q) (events_at z) ≡ b → events_at (cond b q z) ≤ events_at q in
        (elim (nat_le (events_at q) (events_at z)) as Q [ true ↦ λ _. omega arith | false ↦ λ e. not_le q z e ]) refl
least_below end (x ∷ actors) (suc i) q h = omega (arith, least_low (least_pin end actors) (x ∷ []), least_below end actors i q h)

-- the least pin is the end, or one of the pins
pub least_one : (end : Position) (actors : List ActorState) → (least_pin end actors ≡ end) ⊎ ((i : ℕ) × ((slice_index_or actors i idle).pin ≡ Some (least_pin end actors)))
least_one end actors = least_is (λ p. (p ≡ end) ⊎ ((i : ℕ) × ((slice_index_or actors i idle).pin ≡ Some p))) end actors (inl refl) (λ i p e. inr (i, e))

module _ (t : State) (a : ℕ) (q : Actor) (now : q.floor ≡ floor_of t.board) where
  pub floor_is : IsFloor (shown_to t a q) q.floor
  floor_is = subst (IsFloor (shown_to t a q)) (sym now) (record {
    none_below = least_below (end_of t.board.log) t.board.actors;
    is = least_one (end_of t.board.log) t.board.actors;
  })

  -- a look tells of the board as it is
  pub tells : Kept t → Tells (shown_to t a q) (look_of t.board)
  tells k =
      let root = root_named t k.sound in
      record {
        at_is = refl;
        floor_is = sym now;
        floor_least = floor_is;
        root_is = refl;
        height_is = refl;
        named = ap is_some root.there;
        level_is = ap (λ o. (node_or_fresh o).level) root.there ∙ root.level;
        low_is = ap (λ o. (node_or_fresh o).low) root.there ∙ root.low;
        low_height = few_levels t k.sound;
        least_height = omega arith;
      }

-- a leaf whose claim has ended has no holder
pub freed : (s : State) → Kept s → (a : ℕ) (r : Actor) → slice_get s.actors a ≡ Some r → (f : ActorState → ActorState) → ((x : ActorState) → (f x).claim ≡ None) → (p : List ℕ) → r.claim ≡ Some p
    → holder_from 0 (change f a s.board.actors) (prefix_or r.claim) ≡ None
freed s k a r there f ends p its = ap (λ o. holder_from 0 (change f a s.board.actors) (prefix_or o)) its ∙ holder_none 0 (change f a s.board.actors) p (λ j e. elim (cases_eq j a) [
  | inl same ↦ none-some p (sym (ends (board_actor s.board a)) ∙ ap (λ (z : ActorState). z.claim) (sym (get_or-set_same s.board.actors a (f (board_actor s.board a)) idle (on_board s k.sound a r there)))
      ∙ ap (λ i. (actor_at (change f a s.board.actors) i).claim) (sym same) ∙ e)
  | inr other ↦
      let t = claims_it s k a r there j p (ap (λ (z : ActorState). z.claim) (sym (get_or-set_other s.board.actors a j (f (board_actor s.board a)) idle other)) ∙ e) in
      other (k.sound.claims j a t.0 r p t.1 there t.2 its)
])
