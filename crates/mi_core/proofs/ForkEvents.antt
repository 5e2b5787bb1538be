-- An actor that is made keeps what is kept.
use Rattle.std.proofs.Common.{◌≡◌, ℕ, suc, zero, ◌+◌, ◌≤◌, ◌==◌, List, [], ◌∷◌, ◌++◌, length, get_or, Bool, false, cond, refl, sym, ap, ◌∙◌, subst, arith, Option, Some, None, inl, inr, ◌⊎◌, length-append}
use Rattle.std.specs.Prelude.{slice_get}
use Rattle.std.proofs.lemmas.Bool.{ne_eqb}
use Rattle.mi_base.specs.declared.records.Position.{Position}
use Rattle.mi_base.specs.History.{Entered, IsPosition, end_of, entered, events_at}
use Rattle.mi_core.specs.Actors.{Suits, made_by}
use Rattle.mi_core.specs.Claims.{AreRetired}
use Rattle.mi_board.specs.Boards.{floor_of, BoardState}
use Rattle.mi_board.specs.Floors.{earlier, least_pin}
use Rattle.mi_board.specs.Actors.{idle}
use Rattle.mi_board.specs.declared.actors.ActorState.{ActorState}
use Rattle.mi_core.specs.Effects.{saw}
use Rattle.mi_core.specs.Events.{after, made_actor}
use Rattle.mi_core.specs.Events.Event.{fork}
use Rattle.mi_forest.specs.Forests.{all_entries}
use Rattle.mi_core.specs.Sound.{Sound}
use Rattle.mi_core.specs.Pages.{forest_of, has_page}
use Rattle.mi_entries.specs.Splits.{AreEntries}
use Rattle.mi_core.specs.State.{count_if, State, board_actor, put_actor}
use Rattle.mi_entries.specs.Actors.{Actor}
use Rattle.std.proofs.lemmas.Option.{none-some, same_Some}
use Rattle.mi_entries.proofs.ContentLemmas.{SameWorks, entries_stay}
use Rattle.mi_entries.proofs.EntryLemmas.{get_more}
use Rattle.mi_core.proofs.PageLemmas.{forest_held}
use Rattle.mi_core.proofs.QuietEvents.{see_keeps}
use Rattle.mi_tree.proofs.ListLemmas.{all_weaker, filter_none}

-- one of a list with one more
pub get_either : {X : Type 0} (xs : List X) (y : X) (i : ℕ) (x : X) → slice_get (xs ++ y ∷ []) i ≡ Some x → (slice_get xs i ≡ Some x) ⊎ ((i ≡ length xs) × (y ≡ x))
get_either [] y zero x h = inr (refl, same_Some y x h)
get_either [] y (suc i) x h = absurd (none-some x h)
get_either (z ∷ xs) y zero x h = inl h
get_either (z ∷ xs) y (suc i) x h = elim (get_either xs y i x h) [ inl l ↦ inl l | inr r ↦ inr (ap suc r.0, r.1) ]

count_more : {X : Type 0} (t : X → Bool) (xs : List X) (y : X) → t y ≡ false → count_if t (xs ++ y ∷ []) ≡ count_if t xs
count_more t [] y h = ap (λ b. cond {A = ℕ} b 1 0 + 0) h
count_more t (x ∷ xs) y h = ap (λ n. cond {A = ℕ} (t x) 1 0 + n) (count_more t xs y h)

-- who is idle is there or not
idle_more : (xs : List ActorState) (i : ℕ) → get_or (xs ++ idle ∷ []) i idle ≡ get_or xs i idle
idle_more [] zero = refl
idle_more [] (suc i) = refl
idle_more (x ∷ xs) zero = refl
idle_more (x ∷ xs) (suc i) = idle_more xs i

least_more : (end : Position) (xs : List ActorState) → least_pin end (xs ++ idle ∷ []) ≡ least_pin end xs
least_more end [] = refl
least_more end (x ∷ xs) = ap (earlier x.pin) (least_more end xs)

module _ (s : State) (k : Sound s) (floor : Position) (at : IsPosition s.board.log floor) (below : events_at floor ≤ events_at (floor_of s.board)) where
  abbrev m : Actor
  m = made_actor s.board floor

  abbrev b' : BoardState
  b' = record s.board { actors = s.board.actors ++ idle ∷ [] }

  abbrev actors' : List Actor
  actors' = s.actors ++ m ∷ []

  abbrev s' : State
  s' = record { board = b'; shards = s.shards; pages = s.pages; actors = actors' }

  longer : length actors' ≡ length s.actors + 1
  longer = length-append s.actors (m ∷ [])

  floor_same : floor_of b' ≡ floor_of s.board
  floor_same = least_more (end_of s.board.log) s.board.actors

  -- what an actor has that the new one has not, an actor had before
  old_one : {X : Type 0} (f : Actor → Option X) → f m ≡ None → (b : ℕ) (t : Actor) (x : X) → slice_get actors' b ≡ Some t → f t ≡ Some x → slice_get s.actors b ≡ Some t
  old_one f none b t x e h = elim (get_either s.actors m b t e) [ inl l ↦ l | inr r ↦ absurd (none-some x (sym none ∙ ap f r.1 ∙ h)) ]

  works : SameWorks s.actors actors'
  works = record {
    split = λ b w h. record { actor = h.actor; there = get_more s.actors (m ∷ []) b h.actor h.there; split = h.split };
    sweep = λ b w h. record { actor = h.actor; there = get_more s.actors (m ∷ []) b h.actor h.there; sweep = h.sweep };
    back = λ b w h. record { actor = h.actor; there = old_one (λ t. t.split) refl b h.actor w h.there h.split; split = h.split };
  }

  held : (p : ℕ) → count_if (has_page p) actors' ≡ count_if (has_page p) s.actors
  held p = count_more (has_page p) s.actors m refl

  retired' : (ps : List (List ℕ)) → AreRetired s.board.log s.actors ps → AreRetired s.board.log actors' ps
  retired' [] h = tt
  retired' (p ∷ ps) h = (h.0, h.1, (λ b t w e z. h.2 b t w (old_one (λ t. t.sweep) refl b t w e z) z), retired' ps h.3)

  old_suits : (b : ℕ) (t : Actor) → slice_get s.actors b ≡ Some t → Suits b' s.shards s.pages b t
  old_suits b t e =
      let o = k.each b t e in
      let h = o.holds in
      let board : board_actor b' b ≡ board_actor s.board b = idle_more s.board.actors b in
      record {
        saw = (let v = o.saw in record { seen = v.seen; floor = v.floor; low = subst (λ (p : Position). events_at t.floor ≤ events_at p) (sym floor_same) v.low; pin = v.pin });
        own = o.own;
        holds = record {
          claim = ap (λ (z : ActorState). z.claim) board ∙ h.claim;
          reserved = ap (λ (z : ActorState). z.reserved) board ∙ h.reserved;
          pin = ap (λ (z : ActorState). z.pin) board ∙ h.pin;
          shard = h.shard;
          leaf = h.leaf;
          split = h.split;
          room = h.room;
        };
        sweep = o.sweep;
        fresh = o.fresh;
      }

  -- it has made no update
  none_made : (n : ℕ) → n ≡ length s.actors → made_by n s.board.log ≡ []
  none_made n e = filter_none (λ (x : Entered). x.session == n) (entered s.board.log) (all_weaker _ _ (λ x l. ne_eqb x.session n (λ same. omega arith)) (entered s.board.log) k.made)

  idle_last : (n : ℕ) → length s.board.actors ≤ n → board_actor b' n ≡ idle
  idle_last n le = idle_more s.board.actors n ∙ past s.board.actors n le
    where
      past : (xs : List ActorState) (n : ℕ) → length xs ≤ n → get_or xs n idle ≡ idle
      past [] n le = refl
      past (x ∷ xs) zero le = absurd (omega arith)
      past (x ∷ xs) (suc n) le = past xs n (omega arith)

  new_suits : (n : ℕ) → n ≡ length s.actors → Suits b' s.shards s.pages n m
  new_suits n e =
      let board : board_actor b' n ≡ idle = idle_last n (omega (arith, k.counted)) in
      record {
        saw = record {
          seen = omega arith;
          floor = at;
          low = subst (λ (p : Position). events_at floor ≤ events_at p) (sym floor_same) below;
          pin = λ p h. absurd (none-some p h);
        };
        own = none_made n e;
        holds = record {
          claim = ap (λ (z : ActorState). z.claim) board;
          reserved = ap (λ (z : ActorState). z.reserved) board;
          pin = ap (λ (z : ActorState). z.pin) board;
          shard = λ i h. absurd (none-some i h);
          leaf = λ p h. absurd (none-some p h);
          split = λ w h. absurd (none-some w h);
          room = λ i h. absurd (none-some i h);
        };
        sweep = λ w h. absurd (none-some w h);
        fresh = λ p h. absurd (none-some p h);
      }

  each' : (b : ℕ) (t : Actor) → slice_get actors' b ≡ Some t → Suits b' s.shards s.pages b t
  each' b t e = elim (get_either s.actors m b t e) [
    | inl l ↦ old_suits b t l
    | inr r ↦ subst (Suits b' s.shards s.pages b) r.1 (new_suits b r.0)
  ]

  pub more_keeps : Sound s'
  more_keeps = record {
    limits = k.limits;
    metric = k.metric;
    chain = k.chain;
    pages = (let p = k.pages in record {
      forest = forest_held (forest_of s.board s.pages s.actors k.chain) (λ n. count_if (has_page n) actors') held p.forest;
      linked = p.linked;
      there = p.there;
      height = p.height;
      length_is = p.length_is;
      most = p.most;
      passed_over = p.passed_over;
    });
    entries = subst (λ (p : Position). AreEntries s.board.settings s.board.log (events_at p) actors' s.board.retired (all_entries (forest_of s.board s.pages s.actors k.chain))) (sym floor_same)
        (entries_stay s.actors actors' works s.board.settings s.board.log (events_at (floor_of s.board)) s.board.retired (all_entries (forest_of s.board s.pages s.actors k.chain)) k.entries);
    each = each';
    retired = retired' s.board.retired k.retired;
    order = k.order;
    sixteen = k.sixteen;
    holders = λ n b h. let o = k.holders n b h in record { actor = o.actor; there = get_more s.actors (m ∷ []) b o.actor o.there; shard = o.shard };
    claims = λ b d t u p eb ed cb cd. k.claims b d t u p (old_one (λ t. t.claim) refl b t p eb cb) (old_one (λ t. t.claim) refl d u p ed cd) cb cd;
    sweeps = λ b d t u v w eb ed cb cd. k.sweeps b d t u v w (old_one (λ t. t.sweep) refl b t v eb cb) (old_one (λ t. t.sweep) refl d u w ed cd) cb cd;
    records = k.records;
    counted = length-append s.board.actors (idle ∷ []) ∙ ap (λ n. n + 1) k.counted ∙ sym longer;
    made = all_weaker _ _ (λ x l. omega (arith, l, longer)) (entered s.board.log) k.made;
    legal = k.legal;
  }

pub fork_keeps : (s : State) (k : Sound s) (a : ℕ) (r : Actor) → slice_get s.actors a ≡ Some r → Sound (after s a r fork)
fork_keeps s k a r there = let v = (k.each a r there).saw in more_keeps (put_actor a (saw s.board r) s) (see_keeps s k a r there) r.floor v.floor v.low
