-- What each actor sees of the board.
use Rattle.std.proofs.Common.{◌≡◌, ℕ, suc, zero, ◌≤◌, ◌==◌, List, [], ◌∷◌, length, get_or, ◌-◌, map, Bool, true, false, cond, ◌||◌, IsTrue, refl, sym, ap, ◌∙◌, subst, arith, Option, Some, None, inl, inr, is_some, eq-eqb, eqb-true}
use Rattle.std.specs.Prelude.{slice_get}
use Rattle.std.specs.List.{find, list_any}
use Rattle.std.proofs.lemmas.Bool.{cases_lt, false≢true}
use Rattle.std.proofs.lemmas.Option.{none-some, slice_get-get_or}
use Rattle.std.proofs.lemmas.List.{length-take-le}
use Rattle.mi_base.specs.declared.records.LogEvent.{LogEvent}
use Rattle.mi_base.specs.declared.records.Position.{Position}
use Rattle.mi_base.specs.Configuration.{Configuration}
use Rattle.mi_base.specs.History.{IsPosition, at_position, end_of, events_at, is_among, updates_of}
use Rattle.mi_tree.specs.Births.{Born, born, living}
use Rattle.mi_tree.specs.Cells.{same_cell}
use Rattle.mi_tree.proofs.CountLemmas.{cat_has}
use Rattle.mi_board.specs.Actors.{idle}
use Rattle.mi_board.specs.declared.actors.ActorState.{ActorState}
use Rattle.mi_entries.specs.Actors.{Actor, Pin}
use Rattle.mi_entries.specs.Entries.{grid}
use Rattle.mi_entries.specs.Records.{home, record_of}
use Rattle.mi_entries.proofs.RecordLemmas.{born_live, object}
use Rattle.mi_core.specs.Actors.{pinned_at}
use Rattle.mi_core.specs.Events.{first_actor}
use Rattle.mi_core.specs.Kept.{Kept}
use Rattle.mi_core.specs.Pages.{node_or_fresh}
use Rattle.mi_core.specs.State.{State, board_actor}
use Rattle.mi_core.proofs.KeptLemmas.{on_board, pins_stand}
use Rattle.mi_core.proofs.NamedLemmas.{first_page}
use Rattle.mi_world.specs.View.{Agrees, SeesBoard, pin_position, shard_of}
use Rattle.mi_solo.specs.Viewing.{holder_from, leaf_wanted, pinned_log, record_shown, records_in, shown_to}
use Rattle.mi_solo.proofs.ViewLemmas.{claim_is, holder_alone, holder_is}

found_among : (id : ℕ) (os : List Born) (o : Born) → find (λ x. x.id == id) os ≡ Some o → is_among id (map object os) ≡ true
found_among id [] o h = cc
found_among id (x ∷ os) o h =
    let P : Bool → Type 0 = λ b. cond b (Some x) (find (λ x. x.id == id) os) ≡ Some o → (b || is_among id (map object os)) ≡ true in
    (elim (x.id == id) as P [ true ↦ λ _. refl | false ↦ λ e. found_among id os o e ]) h

none_among : (id : ℕ) (os : List Born) → find (λ x. x.id == id) os ≡ None → is_among id (map object os) ≡ false
none_among id [] h = refl
none_among id (x ∷ os) h =
    let P : Bool → Type 0 = λ b. cond b (Some x) (find (λ x. x.id == id) os) ≡ None → (b || is_among id (map object os)) ≡ false in
    (elim (x.id == id) as P [ true ↦ λ e. absurd cc | false ↦ λ e. none_among id os e ]) h

agrees : (c : Configuration) (log : List LogEvent) (id : ℕ) → Agrees c log id (record_shown (record_of c (living id log)))
agrees c log id =
    let P : Option Born → Type 0 = λ o. living id log ≡ o → Agrees c log id (record_shown (record_of c o)) in
    (elim (living id log) as P [
      | None ↦ λ e. ap (is_among id) (sym (born_live (updates_of log))) ∙ none_among id (born (updates_of log)) e
      | Some o ↦ λ e. (ap (is_among id) (sym (born_live (updates_of log))) ∙ found_among id (born (updates_of log)) o e, (o, e, refl, refl))
    ]) refl

-- the position of a pinned part of the log is that of the pin
end_at : (log : List LogEvent) (p : Position) → IsPosition log p → end_of (at_position log p) ≡ p
end_at log p is =
    let long : length (at_position log p) ≡ events_at p = length-take-le (events_at p) log is.within in
    let one : length (updates_of (at_position log p)) ≡ p.updates = is.updates in
    record_is (length (updates_of (at_position log p))) (length (at_position log p)) p one long
  where
    record_is : (u n : ℕ) (q : Position) → u ≡ q.updates → n ≡ events_at q → record { updates = u; splits = n - u } ≡ q
    record_is u n q e f = (let less : n - u ≡ q.splits = omega (arith, e, f) in rw (e, sym e, less) refl)

pins_at : (log : List LogEvent) (o : Option Pin) → ((p : Pin) → o ≡ Some p → IsPosition log p.at) → pinned_at o ≡ pin_position (pinned_log log o)
pins_at log None h = refl
pins_at log (Some p) h = ap Some (sym (end_at log p.at (h p refl)))

pub get_or_past : {X : Type 0} (xs : List X) (i : ℕ) (d : X) → length xs ≤ i → get_or xs i d ≡ d
get_or_past [] i d h = refl
get_or_past (x ∷ xs) zero d h = absurd (omega arith)
get_or_past (x ∷ xs) (suc i) d h = get_or_past xs i d (omega arith)

-- a leaf on a list
any_cons : (p : List ℕ) (ps : List (List ℕ)) → IsTrue (list_any (same_cell p) ps) → (q : List ℕ) × (qs : List (List ℕ)) × (ps ≡ q ∷ qs)
any_cons p [] h = absurd (false≢true h)
any_cons p (q ∷ qs) h = (q, qs, refl)

module _ (s : State) (k : Kept s) (a : ℕ) (r : Actor) (there : slice_get s.actors a ≡ Some r) where
  -- the shard's records agree with the log
  guards : (id : ℕ) → r.shard ≡ Some (shard_of id) → Agrees s.board.settings s.board.log id (records_in s.shards r.shard id)
  guards id h =
      let low = ((k.sound.each a r there).holds.shard (home id) h).0 in
      subst (λ o. Agrees s.board.settings s.board.log id (records_in s.shards o id)) (sym h)
      (subst (λ o. Agrees s.board.settings s.board.log id (record_shown o)) (sym (k.sound.records (home id) id low ∙ (rw (eq-eqb (home id) (home id) refl) refl))) (agrees s.board.settings s.board.log id))

  -- another actor that claims a leaf has it in its record
  pub claims_it : (b : ℕ) (p : List ℕ) → (board_actor s.board b).claim ≡ Some p → (t : Actor) × (slice_get s.actors b ≡ Some t) × (t.claim ≡ Some p)
  claims_it b p h = elim (cases_lt b (length s.actors)) [
    | inl lt ↦
        let t : Actor = get_or s.actors b first_actor in
        let e = slice_get-get_or s.actors b first_actor lt in
        (t, e, sym (k.sound.each b t e).holds.claim ∙ h)
    | inr le ↦
        let none : board_actor s.board b ≡ idle = get_or_past s.board.actors b idle (omega (arith, k.sound.counted)) in
        absurd (none-some p (sym (ap (λ (z : ActorState). z.claim) none) ∙ h))
  ]

  -- who claims a leaf is its holder, and the holder claims it
  pub holds_it : (p : List ℕ) → r.claim ≡ Some p → holder_from 0 s.board.actors p ≡ Some a
  holds_it p its = holder_alone 0 s.board.actors p a (on_board s k.sound a r there) ((k.sound.each a r there).holds.claim ∙ its)
      (λ j e. let t = claims_it j p e in k.sound.claims j a t.0 r p t.1 there t.2 its) ∙ ap Some (omega arith)

  pub held_alone : (p : List ℕ) → holder_from 0 s.board.actors p ≡ Some a → r.claim ≡ Some p
  held_alone p h =
      let t = holder_is 0 s.board.actors p a h in
      let same : t.0 ≡ a = omega (arith, t.1) in
      sym (k.sound.each a r there).holds.claim ∙ ap (λ i. (board_actor s.board i).claim) (sym same) ∙ claim_is p (board_actor s.board t.0).claim t.2

  pub sees_board : SeesBoard (shown_to s a r)
  sees_board =
      let h = (k.sound.each a r there).holds in
      let w = (k.sound.each a r there).saw in
      let f = first_page s k.sound in
      record {
        limits = k.sound.limits;
        legal = k.sound.legal;
        guards = guards;
        few = k.sound.pages.most;
        all = λ e. eqb-true s.board.allotted s.board.settings.pages e;
        passed = λ p e. let x = any_cons p s.board.passed_over e in k.sound.pages.passed_over x.0 x.1 x.2;
        holds = holds_it;
        alone = held_alone;
        pin = h.pin ∙ pins_at s.board.log r.pin (λ p e. (w.pin p e).0);
        there = λ p e. cat_has (grid s.board.settings) s.board.log p ∙ h.leaf p e;
        wanted = λ p e. ap (leaf_wanted s.board.settings s.board.log) e;
        read = λ b p e. pins_stand s k.sound b p e;
        given = omega arith;
        retired = k.sound.order;
        first = record {
          named = ap is_some f.1;
          level_is = ap (λ o. (node_or_fresh o).level) f.1 ∙ f.2;
          low_is = ap (λ o. (node_or_fresh o).low) f.1 ∙ f.3;
        };
      }
