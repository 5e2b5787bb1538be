-- Which event a section of the splitter made, by what it made of its actor's claim and sweep.
use Rattle.std.proofs.Common.{◌≡◌, ◌≢◌, ℕ, suc, zero, List, [], ◌∷◌, ◌++◌, length, Bool, true, false, not, ◌&&◌, ◌||◌, is_some, Some, None, refl, sym, ap, ◌∙◌, subst, arith, length-append, inl, inr, ◌⊎◌}
use Rattle.std.specs.Prelude.{slice_get, slice_set}
use Rattle.std.proofs.lemmas.Bool.{false≢true}
use Rattle.std.proofs.lemmas.Option.{none-some, same_Some}
use Rattle.std.specs.List.{find, list_any}
use Rattle.mi_base.specs.Configuration.{Configuration}
use Rattle.mi_base.specs.History.{at_position, end_of}
use Rattle.mi_board.specs.declared.actors.ActorState.{ActorState}
use Rattle.mi_board.specs.Actors.{actor_at, is_claim, is_claimed, with_reserved}
use Rattle.mi_board.specs.Boards.{BoardState, floor_of, is_open, is_passed}
use Rattle.mi_board.specs.Floors.{earliest_in}
use Rattle.mi_core.specs.Events.{Can, Event, after}
use Rattle.mi_core.specs.Events.Event.{reserve, pin, unpin, claim_leaf, release_leaf, insert, delete, publish, give_up, take_sweep, take_split, sweep, fork, absorb, depart}
use Rattle.mi_core.specs.Kept.{Kept}
use Rattle.mi_core.specs.State.{State}
use Rattle.mi_core.proofs.ActorLemmas.{set_there}
use Rattle.mi_core.proofs.FloorLemmas.{least_same}
use Rattle.mi_core.proofs.PageLemmas.{fun_same}
use Rattle.mi_entries.specs.Actors.{Actor}
use Rattle.mi_solo.specs.Solos.{IsCall}
use Rattle.mi_solo.specs.Viewing.{swept_leaf}
use Rattle.mi_tree.specs.declared.outcomes.Leaf.{Leaf}
use Rattle.mi_tree.specs.Cells.{same_cell}
use Rattle.mi_tree.specs.Counting.{is_wanted}
use Rattle.mi_tree.specs.Legal.{cells_of}
use Rattle.mi_settle.specs.Working.{IsIdle}
use Rattle.mi_settle.specs.Splitters.{is_given_up}

-- what is to be swept and to be split stays
pub record SameTasks (s t : State) : Type 0 where
  pub settings : t.board.settings ≡ s.board.settings
  pub log : t.board.log ≡ s.board.log
  pub retired : t.board.retired ≡ s.board.retired
  pub passed : t.board.passed_over ≡ s.board.passed_over

-- and so do the claim and the sweep of the event's actor
record Stays (s : State) (r q : Actor) (t : State) : Type 0 where
  claim : q.claim ≡ r.claim
  sweep : q.sweep ≡ r.sweep
  tasks : SameTasks s t

pub same_tasks : (s : State) → SameTasks s s
same_tasks s = record { settings = refl; log = refl; retired = refl; passed = refl }

-- the events that change no claim, no sweep and no log
abbrev is_quiet : Event → Bool
is_quiet (insert op id page node kept e) = false
is_quiet (delete op id page node kept key) = false
is_quiet (claim_leaf p) = false
is_quiet release_leaf = false
is_quiet publish = false
is_quiet (give_up pages) = false
is_quiet (take_sweep p) = false
is_quiet (take_split p) = false
is_quiet (sweep page node) = false
is_quiet fork = false
is_quiet (absorb b t) = false
is_quiet depart = false
is_quiet e = true

-- as many claim a leaf where no claim changes
claimed_same : (f : ActorState → ActorState) → ((x : ActorState) → (f x).claim ≡ x.claim) → (p : List ℕ) (actors : List ActorState) (a : ℕ) → is_claimed p (slice_set actors a (f (actor_at actors a))) ≡ is_claimed p actors
claimed_same f same p [] a = refl
claimed_same f same p (x ∷ actors) zero = ap (λ o. is_claim p o || is_claimed p actors) (same x)
claimed_same f same p (x ∷ actors) (suc a) = ap (λ b. is_claim p x.claim || b) (claimed_same f same p actors a)

-- who has what, as far as next_work asks
record SameSeats (s t : State) : Type 0 where
  floor : floor_of t.board ≡ floor_of s.board
  claimed : (p : List ℕ) → is_claimed p t.board.actors ≡ is_claimed p s.board.actors

same_idle : (s t : State) → SameTasks s t → SameSeats s t → IsIdle t.board → IsIdle s.board
same_idle s t h g idle = record {
  no_sweep = ap (λ f. earliest_in (at_position s.board.log f) s.board.retired) (sym g.floor) ∙ ap (λ l. earliest_in (at_position l (floor_of t.board)) s.board.retired) (sym h.log)
      ∙ ap (λ ps. earliest_in (at_position t.board.log (floor_of t.board)) ps) (sym h.retired) ∙ idle.no_sweep;
  no_split =
      let open_same : is_open s.board ≡ is_open t.board = fun_same _ _ (λ (l : Leaf).
      ap (λ (c : Configuration). is_wanted c.levels c.cell l && (not (is_claimed l.prefix s.board.actors) && not (is_passed l.prefix s.board))) (sym h.settings)
      ∙ ap (λ b. is_wanted t.board.settings.levels t.board.settings.cell l && (not b && not (is_passed l.prefix s.board))) (sym (g.claimed l.prefix))
      ∙ ap (λ ps. is_wanted t.board.settings.levels t.board.settings.cell l && (not (is_claimed l.prefix t.board.actors) && not (list_any (same_cell l.prefix) ps))) (sym h.passed)) in
      ap (λ f. find f (cells_of s.board.settings s.board.log)) open_same ∙ ap (λ c. find (is_open t.board) (cells_of c s.board.log)) (sym h.settings)
      ∙ ap (λ l. find (is_open t.board) (cells_of t.board.settings l)) (sym h.log) ∙ idle.no_split;
}

module _ (s : State) (k : Kept s) (a : ℕ) (r q : Actor) (there : slice_get s.actors a ≡ Some r) where
  is_set : (x : Actor) → slice_get (slice_set s.actors a x) a ≡ Some q → q ≡ x
  is_set x now = same_Some q x (sym now ∙ set_there s.actors a x r there)

  same_claim : (x : Actor) → slice_get (slice_set s.actors a x) a ≡ Some q → q.claim ≡ x.claim
  same_claim x now = ap (λ (z : Actor). z.claim) (is_set x now)

  same_sweep : (x : Actor) → slice_get (slice_set s.actors a x) a ≡ Some q → swept_leaf q.sweep ≡ swept_leaf x.sweep
  same_sweep x now = ap (λ (z : Actor). swept_leaf z.sweep) (is_set x now)

  stayed : (x : Actor) (t : State) → slice_get (slice_set s.actors a x) a ≡ Some q → x.claim ≡ r.claim → x.sweep ≡ r.sweep → SameTasks s t → Stays s r q t
  stayed x t now c w tasks = record { claim = same_claim _ now ∙ c; sweep = ap (λ (z : Actor). z.sweep) (is_set x now) ∙ w; tasks = tasks }

  stays : (e : Event) → is_quiet e ≡ true → slice_get (after s a r e).actors a ≡ Some q → Stays s r q (after s a r e)
  stays (insert op id page node kept e) quiet now = absurd (false≢true quiet)
  stays (delete op id page node kept key) quiet now = absurd (false≢true quiet)
  stays (claim_leaf p) quiet now = absurd (false≢true quiet)
  stays release_leaf quiet now = absurd (false≢true quiet)
  stays publish quiet now = absurd (false≢true quiet)
  stays (give_up pages) quiet now = absurd (false≢true quiet)
  stays (take_sweep p) quiet now = absurd (false≢true quiet)
  stays (take_split p) quiet now = absurd (false≢true quiet)
  stays (sweep page node) quiet now = absurd (false≢true quiet)
  stays fork quiet now = absurd (false≢true quiet)
  stays (absorb b t) quiet now = absurd (false≢true quiet)
  stays depart quiet now = absurd (false≢true quiet)
  stays e quiet now = stayed _ _ now refl refl (record { settings = refl; log = refl; retired = refl; passed = refl })

  -- a sweep that begins was taken
  pub takes_sweep : (e : Event) → IsCall e → Can s a r e → slice_get (after s a r e).actors a ≡ Some q → (p : List ℕ) → r.sweep ≡ None → swept_leaf q.sweep ≡ Some p → (z : List ℕ) × (e ≡ take_sweep z)
  takes_sweep (take_sweep z) call can now p none some = (z, refl)
  takes_sweep (insert op id page node kept e) call can now p none some = absurd (none-some p (ap swept_leaf (sym none) ∙ (sym (same_sweep _ now) ∙ some)))
  takes_sweep (delete op id page node kept key) call can now p none some = absurd (none-some p (ap swept_leaf (sym none) ∙ (sym (same_sweep _ now) ∙ some)))
  takes_sweep (claim_leaf z) call can now p none some = absurd (none-some p (ap swept_leaf (sym none) ∙ (sym (same_sweep _ now) ∙ some)))
  takes_sweep release_leaf call can now p none some = absurd (none-some p (ap swept_leaf (sym none) ∙ (sym (same_sweep _ now) ∙ some)))
  takes_sweep publish call can now p none some = absurd (none-some p (ap swept_leaf (sym none) ∙ (sym (same_sweep _ now) ∙ some)))
  takes_sweep (give_up pages) call can now p none some = absurd (none-some p (ap swept_leaf (sym none) ∙ (sym (same_sweep _ now) ∙ some)))
  takes_sweep (take_split z) call can now p none some = absurd (none-some p (ap swept_leaf (sym none) ∙ (sym (same_sweep _ now) ∙ some)))
  takes_sweep (sweep page node) call can now p none some = absurd (none-some _ (sym none ∙ can.2))
  takes_sweep fork call can now p none some = absurd call
  takes_sweep (absorb b t) call can now p none some = absurd call
  takes_sweep depart call can now p none some = absurd call
  takes_sweep e call can now p none some = absurd (none-some p (ap swept_leaf (sym ((stays e refl now).sweep ∙ none)) ∙ some))

  -- a claim that begins was taken, by the one event or the other
  pub takes_leaf : (e : Event) → IsCall e → Can s a r e → slice_get (after s a r e).actors a ≡ Some q → (p : List ℕ) → r.claim ≡ None → q.claim ≡ Some p → (e ≡ claim_leaf p) ⊎ (e ≡ take_split p)
  takes_leaf (claim_leaf z) call can now p none some = inl (ap claim_leaf (same_Some z p (sym (same_claim _ now) ∙ some)))
  takes_leaf (take_split z) call can now p none some = inr (ap take_split (same_Some z p (sym (same_claim _ now) ∙ some)))
  takes_leaf (insert op id page node kept e) call can now p none some = absurd (none-some p (sym none ∙ (sym (same_claim _ now) ∙ some)))
  takes_leaf (delete op id page node kept key) call can now p none some = absurd (none-some p (sym none ∙ (sym (same_claim _ now) ∙ some)))
  takes_leaf release_leaf call can now p none some = absurd (none-some p (sym (same_claim _ now) ∙ some))
  takes_leaf publish call can now p none some = absurd (none-some p (sym (same_claim _ now) ∙ some))
  takes_leaf (give_up pages) call can now p none some = absurd (none-some p (sym (same_claim _ now) ∙ some))
  takes_leaf (take_sweep z) call can now p none some = absurd (none-some p (sym none ∙ (sym (same_claim _ now) ∙ some)))
  takes_leaf (sweep page node) call can now p none some = absurd (none-some p (sym none ∙ (sym (same_claim _ now) ∙ some)))
  takes_leaf fork call can now p none some = absurd call
  takes_leaf (absorb b t) call can now p none some = absurd call
  takes_leaf depart call can now p none some = absurd call
  takes_leaf e call can now p none some = absurd (none-some p (sym ((stays e refl now).claim ∙ none) ∙ some))

  -- a sweep that ends was swept on
  pub ends_sweep : (e : Event) → IsCall e → Can s a r e → slice_get (after s a r e).actors a ≡ Some q → (p : List ℕ) → swept_leaf r.sweep ≡ Some p → swept_leaf q.sweep ≡ None
      → (page : ℕ) × (node : Rattle.mi_page.specs.Nodes.Node) × (e ≡ sweep page node)
  ends_sweep (sweep page node) call can now p some none = (page, node, refl)
  ends_sweep (insert op id page node kept e) call can now p some none = absurd (none-some p (sym none ∙ (same_sweep _ now ∙ some)))
  ends_sweep (delete op id page node kept key) call can now p some none = absurd (none-some p (sym none ∙ (same_sweep _ now ∙ some)))
  ends_sweep (claim_leaf z) call can now p some none = absurd (none-some p (sym none ∙ (same_sweep _ now ∙ some)))
  ends_sweep release_leaf call can now p some none = absurd (none-some p (sym none ∙ (same_sweep _ now ∙ some)))
  ends_sweep publish call can now p some none = absurd (none-some p (sym none ∙ (same_sweep _ now ∙ some)))
  ends_sweep (give_up pages) call can now p some none = absurd (none-some p (sym none ∙ (same_sweep _ now ∙ some)))
  ends_sweep (take_split z) call can now p some none = absurd (none-some p (sym none ∙ (same_sweep _ now ∙ some)))
  ends_sweep (take_sweep z) call can now p some none = absurd (none-some p (sym (ap swept_leaf can.0.sweep) ∙ some))
  ends_sweep fork call can now p some none = absurd call
  ends_sweep (absorb b t) call can now p some none = absurd call
  ends_sweep depart call can now p some none = absurd call
  ends_sweep e call can now p some none = absurd (none-some p (sym (sym (ap swept_leaf (stays e refl now).sweep) ∙ none) ∙ some))

  -- a claim that ends was let go, published or given up
  pub ends_claim : (e : Event) → IsCall e → Can s a r e → slice_get (after s a r e).actors a ≡ Some q → (p : List ℕ) → r.claim ≡ Some p → q.claim ≡ None
      → (e ≡ release_leaf) ⊎ ((e ≡ publish) ⊎ ((pages : Bool) × (e ≡ give_up pages)))
  ends_claim release_leaf call can now p some none = inl refl
  ends_claim publish call can now p some none = inr (inl refl)
  ends_claim (give_up pages) call can now p some none = inr (inr (pages, refl))
  ends_claim (insert op id page node kept e) call can now p some none = absurd (none-some p (sym none ∙ (same_claim _ now ∙ some)))
  ends_claim (delete op id page node kept key) call can now p some none = absurd (none-some p (sym none ∙ (same_claim _ now ∙ some)))
  ends_claim (claim_leaf z) call can now p some none = absurd (none-some p (sym can.free.claim ∙ some))
  ends_claim (take_split z) call can now p some none = absurd (none-some p (sym can.0.claim ∙ some))
  ends_claim (take_sweep z) call can now p some none = absurd (none-some p (sym can.0.claim ∙ some))
  ends_claim (sweep page node) call can now p some none = absurd (none-some p (sym none ∙ (same_claim _ now ∙ some)))
  ends_claim fork call can now p some none = absurd call
  ends_claim (absorb b t) call can now p some none = absurd call
  ends_claim depart call can now p some none = absurd call
  ends_claim e call can now p some none = absurd (none-some p (sym (sym (stays e refl now).claim ∙ none) ∙ some))

  -- Where the claim stays, no sweep begins, and no update is made, all that is to be done stays, and no split is given up.
  pub goes_on : (e : Event) → IsCall e → Can s a r e → slice_get (after s a r e).actors a ≡ Some q → q.claim ≡ r.claim → (swept_leaf r.sweep ≡ None → swept_leaf q.sweep ≡ None) → q.own ≡ r.own
      → SameTasks s (after s a r e) × ((pages : Bool) → is_given_up pages (Some e) ≡ false) × ((is_quiet e ≡ true) ⊎ ((after s a r e).board ≡ s.board))
  goes_on (insert op id page node kept e) call can now claim sweeps own = absurd (longer r.own _ (sym (ap (λ (x : Actor). x.own) (is_set _ now)) ∙ own))
    where
      longer : {X : Type 0} (xs : List X) (x : X) → xs ++ x ∷ [] ≢ xs
      longer xs x e = let l = ap length e in absurd (omega (arith, l, length-append xs (x ∷ [])))
  goes_on (delete op id page node kept key) call can now claim sweeps own = absurd (longer r.own _ (sym (ap (λ (x : Actor). x.own) (is_set _ now)) ∙ own))
    where
      longer : {X : Type 0} (xs : List X) (x : X) → xs ++ x ∷ [] ≢ xs
      longer xs x e = let l = ap length e in absurd (omega (arith, l, length-append xs (x ∷ [])))
  goes_on (claim_leaf z) call can now claim sweeps own = absurd (none-some z (sym (sym (same_claim _ now) ∙ claim ∙ can.free.claim)))
  goes_on (take_split z) call can now claim sweeps own = absurd (none-some z (sym (sym (same_claim _ now) ∙ claim ∙ can.0.claim)))
  goes_on release_leaf call can now claim sweeps own = absurd (none-some can.0 (sym (same_claim _ now) ∙ claim ∙ can.1))
  goes_on publish call can now claim sweeps own =
      absurd (none-some can.0.leaf (sym (same_claim _ now) ∙ claim ∙ (k.sound.each a r there).holds.split can.0 can.1.split))
  goes_on (give_up pages) call can now claim sweeps own = absurd (none-some can.0 (sym (same_claim _ now) ∙ claim ∙ can.1))
  goes_on (take_sweep z) call can now claim sweeps own =
      absurd (none-some z (sym (sweeps (ap swept_leaf can.0.sweep)) ∙ same_sweep _ now))
  goes_on (sweep page node) call can now claim sweeps own = (record { settings = refl; log = refl; retired = refl; passed = refl }, λ pages. none_given pages, inr refl)
    where
      none_given : (pages : Bool) → is_given_up pages (Some (sweep page node)) ≡ false
      none_given true = refl
      none_given false = refl
  goes_on fork call can now claim sweeps own = absurd call
  goes_on (absorb b t) call can now claim sweeps own = absurd call
  goes_on depart call can now claim sweeps own = absurd call
  goes_on e call can now claim sweeps own = ((stays e refl now).tasks, λ pages. quiet_gives e refl pages, inl refl)
    where
      quiet_gives : (e : Event) → is_quiet e ≡ true → (pages : Bool) → is_given_up pages (Some e) ≡ false
      quiet_gives (give_up q) h pages = absurd (false≢true h)
      quiet_gives e h true = refl
      quiet_gives e h false = refl

  seats : (e : Event) → is_quiet e ≡ true → Can s a r e → slice_get (after s a r e).actors a ≡ Some q → is_some q.pin ≡ is_some r.pin → SameSeats s (after s a r e)
  seats (insert op id page node kept e) quiet can now pins = absurd (false≢true quiet)
  seats (delete op id page node kept key) quiet can now pins = absurd (false≢true quiet)
  seats (claim_leaf p) quiet can now pins = absurd (false≢true quiet)
  seats release_leaf quiet can now pins = absurd (false≢true quiet)
  seats publish quiet can now pins = absurd (false≢true quiet)
  seats (give_up pages) quiet can now pins = absurd (false≢true quiet)
  seats (take_sweep p) quiet can now pins = absurd (false≢true quiet)
  seats (take_split p) quiet can now pins = absurd (false≢true quiet)
  seats (sweep page node) quiet can now pins = absurd (false≢true quiet)
  seats fork quiet can now pins = absurd (false≢true quiet)
  seats (absorb b t) quiet can now pins = absurd (false≢true quiet)
  seats depart quiet can now pins = absurd (false≢true quiet)
  seats (reserve n kept room) quiet can now pins = record {
    floor = least_same (with_reserved true) (λ x. refl) (end_of s.board.log) s.board.actors a;
    claimed = λ p. claimed_same (with_reserved true) (λ x. refl) p s.board.actors a;
  }
  seats pin quiet can now pins = absurd (false≢true (sym (ap is_some can) ∙ sym pins ∙ ap (λ (x : Actor). is_some x.pin) (is_set _ now)))
  seats unpin quiet can now pins = absurd (false≢true (sym (ap (λ (x : Actor). is_some x.pin) (is_set _ now)) ∙ pins ∙ ap is_some can.1))
  seats e quiet can now pins = record { floor = refl; claimed = λ p. refl }

  -- Where there is nothing to do after such an event, there was nothing before it.
  pub was_idle : (e : Event) → IsCall e → Can s a r e → slice_get (after s a r e).actors a ≡ Some q → q.claim ≡ r.claim → (swept_leaf r.sweep ≡ None → swept_leaf q.sweep ≡ None) → q.own ≡ r.own
      → is_some q.pin ≡ is_some r.pin → IsIdle (after s a r e).board → IsIdle s.board
  was_idle e call can now claim sweeps own pins idle =
      let g = goes_on e call can now claim sweeps own in
      elim g.2 [
        | inl quiet ↦ same_idle s (after s a r e) g.0 (seats e quiet can now pins) idle
        | inr same ↦ subst (λ (b : BoardState). IsIdle b) same idle
      ]
