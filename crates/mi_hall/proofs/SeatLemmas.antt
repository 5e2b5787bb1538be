-- The view of a seat is that of the state which it fits, by what it knows.
use Rattle.std.proofs.Common.{◌≡◌, ℕ, suc, zero, ◌≤◌, ◌||◌, ◌==◌, List, [], ◌∷◌, ◌++◌, length, take, drop, Bool, true, false, IsTrue, refl, sym, ap, ◌∙◌, arith, Option, Some, None, inl, inr, eq-eqb, length-append, is_some}
use Rattle.std.specs.List.{AllByRecursion, find}
use Rattle.std.proofs.lemmas.List.{take-append-drop}
use Rattle.mi_base.specs.declared.records.LogEvent.{LogEvent}
use Rattle.mi_base.specs.Configuration.{Configuration}
use Rattle.mi_base.specs.History.{events_at, updates_of}
use Rattle.mi_base.proofs.HistoryLemmas.{updates_of-append}
use Rattle.mi_core.specs.Kept.{Kept}
use Rattle.mi_core.specs.Named.{IsNamed, Named}
use Rattle.mi_core.specs.Pages.{node_or_fresh}
use Rattle.mi_core.specs.State.{State}
use Rattle.mi_entries.specs.Actors.{Actor, Pin}
use Rattle.mi_entries.specs.Records.{Rows, shard_at}
use Rattle.mi_latch.specs.Views.{Fits, IsOne, Mine, Sight, first_page}
use Rattle.mi_latch.specs.Wanting as latch
use Rattle.mi_solo.specs.Viewing.{leaf_wanted, pinned_log, record_shown, records_in, shown_to}
use Rattle.mi_tree.specs.Growing.{Grows}
use Rattle.mi_hall.specs.Knowledge.{IsShown, Knows, is_named, view_by}
use Rattle.mi_hall.specs.Seats.{knowledge, records_out, rows_out, seat_view, view_of}

-- a part of a part of a log
pub take_take : {X : Type 0} (i j : ℕ) (l : List X) → i ≤ j → take i (take j l) ≡ take i l
take_take zero j l h = refl
take_take (suc i) zero l h = absurd (omega arith)
take_take (suc i) (suc j) [] h = refl
take_take (suc i) (suc j) (x ∷ l) h = ap (λ t. x ∷ t) (take_take i j l (omega arith))

-- the part of a log that a pin has is there in what was seen of it
pub pinned_seen : (seen : ℕ) (log mine : List LogEvent) (pin : Option Pin) → mine ≡ take seen log → ((p : Pin) → pin ≡ Some p → events_at p.at ≤ seen) → pinned_log mine pin ≡ pinned_log log pin
pinned_seen seen log mine None is h = refl
pinned_seen seen log mine (Some p) is h = ap Some (ap (take (events_at p.at)) is ∙ take_take (events_at p.at) seen log (h p refl))

-- the pages that it was told of are shown
pub shows_named : (s : State) (a : ℕ) (r : Actor) (names : List Named) → ((x : Named) → IsOne x names → IsNamed s.pages x) → AllByRecursion (IsShown (shown_to s a r)) names
shows_named s a r [] h = tt
shows_named s a r (x ∷ names) h =
    let i = h x (inl refl) in
    (record { named = ap is_some i.there; level = ap (λ o. (node_or_fresh o).level) i.there ∙ i.level; low = ap (λ o. (node_or_fresh o).low) i.there ∙ i.low }, shows_named s a r names (λ y e. h y (inr e)))

one_named : (x : Named) (names : List Named) → IsOne x names → IsTrue (is_named names x.page)
one_named x [] h = absurd h
one_named x (y ∷ names) (inl e) = rw (e, eq-eqb x.page x.page refl) refl
one_named x (y ∷ names) (inr e) =
    let P : Bool → Type 0 = λ b. IsTrue (b || is_named names x.page) in
    elim (y.page == x.page) as P [ true ↦ refl | false ↦ one_named x names e ]

module _ (c : State) (k : Kept c) (v : Sight) (f : Fits c v.actor v.mine) where
  abbrev m : Mine
  m = v.mine

  abbrev r : Actor
  r = v.mine.part

  log_grows : Grows v.mine.log c.board.log
  log_grows = record { by = drop r.seen c.board.log; is = sym (take-append-drop r.seen c.board.log) ∙ ap (λ l. l ++ drop r.seen c.board.log) (sym f.knows.log) }

  pub seat_knows : Knows (shown_to c v.actor v.mine.part) (knowledge v)
  seat_knows = record {
    seen = log_grows;
    few = (let few = k.sound.legal.few in let g = log_grows in
        omega (arith, few, ap (λ l. length (updates_of l)) g.is, ap length (updates_of-append m.log g.by), length-append (updates_of m.log) (updates_of g.by)));
    told = λ e. eq-eqb c.board.allotted c.board.settings.pages (f.knows.told e);
    pages = shows_named c v.actor r m.named f.knows.named;
    first = one_named first_page m.named f.knows.first;
    least = f.knows.least;
    allotted = f.knows.note.allotted;
    given = f.knows.note.given;
  }

-- whether a leaf is to be split is said alike
wanted_same : (c : Configuration) (log : List LogEvent) (o : Option (List ℕ)) → latch.leaf_wanted c log o ≡ leaf_wanted c log o
wanted_same c log None = refl
wanted_same c log (Some p) = refl

-- what of a seat's view is read off the state: the settings, the pinned log, the records of the shard, and whether the leaf is to be split
module _ (c : State) (v : Sight) (settings : v.mine.note.board.settings ≡ c.board.settings) (pin : pinned_log v.mine.log v.mine.part.pin ≡ pinned_log c.board.log v.mine.part.pin)
    (rows : (n : ℕ) → v.mine.part.shard ≡ Some n → rows_out v.out n ≡ (shard_at c.shards n).rows) (wanted : v.mine.wanted ≡ latch.leaf_wanted c.board.settings c.board.log v.mine.part.claim) where
  abbrev o : Actor
  o = v.mine.part

  records_are : (k : Option ℕ) → ((n : ℕ) → k ≡ Some n → rows_out v.out n ≡ (shard_at c.shards n).rows) → records_out v.out k ≡ records_in c.shards k
  records_are None h = refl
  records_are (Some n) h = ap (λ (x : Rows). λ id. record_shown (find (λ y. y.id == id) x.records)) (h n refl)

  pub seat_shows : seat_view v ≡ view_by (knowledge v) (shown_to c v.actor v.mine.part)
  seat_shows =
      ap (λ z. view_of z v.actor o (pinned_log v.mine.log o.pin) (records_out v.out o.shard) v.mine.wanted (knowledge v)) settings
      ∙ ap (λ z. view_of c.board.settings v.actor o z (records_out v.out o.shard) v.mine.wanted (knowledge v)) pin
      ∙ ap (λ z. view_of c.board.settings v.actor o (pinned_log c.board.log o.pin) z v.mine.wanted (knowledge v)) (records_are o.shard rows)
      ∙ ap (λ z. view_of c.board.settings v.actor o (pinned_log c.board.log o.pin) (records_in c.shards o.shard) z (knowledge v)) (wanted ∙ wanted_same c.board.settings c.board.log o.claim)

-- the view of a seat that fits, with the rows of its shard in hand
pub seat_is : (c : State) (v : Sight) → Fits c v.actor v.mine → ((n : ℕ) → v.mine.part.shard ≡ Some n → rows_out v.out n ≡ (shard_at c.shards n).rows)
    → seat_view v ≡ view_by (knowledge v) (shown_to c v.actor v.mine.part)
seat_is c v f rows = seat_shows c v (sym f.knows.note.settings) (pinned_seen v.mine.part.seen c.board.log v.mine.log v.mine.part.pin f.knows.log f.knows.pin) rows f.knows.wanted
