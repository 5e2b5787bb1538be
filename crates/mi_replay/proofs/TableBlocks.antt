-- What an actor made is a block as its item says, and the table goes on from it.
use Rattle.std.proofs.Common.{◌≡◌, ◌≢◌, ℕ, ◌<◌, List, [], ◌∷◌, ◌++◌, length, true, false, Option, Some, None, refl, sym, ap, ◌∙◌, subst, arith, append-nil, append_assoc, inl, inr}
use Rattle.std.specs.Prelude.{slice_get, slice_set, ◌==◌, ◌&&◌, is_none, is_some}
use Rattle.std.proofs.lemmas.Bool.{false≢true, eqb-true, and_parts}
use Rattle.std.proofs.lemmas.Bool.Decides.{eqb_tells, nat_tests}
use Rattle.std.proofs.lemmas.List.{length-set}
use Rattle.std.proofs.lemmas.Option.{same_Some, slice_get_within}
use Rattle.mi_base.specs.declared.records.Actor.{Actor}
use Rattle.mi_base.specs.declared.records.Actor.TheVariants.{Session, Splitter}
use Rattle.mi_base.specs.declared.records.Op.{Op}
use Rattle.mi_base.specs.declared.records.ScheduleItem.{ScheduleItem}
use Rattle.mi_base.specs.declared.records.Take.{Take}
use Rattle.mi_base.specs.declared.records.Take.TheVariants as take
use Rattle.mi_base.specs.Configuration.{Configuration}
use Rattle.mi_base.specs.History.{Entered}
use Rattle.mi_core.specs.State.{State}
use Rattle.mi_core.proofs.ActorLemmas.{set_else, set_there}
use Rattle.mi_job.specs.declared.job.Job.{Job}
use Rattle.mi_job.specs.Jobs.{asked}
use Rattle.mi_replay.specs.declared.seats.Seat.{Seat}
use Rattle.mi_replay.specs.declared.seats.Taken.{Taken}
use Rattle.mi_replay.specs.declared.seats.Taken.TheVariants.{More, Held, Ended}
use Rattle.mi_settle.specs.declared.splitters.SplitterSeat.{SplitterSeat}
use Rattle.mi_replay.specs.InOrder.{Blocks, IsBlock, SessionOperation}
use Rattle.mi_replay.specs.Seats.{Going, Made, OperationMade, SeatAt, SeatWaits, TurnsMade, UnderWay, is_over}
use Rattle.mi_settle.specs.Splitters.{SplitterAt, SplitterGoing, SplitterMade, SplitterTurnsMade}
use Rattle.mi_replay.specs.Tables.{ItemMade, TableWaits, beginning}
use Rattle.mi_settle.specs.Turns.{Chained, Turn}
use Rattle.mi_settle.proofs.LaterLemmas.{Later, later_all}
use Rattle.mi_replay.proofs.SeatLemmas.{seat_stays}
use Rattle.mi_replay.proofs.TableLemmas.{Apart, apart_by, as_many, not_by, splitter_at_on, splitter_waits_on, waits_on}

-- one more block
blocks_more : (scripts : List (List Op)) (earlier : List Turn) (s : State) (items : List ScheduleItem) (turns : List Turn) (m : State) (i : ScheduleItem) (block : List Turn) (t : State)
    → Blocks scripts earlier s items turns m → Chained m block t → IsBlock scripts (earlier ++ turns) m i.actor i.take block t → Blocks scripts earlier s (items ++ i ∷ []) (turns ++ block) t
blocks_more scripts earlier s [] turns m i block t h chained is =
    let none : turns ≡ [] = h.0 in
    let at : earlier ++ turns ≡ earlier = ap (λ us. earlier ++ us) none ∙ append-nil earlier in (
      block,
      [],
      t,
      ap (λ us. us ++ block) none ∙ sym (append-nil block),
      subst (λ (x : State). Chained x block t) (sym h.1) chained,
      subst (λ (x : State). IsBlock scripts earlier x i.actor i.take block t) (sym h.1) (subst (λ (us : List Turn). IsBlock scripts us m i.actor i.take block t) at is),
      (refl, refl),
    )
blocks_more scripts earlier s (x ∷ items) turns m i block t h chained is =
    let first : List Turn = h.0 in
    let later : List Turn = h.1 in
    let at : earlier ++ turns ≡ (earlier ++ first) ++ later = ap (λ us. earlier ++ us) h.3 ∙ sym (append_assoc earlier first later) in (
      first,
      later ++ block,
      h.2,
      ap (λ us. us ++ block) h.3 ∙ append_assoc first later block,
      h.4,
      h.5,
      blocks_more scripts (earlier ++ first) h.2 items later m i block t h.6 chained (subst (λ (us : List Turn). IsBlock scripts us m i.actor i.take block t) at is),
    )

-- one of two cases
pub by_number : (X : Type 0) (j n : ℕ) → (j ≡ n → X) → (j ≢ n → X) → X
by_number X j n same apart = elim (eqb_tells j n) [ inl e ↦ same e.1 | inr e ↦ apart e.1 ]

pub one_of : {X : Type 0} (xs : List X) (i j : ℕ) (x y : X) → slice_get xs i ≡ Some x → j ≡ i → slice_get xs j ≡ Some y → y ≡ x
one_of xs i j x y h e g = same_Some y x (sym g ∙ ap (slice_get xs) e ∙ h)

-- what holds at the place that was written
here_is : (P : ℕ → List Op → Seat → Type 0) (scripts : List (List Op)) (seats : List Seat) (n : ℕ) (script : List Op) (a b : Seat) (j : ℕ) (os : List Op) (d : Seat)
    → slice_get seats n ≡ Some a → slice_get scripts n ≡ Some script → j ≡ n → slice_get scripts j ≡ Some os → slice_get (slice_set seats n b) j ≡ Some d → P n script b → P j os d
here_is P scripts seats n script a b j os d at_seat at_script e at_os at_d h =
    let same_os : os ≡ script = one_of scripts n j script os at_script e at_os in
    let same_d : d ≡ b = one_of (slice_set seats n b) n j b d (set_there seats n b a at_seat) e at_d in
    subst (λ (x : ℕ). P x os d) (sym e) (subst (λ (x : List Op). P n x d) (sym same_os) (subst (λ (x : Seat). P n script x) (sym same_d) h))

-- what a session's block keeps
module _ (scripts : List (List Op)) (s : State) (seats : List Seat) (x : SplitterSeat) (n : ℕ) (script : List Op) (a : Seat) (t : State) (b : Seat) (w : TableWaits scripts s seats x)
    (at_script : slice_get scripts n ≡ Some script) (at_seat : slice_get seats n ≡ Some a) where
  there : n < length scripts
  there = slice_get_within scripts n script at_script

  else : (j : ℕ) (d : Seat) → j ≢ n → slice_get (slice_set seats n b) j ≡ Some d → slice_get seats j ≡ Some d
  else j d apart at = sym (set_else seats n j b apart) ∙ at

  within : (j : ℕ) (os : List Op) → slice_get scripts j ≡ Some os → j < length s.actors
  within j os at = omega (arith, slice_get_within scripts j os at, w.actors)

  session_made : (made : List Turn) (actor : Actor) (taken : Take) → Made n script s a t b made
      → ((c : Configuration) (turns : List Turn) → SeatAt c turns s n script a → SeatAt c (turns ++ made) t n script b → IsBlock scripts turns s actor taken made t)
      → ItemMade scripts actor taken s seats x t (slice_set seats n b) x
  session_made made actor taken is block =
      let later : Later s t = later_all s made t w.kept is.chained in
      let last : length scripts ≢ n = λ e. absurd (omega (arith, e, there)) in
      let others : (j : ℕ) → j ≢ n → j < length s.actors → Apart j s t = λ j apart lt. apart_by j n s made t apart lt w.kept is.chained is.by is.calls in
      let final : Apart (length scripts) s t = others (length scripts) last (omega (arith, w.actors)) in
      let waits : TableWaits scripts t (slice_set seats n b) x = record {
        kept = later.kept;
        count = length-set seats n b ∙ w.count;
        actors = as_many s made t is.chained is.calls ∙ w.actors;
        each = λ j os d at_os at_d. by_number (SeatWaits t j os d) j n (λ e. here_is (SeatWaits t) scripts seats n script a b j os d at_seat at_script e at_os at_d is.waits)
            (λ apart. waits_on j s t os d (others j apart (within j os at_os)) (w.each j os d at_os (else j d apart at_d)));
        splitter = splitter_waits_on (length scripts) s t x final w.splitter;
      } in
      record {
        on = λ c items ran.
            let here : SeatAt c ran.turns s n script a = ran.at.each n script a at_script at_seat in
            let of : s.board.settings ≡ c = ran.at.settings in
            let now : SeatAt c (ran.turns ++ made) t n script b = subst (λ (k : Configuration). SeatAt k (ran.turns ++ made) t n script b) of (is.seat ran.turns (subst (λ (k : Configuration). SeatAt k ran.turns s n script a) (sym of) here)) in
            record {
              turns = ran.turns ++ made;
              blocks = blocks_more scripts [] (beginning c scripts) items ran.turns s (record { actor = actor; take = taken }) made t ran.blocks is.chained (block c ran.turns here now);
              at = record {
                settings = later.settings ∙ of;
                each = λ j os d at_os at_d. by_number (SeatAt c (ran.turns ++ made) t j os d) j n
                    (λ e. here_is (SeatAt c (ran.turns ++ made) t) scripts seats n script a b j os d at_seat at_script e at_os at_d now)
                    (λ apart. seat_stays c ran.turns made s t j os d (others j apart (within j os at_os)).view (not_by j n made apart is.by) (ran.at.each j os d at_os (else j d apart at_d)));
                splitter = splitter_at_on (length scripts) ran.turns made s t x final later (not_by (length scripts) n made last is.by) ran.at.splitter;
              };
              waits = waits;
            };
        settings = later.settings;
        waits = waits;
      }

none_of : (o : Option Job) → is_some o ≡ false → o ≡ None
none_of None h = refl
none_of (Some j) h = absurd (false≢true (sym h))

none_is : (o : Option Job) → is_none o ≡ true → is_some o ≡ false
none_is None h = refl
none_is (Some j) h = absurd (false≢true h)

not_over : (o : Option Job) (n m : ℕ) → n < m → (is_none o && (n == m)) ≡ false
not_over None n m h = grind (arith, nat_tests)
not_over (Some j) n m h = refl

pub item_turns : (scripts : List (List Op)) (s : State) (seats : List Seat) (x : SplitterSeat) (n : ℕ) (script : List Op) (a : Seat) (count : ℕ) (t : State) (b : Seat)
    → TableWaits scripts s seats x → slice_get scripts n ≡ Some script → slice_get seats n ≡ Some a → TurnsMade n script s a count t b
    → ItemMade scripts (Session n) (take.Turns count) s seats x t (slice_set seats n b) x
item_turns scripts s seats x n script a count t b w at_script at_seat h =
    session_made scripts s seats x n script a t b w at_script at_seat h.made (Session n) (take.Turns count) h.is
    (λ c turns at now. (
      script,
      at_script,
      h.is.by,
      record {
        count_is = h.count;
        begins = λ free some. h.head (not_over a.job (length a.replies.items) (length script) (omega (arith, at.ended_is, some))) (none_of a.job (sym at.busy_is ∙ free));
      },
    ))

under_op : (turns : List Turn) (s : State) (k : ℕ) (script : List Op) (own : List Entered) (n from : ℕ) (o : Option Job) (j : Job) → o ≡ Some j → UnderWay turns s k script own n from o → slice_get script n ≡ Some (asked j)
under_op turns s k script own n from None j e h = cc
under_op turns s k script own n from (Some y) j e h = h.op ∙ ap (λ (z : Job). Some (asked z)) (same_Some y j e)

stopped : (c : Configuration) (turns : List Turn) (s t : State) (k : ℕ) (script : List Op) (a b : Seat) (r : Taken)
    → (g : Going k script s a r t b) → SeatAt c (turns ++ g.made) t k script b → SessionOperation k script turns g.made t
stopped c turns s t k script a b More g at = absurd g.stops
stopped c turns s t k script a b Held g at =
    let held = g.stops.1 in
    inr (inr (record {
      op = asked held.job;
      under_way = ap (slice_get script) at.ended_is ∙ under_op (turns ++ g.made) t k script _ (length b.replies.items) at.to b.job held.job held.is at.under;
      begun = at.busy_is ∙ ap is_some held.is;
      held = held.held;
    }))
stopped c turns s t k script a b Ended g at = inl g.stops.0

nothing : (c : Configuration) (turns : List Turn) (s : State) (k : ℕ) (script : List Op) (a : Seat) → is_over script a ≡ true → SeatAt c turns s k script a → SessionOperation k script turns [] s
nothing c turns s k script a over at =
    let parts = and_parts (is_none a.job) (length a.replies.items == length script) over in
    inr (inl (at.busy_is ∙ none_is a.job parts.0, at.ended_is ∙ eqb-true (length a.replies.items) (length script) parts.1))

pub item_operation : (scripts : List (List Op)) (s : State) (seats : List Seat) (x : SplitterSeat) (n : ℕ) (script : List Op) (a : Seat) (t : State) (b : Seat)
    → TableWaits scripts s seats x → slice_get scripts n ≡ Some script → slice_get seats n ≡ Some a → OperationMade n script s a t b
    → ItemMade scripts (Session n) take.Operation s seats x t (slice_set seats n b) x
item_operation scripts s seats x n script a t b w at_script at_seat (inl h) =
    let none : Made n script s a s a [] = record {
      chained = refl;
      by = tt;
      calls = tt;
      seat = λ turns at. subst (λ (us : List Turn). SeatAt s.board.settings us s n script a) (sym (append-nil turns)) at;
      waits = w.each n script a at_script at_seat;
    } in
    subst (λ (d : Seat). ItemMade scripts (Session n) take.Operation s seats x t (slice_set seats n d) x) (sym h.2)
    (subst (λ (m : State). ItemMade scripts (Session n) take.Operation s seats x m (slice_set seats n a) x) (sym h.1)
    (session_made scripts s seats x n script a s a w at_script at_seat [] (Session n) take.Operation none
    (λ c turns at now. (script, at_script, tt, nothing c turns s n script a h.0 at))))
item_operation scripts s seats x n script a t b w at_script at_seat (inr h) =
    let g = h.1 in
    session_made scripts s seats x n script a t b w at_script at_seat g.made (Session n) take.Operation g.is
    (λ c turns at now. (script, at_script, g.is.by, stopped c turns s t n script a b h.0 g now))

-- what a block of the splitter keeps
module _ (scripts : List (List Op)) (s : State) (seats : List Seat) (x y : SplitterSeat) (t : State) (w : TableWaits scripts s seats x) where
  splitter_made : (made : List Turn) (taken : Take) → SplitterMade (length scripts) s x t y made
      → ((turns : List Turn) → SplitterAt turns s (length scripts) x → SplitterAt (turns ++ made) t (length scripts) y → IsBlock scripts turns s Splitter taken made t)
      → ItemMade scripts Splitter taken s seats x t seats y
  splitter_made made taken is block =
      let n : ℕ = length scripts in
      let later : Later s t = later_all s made t w.kept is.chained in
      let apart : (j : ℕ) (os : List Op) → slice_get scripts j ≡ Some os → j ≢ n = λ j os at e. absurd (omega (arith, e, slice_get_within scripts j os at)) in
      let others : (j : ℕ) (os : List Op) → slice_get scripts j ≡ Some os → Apart j s t =
      λ j os at. apart_by j n s made t (apart j os at) (omega (arith, slice_get_within scripts j os at, w.actors)) w.kept is.chained is.by is.calls in
      let waits : TableWaits scripts t seats y = record {
        kept = later.kept;
        count = w.count;
        actors = as_many s made t is.chained is.calls ∙ w.actors;
        each = λ j os d at_os at_d. waits_on j s t os d (others j os at_os) (w.each j os d at_os at_d);
        splitter = is.waits;
      } in
      record {
        on = λ c items ran.
            let now : SplitterAt (ran.turns ++ made) t n y = is.at ran.turns ran.at.splitter in
            record {
              turns = ran.turns ++ made;
              blocks = blocks_more scripts [] (beginning c scripts) items ran.turns s (record { actor = Splitter; take = taken }) made t ran.blocks is.chained (block ran.turns ran.at.splitter now);
              at = record {
                settings = later.settings ∙ ran.at.settings;
                each = λ j os d at_os at_d. seat_stays c ran.turns made s t j os d (others j os at_os).view (not_by j n made (apart j os at_os) is.by) (ran.at.each j os d at_os at_d);
                splitter = now;
              };
              waits = waits;
            };
        settings = later.settings;
        waits = waits;
      }

  pub splitter_turns : (count : ℕ) → SplitterTurnsMade (length scripts) s x count t y → ItemMade scripts Splitter (take.Turns count) s seats x t seats y
  splitter_turns count h = splitter_made h.made (take.Turns count) h.is
      (λ turns at now. (h.is.by, record { count_is = h.count; begins = λ free some. h.head (resting x.care.task (sym at.busy_is ∙ free)) some }))
    where
      resting : {A : Type 0} (o : Option A) → is_some o ≡ false → o ≡ None
      resting None e = refl
      resting (Some z) e = absurd (false≢true (sym e))

  pub splitter_operation : SplitterGoing (length scripts) s x t y → ItemMade scripts Splitter take.Operation s seats x t seats y
  splitter_operation h = splitter_made h.made take.Operation h.is
      (λ turns at now. (h.is.by, record { none = now.busy_is ∙ ap is_some h.over; stops = h.stops }))
