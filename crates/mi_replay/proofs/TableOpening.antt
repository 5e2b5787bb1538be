-- Where all stand before anything was done, and how items follow one another.
use Rattle.std.proofs.Common.{◌≡◌, ℕ, suc, ◌+◌, ◌<◌, ◌≤◌, List, [], ◌∷◌, ◌++◌, length, false, true, Option, Some, None, refl, sym, ap, ◌∙◌, subst, arith, append-nil, append_assoc, inl, inr}
use Rattle.std.specs.Prelude.{◌==◌, ◌&&◌, is_none, is_some, slice_get}
use Rattle.std.specs.List.{AllByRecursion}
use Rattle.std.proofs.lemmas.Bool.{eqb-true, false≢true}
use Rattle.std.proofs.lemmas.List.{get_or-replicate, length-replicate}
use Rattle.std.proofs.lemmas.Option.{none-some, same_Some, slice_get_within}
use Rattle.mi_base.specs.declared.records.Op.{Op}
use Rattle.mi_base.specs.declared.records.ScheduleItem.{ScheduleItem}
use Rattle.mi_base.specs.Configuration.{Configuration, metric_space}
use Rattle.mi_base.specs.Scripts.{IsScriptOver}
use Rattle.mi_core.specs.Events.{first_actor}
use Rattle.mi_core.specs.Kept.{Kept}
use Rattle.mi_core.specs.State.{State}
use Rattle.mi_core.proofs.ForkEvents.{get_either}
use Rattle.mi_entries.specs.Actors.{Actor}
use Rattle.mi_job.specs.declared.job.Job.{Job}
use Rattle.mi_job.specs.Claims.{ClaimsNone}
use Rattle.mi_legal.specs.Legal.{accepted_in}
use Rattle.mi_solo.specs.Solos.{MayTurn}
use Rattle.mi_solo.specs.States.{actor_in, view_in}
use Rattle.mi_tree.proofs.ListLemmas.{all_get}
use Rattle.mi_solo.specs.Viewing.{shown_to}
use Rattle.mi_replay.specs.declared.seats.Seat.{Seat}
use Rattle.mi_settle.specs.declared.splitters.SplitterSeat.{SplitterSeat}
use Rattle.mi_replay.specs.InOrder.{round, rounds}
use Rattle.mi_replay.specs.Seats.{AsksAt, IsEmpty, SeatAt, SeatWaits, UnderWay, WaitsAt, is_over}
use Rattle.mi_settle.specs.Splitters.{SplitterAt, SplitterWaits}
use Rattle.mi_replay.specs.Tables.{AllOver, ItemsMade, Ran, TableWaits, beginning}
use Rattle.mi_replay.specs.Operations.{Operations}
use Rattle.mi_replay.proofs.TableBlocks.{by_number, one_of}

-- nothing was replied to the first scripts, and there is room for the replies
pub record AreEmpty (scripts : List (List Op)) (seats : List Seat) : Type 0 where
  pub each : (j : ℕ) (os : List Op) (a : Seat) → slice_get scripts j ≡ Some os → slice_get seats j ≡ Some a → IsEmpty (length os) a

pub empty_none : (scripts : List (List Op)) → AreEmpty scripts []
empty_none scripts = record { each = λ j os a at_os at_a. absurd (none-some a at_a) }

pub empty_more : (scripts : List (List Op)) (seats : List Seat) (script : List Op) (a : Seat) → AreEmpty scripts seats → slice_get scripts (length seats) ≡ Some script → IsEmpty (length script) a
    → AreEmpty scripts (seats ++ a ∷ [])
empty_more scripts seats script a h at one = record {
  each = λ j os d at_os at_d. elim (get_either seats a j d at_d) [
    | inl x ↦ h.each j os d at_os x
    | inr x ↦
        let same : script ≡ os = same_Some script os (sym at ∙ ap (slice_get scripts) (sym x.0) ∙ at_os) in
        subst (λ (z : Seat). IsEmpty (length os) z) x.1 (subst (λ (z : List Op). IsEmpty (length z) a) same one)
  ];
}

-- an actor at the opening
module _ (c : Configuration) (scripts : List (List Op)) where
  count : length (beginning c scripts).actors ≡ length scripts + 1
  count = length-replicate (length scripts + 1) first_actor

  first_at : (j : ℕ) → j < length scripts + 1 → actor_in (beginning c scripts) j ≡ first_actor
  first_at j lt = get_or-replicate (length scripts + 1) j first_actor first_actor lt

  may_first : (j : ℕ) → j < length scripts + 1 → MayTurn (beginning c scripts) j
  may_first j lt = record { made = omega (arith, count, lt); going = ap (λ (r : Actor). r.ended) (first_at j lt) }

  claims_first : (j : ℕ) → j < length scripts + 1 → ClaimsNone (view_in (beginning c scripts) j)
  claims_first j lt =
      subst (λ (r : Actor). ClaimsNone (shown_to (beginning c scripts) j r)) (sym (first_at j lt))
      (record { nothing = record { shard = refl; leaf = refl; sweep = refl; pin = refl }; unsplit = refl })

  own_first : (j : ℕ) → j < length scripts + 1 → (view_in (beginning c scripts) j).own ≡ []
  own_first j lt = ap (λ (r : Actor). r.own) (first_at j lt)

  accepted_none : (k j : ℕ) (os : List Op) → accepted_in k j os [] ≡ []
  accepted_none k j [] = refl
  accepted_none k j (o ∷ os) = refl

  done_none : (k : ℕ) (os : List Op) → Operations c [] k 1 0 0 os []
  done_none k [] = omega arith
  done_none k (o ∷ os) = omega arith

  seat_first : (j : ℕ) (os : List Op) (a : Seat) → j < length scripts + 1 → IsEmpty (length os) a → SeatAt c [] (beginning c scripts) j os a
  seat_first j os a lt h = record {
    to = 0;
    done = subst (λ ys. Operations c [] j 1 0 0 os ys) (sym h.empty) (done_none j os);
    within = omega arith;
    under = subst (UnderWay [] (beginning c scripts) j os (accepted_in j 1 os a.replies.items) (length a.replies.items) 0) (sym h.none)
        (claims_first j lt, own_first j lt ∙ sym (ap (accepted_in j 1 os) h.empty ∙ accepted_none j 1 os));
    busy_is = sym (ap is_some h.none);
    ended_is = sym (ap length h.empty);
    in_turn = tt;
  }

  seat_waits_first : (j : ℕ) (os : List Op) (a : Seat) → j < length scripts + 1 → IsScriptOver (metric_space c) os → IsEmpty (length os) a → SeatWaits (beginning c scripts) j os a
  seat_waits_first j os a lt fits h = record {
    may = may_first j lt;
    fits = fits;
    at = subst (λ o. WaitsAt o (view_in (beginning c scripts) j)) (sym h.none) (claims_first j lt);
    few = omega (arith, ap length h.empty);
    asks = subst (AsksAt os (length a.replies.items)) (sym h.none) tt;
    room = omega (arith, h.room_is);
  }

  splitter_first : SplitterAt [] (beginning c scripts) (length scripts) (record { care = record { task = None }; wanted = false })
  splitter_first = record {
    busy_is = refl;
    in_turn = tt;
    begins = tt;
    own = own_first (length scripts) (omega arith);
    wanted_is = refl;
    full = λ h. absurd (false≢true h);
  }

  splitter_waits_first : SplitterWaits (beginning c scripts) (length scripts) (record { care = record { task = None }; wanted = false })
  splitter_waits_first =
      let h = claims_first (length scripts) (omega arith) in
      record {
        may = may_first (length scripts) (omega arith);
        ready = record { task = (h.nothing.leaf, h.nothing.sweep, h.unsplit); shard = h.nothing.shard; pin = h.nothing.pin };
        unpassed = λ p claims. absurd (none-some p (sym h.nothing.leaf ∙ claims));
      }

  pub opened_table : (s : State) (seats : List Seat) → s ≡ beginning c scripts → Kept s → length seats ≡ length scripts → AreEmpty scripts seats
      → AllByRecursion (IsScriptOver (metric_space c)) scripts → Ran c scripts [] s seats (record { care = record { task = None }; wanted = false })
  opened_table s seats is kept same empty fits =
      let x : SplitterSeat = record { care = record { task = None }; wanted = false } in
      let lt : (j : ℕ) (os : List Op) → slice_get scripts j ≡ Some os → j < length scripts + 1 = λ j os at. omega (arith, slice_get_within scripts j os at) in
      subst (λ (t : State). Ran c scripts [] t seats x) (sym is) (record {
        turns = [];
        blocks = (refl, refl);
        at = record {
          settings = refl;
          each = λ j os a at_os at_a. seat_first j os a (lt j os at_os) (empty.each j os a at_os at_a);
          splitter = splitter_first;
        };
        waits = record {
          kept = subst Kept is kept;
          count = same;
          actors = count;
          each = λ j os a at_os at_a. seat_waits_first j os a (lt j os at_os) (all_get (IsScriptOver (metric_space c)) scripts j os fits at_os) (empty.each j os a at_os at_a);
          splitter = splitter_waits_first;
        };
      })

-- each of the first so many scripts has ended
pub record OverBelow (scripts : List (List Op)) (seats : List Seat) (n : ℕ) : Type 0 where
  pub each : (j : ℕ) (os : List Op) (a : Seat) → j < n → slice_get scripts j ≡ Some os → slice_get seats j ≡ Some a → is_over os a ≡ true

pub over_none : (scripts : List (List Op)) (seats : List Seat) → OverBelow scripts seats 0
over_none scripts seats = record { each = λ j os a lt. absurd (omega (arith, lt)) }

pub over_more : (scripts : List (List Op)) (seats : List Seat) (n : ℕ) (script : List Op) (a : Seat) → OverBelow scripts seats n → slice_get scripts n ≡ Some script → slice_get seats n ≡ Some a → is_over script a ≡ true
    → OverBelow scripts seats (n + 1)
over_more scripts seats n script a h at_script at_seat over = record {
  each = λ j os d lt at_os at_d. by_number (is_over os d ≡ true) j n
      (λ same.
      let os_is : os ≡ script = one_of scripts n j script os at_script same at_os in
      let d_is : d ≡ a = one_of seats n j a d at_seat same at_d in
      subst (λ (x : List Op). is_over x d ≡ true) (sym os_is) (subst (λ (x : Seat). is_over script x ≡ true) (sym d_is) over))
      (λ apart. h.each j os d (omega (arith, lt, apart)) at_os at_d);
}

pub all_over : (scripts : List (List Op)) (seats : List Seat) (n : ℕ) → OverBelow scripts seats n → length scripts ≤ n → AllOver scripts seats
all_over scripts seats n h le = λ j os a at_os at_a. h.each j os a (omega (arith, slice_get_within scripts j os at_os, le)) at_os at_a

pub none_under_way : {X : Type 0} (o : Option X) → is_some o ≡ false → o ≡ None
none_under_way None e = refl
none_under_way (Some x) e = absurd (false≢true (sym e))

-- what is so of a session that is over
pub over_parts : (o : Option Job) (n m : ℕ) → (is_none o && (n == m)) ≡ true → (o ≡ None) × (n ≡ m)
over_parts None n m h = (refl, eqb-true n m h)
over_parts (Some j) n m h = absurd (false≢true h)

-- no items, and more items
pub items_none : (scripts : List (List Op)) (s : State) (seats : List Seat) (x : SplitterSeat) → TableWaits scripts s seats x → ItemsMade scripts [] s seats x s seats x
items_none scripts s seats x w = record {
  on = λ c earlier ran. subst (λ (is : List ScheduleItem). Ran c scripts is s seats x) (sym (append-nil earlier)) ran;
  settings = refl;
  waits = w;
}

pub items_more : (scripts : List (List Op)) (a b : List ScheduleItem) (s m t : State) (seats between others : List Seat) (x y z : SplitterSeat)
    → ItemsMade scripts a s seats x m between y → ItemsMade scripts b m between y t others z → ItemsMade scripts (a ++ b) s seats x t others z
items_more scripts a b s m t seats between others x y z h k = record {
  on = λ c earlier ran. subst (λ (is : List ScheduleItem). Ran c scripts is t others z) (append_assoc earlier a b) (k.on c (earlier ++ a) (h.on c earlier ran));
  settings = k.settings ∙ h.settings;
  waits = k.waits;
}

-- the schedule, and so many rounds after it
pub record RoundsMade (c : Configuration) (scripts : List (List Op)) (schedule : List ScheduleItem) (s : State) (seats : List Seat) (x : SplitterSeat) : Type 0 where
  pub many : ℕ
  pub ran : Ran c scripts (schedule ++ rounds (length scripts) many) s seats x

pub rounds_none : (c : Configuration) (scripts : List (List Op)) (schedule : List ScheduleItem) (s : State) (seats : List Seat) (x : SplitterSeat) → Ran c scripts schedule s seats x → RoundsMade c scripts schedule s seats x
rounds_none c scripts schedule s seats x ran = record { many = 0; ran = subst (λ (is : List ScheduleItem). Ran c scripts is s seats x) (sym (append-nil schedule)) ran }

pub rounds_more : (c : Configuration) (scripts : List (List Op)) (schedule : List ScheduleItem) (s t : State) (seats others : List Seat) (x y : SplitterSeat)
    → RoundsMade c scripts schedule s seats x → ItemsMade scripts (round (length scripts)) s seats x t others y → RoundsMade c scripts schedule t others y
rounds_more c scripts schedule s t seats others x y h m = record {
  many = suc h.many;
  ran = subst (λ (is : List ScheduleItem). Ran c scripts is t others y) (append_assoc schedule (rounds (length scripts) h.many) (round (length scripts)))
      (m.on c (schedule ++ rounds (length scripts) h.many) h.ran);
}
