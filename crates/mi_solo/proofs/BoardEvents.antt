-- Sections of the board that change no claim, as the trait tells of them.
use Rattle.std.proofs.Common.{◌≡◌, ◌≢◌, ℕ, ◌+◌, ◌≤◌, List, length, take, set, Bool, true, false, refl, sym, ap, ◌∙◌, arith, Option, Some, None, inl, inr, eq-eqb, get_or-set_other}
use Rattle.std.specs.Prelude.{slice_get, Result, Ok, Err}
use Rattle.std.proofs.lemmas.Option.{none-some}
use Rattle.mi_base.specs.declared.refusals.NoMemory.{NoMemory}
use Rattle.mi_base.specs.declared.records.LogEvent.{LogEvent}
use Rattle.mi_base.specs.declared.records.Position.{Position}
use Rattle.mi_base.specs.History.{IsPosition, end_of, events_at, updates_of}
use Rattle.mi_tree.specs.declared.answers.AllotRefusal.{AllotRefusal}
use Rattle.mi_tree.specs.declared.answers.AllotRefusal.TheVariants as allotting
use Rattle.mi_tree.specs.declared.answers.Look.{Look}
use Rattle.mi_tree.specs.declared.answers.ReserveRefusal.{ReserveRefusal}
use Rattle.mi_tree.specs.declared.answers.ReserveRefusal.TheVariants as reserving
use Rattle.mi_tree.specs.Legal.{cells_of}
use Rattle.mi_board.specs.Actors.{idle, with_pin, with_reserved}
use Rattle.mi_board.specs.Boards.{floor_of, look_of, pinned, with_actor}
use Rattle.mi_board.specs.Floors.{least_pin}
use Rattle.mi_board.specs.declared.actors.ActorState.{ActorState}
use Rattle.mi_board.proofs.FloorLemmas.{at_end, least_low}
use Rattle.mi_entries.specs.Actors.{Actor, Pin}
use Rattle.mi_entries.specs.Records.{Rows, Shard, held_by, shard_at}
use Rattle.mi_core.specs.Actors.{pinned_at}
use Rattle.mi_core.specs.Effects.{looked, saw}
use Rattle.mi_core.specs.Events.{after}
use Rattle.mi_core.specs.Events.Event.{allot, lack, look, pin, refuse, reserve, see, unpin}
use Rattle.mi_core.specs.Kept.{Kept}
use Rattle.mi_core.specs.Refusals.Refusal.{full, pages_full}
use Rattle.mi_core.specs.State.{State, board_actor}
use Rattle.mi_core.proofs.ActorLemmas.{set_there}
use Rattle.mi_core.proofs.FloorLemmas.{least_pinned, least_same}
use Rattle.mi_core.proofs.KeptEvents.{each_keeps}
use Rattle.mi_core.proofs.KeptLemmas.{floor_position}
use Rattle.mi_world.specs.Boards.{AllotAnswer, Allots, Looks, PinAnswer, Pins, ReserveAnswer, Reserves, Unpins}
use Rattle.mi_world.specs.View.{Later, SeesBoard, View}
use Rattle.mi_solo.specs.Onward.{Makes}
use Rattle.mi_solo.specs.Viewing.{another, records_in, shown_to}
use Rattle.mi_solo.proofs.OthersLemmas.{records_kept}
use Rattle.mi_solo.proofs.OwnLemmas.{later_own, made, sees_own}
use Rattle.mi_solo.proofs.SectionLemmas.{another_self, apart_by, least_below, least_one, low, own_found, page_by, split_by, tells}

-- two positions of a log with as many events are one
same_at : (log : List LogEvent) (p q : Position) → IsPosition log p → IsPosition log q → events_at p ≡ events_at q → p ≡ q
same_at log p q h i e =
    let updates : p.updates ≡ q.updates = sym h.updates ∙ ap (λ n. length (updates_of (take n log))) e ∙ i.updates in
    position_is p.updates p.splits q updates (omega arith)
  where
    position_is : (u n : ℕ) (z : Position) → u ≡ z.updates → n ≡ z.splits → record { updates = u; splits = n } ≡ z
    position_is u n z e f = rw (e, f) refl

-- a pin of the end leaves the floor
pinned_floor : (s : State) (k : Kept s) (a : ℕ) (r : Actor) → slice_get s.actors a ≡ Some r → r.ended ≡ false → r.pin ≡ None → floor_of (pinned a s.board) ≡ floor_of s.board
pinned_floor s k a r there going bare =
    let end : Position = end_of s.board.log in
    let old : List ActorState = s.board.actors in
    let new : List ActorState = (pinned a s.board).actors in
    let none : (board_actor s.board a).pin ≡ None = (k.sound.each a r there).holds.pin ∙ ap pinned_at bare in
    let up : events_at (least_pin end new) ≤ events_at (least_pin end old) = elim (least_one end old) [
      | inl e ↦ omega (arith, least_low end new, ap events_at e)
      | inr i ↦
          let other : i.0 ≢ a = λ same. none-some (least_pin end old) (sym none ∙ ap (λ j. (board_actor s.board j).pin) (sym same) ∙ i.1) in
          least_below end new i.0 (least_pin end old) (ap (λ (z : ActorState). z.pin) (get_or-set_other old a i.0 (with_pin end (board_actor s.board a)) idle other) ∙ i.1)
    ] in
    let down = least_pinned (with_pin end) end (λ x. refl) old a none in
    same_at s.board.log (least_pin end new) (least_pin end old)
    (floor_position (after s a r pin) (each_keeps pin s k a r there going bare).sound) (floor_position s k.sound) (omega arith)

pub looks : Makes look (λ s v w. Looks v w (look_of s.board))
looks = made look (λ s v w. Looks v w (look_of s.board)) (λ s k a r there going can.
    let t : State = after s a r look in
    let q : Actor = looked s.board r in
    let now = set_there s.actors a q r there in (
      q,
      now,
      record {
        later = later_own s k a r there going look can q now;
        lacked = refl;
        told = refl;
        same = record { work = record { update = record { own = refl; shard = refl; records = refl; reserved = refl }; leaf = record { leaf = refl; wanted = refl }; apart = apart_by s t a r q refl refl refl refl refl refl }; fresh = refl; owes = refl };
        board = sees_own s k a r there going look can q now;
        page = page_by s t a r q refl refl;
        tries = record { tried = refl; found = refl };
        tells = tells t a q refl (each_keeps look s k a r there going can);
      },
    ))

-- a section that sees the board and leaves it
module _ (s : State) (k : Kept s) (a : ℕ) (r : Actor) (there : slice_get s.actors a ≡ Some r) (going : r.ended ≡ false) where
  abbrev pub saw_it : View
  saw_it = shown_to (after s a r see) a (saw s.board r)

  pub there_saw : slice_get (after s a r see).actors a ≡ Some (saw s.board r)
  there_saw = set_there s.actors a (saw s.board r) r there

  pub later_saw : Later (shown_to s a r) saw_it
  later_saw = later_own s k a r there going see tt (saw s.board r) there_saw

  pub board_saw : SeesBoard saw_it
  board_saw = sees_own s k a r there going see tt (saw s.board r) there_saw

-- a reservation changes the board's actors, the shards, the floor and what is reserved
module _ (s : State) (a : ℕ) (r : Actor) (actors : List ActorState) (shards : List Shard) (floor : Position) (reserved here : Bool) where
  abbrev reserve_actor : Actor
  reserve_actor = record r { seen = length s.board.log; floor = floor; reserved = reserved; reserved_here = here }

  abbrev reserve_state : State
  reserve_state = record { board = record s.board { actors = actors }; shards = shards; pages = s.pages; actors = set s.actors a reserve_actor }

  reserves_by : records_in shards r.shard ≡ records_in s.shards r.shard → another a (shard_at shards r.tried).holder ≡ another a (shard_at s.shards r.tried).holder
      → Later (shown_to s a r) (shown_to reserve_state a reserve_actor) → SeesBoard (shown_to reserve_state a reserve_actor) → (result : Result Look ReserveRefusal) → ReserveAnswer (shown_to s a r) (shown_to reserve_state a reserve_actor) result → Reserves (shown_to s a r) (shown_to reserve_state a reserve_actor) result
  reserves_by records found later board result answer = record {
    later = later;
    lacked = refl;
    told = refl;
    own = refl;
    shard = refl;
    records = records;
    leaf = record { leaf = refl; wanted = refl };
    apart = apart_by s reserve_state a r reserve_actor refl refl refl refl refl refl;
    fresh = refl;
    owes = refl;
    board = board;
    page = page_by s reserve_state a r reserve_actor refl refl;
    tries = record { tried = refl; found = found };
    answer = answer;
  }

pub reserves : (n room : ℕ) (kept : Rows) → Makes (reserve n kept room) (λ s v w. Reserves v w (Ok (look_of (with_actor (with_reserved true) v.actor s.board))))
reserves n room kept = made (reserve n kept room) (λ s v w. Reserves v w (Ok (look_of (with_actor (with_reserved true) v.actor s.board)))) (λ s k a r there going can.
    let t : State = after s a r (reserve n kept room) in
    let q : Actor = record (looked s.board r) { reserved = true; reserved_here = true } in
    let now = set_there s.actors a q r there in (
      q,
      now,
      reserves_by s a r t.board.actors t.shards q.floor true true
          (records_kept s.shards n (held_by (Some a) (record kept { room = room })) (low s k a r there n can.0) (ap (λ (z : Rows). z.records) (sym can.1)) r.shard)
          (own_found s k a r there n can.0 (Some a) (record kept { room = room }) (another_self a) r.tried)
          (later_own s k a r there going (reserve n kept room) can q now) (sees_own s k a r there going (reserve n kept room) can q now) (Ok (look_of t.board))
          (tells t a q (sym (least_same (with_reserved true) (λ x. refl) (end_of s.board.log) s.board.actors a)) (each_keeps (reserve n kept room) s k a r there going can), can.3, refl),
    ))

pub reserves_full : Makes (refuse full) (λ s v w. Reserves v w (Err (reserving.Full s.board.settings.updates)))
reserves_full = made (refuse full) (λ s v w. Reserves v w (Err (reserving.Full s.board.settings.updates))) (λ s k a r there going can.
    (saw s.board r, there_saw s k a r there going, reserves_by s a r s.board.actors s.shards r.floor r.reserved r.reserved_here refl refl (later_saw s k a r there going) (board_saw s k a r there going) (Err (reserving.Full s.board.settings.updates)) (refl, can, refl, refl)))

pub reserves_none : Makes see (λ s v w. Reserves v w (Err reserving.Memory))
reserves_none = made see (λ s v w. Reserves v w (Err reserving.Memory)) (λ s k a r there going can.
    (saw s.board r, there_saw s k a r there going, reserves_by s a r s.board.actors s.shards r.floor r.reserved r.reserved_here refl refl (later_saw s k a r there going) (board_saw s k a r there going) (Err reserving.Memory) (refl, refl)))

-- a pin changes the board's actors and the catalog that it keeps
module _ (s : State) (a : ℕ) (r : Actor) (actors : List ActorState) (kept : Option Position) (floor : Position) (mark : Option Pin) where
  abbrev pin_actor : Actor
  pin_actor = record r { seen = length s.board.log; floor = floor; pin = mark }

  abbrev pin_state : State
  pin_state = record { board = record s.board { actors = actors; kept_at = kept }; shards = s.shards; pages = s.pages; actors = set s.actors a pin_actor }

  pins_by : Later (shown_to s a r) (shown_to pin_state a pin_actor) → SeesBoard (shown_to pin_state a pin_actor) → (result : Result Look NoMemory) → PinAnswer (shown_to s a r) (shown_to pin_state a pin_actor) result → Pins (shown_to s a r) (shown_to pin_state a pin_actor) result
  pins_by later board result answer = record {
    later = later;
    lacked = refl;
    told = refl;
    update = record { own = refl; shard = refl; records = refl; reserved = refl };
    leaf = record { leaf = refl; wanted = refl };
    sweep = record { sweep = refl; swept = refl };
    split = split_by s pin_state a r pin_actor refl refl;
    flags = record { undone = refl; early = refl };
    actors = record { absorbed = refl; forked = refl };
    fresh = refl;
    owes = refl;
    board = board;
    page = page_by s pin_state a r pin_actor refl refl;
    tries = record { tried = refl; found = refl };
    answer = answer;
  }

pub pins : Makes pin (λ s v w. Pins v w (Ok (look_of (pinned v.actor s.board))))
pins = made pin (λ s v w. Pins v w (Ok (look_of (pinned v.actor s.board)))) (λ s k a r there going can.
    let t : State = after s a r pin in
    let q : Actor = record (looked s.board r) { pin = Some (record { at = end_of s.board.log; cells = cells_of s.board.settings s.board.log }) } in
    let now = set_there s.actors a q r there in (
      q,
      now,
      pins_by s a r t.board.actors t.board.kept_at q.floor q.pin (later_own s k a r there going pin can q now) (sees_own s k a r there going pin can q now) (Ok (look_of t.board))
          (tells t a q (sym (pinned_floor s k a r there going can)) (each_keeps pin s k a r there going can), ap Some (at_end s.board.log)),
    ))

pub pins_none : (e : NoMemory) → Makes see (λ s v w. v.pin ≡ None → Pins v w (Err e))
pins_none e = made see (λ s v w. v.pin ≡ None → Pins v w (Err e)) (λ s k a r there going can.
    (saw s.board r, there_saw s k a r there going, λ bare. pins_by s a r s.board.actors s.board.kept_at r.floor r.pin (later_saw s k a r there going) (board_saw s k a r there going) (Err e) (bare, refl)))

pub unpins : Makes unpin (λ s v w. Unpins v w)
unpins = made unpin (λ s v w. Unpins v w) (λ s k a r there going can.
    let t : State = after s a r unpin in
    let q : Actor = record (saw s.board r) { pin = None } in
    let now = set_there s.actors a q r there in (
      q,
      now,
      record {
        later = later_own s k a r there going unpin can q now;
        lacked = refl;
        told = refl;
        update = record { own = refl; shard = refl; records = refl; reserved = refl };
        leaf = record { leaf = refl; wanted = refl };
        sweep = record { sweep = refl; swept = refl };
        split = split_by s t a r q refl refl;
        flags = record { undone = refl; early = refl };
        actors = record { absorbed = refl; forked = refl };
        pin = refl;
        floor = refl;
        fresh = refl;
        owes = refl;
        board = sees_own s k a r there going unpin can q now;
        page = page_by s t a r q refl refl;
        tries = record { tried = refl; found = refl };
      },
    ))

-- a page is allotted, or memory for one was wanted
module _ (s : State) (a : ℕ) (r : Actor) (allotted : ℕ) (fresh : Option ℕ) (lacked : Bool) where
  abbrev allot_actor : Actor
  allot_actor = record r { seen = length s.board.log; fresh = fresh; lacked = lacked }

  abbrev allot_state : State
  allot_state = record { board = record s.board { allotted = allotted }; shards = s.shards; pages = s.pages; actors = set s.actors a allot_actor }

  allots_by : Later (shown_to s a r) (shown_to allot_state a allot_actor) → SeesBoard (shown_to allot_state a allot_actor) → (result : Result (Unit {0}) AllotRefusal) → AllotAnswer (shown_to s a r) (shown_to allot_state a allot_actor) result → Allots (shown_to s a r) (shown_to allot_state a allot_actor) result
  allots_by later board result answer = record {
    later = later;
    work = record { update = record { own = refl; shard = refl; records = refl; reserved = refl }; leaf = record { leaf = refl; wanted = refl }; apart = apart_by s allot_state a r allot_actor refl refl refl refl refl refl };
    floor = refl;
    owes = refl;
    board = board;
    page = page_by s allot_state a r allot_actor refl refl;
    tries = record { tried = refl; found = refl };
    full = λ _ p h. h;
    answer = answer;
  }

pub allots : Makes allot (λ s v w. Allots v w (Ok tt))
allots = made allot (λ s v w. Allots v w (Ok tt)) (λ s k a r there going can.
    let q : Actor = record (saw s.board r) { fresh = Some s.board.allotted } in
    let now = set_there s.actors a q r there in
    (q, now, allots_by s a r (s.board.allotted + 1) (Some s.board.allotted) r.lacked (later_own s k a r there going allot can q now) (sees_own s k a r there going allot can q now) (Ok tt) (refl, omega arith, refl)))

pub allots_full : Makes (refuse pages_full) (λ s v w. Allots v w (Err (allotting.PagesFull s.board.settings.pages)))
allots_full = made (refuse pages_full) (λ s v w. Allots v w (Err (allotting.PagesFull s.board.settings.pages))) (λ s k a r there going can.
    (saw s.board r, there_saw s k a r there going, allots_by s a r s.board.allotted r.fresh r.lacked (later_saw s k a r there going) (board_saw s k a r there going) (Err (allotting.PagesFull s.board.settings.pages)) (refl, refl, can, eq-eqb s.board.allotted s.board.settings.pages can, refl)))

pub allots_none : Makes lack (λ s v w. Allots v w (Err allotting.Memory))
allots_none = made lack (λ s v w. Allots v w (Err allotting.Memory)) (λ s k a r there going can.
    let q : Actor = record (saw s.board r) { lacked = true } in
    let now = set_there s.actors a q r there in
    (q, now, allots_by s a r s.board.allotted r.fresh true (later_own s k a r there going lack can q now) (sees_own s k a r there going lack can q now) (Err allotting.Memory) (refl, refl, refl)))
