-- Turn after turn of one session makes a block.
use Rattle.std.proofs.Common.{◌≡◌, ℕ, zero, suc, ◌+◌, ◌-◌, ◌*◌, ◌<◌, ◌≤◌, List, [], ◌∷◌, ◌++◌, length, Bool, true, false, cond, not, ◌&&◌, ◌||◌, Option, Some, None, refl, sym, ap, ◌∙◌, subst, arith, rules, inl, inr, append-nil, append_assoc, length-append}
use Rattle.std.specs.Prelude.{◌==◌, is_none, slice_get, vec_capacity}
use Rattle.std.specs.List.{fold}
use Rattle.std.proofs.lemmas.Bool.{false≢true}
use Rattle.std.proofs.lemmas.Bool.Decides.{nat_tests}
use Rattle.std.proofs.lemmas.Option.{slice_get_within}
use Rattle.mi_base.specs.declared.records.Op.{Op}
use Rattle.mi_base.specs.Configuration.{Configuration, metric_space, space_of}
use Rattle.mi_base.specs.Scripts.{IsScriptOver}
use Rattle.mi_blink.specs.Descents.{budget}
use Rattle.mi_blink.proofs.DescentLemmas.{falls_pack}
use Rattle.mi_core.specs.Events.{Event}
use Rattle.mi_core.specs.State.{State}
use Rattle.mi_job.specs.declared.job.Job.{Job}
use Rattle.mi_job.specs.declared.turns.JobTurn.{JobTurn}
use Rattle.mi_job.specs.declared.turns.JobTurn.TheVariants as job
use Rattle.mi_job.specs.Claims.{IsHeld}
use Rattle.mi_job.specs.Jobs.{Turned, asked, job_most, left}
use Rattle.mi_job.proofs.EndLemmas.{job_small}
use Rattle.mi_solo.specs.Solos.{MayTurn}
use Rattle.mi_solo.specs.States.{actor_in, view_in}
use Rattle.mi_tree.proofs.ListLemmas.{all_joined}
use Rattle.mi_world.specs.View.{View}
use Rattle.mi_world.proofs.ViewLemmas.{others_none}
use Rattle.mi_replay.specs.declared.seats.Seat.{Seat}
use Rattle.mi_replay.specs.declared.seats.Taken.{Taken}
use Rattle.mi_replay.specs.declared.seats.Taken.TheVariants.{More, Held, Ended}
use Rattle.mi_settle.specs.Working.{AllBy, BeginsAtOnce}
use Rattle.mi_settle.specs.Moving.{MakeCalls, MakesCall, Moves, event_of}
use Rattle.mi_replay.specs.Seats.{AsksAt, Going, IsNext, Leaves, Made, SeatAt, SeatReady, SeatWaits, StandsHeld, StopsBy, TurnMade, TurnsMade, WaitsAt, ended_by, is_more, is_over}
use Rattle.mi_settle.specs.Turns.{Chained, Goes, InTurn, Makes, Turn, busy, busy_after, ended}
use Rattle.mi_replay.proofs.HeldLemmas.{held_there}
use Rattle.mi_settle.proofs.TurnLemmas.{chained_on, busy-append, ended-append, ended_now, in_turn_on}
use Rattle.mi_replay.proofs.SeatLemmas.{seat_turned, taken_ends, turn_of, under_stays}
use Rattle.mi_replay.proofs.SeatQueries.{next_asked}
use Rattle.mi_replay.proofs.SeatTurns.{operations_on}
use Rattle.mi_settle.proofs.ComingLemmas.{SameSeen, comes_same}

some_left_at : (script : List Op) (o : Option Job) (n : ℕ) → (is_none o && (n == length script)) ≡ false → n ≤ length script → AsksAt script n o → n < length script
some_left_at script None n h few asks = grind (arith, nat_tests)
some_left_at script (Some j) n h few asks = slice_get_within script n (asked j) asks

-- the script isn't done where a section may be made
pub some_left : (s : State) (k : ℕ) (script : List Op) (a : Seat) → SeatReady s k script a → length a.replies.items < length script
some_left s k script a h = some_left_at script a.job (length a.replies.items) h.left h.waits.few h.waits.asks

-- and there is none to be made where the actor comes to its turn and sees no more
pub ready_seen : (s : State) (k : ℕ) (script : List Op) (a : Seat) (m : State) → SameSeen s k m → MayTurn m k → SeatReady s k script a → SeatReady m k script a
ready_seen s k script a m same may h = record {
  waits = record {
    may = may;
    fits = subst (λ b. IsScriptOver (metric_space b.settings) script) (sym same.board) h.waits.fits;
    at = subst (WaitsAt a.job) (sym same.view) h.waits.at;
    few = h.waits.few;
    asks = h.waits.asks;
    room = h.waits.room;
  };
  left = h.left;
}

goes_by : (s : State) (k : ℕ) (t : State) (h : Moves s k t) → Goes (event_of s k t h) s k t
goes_by s k t (inl same) = same
goes_by s k t (inr calls) = (calls.leads, refl)

is_call : (s : State) (k : ℕ) (t : State) (h : Moves s k t) → MakesCall (event_of s k t h)
is_call s k t (inl same) = tt
is_call s k t (inr calls) = calls.call

-- one turn
module _ (k : ℕ) (script : List Op) (s : State) (a : Seat) (r : Taken) (b : Seat) (t : State) (h : TurnMade k script s a r b t) where
  pub settings_stay : t.board.settings ≡ s.board.settings
  settings_stay = h.section.turned.later.settings ∙ ap (λ x. x.settings) (comes_same s k h.between h.comes).board

  abbrev pub the_turn : Turn
  the_turn = turn_of k a (event_of h.between k t h.section.moves) r s t

  turn_makes : Makes the_turn.event s k t
  turn_makes = record { between = h.between; comes = h.comes; goes = goes_by h.between k t h.section.moves }

  asks_on : b.replies.items ≡ a.replies.items → asked h.section.new ≡ asked h.section.old → slice_get script (length a.replies.items) ≡ Some (asked h.section.old)
      → slice_get script (length b.replies.items) ≡ Some (asked h.section.new)
  asks_on same is op = ap (λ ys. slice_get script (length ys)) same ∙ op ∙ ap Some (sym is)

  waits_by : (answer : JobTurn) → slice_get script (length a.replies.items) ≡ Some (asked h.section.old) → MayTurn t k → IsScriptOver (metric_space t.board.settings) script → length script ≤ vec_capacity b.replies
      → Turned h.section.old (view_in h.between k) answer h.section.new (view_in t k) → Leaves a answer r (Some h.section.new) b → SeatWaits t k script b
  waits_by job.More op may fits room x l = record {
    may = may;
    fits = fits;
    at = rw l.1 x.outcome.0;
    few = omega (arith, ap length l.2, slice_get_within script (length a.replies.items) _ op);
    asks = rw l.1 (asks_on l.2 x.asked_is op);
    room = room;
  }
  waits_by job.Held op may fits room x l = record {
    may = may;
    fits = fits;
    at = rw l.1 x.outcome.0;
    few = omega (arith, ap length l.2, slice_get_within script (length a.replies.items) _ op);
    asks = rw l.1 (asks_on l.2 x.asked_is op);
    room = room;
  }
  waits_by (job.Done y) op may fits room x l = record {
    may = may;
    fits = fits;
    at = rw l.1 x.outcome.claims;
    few = omega (arith, ap length l.2, length-append a.replies.items (y ∷ []), slice_get_within script (length a.replies.items) _ op);
    asks = rw l.1 tt;
    room = room;
  }

  pub waits_after : SeatReady s k script a → MayTurn t k → SeatWaits t k script b
  waits_after ready may =
      waits_by h.section.answer (next_asked script a a.job h.section.old _ (view_in s k) ready.waits.asks h.section.next) may
      (subst (λ c. IsScriptOver (metric_space c) script) (sym settings_stay) ready.waits.fits)
      (omega (arith, ready.waits.room, h.section.room)) h.section.turned h.section.leaves

-- a block without a turn, and one with a turn more
pub made_none : (k : ℕ) (script : List Op) (s : State) (a : Seat) → SeatWaits s k script a → Made k script s a s a []
made_none k script s a waits = record {
  chained = refl;
  by = tt;
  calls = tt;
  seat = λ turns at. subst (λ us. SeatAt s.board.settings us s k script a) (sym (append-nil turns)) at;
  waits = waits;
}

pub made_more : (k : ℕ) (script : List Op) (s : State) (a : Seat) (m : State) (d : Seat) (made : List Turn) (r : Taken) (b : Seat) (t : State)
    → Made k script s a m d made → m.board.settings ≡ s.board.settings → (h : TurnMade k script m d r b t) → SeatWaits t k script b
    → Made k script s a t b (made ++ the_turn k script m d r b t h ∷ [])
made_more k script s a m d made r b t is settings h waits =
    let u : Turn = the_turn k script m d r b t h in
    record {
      chained = chained_on s m t made (u ∷ []) is.chained (refl, turn_makes k script m d r b t h, refl);
      by = all_joined (λ x. x.actor ≡ k) made (u ∷ []) is.by (refl, tt);
      calls = all_joined (λ x. MakesCall x.event) made (u ∷ []) is.calls (is_call h.between k t h.section.moves, tt);
      seat = λ turns at.
          subst (λ us. SeatAt s.board.settings us t k script b) (append_assoc turns made (u ∷ []))
          (seat_turned s.board.settings (turns ++ made) m k script d r b t settings (is.seat turns at) h);
      waits = waits;
    }

head_on : (made more : List Turn) → BeginsAtOnce made → BeginsAtOnce (made ++ more)
head_on [] more h = absurd h
head_on (u ∷ us) more h = h

-- how many operations have ended after one more turn
ended_more : (k : ℕ) (made : List Turn) (a : Seat) (e : Option Event) (r : Taken) (s t : State) → ended k made ≡ 0 → ended k (made ++ turn_of k a e r s t ∷ []) ≡ cond (taken_ends r) 1 0
ended_more k made a e r s t none = omega (arith, ended_now k made (turn_of k a e r s t) refl, none)

-- a block of one operation that goes on, or stops
abbrev pub Stage : Taken → ℕ → State → Seat → List Turn → Type 0
Stage More k t b made = (ended k made ≡ 0) × (j : Job) × (b.job ≡ Some j)
Stage Held k t b made = StopsBy Held k t b made
Stage Ended k t b made = StopsBy Ended k t b made

pub record OnItsWay (k : ℕ) (script : List Op) (s : State) (a : Seat) (r : Taken) (t : State) (b : Seat) : Type 0 where
  pub made : List Turn
  pub is : Made k script s a t b made
  pub settings : t.board.settings ≡ s.board.settings
  pub head : a.job ≡ None → BeginsAtOnce made
  pub stage : Stage r k t b made
  pub replies : length b.replies.items ≡ length a.replies.items + ended_by r

module _ (k : ℕ) (script : List Op) (s : State) (a : Seat) (r : Taken) (b : Seat) (t : State) (h : TurnMade k script s a r b t) where
  held_at : (j : Job) → IsHeld (asked h.section.old) (view_in t k) → asked j ≡ asked h.section.old → b.job ≡ Some j → StandsHeld k t b
  held_at j held same is =
      let stands : IsHeld (asked j) (view_in t k) = subst (λ o. IsHeld o (view_in t k)) (sym same) held in
      record { job = j; is = is; held = held_there t k (actor_in t k) (asked j) stands; stands = stands }

  stage_by : (made : List Turn) (answer : JobTurn) (q : Taken) → ended k made ≡ cond (taken_ends q) 1 0
      → Turned h.section.old (view_in h.between k) answer h.section.new (view_in t k) → Leaves a answer q (Some h.section.new) b → Stage q k t b made
  stage_by made job.More q is x l = subst (λ z. Stage z k t b made) (sym l.0) (subst (λ z. ended k made ≡ cond (taken_ends z) 1 0) l.0 is, h.section.new, l.1)
  stage_by made job.Held q is x l =
      subst (λ z. Stage z k t b made) (sym l.0) (subst (λ z. ended k made ≡ cond (taken_ends z) 1 0) l.0 is, held_at h.section.new x.outcome.2 x.asked_is l.1)
  stage_by made (job.Done y) q is x l = subst (λ z. Stage z k t b made) (sym l.0) (subst (λ z. ended k made ≡ cond (taken_ends z) 1 0) l.0 is, l.1)

  replies_by : (answer : JobTurn) → Leaves a answer r (Some h.section.new) b → length b.replies.items ≡ length a.replies.items + ended_by r
  replies_by job.More l = omega (arith, ap length l.2, ap ended_by l.0)
  replies_by job.Held l = omega (arith, ap length l.2, ap ended_by l.0)
  replies_by (job.Done y) l = omega (arith, ap length l.2, ap ended_by l.0, length-append a.replies.items (y ∷ []))

  -- the first turn of a block
  pub way_first : SeatWaits s k script a → SeatWaits t k script b → OnItsWay k script s a r t b
  way_first before waits = record {
    made = the_turn k script s a r b t h ∷ [];
    is = made_more k script s a s a [] r b t (made_none k script s a before) refl h waits;
    settings = settings_stay k script s a r b t h;
    head = λ none. ap is_none none;
    stage = stage_by (the_turn k script s a r b t h ∷ []) h.section.answer r (ended_more k [] a (event_of h.between k t h.section.moves) r s t refl) h.section.turned h.section.leaves;
    replies = replies_by h.section.answer h.section.leaves;
  }

-- one more turn where the operation goes on
pub way_more : (k : ℕ) (script : List Op) (s : State) (a : Seat) (m : State) (d : Seat) (r : Taken) (b : Seat) (t : State)
    → OnItsWay k script s a More m d → TurnMade k script m d r b t → SeatWaits t k script b → OnItsWay k script s a r t b
way_more k script s a m d r b t g h waits =
    let u : Turn = the_turn k script m d r b t h in
    record {
      made = g.made ++ u ∷ [];
      is = made_more k script s a m d g.made r b t g.is g.settings h waits;
      settings = settings_stay k script m d r b t h ∙ g.settings;
      head = λ none. head_on g.made (u ∷ []) (g.head none);
      stage = stage_by k script m d r b t h (g.made ++ u ∷ []) h.section.answer r (ended_more k g.made d (event_of h.between k t h.section.moves) r m t g.stage.0) h.section.turned h.section.leaves;
      replies = omega (arith, replies_by k script m d r b t h h.section.answer h.section.leaves, g.replies);
    }

-- a section may be made where an operation is under way
pub ready_under : (s : State) (k : ℕ) (script : List Op) (a : Seat) (j : Job) → SeatWaits s k script a → a.job ≡ Some j → SeatReady s k script a
ready_under s k script a j h is = record { waits = h; left = ap (λ o. is_none o && (length a.replies.items == length script)) is }

pub more_is : (r : Taken) → is_more r ≡ true → r ≡ More
more_is More h = refl
more_is Held h = absurd (false≢true h)
more_is Ended h = absurd (false≢true h)

pub way_stops : (k : ℕ) (script : List Op) (s : State) (a : Seat) (r : Taken) (t : State) (b : Seat) → OnItsWay k script s a r t b → is_more r ≡ false → Going k script s a r t b
way_stops k script s a r t b g stops = record { made = g.made; is = g.is; head = g.head; stops = stops_at r stops g.stage; replies = g.replies }
  where
    stops_at : (r : Taken) → is_more r ≡ false → Stage r k t b g.made → StopsBy r k t b g.made
    stops_at More stop h = absurd (false≢true (sym stop))
    stops_at Held stop h = h
    stops_at Ended stop h = h

-- how many more sections there may be
abbrev pub seat_left_at : Option Job → View → ℕ
seat_left_at None v = 0
seat_left_at (Some j) v = budget v * job_most + left j v + 1

abbrev pub seat_left : Taken → Seat → View → ℕ
seat_left More b v = seat_left_at b.job v
seat_left Held b v = 0
seat_left Ended b v = 0

-- the number falls with each turn
module _ (k : ℕ) (script : List Op) (s : State) (a : Seat) (r : Taken) (b : Seat) (t : State) (j : Job) (is : a.job ≡ Some j) (deep : s.board.settings.levels ≤ 6) (h : TurnMade k script s a r b t) where
  same_job : (o : Option Job) → o ≡ Some j → IsNext (space_of h.between.board.settings) script a o h.section.old → h.section.old ≡ j
  same_job None e next = absurd (search rules)
  same_job (Some i) e next = next ∙ cc

  before : seat_left More a (view_in s k) ≡ budget (view_in h.between k) * job_most + left h.section.old (view_in h.between k) + 1
  before =
      ap (λ o. seat_left_at o (view_in s k)) is ∙ ap (λ v. budget v * job_most + left j v + 1) (sym (comes_same s k h.between h.comes).view)
      ∙ ap (λ (x : Job). budget (view_in h.between k) * job_most + left x (view_in h.between k) + 1) (sym (same_job a.job is h.section.next))

  falls_by : (answer : JobTurn) → Turned h.section.old (view_in h.between k) answer h.section.new (view_in t k) → Leaves a answer r (Some h.section.new) b
      → seat_left r b (view_in t k) < budget (view_in h.between k) * job_most + left h.section.old (view_in h.between k) + 1
  falls_by job.More x l =
      let v : View = view_in h.between k in
      let w : View = view_in t k in
      let low : w.settings.levels ≤ 6 = subst (λ (c : Configuration). c.levels ≤ 6) (sym (settings_stay k script s a r b t h)) deep in
      let less : budget w * job_most + left h.section.new w < budget v * job_most + left h.section.old v =
      falls_pack v w (left h.section.old v) (left h.section.new w) job_most (x.outcome.2 refl) (job_small h.section.new w low x.outcome.0) in
      omega (arith, less, ap (λ z. seat_left z b w) l.0, ap (λ o. seat_left_at o w) l.1)
  falls_by job.Held x l = omega (arith, ap (λ z. seat_left z b (view_in t k)) l.0)
  falls_by (job.Done y) x l = omega (arith, ap (λ z. seat_left z b (view_in t k)) l.0)

  pub left_falls : seat_left r b (view_in t k) < seat_left More a (view_in s k)
  left_falls = omega (arith, before, falls_by h.section.answer h.section.turned h.section.leaves)

-- so many turns of a block
abbrev pub HeadIs : List Turn → Option Job → Type 0
HeadIs [] o = o ≡ None
HeadIs (u ∷ us) o = u.begins ≡ true

pub record Counting (k : ℕ) (script : List Op) (s : State) (a : Seat) (n : ℕ) (t : State) (b : Seat) : Type 0 where
  pub made : List Turn
  pub is : Made k script s a t b made
  pub settings : t.board.settings ≡ s.board.settings
  pub head : a.job ≡ None → HeadIs made b.job
  pub count : length made ≡ n
  pub still : made ≡ [] → is_over script b ≡ is_over script a

pub counting_none : (k : ℕ) (script : List Op) (s : State) (a : Seat) → SeatWaits s k script a → Counting k script s a 0 s a
counting_none k script s a waits = record { made = []; is = made_none k script s a waits; settings = refl; head = λ none. none; count = refl; still = λ none. refl }

head_more : (made : List Turn) (u : Turn) (o p : Option Job) → u.begins ≡ is_none o → HeadIs made o → HeadIs (made ++ u ∷ []) p
head_more [] u o p is h = is ∙ ap is_none h
head_more (x ∷ xs) u o p is h = h

not_none : (made : List Turn) (u : Turn) → made ++ u ∷ [] ≡ [] → ⊥
not_none made u e = omega (arith, ap length e, length-append made (u ∷ []))

pub counting_more : (k : ℕ) (script : List Op) (s : State) (a : Seat) (all left : ℕ) (m : State) (d : Seat) (r : Taken) (b : Seat) (t : State) → 0 < left → left ≤ all
    → Counting k script s a (all - left) m d → TurnMade k script m d r b t → SeatWaits t k script b → Counting k script s a (all - (left - 1)) t b
counting_more k script s a all left m d r b t some few g h waits =
    let u : Turn = the_turn k script m d r b t h in
    record {
      made = g.made ++ u ∷ [];
      is = made_more k script s a m d g.made r b t g.is g.settings h waits;
      settings = settings_stay k script m d r b t h ∙ g.settings;
      head = λ none. head_more g.made u d.job b.job refl (g.head none);
      count = omega (arith, some, few, g.count, length-append g.made (u ∷ []));
      still = λ none. absurd (not_none g.made u none);
    }

-- turns that change nothing
abbrev idles : ℕ → State → ℕ → List Turn
idles k s zero = []
idles k s (suc n) = record { actor = k; event = None; begins = false; ends = false; before = s; after = s } ∷ idles k s n

length-idles : (k : ℕ) (s : State) (n : ℕ) → length (idles k s n) ≡ n
length-idles k s zero = refl
length-idles k s (suc n) = omega (arith, length-idles k s n)

chained_idles : (k : ℕ) (s : State) (n : ℕ) → Chained s (idles k s n) s
chained_idles k s zero = refl
chained_idles k s (suc n) = (refl, record { between = s; comes = inl refl; goes = refl }, chained_idles k s n)

by_idles : (k : ℕ) (s : State) (n : ℕ) → AllBy k (idles k s n)
by_idles k s zero = tt
by_idles k s (suc n) = (refl, by_idles k s n)

calls_idles : (k : ℕ) (s : State) (n : ℕ) → MakeCalls (idles k s n)
calls_idles k s zero = tt
calls_idles k s (suc n) = (tt, calls_idles k s n)

same_either : (x b : Bool) → cond x b b ≡ b
same_either true b = refl
same_either false b = refl

busy_idles : (k : ℕ) (b : Bool) (s : State) (n : ℕ) → fold (busy_after k) b (idles k s n) ≡ b
busy_idles k b s zero = refl
busy_idles k b s (suc n) = ap (λ x. fold (busy_after k) x (idles k s n)) (same_either (k == k) b) ∙ busy_idles k b s n

none_either : (x : Bool) (u : Turn) (us : List Turn) → length (cond (x && false) (u ∷ us) us) ≡ length us
none_either true u us = refl
none_either false u us = refl

ended_idles : (k : ℕ) (s : State) (n : ℕ) → ended k (idles k s n) ≡ 0
ended_idles k s zero = refl
ended_idles k s (suc n) = none_either (k == k) _ _ ∙ ended_idles k s n

in_turn_idles : (k : ℕ) (b : Bool) (s : State) (n : ℕ) → InTurn k b (idles k s n)
in_turn_idles k b s zero = tt
in_turn_idles k b s (suc n) = (λ by. (λ e. absurd (false≢true e), λ e. absurd (false≢true e)), in_turn_idles k (cond (k == k) (not false && (false || b)) b) s n)

-- a session stands where it stood after turns that change nothing
seat_idle : (c : Configuration) (turns : List Turn) (s : State) (k n : ℕ) (script : List Op) (a : Seat) → SeatAt c turns s k script a → SeatAt c (turns ++ idles k s n) s k script a
seat_idle c turns s k n script a h = record {
  to = h.to;
  done = operations_on turns (idles k s n) c k 1 0 h.to script a.replies.items h.done;
  within = omega (arith, h.within, length-append turns (idles k s n));
  under = under_stays turns (idles k s n) s s k script _ (length a.replies.items) h.to a.job (others_none (view_in s k)) h.under;
  busy_is = busy-append k turns (idles k s n) ∙ busy_idles k (busy k turns) s n ∙ h.busy_is;
  ended_is = omega (arith, ended-append k turns (idles k s n), ended_idles k s n, h.ended_is);
  in_turn = in_turn_on k false turns (idles k s n) h.in_turn (in_turn_idles k (busy k turns) s n);
}

head_made : (made more : List Turn) (o : Option Job) → (made ≡ [] → ⊥) → HeadIs made o → BeginsAtOnce (made ++ more)
head_made [] more o some h = absurd (some refl)
head_made (u ∷ us) more o some h = h

-- a block whose other turns change nothing
pub turns_made : (k : ℕ) (script : List Op) (s : State) (a : Seat) (n all : ℕ) (t : State) (b : Seat) → n ≤ all → (is_over script b ≡ false → 1 ≤ n) → Counting k script s a n t b
    → TurnsMade k script s a all t b
turns_made k script s a n all t b few some g =
    let rest : List Turn = idles k t (all - n) in
    record {
      made = g.made ++ rest;
      is = record {
        chained = chained_on s t t g.made rest g.is.chained (chained_idles k t (all - n));
        by = all_joined (λ x. x.actor ≡ k) g.made rest g.is.by (by_idles k t (all - n));
        calls = all_joined (λ x. MakesCall x.event) g.made rest g.is.calls (calls_idles k t (all - n));
        seat = λ turns at. subst (λ us. SeatAt s.board.settings us t k script b) (append_assoc turns g.made rest) (seat_idle s.board.settings (turns ++ g.made) t k (all - n) script b (g.is.seat turns at));
        waits = g.is.waits;
      };
      head = λ left none. head_made g.made rest b.job (λ e. absurd (one_at_least (some (g.still e ∙ left)) (ap length e))) (g.head none);
      count = omega (arith, length-append g.made rest, length-idles k t (all - n), g.count, few);
    }
  where
    one_at_least : 1 ≤ n → length g.made ≡ 0 → ⊥
    one_at_least some none = omega (arith, some, none, g.count)
