-- What a turn of a session, and the turns of others, make of where it stands.
use Rattle.std.proofs.Common.{◌≡◌, ℕ, zero, suc, ◌+◌, ◌≤◌, List, [], ◌∷◌, ◌++◌, length, Bool, true, false, cond, not, ◌&&◌, ◌||◌, IsTrue, Option, Some, None, refl, sym, ap, ◌∙◌, subst, arith, inl, inr, append-nil, append_assoc, length-append}
use Rattle.std.specs.Prelude.{slice_get, MatchOption, ◌==◌, ◌⊎◌, is_none, is_some}
use Rattle.std.proofs.lemmas.Bool.{false≢true}
use Rattle.std.proofs.lemmas.Bool.Decides.{nat_tests}
use Rattle.std.proofs.lemmas.Option.{slice_get_within}
use Rattle.mi_base.specs.declared.records.LogEvent.{LogEvent}
use Rattle.mi_base.specs.declared.records.LogEvent.TheVariants.{Update, Split}
use Rattle.mi_base.specs.declared.records.Op.{Op}
use Rattle.mi_base.specs.declared.records.Op.TheVariants.{Insert, Delete, Range, Nearest}
use Rattle.mi_base.specs.declared.records.Reply.{Reply}
use Rattle.mi_base.specs.declared.records.Reply.TheVariants as reply
use Rattle.mi_base.specs.Configuration.{Configuration, space_of}
use Rattle.mi_base.specs.History.{Entered, updates_of}
use Rattle.mi_core.specs.Events.{Event}
use Rattle.mi_core.specs.State.{State}
use Rattle.mi_job.specs.declared.job.Job.{Job}
use Rattle.mi_job.specs.declared.turns.JobTurn.{JobTurn}
use Rattle.mi_job.specs.declared.turns.JobTurn.TheVariants as job
use Rattle.mi_job.specs.Claims.{IsHeld}
use Rattle.mi_job.specs.Jobs.{Ended, Enters, EntersNone, Ready, Since, Turned, asked, is_query, number_in, op_number, pinned_in, since_in}
use Rattle.mi_job.proofs.EndLemmas.{job_ends, since_kept}
use Rattle.mi_job.proofs.OthersLemmas.{job_stays, since_stays}
use Rattle.mi_legal.specs.Legal.{accepted_in, accepted_update, events_to, reach}
use Rattle.mi_legal.specs.Right.{Right}
use Rattle.mi_solo.specs.States.{view_in}
use Rattle.mi_update.specs.Stepping.{number_told}
use Rattle.mi_world.specs.View.{Others, View}
use Rattle.mi_replay.specs.declared.seats.Seat.{Seat}
use Rattle.mi_replay.specs.declared.seats.Taken.{Taken}
use Rattle.mi_replay.specs.declared.seats.Taken.TheVariants.{More, Held, Ended as Over}
use Rattle.mi_settle.specs.Moving.{Moves, event_of}
use Rattle.mi_replay.specs.Seats.{EntersSince, IsNext, IsUnder, Leaves, SeatAt, TurnMade, UnderWay, is_refusing}
use Rattle.mi_replay.specs.Operations.{EntersBetween, IsTurnOf, Operation, entry}
use Rattle.mi_settle.specs.Turns.{InTurn, Turn, busy}
use Rattle.mi_replay.proofs.SeatQueries.{Begins, begins, done_unpinned, more_pinned, pinned_stays, since_first}
use Rattle.mi_settle.proofs.TurnLemmas.{NotBy, busy_now, busy_on, ended_now, ended_on, in_turn_on, in_turn_still}
use Rattle.mi_replay.proofs.SeatTurns.{at_last, enters_on, match_weaker, not_past, operations_more, operations_on, turn_on}
use Rattle.mi_settle.proofs.ComingLemmas.{comes_same, same_others}
use Rattle.mi_replay.proofs.SeatViews.{enters_log}

enters_since_on : (turns more : List Turn) (k j : ℕ) (o : Op) (first n : ℕ) → EntersSince turns k j o first n → EntersSince (turns ++ more) k j o first n
enters_since_on turns more k j o first n e = record { place = e.place; from = e.from; at = enters_on turns more k j o n e.place e.at }

-- a session waits while others act
pub under_stays : (turns more : List Turn) (s t : State) (k : ℕ) (script : List Op) (own : List Entered) (n from : ℕ) (o : Option Job) → Others (view_in s k) (view_in t k)
    → UnderWay turns s k script own n from o → UnderWay (turns ++ more) t k script own n from o
under_stays turns more s t k script own n from None others h = (
  record {
    nothing = record {
      shard = others.same.work.update.shard ∙ h.0.nothing.shard;
      leaf = others.same.work.leaf.leaf ∙ h.0.nothing.leaf;
      sweep = others.same.work.apart.sweep.sweep ∙ h.0.nothing.sweep;
      pin = others.same.work.apart.pin ∙ h.0.nothing.pin;
    };
    unsplit = others.same.work.apart.split.splitting ∙ h.0.unsplit;
  },
  others.same.work.update.own ∙ h.1,
)
under_stays turns more s t k script own n from (Some j) others h = record {
  op = h.op;
  number = h.number;
  first = h.first;
  later = h.later;
  begin = turn_on turns more k h.first h.begin;
  begins = h.begins;
  has_begun = h.has_begun;
  owed = h.owed;
  early = h.early;
  since = since_stays (view_in s k) (view_in t k) others j own (length h.begin.turn.before.board.log) h.owed h.early h.ready h.since;
  pinned = λ q f. pinned_stays j (view_in s k) (view_in t k) h.ready h.has_begun q f ∙ h.pinned q f;
  enters = match_weaker (λ m. EntersSince turns k (op_number j) (asked j) h.first m) (λ m. EntersSince (turns ++ more) k (op_number j) (asked j) h.first m)
      (λ m e. enters_since_on turns more k (op_number j) (asked j) h.first m e) (number_in j) h.enters;
  ready = job_stays (view_in s k) (view_in t k) others j h.ready;
}

pub seat_stays : (c : Configuration) (turns more : List Turn) (s t : State) (k : ℕ) (script : List Op) (a : Seat) → Others (view_in s k) (view_in t k) → NotBy k more
    → SeatAt c turns s k script a → SeatAt c (turns ++ more) t k script a
seat_stays c turns more s t k script a others none h = record {
  to = h.to;
  done = operations_on turns more c k 1 0 h.to script a.replies.items h.done;
  within = omega (arith, h.within, length-append turns more);
  under = under_stays turns more s t k script (accepted_in k 1 script a.replies.items) (length a.replies.items) h.to a.job others h.under;
  busy_is = busy_on k turns more none ∙ h.busy_is;
  ended_is = ended_on k turns more none ∙ h.ended_is;
  in_turn = in_turn_still k turns more h.in_turn none;
}

abbrev pub taken_ends : Taken → Bool
taken_ends More = false
taken_ends Held = false
taken_ends Over = true

-- the turn that a session made
abbrev pub turn_of : ℕ → Seat → Option Event → Taken → State → State → Turn
turn_of k a e r s t = record { actor = k; event = e; begins = is_none a.job; ends = taken_ends r; before = s; after = t }

-- what a reply adds to the accepted updates
accepted_nil : (k j : ℕ) (os : List Op) → accepted_in k j os [] ≡ []
accepted_nil k j [] = refl
accepted_nil k j (o ∷ os) = refl

accepted_more : (k j i : ℕ) (os : List Op) (ys : List Reply) (o : Op) (y : Reply) → slice_get os (length ys) ≡ Some o → i ≡ j + length ys
    → accepted_in k j os (ys ++ y ∷ []) ≡ accepted_in k j os ys ++ accepted_update k i o y
accepted_more k j i [] [] o y at num = absurd (omega (arith, slice_get_within ([]) 0 o at))
accepted_more k j i (p ∷ os) [] o y at num =
    let same : p ≡ o = cc in
    let place : i ≡ j = omega (arith, num) in
    ap (λ es. accepted_update k j p y ++ es) (accepted_nil k (j + 1) os) ∙ append-nil (accepted_update k j p y) ∙ ap (λ (q : Op). accepted_update k j q y) same ∙ ap (λ (n : ℕ). accepted_update k n o y) (sym place)
accepted_more k j i (p ∷ os) (z ∷ ys) o y at num =
    ap (λ es. accepted_update k j p z ++ es) (accepted_more k (j + 1) i os ys o y at (omega (arith, num))) ∙ sym (append_assoc (accepted_update k j p z) (accepted_in k (j + 1) os ys) (accepted_update k i o y))
accepted_more k j i [] (z ∷ ys) o y at num = absurd (omega (arith, slice_get_within ([]) (length (z ∷ ys)) o at))

-- a right reply tells of what the log has
events_within : (n : ℕ) (log : List LogEvent) → events_to n log ≤ length log
events_within zero log = omega arith
events_within (suc n) [] = omega arith
events_within (suc n) (Update session op u ∷ log) = omega (arith, events_within n log)
events_within (suc n) (Split p ∷ log) = omega (arith, events_within (suc n) log)

pub reach_within : (c : Configuration) (log : List LogEvent) (allotted k j : ℕ) (o : Op) (y : Reply) → Right c log allotted k j o y → MatchOption (reach log y) (Unit {0}) (λ n. n ≤ length log)
reach_within c log allotted k j o (reply.Stored n) h = events_within n log
reach_within c log allotted k j o (reply.Removed n) h = events_within n log
reach_within c log allotted k j (Insert id v) (reply.Present p) h = h.0.within
reach_within c log allotted k j o (reply.Present p) h = absurd h
reach_within c log allotted k j (Delete id) (reply.Absent p) h = h.0.within
reach_within c log allotted k j o (reply.Absent p) h = absurd h
reach_within c log allotted k j (Range r q) (reply.Range p rows cells distances) h = h.position.within
reach_within c log allotted k j o (reply.Range p rows cells distances) h = absurd h
reach_within c log allotted k j (Nearest n q) (reply.Nearest p rows cells) h = h.position.within
reach_within c log allotted k j o (reply.Nearest p rows cells) h = absurd h
reach_within c log allotted k j o (reply.Full limit) h = tt
reach_within c log allotted k j o (reply.NoPages limit) h = tt
reach_within c log allotted k j o reply.Memory h = tt

both : (P Q : ℕ → Type 0) (o : Option ℕ) → MatchOption o (Unit {0}) P → MatchOption o (Unit {0}) Q → MatchOption o (Unit {0}) (λ n. P n × Q n)
both P Q None h g = tt
both P Q (Some n) h g = (h, g)

none_or_some : (o : Option Job) → (is_none o || is_some o) ≡ true
none_or_some None = refl
none_or_some (Some j) = refl

none_not_some : (o : Option Job) → is_none o ≡ true → is_some o ≡ false
none_not_some None h = refl
none_not_some (Some j) h = absurd (false≢true h)

eqb_true : (a b : ℕ) → IsTrue (a == b) → a ≡ b
eqb_true a b h = grind (arith, nat_tests)

no_held_query : (o : Op) (w : View) → IsHeld o w → is_query o ≡ true → ⊥
no_held_query (Insert id vector) w h q = false≢true q
no_held_query (Delete id) w h q = false≢true q
no_held_query (Range radius query) w h q = h
no_held_query (Nearest count query) w h q = h

-- One turn from s to t, of a session that had come to its turn at m; `own` are its updates before the operation, of which n have ended.
module _ (c : Configuration) (turns : List Turn) (k : ℕ) (script : List Op) (a : Seat) (e : Option Event) (r : Taken) (s m t : State) (same : m.board ≡ s.board) where
  abbrev u : Turn
  u = turn_of k a e r s t

  abbrev all : List Turn
  all = turns ++ u ∷ []

  abbrev v : View
  v = view_in m k

  abbrev w : View
  w = view_in t k

  -- the operation whose section is made, in the turns up to this one
  record Ongoing (own : List Entered) (n from : ℕ) (old : Job) : Type 0 where
    op_is : slice_get script n ≡ Some (asked old)
    number_is : op_number old ≡ n + 1
    first : ℕ
    later : from ≤ first
    begin : IsTurnOf all k first
    begins : begin.turn.begins ≡ true
    owed : ℕ → Bool
    early : Bool
    since : Since own (length begin.turn.before.board.log) owed early old v
    pinned : is_query (asked old) ≡ true → is_refusing old.operation ≡ false → pinned_in old v w ≡ length begin.turn.after.board.log
    enters : MatchOption (number_in old) (Unit {0}) (λ i. EntersSince all k (op_number old) (asked old) first i)

  ongoing : (own : List Entered) (from : ℕ) (o : Option Job) (old : Job) → a.job ≡ o → from ≤ length turns → UnderWay turns m k script own (length a.replies.items) from o
      → IsNext (space_of m.board.settings) script a o old → Ongoing own (length a.replies.items) from old
  ongoing own from None old is within under next =
      let b : Begins old.operation next.0 (length a.replies.items + 1) v = begins old.operation next.0 (length a.replies.items + 1) (space_of m.board.settings) v next.2.operation in
      let since : Since v.own (length v.seen) v.owes v.early old v = since_first old next.0 (length a.replies.items + 1) v b in
      record {
        op_is = next.1 ∙ ap Some (sym b.asked_is);
        number_is = b.number_is;
        first = length turns;
        later = within;
        begin = record { turn = u; at = at_last turns u; by = refl };
        begins = ap is_none is;
        owed = v.owes;
        early = v.early;
        since = subst (λ (i : ℕ). Since own i v.owes v.early old v) (ap (λ x. length x.log) same) (subst (λ (es : List Entered). Since es (length v.seen) v.owes v.early old v) under.1 since);
        pinned = λ q f. ap (λ x. cond x (since_in old v) (length w.seen)) next.2.not_yet;
        enters = subst (λ (i : Option ℕ). MatchOption i (Unit {0}) (λ i. EntersSince all k (op_number old) (asked old) (length turns) i)) (sym b.none) tt;
      }
  ongoing own from (Some j) old is within under next = subst (λ (x : Job). Ongoing own (length a.replies.items) from x) (sym next) (record {
    op_is = under.op;
    number_is = under.number;
    first = under.first;
    later = under.later;
    begin = turn_on turns (u ∷ []) k under.first under.begin;
    begins = under.begins;
    owed = under.owed;
    early = under.early;
    since = under.since;
    pinned = λ q f. ap (λ x. cond x (since_in j v) (length w.seen)) under.has_begun ∙ under.pinned q f;
    enters = match_weaker (λ i. EntersSince turns k (op_number j) (asked j) under.first i) (λ i. EntersSince all k (op_number j) (asked j) under.first i)
        (λ i x. enters_since_on turns (u ∷ []) k (op_number j) (asked j) under.first i x) (number_in j) under.enters;
  })

  first_within : (own : List Entered) (n from : ℕ) (old : Job) (h : Ongoing own n from old) → h.first ≤ length turns
  first_within own n from old h = not_past turns u h.first h.begin.turn h.begin.at

  -- where the update stands after this turn
  entered_now : (first : ℕ) (old new : Job) → Moves m k t → first ≤ length turns → MatchOption (number_in old) (Unit {0}) (λ i. EntersSince all k (op_number old) (asked old) first i)
      → Enters old v new w ⊎ EntersNone old v new w → MatchOption (number_in new) (Unit {0}) (λ i. EntersSince all k (op_number old) (asked old) first i)
  entered_now first old new moves within h (inl x) =
      let l = enters_log m k t old new x moves in
      subst (λ (i : Option ℕ). MatchOption i (Unit {0}) (λ i. EntersSince all k (op_number old) (asked old) first i)) (sym x.after) (record {
        place = length turns;
        from = within;
        at = record {
          of = record { turn = u; at = at_last turns u; by = refl };
          number = l.number ∙ ap (λ b. length (updates_of b.log) + 1) same;
          is = l.log ∙ ap (λ b. b.log ++ entry k (op_number old) (asked old)) same;
        };
      })
  entered_now first old new moves within h (inr x) = subst (λ (i : Option ℕ). MatchOption i (Unit {0}) (λ i. EntersSince all k (op_number old) (asked old) first i)) (sym x.number) h

  -- it goes on
  module _ (own : List Entered) (n from : ℕ) (old new : Job) (h : Ongoing own n from old) (moves : Moves m k t) where
    now : (answer : JobTurn) → Turned old v answer new w → MatchOption (number_in new) (Unit {0}) (λ i. EntersSince all k (op_number old) (asked old) h.first i)
    now answer x = entered_now h.first old new moves (first_within own n from old h) h.enters x.enters

    under_by : (answer : JobTurn) → Turned old v answer new w → Ready new w → (is_query (asked old) ≡ true → since_in new w ≡ length h.begin.turn.after.board.log) → IsUnder all t k script own n from new
    under_by answer x ready pinned = record {
      op = h.op_is ∙ ap Some (sym x.asked_is);
      number = x.number_is ∙ h.number_is;
      first = h.first;
      later = h.later;
      begin = h.begin;
      begins = h.begins;
      has_begun = x.has_begun;
      owed = h.owed;
      early = h.early;
      since = since_kept own (length h.begin.turn.before.board.log) h.owed h.early old new v w answer x h.since;
      pinned = λ q f. pinned (ap is_query (sym x.asked_is) ∙ q);
      enters = subst (λ (o : Op). MatchOption (number_in new) (Unit {0}) (λ i. EntersSince all k (op_number new) o h.first i)) (sym x.asked_is)
          (subst (λ (j : ℕ). MatchOption (number_in new) (Unit {0}) (λ i. EntersSince all k j (asked old) h.first i)) (sym x.number_is) (now answer x));
      ready = ready;
    }

    under_more : Turned old v job.More new w → IsUnder all t k script own n from new
    under_more x = under_by job.More x x.outcome.0 (λ q. x.outcome.1 q ∙ h.pinned q (more_pinned old.operation new.operation new.begun v w x.makes x.outcome.0.operation))

    under_held : Turned old v job.Held new w → IsUnder all t k script own n from new
    under_held x = under_by job.Held x x.outcome.0 (λ q. absurd (no_held_query (asked old) w x.outcome.2 q))

    -- it ends
    module _ (y : Reply) (x : Turned old v (job.Done y) new w) (settings : t.board.settings ≡ c) (ends : u.ends ≡ true) where
      end_of : Ended (asked old) (op_number old) own (length h.begin.turn.before.board.log) h.owed h.early w y
      end_of = job_ends own (length h.begin.turn.before.board.log) h.owed h.early old new v w y x h.since

      right : Right t.board.settings t.board.log t.board.allotted k (op_number old) (asked old) y
      right = end_of.right t.board.allotted (λ told. eqb_true t.board.allotted t.board.settings.pages told)

      pinned_at : (b : Bool) → is_refusing old.operation ≡ b → is_query (asked old) ≡ true → MatchOption (reach t.board.log y) (Unit {0}) (λ i. i ≡ length h.begin.turn.after.board.log)
      pinned_at false f q = match_weaker (λ i. i ≡ pinned_in old v w) (λ i. i ≡ length h.begin.turn.after.board.log) (λ i is. is ∙ h.pinned q f) (reach t.board.log y) (x.outcome.pinned q)
      pinned_at true f q = subst (λ (o : Option ℕ). MatchOption o (Unit {0}) (λ i. i ≡ length h.begin.turn.after.board.log)) (sym (done_unpinned old.operation new.operation v w t.board.log y x.makes f)) tt

      told : MatchOption (number_told y) (Unit {0}) (λ i. EntersBetween all k (op_number old) (asked old) h.first (length turns) i)
      told = match_weaker (λ i. EntersSince all k (op_number old) (asked old) h.first i) (λ i. EntersBetween all k (op_number old) (asked old) h.first (length turns) i)
          (λ i z. record { place = z.place; from = z.from; to = not_past turns u z.place z.at.of.turn z.at.of.at; at = z.at }) (number_told y)
          (subst (λ (o : Option ℕ). MatchOption o (Unit {0}) (λ i. EntersSince all k (op_number old) (asked old) h.first i)) (sym x.outcome.number_is) (now (job.Done y) x))

      operation : Operation c all k (op_number old) (asked old) y
      operation = record {
        first = h.first;
        last = length turns;
        order = first_within own n from old h;
        begin = h.begin;
        begins = h.begins;
        end = record { turn = u; at = at_last turns u; by = refl };
        ends = ends;
        right = subst (λ (d : Configuration). Right d t.board.log t.board.allotted k (op_number old) (asked old) y) settings right;
        tells = both (λ i. length h.begin.turn.before.board.log ≤ i) (λ i. i ≤ length t.board.log) (reach t.board.log y) end_of.not_before
            (reach_within t.board.settings t.board.log t.board.allotted k (op_number old) (asked old) y right);
        pinned = pinned_at (is_refusing old.operation) refl;
        enters = told;
      }

      finishes : (z : Operation c all k (n + 1) (asked old) y) × (from ≤ z.first) × (z.last ≡ length turns)
      unfolding operation
      finishes = subst (λ (j : ℕ). (z : Operation c all k j (asked old) y) × (from ≤ z.first) × (z.last ≡ length turns)) h.number_is (operation, h.later, refl)

  -- where the session stands after the turn
  module _ (h : SeatAt c turns m k script a) (b : Seat) where
    in_turn_now : InTurn k false all
    in_turn_now =
        in_turn_on k false turns (u ∷ []) h.in_turn (
          λ by. (λ begin. h.busy_is ∙ none_not_some a.job begin, λ end. ap (λ x. is_none a.job || x) h.busy_is ∙ none_or_some a.job),
          tt,
        )

    goes_on : (new : Job) → taken_ends r ≡ false → b.job ≡ Some new → b.replies.items ≡ a.replies.items
        → IsUnder all t k script (accepted_in k 1 script a.replies.items) (length a.replies.items) h.to new → SeatAt c all t k script b
    goes_on new ends job same_replies on = record {
      to = h.to;
      done = rw same_replies (operations_on turns (u ∷ []) c k 1 0 h.to script a.replies.items h.done);
      within = omega (arith, h.within, length-append turns (u ∷ []));
      under = rw (job, same_replies) on;
      busy_is = busy_now k turns u refl ∙ ap (λ x. not x && (is_none a.job || busy k turns)) ends ∙ ap (λ x. is_none a.job || x) h.busy_is ∙ none_or_some a.job ∙ sym (ap is_some job);
      ended_is = omega (arith, ended_now k turns u refl, ap {B = ℕ} (λ x. cond x 1 0) ends, h.ended_is, ap length same_replies);
      in_turn = in_turn_now;
    }

    stops : (old new : Job) (y : Reply) → t.board.settings ≡ c → taken_ends r ≡ true → b.job ≡ None → b.replies.items ≡ a.replies.items ++ y ∷ [] → Moves m k t
        → Ongoing (accepted_in k 1 script a.replies.items) (length a.replies.items) h.to old → Turned old v (job.Done y) new w → SeatAt c all t k script b
    stops old new y settings ends none more moves on x =
        let own : List Entered = accepted_in k 1 script a.replies.items in
        let z = finishes own (length a.replies.items) h.to old new on moves y x settings ends in
        let e = end_of own (length a.replies.items) h.to old new on moves y x settings ends in
        let done = operations_on turns (u ∷ []) c k 1 0 h.to script a.replies.items h.done in
        let added : accepted_in k 1 script (a.replies.items ++ y ∷ []) ≡ own ++ accepted_update k (op_number old) (asked old) y =
        accepted_more k 1 (op_number old) script a.replies.items (asked old) y on.op_is (omega (arith, on.number_is)) in
        record {
          to = z.0.last + 1;
          done = rw more (operations_more c all k 1 0 h.to (length a.replies.items + 1) script a.replies.items (asked old) y done on.op_is (omega arith) z.0 z.1);
          within = omega (arith, z.2, length-append turns (u ∷ []));
          under = rw (none, more) (e.claims, e.own_is ∙ sym added);
          busy_is = busy_now k turns u refl ∙ ap (λ x. not x && (is_none a.job || busy k turns)) ends ∙ sym (ap is_some none);
          ended_is = omega (arith, ended_now k turns u refl, ap {B = ℕ} (λ x. cond x 1 0) ends, h.ended_is, ap length more, length-append a.replies.items (y ∷ []));
          in_turn = in_turn_now;
        }

    on : (old : Job) → IsNext (space_of m.board.settings) script a a.job old → Ongoing (accepted_in k 1 script a.replies.items) (length a.replies.items) h.to old
    on old next = ongoing (accepted_in k 1 script a.replies.items) h.to a.job old refl h.within h.under next

    turned_by : (old new : Job) (answer : JobTurn) → t.board.settings ≡ c → IsNext (space_of m.board.settings) script a a.job old → Turned old v answer new w → Moves m k t → Leaves a answer r (Some new) b
        → SeatAt c all t k script b
    turned_by old new job.More settings next x moves l =
        goes_on new (ap taken_ends l.0) l.1 l.2 (under_more (accepted_in k 1 script a.replies.items) (length a.replies.items) h.to old new (on old next) moves x)
    turned_by old new job.Held settings next x moves l =
        goes_on new (ap taken_ends l.0) l.1 l.2 (under_held (accepted_in k 1 script a.replies.items) (length a.replies.items) h.to old new (on old next) moves x)
    turned_by old new (job.Done y) settings next x moves l = stops old new y settings (ap taken_ends l.0) l.1 l.2 moves (on old next) x

-- a turn of a session
pub seat_turned : (c : Configuration) (turns : List Turn) (s : State) (k : ℕ) (script : List Op) (a : Seat) (r : Taken) (b : Seat) (t : State) → s.board.settings ≡ c
    → SeatAt c turns s k script a → (h : TurnMade k script s a r b t)
    → SeatAt c (turns ++ turn_of k a (event_of h.between k t h.section.moves) r s t ∷ []) t k script b
seat_turned c turns s k script a r b t settings at h =
    let m : State = h.between in
    let x = h.section in
    let seen = comes_same s k m h.comes in
    let there : SeatAt c turns m k script a = subst (λ (us : List Turn). SeatAt c us m k script a) (append-nil turns) (seat_stays c turns [] s m k script a (same_others s k m seen) tt at) in
    turned_by c turns k script a (event_of m k t x.moves) r s m t seen.board there b x.old x.new x.answer (x.turned.later.settings ∙ ap (λ z. z.settings) seen.board ∙ settings) x.next x.turned x.moves x.leaves
