-- What scripts after a schedule leave is played.
use Rattle.std.proofs.Common.{◌≡◌, ◌≢◌, ℕ, zero, suc, ◌+◌, ◌-◌, ◌<◌, ◌≤◌, List, [], ◌∷◌, ◌++◌, map, length, Bool, true, false, ◌||◌, Option, Some, None, refl, sym, ap, ◌∙◌, subst, arith, append_assoc, eq-eqb}
use Rattle.std.specs.Prelude.{Result, slice_get, ◌==◌, ◌&&◌, is_some}
use Rattle.std.specs.List.{AllByRecursion, list_any}
use Rattle.std.proofs.Math.Bool.{and-false, or-false}
use Rattle.std.proofs.lemmas.Bool.{false≢true, or_parts}
use Rattle.std.proofs.lemmas.List.{length-map}
use Rattle.std.proofs.lemmas.List.Folds.{list_any-append}
use Rattle.std.proofs.lemmas.Option.{none-some, same_Some, slice_get_within}
use Rattle.mi_base.specs.declared.records.Op.{Op}
use Rattle.mi_base.specs.declared.records.Reply.{Reply}
use Rattle.mi_base.specs.declared.records.ScheduleItem.{ScheduleItem}
use Rattle.mi_base.specs.declared.refusals.NoMemory.{NoMemory}
use Rattle.mi_base.specs.Configuration.{Configuration, IsWithinLimits, metric_space}
use Rattle.mi_base.specs.History.{Entered, entered, updates_of}
use Rattle.mi_base.specs.Space.{IsMetric}
use Rattle.mi_core.specs.Actors.{made_by}
use Rattle.mi_core.specs.Events.{Event}
use Rattle.mi_core.specs.Events.Event.{give_up}
use Rattle.mi_core.specs.Kept.{Kept}
use Rattle.mi_core.specs.State.{State}
use Rattle.mi_core.proofs.KeptEvents.{opened_kept}
use Rattle.mi_entries.specs.Actors.{Actor}
use Rattle.mi_job.specs.declared.job.Job.{Job}
use Rattle.mi_job.specs.declared.care.Task.{Task}
use Rattle.mi_job.specs.Caring.{TaskIsReady}
use Rattle.mi_job.specs.Claims.{ClaimsNone}
use Rattle.mi_legal.specs.Legal.{EachRight, Legal, NeverFalls, accepted_in}
use Rattle.mi_legal.specs.Want.{has_memory}
use Rattle.mi_legal.specs.Work.{AllTakeSteps}
use Rattle.mi_solo.specs.States.{actor_in, view_in}
use Rattle.mi_solo.proofs.HandLemmas.{bare_shown, free_shown, whole_shown}
use Rattle.mi_tree.specs.declared.outcomes.Outcome.{Outcome}
use Rattle.mi_tree.specs.Legal.{LegalLog}
use Rattle.mi_tree.proofs.ListLemmas.{all_joined}
use Rattle.mi_world.specs.View.{View}
use Rattle.mi_replay.specs.declared.seats.Seat.{Seat}
use Rattle.mi_settle.specs.declared.splitters.SplitterSeat.{SplitterSeat}
use Rattle.mi_settle.specs.Headlines.{Headline}
use Rattle.mi_settle.specs.Working.{AllBy, BeginsWork}
use Rattle.mi_replay.specs.InOrder.{GivesUpRightly, InOrder, SessionInOrder, rounds}
use Rattle.mi_settle.specs.Moving.{MakeCalls}
use Rattle.mi_replay.specs.Outcomes.{IsLeft, Played, lacks_page}
use Rattle.mi_replay.specs.Seats.{SeatAt, UnderWay, is_over}
use Rattle.mi_settle.specs.Settling.{HoldsNothing, IsAtRest, Settles, is_refused}
use Rattle.mi_replay.specs.Spending.{IsSpent, replies_of}
use Rattle.mi_settle.specs.Splitters.{SplitterAt, SplitterWaits, gave_up, is_given_up}
use Rattle.mi_replay.specs.Tables.{AllOver, Finished, TableWaits, beginning}
use Rattle.mi_settle.specs.Turns.{Chained, ComesTo, Turn}
use Rattle.mi_settle.proofs.LaterLemmas.{Later, later_all}
use Rattle.mi_replay.proofs.OutcomeLegal.{all_entered, all_from, all_right, each_right, never_falls}
use Rattle.mi_settle.proofs.HeadlineLemmas.{headline_of, named_but, settled_at}
use Rattle.mi_replay.proofs.RunLemmas.{blocks_chained}
use Rattle.mi_settle.proofs.TurnLemmas.{chained_on, busy_now, in_turn_on}
use Rattle.mi_replay.proofs.SeatLemmas.{seat_stays}
use Rattle.mi_settle.proofs.ComingLemmas.{SameSeen, comes_same}
use Rattle.mi_replay.proofs.SpendingTables.{all_spent}
use Rattle.mi_replay.proofs.TableBlocks.{by_number}
use Rattle.mi_replay.proofs.TableLemmas.{apart_by, as_many, claims_stay, is_there, not_by}
use Rattle.mi_replay.proofs.TableOpening.{over_parts}
use Rattle.mi_replay.proofs.TableRounds.{actor_of, over_free}
use Rattle.mi_settle.specs.Outcomes.{IsOutcomeIn}

-- the splitter comes to its turn, and has nothing under way
abbrev come_turn : ℕ → State → State → Turn
come_turn n s m = record { actor = n; event = None; begins = false; ends = false; before = s; after = m }

module _ (n : ℕ) (s m : State) (comes : ComesTo s n m) where
  same : SameSeen s n m
  same = comes_same s n m comes

  come_chained : Chained s (come_turn n s m ∷ []) m
  come_chained = (refl, record { between = m; comes = comes; goes = refl }, refl)

  come_at : (turns : List Turn) (x : SplitterSeat) → x.care.task ≡ None → SplitterAt turns s n x
      → SplitterAt (turns ++ come_turn n s m ∷ []) m n (record { care = record { task = None }; wanted = x.wanted })
  come_at turns x rests h =
      let u : Turn = come_turn n s m in
      let none : (pages : Bool) → list_any (gave_up n pages) (turns ++ u ∷ []) ≡ list_any (gave_up n pages) turns =
      λ pages. list_any-append (gave_up n pages) turns (u ∷ [])
      ∙ ap (λ b. list_any (gave_up n pages) turns || b) (or-false ((n == n) && is_given_up pages None) ∙ ap (λ b. (n == n) && b) (gives_none pages) ∙ and-false (n == n))
      ∙ or-false (list_any (gave_up n pages) turns) in
      record {
        busy_is = busy_now n turns u refl ∙ h.busy_is ∙ ap is_some rests;
        in_turn = in_turn_on n false turns (u ∷ []) h.in_turn (λ is. (λ begins. absurd (false≢true begins), λ ends. absurd (false≢true ends)), tt);
        begins = all_joined (BeginsWork n) turns (u ∷ []) h.begins (λ is begins. absurd (false≢true begins), tt);
        own = ap (λ v. v.own) same.view ∙ h.own;
        wanted_is = h.wanted_is ∙ sym (none false);
        full = λ up. subst (λ b. b.allotted ≡ b.settings.pages) (sym same.board) (h.full (sym (none true) ∙ up));
      }
    where
      gives_none : (pages : Bool) → is_given_up pages None ≡ false
      gives_none true = refl
      gives_none false = refl

-- a session that is over
record SessionOver (c : Configuration) (turns : List Turn) (s : State) (k : ℕ) (os : List Op) (ys : List Reply) : Type 0 where
  order : SessionInOrder c turns k os ys
  own_is : (view_in s k).own ≡ accepted_in k 1 os ys

own_at : (turns : List Turn) (s : State) (k : ℕ) (script : List Op) (own : List Entered) (n from : ℕ) (o : Option Job) → o ≡ None → UnderWay turns s k script own n from o → (view_in s k).own ≡ own
own_at turns s k script own n from None e h = h.1
own_at turns s k script own n from (Some j) e h = absurd (none-some j (sym e))

session_over : (c : Configuration) (turns : List Turn) (s : State) (k : ℕ) (os : List Op) (a : Seat) → is_over os a ≡ true → SeatAt c turns s k os a → SessionOver c turns s k os a.replies.items
session_over c turns s k os a over at =
    let parts = over_parts a.job (length a.replies.items) (length os) over in
    record {
      order = record {
        to = at.to;
        operations = at.done;
        all = parts.1;
        in_turn = at.in_turn;
        over = at.busy_is ∙ ap is_some parts.0;
        ended_are = at.ended_is;
      };
      own_is = own_at turns s k os (accepted_in k 1 os a.replies.items) (length a.replies.items) at.to a.job parts.0 at.under;
    }

seat_of : (seats : List Seat) (j : ℕ) (ys : List Reply) → slice_get (map (λ (a : Seat). a.replies.items) seats) j ≡ Some ys → (a : Seat) × (slice_get seats j ≡ Some a) × (a.replies.items ≡ ys)
seat_of [] j ys at = absurd (none-some ys at)
seat_of (a ∷ seats) zero ys at = (a, refl, same_Some a.replies.items ys at)
seat_of (a ∷ seats) (suc j) ys at = seat_of seats j ys at

pub some_at : {X : Type 0} (xs : List X) (j : ℕ) → j < length xs → (x : X) × (slice_get xs j ≡ Some x)
some_at [] j lt = absurd (omega (arith, lt))
some_at (x ∷ xs) zero lt = (x, refl)
some_at (x ∷ xs) (suc j) lt = some_at xs j (omega (arith, lt))

-- a split is given up only where all pages are allotted, or for want of memory, of which the outcome tells
or_left : (x y : Bool) → x ≡ true → (x || y) ≡ true
or_left x y h = ap (λ b. b || y) h

or_right : (x y : Bool) → y ≡ true → (x || y) ≡ true
or_right true y h = refl
or_right false y h = h

module _ (c : Configuration) (o : Outcome) (n : ℕ) where
  rightly : (e : Option Event) → (is_given_up false e ≡ true → o.short ≡ true) → (is_given_up true e ≡ true → o.allotted ≡ c.pages) → GivesUpRightly c o e
  rightly (Some (give_up true)) short full = full refl
  rightly (Some (give_up false)) short full = short refl
  rightly None short full = tt
  rightly (Some e) short full = tt

  given_up_rightly : (us : List Turn) → (list_any (gave_up n false) us ≡ true → o.short ≡ true) → (list_any (gave_up n true) us ≡ true → o.allotted ≡ c.pages)
      → AllByRecursion (λ u. u.actor ≡ n → GivesUpRightly c o u.event) us
  given_up_rightly [] short full = tt
  given_up_rightly (u ∷ us) short full =
      let mine : (pages : Bool) → u.actor ≡ n → is_given_up pages u.event ≡ true → list_any (gave_up n pages) (u ∷ us) ≡ true =
      λ pages is up. or_left (gave_up n pages u) (list_any (gave_up n pages) us) (ap (λ b. b && is_given_up pages u.event) (eq-eqb u.actor n is) ∙ up) in (
        λ is. rightly u.event (λ up. short (mine false is up)) (λ up. full (mine true is up)),
        given_up_rightly us (λ up. short (or_right (gave_up n false u) (list_any (gave_up n false) us) up)) (λ up. full (or_right (gave_up n true u) (list_any (gave_up n true) us) up)),
      )

-- the answers that are missing come first, then the pages that were wanted
pub short_parted : (answers page split : Bool) → ((answers || split) || page) ≡ (answers || (page || split))
short_parted true page split = refl
short_parted false true true = refl
short_parted false true false = refl
short_parted false false true = refl
short_parted false false false = refl

-- where all scripts have ended, nobody claims anything
pub holds_none : (s : State) (k : ℕ) → ClaimsNone (view_in s k) → HoldsNothing (actor_in s k)
holds_none s k h = record {
  shard = h.nothing.shard;
  claim = h.nothing.leaf;
  sweep = (free_shown s k (actor_in s k) h.nothing.leaf h.nothing.sweep).sweep;
  split = whole_shown s k (actor_in s k) h.unsplit;
  pin = bare_shown s k (actor_in s k) h.nothing.pin;
}

task_none : (o : Option Task) (v : View) → o ≡ None → TaskIsReady o v → TaskIsReady None v
task_none None v e h = h
task_none (Some x) v e h = absurd (none-some x (sym e))

resting_claims : (s : State) (n : ℕ) (x : SplitterSeat) → x.care.task ≡ None → SplitterWaits s n x → ClaimsNone (view_in s n)
resting_claims s n x rests h =
    let task = task_none x.care.task (view_in s n) rests h.ready.task in
    record { nothing = record { shard = h.ready.shard; leaf = task.0; sweep = task.1; pin = h.ready.pin }; unsplit = task.2 }

module _ (scripts : List (List Op)) (s : State) (seats : List Seat) (x : SplitterSeat) (w : TableWaits scripts s seats x) where
  session_apart : (j : ℕ) → j < length s.actors → j ≢ length scripts → j < length scripts
  session_apart j lt apart = omega (arith, lt, w.actors, apart)

  none_claims : AllOver scripts seats → x.care.task ≡ None → (b : ℕ) → b < length s.actors → ClaimsNone (view_in s b)
  none_claims over rests b lt = by_number (ClaimsNone (view_in s b)) b (length scripts)
      (λ e. subst (λ k. ClaimsNone (view_in s k)) (sym e) (resting_claims s (length scripts) x rests w.splitter))
      (λ apart.
      let os = some_at scripts b (session_apart b lt apart) in
      let a = some_at seats b (omega (arith, session_apart b lt apart, w.count)) in
      over_free s b os.0 a.0 (w.each b os.0 a.0 os.1 a.1) (over b os.0 a.0 os.1 a.1))

  pub at_rest : (m : State) → AllOver scripts seats → x.care.task ≡ None → ComesTo s (length scripts) m → IsAtRest m
  at_rest m over rests comes b r at =
      let n : ℕ = length scripts in
      let chain : Chained s (come_turn n s m ∷ []) m = come_chained n s m comes in
      let count : length m.actors ≡ length s.actors = as_many s (come_turn n s m ∷ []) m chain (tt, tt) in
      let lt : b < length s.actors = omega (arith, slice_get_within m.actors b r at, count) in
      let before : ClaimsNone (view_in s b) = none_claims over rests b lt in
      let now : ClaimsNone (view_in m b) = by_number (ClaimsNone (view_in m b)) b n
      (λ e. subst (λ k. ClaimsNone (view_in m k)) (sym e) (subst ClaimsNone (sym (comes_same s n m comes).view) (subst (λ k. ClaimsNone (view_in s k)) e before)))
      (λ apart. claims_stay (view_in s b) (view_in m b) (apart_by b n s (come_turn n s m ∷ []) m apart lt w.kept chain (refl, tt) (tt, tt)).view before) in
      subst HoldsNothing (sym (actor_of m b r at)) (holds_none m b now)

  -- all may take turns after the splitter has settled
  pub all_going : (m : State) (r : Result (Unit {0}) NoMemory) (t : State) → ComesTo s (length scripts) m → Settles (length scripts) m r t
      → (length t.actors ≡ length scripts + 1) × ((b : ℕ) → b < length scripts + 1 → (actor_in t b).ended ≡ false)
  all_going m r t comes h =
      let n : ℕ = length scripts in
      let all : List Turn = come_turn n s m ∷ h.made in
      let chain : Chained s all t = chained_on s m t (come_turn n s m ∷ []) h.made (come_chained n s m comes) h.chained in (
        as_many s all t chain (tt, h.calls) ∙ w.actors,
        λ b lt. by_number ((actor_in t b).ended ≡ false) b n (λ e. ap (λ k. (actor_in t k).ended) e ∙ h.may.going)
            (λ apart.
            let os = some_at scripts b (omega (arith, lt, apart)) in
            let a = some_at seats b (omega (arith, lt, apart, w.count)) in
            ap (λ (q : Actor). q.ended) (apart_by b n s all t apart (omega (arith, lt, w.actors)) w.kept chain (refl, h.by) (tt, h.calls)).actor_is ∙ (w.each b os.0 a.0 os.1 a.1).may.going),
      )

module _ (c : Configuration) (scripts : List (List Op)) (schedule : List ScheduleItem) (s : State) (seats : List Seat) (x : SplitterSeat) (o : Outcome) (f : Finished c scripts schedule s seats x)
    (h : IsLeft (length scripts) c.pages s seats x o) where
  opening_kept : Kept (beginning c scripts)
  opening_kept =
      let k = f.ran.waits.kept.sound in
      let of : s.board.settings ≡ c = f.ran.at.settings in
      let limits : IsWithinLimits c = subst IsWithinLimits of k.limits in
      opened_kept c limits (subst (λ z. IsMetric (metric_space z)) of k.metric) (length scripts + 1) (c.pages - 1) (omega (arith, limits.pages.0))

  -- the splitter's turns at the end
  abbrev settling : List Turn
  settling = come_turn (length scripts) s h.before ∷ h.settles.made

  settling_chained : Chained s settling h.last
  settling_chained = chained_on s h.before h.last (come_turn (length scripts) s h.before ∷ []) h.settles.made (come_chained (length scripts) s h.before h.comes) h.settles.chained

  settling_by : AllBy (length scripts) settling
  settling_by = (refl, h.settles.by)

  settling_calls : MakeCalls settling
  settling_calls = (tt, h.settles.calls)

  abbrev turns : List Turn
  turns = f.ran.turns ++ settling

  chained : Chained (beginning c scripts) turns h.last
  chained = chained_on (beginning c scripts) s h.last f.ran.turns settling (blocks_chained scripts [] (beginning c scripts) (schedule ++ rounds (length scripts) f.many) f.ran.turns s f.ran.blocks) settling_chained

  later : Later s h.last
  later = later_all s settling h.last f.ran.waits.kept settling_chained

  settings : h.last.board.settings ≡ c
  settings = later.settings ∙ f.ran.at.settings

  few : length (updates_of h.last.board.log) ≤ c.updates
  few = subst (λ (z : Configuration). length (updates_of h.last.board.log) ≤ z.updates) settings later.kept.sound.legal.few

  count : length o.replies ≡ length scripts
  count = ap length h.replies_are ∙ length-map seats (λ (a : Seat). a.replies.items) ∙ f.ran.waits.count

  splitter : SplitterAt turns h.last (length scripts) (record { care = record { task = None }; wanted = x.wanted || is_refused h.result })
  splitter =
      let n : ℕ = length scripts in
      let come = come_at n s h.before h.comes f.ran.turns x f.rests f.ran.at.splitter in
      subst (λ us. SplitterAt us h.last n (record { care = record { task = None }; wanted = x.wanted || is_refused h.result })) (append_assoc f.ran.turns (come_turn n s h.before ∷ []) h.settles.made)
      (h.settles.at (f.ran.turns ++ come_turn n s h.before ∷ []) x.wanted come)

  each : (j : ℕ) (os : List Op) (ys : List Reply) → slice_get scripts j ≡ Some os → slice_get o.replies j ≡ Some ys → SessionOver c turns h.last j os ys
  each j os ys at_os at_ys =
      let a = seat_of seats j ys (sym (ap (λ z. slice_get z j) h.replies_are) ∙ at_ys) in
      let lt : j < length scripts = slice_get_within scripts j os at_os in
      let apart : j ≢ length scripts = λ e. absurd (omega (arith, e, lt)) in
      let view = (apart_by j (length scripts) s settling h.last apart (omega (arith, lt, f.ran.waits.actors)) f.ran.waits.kept settling_chained settling_by settling_calls).view in
      let after : SeatAt c turns h.last j os a.0 =
      seat_stays c f.ran.turns settling s h.last j os a.0 view (not_by j (length scripts) settling apart settling_by) (f.ran.at.each j os a.0 at_os a.1) in
      subst (SessionOver c turns h.last j os) a.2 (session_over c turns h.last j os a.0 (f.over j os a.0 at_os a.1) after)

  record_own : (j : ℕ) → j < length scripts + 1 → made_by j h.last.board.log ≡ (view_in h.last j).own
  record_own j lt =
      let there : j < length h.last.actors = omega (arith, lt, as_many s settling h.last settling_chained settling_calls, f.ran.waits.actors) in
      (later.kept.sound.each j (actor_in h.last j) (is_there h.last j there)).own

  actors : length h.last.actors ≡ length scripts + 1
  actors = as_many s settling h.last settling_chained settling_calls ∙ f.ran.waits.actors

  legal : Legal c scripts o.replies o.log o.allotted
  legal =
      let log = h.last.board.log in
      let all = h.last.board.allotted in
      let n : ℕ = length scripts in
      let here : Legal c scripts o.replies log all = record {
        log_is = subst (λ (z : Configuration). LegalLog z log) settings later.kept.sound.legal;
        right = all_right c log all 0 scripts o.replies count (λ j os ys at_os at_ys.
            let z = each j os ys at_os at_ys in
            subst (λ (m : ℕ). EachRight c log all m 1 os ys) (omega arith)
            (each_right c (beginning c scripts) h.last turns opening_kept chained settings few j 1 0 z.order.to os ys z.order.operations z.order.all));
        entered_are = all_entered log 0 scripts o.replies count (λ j os ys at_os at_ys.
            let z = each j os ys at_os at_ys in
            subst (λ (m : ℕ). made_by m log ≡ accepted_in m 1 os ys) (omega arith) (record_own j (omega (arith, slice_get_within scripts j os at_os)) ∙ z.own_is));
        named = named_but n (entered log) (subst (λ (m : ℕ). AllByRecursion (λ (e : Entered). e.session < m) (entered log)) actors later.kept.sound.made) (record_own n (omega arith) ∙ splitter.own);
        forward = all_from (NeverFalls log 0) o.replies (λ j ys at_ys.
            let os = some_at scripts j (omega (arith, slice_get_within o.replies j ys at_ys, count)) in
            let z = each j os.0 ys os.1 at_ys in
            never_falls c (beginning c scripts) h.last turns opening_kept chained j 1 0 z.order.to os.0 ys 0 z.order.operations (λ i u later at. omega arith));
      } in
      subst (λ l. Legal c scripts o.replies l o.allotted) (sym h.core.log_is) (subst (λ a. Legal c scripts o.replies log a) (sym h.core.allotted_is) here)

  -- want of memory is told
  short_parts : o.short ≡ false → is_refused h.result ≡ false
  short_parts e =
      let all = or_parts (has_memory o.replies) (lacks_page h.last || (x.wanted || is_refused h.result)) (sym h.short_is ∙ e) in
      let more = or_parts (lacks_page h.last) (x.wanted || is_refused h.result) all.1 in
      (or_parts x.wanted (is_refused h.result) more.1).1

  gave_up_short : list_any (gave_up (length scripts) false) turns ≡ true → o.short ≡ true
  gave_up_short up =
      h.short_is ∙ or_right (has_memory o.replies) (lacks_page h.last || (x.wanted || is_refused h.result))
      (or_right (lacks_page h.last) (x.wanted || is_refused h.result) (splitter.wanted_is ∙ up))

  gave_up_full : list_any (gave_up (length scripts) true) turns ≡ true → o.allotted ≡ c.pages
  gave_up_full up = h.core.allotted_is ∙ splitter.full up ∙ ap (λ (z : Configuration). z.pages) settings

  outcome_in : IsOutcomeIn c o h.last
  outcome_in = subst (λ (z : Configuration). IsOutcomeIn z o h.last) settings h.core

  in_order : InOrder c scripts schedule o
  in_order = record {
    many = f.many;
    turns = f.ran.turns;
    finished = s;
    blocks = f.ran.blocks;
    rests = f.ran.at.splitter.busy_is ∙ ap is_some f.rests;
    settling = settling;
    last = h.last;
    settles = settling_chained;
    by_splitter = settling_by;
    outcome = outcome_in;
    splitter = record { in_turn = splitter.in_turn; begins = splitter.begins };
    given_up = given_up_rightly c o (length scripts) turns gave_up_short gave_up_full;
    count = count;
    sessions = λ j os ys at_os at_ys. (each j os ys at_os at_ys).order;
  }

  -- the steps that the replies tell
  pub takes_steps : (first n : ℕ) → IsSpent scripts first n s seats → AllTakeSteps c o.log scripts o.replies first n
  takes_steps first n spent =
      subst (λ ys. AllTakeSteps c o.log scripts ys first n) (sym h.replies_are)
      (subst (λ log. AllTakeSteps c log scripts (replies_of seats) first n) (sym h.core.log_is)
      (all_spent c scripts s seats first n h.last.board.log f.ran.at.settings later.grows f.over spent))

  headline : Headline c scripts o
  headline = headline_of c scripts o h.last later.kept settings outcome_in h.limit_is legal
      (λ e. (or_parts (has_memory o.replies) (lacks_page h.last || (x.wanted || is_refused h.result)) (sym h.short_is ∙ e)).0)
      (λ e. settled_at h.result h.last (short_parts e) h.settles.leaves)

  pub played : Played c scripts schedule o
  unfolding in_order
  played = record {
    headline = headline;
    order = in_order;
    short_is = h.short_is ∙ ap (λ b. has_memory o.replies || (lacks_page h.last || b)) splitter.wanted_is;
  }
