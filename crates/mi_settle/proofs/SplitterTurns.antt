-- Turn after turn of the splitter makes a block.
use Rattle.std.proofs.Common.{◌≡◌, ℕ, suc, zero, ◌+◌, ◌*◌, ◌<◌, ◌≤◌, List, [], ◌∷◌, ◌++◌, length, Bool, true, false, not, ◌&&◌, ◌||◌, IsTrue, Option, Some, None, is_some, refl, sym, ap, ◌∙◌, subst, arith, append-nil, append_assoc, eq-eqb, eqb-true, length-append, inl, inr, ◌⊎◌}
use Rattle.std.specs.Prelude.{slice_get, is_none, ◌==◌}
use Rattle.std.specs.List.{list_any}
use Rattle.std.proofs.lemmas.Bool.{false≢true, or_cases}
use Rattle.std.proofs.lemmas.List.Folds.{list_any-append}
use Rattle.std.proofs.lemmas.Option.{get_or_from_slice_get, none-some, slice_get-get_or, slice_get_within}
use Rattle.std.proofs.Math.Bool.{or_assoc, or-false}
use Rattle.mi_blink.specs.declared.turns.Why.TheVariants.{NoPages, Memory as NoMemory}
use Rattle.mi_blink.specs.declared.walk.WalkTurn.{WalkTurn}
use Rattle.mi_blink.specs.declared.walk.WalkTurn.TheVariants as walk
use Rattle.mi_blink.specs.Descents.{budget}
use Rattle.mi_blink.proofs.DescentLemmas.{falls_pack}
use Rattle.mi_board.specs.Boards.{BoardState, floor_of, is_passed}
use Rattle.mi_core.specs.Events.{Event, after, first_actor}
use Rattle.mi_core.specs.Events.Event.{see}
use Rattle.mi_core.specs.Kept.{Kept}
use Rattle.mi_core.specs.State.{State}
use Rattle.mi_core.proofs.KeptEvents.{each_keeps}
use Rattle.mi_job.specs.declared.care.Care.{Care}
use Rattle.mi_job.specs.declared.care.CareTurn.{CareTurn}
use Rattle.mi_job.specs.declared.care.CareTurn.TheVariants.{More, Idle, Done, Memory}
use Rattle.mi_job.specs.declared.care.Task.{Task}
use Rattle.mi_job.specs.declared.care.Task.TheVariants.{Sweep, Split}
use Rattle.mi_job.specs.Caring as caring
use Rattle.mi_job.specs.Claims.{ClaimsNone}
use Rattle.mi_job.proofs.EndLemmas.{care_small}
use Rattle.mi_solo.specs.Solos.{MayTurn, Section, SoloState, view_of}
use Rattle.mi_solo.specs.States.{Does, actor_in, view_in}
use Rattle.mi_solo.proofs.OwnLemmas.{mine}
use Rattle.mi_split.specs.declared.split.SplitTurn.{SplitTurn}
use Rattle.mi_split.specs.declared.split.SplitTurn.TheVariants as divided
use Rattle.mi_split.specs.Splitting.{split_most}
use Rattle.mi_tree.specs.declared.answers.Work.{Work}
use Rattle.mi_tree.specs.declared.answers.Work.TheVariants as work
use Rattle.mi_tree.specs.Growing.{GrowsBySplits}
use Rattle.mi_tree.proofs.GrowingLemmas.{grows_none, splits_on}
use Rattle.mi_tree.proofs.ListLemmas.{all_joined}
use Rattle.mi_world.specs.Boards.{GivesWork}
use Rattle.mi_world.specs.View.{View}
use Rattle.mi_world.proofs.ViewLemmas.{later_none}
use Rattle.mi_settle.specs.declared.splitters.SplitterSeat.{SplitterSeat}
use Rattle.mi_settle.specs.Working.{BeginsAtOnce, BeginsWork, EndsWork, IsIdle, LastEndsWork}
use Rattle.mi_settle.specs.Moving.{MakesCall, Moves}
use Rattle.mi_settle.specs.Splitters.{AreSections, HasLess, IsSection, SplitterAt, SplitterFinished, SplitterMade, SplitterTurned, SplitterTurnsMade, SplitterWaits, StopsAt, gave_up, is_given_up, lacks_memory, leaves_left, splits_left, sweeping}
use Rattle.mi_settle.specs.Turns.{Chained, ComesTo, Turn, busy}
use Rattle.mi_settle.proofs.TurnLemmas.{chained_on, busy_now, in_turn_on}
use Rattle.mi_settle.proofs.ComingLemmas.{SameSeen, comes, comes_same, may_still}
use Rattle.mi_settle.proofs.SplitterSections.{HasNoMore, Told, ends_turn, idle_before, told}
use Rattle.mi_settle.proofs.SplitterWork.{floor_is, idle_is}

pub section_turned : (s t : SoloState) (x : SplitterSeat) (r : CareTurn) (y : SplitterSeat) → Section s t → caring.Turned x.care (view_of s) r y.care (view_of t) → y.wanted ≡ (x.wanted || lacks_memory r)
    → SplitterTurned s.turn s.state x r y t.state
section_turned s t x r y section turned wanted =
    let m : (t.turn ≡ s.turn) × Moves s.state s.turn t.state = elim section [ inl e ↦ (ap (λ (z : SoloState). z.turn) e, inl (ap (λ (z : SoloState). z.state) e)) | inr h ↦ (h.0, inr h.1) ] in
    record { turned = subst (λ (a : ℕ). caring.Turned x.care (view_of s) r y.care (view_in t.state a)) m.0 turned; moves = m.1; wanted = wanted }

abbrev pub is_more : CareTurn → Bool
is_more More = true
is_more Idle = false
is_more Done = false
is_more Memory = false

-- the turn of a section
abbrev pub turn_by : ℕ → Option Task → CareTurn → Option Event → State → State → Turn
turn_by a task r e s t = record { actor = a; event = e; begins = is_none task && is_more r; ends = ends_turn r; before = s; after = t }

-- what a section's answer tells of the task before it and of the one after it
record Phases (task : Option Task) (r : CareTurn) (new : Option Task) : Type 0 where
  busy_next : (not (ends_turn r) && ((is_none task && is_more r) || is_some task)) ≡ is_some new
  begin : (is_none task && is_more r) ≡ true → (task ≡ None) × (r ≡ More)
  end : ends_turn r ≡ true → ((is_none task && is_more r) || is_some task) ≡ true
  over : (r ≡ More → ⊥) → new ≡ None
  -- nothing is done only where nothing was under way
  idle : task ≡ None → (r ≡ More) ⊎ (r ≡ Idle)

phases_at : (task : Option Task) (r told : CareTurn) (new next : Option Task) → r ≡ told → new ≡ next → Phases task told next → Phases task r new
phases_at task r told new next e n h = subst (λ (x : CareTurn). Phases task x new) (sym e) (subst (λ (x : Option Task). Phases task told x) (sym n) h)

more_ends : {X : Type 0} (r : CareTurn) → (More ≡ More → ⊥) → X
more_ends r h = absurd (h refl)

given_phases : (r : CareTurn) (new : Option Task) (given : Work) → caring.Begins given r new → Phases None r new
given_phases r new work.Idle b =
    phases_at None r Idle new None b.0 b.1 (record { busy_next = refl; begin = λ e. absurd (false≢true e); end = λ e. absurd (false≢true e); over = λ _. refl; idle = λ _. inr refl })
given_phases r new (work.Sweep prefix) b =
    phases_at None r More new (Some (Sweep b.1)) b.0 b.2 (record { busy_next = refl; begin = λ _. (refl, refl); end = λ e. absurd (false≢true e); over = λ h. absurd (h refl); idle = λ _. inl refl })
given_phases r new (work.Split leaf) b =
    phases_at None r More new (Some (Split b.1)) b.0 b.2 (record { busy_next = refl; begin = λ _. (refl, refl); end = λ e. absurd (false≢true e); over = λ h. absurd (h refl); idle = λ _. inl refl })

under_phases : (task : Task) (r told : CareTurn) (new next : Option Task) → r ≡ told → new ≡ next → not (ends_turn told) ≡ is_some next → ((told ≡ More → ⊥) → next ≡ None) → Phases (Some task) r new
under_phases task r told new next e n busy over =
    phases_at (Some task) r told new next e n (record {
      busy_next = both (not (ends_turn told)) ∙ busy;
      begin = λ h. absurd (false≢true h);
      end = λ _. refl;
      over = over;
      idle = λ h. absurd (none-some task (sym h));
    })
  where
    both : (b : Bool) → (b && true) ≡ b
    both true = refl
    both false = refl

phases : (task : Option Task) (r : CareTurn) (new : Option Task) (v w : View) → caring.Makes task v r new w → Phases task r new
phases None r new v w m = given_phases r new m.0 m.2
phases (Some (Sweep op)) r new v w m = go m.0 m.3
  where
    go : (told : WalkTurn) → caring.LeadsSweep told m.1 r new → Phases (Some (Sweep op)) r new
    go walk.More b = under_phases (Sweep op) r More new (Some (Sweep m.1)) b.0 b.1 refl (λ h. absurd (h refl))
    go walk.Done b = under_phases (Sweep op) r Done new None b.0 b.1 refl (λ _. refl)
phases (Some (Split op)) r new v w m = go m.0 m.3
  where
    go : (told : SplitTurn) → caring.LeadsSplit told m.1 r new → Phases (Some (Split op)) r new
    go divided.More b = under_phases (Split op) r More new (Some (Split m.1)) b.0 b.1 refl (λ h. absurd (h refl))
    go (divided.Published position) b = under_phases (Split op) r Done new None b.0 b.1 refl (λ _. refl)
    go (divided.GivenUp (NoPages limit)) b = under_phases (Split op) r Done new None b.0 b.1 refl (λ _. refl)
    go (divided.GivenUp NoMemory) b = under_phases (Split op) r Memory new None b.0 b.1 refl (λ _. refl)

-- where the answer is that nothing is to be done, next_work found nothing
found_none : (task new : Option Task) (v w : View) → caring.Makes task v Idle new w → GivesWork v w work.Idle
found_none None new v w m = go m.0 m.1 m.2
  where
    go : (given : Work) → GivesWork v w given → caring.Begins given Idle new → GivesWork v w work.Idle
    go work.Idle g b = g
    go (work.Sweep prefix) g b = absurd (idle_is_more b.0)
      where
        idle_is_more : Idle ≡ More → ⊥
        idle_is_more e = cc
    go (work.Split leaf) g b = absurd (idle_is_more b.0)
      where
        idle_is_more : Idle ≡ More → ⊥
        idle_is_more e = cc
found_none (Some (Sweep op)) new v w m = go m.0 m.3
  where
    go : (told : WalkTurn) → caring.LeadsSweep told m.1 Idle new → GivesWork v w work.Idle
    go walk.More b = absurd cc
    go walk.Done b = absurd cc
found_none (Some (Split op)) new v w m = go m.0 m.3
  where
    go : (told : SplitTurn) → caring.LeadsSplit told m.1 Idle new → GivesWork v w work.Idle
    go divided.More b = absurd cc
    go (divided.Published position) b = absurd cc
    go (divided.GivenUp (NoPages limit)) b = absurd cc
    go (divided.GivenUp NoMemory) b = absurd cc

pub claims_ready : (care : Care) (v : View) → care.task ≡ None → ClaimsNone v → caring.Ready care v
claims_ready care v none c = record {
  task = subst (λ (o : Option Task). caring.TaskIsReady o v) (sym none) (c.nothing.leaf, c.nothing.sweep, c.unsplit);
  shard = c.nothing.shard;
  pin = c.nothing.pin;
}

-- who may have a turn, may have one after its section
pub kept_moved : (s t : State) (a : ℕ) → Kept s → MayTurn s a → Moves s a t → Kept t × MayTurn t a
kept_moved s t a k may (inl e) = subst (λ (x : State). Kept x × MayTurn x a) (sym e) (k, may)
kept_moved s t a k may (inr c) =
    let l = c.leads in
    let m = mine s k a l.actor l.there l.event l.can in
    let is = get_or_from_slice_get (after s a l.actor l.event).actors a m.0 first_actor m.1 in
    subst (λ (x : State). Kept x × MayTurn x a) (sym l.is) (
      each_keeps l.event s k a l.actor l.there l.going l.can,
      record { made = slice_get_within (after s a l.actor l.event).actors a m.0 m.1; going = ap (λ (x : Rattle.mi_entries.specs.Actors.Actor). x.ended) is ∙ (m.3 ∙ l.going) },
    )

waits_seen : (s : State) (a : ℕ) (m : State) (x : SplitterSeat) → SameSeen s a m → MayTurn m a → SplitterWaits s a x → SplitterWaits m a x
waits_seen s a m x seen may h = record {
  may = may;
  ready = subst (caring.Ready x.care) (sym seen.view) h.ready;
  unpassed = λ p e. ap (λ (b : BoardState). is_passed p b) seen.board ∙ h.unpassed p (sym (ap (λ (v : View). v.leaf) seen.view) ∙ e);
}

-- one turn of the splitter
pub record Taken (a : ℕ) (s : State) (x : SplitterSeat) (r : CareTurn) (t : State) (y : SplitterSeat) : Type 0 where
  pub between : State
  pub comes : ComesTo s a between
  pub seen : SameSeen s a between
  pub turned : SplitterTurned a between x r y t
  pub told : Told a between x.care.task r y.care.task t
  pub waits : SplitterWaits t a y
  pub kept_then : Kept between
  pub kept : Kept t
  pub may : MayTurn between a

taken_by : (a : ℕ) (s m : State) (x : SplitterSeat) (r : CareTurn) (t : State) (y : SplitterSeat) → ComesTo s a m → Kept m → SplitterWaits m a x → SplitterTurned a m x r y t → Taken a s x r t y
taken_by a s m x r t y came k waits h =
    let stays = kept_moved m t a k waits.may h.moves in
    let tells = told m t k a waits.may h.turned.later.settings waits.unpassed h.moves stays.0 r y.care.task x.care.task waits.ready.task h.turned.update.own h.turned.makes in
    record {
      between = m;
      comes = came;
      seen = comes_same s a m came;
      turned = h;
      told = tells;
      waits = record { may = stays.1; ready = ready r h; unpassed = tells.unpassed };
      kept_then = k;
      kept = stays.0;
      may = waits.may;
    }
  where
    over : (r : CareTurn) → SplitterTurned a m x r y t → (r ≡ More → ⊥) → y.care.task ≡ None
    over r h not_more = (phases x.care.task r y.care.task (view_in m a) (view_in t a) h.turned.makes).over not_more

    ready : (r : CareTurn) → SplitterTurned a m x r y t → caring.Ready y.care (view_in t a)
    ready More h = h.turned.outcome.0
    ready Idle h = claims_ready y.care (view_in t a) (over Idle h (λ e. absurd cc)) h.turned.outcome
    ready Done h = claims_ready y.care (view_in t a) (over Done h (λ e. absurd cc)) h.turned.outcome
    ready Memory h = claims_ready y.care (view_in t a) (over Memory h (λ e. absurd cc)) h.turned.outcome

-- it comes to its turn, and makes a section
taken : (a : ℕ) (s m : State) (x : SplitterSeat) (r : CareTurn) (t : State) (y : SplitterSeat) → Does s a see m → Kept m → SplitterWaits s a x → SplitterTurned a m x r y t → Taken a s x r t y
taken a s m x r t y does k waits h =
    let c = comes s a m waits.may does in
    taken_by a s m x r t y c k (waits_seen s a m x (comes_same s a m c) (may_still s a m waits.may does) waits) h

pub waits_then : (a : ℕ) (s : State) (m : SoloState) (x : SplitterSeat) → m.turn ≡ a → Does s a see m.state → SplitterWaits s a x → SplitterWaits m.state m.turn x
waits_then a s m x turn does waits =
    subst (λ (n : ℕ). SplitterWaits m.state n x) (sym turn)
    (waits_seen s a m.state x (comes_same s a m.state (comes s a m.state waits.may does)) (may_still s a m.state waits.may does) waits)

pub taken_then : (a : ℕ) (s : State) (m : SoloState) (x : SplitterSeat) (r : CareTurn) (t : State) (y : SplitterSeat) → m.turn ≡ a → Does s a see m.state → Kept m.state → SplitterWaits s a x
    → SplitterTurned m.turn m.state x r y t → Taken a s x r t y
taken_then a s m x r t y turn does k waits h = taken a s m.state x r t y does k waits (subst (λ (n : ℕ). SplitterTurned n m.state x r y t) turn h)

module _ (a : ℕ) (s : State) (x : SplitterSeat) (r : CareTurn) (t : State) (y : SplitterSeat) (h : Taken a s x r t y) where
  abbrev pub turn : Turn
  turn = turn_by a x.care.task r h.told.event s t

  way : Phases x.care.task r y.care.task
  way = phases x.care.task r y.care.task (view_in h.between a) (view_in t a) h.turned.turned.makes

  gave : (pages : Bool) (turns : List Turn) → list_any (gave_up a pages) (turns ++ turn ∷ []) ≡ (list_any (gave_up a pages) turns || is_given_up pages h.told.event)
  gave pages turns =
      list_any-append (gave_up a pages) turns (turn ∷ [])
      ∙ ap (λ b. list_any (gave_up a pages) turns || b) (or-false ((a == a) && is_given_up pages h.told.event) ∙ ap (λ b. b && is_given_up pages h.told.event) (eq-eqb a a refl))

  splitter_on : (turns : List Turn) → SplitterAt turns s a x → SplitterAt (turns ++ turn ∷ []) t a y
  splitter_on turns at = record {
    busy_is = busy_now a turns turn refl ∙ ap (λ b. not turn.ends && (turn.begins || b)) at.busy_is ∙ way.busy_next;
    in_turn = in_turn_on a false turns (turn ∷ []) at.in_turn
        ((λ _. (λ e. at.busy_is ∙ ap is_some (way.begin e).0, λ e. ap (λ b. turn.begins || b) at.busy_is ∙ way.end e)), tt);
    begins = all_joined (BeginsWork a) turns (turn ∷ []) at.begins ((λ _ e. let b = way.begin e in h.told.gives b.0 b.1), tt);
    own = h.turned.turned.update.own ∙ ap (λ (v : View). v.own) h.seen.view ∙ at.own;
    wanted_is = h.turned.wanted ∙ ap (λ b. x.wanted || b) (sym h.told.lacks) ∙ ap (λ b. b || is_given_up false h.told.event) at.wanted_is ∙ sym (gave false turns);
    full = λ e. elim (or_cases (list_any (gave_up a true) turns) (is_given_up true h.told.event) (sym (gave true turns) ∙ e)) [
      | inl was ↦
          let told : IsTrue (view_in h.between a).told = ap (λ (v : View). v.told) h.seen.view ∙ eq-eqb s.board.allotted s.board.settings.pages (at.full was) in
          eqb-true t.board.allotted t.board.settings.pages (h.turned.turned.later.told told)
      | inr now ↦ h.told.full now
    ];
  }

  pub made_one : SplitterMade a s x t y (turn ∷ [])
  made_one = record {
    chained = (refl, record { between = h.between; comes = h.comes; goes = h.told.goes }, refl);
    by = (refl, tt);
    calls = (h.told.call, tt);
    gave = h.turned.wanted ∙ ap (λ b. x.wanted || b) (sym h.told.lacks ∙ sym (gave false []));
    at = splitter_on;
    waits = h.waits;
  }

  pub is_section : IsSection a x turn y
  is_section = record { between = h.between; comes = h.comes; answer = r; turned = h.turned }

  grows_then : GrowsBySplits s.board.log t.board.log
  grows_then = subst (λ (b : BoardState). GrowsBySplits b.log t.board.log) h.seen.board h.told.grows

  no_more_then : HasNoMore (sweeping x.care.task) s (sweeping y.care.task) t
  no_more_then = elim h.told.no_more [
    | inl less ↦ inl (omega (arith, less, ap splits_left h.seen.board))
    | inr same ↦ inr (omega (arith, same.0, ap splits_left h.seen.board), omega (arith, same.1, ap leaves_left h.seen.board))
  ]

  less_then : r ≡ Done → HasLess (sweeping x.care.task) s (sweeping y.care.task) t
  less_then e = elim (h.told.less e) [
    | inl less ↦ inl (omega (arith, less, ap splits_left h.seen.board))
    | inr same ↦ inr (omega (arith, same.0, ap splits_left h.seen.board), omega (arith, same.1, ap leaves_left h.seen.board))
  ]

  over_then : (r ≡ More → ⊥) → y.care.task ≡ None
  over_then not_more = way.over not_more

pub made_none : (a : ℕ) (s : State) (x : SplitterSeat) → SplitterWaits s a x → SplitterMade a s x s x []
made_none a s x waits = record { chained = refl; by = tt; calls = tt; gave = sym (or-false x.wanted); at = λ turns h. subst (λ us. SplitterAt us s a x) (sym (append-nil turns)) h; waits = waits }

pub made_on : (a : ℕ) (s : State) (x : SplitterSeat) (m : State) (z : SplitterSeat) (t : State) (y : SplitterSeat) (us vs : List Turn) → SplitterMade a s x m z us → SplitterMade a m z t y vs
    → SplitterMade a s x t y (us ++ vs)
made_on a s x m z t y us vs g h = record {
  chained = chained_on s m t us vs g.chained h.chained;
  by = all_joined (λ (u : Turn). u.actor ≡ a) us vs g.by h.by;
  calls = all_joined (λ (u : Turn). MakesCall u.event) us vs g.calls h.calls;
  gave =
      let f : Turn → Bool = gave_up a false in
      h.gave ∙ ap (λ b. b || list_any f vs) g.gave ∙ or_assoc x.wanted (list_any f us) (list_any f vs) ∙ ap (λ b. x.wanted || b) (sym (list_any-append f us vs));
  at = λ turns at. subst (λ ws. SplitterAt ws t a y) (append_assoc turns us vs) (h.at (turns ++ us) (g.at turns at));
  waits = h.waits;
}

-- where nothing is to be done, there is nothing in the state, and wasn't before
module _ (a : ℕ) (s : State) (x : SplitterSeat) (t : State) (y : SplitterSeat) (h : Taken a s x Idle t y) where
  pub nothing_given : GivesWork (view_in h.between a) (view_in t a) work.Idle
  nothing_given = found_none x.care.task y.care.task (view_in h.between a) (view_in t a) h.turned.turned.makes

  there_then : slice_get t.actors a ≡ Some (actor_in t a)
  there_then = slice_get-get_or t.actors a first_actor h.waits.may.made

  pub idle_then : IsIdle t.board
  idle_then = let g = nothing_given in idle_is t h.kept a (actor_in t a) there_then g.floor g.answer.0 g.answer.1

  pub floor_then : (actor_in t a).floor ≡ floor_of t.board
  floor_then = floor_is t h.kept a (actor_in t a) there_then nothing_given.floor

  pub idle_first : IsIdle s.board
  idle_first =
      let g = nothing_given in
      subst (λ (b : BoardState). IsIdle b) h.seen.board
      (idle_before h.between t h.kept_then a h.may h.turned.turned.later.settings h.turned.moves g.answer.2.leaf (λ none. g.answer.3.sweep ∙ none) g.update.own (ap is_some g.pin) idle_then)

-- the same turn where a split was given up before, or none was
abbrev taken_anew : (a : ℕ) (s : State) (x : SplitterSeat) (r : CareTurn) (t : State) (y : SplitterSeat) → Taken a s x r t y → (wanted : Bool)
    → Taken a s (record { care = x.care; wanted = wanted }) r t (record { care = y.care; wanted = wanted || lacks_memory r })
taken_anew a s x r t y h wanted = record {
  between = h.between;
  comes = h.comes;
  seen = h.seen;
  turned = record { turned = h.turned.turned; moves = h.turned.moves; wanted = refl };
  told = h.told;
  waits = record { may = h.waits.may; ready = h.waits.ready; unpassed = h.waits.unpassed };
  kept_then = h.kept_then;
  kept = h.kept;
  may = h.may;
}

-- an operation is on its way since these turns
pub record OnWay (a : ℕ) (s : State) (x : SplitterSeat) (t : State) (y : SplitterSeat) : Type 0 where
  pub made : List Turn
  pub is : SplitterMade a s x t y made
  pub anew : (wanted : Bool) → SplitterMade a s (record { care = x.care; wanted = wanted }) t (record { care = y.care; wanted = wanted }) made
  pub wanted : y.wanted ≡ x.wanted
  pub grows : GrowsBySplits s.board.log t.board.log
  pub no_more : HasNoMore (sweeping x.care.task) s (sweeping y.care.task) t

pub sets_out : (a : ℕ) (s : State) (x : SplitterSeat) → SplitterWaits s a x → OnWay a s x s x
sets_out a s x waits = record {
  made = [];
  is = made_none a s x waits;
  anew = λ wanted. made_none a s (record { care = x.care; wanted = wanted }) (record { may = waits.may; ready = waits.ready; unpassed = waits.unpassed });
  wanted = refl;
  grows = record { grows = grows_none s.board.log; enters = refl };
  no_more = inr (omega arith, omega arith);
}

no_more_on : (n i m : ℕ) (s u t : State) → HasNoMore n s i u → HasNoMore i u m t → HasNoMore n s m t
no_more_on n i m s u t (inl g) (inl h) = inl (omega (arith, g, h))
no_more_on n i m s u t (inl g) (inr h) = inl (omega (arith, g, h.0))
no_more_on n i m s u t (inr g) (inl h) = inl (omega (arith, g.0, h))
no_more_on n i m s u t (inr g) (inr h) = inr (omega (arith, g.0, h.0), omega (arith, g.1, h.1))

less_on : (n i m : ℕ) (s u t : State) → HasNoMore n s i u → HasLess i u m t → HasLess n s m t
less_on n i m s u t (inl g) (inl h) = inl (omega (arith, g, h))
less_on n i m s u t (inl g) (inr h) = inl (omega (arith, g, h.0))
less_on n i m s u t (inr g) (inl h) = inl (omega (arith, g.0, h))
less_on n i m s u t (inr g) (inr h) = inr (omega (arith, g.0, h.0), omega (arith, g.1, h.1))

ends_last : (made : List Turn) (u : Turn) → EndsWork u.event u.actor u.after → LastEndsWork (made ++ u ∷ [])
ends_last [] u h = h
ends_last (x ∷ []) u h = h
ends_last (x ∷ y ∷ made) u h = ends_last (y ∷ made) u h

module _ (a : ℕ) (s : State) (x : SplitterSeat) (m : State) (z : SplitterSeat) (g : OnWay a s x m z) where
  anew_on : (r : CareTurn) (t : State) (y : SplitterSeat) (h : Taken a m z r t y) (wanted : Bool)
      → SplitterMade a s (record { care = x.care; wanted = wanted }) t (record { care = y.care; wanted = wanted || lacks_memory r }) (g.made ++ turn a m z r t y h ∷ [])
  anew_on r t y h wanted =
      made_on a s (record { care = x.care; wanted = wanted }) m (record { care = z.care; wanted = wanted }) t (record { care = y.care; wanted = wanted || lacks_memory r }) g.made (turn a m z r t y h ∷ []) (g.anew wanted)
      (made_one a m (record { care = z.care; wanted = wanted }) r t (record { care = y.care; wanted = wanted || lacks_memory r }) (taken_anew a m z r t y h wanted))

  pub way_on : (t : State) (y : SplitterSeat) → Taken a m z More t y → OnWay a s x t y
  way_on t y h = record {
    made = g.made ++ turn a m z More t y h ∷ [];
    is = made_on a s x m z t y g.made (turn a m z More t y h ∷ []) g.is (made_one a m z More t y h);
    anew = λ wanted. subst (λ (b : Bool). SplitterMade a s (record { care = x.care; wanted = wanted }) t (record { care = y.care; wanted = b }) (g.made ++ turn a m z More t y h ∷ [])) (or-false wanted) (anew_on More t y h wanted);
    wanted = h.turned.wanted ∙ or-false z.wanted ∙ g.wanted;
    grows = splits_on s.board.log m.board.log t.board.log g.grows (grows_then a m z More t y h);
    no_more = no_more_on (sweeping x.care.task) (sweeping z.care.task) (sweeping y.care.task) s m t g.no_more (no_more_then a m z More t y h);
  }

  -- the measure falls with each section
  pub way_falls : (t : State) (y : SplitterSeat) → Taken a m z More t y
      → budget (view_in t a) * (split_most + 1) + caring.left y.care (view_in t a) < budget (view_in m a) * (split_most + 1) + caring.left z.care (view_in m a)
  way_falls t y h =
      let v : View = view_in h.between a in
      let falls = falls_pack v (view_in t a) (caring.left z.care v) (caring.left y.care (view_in t a)) (split_most + 1) (h.turned.turned.outcome.1 refl) (care_small y.care (view_in t a) h.waits.ready) in
      subst (λ (u : View). budget (view_in t a) * (split_most + 1) + caring.left y.care (view_in t a) < budget u * (split_most + 1) + caring.left z.care u) h.seen.view falls

  pub way_ends : (r : CareTurn) (t : State) (y : SplitterSeat) → (r ≡ More → ⊥) → Taken a m z r t y → SplitterFinished a s x r t y
  way_ends r t y not_more h = record {
    made = g.made ++ turn a m z r t y h ∷ [];
    is = made_on a s x m z t y g.made (turn a m z r t y h ∷ []) g.is (made_one a m z r t y h);
    anew = anew_on r t y h;
    kept = h.kept;
    over = over_then a m z r t y h not_more;
    floor = λ e. floor_then a m z t y (subst (λ (q : CareTurn). Taken a m z q t y) e h);
    claims = claims r not_more h;
    stops = stops r not_more h;
    wanted = h.turned.wanted ∙ ap (λ b. b || lacks_memory r) g.wanted;
    grows = splits_on s.board.log m.board.log t.board.log g.grows (grows_then a m z r t y h);
    less = λ e. less_on (sweeping x.care.task) (sweeping z.care.task) 0 s m t g.no_more
        (subst (λ (o : Option Task). HasLess (sweeping z.care.task) m (sweeping o) t) (over_then a m z r t y h not_more) (less_then a m z r t y h e));
  }
    where
      claims : (r : CareTurn) → (r ≡ More → ⊥) → Taken a m z r t y → ClaimsNone (view_in t a)
      claims More not_more h = absurd (not_more refl)
      claims Idle not_more h = h.turned.turned.outcome
      claims Done not_more h = h.turned.turned.outcome
      claims Memory not_more h = h.turned.turned.outcome

      stops : (r : CareTurn) → (r ≡ More → ⊥) → (h : Taken a m z r t y) → StopsAt r (g.made ++ turn a m z r t y h ∷ []) t
      stops More not_more h = absurd (not_more refl)
      stops Idle not_more h = idle_then a m z t y h
      stops Done not_more h = ends_last g.made (turn a m z Done t y h) (h.told.ends refl)
      stops Memory not_more h = ends_last g.made (turn a m z Memory t y h) (h.told.ends refl)

-- so many turns, each of them a section
pub record Counting (a : ℕ) (s : State) (x : SplitterSeat) (n : ℕ) (t : State) (y : SplitterSeat) : Type 0 where
  pub made : List Turn
  pub is : SplitterMade a s x t y made
  pub sections : AreSections a x made y
  pub head : x.care.task ≡ None → (IsIdle s.board → ⊥) → 1 ≤ n → BeginsAtOnce made
  pub count : length made ≡ n

pub counting_none : (a : ℕ) (s : State) (x : SplitterSeat) → SplitterWaits s a x → Counting a s x 0 s x
counting_none a s x waits = record { made = []; is = made_none a s x waits; sections = refl; head = λ _ _ some. absurd (omega (arith, some)); count = refl }

sections_on : (a : ℕ) (x : SplitterSeat) (us : List Turn) (z : SplitterSeat) (u : Turn) (y : SplitterSeat) → AreSections a x us z → IsSection a z u y → AreSections a x (us ++ u ∷ []) y
sections_on a x [] z u y same h = (y, subst (λ (w : SplitterSeat). IsSection a w u y) (sym same) h, refl)
sections_on a x (v ∷ us) z u y g h = (g.0, g.1, sections_on a g.0 us z u y g.2 h)

head_on : (us vs : List Turn) → BeginsAtOnce us → BeginsAtOnce (us ++ vs)
head_on [] vs h = absurd h
head_on (u ∷ us) vs h = h

pub counting_on : (a : ℕ) (s : State) (x : SplitterSeat) (n : ℕ) (m : State) (z : SplitterSeat) (r : CareTurn) (t : State) (y : SplitterSeat) → Counting a s x n m z → Taken a m z r t y → Counting a s x (n + 1) t y
counting_on a s x n m z r t y g h = record {
  made = g.made ++ turn a m z r t y h ∷ [];
  is = made_on a s x m z t y g.made (turn a m z r t y h ∷ []) g.is (made_one a m z r t y h);
  sections = sections_on a x g.made z (turn a m z r t y h) y g.sections (is_section a m z r t y h);
  head = λ none busy _. begins g.made g.is.chained g.sections (λ some. g.head none busy some) g.count none busy;
  count = omega (arith, length-append g.made (turn a m z r t y h ∷ []), g.count);
}
  where
    first : (r : CareTurn) → (h : Taken a m z r t y) → z.care.task ≡ None → (IsIdle m.board → ⊥) → (is_none z.care.task && is_more r) ≡ true
    first r h none busy = elim ((way a m z r t y h).idle none) [
      | inl more ↦ ap (λ (o : Option Task). is_none o && is_more r) none ∙ ap is_more more
      | inr idle ↦ absurd (busy (idle_first a m z t y (subst (λ (q : CareTurn). Taken a m z q t y) idle h)))
    ]

    begins : (us : List Turn) → Chained s us m → AreSections a x us z → (1 ≤ n → BeginsAtOnce us) → length us ≡ n → x.care.task ≡ None → (IsIdle s.board → ⊥) → BeginsAtOnce (us ++ turn a m z r t y h ∷ [])
    begins [] at same head count none busy =
        first r h (ap (λ (w : SplitterSeat). w.care.task) (sym same) ∙ none) (λ idle. busy (subst (λ (w : State). IsIdle w.board) (sym at) idle))
    begins (u ∷ us) at same head count none busy = head (omega (arith, count))

-- nothing is to be done again, and nothing changes
idle_again : (a : ℕ) (t : State) (y : SplitterSeat) (v : View) → GivesWork v (view_in t a) work.Idle → y.care.task ≡ None → ClaimsNone (view_in t a) → SplitterTurned a t y Idle y t
idle_again a t y v g none claims =
    let w : View = view_in t a in
    record {
      turned = record {
        later = later_none w;
        update = record { own = refl; shard = refl; records = refl; reserved = refl };
        actors = record { absorbed = refl; forked = refl };
        makes = subst (λ (o : Option Task). caring.Makes o w Idle o w) (sym none) (work.Idle, found, (refl, refl));
        keeps = λ owed early h. h;
        outcome = claims;
      };
      moves = inl refl;
      wanted = sym (or-false y.wanted);
    }
  where
    found : GivesWork (view_in t a) (view_in t a) work.Idle
    found =
        let w : View = view_in t a in
        record {
          later = later_none w;
          lacked = refl;
          told = refl;
          update = record { own = refl; shard = refl; records = refl; reserved = refl };
          split = record { splitting = refl; mark = refl; whole = refl; copies = refl; copied = refl };
          flags = record { undone = refl; early = refl };
          actors = record { absorbed = refl; forked = refl };
          pin = refl;
          fresh = refl;
          owes = refl;
          floor = g.floor;
          board = g.board;
          page = record { page = refl; high = refl; items = λ _. refl };
          tries = record { tried = refl; found = refl };
          answer = (g.answer.0, g.answer.1, record { leaf = refl; wanted = refl }, record { sweep = refl; swept = refl });
        }

-- after a turn in which nothing was to be done, there are as many more of these as are to be
pub counting_idles : (a : ℕ) (s : State) (x : SplitterSeat) (n : ℕ) (m : State) (z : SplitterSeat) (t : State) (y : SplitterSeat) → Counting a s x n t y → Taken a m z Idle t y → (more : ℕ) → Counting a s x (n + more) t y
counting_idles a s x n m z t y g h zero = subst (λ (k : ℕ). Counting a s x k t y) (let e : n ≡ n + zero = omega arith in e) g
counting_idles a s x n m z t y g h (suc more) =
    let over = over_then a m z Idle t y h (λ e. absurd cc) in
    let again = taken_by a t t y Idle t y (inl refl) h.kept h.waits (idle_again a t y (view_in h.between a) (nothing_given a m z t y h) over h.turned.turned.outcome) in
    subst (λ (k : ℕ). Counting a s x k t y) (let e : (n + more) + 1 ≡ n + suc more = omega arith in e) (counting_on a s x (n + more) t y Idle t y (counting_idles a s x n m z t y g h more) again)

pub counted : (a : ℕ) (s : State) (x : SplitterSeat) (n : ℕ) (t : State) (y : SplitterSeat) → 1 ≤ n → Counting a s x n t y → SplitterTurnsMade a s x n t y
counted a s x n t y some g = record { made = g.made; is = g.is; sections = g.sections; head = λ none busy. g.head none busy some; count = g.count }
