-- What a section of the splitter is as an event of the core.
use Rattle.std.proofs.Common.{◌≡◌, ℕ, ◌+◌, ◌-◌, ◌*◌, ◌<◌, ◌≤◌, List, [], ◌∷◌, ◌++◌, length, map, Bool, true, false, cond, not, ◌&&◌, ◌||◌, nat_lt, Option, Some, None, is_some, refl, sym, ap, ◌∙◌, subst, arith, append-nil, eqb-true, length-append, inl, inr, ◌⊎◌}
use Rattle.std.specs.Prelude.{slice_get, ◌==◌, Ok}
use Rattle.std.specs.List.{list_any}
use Rattle.std.proofs.lemmas.Bool.{and_parts, false≢true, ltb-true, not-true}
use Rattle.std.proofs.lemmas.List.{length-map}
use Rattle.std.proofs.lemmas.Option.{get_or_from_slice_get, none-some, same_Some, slice_get-get_or}
use Rattle.mi_base.specs.declared.records.LogEvent.{LogEvent}
use Rattle.mi_base.specs.declared.records.LogEvent.TheVariants.{Split as Divides}
use Rattle.mi_base.specs.declared.records.Position.{Position}
use Rattle.mi_base.specs.Configuration.{Configuration}
use Rattle.mi_base.specs.History.{at_position, entered, splits_of, updates_of}
use Rattle.mi_base.proofs.HistoryLemmas.{entered-append, few_updates, updates_of-append}
use Rattle.mi_blink.specs.declared.turns.Why.TheVariants.{NoPages, Memory as NoMemory}
use Rattle.mi_blink.specs.declared.walk.WalkTurn.{WalkTurn}
use Rattle.mi_blink.specs.declared.walk.WalkTurn.TheVariants as walk
use Rattle.mi_board.specs.Actors.{without_claim}
use Rattle.mi_board.specs.Boards.{BoardState, floor_of, is_passed, with_actor}
use Rattle.mi_core.specs.Effects.{saw}
use Rattle.mi_core.specs.Events.{Can, Event, after, copied_of, first_actor}
use Rattle.mi_core.specs.Events.Event.{claim_leaf, give_up, publish, release_leaf, sweep, take_split, take_sweep}
use Rattle.mi_core.specs.Kept.{Kept}
use Rattle.mi_core.specs.State.{State, put_actor, put_board}
use Rattle.mi_core.proofs.ActorLemmas.{set_there}
use Rattle.mi_core.proofs.KeptEvents.{each_keeps}
use Rattle.mi_core.proofs.NextLemmas.{next_swept}
use Rattle.mi_entries.specs.Actors.{Actor, Pin, SplitWork, SweepWork}
use Rattle.mi_entries.specs.Entries.{grid}
use Rattle.mi_entries.proofs.MemberLemmas.{find_in}
use Rattle.mi_job.specs.declared.care.CareTurn.{CareTurn}
use Rattle.mi_job.specs.declared.care.CareTurn.TheVariants.{More, Idle, Done, Memory}
use Rattle.mi_job.specs.declared.care.Task.{Task}
use Rattle.mi_job.specs.declared.care.Task.TheVariants.{Sweep, Split}
use Rattle.mi_job.specs.Caring as caring
use Rattle.mi_solo.specs.Solos.{Calls, IsCall, MayTurn}
use Rattle.mi_solo.specs.States.{actor_in, view_in}
use Rattle.mi_solo.specs.Viewing.{copy_keys, pinned_log, shown_to, swept_leaf}
use Rattle.mi_solo.proofs.OwnLemmas.{mine}
use Rattle.mi_solo.proofs.GatheredLemmas.{all_copied}
use Rattle.mi_solo.proofs.WorkEvents.{gives_up}
use Rattle.mi_split.specs.declared.split.SplitOp.{SplitOp}
use Rattle.mi_split.specs.declared.split.SplitTurn.{SplitTurn}
use Rattle.mi_split.specs.declared.split.SplitTurn.TheVariants as divided
use Rattle.mi_split.specs.declared.sweep.SweepOp.{SweepOp}
use Rattle.mi_split.specs.Splitting as splitting
use Rattle.mi_split.specs.Sweeping as sweeps
use Rattle.mi_tree.specs.declared.answers.Work.{Work}
use Rattle.mi_tree.specs.declared.answers.Work.TheVariants as work
use Rattle.mi_tree.specs.declared.outcomes.Leaf.{Leaf}
use Rattle.mi_tree.specs.Cells.{leaves, same_cell}
use Rattle.mi_tree.specs.Counting.{is_wanted, leaf_with, population}
use Rattle.mi_tree.specs.Growing.{GrowsBySplits}
use Rattle.mi_tree.specs.Legal.{cells_of}
use Rattle.mi_tree.proofs.GrowingLemmas.{grows_length, grows_none}
use Rattle.mi_tree.proofs.LeafLemmas.{same_cell_is}
use Rattle.mi_tree.proofs.LimitLemmas.{is_grid}
use Rattle.mi_tree.proofs.SplitsLemmas.{few_splits}
use Rattle.mi_world.specs.Boards.{GivesWork, is_free}
use Rattle.mi_world.specs.Splits.{GivesUp, Publishes, copied_in}
use Rattle.mi_world.specs.View.{View, prefix_or}
use Rattle.mi_settle.specs.Working as order
use Rattle.mi_settle.specs.Working.{EndsWork, IsIdle}
use Rattle.mi_settle.specs.Moving.{MakesCall, Moves}
use Rattle.mi_settle.specs.Splitters.{HasLess, is_given_up, lacks_memory, leaves_left, splits_left, sweeping}
use Rattle.mi_settle.specs.Turns.{Goes}
use Rattle.mi_settle.proofs.SplitterEvents.{SameTasks, ends_claim, ends_sweep, goes_on, same_tasks, takes_leaf, takes_sweep, was_idle}
use Rattle.mi_settle.proofs.SplitterWork.{drops_one, may_take, passes_one, same_left, same_taken}

-- an operation of the splitter has ended
abbrev pub ends_turn : CareTurn → Bool
ends_turn More = false
ends_turn Idle = false
ends_turn Done = true
ends_turn Memory = true

-- no more is left to do
abbrev pub HasNoMore : ℕ → State → ℕ → State → Type 0
HasNoMore n s m t = (splits_left t.board < splits_left s.board) ⊎ ((splits_left t.board ≤ splits_left s.board) × (leaves_left t.board + m ≤ leaves_left s.board + n))

-- the event of a section, by the task before it and the one after it
pub record Told (a : ℕ) (s : State) (task : Option Task) (r : CareTurn) (new : Option Task) (t : State) : Type 0 where
  pub event : Option Event
  pub goes : Goes event s a t
  pub call : MakesCall event
  pub gives : task ≡ None → r ≡ More → order.GivesWork event
  pub ends : ends_turn r ≡ true → EndsWork event a t
  pub lacks : is_given_up false event ≡ lacks_memory r
  pub full : is_given_up true event ≡ true → t.board.allotted ≡ t.board.settings.pages
  pub unpassed : (p : List ℕ) → (actor_in t a).claim ≡ Some p → is_passed p t.board ≡ false
  pub grows : GrowsBySplits s.board.log t.board.log
  pub no_more : HasNoMore (sweeping task) s (sweeping new) t
  pub less : r ≡ Done → HasLess (sweeping task) s (sweeping new) t

pin_shown : (log : List LogEvent) (o : Option Pin) → is_some (pinned_log log o) ≡ is_some o
pin_shown log None = refl
pin_shown log (Some p) = refl

none_given : (pages : Bool) → is_given_up pages None ≡ false
none_given true = refl
none_given false = refl

no_sweep : (o : Option SweepWork) → swept_leaf o ≡ None → o ≡ None
no_sweep None e = refl
no_sweep (Some w) e = absurd (none-some w.leaf (sym e))

by_splits : (old new : List LogEvent) → new ≡ old → GrowsBySplits old new
by_splits old new e = subst (GrowsBySplits old) (sym e) (record { grows = grows_none old; enters = refl })

less_no_more : (n m : ℕ) (s t : State) → HasLess n s m t → HasNoMore n s m t
less_no_more n m s t (inl h) = inl h
less_no_more n m s t (inr h) = inr (h.0, omega (arith, h.1))

-- a leaf of this prefix has what the list tells of one
any_has : (f : List ℕ → Leaf) → ((q : List ℕ) → (f q).prefix ≡ q) → (X : Leaf → Bool) (p : List ℕ) (ls : List (List ℕ)) → list_any (λ (l : Leaf). same_cell p l.prefix && X l) (map f ls) ≡ true → X (f p) ≡ true
any_has f is X p [] h = absurd (false≢true h)
any_has f is X p (q ∷ ls) h =
    let P : Bool → Type 0 = λ b. (same_cell p (f q).prefix && X (f q)) ≡ b → (b || list_any (λ (l : Leaf). same_cell p l.prefix && X l) (map f ls)) ≡ true → X (f p) ≡ true in
    (elim (same_cell p (f q).prefix && X (f q)) as P [
      | true ↦ λ e _.
          let parts = and_parts (same_cell p (f q).prefix) (X (f q)) e in
          ap (λ z. X (f z)) (same_cell_is p (f q).prefix parts.0 ∙ is q) ∙ parts.1
      | false ↦ λ e h. any_has f is X p ls h
    ]) refl h

module _ (s t : State) (k : Kept s) (a : ℕ) (may : MayTurn s a) (settings : t.board.settings ≡ s.board.settings) where
  abbrev r : Actor
  r = actor_in s a

  abbrev q : Actor
  q = actor_in t a

  there : slice_get s.actors a ≡ Some (actor_in s a)
  there = slice_get-get_or s.actors a first_actor may.made

  -- a call, with the records of its actor
  record Led : Type 0 where
    event : Event
    call : IsCall event
    can : Can s a (actor_in s a) event
    is : t ≡ after s a (actor_in s a) event
    now : slice_get (after s a (actor_in s a) event).actors a ≡ Some (actor_in t a)

  now_by : (e : Event) → Can s a (actor_in s a) e → t ≡ after s a (actor_in s a) e → slice_get (after s a (actor_in s a) e).actors a ≡ Some (actor_in t a)
  now_by e can is =
      let m = mine s k a (actor_in s a) there e can in
      m.1 ∙ ap Some (sym (get_or_from_slice_get (after s a (actor_in s a) e).actors a m.0 first_actor m.1)) ∙ ap (λ (z : State). Some (actor_in z a)) (sym is)

  led : Calls s a t → Led
  led c =
      let at : c.leads.actor ≡ actor_in s a = sym (get_or_from_slice_get s.actors a c.leads.actor first_actor c.leads.there) in
      let can : Can s a (actor_in s a) c.leads.event = subst (λ (x : Actor). Can s a x c.leads.event) at c.leads.can in
      let is : t ≡ after s a (actor_in s a) c.leads.event = c.leads.is ∙ ap (λ (x : Actor). after s a x c.leads.event) at in
      record { event = c.leads.event; call = c.call; can = can; is = is; now = now_by c.leads.event can is }

  goes_by : (e : Event) → Can s a (actor_in s a) e → t ≡ after s a (actor_in s a) e → Goes (Some e) s a t
  goes_by e can is = (record { actor = actor_in s a; there = there; going = may.going; event = e; can = can; is = is }, refl)

  kept_by : (e : Event) → Can s a (actor_in s a) e → Kept (after s a (actor_in s a) e)
  kept_by e can = each_keeps e s k a (actor_in s a) there may.going can

  -- where something of the record changes, there was a call
  moved : Moves s a t → (t ≡ s → ⊥) → Led
  moved (inl same) differs = absurd (differs same)
  moved (inr c) differs = led c

  tasks_left : SameTasks s t → (n m : ℕ) → m ≤ n → HasNoMore n s m t
  tasks_left h n m le =
      let L : Configuration → List LogEvent → ℕ = λ c log. c.updates * c.levels - splits_of log in
      let splits : splits_left t.board ≡ splits_left s.board = ap (λ c. L c t.board.log) settings ∙ ap (L s.board.settings) h.log in
      inr (omega (arith, splits), omega (arith, same_left s.board t.board settings h.log h.passed, ap length h.retired, le))

  same_unpassed : SameTasks s t → (p : List ℕ) → is_passed p s.board ≡ false → is_passed p t.board ≡ false
  same_unpassed h p e = ap (list_any (same_cell p)) h.passed ∙ e

  -- where there is nothing to do, and nothing was done, there was nothing to do before
  pub idle_before : Moves s a t → (actor_in t a).claim ≡ (actor_in s a).claim → (swept_leaf (actor_in s a).sweep ≡ None → swept_leaf (actor_in t a).sweep ≡ None) → (actor_in t a).own ≡ (actor_in s a).own
      → is_some (view_in t a).pin ≡ is_some (view_in s a).pin → IsIdle t.board → IsIdle s.board
  idle_before (inl same) claim unswept own pins idle = subst (λ (z : State). IsIdle z.board) same idle
  idle_before (inr c) claim unswept own pins idle =
      let l = led c in
      was_idle s k a (actor_in s a) (actor_in t a) there l.event l.call l.can l.now claim unswept own
      (sym (pin_shown t.board.log (actor_in t a).pin) ∙ pins ∙ pin_shown s.board.log (actor_in s a).pin) (subst (λ (z : State). IsIdle z.board) l.is idle)

  module _ (unpassed : (p : List ℕ) → (actor_in s a).claim ≡ Some p → is_passed p s.board ≡ false) where
    -- a section whose event leaves as much to do
    tasks_stay : (e : Option Event) → Goes e s a t → MakesCall e → SameTasks s t → (task : Option Task) (answer : CareTurn) (new : Option Task) → (task ≡ None → answer ≡ More → order.GivesWork e)
        → (ends_turn answer ≡ true → EndsWork e a t) → is_given_up false e ≡ lacks_memory answer → is_given_up true e ≡ false → ((p : List ℕ) → (actor_in t a).claim ≡ Some p → is_passed p t.board ≡ false)
        → (answer ≡ Done → ⊥) → sweeping new ≤ sweeping task → Told a s task answer new t
    tasks_stay e goes call tasks task answer new gives ends lacks kept_up free done le = record {
      event = e;
      goes = goes;
      call = call;
      gives = gives;
      ends = ends;
      lacks = lacks;
      full = λ all. absurd (false≢true (sym kept_up ∙ all));
      unpassed = free;
      grows = by_splits s.board.log t.board.log tasks.log;
      no_more = tasks_left tasks (sweeping task) (sweeping new) le;
      less = λ e. absurd (done e);
    }

    -- a section after which the claim stands as it stood
    stands : Moves s a t → (task : Option Task) (answer : CareTurn) (new : Option Task) → (actor_in t a).claim ≡ (actor_in s a).claim
        → (swept_leaf (actor_in s a).sweep ≡ None → swept_leaf (actor_in t a).sweep ≡ None) → (actor_in t a).own ≡ (actor_in s a).own
        → ends_turn answer ≡ false → lacks_memory answer ≡ false → (task ≡ None → answer ≡ More → ⊥) → (answer ≡ Done → ⊥) → sweeping new ≤ sweeping task → Told a s task answer new t
    stands moves task answer new claim unswept own ends lacks gives done le =
        let chosen : (e : Option Event) × Goes e s a t × MakesCall e × ((pages : Bool) → is_given_up pages e ≡ false) × SameTasks s t = choose moves in
        tasks_stay chosen.0 chosen.1 chosen.2 chosen.4 task answer new (λ none more. absurd (gives none more)) (λ e. absurd (false≢true (sym ends ∙ e))) (chosen.3 false ∙ sym lacks) (chosen.3 true)
        (λ p e. same_unpassed chosen.4 p (unpassed p (sym claim ∙ e))) done le
      where
        choose : Moves s a t → (e : Option Event) × Goes e s a t × MakesCall e × ((pages : Bool) → is_given_up pages e ≡ false) × SameTasks s t
        choose (inl same) = (None, same, tt, none_given, subst (SameTasks s) (sym same) (same_tasks s))
        choose (inr c) =
            let l = led c in
            let g = goes_on s k a (actor_in s a) (actor_in t a) there l.event l.call l.can l.now claim unswept own in
            (Some l.event, goes_by l.event l.can l.is, l.call, g.1, subst (SameTasks s) (sym l.is) g.0)

    idles : Moves s a t → GivesWork (view_in s a) (view_in t a) work.Idle → Told a s None Idle None t
    idles moves g =
        stands moves None Idle None g.answer.2.leaf (λ none. g.answer.3.sweep ∙ none) g.update.own refl refl (λ _ e. cc) (λ e. cc) (omega arith)

    -- a sweep is taken
    begins_sweep : Moves s a t → (actor_in s a).claim ≡ None → swept_leaf (actor_in s a).sweep ≡ None → (prefix : List ℕ) → GivesWork (view_in s a) (view_in t a) (work.Sweep prefix) → (op : SweepOp)
        → Told a s None More (Some (Sweep op)) t
    begins_sweep moves none unswept prefix g op =
        let l = moved moves (λ same. none-some prefix (sym unswept ∙ ap (λ (z : State). swept_leaf (actor_in z a).sweep) (sym same) ∙ g.answer.1)) in
        let taken = takes_sweep s k a (actor_in s a) (actor_in t a) there l.event l.call l.can l.now prefix (no_sweep (actor_in s a).sweep unswept) g.answer.1 in
        let e : Event = take_sweep taken.0 in
        let can : Can s a (actor_in s a) e = subst (Can s a (actor_in s a)) taken.1 l.can in
        let is : t ≡ after s a (actor_in s a) e = l.is ∙ ap (after s a (actor_in s a)) taken.1 in
        let first = next_swept (at_position s.board.log (floor_of s.board)) s.board.retired taken.0 can.1 in
        let fewer = drops_one s.board.retired first.0 taken.0 first.1 in
        record {
          event = Some e;
          goes = goes_by e can is;
          call = tt;
          gives = λ _ _. tt;
          ends = λ e. absurd (false≢true e);
          lacks = refl;
          full = λ e. absurd (false≢true e);
          unpassed = λ p e. absurd (none-some p (sym none ∙ (sym g.answer.3.leaf ∙ e)));
          grows = by_splits s.board.log t.board.log (ap (λ (z : State). z.board.log) is);
          no_more = subst (λ (z : State). HasNoMore 0 s 1 z) (sym is) (inr (omega arith, omega (arith, fewer)));
          less = λ e. absurd (more_is e);
        }
      where
        more_is : More ≡ Done → ⊥
        more_is e = cc

    -- a leaf is taken to be split
    begins_split : Moves s a t → (actor_in s a).claim ≡ None → (leaf : Leaf) → GivesWork (view_in s a) (view_in t a) (work.Split leaf) → (op : SplitOp) → Told a s None More (Some (Split op)) t
    begins_split moves none leaf g op =
        let l = moved moves (λ same. none-some leaf.prefix (sym none ∙ ap (λ (z : State). (actor_in z a).claim) (sym same) ∙ g.answer.2)) in
        let taken : Can s a (actor_in s a) (take_split leaf.prefix) × (t ≡ after s a (actor_in s a) (take_split leaf.prefix)) =
        elim (takes_leaf s k a (actor_in s a) (actor_in t a) there l.event l.call l.can l.now leaf.prefix none g.answer.2) [
          | inl e ↦ claimed l e
          | inr e ↦ (subst (Can s a (actor_in s a)) e l.can, l.is ∙ ap (after s a (actor_in s a)) e)
        ] in
        let is = taken.1 in
        let tasks : SameTasks s t = subst (SameTasks s) (sym is) (record { settings = refl; log = refl; retired = refl; passed = refl }) in
        tasks_stay (Some (take_split leaf.prefix)) (goes_by (take_split leaf.prefix) taken.0 is) tt tasks None More (Some (Split op)) (λ _ _. tt) (λ e. absurd (false≢true e)) refl refl
        (λ p e. ap (λ z. is_passed z t.board) (same_Some p leaf.prefix (sym e ∙ g.answer.2)) ∙ free_unpassed) (λ e. cc) (omega arith)
      where
        free_unpassed : is_passed leaf.prefix t.board ≡ false
        free_unpassed =
            let first = g.answer.1 in
            let free = (find_in (is_free (view_in t a) first.before) (cells_of t.board.settings t.board.log) leaf first.first).0 in
            let may = (and_parts (is_wanted t.board.settings.levels t.board.settings.cell leaf) _ free).1 in
            not-true (is_passed leaf.prefix t.board) (and_parts (not (is_some (first.before leaf.prefix))) _ may).1

        claimed : (l : Led) → l.event ≡ claim_leaf leaf.prefix → Can s a (actor_in s a) (take_split leaf.prefix) × (t ≡ after s a (actor_in s a) (take_split leaf.prefix))
        claimed l e =
            let can : Can s a (actor_in s a) (claim_leaf leaf.prefix) = subst (Can s a (actor_in s a)) e l.can in
            let is : t ≡ after s a (actor_in s a) (claim_leaf leaf.prefix) = l.is ∙ ap (after s a (actor_in s a)) e in
            let kept = kept_by (claim_leaf leaf.prefix) can in
            let now = now_by (claim_leaf leaf.prefix) can is in
            let q_is : actor_in t a ≡ record (saw s.board (actor_in s a)) { claim = Some leaf.prefix } =
            same_Some (actor_in t a) (record (saw s.board (actor_in s a)) { claim = Some leaf.prefix })
            (sym now ∙ set_there s.actors a (record (saw s.board (actor_in s a)) { claim = Some leaf.prefix }) (actor_in s a) there) in
            let V : State → View = λ z. shown_to z a (actor_in t a) in
            let gives : GivesWork (view_in s a) (V (after s a (actor_in s a) (claim_leaf leaf.prefix))) (work.Split leaf) = subst (λ (z : State). GivesWork (view_in s a) (V z) (work.Split leaf)) is g in (
              may_take s k a (actor_in s a) (actor_in t a) there leaf can kept q_is now gives.floor gives.answer.0 gives.answer.1,
              is ∙ same_taken s k a (actor_in s a) (actor_in t a) there leaf can kept q_is now gives.floor gives.answer.0 gives.answer.1,
            )

    -- a sweep ends
    sweep_ends : Moves s a t → (prefix : List ℕ) → swept_leaf (actor_in s a).sweep ≡ Some prefix → swept_leaf (actor_in t a).sweep ≡ None → (actor_in s a).claim ≡ None → (actor_in t a).claim ≡ None → (op : SweepOp)
        → Told a s (Some (Sweep op)) Done None t
    sweep_ends moves prefix some none unclaimed still op =
        let l = moved moves (λ same. none-some prefix (sym none ∙ ap (λ (z : State). swept_leaf (actor_in z a).sweep) same ∙ some)) in
        let last = ends_sweep s k a (actor_in s a) (actor_in t a) there l.event l.call l.can l.now prefix some none in
        let e : Event = sweep last.0 last.1 in
        let can : Can s a (actor_in s a) e = subst (Can s a (actor_in s a)) last.2 l.can in
        let is : t ≡ after s a (actor_in s a) e = l.is ∙ ap (after s a (actor_in s a)) last.2 in
        let fewer : HasLess 1 s 0 t = subst (λ (z : State). HasLess 1 s 0 z) (sym is) (inr (omega arith, omega arith)) in
        record {
          event = Some e;
          goes = goes_by e can is;
          call = tt;
          gives = λ none _. absurd (none-some _ (sym none));
          ends = λ _. no_sweep (actor_in t a).sweep none;
          lacks = refl;
          full = λ e. absurd (false≢true e);
          unpassed = λ p e. absurd (none-some p (sym still ∙ e));
          grows = by_splits s.board.log t.board.log (ap (λ (z : State). z.board.log) is);
          no_more = less_no_more 1 0 s t fewer;
          less = λ _. fewer;
        }

    -- a split ends: it is published
    split_published : Moves s a t → Kept t → (prefix : List ℕ) → (actor_in s a).claim ≡ Some prefix → (position : Position) → Publishes (view_in s a) (view_in t a) (Ok position) → (op : SplitOp)
        → Told a s (Some (Split op)) Done None t
    split_published moves kt prefix some position g op =
        let none : (actor_in t a).claim ≡ None = g.answer.unclaimed in
        let longer : length s.board.log < length t.board.log =
        omega (arith, grows_length s.board.log g.answer.before g.answer.grows, ap length g.answer.seen, length-append g.answer.before (Divides (prefix_or (actor_in s a).claim) ∷ [])) in
        let l = moved moves (λ same. none-some prefix (sym none ∙ ap (λ (z : State). (actor_in z a).claim) same ∙ some)) in
        let e : l.event ≡ publish = elim (ends_claim s k a (actor_in s a) (actor_in t a) there l.event l.call l.can l.now prefix some none) [
          | inl e ↦ absurd (short longer (ap (λ (z : State). z.board.log) (l.is ∙ ap (after s a (actor_in s a)) e)))
          | inr o ↦ elim o [
            | inl e ↦ e
            | inr e ↦ absurd (short longer (ap (λ (z : State). z.board.log) (l.is ∙ ap (after s a (actor_in s a)) e.1)))
          ]
        ] in
        let can : Can s a (actor_in s a) publish = subst (Can s a (actor_in s a)) e l.can in
        let is : t ≡ after s a (actor_in s a) publish = l.is ∙ ap (after s a (actor_in s a)) e in
        let log = ap (λ (z : State). z.board.log) is in
        let fewer : HasLess 0 s 0 t = inl (fewer_splits kt _ log) in
        record {
          event = Some publish;
          goes = goes_by publish can is;
          call = tt;
          gives = λ none _. absurd (none-some _ (sym none));
          ends = λ _. tt;
          lacks = refl;
          full = λ e. absurd (false≢true e);
          unpassed = λ p e. absurd (none-some p (sym none ∙ e));
          grows = record { grows = record { by = _; is = log }; enters = ap entered log ∙ entered-append s.board.log _ ∙ append-nil (entered s.board.log) };
          no_more = less_no_more 0 0 s t fewer;
          less = λ _. fewer;
        }
      where
        short : length s.board.log < length t.board.log → t.board.log ≡ s.board.log → ⊥
        short lt e = let n = ap length e in absurd (omega (arith, lt))

        fewer_splits : Kept t → (p : List ℕ) → t.board.log ≡ s.board.log ++ Divides p ∷ [] → splits_left t.board < splits_left s.board
        fewer_splits kt p log =
            let c : Configuration = t.board.settings in
            let most = few_splits c t.board.log (is_grid c kt.sound.limits t.board.log kt.sound.legal) kt.sound.legal in
            let updates : length (updates_of t.board.log) ≡ length (updates_of s.board.log) =
            ap (λ l. length (updates_of l)) log ∙ ap length (updates_of-append s.board.log (Divides p ∷ [])) ∙ ap length (append-nil (updates_of s.board.log)) in
            let size : length t.board.log ≡ length s.board.log + 1 = ap length log ∙ length-append s.board.log (Divides p ∷ []) in
            let all : c.updates * c.levels ≡ s.board.settings.updates * s.board.settings.levels = ap (λ (x : Configuration). x.updates * x.levels) settings in
            omega (arith, most, updates, size, all, few_updates s.board.log)

    -- or it is given up
    module _ (moves : Moves s a t) (prefix : List ℕ) (some : (actor_in s a).claim ≡ Some prefix) (pages : Bool) (g : GivesUp (view_in s a) (view_in t a) pages) (bare : copied_in (view_in s a) ≡ 0) where
      none : (actor_in t a).claim ≡ None
      none = g.unclaimed

      l : Led
      l = moved moves (λ same. none-some prefix (sym none ∙ ap (λ (z : State). (actor_in z a).claim) same ∙ some))

      -- a split that is published has copies
      has_copies : Can s a (actor_in s a) publish → ⊥
      has_copies can =
          let c : Configuration = s.board.settings in
          let f : List ℕ → Leaf = leaf_with (grid c) (population (grid c) s.board.log) in
          let w = can.0 in
          let claim : (actor_in s a).claim ≡ Some w.leaf = (k.sound.each a (actor_in s a) there).holds.split w can.1.split in
          let counts : ((f w.leaf).count == length (copy_keys c (actor_in s a).split)) ≡ true =
          any_has f (λ z. refl) (λ l. l.count == length (copy_keys c (actor_in s a).split)) w.leaf (leaves (grid c) s.board.log)
          (subst (λ z. list_any (λ (l : Leaf). same_cell z l.prefix && (l.count == length (copy_keys c (actor_in s a).split))) (map f (leaves (grid c) s.board.log)) ≡ true) (ap prefix_or claim)
          (all_copied s k a (actor_in s a) there can.0 can.1)) in
          let wanted : is_wanted c.levels c.cell (f w.leaf) ≡ true = any_has f (λ z. refl) (is_wanted c.levels c.cell) w.leaf (leaves (grid c) s.board.log) can.3 in
          let some : c.cell < (f w.leaf).count = ltb-true c.cell (f w.leaf).count (and_parts _ (nat_lt c.cell (f w.leaf).count) wanted).1 in
          let count : (f w.leaf).count ≡ length (copy_keys c (actor_in s a).split) = eqb-true (f w.leaf).count (length (copy_keys c (actor_in s a).split)) counts in
          let size : length (copy_keys c (actor_in s a).split) ≡ length w.gathered = ap (λ o. length (copy_keys c o)) can.1.split ∙ length-map w.gathered _ in
          let copied : copied_in (view_in s a) ≡ w.copied = ap (λ (o : Option SplitWork). cond (is_some o) (copied_of o) 0) can.1.split in
          absurd (omega (arith, some, count, size, can.2, copied, bare))

      mine_is : prefix_or (actor_in s a).claim ≡ prefix
      mine_is = ap prefix_or some

      -- it isn't passed over where what is passed over stays
      not_passed : t.board.passed_over ≡ s.board.passed_over → is_passed (prefix_or (actor_in s a).claim) t.board ≡ false
      not_passed e = ap (λ z. is_passed z t.board) mine_is ∙ ap (list_any (same_cell prefix)) e ∙ unpassed prefix some

      for_pages : pages ≡ true → is_passed (prefix_or (actor_in s a).claim) t.board ≡ true
      for_pages e = g.passes_over e

      else_not : pages ≡ false → is_passed (prefix_or (actor_in s a).claim) t.board ≡ false
      else_not e = g.else_as_before e ∙ (ap (λ z. is_passed z s.board) mine_is ∙ unpassed prefix some)

      let_go : (b : Bool) → pages ≡ b → Can s a (actor_in s a) release_leaf → t ≡ after s a (actor_in s a) release_leaf → Can s a (actor_in s a) (give_up b) × (t ≡ after s a (actor_in s a) (give_up b))
      let_go true e can is = absurd (false≢true (sym (not_passed (ap (λ (z : State). z.board.passed_over) is)) ∙ for_pages e))
      let_go false e can is =
          let board : BoardState = with_actor without_claim a s.board in (
            (prefix, some, (λ w h. absurd (none-some w (sym can.2 ∙ h))), λ h. absurd (false≢true h)),
            is ∙ ap (λ (o : Option SplitWork). put_actor a (record (saw s.board (actor_in s a)) { claim = None; split = o }) (put_board board s)) can.2,
          )

      given : (b c : Bool) → pages ≡ b → Can s a (actor_in s a) (give_up c) → t ≡ after s a (actor_in s a) (give_up c) → Can s a (actor_in s a) (give_up b) × (t ≡ after s a (actor_in s a) (give_up b))
      given true true e can is = (can, is)
      given false false e can is = (can, is)
      given true false e can is = absurd (false≢true (sym (not_passed (ap (λ (z : State). z.board.passed_over) is)) ∙ for_pages e))
      given false true e can is =
          let up = gives_up true s k a (actor_in s a) (actor_in t a) there may.going can (now_by (give_up true) can is) in
          absurd (false≢true (sym (else_not e) ∙ (ap (λ (z : State). is_passed (prefix_or (actor_in s a).claim) z.board) is ∙ up.passes_over refl)))

      which : (b : Bool) → pages ≡ b → Can s a (actor_in s a) (give_up b) × (t ≡ after s a (actor_in s a) (give_up b))
      which b e = elim (ends_claim s k a (actor_in s a) (actor_in t a) there l.event l.call l.can l.now prefix some none) [
        | inl h ↦ let_go b e (subst (Can s a (actor_in s a)) h l.can) (l.is ∙ ap (after s a (actor_in s a)) h)
        | inr o ↦ elim o [
          | inl h ↦ absurd (has_copies (subst (Can s a (actor_in s a)) h l.can))
          | inr h ↦ given b h.0 e (subst (Can s a (actor_in s a)) h.1 l.can) (l.is ∙ ap (after s a (actor_in s a)) h.1)
        ]
      ]

      pages_wanted : pages ≡ true → t.board.allotted ≡ t.board.settings.pages → (op : SplitOp) → Told a s (Some (Split op)) Done None t
      pages_wanted e all op =
          let up = which true e in
          let fewer : HasLess 0 s 0 t =
          subst (λ (z : State). HasLess 0 s 0 z) (sym up.1) (inr (omega arith, omega (arith, passes_one s k a (actor_in s a) there prefix some (unpassed prefix some)))) in
          record {
            event = Some (give_up true);
            goes = goes_by (give_up true) up.0 up.1;
            call = tt;
            gives = λ none _. absurd (none-some _ (sym none));
            ends = λ _. tt;
            lacks = refl;
            full = λ _. all;
            unpassed = λ p e. absurd (none-some p (sym none ∙ e));
            grows = by_splits s.board.log t.board.log (ap (λ (z : State). z.board.log) up.1);
            no_more = less_no_more 0 0 s t fewer;
            less = λ _. fewer;
          }

      memory_wanted : pages ≡ false → (op : SplitOp) → Told a s (Some (Split op)) Memory None t
      memory_wanted e op =
          let up = which false e in
          let tasks : SameTasks s t = subst (SameTasks s) (sym up.1) (record { settings = refl; log = refl; retired = refl; passed = refl }) in
          tasks_stay (Some (give_up false)) (goes_by (give_up false) up.0 up.1) tt tasks (Some (Split op)) Memory None (λ none _. absurd (none-some _ (sym none))) (λ _. tt) refl refl
          (λ p e. absurd (none-some p (sym none ∙ e))) (λ e. cc) (omega arith)

    module _ (moves : Moves s a t) (kt : Kept t) (answer : CareTurn) (new : Option Task) where
      answered : (task : Option Task) (told : CareTurn) (after : Option Task) → answer ≡ told → new ≡ after → Told a s task told after t → Told a s task answer new t
      answered task told after e n h = subst (λ (x : CareTurn). Told a s task x new t) (sym e) (subst (λ (x : Option Task). Told a s task told x t) (sym n) h)

      begins : caring.TaskIsReady None (view_in s a) → (given : Work) → GivesWork (view_in s a) (view_in t a) given → caring.Begins given answer new → Told a s None answer new t
      begins ready work.Idle g b = answered None Idle None b.0 b.1 (idles moves g)
      begins ready (work.Sweep prefix) g b = answered None More (Some (Sweep b.1)) b.0 b.2 (begins_sweep moves ready.0 ready.1 prefix g b.1)
      begins ready (work.Split leaf) g b = answered None More (Some (Split b.1)) b.0 b.2 (begins_split moves ready.0 leaf g b.1)

      sweeps_on : (op next : SweepOp) → caring.TaskIsReady (Some (Sweep op)) (view_in s a) → (own : (actor_in t a).own ≡ (actor_in s a).own) → (told : WalkTurn)
          → sweeps.Turned op (view_in s a) told next (view_in t a) → caring.LeadsSweep told next answer new → Told a s (Some (Sweep op)) answer new t
      sweeps_on op next ready own walk.More h b =
          answered (Some (Sweep op)) More (Some (Sweep next)) b.0 b.1
          (stands moves (Some (Sweep op)) More (Some (Sweep next)) h.leaf.leaf (λ none. absurd (none-some op.prefix (sym none ∙ ready.0.given))) own refl refl (λ none _. none-some _ (sym none)) (λ e. cc) (omega arith))
      sweeps_on op next ready own walk.Done h b = answered (Some (Sweep op)) Done None b.0 b.1 (sweep_ends moves op.prefix ready.0.given h.outcome.1 ready.1 (h.leaf.leaf ∙ ready.1) op)

      splits_on : (op next : SplitOp) → caring.TaskIsReady (Some (Split op)) (view_in s a) → (own : (actor_in t a).own ≡ (actor_in s a).own) → (told : SplitTurn)
          → splitting.Turned op (view_in s a) told next (view_in t a) → caring.LeadsSplit told next answer new → Told a s (Some (Split op)) answer new t
      splits_on op next ready own divided.More h b =
          answered (Some (Split op)) More (Some (Split next)) b.0 b.1
          (stands moves (Some (Split op)) More (Some (Split next)) (h.outcome.0.claimed ∙ ap (λ (l : Leaf). Some l.prefix) h.leaf ∙ sym ready.0.claimed) (λ none. h.sweep.sweep ∙ none) own refl refl
          (λ none _. none-some _ (sym none)) (λ e. cc) (omega arith))
      splits_on op next ready own (divided.Published position) h b =
          answered (Some (Split op)) Done None b.0 b.1 (split_published moves kt op.leaf.prefix ready.0.claimed position h.outcome.1 op)
      splits_on op next ready own (divided.GivenUp (NoPages limit)) h b =
          answered (Some (Split op)) Done None b.0 b.1
          (pages_wanted moves op.leaf.prefix ready.0.claimed true h.outcome.1 h.outcome.2 refl (eqb-true t.board.allotted t.board.settings.pages h.outcome.3.1) op)
      splits_on op next ready own (divided.GivenUp NoMemory) h b =
          answered (Some (Split op)) Memory None b.0 b.1 (memory_wanted moves op.leaf.prefix ready.0.claimed false h.outcome.1 h.outcome.2 refl op)

      pub told : (task : Option Task) → caring.TaskIsReady task (view_in s a) → (actor_in t a).own ≡ (actor_in s a).own → caring.Makes task (view_in s a) answer new (view_in t a) → Told a s task answer new t
      told None ready own m = begins ready m.0 m.1 m.2
      told (Some (Sweep op)) ready own m = sweeps_on op m.1 ready own m.0 m.2 m.3
      told (Some (Split op)) ready own m = splits_on op m.1 ready own m.0 m.2 m.3
