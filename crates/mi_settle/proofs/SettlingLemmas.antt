-- The splitter alone: operations until there is nothing to do, and trims from the first leaf page to the last.
use Rattle.std.proofs.Common.{◌≡◌, ◌≢◌, ℕ, ◌+◌, ◌*◌, ◌-◌, ◌^◌, ◌<◌, ◌≤◌, List, [], ◌∷◌, ◌++◌, length, Bool, true, false, IsTrue, Option, Some, None, is_some, refl, sym, ap, ◌∙◌, subst, arith, append-nil, append_assoc, inl, inr}
use Rattle.std.specs.Prelude.{slice_get, slice_set, ◌==◌, ◌&&◌, ◌||◌, Ok, Err, not}
use Rattle.std.specs.List.{list_any}
use Rattle.std.proofs.lemmas.Bool.{cases_eq, false≢true}
use Rattle.std.proofs.lemmas.List.{length-drop}
use Rattle.std.proofs.lemmas.List.Folds.{list_any-append}
use Rattle.std.proofs.lemmas.Option.{get_or_from_slice_get, none-some, slice_get-get_or, slice_get_within}
use Rattle.std.proofs.Math.Bool.{or-false}
use Rattle.std.proofs.Math.Nat.{mul-le-mul_right}
use Rattle.mi_base.specs.declared.records.LogEvent.{LogEvent}
use Rattle.mi_base.specs.declared.records.LogEvent.TheVariants.{Update as Made, Split as Divides}
use Rattle.mi_base.specs.declared.refusals.NoMemory.{NoMemory}
use Rattle.mi_base.specs.History.{updates_of}
use Rattle.mi_base.proofs.LiveLemmas.{length_filter}
use Rattle.mi_board.specs.Boards.{BoardState, floor_of, is_passed}
use Rattle.mi_core.specs.Events.{Event, after, first_actor}
use Rattle.mi_core.specs.Events.Event.{fork, absorb, depart, see, trim}
use Rattle.mi_core.specs.Effects.{noted}
use Rattle.mi_core.specs.Kept.{Kept}
use Rattle.mi_core.specs.Pages.{node_or_fresh}
use Rattle.mi_core.specs.State.{State}
use Rattle.mi_page.specs.Nodes.{Node}
use Rattle.mi_world.specs.View.{View}
use Rattle.mi_core.proofs.ActorLemmas.{set_else, set_there}
use Rattle.mi_core.proofs.KeptEvents.{each_keeps}
use Rattle.mi_entries.specs.Actors.{Actor, Pin, SplitWork, SweepWork}
use Rattle.mi_job.specs.declared.care.CareTurn.{CareTurn}
use Rattle.mi_job.specs.declared.care.CareTurn.TheVariants.{Done}
use Rattle.mi_job.specs.declared.care.Task.{Task}
use Rattle.mi_job.specs.Claims.{ClaimsNone}
use Rattle.mi_solo.specs.Sections.{Trims}
use Rattle.mi_solo.specs.Solos.{IsCall, MayTurn}
use Rattle.mi_solo.specs.States.{Does, actor_in, node_in, view_in}
use Rattle.mi_solo.specs.Viewing.{pinned_log, swept_leaf}
use Rattle.mi_tree.specs.declared.outcomes.Leaf.{Leaf}
use Rattle.mi_tree.specs.Births.{splits_in}
use Rattle.mi_tree.specs.Growing.{GrowsBySplits}
use Rattle.mi_tree.specs.Legal.{cells_of}
use Rattle.mi_tree.proofs.GrowingLemmas.{grows_none, splits_on}
use Rattle.mi_tree.proofs.LimitLemmas.{few_cells, log_short}
use Rattle.mi_tree.proofs.ListLemmas.{all_joined}
use Rattle.mi_world.specs.declared.answers.Visit.TheVariants.{Read}
use Rattle.mi_settle.specs.declared.splitters.SplitterSeat.{SplitterSeat}
use Rattle.mi_settle.specs.Entries.{HasTrimmedTo, IsTrimmed, pages_from}
use Rattle.mi_settle.specs.Working.{AllBy, BeginsWork, IsIdle}
use Rattle.mi_settle.specs.Moving.{MakeCalls, MakesCall}
use Rattle.mi_settle.specs.Settling.{HoldsNothing, IsAtRest, IsSettled, Settles, TrimsAll, Works, WorksOff, resting}
use Rattle.mi_settle.specs.Splitters.{HasLess, SplitterAt, SplitterFinished, SplitterMade, gave_up, is_given_up, lacks_memory, leaves_left, splits_left, sweeping}
use Rattle.mi_settle.specs.Turns.{Chained, Goes, LeadsBy, Makes, Turn}
use Rattle.mi_settle.proofs.EntriesLemmas.{exact}
use Rattle.mi_settle.proofs.EntriesLemmasRest.{all_settled, floor_is_end, nothing_passed, nothing_retired}
use Rattle.mi_settle.proofs.EntriesLemmasTrim.{trimmed_first, trimmed_last, trims_fewer, trims_next}
use Rattle.mi_settle.proofs.TurnLemmas.{chained_on, busy_now, in_turn_on}
use Rattle.mi_settle.proofs.ComingLemmas.{SameSeen, comes, comes_same, may_still}
use Rattle.mi_settle.proofs.SplitterTurns.{claims_ready, made_none, made_on}

-- others' records stay where one actor acts
call_spares : (s : State) (a : ℕ) (r : Actor) (e : Event) → IsCall e → (b : ℕ) → b ≢ a → slice_get (after s a r e).actors b ≡ slice_get s.actors b
call_spares s a r fork call b apart = absurd call
call_spares s a r (absorb c t) call b apart = absurd call
call_spares s a r depart call b apart = absurd call
call_spares s a r e call b apart = set_else s.actors a b _ apart

led_spares : (e : Event) (s : State) (a : ℕ) (t : State) → IsCall e → LeadsBy e s a t → (b : ℕ) → b ≢ a → slice_get t.actors b ≡ slice_get s.actors b
led_spares e s a t call h b apart =
    let l = h.0 in
    ap (λ (z : State). slice_get z.actors b) l.is ∙ call_spares s a l.actor l.event (subst IsCall (sym h.1) call) b apart

turn_spares : (e : Option Event) (s : State) (a : ℕ) (t : State) → MakesCall e → Makes e s a t → (b : ℕ) → b ≢ a → slice_get t.actors b ≡ slice_get s.actors b
turn_spares e s a t call m b apart =
    let came : slice_get m.between.actors b ≡ slice_get s.actors b = elim m.comes [ inl same ↦ ap (λ (z : State). slice_get z.actors b) same | inr sees ↦ led_spares see s a m.between tt sees b apart ] in
    gone e call m.goes ∙ came
  where
    gone : (e : Option Event) → MakesCall e → Goes e m.between a t → slice_get t.actors b ≡ slice_get m.between.actors b
    gone None call g = ap (λ (z : State). slice_get z.actors b) g
    gone (Some x) call g = led_spares x m.between a t call g b apart

turns_spare : (s : State) (a : ℕ) (us : List Turn) (t : State) → Chained s us t → AllBy a us → MakeCalls us → (b : ℕ) → b ≢ a → slice_get t.actors b ≡ slice_get s.actors b
turns_spare s a [] t h by calls b apart = ap (λ (z : State). slice_get z.actors b) (sym h)
turns_spare s a (u ∷ us) t h by calls b apart =
    turns_spare u.after a us t h.2 by.1 calls.1 b apart
    ∙ turn_spares u.event u.before u.actor u.after calls.0 h.1 b (λ e. apart (e ∙ by.0))
    ∙ ap (λ (z : State). slice_get z.actors b) h.0

-- what an actor holds, and what its view tells of that
no_sweep : (o : Option SweepWork) → swept_leaf o ≡ None → o ≡ None
no_sweep None e = refl
no_sweep (Some w) e = absurd (none-some w.leaf (sym e))

no_split : (o : Option SplitWork) → is_some o ≡ false → o ≡ None
no_split None e = refl
no_split (Some w) e = absurd (false≢true (sym e))

no_pin : (log : List LogEvent) (o : Option Pin) → pinned_log log o ≡ None → o ≡ None
no_pin log None e = refl
no_pin log (Some p) e = absurd (none-some _ (sym e))

holds_none : (s : State) (a : ℕ) → ClaimsNone (view_in s a) → HoldsNothing (actor_in s a)
holds_none s a c = record {
  shard = c.nothing.shard;
  claim = c.nothing.leaf;
  sweep = no_sweep (actor_in s a).sweep c.nothing.sweep;
  split = no_split (actor_in s a).split c.unsplit;
  pin = no_pin s.board.log (actor_in s a).pin c.nothing.pin;
}

claims_from : (s : State) (a : ℕ) → HoldsNothing (actor_in s a) → ClaimsNone (view_in s a)
claims_from s a h = record {
  nothing = record { shard = h.shard; leaf = h.claim; sweep = ap swept_leaf h.sweep; pin = ap (pinned_log s.board.log) h.pin };
  unsplit = ap is_some h.split;
}

pub claims_none : (s : State) (a : ℕ) → MayTurn s a → IsAtRest s → ClaimsNone (view_in s a)
claims_none s a may rest = claims_from s a (rest a (actor_in s a) (slice_get-get_or s.actors a first_actor may.made))

pub rests_still : (s : State) (a : ℕ) (us : List Turn) (t : State) → IsAtRest s → Chained s us t → AllBy a us → MakeCalls us → ClaimsNone (view_in t a) → IsAtRest t
rests_still s a us t rest h by calls c b r at = elim (cases_eq b a) [
  | inl same ↦
      let is : actor_in t a ≡ r = get_or_from_slice_get t.actors a r first_actor (ap (slice_get t.actors) (sym same) ∙ at) in
      subst HoldsNothing is (holds_none t a c)
  | inr apart ↦ rest b r (sym (turns_spare s a us t h by calls b apart) ∙ at)
]

-- work is left for fewer and fewer operations
leaves_few : (s : State) → Kept s → leaves_left s.board < 2 ^ 33
leaves_few s k =
    let c = s.board.settings in
    let log = s.board.log in
    let cells = few_cells c k.sound.limits log k.sound.legal in
    let short = log_short c k.sound.limits log k.sound.legal in
    let kept_on = length_filter (λ (leaf : Leaf). not (is_passed leaf.prefix s.board)) (cells_of c log) in
    omega (arith, cells, short, kept_on, retired_few s k)
  where
    splits_few : (log : List LogEvent) → length (splits_in log) ≤ length log
    splits_few [] = omega arith
    splits_few (Made session op u ∷ log) = omega (arith, splits_few log)
    splits_few (Divides p ∷ log) = omega (arith, splits_few log)

    retired_few : (s : State) → Kept s → length s.board.retired ≤ length s.board.log
    retired_few s k =
        let splits = splits_in s.board.log in
        omega (arith, splits_few s.board.log, ap length k.sound.order, length-drop (length splits - length s.board.retired) splits)

abbrev pub work_left : BoardState → ℕ
work_left b = splits_left b * 2 ^ 33 + leaves_left b

pub work_falls : (s t : State) → Kept t → HasLess 0 s 0 t → work_left t.board < work_left s.board
work_falls s t k (inl less) =
    let few = leaves_few t k in
    let m : (splits_left t.board + 1) * 2 ^ 33 ≤ splits_left s.board * 2 ^ 33 = mul-le-mul_right (2 ^ 33) (omega (arith, less)) in
    omega (arith, few, m)
work_falls s t k (inr h) =
    let m : splits_left t.board * 2 ^ 33 ≤ splits_left s.board * 2 ^ 33 = mul-le-mul_right (2 ^ 33) h.0 in
    omega (arith, m, h.1)

-- operations that ended, one after another, each of which had something to do
pub works_first : (a : ℕ) (s : State) → Kept s → MayTurn s a → IsAtRest s → Works a s false s
works_first a s k may rest =
    let claims = claims_none s a may rest in
    record {
      made = [];
      is = λ wanted. subst (λ (b : Bool). SplitterMade a s (resting wanted) s (resting b) []) (sym (or-false wanted)) (made_none a s (resting wanted) (record {
        may = may;
        ready = claims_ready (record { task = None }) (view_in s a) refl claims;
        unpassed = λ p e. absurd (none-some p (sym claims.nothing.leaf ∙ e));
      }));
      grows = record { grows = grows_none s.board.log; enters = refl };
      kept = k;
      rest = rest;
    }

module _ (a : ℕ) (s m : State) (z : SplitterSeat) (r : CareTurn) (t : State) (y : SplitterSeat) (g : Works a s false m) (seat : z ≡ resting false) (h : SplitterFinished a m z r t y) where
  is_resting : (x : SplitterSeat) → x.care.task ≡ None → x ≡ resting x.wanted
  is_resting x e = ap (λ (o : Option Task). record { care = record { task = o }; wanted = x.wanted }) e

  more : (wanted : Bool) → SplitterMade a m (resting wanted) t (resting (wanted || lacks_memory r)) h.made
  more wanted =
      let P : Option Task → Option Task → Type 0 = λ o n. SplitterMade a m (record { care = record { task = o }; wanted = wanted }) t (record { care = record { task = n }; wanted = wanted || lacks_memory r }) h.made in
      subst (λ (o : Option Task). P o None) (ap (λ (x : SplitterSeat). x.care.task) seat) (subst (λ (n : Option Task). P z.care.task n) h.over (h.anew wanted))

  -- one more operation
  pub works_on : Works a s (lacks_memory r) t
  works_on = record {
    made = g.made ++ h.made;
    is = λ wanted.
        let before = subst (λ (b : Bool). SplitterMade a s (resting wanted) m (resting b) g.made) (or-false wanted) (g.is wanted) in
        made_on a s (resting wanted) m (resting wanted) t (resting (wanted || lacks_memory r)) g.made h.made before (more wanted);
    grows = splits_on s.board.log m.board.log t.board.log g.grows h.grows;
    kept = h.kept;
    rest = rests_still m a h.made t g.rest h.is.chained h.is.by h.is.calls h.claims;
  }

  pub seat_rests : r ≡ Done → y ≡ resting false
  seat_rests e = is_resting y h.over ∙ ap resting (h.wanted ∙ ap (λ (x : SplitterSeat). x.wanted || lacks_memory r) seat ∙ ap lacks_memory e)

  pub works_fall : r ≡ Done → work_left t.board < work_left m.board
  works_fall e =
      work_falls m t h.kept (subst (λ (x : SplitterSeat). HasLess (sweeping x.care.task) m 0 t) seat (h.less e))

-- trims up to a page, or to the last one
pub record Trimming (a : ℕ) (s : State) (next : Option ℕ) (t : State) : Type 0 where
  pub made : List Turn
  pub chained : Chained s made t
  pub by : AllBy a made
  pub calls : MakeCalls made
  pub at : (turns : List Turn) (x : SplitterSeat) → SplitterAt turns s a x → SplitterAt (turns ++ made) t a x
  pub gave : list_any (gave_up a false) made ≡ false
  pub board : t.board ≡ s.board
  pub may : MayTurn t a
  pub kept : Kept t
  pub rest : IsAtRest t
  pub floor : (actor_in t a).floor.updates ≡ length (updates_of t.board.log)
  pub to : HasTrimmedTo (length (updates_of t.board.log)) next t

pub trimming_first : (a : ℕ) (s : State) → MayTurn s a → Kept s → IsAtRest s → (actor_in s a).floor.updates ≡ length (updates_of s.board.log) → Trimming a s (Some 0) s
trimming_first a s may k rest floor = record {
  made = [];
  chained = refl;
  by = tt;
  calls = tt;
  at = λ turns x h. subst (λ us. SplitterAt us s a x) (sym (append-nil turns)) h;
  gave = refl;
  board = refl;
  may = may;
  kept = k;
  rest = rest;
  floor = floor;
  to = trimmed_first s k.sound (length (updates_of s.board.log));
}

none_given_up : (pages : Bool) (page : ℕ) (node : Node) → is_given_up pages (Some (trim page node)) ≡ false
none_given_up true page node = refl
none_given_up false page node = refl

module _ (a : ℕ) (s u : State) (page : ℕ) (g : Trimming a s (Some page) u) (m : State) (does : Does u a see m) where
  seen : SameSeen u a m
  seen = comes_same u a m (comes u a m g.may does)

  pub may_see : MayTurn m a
  may_see = may_still u a m g.may does

  kept_see : Kept m
  kept_see =
      subst Kept (sym does.is) (each_keeps see u g.kept a (actor_in u a) (slice_get-get_or u.actors a first_actor g.may.made) g.may.going does.can)

  to_see : HasTrimmedTo (length (updates_of u.board.log)) (Some page) m
  to_see = subst (HasTrimmedTo (length (updates_of u.board.log)) (Some page)) (sym does.is) g.to

  -- the page may be trimmed
  pub is_named : IsTrue ((view_in m a).named page) × ((view_in m a).level page ≡ 0)
  is_named = (ap is_some to_see.1, ap (λ o. (node_or_fresh o).level) to_see.1 ∙ to_see.2)

  pub trimming_falls : (t : State) (next : Option ℕ) → Trims m a page (Read next) t → pages_from next t < pages_from (Some page) u
  trimming_falls t next trims =
      let same : pages_from (Some page) m ≡ pages_from (Some page) u = ap (pages_from (Some page)) does.is in
      omega (arith, trims_fewer m kept_see.sound t a page next trims, same)

  module _ (t : State) (next : Option ℕ) (trims : Trims m a page (Read next) t) where
    there_m : slice_get m.actors a ≡ Some (actor_in m a)
    there_m = slice_get-get_or m.actors a first_actor may_see.made

    now : actor_in t a ≡ noted page (actor_in m a)
    now = ap (λ (z : State). actor_in z a) trims.0.is
        ∙ get_or_from_slice_get (slice_set m.actors a (noted page (actor_in m a))) a (noted page (actor_in m a)) first_actor (set_there m.actors a (noted page (actor_in m a)) (actor_in m a) there_m)

    board_then : t.board ≡ u.board
    board_then = ap (λ (z : State). z.board) trims.0.is ∙ seen.board

    abbrev turn : Turn
    turn = record { actor = a; event = Some (trim page (node_in m page)); begins = false; ends = false; before = u; after = t }

    makes : Makes turn.event u a t
    makes = record {
      between = m;
      comes = comes u a m g.may does;
      goes = (record { actor = actor_in m a; there = there_m; going = may_see.going; event = trim page (node_in m page); can = trims.0.can; is = trims.0.is }, refl);
    }

    kept_trim : Kept t
    kept_trim = subst Kept (sym trims.0.is) (each_keeps (trim page (node_in m page)) m kept_see a (actor_in m a) there_m may_see.going trims.0.can)

    holds_trim : HoldsNothing (actor_in t a)
    holds_trim =
        let h = holds_none m a (subst ClaimsNone (sym seen.view) (claims_none u a g.may g.rest)) in
        subst HoldsNothing (sym now) (record { shard = h.shard; claim = h.claim; sweep = h.sweep; split = h.split; pin = h.pin })

    gave : (pages : Bool) (turns : List Turn) → list_any (gave_up a pages) (turns ++ turn ∷ []) ≡ list_any (gave_up a pages) turns
    gave pages turns =
        list_any-append (gave_up a pages) turns (turn ∷ []) ∙ ap (λ b. list_any (gave_up a pages) turns || (((a == a) && b) || false)) (none_given_up pages page (node_in m page))
        ∙ neither (list_any (gave_up a pages) turns) (a == a)
      where
        neither : (b c : Bool) → (b || ((c && false) || false)) ≡ b
        neither true c = refl
        neither false true = refl
        neither false false = refl

    at_trim : (turns : List Turn) (x : SplitterSeat) → SplitterAt turns u a x → SplitterAt (turns ++ turn ∷ []) t a x
    at_trim turns x h = record {
      busy_is = busy_now a turns turn refl ∙ h.busy_is;
      in_turn = in_turn_on a false turns (turn ∷ []) h.in_turn ((λ _. (λ e. absurd (false≢true e), λ e. absurd (false≢true e))), tt);
      begins = all_joined (BeginsWork a) turns (turn ∷ []) h.begins ((λ _ e. absurd (false≢true e)), tt);
      own = ap (λ (r : Actor). r.own) now ∙ ap (λ (v : View). v.own) seen.view ∙ h.own;
      wanted_is = h.wanted_is ∙ sym (gave false turns);
      full = λ e. ap (λ (b : BoardState). b.allotted) board_then ∙ h.full (sym (gave true turns) ∙ e) ∙ ap (λ (b : BoardState). b.settings.pages) (sym board_then);
    }

    pub trimming_on : Trimming a s next t
    trimming_on =
        let floor_m : (actor_in m a).floor.updates ≡ length (updates_of u.board.log) = ap (λ (v : View). v.floor.updates) seen.view ∙ g.floor in
        let log : length (updates_of t.board.log) ≡ length (updates_of u.board.log) = ap (λ (b : BoardState). length (updates_of b.log)) board_then in
        let chained : Chained s (g.made ++ turn ∷ []) t = chained_on s u t g.made (turn ∷ []) g.chained (refl, makes, refl) in
        record {
          made = g.made ++ turn ∷ [];
          chained = chained;
          by = all_joined (λ (v : Turn). v.actor ≡ a) g.made (turn ∷ []) g.by (refl, tt);
          calls = all_joined (λ (v : Turn). MakesCall v.event) g.made (turn ∷ []) g.calls (tt, tt);
          at = λ turns x h. subst (λ us. SplitterAt us t a x) (append_assoc turns g.made (turn ∷ [])) (at_trim (turns ++ g.made) x (g.at turns x h));
          gave = gave false g.made ∙ g.gave;
          board = board_then ∙ g.board;
          may = record {
            made = slice_get_within t.actors a (noted page (actor_in m a)) (ap (λ (z : State). slice_get z.actors a) trims.0.is ∙ set_there m.actors a (noted page (actor_in m a)) (actor_in m a) there_m);
            going = ap (λ (r : Actor). r.ended) now ∙ may_see.going;
          };
          kept = kept_trim;
          rest = rests_still u a (turn ∷ []) t g.rest (refl, makes, refl) (refl, tt) (tt, tt) (claims_from t a holds_trim);
          floor = ap (λ (r : Actor). r.floor.updates) now ∙ floor_m ∙ sym log;
          to = subst (λ (n : ℕ). HasTrimmedTo n next t) (floor_m ∙ sym log)
              (trims_next m kept_see.sound t a page next (subst (λ (n : ℕ). HasTrimmedTo n (Some page) m) (sym floor_m) to_see) trims);
        }

pub trimmed_all : (a : ℕ) (s t : State) → Trimming a s None t → TrimsAll a s t
trimmed_all a s t g = record {
  made = g.made;
  chained = g.chained;
  by = g.by;
  calls = g.calls;
  at = g.at;
  gave = g.gave;
  board = g.board;
  may = g.may;
  kept = g.kept;
  rest = g.rest;
  trimmed = trimmed_last t g.to;
}

-- a core at rest, in which a splitter has nothing to do and no entry is dead, is settled
pub settled_core : (s : State) → Kept s → IsAtRest s → IsIdle s.board → IsTrimmed s → IsSettled s
settled_core s k rest idle trimmed = record {
  entries = exact s k.sound (nothing_retired s k.sound (λ a r t. (rest a r t).pin) idle.no_sweep) (λ a r t. (rest a r t).sweep) (λ a r t. (rest a r t).split) trimmed;
  settled = λ few. all_settled s k.sound (λ a r t. (rest a r t).claim) (nothing_passed s k.sound (λ all. omega (arith, all))) idle.no_split;
}

-- trims may begin once there is nothing else to do
pub floor_whole : (a : ℕ) (s : State) → Kept s → IsAtRest s → (actor_in s a).floor ≡ floor_of s.board → (actor_in s a).floor.updates ≡ length (updates_of s.board.log)
floor_whole a s k rest floor = ap (λ p. p.updates) (floor ∙ floor_is_end s k.sound (λ b r t. (rest b r t).pin))

pub settles : (a : ℕ) (s m t : State) → WorksOff a s (Ok tt) m → TrimsAll a m t → Settles a s (Ok tt) t
settles a s m t w g = record {
  made = w.0.made ++ g.made;
  chained = chained_on s m t w.0.made g.made (w.0.is false).chained g.chained;
  by = all_joined (λ (v : Turn). v.actor ≡ a) w.0.made g.made (w.0.is false).by g.by;
  calls = all_joined (λ (v : Turn). MakesCall v.event) w.0.made g.made (w.0.is false).calls g.calls;
  grows = subst (λ (b : BoardState). GrowsBySplits s.board.log b.log) (sym g.board) w.0.grows;
  at = λ turns wanted h. subst (λ us. SplitterAt us t a (resting (wanted || false))) (append_assoc turns w.0.made g.made) (g.at (turns ++ w.0.made) (resting (wanted || false)) ((w.0.is wanted).at turns h));
  why = sym (
      list_any-append (gave_up a false) w.0.made g.made ∙ ap (λ b. b || list_any (gave_up a false) g.made) (sym (w.0.is false).gave) ∙ g.gave
      );
  may = g.may;
  claims = claims_none t a g.may g.rest;
  leaves = settled_core t g.kept g.rest (subst IsIdle (sym g.board) w.1.0) g.trimmed;
}

pub settles_short : (a : ℕ) (s t : State) (e : NoMemory) → WorksOff a s (Err e) t → Settles a s (Err e) t
settles_short a s t e w = record {
  made = w.0.made;
  chained = (w.0.is false).chained;
  by = (w.0.is false).by;
  calls = (w.0.is false).calls;
  grows = w.0.grows;
  at = λ turns wanted h. (w.0.is wanted).at turns h;
  why = (w.0.is false).gave;
  may = (w.0.is false).waits.may;
  claims = claims_none t a (w.0.is false).waits.may w.0.rest;
  leaves = tt;
}

pub none_left : (o : Option ℕ) → ((p : ℕ) → o ≡ Some p → ⊥) → o ≡ None
none_left None h = refl
none_left (Some p) h = absurd (h p refl)
