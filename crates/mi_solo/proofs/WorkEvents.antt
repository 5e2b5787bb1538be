-- The end of a split, and a splitter's next work, as the trait tells of them.
use Rattle.std.proofs.Common.{◌≡◌, ℕ, suc, zero, ◌+◌, ◌-◌, ◌<◌, List, [], ◌∷◌, ◌++◌, append-nil, length, drop, Bool, true, false, cond, not, ◌&&◌, ◌||◌, refl, sym, ap, ◌∙◌, subst, arith, Option, Some, None, is_some, set}
use Rattle.std.specs.Prelude.{slice_get, slice_index_or, Result, Ok, Err}
use Rattle.std.specs.List.{filter, find, list_any}
use Rattle.std.proofs.lemmas.List.{length-drop}
use Rattle.std.proofs.lemmas.Map.Views.{any-filter_same}
use Rattle.std.proofs.lemmas.Option.{none-some, same_Some}
use Rattle.mi_base.specs.declared.refusals.NoMemory.{NoMemory}
use Rattle.mi_base.specs.declared.records.LogEvent.{LogEvent}
use Rattle.mi_base.specs.declared.records.LogEvent.TheVariants.{Split}
use Rattle.mi_base.specs.declared.records.Position.{Position}
use Rattle.mi_base.specs.Configuration.{Configuration}
use Rattle.mi_base.specs.History.{at_position, end_of}
use Rattle.mi_tree.specs.declared.answers.Work.{Work}
use Rattle.mi_tree.specs.declared.answers.Work.TheVariants as work
use Rattle.mi_tree.specs.declared.outcomes.Leaf.{Leaf}
use Rattle.mi_tree.specs.Births.{splits_in, was_split}
use Rattle.mi_tree.specs.Catalog.{prefixes_of}
use Rattle.mi_tree.specs.Cells.{same_cell}
use Rattle.mi_tree.specs.Counting.{is_wanted}
use Rattle.mi_tree.specs.Legal.{MayFollow, cells_of}
use Rattle.mi_tree.proofs.CountLemmas.{any_map, cat_has}
use Rattle.mi_board.specs.Actors.{idle, is_claim, is_claimed, with_claim, without_claim}
use Rattle.mi_board.specs.Boards.{prefix_or as claimed, floor_of, is_open, is_passed, leaf_claimed, next_split, passing, with_split}
use Rattle.mi_board.specs.Floors.{earliest_in, least_pin}
use Rattle.mi_board.specs.declared.actors.ActorState.{ActorState}
use Rattle.mi_entries.specs.Actors.{Actor, SplitWork, SweepWork}
use Rattle.mi_entries.specs.Entries.{grid}
use Rattle.mi_entries.specs.Marks.{cell_range}
use Rattle.mi_core.specs.Claims.{last_of}
use Rattle.mi_core.specs.Effects.{looked, saw}
use Rattle.mi_core.specs.Events.{after, leaf_or}
use Rattle.mi_core.specs.Events.Event.{give_up, no_work, publish, see, take_split, take_sweep}
use Rattle.mi_core.specs.Kept.{Kept}
use Rattle.mi_core.specs.State.{State, board_actor}
use Rattle.mi_core.proofs.ActorLemmas.{set_there}
use Rattle.mi_core.proofs.FloorLemmas.{least_same}
use Rattle.mi_core.proofs.NextLemmas.{next_swept, next_wanted}
use Rattle.mi_core.proofs.PageLemmas.{fun_same}
use Rattle.mi_world.specs.Boards.{GivesWork, WorkAnswer, first_may_be_swept, is_free}
use Rattle.mi_world.specs.Splits.{GivesUp, PublishAnswer, Publishes}
use Rattle.mi_world.specs.View.{Later, SeesBoard, View, prefix_or}
use Rattle.mi_solo.specs.Onward.{Makes}
use Rattle.mi_solo.specs.Viewing.{holder_from, pinned_log, shown_to}
use Rattle.mi_solo.proofs.BoardEvents.{board_saw, later_saw, there_saw}
use Rattle.mi_solo.proofs.ClaimEvents.{no_split}
use Rattle.mi_solo.proofs.GatheredLemmas.{all_copied}
use Rattle.mi_solo.proofs.OwnLemmas.{later_own, made, sees_own}
use Rattle.mi_solo.proofs.SectionLemmas.{floor_is, freed, page_by, split_by}
use Rattle.mi_solo.proofs.ViewLemmas.{not_claim, pin_more}

-- the log, the board's actors, what is retired and what is passed over, and a record with its claim and its split
module _ (s : State) (a : ℕ) (r : Actor) (log : List LogEvent) (actors : List ActorState) (retired passed : List (List ℕ)) (claim : Option (List ℕ)) (split : Option SplitWork) where
  abbrev split_actor : Actor
  split_actor = record r { seen = length log; claim = claim; split = split }

  abbrev split_state : State
  split_state = record { board = record s.board { log = log; actors = actors; retired = retired; passed_over = passed }; shards = s.shards; pages = s.pages; actors = set s.actors a split_actor }

  publishes_by : pinned_log log r.pin ≡ pinned_log s.board.log r.pin → Later (shown_to s a r) (shown_to split_state a split_actor) → SeesBoard (shown_to split_state a split_actor)
      → (result : Result Position NoMemory) → PublishAnswer (shown_to s a r) (shown_to split_state a split_actor) result → Publishes (shown_to s a r) (shown_to split_state a split_actor) result
  publishes_by pin later board result answer = record {
    later = later;
    lacked = refl;
    told = refl;
    update = record { own = refl; shard = refl; records = refl; reserved = refl };
    sweep = record { sweep = refl; swept = refl };
    flags = record { undone = refl; early = refl };
    actors = record { absorbed = refl; forked = refl };
    pin = pin;
    floor = refl;
    fresh = refl;
    owes = refl;
    board = board;
    page = page_by s split_state a r split_actor refl refl;
    tries = record { tried = refl; found = refl };
    answer = answer;
  }

pub publishes : Makes publish (λ s v w. Publishes v w (Ok (end_of w.seen)))
publishes = made publish (λ s v w. Publishes v w (Ok (end_of w.seen))) (λ s k a r there going can.
    let log = s.board.log in
    let t : State = after s a r publish in
    let q : Actor = record (saw (with_split (leaf_or r.claim) a s.board) r) { claim = None; split = None } in
    let now = set_there s.actors a q r there in
    let claim : r.claim ≡ Some can.0.leaf = (k.sound.each a r there).holds.split can.0 can.1.split in
    let same : leaf_or r.claim ≡ prefix_or r.claim = ap leaf_or claim ∙ sym (ap prefix_or claim) in (
      q,
      now,
      publishes_by s a r t.board.log t.board.actors t.board.retired t.board.passed_over None None
          (pin_more log (Split (leaf_or r.claim) ∷ []) r.pin (λ p is. ((k.sound.each a r there).saw.pin p is).0))
          (later_own s k a r there going publish can q now) (sees_own s k a r there going publish can q now) (Ok (end_of t.board.log)) (record {
            before = log;
            grows = record { by = []; is = sym (append-nil log) };
            wanted = subst (λ p. MayFollow s.board.settings log (Split p)) (sym (ap prefix_or claim)) can.3;
            seen = ap (λ p. log ++ Split p ∷ []) same;
            at_is = refl;
            all = all_copied s k a r there can.0 can.1;
            unclaimed = refl;
            freed = freed s k a r there without_claim (λ x. refl) can.0.leaf claim;
            over = refl;
            earlier = s.board.retired;
            retired = ap (λ p. s.board.retired ++ p ∷ []) same;
            unpassed = ap (λ p. list_any (same_cell (prefix_or r.claim)) (filter (λ z. not (same_cell p z)) s.board.passed_over)) same
                ∙ any-filter_same (same_cell (prefix_or r.claim)) (λ z. not (same_cell (prefix_or r.claim) z)) false (λ z e. ap not e) s.board.passed_over;
          }),
    ))

pub publishes_none : (e : NoMemory) → Makes see (λ s v w. Publishes v w (Err e))
publishes_none e = made see (λ s v w. Publishes v w (Err e)) (λ s k a r there going can. (
  saw s.board r,
  there_saw s k a r there going,
  publishes_by s a r s.board.log s.board.actors s.board.retired s.board.passed_over r.claim r.split refl
      (later_saw s k a r there going) (board_saw s k a r there going) (Err e)
      (record { leaf = refl; wanted = refl }, split_by s (after s a r see) a r (saw s.board r) refl refl),
))

-- a leaf that is claimed is passed over once it is given up for want of pages
passed_now : (s : State) → Kept s → (a : ℕ) (r : Actor) → slice_get s.actors a ≡ Some r → (p : List ℕ) → r.claim ≡ Some p → list_any (same_cell (prefix_or r.claim)) (passing (leaf_claimed s.board a) s.board) ≡ true
passed_now s k a r there p its =
    let holds = (k.sound.each a r there).holds in
    let among : list_any (same_cell p) (prefixes_of (cells_of s.board.settings s.board.log)) ≡ true =
    any_map (same_cell p) (λ (l : Leaf). l.prefix) (cells_of s.board.settings s.board.log) ∙ cat_has (grid s.board.settings) s.board.log p ∙ holds.leaf p its in
    ap (λ z. list_any (same_cell z) (passing (leaf_claimed s.board a) s.board)) (ap prefix_or its)
    ∙ ap (λ z. list_any (same_cell p) (passing z s.board)) (ap claimed (holds.claim ∙ its))
    ∙ any-filter_same (same_cell p) (λ z. same_cell p z || is_passed z s.board) true (λ z e. ap (λ b. b || is_passed z s.board) e) (prefixes_of (cells_of s.board.settings s.board.log))
    ∙ among

pub gives_up : (pages : Bool) → Makes (give_up pages) (λ s v w. GivesUp v w pages)
gives_up pages = made (give_up pages) (λ s v w. GivesUp v w pages) (λ s k a r there going can.
    let t : State = after s a r (give_up pages) in
    let q : Actor = record (saw s.board r) { claim = None; split = None } in
    let now = set_there s.actors a q r there in (
      q,
      now,
      record {
        later = later_own s k a r there going (give_up pages) can q now;
        lacked = refl;
        told = refl;
        update = record { own = refl; shard = refl; records = refl; reserved = refl };
        unclaimed = refl;
        freed = freed s k a r there without_claim (λ x. refl) can.0 can.1;
        over = refl;
        sweep = record { sweep = refl; swept = refl };
        flags = record { undone = refl; early = refl };
        actors = record { absorbed = refl; forked = refl };
        pin = refl;
        floor = refl;
        fresh = refl;
        owes = refl;
        board = sees_own s k a r there going (give_up pages) can q now;
        page = page_by s t a r q refl refl;
        tries = record { tried = refl; found = refl };
        passes_over = λ e. ap (λ b. list_any (same_cell (prefix_or r.claim)) (cond b (passing (leaf_claimed s.board a) s.board) s.board.passed_over)) e ∙ passed_now s k a r there can.0 can.1;
        else_as_before = λ e. ap (λ b. list_any (same_cell (prefix_or r.claim)) (cond b (passing (leaf_claimed s.board a) s.board) s.board.passed_over)) e;
      },
    ))

-- the leaf that was split first isn't swept next, so it may not be
not_first : (v : View) (ps : List (List ℕ)) → earliest_in (at_position v.seen v.floor) ps ≡ None → first_may_be_swept v ps ≡ false
not_first v [] h = refl
not_first v (p ∷ ps) h =
    let P : Bool → Type 0 = λ b. cond b (Some p) None ≡ None → b ≡ false in
    (elim (was_split p (at_position v.seen v.floor)) as P [ true ↦ λ e. absurd (none-some p (sym e)) | false ↦ λ _. refl ]) h

-- of the leaves that were split, the first that is retired is the next that is given
given_next : (retired splits qs : List (List ℕ)) (p : List ℕ) → retired ≡ p ∷ qs → retired ≡ last_of (length retired) splits
    → (length splits - length retired < length splits - length (drop 1 retired)) × (p ∷ drop 1 retired ≡ drop ((length splits - length (drop 1 retired)) - 1) splits)
given_next retired splits qs p is order =
    let some : length retired ≡ suc (length qs) = ap (λ (l : List (List ℕ)). length l) is in
    let size : length retired ≡ length splits - (length splits - length retired) = ap (λ (l : List (List ℕ)). length l) order ∙ length-drop (length splits - length retired) splits in
    let rest : length (drop 1 retired) ≡ length retired - 1 = length-drop 1 retired in
    let back : length splits - length retired ≡ (length splits - length (drop 1 retired)) - 1 = omega arith in
    (omega arith, ap (λ (l : List (List ℕ)). p ∷ drop 1 l) is ∙ sym is ∙ order ∙ ap (λ n. drop n splits) back)

-- some actor holds a leaf that is claimed
held_claimed : (n : ℕ) (l : List ActorState) (p : List ℕ) → is_some (holder_from n l p) ≡ is_claimed p l
held_claimed n [] p = refl
held_claimed n (x ∷ l) p =
    let P : Bool → Type 0 = λ b. is_some (cond b (Some n) (holder_from (n + 1) l p)) ≡ (b || is_claimed p l) in
    elim (is_claim p x.claim) as P [ true ↦ refl | false ↦ held_claimed (n + 1) l p ]

-- one actor's claim is of no other leaf
holder_else : (n : ℕ) (l : List ActorState) (p : List ℕ) (i : ℕ) (y : ActorState) → is_claim p y.claim ≡ false → is_claim p (slice_index_or l i idle).claim ≡ false → holder_from n l p ≡ holder_from n (set l i y) p
holder_else n [] p i y h o = refl
holder_else n (x ∷ l) p zero y h o = rw (h, o) refl
holder_else n (x ∷ l) p (suc i) y h o = ap (λ z. cond (is_claim p x.claim) (Some n) z) (holder_else (n + 1) l p i y h o)

-- a leaf is open exactly where it is free by the claims of the board
open_free : (s : State) (v : View) → v.settings ≡ s.board.settings → ((p : List ℕ) → v.passed p ≡ is_passed p s.board) → is_open s.board ≡ is_free v (holder_from 0 s.board.actors)
open_free s v settings passed = fun_same _ _ (λ (l : Leaf).
    ap (λ (c : Configuration). is_wanted c.levels c.cell l && (not (is_claimed l.prefix s.board.actors) && not (is_passed l.prefix s.board))) (sym settings)
    ∙ ap (λ b. is_wanted v.settings.levels v.settings.cell l && (not b && not (is_passed l.prefix s.board))) (sym (held_claimed 0 s.board.actors l.prefix))
    ∙ ap (λ b. is_wanted v.settings.levels v.settings.cell l && (not (is_some (holder_from 0 s.board.actors l.prefix)) && not b)) (sym (passed l.prefix)))

-- what is given changes the board's actors and what is retired, and the record's claim and sweep
module _ (s : State) (a : ℕ) (r : Actor) (actors : List ActorState) (retired : List (List ℕ)) (claim : Option (List ℕ)) (sweep : Option SweepWork) where
  abbrev work_actor : Actor
  work_actor = record (looked s.board r) { claim = claim; sweep = sweep }

  abbrev work_state : State
  work_state = record { board = record s.board { actors = actors; retired = retired }; shards = s.shards; pages = s.pages; actors = set s.actors a work_actor }

  gives_by : least_pin (end_of s.board.log) actors ≡ floor_of s.board → Later (shown_to s a r) (shown_to work_state a work_actor) → SeesBoard (shown_to work_state a work_actor)
      → (result : Work) → WorkAnswer (shown_to s a r) (shown_to work_state a work_actor) result → GivesWork (shown_to s a r) (shown_to work_state a work_actor) result
  gives_by same later board result answer = record {
    later = later;
    lacked = refl;
    told = refl;
    update = record { own = refl; shard = refl; records = refl; reserved = refl };
    split = split_by s work_state a r work_actor refl refl;
    flags = record { undone = refl; early = refl };
    actors = record { absorbed = refl; forked = refl };
    pin = refl;
    fresh = refl;
    owes = refl;
    floor = floor_is work_state a work_actor (sym same);
    board = board;
    page = page_by s work_state a r work_actor refl refl;
    tries = record { tried = refl; found = refl };
    answer = answer;
  }

pub gives_sweep : (p : List ℕ) → Makes (take_sweep p) (λ s v w. GivesWork v w (work.Sweep p))
gives_sweep p = made (take_sweep p) (λ s v w. GivesWork v w (work.Sweep p)) (λ s k a r there going can.
    let sweep : SweepWork = record { leaf = p; mark = (cell_range (grid s.board.settings) p).from } in
    let q : Actor = record (looked s.board r) { sweep = Some sweep } in
    let now = set_there s.actors a q r there in
    let first = next_swept (at_position s.board.log (floor_of s.board)) s.board.retired p can.1 in
    let given = given_next s.board.retired (splits_in s.board.log) first.0 p first.1 k.sound.order in (
      q,
      now,
      gives_by s a r s.board.actors (drop 1 s.board.retired) r.claim (Some sweep) refl
          (later_own s k a r there going (take_sweep p) can q now) (sees_own s k a r there going (take_sweep p) can q now) (work.Sweep p)
          (record { one_more = given.0; was_first = given.1; below = first.2 }, refl, refl, record { leaf = refl; wanted = refl }),
    ))

pub gives_split : (leaf : Leaf) → Makes (take_split leaf.prefix) (λ s v w. next_split s.board ≡ Some leaf → GivesWork v w (work.Split leaf))
gives_split leaf = made (take_split leaf.prefix) (λ s v w. next_split s.board ≡ Some leaf → GivesWork v w (work.Split leaf)) (λ s k a r there going can.
    let t : State = after s a r (take_split leaf.prefix) in
    let q : Actor = record (looked s.board r) { claim = Some leaf.prefix } in
    let now = set_there s.actors a q r there in
    let mine : (board_actor s.board a).claim ≡ None = (k.sound.each a r there).holds.claim ∙ can.0.claim in (
      q,
      now,
      λ next. gives_by s a r t.board.actors s.board.retired (Some leaf.prefix) r.sweep (least_same (with_claim leaf.prefix) (λ x. refl) (end_of s.board.log) s.board.actors a)
          (later_own s k a r there going (take_split leaf.prefix) can q now) (sees_own s k a r there going (take_split leaf.prefix) can q now) (work.Split leaf) (
            not_first (shown_to t a q) s.board.retired can.1,
            record {
              before = holder_from 0 s.board.actors;
              others = λ p other. holder_else 0 s.board.actors p a (with_claim leaf.prefix (board_actor s.board a)) (not_claim p (Some leaf.prefix) (λ e. other (sym (same_Some leaf.prefix p e)))) (ap (is_claim p) mine);
              first = ap (λ f. find f (cells_of s.board.settings s.board.log)) (sym (open_free s (shown_to t a q) refl (λ p. refl))) ∙ next;
            },
            refl,
            next_wanted s leaf next,
            record { sweep = refl; swept = refl },
            no_split s k a r there can.0.claim,
          ),
    ))

pub gives_nothing : Makes no_work (λ s v w. GivesWork v w work.Idle)
gives_nothing = made no_work (λ s v w. GivesWork v w work.Idle) (λ s k a r there going can.
    let q : Actor = looked s.board r in
    let now = set_there s.actors a q r there in
    let v : View = shown_to (after s a r no_work) a q in (
      q,
      now,
      gives_by s a r s.board.actors s.board.retired r.claim r.sweep refl (later_own s k a r there going no_work can q now) (sees_own s k a r there going no_work can q now) work.Idle (
        not_first v s.board.retired can.1,
        ap (λ f. find f (cells_of s.board.settings s.board.log)) (sym (open_free s v refl (λ p. refl))) ∙ can.2,
        record { leaf = refl; wanted = refl },
        record { sweep = refl; swept = refl },
      ),
    ))
