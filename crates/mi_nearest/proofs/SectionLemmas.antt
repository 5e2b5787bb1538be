-- The pin of a query, its visits, and its unpin.
use Rattle.std.proofs.Common.{◌≡◌, ℕ, ◌+◌, ◌-◌, ◌*◌, ◌<◌, ◌≤◌, List, [], ◌∷◌, ◌++◌, length, take, Option, Some, IsTrue, refl, sym, ap, ◌∙◌, subst, arith, inl, inr, length-append, zero, suc}
use Rattle.std.specs.Prelude.{IfSome, IsSome, unwrap_or, slice_get, drop, Ok}
use Rattle.std.specs.List.{AllByRecursion, sum_by}
use Rattle.std.proofs.Math.Nat.{mul-le-mul_right}
use Rattle.std.proofs.lemmas.Option.{slice_get_cases, slice_get_within}
use Rattle.std.proofs.lemmas.List.{take-append-drop}
use Rattle.mi_base.specs.declared.records.LogEvent.{LogEvent}
use Rattle.mi_base.specs.declared.records.Op.TheVariants.{Nearest}
use Rattle.mi_base.specs.declared.records.Position.{Position}
use Rattle.mi_base.specs.declared.records.Reply.TheVariants as reply
use Rattle.mi_base.specs.Configuration.{Configuration, metric_space, space_of}
use Rattle.mi_base.specs.History.{at_position, end_of, events_at, updates_of}
use Rattle.mi_base.specs.Sorting.{Ascends}
use Rattle.mi_base.specs.Space.{IsMetric, MetricSpace}
use Rattle.mi_blink.specs.declared.turns.Turn.TheVariants as turn
use Rattle.mi_blink.specs.declared.walk.Walk.{Walk}
use Rattle.mi_blink.specs.declared.walk.WalkTurn.{WalkTurn}
use Rattle.mi_blink.specs.declared.walk.WalkTurn.TheVariants as turns
use Rattle.mi_blink.specs.Descents.{IsRoot, longest}
use Rattle.mi_blink.specs.Walking.{Walked, so_far, so_far_after, whole}
use Rattle.mi_blink.proofs.DescentLemmas.{root_keeps}
use Rattle.mi_blink.proofs.LiveLemmas.{shows_live}
use Rattle.mi_key.specs.declared.ranges.Interval.{Interval}
use Rattle.mi_key.specs.Entries.{Offering}
use Rattle.mi_key.specs.Keys.{parts_of}
use Rattle.mi_key.specs.Ranges.{is_within}
use Rattle.mi_key.specs.Shown.{offerings, within}
use Rattle.mi_legal.specs.Right.{Right}
use Rattle.mi_legal.specs.Work.{objects_reached}
use Rattle.mi_legal.proofs.EndLemmas.{nearest_at_end}
use Rattle.mi_legal.proofs.ReplyLemmas.{full_stays, right_grows}
use Rattle.mi_nearest.specs.declared.nearest.Gathering.{Gathering}
use Rattle.mi_nearest.specs.declared.nearest.NearestOp.{NearestOp}
use Rattle.mi_nearest.specs.declared.nearest.NearestState.{NearestState}
use Rattle.mi_nearest.specs.declared.nearest.NearestState.TheVariants.{Begin, Walking, Ending, Over}
use Rattle.mi_nearest.specs.declared.order.Rank.{Rank}
use Rattle.mi_nearest.specs.Nearing.{NearestWorkState, TakesNearest, first_rows, worst_of}
use Rattle.mi_nearest.specs.Order.{IsRanked, leaves_at, rank_cmp}
use Rattle.mi_nearest.specs.Querying.{HasOpened, HasRead, IsOpened, IsReading, OpensNext, Ready, SiftsOn, StateIsReady, StopsBefore, Turned, dists_of, least_at, left_at, most, most_at, objects_at, ranks_of, rows_of_leaf, since_at}
use Rattle.mi_nearest.specs.Taking.{takes_more}
use Rattle.mi_nearest.specs.Walking.{HasNearest, KeepsFirst, OpensLeaf, StopsAt}
use Rattle.mi_nearest.proofs.NextLemmas.{few_opened, goes, goes_least, goes_left, goes_most, goes_since, opened_keeps, parted, times}
use Rattle.mi_nearest.proofs.ScanLemmas.{goes_on, has_nearest, stops_here, walk_step}
use Rattle.mi_nearest.proofs.WalkLemmas.{stops_later, sum_next}
use Rattle.mi_rules.specs.Passing.{kth_distance, reached_objects}
use Rattle.mi_rules.specs.Spans.{is_near}
use Rattle.mi_tree.specs.declared.answers.Look.{Look}
use Rattle.mi_tree.specs.declared.outcomes.Leaf.{Leaf}
use Rattle.mi_tree.specs.Growing.{Grows}
use Rattle.mi_tree.specs.Legal.{LegalLog}
use Rattle.mi_tree.proofs.GrowingLemmas.{at_end, at_grows, end_events, end_is, grows_length, grows_none, grows_on}
use Rattle.mi_tree.proofs.LimitLemmas.{few_cells}
use Rattle.mi_tree.proofs.SumLemmas.{taken_more}
use Rattle.mi_world.specs.Boards.{Pins, Unpins}
use Rattle.mi_world.specs.LeafKeys.{shown}
use Rattle.mi_world.specs.Pages.{pinned}
use Rattle.mi_world.specs.Queries.{Pinned, pinned_cells}
use Rattle.mi_world.specs.View.{View}
use Rattle.mi_world.proofs.QueryLemmas.{pinned_keeps, walk_same}

-- a query that stands so
abbrev with_state : NearestOp → NearestState → Option Gathering → NearestOp
with_state op s found = record { count = op.count; query = op.query; state = s; found = found }

first_of_none : (count : ℕ) → first_rows count [] ≡ []
first_of_none zero = refl
first_of_none (suc n) = refl

-- the pin

module _ (op : NearestOp) (v w : View) (state : op.state ≡ Begin) (ready : Ready op v) (look : Look) (p : Pins v w (Ok look)) where
  seen_is : pinned w ≡ w.seen
  seen_is = ap (λ o. unwrap_or o []) p.answer.1

  pub now_pinned : Pinned look.at w
  now_pinned = record {
    pin = subst (λ (o : Option (List LogEvent)). IsSome o) (sym p.answer.1) refl;
    at_is = p.answer.0.at_is ∙ ap end_of (sym seen_is);
    seen = subst (λ (log : List LogEvent). Grows log w.seen) (sym seen_is) (grows_none w.seen);
    limits = p.board.limits;
    legal = subst (λ (log : List LogEvent). LegalLog w.settings log) (sym seen_is) p.board.legal;
  }

  is_root : IsRoot w look.root
  is_root = record { named = p.answer.0.named; low_is = p.answer.0.low_is; small = rw p.answer.0.level_is p.answer.0.low_height }

  module _ (kept : Gathering) (dists : kept.work.dists ≡ dists_of op w) (count : kept.work.count ≡ op.count) (rows : kept.work.rows ≡ []) (ranked : IsRanked (dists_of op w) (pinned_cells w) kept.ranks.items) where
    first : HasOpened op 0 kept.ranks.items kept.work w
    first = record {
      ranked = ranked;
      within = omega arith;
      counted = refl;
      dists_are = dists;
      count_is = count;
      keeps = record { rows_are = rows ∙ sym (first_of_none op.count); few = tt };
    }

    pub begins : (s : NearestState) → OpensNext (dists_of op w) w.settings.levels (pinned_cells w) kept.ranks.items kept.work 0 look.root look.at s → Turned op v turn.More (with_state op s (Some kept)) w
    begins s g =
        let made = with_state op s (Some kept) in
        let done : HasOpened made 0 kept.ranks.items kept.work w = record { ranked = first.ranked; within = first.within; counted = first.counted; dists_are = first.dists_are; count_is = first.count_is; keeps = first.keeps } in
        let few = few_cells w.settings now_pinned.limits (pinned w) now_pinned.legal in
        let most : (length (pinned_cells w) + 1) * (longest + 1) ≤ 4294967296 * (longest + 1) = mul-le-mul_right (longest + 1) (omega (arith, few)) in
        let less = goes_left made 0 look.root look.at w now_pinned is_root kept refl done s g in
        let from = goes_since made 0 look.root look.at w now_pinned is_root kept refl done s g in
        record {
          count_is = refl;
          query_is = refl;
          later = p.later;
          same = record { update = p.update; leaf = p.leaf; sweep = p.sweep; split = p.split; flags = p.flags; actors = p.actors; fresh = p.fresh; owes = p.owes };
          makes = rw state (Ok look, p, inr (ranked, (kept, refl, g)));
          outcome = (
            record { some = ready.some; few = ready.few; fits = rw p.later.settings ready.fits; state = goes made 0 look.root look.at w now_pinned is_root kept refl done s g },
            rw (state, from, p.answer.0.at_is) (omega (arith, end_events w.seen, grows_length v.seen w.seen p.later.grows)),
            rw state (omega (arith, less, most, times (length (pinned_cells w) + 1) (length (pinned_cells w) - 0) (longest + 1) (omega arith))),
          );
        }

-- a visit

pub reading : (op : NearestOp) (v : View) (opened root : ℕ) (at : Position) (walk : Walk) → op.state ≡ Walking opened root at walk → Ready op v → IsReading op opened root at walk v
reading op v opened root at walk state ready = subst (λ s. StateIsReady s op v) state ready.state

module _ (op : NearestOp) (v w : View) (opened root : ℕ) (at : Position) (walk walk' : Walk) (answer : WalkTurn) (state : op.state ≡ Walking opened root at walk) (ready : Ready op v)
    (h : IsReading op opened root at walk v) (walked : Walked walk v answer walk' w) where
  same_settings : w.settings ≡ v.settings
  same_settings = walked.visits.later.settings

  same_pin : w.pin ≡ v.pin
  same_pin = walked.visits.same.work.apart.pin

  pub still_pinned : Pinned at w
  still_pinned = pinned_keeps at v w same_settings same_pin walked.visits.later.grows h.holds

  still_root : IsRoot w root
  still_root = root_keeps v w root walked.visits.later h.root_is

  same_cells : pinned_cells w ≡ pinned_cells v
  same_cells = rw (same_settings, same_pin) refl

  opens_now : IsOpened (dists_of op w) w.settings.levels (pinned_cells w) h.rank.place (worst_of h.before) walk.range
  opens_now = rw (same_settings, same_pin) h.opens

  done_now : HasOpened op opened h.kept.ranks.items h.before w
  done_now = opened_keeps op opened h.kept.ranks.items h.before v w same_settings same_pin h.done

  module _ (kept : Gathering) (is : op.found ≡ Some kept) (m : MetricSpace) (space : m ≡ metric_space v.settings) (r new : NearestWorkState) (room : r ≡ record kept.work { spare = r.spare })
      (steps new_steps : ℕ) (s : SiftsOn m op.query r steps (so_far walk v) new new_steps (so_far_after answer walk' w)) where
    same_kept : h.kept ≡ kept
    same_kept =
        let some : Some h.kept ≡ Some kept = sym h.found_is ∙ is in
        cc

    ranks_same : h.kept.ranks.items ≡ kept.ranks.items
    ranks_same = ap (λ (k : Gathering). k.ranks.items) same_kept

    -- of this leaf, what was offered before this visit, and with it
    before_visit : TakesNearest m op.query h.before 0 (so_far walk v) r (length (so_far walk v))
    before_visit =
        let n = length (so_far walk v) in
        let t = subst (λ (x : MetricSpace). TakesNearest x op.query h.before 0 (so_far walk v) h.kept.work n) (sym space) h.takes in
        let u = subst (λ (k : Gathering). TakesNearest m op.query h.before 0 (so_far walk v) k.work n) same_kept t in
        let made : NearestWorkState = record { dists = kept.work.dists; count = kept.work.count; rows = kept.work.rows; spare = r.spare } in
        let here : TakesNearest m op.query h.before 0 (so_far walk v) made n = record { same_dists = u.same_dists; same_count = u.same_count; rows_are = u.rows_are; onward = u.onward; ticks = u.ticks } in
        subst (λ (x : NearestWorkState). TakesNearest m op.query h.before 0 (so_far walk v) x n) (sym room) here

    size : length (so_far walk v) + length s.delta ≡ length (so_far_after answer walk' w)
    size = sym (length-append (so_far walk v) s.delta) ∙ ap length s.joins

    pub after_visit : TakesNearest (metric_space w.settings) op.query h.before 0 (so_far_after answer walk' w) new (length (so_far_after answer walk' w))
    after_visit =
        let n = length (so_far walk v) in
        let k = n + length s.delta in
        let one : TakesNearest m op.query r n s.delta new k = record { same_dists = s.takes.same_dists; same_count = s.takes.same_count; rows_are = s.takes.rows_are; onward = omega arith; ticks = omega arith } in
        let all = takes_more m op.query h.before r new 0 n k (so_far walk v) s.delta before_visit one in
        let there : m ≡ metric_space w.settings = space ∙ ap metric_space (sym same_settings) in
        subst (λ (x : MetricSpace). TakesNearest x op.query h.before 0 (so_far_after answer walk' w) new (length (so_far_after answer walk' w))) there
        (subst (λ (l : ℕ). TakesNearest m op.query h.before 0 (so_far_after answer walk' w) new l) size
        (subst (λ (os : List Offering). TakesNearest m op.query h.before 0 os new k) s.joins all))

    -- what the work has of the distances
    pub work_dists : new.dists ≡ dists_of op w
    work_dists = after_visit.same_dists ∙ done_now.dists_are

    pub still_ranked : IsRanked (dists_of op w) (pinned_cells w) kept.ranks.items
    still_ranked = subst (IsRanked (dists_of op w) (pinned_cells w)) ranks_same done_now.ranked

    pub few_so_far : opened < 4294967295
    few_so_far = omega (arith, few_opened op opened h.kept.ranks.items h.before w done_now, few_cells w.settings still_pinned.limits (pinned w) still_pinned.legal)

    abbrev after : Gathering
    after = record { ranks = kept.ranks; work = new }

    -- at most so many distances were computed before this visit
    pub most_before : most op v ≡ length w.settings.pivots + objects_at w (take opened kept.ranks.items) + length (so_far walk v)
    most_before =
        let pivots : length v.settings.pivots ≡ length w.settings.pivots = ap (λ (c : Configuration). length c.pivots) (sym same_settings) in
        let objects : objects_at v (take opened kept.ranks.items) ≡ objects_at w (take opened kept.ranks.items) = ap (λ (ls : List Leaf). sum_by (λ (l : Leaf). l.count) (leaves_at ls (take opened kept.ranks.items))) (sym same_cells) in
        rw (state, is) (omega (arith, pivots, objects))

    pub least_before : least_at op.state v ≡ length w.settings.pivots
    least_before = rw state (ap (λ (c : Configuration). length c.pivots) (sym same_settings))

    pub visited : (state' : NearestState) → Rattle.mi_nearest.specs.Querying.FollowsVisit opened root at answer walk' (with_state op state' (Some after)) w
        → StateIsReady state' (with_state op state' (Some after)) w → since_at state' w ≡ events_at at → left_at state' w < left_at (Walking opened root at walk) v
        → Turned op v turn.More (with_state op state' (Some after)) w
    visited state' follows x from less = record {
      count_is = refl;
      query_is = refl;
      later = walked.visits.later;
      same = walk_same v w walked.visits.same;
      makes = rw state (inl (record { answer = answer; walk_after = walk'; walked = walked; follows = follows; ranks_are = ap ranks_of (sym is) }));
      outcome = (record { some = ready.some; few = ready.few; fits = rw same_settings ready.fits; state = x }, rw (state, from) (omega arith), rw state less);
    }

-- the walk goes on
module _ (op : NearestOp) (v w : View) (opened root : ℕ) (at : Position) (walk walk' : Walk) (state : op.state ≡ Walking opened root at walk) (ready : Ready op v)
    (h : IsReading op opened root at walk v) (kept : Gathering) (is : op.found ≡ Some kept) (m : MetricSpace) (space : m ≡ metric_space v.settings) (r new : NearestWorkState) (room : r ≡ record kept.work { spare = r.spare })
    (steps new_steps : ℕ) where
  pub walks_on : (walked : Walked walk v turns.More walk' w) → SiftsOn m op.query r steps (so_far walk v) new new_steps (so_far walk' w)
      → Turned op v turn.More (with_state op (Walking opened root at walk') (Some (record { ranks = kept.ranks; work = new }))) w
  walks_on walked s =
      let made = with_state op (Walking opened root at walk') (Some (record { ranks = kept.ranks; work = new })) in
      let same = ranks_same op v w opened root at walk walk' turns.More state ready h walked kept is m space r new room steps new_steps s in
      let o = opens_now op v w opened root at walk walk' turns.More state ready h walked in
      let d = subst (λ (ranks : List Rank). HasOpened op opened ranks h.before w) same (done_now op v w opened root at walk walk' turns.More state ready h walked) in
      visited op v w opened root at walk walk' turns.More state ready h walked kept is m space r new room steps new_steps s (Walking opened root at walk') refl (record {
        holds = still_pinned op v w opened root at walk walk' turns.More state ready h walked;
        root_is = still_root op v w opened root at walk walk' turns.More state ready h walked;
        walk_ready = walked.goes_on.0;
        kept = record { ranks = kept.ranks; work = new };
        found_is = refl;
        before = h.before;
        done = record { ranked = d.ranked; within = d.within; counted = d.counted; dists_are = d.dists_are; count_is = d.count_is; keeps = d.keeps };
        rank = h.rank;
        rank_is = subst (λ (ranks : List Rank). slice_get ranks opened ≡ Some h.rank) same h.rank_is;
        goes_on = h.goes_on;
        opens = subst (λ (x : Interval). IsOpened (dists_of op w) w.settings.levels (pinned_cells w) h.rank.place (worst_of h.before) x) (sym walked.range) o;
        takes = after_visit op v w opened root at walk walk' turns.More state ready h walked kept is m space r new room steps new_steps s;
      }) refl (omega (arith, walked.goes_on.1, ap (λ (ls : List Leaf). (length ls - opened) * (longest + 1)) (same_cells op v w opened root at walk walk' turns.More state ready h walked)))

  pub ticks_on : (walked : Walked walk v turns.More walk' w) → SiftsOn m op.query r steps (so_far walk v) new new_steps (so_far walk' w)
      → (steps + length w.settings.pivots ≤ new_steps + least_at op.state v)
      × (new_steps + most op v ≤ steps + (length w.settings.pivots + objects_at w (take opened kept.ranks.items) + length (so_far walk' w)))
  ticks_on walked s = (
    omega (arith, s.takes.onward, least_before op v w opened root at walk walk' turns.More state ready h walked kept is m space r new room steps new_steps s),
    omega (
      arith,
      s.takes.ticks,
      most_before op v w opened root at walk walk' turns.More state ready h walked kept is m space r new room steps new_steps s,
      size op v w opened root at walk walk' turns.More state ready h walked kept is m space r new room steps new_steps s,
    ),
  )

  module _ (metric : IsMetric (metric_space v.settings)) (walked : Walked walk v turns.Done walk' w) (s : SiftsOn m op.query r steps (so_far walk v) new new_steps (whole walk' w)) where
    ranks_here : h.kept.ranks.items ≡ kept.ranks.items
    ranks_here = ranks_same op v w opened root at walk walk' turns.Done state ready h walked kept is m space r new room steps new_steps s

    rank_here : slice_get kept.ranks.items opened ≡ Some h.rank
    rank_here = subst (λ (ranks : List Rank). slice_get ranks opened ≡ Some h.rank) ranks_here h.rank_is

    done_here : HasOpened op opened kept.ranks.items h.before w
    done_here = subst (λ (ranks : List Rank). HasOpened op opened ranks h.before w) ranks_here (done_now op v w opened root at walk walk' turns.Done state ready h walked)

    opens_it : IsOpened (dists_of op w) w.settings.levels (pinned_cells w) h.rank.place (worst_of h.before) walk.range
    opens_it = opens_now op v w opened root at walk walk' turns.Done state ready h walked

    -- one leaf more was opened
    leaf_done : OpensLeaf op.count (pinned_cells w) (rows_of_leaf op w) (take opened kept.ranks.items ++ h.rank ∷ []) opens_it.leaf new.rows 0 (length (whole walk' w))
    leaf_done =
        let c = w.settings in
        let p = still_pinned op v w opened root at walk walk' turns.Done state ready h walked in
        let same_c : w.settings ≡ v.settings = same_settings op v w opened root at walk walk' turns.Done state ready h walked in
        let metric_now : IsMetric (metric_space c) = rw same_c metric in
        let fits_now : IsTrue ((metric_space c).fits op.query) = rw same_c ready.fits in
        let xs = shown c (pinned w) in
        let ranks = kept.ranks.items in
        let o = opens_it in
        let work = h.before in
        let worst = kth_distance op.count work.rows in
        let told : worst_of work ≡ worst = ap (λ (n : ℕ). kth_distance n work.rows) done_here.count_is in
        let next = subst (λ (x : Option ℕ). IfSome x (λ (w : ℕ). h.rank.bound ≤ w)) told (goes_on (worst_of work) h.rank.bound h.goes_on) in
        let Read : Option ℕ → Option (ℕ × ℕ) → Type 0 = λ x hull. IfSome hull (λ h. (key : ℕ) → is_within walk.range key ≡ is_near (dists_of op w) x c.levels o.leaf.prefix h (parts_of key)) in
        let read : Read worst o.leaf.hull = subst (λ (x : Option ℕ). Read x o.leaf.hull) told (subst (Read (worst_of work)) (sym o.hull_is) o.has) in
        let all : whole walk' w ≡ offerings (within walk.range xs) = ap (λ (range : Interval). offerings (within range xs)) walked.range in
        let takes = subst (λ (os : List Offering). TakesNearest (metric_space c) op.query work 0 os new (length (whole walk' w))) all
        (after_visit op v w opened root at walk walk' turns.Done state ready h walked kept is m space r new room steps new_steps s) in
        walk_step c p.limits (pinned w) p.legal op.query fits_now metric_now xs (shows_live c p.limits metric_now (pinned w) p.legal) op.count ready.some ranks (take opened ranks) (drop (suc opened) ranks) h.rank
        done_here.ranked (parted ranks opened h.rank rank_here) o.leaf o.stands work new 0 (length (whole walk' w)) walk.range done_here.count_is done_here.keeps next read takes

    done_next : HasOpened op (opened + 1) kept.ranks.items new w
    done_next =
        let ranks = kept.ranks.items in
        let more = taken_more ranks opened h.rank rank_here in
        let one = sum_next (pinned_cells w) (λ (l : Leaf). 1) (take opened ranks) h.rank opens_it.leaf opens_it.stands in
        let t = after_visit op v w opened root at walk walk' turns.Done state ready h walked kept is m space r new room steps new_steps s in
        record {
          ranked = done_here.ranked;
          within = omega (arith, slice_get_within ranks opened h.rank rank_here);
          counted = omega (arith, done_here.counted, one, ap (λ (rs : List Rank). sum_by (λ (l : Leaf). 1) (leaves_at (pinned_cells w) rs)) more);
          dists_are = t.same_dists ∙ done_here.dists_are;
          count_is = t.same_count ∙ done_here.count_is;
          keeps = subst (λ (rs : List Rank). KeepsFirst op.count (pinned_cells w) (rows_of_leaf op w) rs new.rows) (sym more) leaf_done.walked;
        }

    objects_next : objects_at w (take (opened + 1) kept.ranks.items) ≡ objects_at w (take opened kept.ranks.items) + opens_it.leaf.count
    objects_next =
        let ranks = kept.ranks.items in
        ap (objects_at w) (taken_more ranks opened h.rank rank_here) ∙ sum_next (pinned_cells w) (λ (l : Leaf). l.count) (take opened ranks) h.rank opens_it.leaf opens_it.stands

    module _ (state' : NearestState) (g : OpensNext (dists_of op w) w.settings.levels (pinned_cells w) kept.ranks.items new (opened + 1) root at state') where
      abbrev there : Gathering
      there = record { ranks = kept.ranks; work = new }

      abbrev made : NearestOp
      made = with_state op state' (Some there)

      done_made : HasOpened made (opened + 1) kept.ranks.items new w
      done_made = record { ranked = done_next.ranked; within = done_next.within; counted = done_next.counted; dists_are = done_next.dists_are; count_is = done_next.count_is; keeps = done_next.keeps }

      pub walks_done : Turned op v turn.More made w
      walks_done =
          let holds = still_pinned op v w opened root at walk walk' turns.Done state ready h walked in
          let is_root = still_root op v w opened root at walk walk' turns.Done state ready h walked in
          let inside = few_opened op (opened + 1) kept.ranks.items new w done_next in
          let less = goes_left made (opened + 1) root at w holds is_root there refl done_made state' g in
          let same = ap (λ (x : List Leaf). (length x - opened) * (longest + 1)) (same_cells op v w opened root at walk walk' turns.Done state ready h walked) in
          let n = length (pinned_cells w) in
          visited op v w opened root at walk walk' turns.Done state ready h walked kept is m space r new room steps new_steps s state' (there, refl, g)
          (goes made (opened + 1) root at w holds is_root there refl done_made state' g)
          (goes_since made (opened + 1) root at w holds is_root there refl done_made state' g)
          (omega (arith, less, same, times (n - opened) (n - (opened + 1)) (longest + 1) (omega (arith, inside))))

      pub ticks_done : (steps + least_at state' w ≤ new_steps + least_at op.state v) × (new_steps + most op v ≤ steps + most made w)
      ticks_done =
          let holds = still_pinned op v w opened root at walk walk' turns.Done state ready h walked in
          let is_root = still_root op v w opened root at walk walk' turns.Done state ready h walked in (
            omega (
              arith,
              s.takes.onward,
              least_before op v w opened root at walk walk' turns.Done state ready h walked kept is m space r new room steps new_steps s,
              goes_least made (opened + 1) root at w holds is_root there refl done_made state' g,
            ),
            omega (
              arith,
              s.takes.ticks,
              most_before op v w opened root at walk walk' turns.Done state ready h walked kept is m space r new room steps new_steps s,
              size op v w opened root at walk walk' turns.Done state ready h walked kept is m space r new room steps new_steps s,
              goes_most made (opened + 1) root at w holds is_root there refl done_made state' g,
              objects_next,
              leaf_done.few,
            ),
          )

-- the unpin

dropped : (ranks : List Rank) (n : ℕ) (rank : Rank) → slice_get ranks n ≡ Some rank → rank ∷ drop (suc n) ranks ≡ drop n ranks
dropped [] n rank at = cc
dropped (x ∷ ranks) zero rank at =
    let same : x ≡ rank = cc in
    ap (λ (y : Rank). y ∷ ranks) (sym same)
dropped (x ∷ ranks) (suc n) rank at = dropped ranks n rank at

dropped_all : (ranks : List Rank) (n : ℕ) → length ranks ≤ n → drop n ranks ≡ []
dropped_all [] zero h = refl
dropped_all [] (suc n) h = refl
dropped_all (x ∷ ranks) zero h = absurd (omega (arith, h))
dropped_all (x ∷ ranks) (suc n) h = dropped_all ranks n (omega (arith, h))

-- where the next rank is stopped at, so is each that is left
all_stop : (dq : List ℕ) (leaves : List Leaf) (ranks : List Rank) (worst : Option ℕ) (n : ℕ) → IsRanked dq leaves ranks → StopsBefore ranks worst n → AllByRecursion (λ r. StopsAt worst r.bound) (drop n ranks)
all_stop dq leaves ranks worst n ranked stops =
    let P : List Rank → Type 0 = AllByRecursion (λ (r : Rank). StopsAt worst r.bound) in
    elim (slice_get_cases ranks n).1 [
      | inl c ↦
          let parts = parted ranks n c.0 c.2 in
          subst P (dropped ranks n c.0 c.2) (stops_later worst (take n ranks) c.0 (drop (suc n) ranks) (subst (Ascends rank_cmp) parts ranked.ascend) (stops_here worst c.0.bound (stops c.0 c.2)))
      | inr c ↦ subst P (sym (dropped_all ranks n c.0)) tt
    ]

module _ (op : NearestOp) (v w : View) (cells : ℕ) (at : Position) (state : op.state ≡ Ending cells at) (ready : Ready op v) (metric : IsMetric (metric_space v.settings)) (u : Unpins v w)
    (kept : Gathering) (is : op.found ≡ Some kept) where
  at_last : HasRead op cells at v
  at_last = subst (λ s. StateIsReady s op v) state ready.state

  same_last : at_last.kept ≡ kept
  same_last =
      let some : Some at_last.kept ≡ Some kept = sym at_last.found_is ∙ is in
      cc

  done_last : HasOpened op cells kept.ranks.items kept.work v
  done_last = subst (λ (k : Gathering). HasOpened op cells k.ranks.items k.work v) same_last at_last.done

  nearest : HasNearest v.settings (pinned v) op.query op.count kept.work.rows cells (objects_at v (take cells kept.ranks.items))
  nearest =
      let c = v.settings in
      let p = at_last.holds in
      let ranks = kept.ranks.items in
      let told : worst_of kept.work ≡ kth_distance op.count kept.work.rows = ap (λ (n : ℕ). kth_distance n kept.work.rows) done_last.count_is in
      let stops = subst (λ (x : Option ℕ). StopsBefore ranks x cells) told (subst (λ (k : Gathering). StopsBefore k.ranks.items (worst_of k.work) cells) same_last at_last.stops) in
      has_nearest c p.limits (pinned v) p.legal op.query ready.fits metric (shown c (pinned v)) (shows_live c p.limits metric (pinned v) p.legal) op.count ranks (take cells ranks) (drop cells ranks) kept.work.rows
      done_last.ranked (sym (take-append-drop cells ranks)) done_last.keeps (all_stop (dists_of op v) (pinned_cells v) ranks (kth_distance op.count kept.work.rows) cells done_last.ranked stops)
      cells (objects_at v (take cells ranks)) done_last.counted (omega arith)

  grows_last : Grows (pinned v) w.seen
  grows_last = grows_on (pinned v) v.seen w.seen at_last.holds.seen u.later.grows

  right_last : (allotted number : ℕ) → Right w.settings w.seen allotted w.actor number (Nearest op.count op.query) (reply.Nearest at kept.work.rows cells)
  right_last allotted number =
      let p = at_last.holds in
      let there = nearest_at_end v.settings (pinned v) op.count op.query at kept.work.rows cells p.at_is nearest.rows_are nearest.cells_are in
      let few : length (updates_of (pinned v ++ grows_last.by)) ≤ v.settings.updates = rw (← grows_last.is, ← u.later.settings) u.board.legal.few in
      rw (u.later.settings, grows_last.is)
      (right_grows v.settings (pinned v) grows_last.by allotted w.actor number (Nearest op.count op.query) (reply.Nearest at kept.work.rows cells) (full_stays v.settings (pinned v) grows_last.by few) there)

  -- the log at the answer's position is the pinned one
  log_there : at_position w.seen at ≡ pinned v
  log_there =
      let p = at_last.holds in
      ap (λ (log : List LogEvent). at_position log at) grows_last.is ∙ ap (at_position (pinned v ++ grows_last.by)) p.at_is
      ∙ at_grows (pinned v) grows_last.by (end_of (pinned v)) (end_is (pinned v)) ∙ at_end (pinned v)

  cheap : most op v ≤ length w.settings.pivots + objects_reached w.settings w.seen op.count op.query (reply.Nearest at kept.work.rows cells)
  cheap =
      let c = v.settings in
      let worst = kth_distance op.count kept.work.rows in
      let few = nearest.few in
      let same : reached_objects (space_of w.settings) w.settings.levels (at_position w.seen at) op.query worst ≡ reached_objects (space_of c) c.levels (pinned v) op.query worst =
      ap (λ (log : List LogEvent). reached_objects (space_of w.settings) w.settings.levels log op.query worst) log_there ∙ ap (λ (k : Configuration). reached_objects (space_of k) k.levels (pinned v) op.query worst) u.later.settings in
      let pivots : length w.settings.pivots ≡ length c.pivots = ap (λ (k : Configuration). length k.pivots) u.later.settings in
      rw (state, is) (omega (arith, few, same, pivots))

  pub ends : (found : Option Gathering) → Turned op v (turn.Done (reply.Nearest at kept.work.rows cells)) (with_state op Over found) w
  ends found = record {
    count_is = refl;
    query_is = refl;
    later = u.later;
    same = record { update = u.update; leaf = u.leaf; sweep = u.sweep; split = u.split; flags = u.flags; actors = u.actors; fresh = u.fresh; owes = u.owes };
    makes = rw state (u, refl);
    outcome = (refl, u.pin, rw state (refl, refl), right_last, rw state (omega arith), cheap);
  }
