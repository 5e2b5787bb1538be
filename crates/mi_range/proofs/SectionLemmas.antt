-- The pin of a query, its visits, and its unpin.
use Rattle.std.proofs.Common.{◌≡◌, ℕ, ◌+◌, ◌-◌, ◌*◌, ◌<◌, ◌≤◌, ◌^◌, List, [], ◌++◌, length, take, true, Option, Some, refl, sym, ap, ◌∙◌, subst, arith, inl}
use Rattle.std.specs.Prelude.{count_by, IsSome, unwrap_or, Ok}
use Rattle.std.proofs.Math.Nat.{mul-le-mul_right}
use Rattle.std.proofs.Math.ListN.{length-take}
use Rattle.std.proofs.lemmas.List.Sums.{count_by-le-length}
use Rattle.std.proofs.lemmas.Option.{slice_get_within}
use Rattle.mi_base.specs.declared.records.LogEvent.{LogEvent}
use Rattle.mi_base.specs.declared.records.Op.TheVariants.{Range}
use Rattle.mi_base.specs.declared.records.Position.{Position}
use Rattle.mi_base.specs.declared.records.Reply.TheVariants as reply
use Rattle.mi_base.specs.Configuration.{metric_space}
use Rattle.mi_base.specs.History.{end_of, events_at, row_cmp, updates_of}
use Rattle.mi_base.specs.Sorting.{sorted}
use Rattle.mi_base.specs.Space.{IsMetric, MetricSpace}
use Rattle.mi_blink.specs.declared.turns.Turn.TheVariants as turn
use Rattle.mi_blink.specs.declared.walk.Walk.{Walk}
use Rattle.mi_blink.specs.declared.walk.WalkTurn.{WalkTurn}
use Rattle.mi_blink.specs.declared.walk.WalkTurn.TheVariants as turns
use Rattle.mi_blink.specs.Descents.{IsRoot, longest}
use Rattle.mi_blink.specs.Walking.{Walked, so_far, so_far_after, whole}
use Rattle.mi_blink.proofs.DescentLemmas.{root_keeps}
use Rattle.mi_blink.proofs.LiveLemmas.{shows_live}
use Rattle.mi_key.specs.declared.ranges.Interval.{Interval}
use Rattle.mi_key.specs.Entries.{Offering}
use Rattle.mi_legal.specs.Right.{Right}
use Rattle.mi_legal.proofs.EndLemmas.{range_at_end}
use Rattle.mi_legal.proofs.ReplyLemmas.{full_stays, right_grows}
use Rattle.mi_range.specs.declared.range.RangeOp.{RangeOp}
use Rattle.mi_range.specs.declared.range.RangeState.{RangeState}
use Rattle.mi_range.specs.declared.range.RangeState.TheVariants.{Begin, Walking, Ending, Over}
use Rattle.mi_range.specs.Leaves.{IsOpened}
use Rattle.mi_range.specs.Opening.{HasScan}
use Rattle.mi_range.specs.Querying.{Gathered, HasRead, IsReading, OpensFrom, Ready, SiftsOn, StateIsReady, Turned, computed, dists_of, first_of, left_at, offered_of, since_at}
use Rattle.mi_range.specs.Ranging.{RangeWorkState, compared_count}
use Rattle.mi_range.proofs.NextLemmas.{goes, goes_left, goes_since, times}
use Rattle.mi_range.proofs.ReadingLemmas.{few_offered, gathers, gathers_none, roomy, ticked}
use Rattle.mi_range.proofs.ScanLemmas.{has_scan, leaves_more, span_offered}
use Rattle.mi_rules.specs.Passing.{passes}
use Rattle.mi_tree.specs.declared.answers.Look.{Look}
use Rattle.mi_tree.specs.declared.outcomes.Leaf.{Leaf}
use Rattle.mi_tree.specs.Growing.{Grows}
use Rattle.mi_tree.specs.Legal.{LegalLog}
use Rattle.mi_tree.proofs.GrowingLemmas.{end_events, grows_length, grows_none, grows_on}
use Rattle.mi_tree.proofs.LimitLemmas.{few_cells}
use Rattle.mi_tree.proofs.SumLemmas.{counted_more}
use Rattle.mi_world.specs.Boards.{Pins, Unpins}
use Rattle.mi_world.specs.LeafKeys.{shown}
use Rattle.mi_world.specs.Pages.{pinned}
use Rattle.mi_world.specs.Queries.{Pinned, pinned_cells}
use Rattle.mi_world.specs.View.{View}
use Rattle.mi_world.proofs.QueryLemmas.{long, pinned_keeps, walk_same}

-- a query that stands so
abbrev with_state : RangeOp → RangeState → Option RangeWorkState → RangeOp
with_state op s work = record { radius = op.radius; query = op.query; state = s; work = work }

-- the pin

module _ (op : RangeOp) (v w : View) (state : op.state ≡ Begin) (ready : Ready op v) (look : Look) (p : Pins v w (Ok look)) where
  seen_is : pinned w ≡ w.seen
  seen_is = ap (λ o. unwrap_or o []) p.answer.1

  pub now_pinned : Pinned look.at w
  now_pinned = record {
    pin = subst (λ (o : Option (List LogEvent)). IsSome o) (sym p.answer.1) refl;
    at_is = p.answer.0.at_is ∙ ap end_of (sym seen_is);
    seen = subst (λ (log : List LogEvent). Grows log w.seen) (sym seen_is) (grows_none w.seen);
    limits = p.board.limits;
    legal = subst (λ (log : List LogEvent). LegalLog w.settings log) (sym seen_is) p.board.legal;
  }

  is_root : IsRoot w look.root
  is_root = record { named = p.answer.0.named; low_is = p.answer.0.low_is; small = rw p.answer.0.level_is p.answer.0.low_height }

  pub begins : (work : RangeWorkState) → work.dists ≡ dists_of op w → work.radius ≡ op.radius → work.rows ≡ [] → work.distances ≡ length (dists_of op w)
      → (s : RangeState) → OpensFrom op w 0 0 look.root look.at s → Turned op v turn.More (with_state op s (Some work)) w
  begins work dists radius rows counted s g =
      let made = with_state op s (Some work) in
      let first = gathers_none (metric_space w.settings) op.query (dists_of op w) op.radius work dists radius rows counted in
      let few = few_cells w.settings now_pinned.limits (pinned w) now_pinned.legal in
      let most : (length (pinned_cells w) + 1) * (longest + 1) ≤ 4294967296 * (longest + 1) = mul-le-mul_right (longest + 1) (omega (arith, few)) in
      let less = goes_left made 0 0 look.root look.at w now_pinned is_root (omega arith) refl work refl first s g in
      let from = goes_since made 0 0 look.root look.at w now_pinned is_root (omega arith) refl work refl first s g in
      record {
        radius_is = refl;
        query_is = refl;
        later = p.later;
        same = record { update = p.update; leaf = p.leaf; sweep = p.sweep; split = p.split; flags = p.flags; actors = p.actors; fresh = p.fresh; owes = p.owes };
        makes = rw state (Ok look, p, g);
        outcome = (
          record {
            small = ready.small;
            fits = rw p.later.settings ready.fits;
            state = goes made 0 0 look.root look.at w now_pinned is_root (omega arith) refl work refl first s g;
          },
          rw (state, from, p.answer.0.at_is) (omega (arith, end_events w.seen, grows_length v.seen w.seen p.later.grows)),
          rw state (omega (arith, less, most, times (length (pinned_cells w) + 1) (length (pinned_cells w) - 0) (longest + 1) (omega arith))),
        );
      }

-- a visit

module _ (op : RangeOp) (v w : View) (place cells root : ℕ) (at : Position) (walk walk' : Walk) (answer : WalkTurn) (state : op.state ≡ Walking place cells root at walk) (ready : Ready op v)
    (walked : Walked walk v answer walk' w) where
  h : IsReading op place cells root at walk v
  h = subst (λ s. StateIsReady s op v) state ready.state

  same_settings : w.settings ≡ v.settings
  same_settings = walked.visits.later.settings

  same_pin : w.pin ≡ v.pin
  same_pin = walked.visits.same.work.apart.pin

  pub still_pinned : Pinned at w
  still_pinned = pinned_keeps at v w same_settings same_pin walked.visits.later.grows h.holds

  same_dists : dists_of op w ≡ dists_of op v
  same_dists = rw same_settings refl

  same_cells : pinned_cells w ≡ pinned_cells v
  same_cells = rw (same_settings, same_pin) refl

  front_same : offered_of op w (take place (pinned_cells w)) ≡ offered_of op v (take place (pinned_cells v))
  front_same = rw (same_settings, same_pin) refl

  leaf_now : IsOpened (dists_of op w) op.radius w.settings.levels (pinned_cells w) place walk.range
  leaf_now = rw (same_settings, same_pin) h.opened

  counted_now : cells ≡ count_by (passes (dists_of op w) op.radius) (take place (pinned_cells w))
  counted_now = rw (same_settings, same_pin) h.counted

  pub place_within : place < length (pinned_cells w)
  place_within = slice_get_within (pinned_cells w) place leaf_now.leaf leaf_now.stands

  pub few_places : length (pinned_cells w) < 4294967295
  few_places = few_cells w.settings still_pinned.limits (pinned w) still_pinned.legal

  pub few_counted : cells ≤ place
  few_counted = omega (arith, counted_now, count_by-le-length (passes (dists_of op w) op.radius) (take place (pinned_cells w)), length-take {A = Leaf} place (pinned_cells w))

  -- what the work has of the distances
  pub work_dists : (k r new : RangeWorkState) → op.work ≡ Some k → r ≡ record k { spare = r.spare } → (m : MetricSpace) (steps new_steps : ℕ) → SiftsOn m op.query r steps (so_far walk v) new new_steps (so_far_after answer walk' w)
      → (new.dists ≡ dists_of op w) × (new.radius ≡ op.radius)
  work_dists k r new is room m steps new_steps s =
      let some : Some h.kept ≡ Some k = sym h.work_is ∙ is in
      let same : h.kept ≡ k = cc in
      let t = h.gathered.takes in (
        s.takes.same_dists ∙ ap (λ (x : RangeWorkState). x.dists) room ∙ ap (λ (x : RangeWorkState). x.dists) (sym same) ∙ t.same_dists ∙ sym same_dists,
        s.takes.same_radius ∙ ap (λ (x : RangeWorkState). x.radius) room ∙ ap (λ (x : RangeWorkState). x.radius) (sym same) ∙ t.same_radius,
      )

  module _ (m : MetricSpace) (space : m ≡ metric_space v.settings) (k r new : RangeWorkState) (is : op.work ≡ Some k) (room : r ≡ record k { spare = r.spare })
      (steps new_steps : ℕ) (s : SiftsOn m op.query r steps (so_far walk v) new new_steps (so_far_after answer walk' w)) where
    abbrev front : List Offering
    front = offered_of op v (take place (pinned_cells v))

    before : Gathered m op.query (dists_of op v) op.radius (front ++ so_far walk v) r
    before =
        let some : Some h.kept ≡ Some k = sym h.work_is ∙ is in
        let same : h.kept ≡ k = cc in
        let g = subst (λ (x : RangeWorkState). Gathered (metric_space v.settings) op.query (dists_of op v) op.radius (front ++ so_far walk v) x) same h.gathered in
        roomy m op.query (dists_of op v) op.radius (front ++ so_far walk v) k r room (subst (λ (x : MetricSpace). Gathered x op.query (dists_of op v) op.radius (front ++ so_far walk v) k) (sym space) g)

    few : length (front ++ so_far_after answer walk' w) < 2 ^ 60
    few = subst (λ (os : List Offering). length (os ++ so_far_after answer walk' w) < 2 ^ 60) front_same (few_offered op at place answer walk' w still_pinned)

    dims : length (dists_of op v) ≤ 32
    dims = omega (arith, long op.query v, h.holds.limits.few_pivots)

    after : Gathered (metric_space w.settings) op.query (dists_of op w) op.radius (offered_of op w (take place (pinned_cells w)) ++ so_far_after answer walk' w) new
    after =
        let g = gathers m op.query (dists_of op v) op.radius front (so_far walk v) (so_far_after answer walk' w) r new steps new_steps before s few dims in
        let there : m ≡ metric_space w.settings = space ∙ ap metric_space (sym same_settings) in
        subst (λ (os : List Offering). Gathered (metric_space w.settings) op.query (dists_of op w) op.radius (os ++ so_far_after answer walk' w) new) (sym front_same)
        (subst (λ (ds : List ℕ). Gathered (metric_space w.settings) op.query ds op.radius (front ++ so_far_after answer walk' w) new) (sym same_dists)
        (subst (λ (x : MetricSpace). Gathered x op.query (dists_of op v) op.radius (front ++ so_far_after answer walk' w) new) there g))

    pub section_ticks : new_steps + computed op.work ≡ steps + new.distances
    section_ticks =
        let t = ticked m op.query (dists_of op v) op.radius front (so_far walk v) (so_far_after answer walk' w) r new steps new_steps before s few dims in
        let same : r.distances ≡ k.distances = ap (λ (x : RangeWorkState). x.distances) room in
        rw is (omega (arith, t, same))

    pub visited : (state' : RangeState) → Rattle.mi_range.specs.Querying.FollowsVisit op place cells root at answer walk' state' w → StateIsReady state' (with_state op state' (Some new)) w
        → since_at state' w ≡ events_at at → left_at state' w < left_at (Walking place cells root at walk) v → Turned op v turn.More (with_state op state' (Some new)) w
    visited state' follows x from less = record {
      radius_is = refl;
      query_is = refl;
      later = walked.visits.later;
      same = walk_same v w walked.visits.same;
      makes = rw state (inl (record { answer = answer; walk_after = walk'; walked = walked; follows = follows }));
      outcome = (record { small = ready.small; fits = rw same_settings ready.fits; state = x }, rw (state, from) (omega arith), rw state less);
    }

-- the walk goes on
module _ (op : RangeOp) (v w : View) (place cells root : ℕ) (at : Position) (walk walk' : Walk) (state : op.state ≡ Walking place cells root at walk) (ready : Ready op v)
    (m : MetricSpace) (space : m ≡ metric_space v.settings) (k r new : RangeWorkState) (is : op.work ≡ Some k) (room : r ≡ record k { spare = r.spare })
    (steps new_steps : ℕ) where
  pub walks_on : (walked : Walked walk v turns.More walk' w) → SiftsOn m op.query r steps (so_far walk v) new new_steps (so_far walk' w)
      → Turned op v turn.More (with_state op (Walking place cells root at walk') (Some new)) w
  walks_on walked s =
      let o = leaf_now op v w place cells root at walk walk' turns.More state ready walked in
      visited op v w place cells root at walk walk' turns.More state ready walked m space k r new is room steps new_steps s (Walking place cells root at walk') refl (record {
        holds = still_pinned op v w place cells root at walk walk' turns.More state ready walked;
        root_is = root_keeps v w root walked.visits.later (h op v w place cells root at walk walk' turns.More state ready walked).root_is;
        walk_ready = walked.goes_on.0;
        opened = subst (λ (i : Interval). IsOpened (dists_of op w) op.radius w.settings.levels (pinned_cells w) place i) (sym walked.range) o;
        counted = counted_now op v w place cells root at walk walk' turns.More state ready walked;
        kept = new;
        work_is = refl;
        gathered = after op v w place cells root at walk walk' turns.More state ready walked m space k r new is room steps new_steps s;
      }) refl (omega (arith, walked.goes_on.1, ap (λ (ls : List Leaf). (length ls - place) * (longest + 1)) (same_cells op v w place cells root at walk walk' turns.More state ready walked)))

  -- the leaf is done with
  pub walks_done : (walked : Walked walk v turns.Done walk' w) → SiftsOn m op.query r steps (so_far walk v) new new_steps (whole walk' w)
      → (state' : RangeState) → OpensFrom op w (place + 1) (cells + 1) root at state' → Turned op v turn.More (with_state op state' (Some new)) w
  walks_done walked s state' g =
      let dq = dists_of op w in
      let made = with_state op state' (Some new) in
      let ls = pinned_cells w in
      let o = leaf_now op v w place cells root at walk walk' turns.Done state ready walked in
      let xs = shown w.settings (pinned w) in
      let holds = still_pinned op v w place cells root at walk walk' turns.Done state ready walked in
      let is_root = root_keeps v w root walked.visits.later (h op v w place cells root at walk walk' turns.Done state ready walked).root_is in
      let inside = place_within op v w place cells root at walk walk' turns.Done state ready walked in
      let counted : cells + 1 ≡ count_by (passes dq op.radius) (take (place + 1) ls) =
      omega (arith, counted_more (passes dq op.radius) ls place o.leaf o.stands true o.passing, counted_now op v w place cells root at walk walk' turns.Done state ready walked) in
      let these : whole walk' w ≡ Rattle.mi_range.specs.Opening.leaf_offered dq op.radius w.settings.levels xs o.leaf =
      ap (λ (i : Interval). Rattle.mi_key.specs.Shown.offerings (Rattle.mi_key.specs.Shown.within i xs)) walked.range ∙ span_offered dq op.radius w.settings.levels xs o.leaf walk.range o.passing o.has in
      let all : offered_of op w (take place ls) ++ whole walk' w ≡ offered_of op w (take (place + 1) ls) =
      ap (λ (os : List Offering). offered_of op w (take place ls) ++ os) these ∙ sym (leaves_more dq op.radius w.settings.levels xs ls place o.leaf o.stands) in
      let gathered = subst (λ (os : List Offering). Gathered (metric_space w.settings) op.query dq op.radius os new) all (after op v w place cells root at walk walk' turns.Done state ready walked m space k r new is room steps new_steps s) in
      let within : place + 1 ≤ length ls = omega (arith, inside) in
      let less = goes_left made (place + 1) (cells + 1) root at w holds is_root within counted new refl gathered state' g in
      let same = ap (λ (x : List Leaf). (length x - place) * (longest + 1)) (same_cells op v w place cells root at walk walk' turns.Done state ready walked) in
      visited op v w place cells root at walk walk' turns.Done state ready walked m space k r new is room steps new_steps s state' g
      (goes made (place + 1) (cells + 1) root at w holds is_root within counted new refl gathered state' g)
      (goes_since made (place + 1) (cells + 1) root at w holds is_root within counted new refl gathered state' g)
      (omega (arith, less, same, times (length ls - place) (length ls - (place + 1)) (longest + 1) (omega (arith, inside))))

-- the unpin

module _ (op : RangeOp) (v w : View) (cells : ℕ) (at : Position) (state : op.state ≡ Ending cells at) (ready : Ready op v) (metric : IsMetric (metric_space v.settings)) (u : Unpins v w)
    (kept : RangeWorkState) (is : op.work ≡ Some kept) where
  at_end : HasRead op cells at v
  at_end = subst (λ s. StateIsReady s op v) state ready.state

  gathered_all : Gathered (metric_space v.settings) op.query (dists_of op v) op.radius (offered_of op v (pinned_cells v)) kept
  gathered_all =
      let some : Some at_end.kept ≡ Some kept = sym at_end.work_is ∙ is in
      let same : at_end.kept ≡ kept = cc in
      subst (λ (k : RangeWorkState). Gathered (metric_space v.settings) op.query (dists_of op v) op.radius (offered_of op v (pinned_cells v)) k) same at_end.gathered

  scanned : HasScan v.settings (pinned v) op.query op.radius 0 kept (compared_count (dists_of op v) op.radius (offered_of op v (pinned_cells v)))
  scanned =
      let c = v.settings in
      let p = at_end.holds in
      has_scan c p.limits (pinned v) p.legal op.query op.radius (shown c (pinned v)) (shows_live c p.limits metric (pinned v) p.legal) metric ready.fits (first_of (dists_of op v) op.radius) kept 0
      (compared_count (dists_of op v) op.radius (offered_of op v (pinned_cells v))) (record { dists_are = refl; radius_is = refl; rows_are = refl; distances_are = refl }) gathered_all.takes

  right_now : (allotted number : ℕ) → Right w.settings w.seen allotted w.actor number (Range op.radius op.query) (reply.Range at (sorted row_cmp kept.rows) cells kept.distances)
  right_now allotted number =
      let h = at_end.holds in
      let there = range_at_end v.settings (pinned v) op.radius op.query at (sorted row_cmp kept.rows) cells kept.distances h.at_is scanned.rows_are at_end.counted scanned.distances_are in
      let grows = grows_on (pinned v) v.seen w.seen h.seen u.later.grows in
      let few : length (updates_of (pinned v ++ grows.by)) ≤ v.settings.updates = rw (← grows.is, ← u.later.settings) u.board.legal.few in
      rw (u.later.settings, grows.is)
      (right_grows v.settings (pinned v) grows.by allotted w.actor number (Range op.radius op.query) (reply.Range at (sorted row_cmp kept.rows) cells kept.distances) (full_stays v.settings (pinned v) grows.by few) there)

  pub ends : (work : Option RangeWorkState) → Turned op v (turn.Done (reply.Range at (sorted row_cmp kept.rows) cells kept.distances)) (with_state op Over work) w
  ends work = record {
    radius_is = refl;
    query_is = refl;
    later = u.later;
    same = record { update = u.update; leaf = u.leaf; sweep = u.sweep; split = u.split; flags = u.flags; actors = u.actors; fresh = u.fresh; owes = u.owes };
    makes = rw state (u, refl);
    outcome = (refl, u.pin, rw (state, is) (refl, refl, refl), right_now, rw state (omega arith));
  }
