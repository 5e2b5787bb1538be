-- Queries while others act, and how many sections they have.
use Rattle.std.proofs.Common.{◌≡◌, ℕ, ◌+◌, ◌-◌, ◌*◌, ◌<◌, ◌≤◌, ◌^◌, List, length, refl, sym, subst, arith}
use Rattle.std.proofs.Math.Nat.{mul-le-mul_right}
use Rattle.mi_base.specs.Configuration.{metric_space}
use Rattle.mi_blink.specs.Descents.{longest}
use Rattle.mi_blink.proofs.DescentLemmas.{descent_longest, root_keeps}
use Rattle.mi_blink.proofs.OthersLemmas.{so_far_stays, walk_stays}
use Rattle.mi_key.specs.Entries.{Offering}
use Rattle.mi_nearest.specs.declared.nearest.NearestOp.{NearestOp}
use Rattle.mi_nearest.specs.declared.nearest.NearestState.{NearestState}
use Rattle.mi_nearest.specs.declared.nearest.NearestState.TheVariants.{Begin, Walking, Ending, Refusing, Over}
use Rattle.mi_nearest.specs.declared.order.Rank.{Rank}
use Rattle.mi_nearest.specs.Nearing.{TakesNearest}
use Rattle.mi_nearest.specs.Querying.{Ready, Since, StateIsReady, least_at, left, left_at, most, most_at, ranks_of, since_at}
use Rattle.mi_nearest.proofs.NextLemmas.{opened_keeps}
use Rattle.mi_tree.proofs.GrowingLemmas.{grows_length}
use Rattle.mi_tree.proofs.LimitLemmas.{few_cells}
use Rattle.mi_world.specs.Pages.{pinned}
use Rattle.mi_world.specs.Queries.{pinned_cells}
use Rattle.mi_world.specs.View.{Others, View}
use Rattle.mi_world.proofs.QueryLemmas.{pinned_keeps, same_on, walk_same}
use Rattle.mi_world.proofs.ViewLemmas.{later_later}

module _ (v w : View) (o : Others v w) where
  same_settings : w.settings ≡ v.settings
  same_settings = o.later.settings

  same_pin : w.pin ≡ v.pin
  same_pin = o.same.work.apart.pin

  state_stays : (s : NearestState) (op : NearestOp) → StateIsReady s op v → StateIsReady s op w
  state_stays Begin op h = rw same_pin h
  state_stays (Walking opened root at walk) op h = record {
    holds = pinned_keeps at v w same_settings same_pin o.later.grows h.holds;
    root_is = root_keeps v w root o.later h.root_is;
    walk_ready = walk_stays walk v w o h.walk_ready;
    kept = h.kept;
    found_is = h.found_is;
    before = h.before;
    done = opened_keeps op opened h.kept.ranks.items h.before v w same_settings same_pin h.done;
    rank = h.rank;
    rank_is = h.rank_is;
    goes_on = h.goes_on;
    opens = rw (same_settings, same_pin) h.opens;
    takes = subst (λ (os : List Offering). TakesNearest (metric_space w.settings) op.query h.before 0 os h.kept.work (length os)) (sym (so_far_stays walk v w o h.walk_ready)) (rw same_settings h.takes);
  }
  state_stays (Ending cells at) op h = record {
    holds = pinned_keeps at v w same_settings same_pin o.later.grows h.holds;
    kept = h.kept;
    found_is = h.found_is;
    done = opened_keeps op cells h.kept.ranks.items h.kept.work v w same_settings same_pin h.done;
    stops = h.stops;
  }
  state_stays Refusing op h = rw same_pin h
  state_stays Over op h = h

  most_stays : (s : NearestState) (op : NearestOp) (ranks : List Rank) → StateIsReady s op v → most_at s ranks w ≡ most_at s ranks v
  most_stays Begin op ranks h = refl
  most_stays (Walking opened root at walk) op ranks h = rw (so_far_stays walk v w o h.walk_ready, same_settings, same_pin) refl
  most_stays (Ending cells at) op ranks h = rw (same_settings, same_pin) refl
  most_stays Refusing op ranks h = rw same_settings refl
  most_stays Over op ranks h = rw same_settings refl

  least_stays : (s : NearestState) → least_at s w ≡ least_at s v
  least_stays Begin = refl
  least_stays (Walking opened root at walk) = rw same_settings refl
  least_stays (Ending cells at) = rw same_settings refl
  least_stays Refusing = rw same_settings refl
  least_stays Over = rw same_settings refl

pub ready_stays : (op : NearestOp) (v w : View) → Others v w → Ready op v → Ready op w
ready_stays op v w o r = record { some = r.some; few = r.few; fits = rw o.later.settings r.fits; state = state_stays v w o op.state op r.state }

pub spent_stays : (op : NearestOp) (v w : View) → Others v w → Ready op v → (most op w ≡ most op v) × (least_at op.state w ≡ least_at op.state v)
spent_stays op v w o r = (most_stays v w o op.state op (ranks_of op.found) r.state, least_stays v w o op.state)

since_rises : (v w : View) → Others v w → (s : NearestState) → since_at s v ≤ since_at s w
since_rises v w o Begin = grows_length v.seen w.seen o.later.grows
since_rises v w o (Walking opened root at walk) = omega arith
since_rises v w o (Ending cells at) = omega arith
since_rises v w o Refusing = grows_length v.seen w.seen o.later.grows
since_rises v w o Over = grows_length v.seen w.seen o.later.grows

pub since_stays : (first : View) (begun : ℕ) (op : NearestOp) (v w : View) (k : ℕ) → Others v w → Ready op v → Since first begun op v k → Since first begun op w k
since_stays first begun op v w k o r s =
    let spent = spent_stays op v w o r in
    record {
      later = later_later first v w s.later o.later;
      same = same_on first v w s.same (walk_same v w o.same);
      reaches = omega (arith, s.reaches, since_rises v w o op.state);
      least = omega (arith, s.least, spent.1);
      ticked = omega (arith, s.ticked, spent.0);
    }

few_left : (s : NearestState) (op : NearestOp) (v : View) → StateIsReady s op v → left_at s v < 2 ^ 32 * (longest + 1) + 4
few_left Begin op v h = omega arith
few_left (Walking opened root at walk) op v h =
    let few = few_cells v.settings h.holds.limits (pinned v) h.holds.legal in
    let most : (length (pinned_cells v) - opened + 1) * (longest + 1) ≤ 4294967296 * (longest + 1) = mul-le-mul_right (longest + 1) (omega (arith, few)) in
    omega (arith, most, descent_longest v walk.descent.page)
few_left (Ending cells at) op v h = omega arith
few_left Refusing op v h = omega arith
few_left Over op v h = omega arith

pub few_sections : (op : NearestOp) (v : View) → Ready op v → left op v < 2 ^ 32 * (longest + 1) + 4
few_sections op v r = few_left op.state op v r.state
