-- Queries while others act, and how many sections they have.
use Rattle.std.proofs.Common.{◌≡◌, ◌+◌, ◌-◌, ◌*◌, ◌<◌, ◌≤◌, ◌^◌, length, arith}
use Rattle.std.proofs.Math.Nat.{mul-le-mul_right}
use Rattle.mi_blink.specs.Descents.{longest}
use Rattle.mi_blink.proofs.DescentLemmas.{descent_longest, root_keeps}
use Rattle.mi_blink.proofs.OthersLemmas.{so_far_stays, walk_stays}
use Rattle.mi_range.specs.declared.range.RangeOp.{RangeOp}
use Rattle.mi_range.specs.declared.range.RangeState.{RangeState}
use Rattle.mi_range.specs.declared.range.RangeState.TheVariants.{Begin, Walking, Ending, Over}
use Rattle.mi_range.specs.Querying.{Ready, StateIsReady, left, left_at}
use Rattle.mi_tree.proofs.LimitLemmas.{few_cells}
use Rattle.mi_world.specs.Pages.{pinned}
use Rattle.mi_world.specs.Queries.{pinned_cells}
use Rattle.mi_world.specs.View.{Others, View}
use Rattle.mi_world.proofs.QueryLemmas.{pinned_keeps}

module _ (v w : View) (o : Others v w) where
  same_settings : w.settings ≡ v.settings
  same_settings = o.later.settings

  same_pin : w.pin ≡ v.pin
  same_pin = o.same.work.apart.pin

  state_stays : (s : RangeState) (op : RangeOp) → StateIsReady s op v → StateIsReady s op w
  state_stays Begin op h = rw same_pin h
  state_stays (Walking place cells root at walk) op h = record {
    holds = pinned_keeps at v w same_settings same_pin o.later.grows h.holds;
    root_is = root_keeps v w root o.later h.root_is;
    walk_ready = walk_stays walk v w o h.walk_ready;
    opened = rw (same_settings, same_pin) h.opened;
    counted = rw (same_settings, same_pin) h.counted;
    kept = h.kept;
    work_is = h.work_is;
    gathered = rw (so_far_stays walk v w o h.walk_ready, same_settings, same_pin) h.gathered;
  }
  state_stays (Ending cells at) op h = record {
    holds = pinned_keeps at v w same_settings same_pin o.later.grows h.holds;
    counted = rw (same_settings, same_pin) h.counted;
    kept = h.kept;
    work_is = h.work_is;
    gathered = rw (same_settings, same_pin) h.gathered;
  }
  state_stays Over op h = h

pub ready_stays : (op : RangeOp) (v w : View) → Others v w → Ready op v → Ready op w
ready_stays op v w o r = record { small = r.small; fits = rw o.later.settings r.fits; state = state_stays v w o op.state op r.state }

few_left : (s : RangeState) (op : RangeOp) (v : View) → StateIsReady s op v → left_at s v < 2 ^ 32 * (longest + 1) + 4
few_left Begin op v h = omega arith
few_left (Walking place cells root at walk) op v h =
    let few = few_cells v.settings h.holds.limits (pinned v) h.holds.legal in
    let most : (length (pinned_cells v) - place + 1) * (longest + 1) ≤ 4294967296 * (longest + 1) = mul-le-mul_right (longest + 1) (omega (arith, few)) in
    omega (arith, most, descent_longest v walk.descent.page)
few_left (Ending cells at) op v h = omega arith
few_left Over op v h = omega arith

pub few_sections : (op : RangeOp) (v : View) → Ready op v → left op v < 2 ^ 32 * (longest + 1) + 4
few_sections op v r = few_left op.state op v r.state
