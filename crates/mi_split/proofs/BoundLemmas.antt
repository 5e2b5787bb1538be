-- Splits and sweeps have a bound.
use Rattle.std.proofs.Common.{ℕ, ◌+◌, ◌<◌, ◌≤◌, Bool, true, false, cond, Option, None, Some, arith}
use Rattle.mi_world.specs.View.{View}
use Rattle.mi_blink.specs.declared.post.Post.{Post}
use Rattle.mi_blink.specs.Descents.{longest, post_most}
use Rattle.mi_blink.proofs.DescentLemmas.{descent_longest}
use Rattle.mi_blink.proofs.TurnLemmas.{left_most}
use Rattle.mi_split.specs.declared.split.SplitOp.{SplitOp}
use Rattle.mi_split.specs.declared.split.SplitState.{SplitState}
use Rattle.mi_split.specs.declared.split.SplitState.TheVariants.{Looking, Gathering, Copying, Allotting, Halving, Posting, Publishing, Undoing, GivingUp, Published, GivenUp}
use Rattle.mi_split.specs.declared.sweep.SweepOp.{SweepOp}
use Rattle.mi_split.specs.declared.sweep.SweepState.{SweepState}
use Rattle.mi_split.specs.declared.sweep.SweepState.TheVariants as sweep
use Rattle.mi_split.specs.Splitting.{Ready, StateIsReady, PostIsReady, left_in, left, post_left, copy_most, split_most}
use Rattle.mi_split.specs.Sweeping as sweeping
use Rattle.mi_split.proofs.SplitLemmas.{copy_small, undo_small}

two : (b : Bool) → cond b 0 2 ≤ 2
two true = omega arith
two false = omega arith

post_small : (post : Option Post) (v : View) → PostIsReady post v → post_left post v < post_most
post_small None v h = absurd h
post_small (Some p) v h = left_most p v h

base_small : copy_most + longest + post_most + 2 ≤ split_most
unfolding split_most
base_small = omega arith

phase_small : (s : SplitState) (root : ℕ) (post : Option Post) (v : View) → StateIsReady s root post v → left_in s post v < split_most
phase_small Looking root post v h = omega (arith, base_small)
phase_small (Gathering p) root post v h = omega (arith, base_small, descent_longest v p)
phase_small (Copying p) root post v h = omega (arith, base_small, copy_small v p h.0.more h.0.few)
phase_small (Allotting p) root post v h = omega (arith, base_small, copy_small v p h.0.more h.0.few)
phase_small (Halving p) root post v h = omega (arith, base_small, copy_small v p h.0.more h.0.few, two (v.full p))
phase_small (Posting p) root post v h = omega (arith, base_small, copy_small v p h.0.more h.0.few, post_small post v h.2)
phase_small Publishing root post v h = omega (arith, base_small)
phase_small (Undoing p why) root post v h = omega (arith, base_small, undo_small v p h.0.some h.0.few)
phase_small (GivingUp why) root post v h = omega (arith, base_small)
phase_small Published root post v h = absurd h
phase_small (GivenUp why) root post v h = absurd h

pub split_small : (op : SplitOp) (v : View) → Ready op v → left op v < split_most
split_small op v r = phase_small op.state op.root op.post v r.state

state_small : (s : SweepState) (v : View) → sweeping.left_in s v ≤ longest + 1
state_small sweep.Looking v = omega arith
state_small (sweep.Sweeping p) v = omega (arith, descent_longest v p)
state_small sweep.Over v = omega arith

pub sweep_small : (op : SweepOp) (v : View) → sweeping.left op v ≤ longest + 1
sweep_small op v = state_small op.state v
