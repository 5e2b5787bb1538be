use Rattle.std.proofs.Common.{◌≡◌, ◌<◌, ℕ, false}
use Rattle.mi_replay.specs.Outcomes.{SameButSeen}
use Rattle.mi_solo.specs.States.{actor_in}
use Rattle.mi_replay.proofs.outcomes.lacks_page.Given as goal

abbrev pub invariant-loop-actor : goal.invariant-loop-actor
invariant-loop-actor l = record {
  same : SameButSeen l.fn.solo.state l.solo.state;
  none : (a : ℕ) → a < l.actor → (actor_in l.fn.solo.state a).lacked ≡ false;
}
