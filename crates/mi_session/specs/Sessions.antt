-- What a session has, and what an operation of it leaves.
use Rattle.std.specs.Prelude.{◌≡◌, ℕ, List, ℤ, length}
use Rattle.mi_base.specs.declared.records.Op.{Op}
use Rattle.mi_base.specs.declared.records.Reply.{Reply}
use Rattle.mi_base.specs.Configuration.{IsWithinLimits, metric_space}
use Rattle.mi_base.specs.Space.{MetricSpace}
use Rattle.mi_job.specs.Claims.{ClaimsNone}
use Rattle.mi_job.specs.Jobs.{Ended}
use Rattle.mi_world.specs.View.{Later, SameActors, View}

-- a world, and how many operations were made on it
pub record Sitting (W : Type 0) : Type 0 where
  pub world : W
  pub operations : ℕ

-- Between two operations an actor claims nothing. Its settings are within their limits, and the metric and the pivots are theirs.
pub record IsSeated (space : MetricSpace) (pivots : List (List ℤ)) (v : View) : Type 0 where
  pub space_is : space ≡ metric_space v.settings
  pub pivots_are : pivots ≡ v.settings.pivots
  pub limits : IsWithinLimits v.settings
  pub claims : ClaimsNone v

-- One operation from its first section to its last: the reply is right in the log then seen, its position has all that was seen before, the
-- actor's own updates are those of before and what the reply accepts, nothing is claimed, and what was seen stays seen.
pub record Answers (o : Op) (number : ℕ) (v : View) (y : Reply) (w : View) : Type 0 where
  pub ended : Ended o number v.own (length v.seen) v.owes v.early w y
  pub later : Later v w
  pub actors : SameActors v w
