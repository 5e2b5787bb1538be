-- What can be read back from the text of a call.
use Rattle.std.specs.Prelude.{◌≡◌, ◌≤◌, ℕ, List, length, Bool}
use Rattle.std.specs.List.{AllByRecursion}
use Rattle.mi_base.specs.declared.limits.TheConstants.{MAX_SESSIONS}
use Rattle.mi_base.specs.declared.records.Op.{Op}
use Rattle.mi_base.specs.Configuration.{Configuration, IsWithinLimits, metric_space}
use Rattle.mi_base.specs.Scripts.{IsScriptOver}
use Rattle.mi_base.specs.Space.{IsMetric}
use Rattle.mi_call.specs.Calls.{IsTranscript}

-- settings and scripts within their limits, under a metric
pub record AreLimited (c : Configuration) (scripts : List (List Op)) : Type 0 where
  pub limits : IsWithinLimits c
  pub metric : IsMetric (metric_space c)
  pub few : length scripts ≤ MAX_SESSIONS
  pub scripts_are : AllByRecursion (IsScriptOver (metric_space c)) scripts

-- one text has one history: where two runs have the same text, they have the same log and the same replies, whichever commands ran them
abbrev pub OneHistory : Type 0
OneHistory =
    (c d : Configuration) (scripts others : List (List Op)) (s t : Bool) (text : List ℕ) → AreLimited c scripts → AreLimited d others
    → (x : IsTranscript c scripts s text) (y : IsTranscript d others t text) → (x.outcome.log ≡ y.outcome.log) × (x.outcome.replies ≡ y.outcome.replies)
