-- A call that makes a workload: its words, and what it may answer.
use Rattle.std.specs.Prelude.{◌≡◌, ℕ, ◌-◌, ◌^◌, List, [], ◌∷◌, bytes_eq, codes, Option, Some, None, Result, Ok, Err, ◌⊎◌, if◌then◌else◌}
use Rattle.mi_input.specs.declared.faults.Reason.{Reason}
use Rattle.mi_input.specs.Numbers.{count_in}
use Rattle.mi_make.specs.declared.workload.Workload.{Workload}
use Rattle.mi_make.specs.Workloads.{IsMade}
use Rattle.mi_outside.specs.Outside.{Rose}
use Rattle.mi_outside.specs.States.{SinkState}
use Rattle.mi_print.specs.Summary.{summary}
use Rattle.mi_replay.specs.Outcomes.{Played}
use Rattle.mi_tree.specs.declared.outcomes.Outcome.{Outcome}
use Rattle.mi_call.specs.declared.statuses.Status.{Status}
use Rattle.mi_call.specs.declared.statuses.Status.TheVariants as status
use Rattle.mi_call.specs.Statuses.{status_number}
use Rattle.mi_call.specs.Calls.{Ends, IsRunNumber, IsWant, transcript_status, usage_line}

abbrev pub seed_told : Result ℕ Reason → Option ℕ
seed_told (Ok seed) = Some seed
seed_told (Err why) = None

-- the words of the form are the command and a number of 64 bits, written as the numbers in files are
abbrev pub seed_in : List (List ℕ) → Option ℕ
seed_in (command ∷ seed ∷ []) = if bytes_eq command (codes "make") then seed_told (count_in 0 (2 ^ 64 - 1) seed) else None
seed_in [] = None
seed_in (a ∷ []) = None
seed_in (a ∷ b ∷ d ∷ words) = None

-- an outcome of the workload of a seed
pub record IsOutcomeOf (seed : ℕ) (o : Outcome) : Type 0 where
  pub workload : Workload
  pub made : IsMade seed workload
  pub played : Played workload.settings workload.scripts workload.schedule o

-- the text is the summary of such an outcome, and the status tells whether it is short
pub record IsSummary (seed : ℕ) (said : Status) (text : List ℕ) : Type 0 where
  pub outcome : Outcome
  pub is_outcome : IsOutcomeOf seed outcome
  pub said_is : said ≡ transcript_status outcome.short
  pub text_is : text ≡ summary seed outcome

-- what a call says, whichever words it is given
abbrev pub MakeSays : Option ℕ → Status → List ℕ → Type 0
MakeSays None said text = (said ≡ status.Usage) × (text ≡ usage_line)
MakeSays (Some seed) said text = IsSummary seed said text ⊎ IsWant said text

-- a call says something, of what it may say, and sends it
pub record Made (seed : Option ℕ) (old new : SinkState) (ended : Status) : Type 0 where
  pub said : Status
  pub text : List ℕ
  pub says : MakeSays seed said text
  pub ends : Ends said text old new ended

-- a call answers the number of the status that it ends with
pub record MakeAnswered (seed : Option ℕ) (old new : SinkState) (number : ℕ) : Type 0 where
  pub ended : Status
  pub number_is : number ≡ status_number ended
  pub made : Made seed old new ended

-- Where the words have the form and no fault was counted, the workload was replayed, unless memory was wanted.
abbrev pub MakeCompletes : Option ℕ → SinkState → SinkState → ℕ → Type 0
MakeCompletes None old new number = Unit {0}
MakeCompletes (Some seed) old new number = ¬ Rose old.faults new.faults → IsRunNumber number
