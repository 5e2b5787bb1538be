-- What is told of a core beside replies.
use Rattle.std.specs.Prelude.{◌≡◌, ◌||◌, ℕ, Bool, List}
use Rattle.mi_base.specs.declared.records.Reply.{Reply}
use Rattle.mi_base.specs.Configuration.{Configuration}
use Rattle.mi_core.specs.State.{State}
use Rattle.mi_legal.specs.Want.{has_memory}
use Rattle.mi_tree.specs.declared.outcomes.Outcome.{Outcome}
use Rattle.mi_tree.specs.Legal.{cells_of}
use Rattle.mi_settle.specs.Entries.{entry_count}

-- an outcome is what a state has
pub record IsOutcomeIn (c : Configuration) (o : Outcome) (s : State) : Type 0 where
  pub log_is : o.log ≡ s.board.log
  pub cells_are : o.cells ≡ cells_of c s.board.log
  pub entries_are : o.entries ≡ entry_count s
  pub allotted_is : o.allotted ≡ s.board.allotted

-- an outcome that tells of a core and of these replies; it is short where an answer is missing, or where more was wanted
pub record IsOutcomeOf (s : State) (replies : List (List Reply)) (more : Bool) (pages : ℕ) (o : Outcome) : Type 0 where
  pub core : IsOutcomeIn s.board.settings o s
  pub limit_is : o.limit ≡ pages
  pub replies_are : o.replies ≡ replies
  pub short_is : o.short ≡ (has_memory replies || more)
