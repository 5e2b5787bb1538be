-- What an outcome of scripts tells, whoever ran them and in whatever order.
use Rattle.std.specs.Prelude.{◌≡◌, ◌<◌, ◌≤◌, ◌*◌, false, List, length}
use Rattle.mi_base.specs.declared.records.Op.{Op}
use Rattle.mi_base.specs.Configuration.{Configuration}
use Rattle.mi_base.specs.History.{live, updates_of}
use Rattle.mi_legal.specs.Legal.{Legal}
use Rattle.mi_legal.specs.Want.{has_memory}
use Rattle.mi_tree.specs.declared.outcomes.Outcome.{Outcome}
use Rattle.mi_tree.specs.Legal.{Settled, cells_of}

-- THE HEADLINE. The outcome has one update history, which is a merge of the scripts' accepted updates, and each reply is right in a prefix of it that
-- has all that its session had seen. No more pages are allotted than there may be, and no page has more than 32 entries. Where it isn't short, no
-- answer is missing, each live object has its entry and there are no others, and no leaf is to be split while there are pages.
pub record Headline (c : Configuration) (scripts : List (List Op)) (o : Outcome) : Type 0 where
  pub legal : Legal c scripts o.replies o.log o.allotted
  pub cells_are : o.cells ≡ cells_of c o.log
  pub limit_is : o.limit ≡ c.pages
  pub allotted_within : o.allotted ≤ c.pages
  pub entries_within : o.entries ≤ 32 * o.allotted
  pub answered : o.short ≡ false → has_memory o.replies ≡ false
  pub no_fewer : length (live (updates_of o.log)) ≤ o.entries
  pub whole : o.short ≡ false → o.entries ≡ length (live (updates_of o.log))
  pub settled : o.short ≡ false → o.allotted < c.pages → Settled c o.log
