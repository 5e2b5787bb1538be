-- A sound state: its pages, entries, records and log fit together.
use Rattle.std.specs.Prelude.{◌≡◌, ◌<◌, ℕ, List, length, Some, slice_get}
use Rattle.std.specs.List.{AllByRecursion}
use Rattle.mi_base.specs.Configuration.{IsWithinLimits, metric_space}
use Rattle.mi_base.specs.History.{Entered, entered, events_at}
use Rattle.mi_base.specs.Space.{IsMetric}
use Rattle.mi_tree.specs.Births.{splits_in}
use Rattle.mi_tree.specs.Legal.{LegalLog}
use Rattle.mi_core.specs.Actors.{Suits}
use Rattle.mi_core.specs.Claims.{last_of, AreRetired, ClaimAlone, HasHolder, SweepAlone}
use Rattle.mi_board.specs.Boards.{floor_of}
use Rattle.mi_entries.specs.Records.{HasRecords, shard_at}
use Rattle.mi_forest.specs.Forests.{all_entries}
use Rattle.mi_core.specs.Pages.{ArePages, forest_of}
use Rattle.mi_entries.specs.Splits.{AreEntries}
use Rattle.mi_core.specs.State.{State}
use Rattle.mi_entries.specs.Actors.{Actor}

-- what holds of the parts of a state together
pub record Sound (s : State) : Type 0 where
  -- the settings are within their limits, and their space is a metric one
  pub limits : IsWithinLimits s.board.settings
  pub metric : IsMetric (metric_space s.board.settings)
  -- the chain of each level; ranges, right siblings, routes and their children, at most 32 in order in each page; which pages are allotted
  pub chain : ℕ → List ℕ
  pub pages : ArePages s.board s.pages s.actors chain
  -- entries are born of the log, and lie in leaves, in retired leaves or with a split's copies; each position from the floor on is shown; splits stand
  pub entries : AreEntries s.board.settings s.board.log (events_at (floor_of s.board)) s.actors s.board.retired (all_entries (forest_of s.board s.pages s.actors chain))
  -- each actor has seen a part of the log, has its floor, pin, claims, own updates and fresh page
  pub each : (a : ℕ) (r : Actor) → slice_get s.actors a ≡ Some r → Suits s.board s.shards s.pages a r
  -- the retired leaves are the last that were split in the log, in their order, each once, and nobody sweeps them
  pub retired : AreRetired s.board.log s.actors s.board.retired
  pub order : s.board.retired ≡ last_of (length s.board.retired) (splits_in s.board.log)
  -- a shard, a leaf and a sweep have one holder
  pub sixteen : length s.shards ≡ 16
  pub holders : (k a : ℕ) → (shard_at s.shards k).holder ≡ Some a → HasHolder s.actors k a
  pub claims : ClaimAlone s.actors
  pub sweeps : SweepAlone s.actors
  -- the shards have the records of the live objects
  pub records : (k id : ℕ) → k < 16 → HasRecords s.board.settings s.board.log s.shards k id
  -- each update names an actor, and actors are numbered from 0 on
  pub counted : length s.board.actors ≡ length s.actors
  pub made : AllByRecursion (λ (e : Entered). e.session < length s.actors) (entered s.board.log)
  -- the log is legal
  pub legal : LegalLog s.board.settings s.board.log
