-- Which sections want a page, and which operations end for want of pages.
use Rattle.std.specs.Prelude.{◌≡◌, ℕ, Option, Some, None, Bool, true, false, is_some}
use Rattle.mi_base.specs.declared.records.Reply.{Reply}
use Rattle.mi_base.specs.declared.records.Reply.TheVariants as reply
use Rattle.mi_world.specs.View.{View}
use Rattle.mi_split.specs.declared.split.SplitOp.{SplitOp}
use Rattle.mi_split.specs.declared.split.SplitState.{SplitState}
use Rattle.mi_split.specs.declared.split.SplitState.TheVariants as split
use Rattle.mi_split.specs.Splitting.{for_pages}
use Rattle.mi_update.specs.declared.endings.Ending.{Ending}
use Rattle.mi_update.specs.declared.endings.Ending.TheVariants as ending
use Rattle.mi_update.specs.declared.insert.InsertOp.{InsertOp}
use Rattle.mi_update.specs.declared.insert.InsertState.{InsertState}
use Rattle.mi_update.specs.declared.insert.InsertState.TheVariants.{Allotting, Unclaiming, Releasing, Over}
use Rattle.mi_update.specs.Inserting.{FindsFull}
use Rattle.mi_job.specs.declared.job.Operation.{Operation}
use Rattle.mi_job.specs.declared.job.Operation.TheVariants.{Insert}

-- the leaf page for whose halving a page is wanted next
abbrev pub insert_wants : InsertState → Option ℕ
insert_wants (Allotting page) = Some page
insert_wants state = None

abbrev pub split_wants : SplitState → Option ℕ
split_wants (split.Allotting page) = Some page
split_wants state = None

abbrev pub next_wants : InsertOp → Option SplitOp → Option ℕ
next_wants insert None = insert_wants insert.state
next_wants insert (Some s) = split_wants s.state

abbrev pub wants : Operation → Option ℕ
wants (Insert job) = next_wants job.insert job.split
wants operation = None

-- it is known that the operation ends for want of pages
abbrev pub ends_for_pages : Ending → Bool
ends_for_pages (ending.NoPages limit) = true
ends_for_pages e = false

abbrev pub insert_lacks : InsertState → Bool
insert_lacks (Unclaiming e) = ends_for_pages e
insert_lacks (Releasing e) = ends_for_pages e
insert_lacks (Over e) = ends_for_pages e
insert_lacks state = false

-- and so is of the split, whose copies are taken back first
abbrev pub split_lacks : SplitState → Bool
split_lacks (split.Undoing page why) = for_pages why
split_lacks (split.GivingUp why) = for_pages why
split_lacks (split.GivenUp why) = for_pages why
split_lacks state = false

abbrev pub next_lacks : InsertOp → Option SplitOp → Bool
next_lacks insert None = insert_lacks insert.state
next_lacks insert (Some s) = split_lacks s.state

abbrev pub lacks : Operation → Bool
lacks (Insert job) = next_lacks job.insert job.split
lacks operation = false

abbrev pub is_no_pages : Reply → Bool
is_no_pages (reply.NoPages limit) = true
is_no_pages y = false

-- the page was found full, and no page is in hand
pub record LacksRoom (w : View) (page : ℕ) : Type 0 where
  pub full : FindsFull w page
  pub none : is_some w.fresh ≡ false

-- the page that was wanted is refused, since all are allotted
pub record IsRefused (old : Operation) (w : View) : Type 0 where
  pub page : ℕ
  pub wanted : wants old ≡ Some page
  pub none : is_some w.fresh ≡ false
  pub all : w.allotted ≡ w.settings.pages
