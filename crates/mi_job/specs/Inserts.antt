-- An insert with the splits that it makes, between its sections, and what a section of it does.
use Rattle.std.specs.Prelude.{◌≡◌, ◌+◌, ◌*◌, ℕ, Option, Some, None, Bool, true, IsTrue}
use Rattle.mi_base.specs.Permutations.{begins}
use Rattle.mi_world.specs.View.{View, Later, SameActors}
use Rattle.mi_blink.specs.declared.turns.Turn.{Turn}
use Rattle.mi_blink.specs.declared.turns.Turn.TheVariants as turn
use Rattle.mi_blink.specs.Descents.{Falls}
use Rattle.mi_blink.specs.Posting.{OwesOnly}
use Rattle.mi_split.specs.declared.split.SplitOp.{SplitOp}
use Rattle.mi_split.specs.declared.split.SplitTurn.{SplitTurn}
use Rattle.mi_split.specs.declared.split.SplitTurn.TheVariants as divided
use Rattle.mi_split.specs.Splitting as splitting
use Rattle.mi_split.specs.Splitting.{split_most}
use Rattle.mi_update.specs.declared.endings.Ending.{Ending}
use Rattle.mi_update.specs.declared.endings.Ending.TheVariants as ending
use Rattle.mi_update.specs.declared.insert.InsertOp.{InsertOp}
use Rattle.mi_update.specs.declared.insert.InsertState.{InsertState}
use Rattle.mi_update.specs.declared.insert.InsertState.TheVariants.{Claiming, Unclaiming, Releasing, Over}
use Rattle.mi_update.specs.Endings.{reply_of}
use Rattle.mi_update.specs.Inserting as inserting
use Rattle.mi_update.specs.Inserting.{asked, made, number_in, perm_in, refusal_of, round, since_in, splits_left}
use Rattle.mi_update.specs.Stepping.{Advances, Finishes}
use Rattle.mi_job.specs.declared.inserts.InsertJob.{InsertJob}
use Rattle.mi_job.specs.declared.turns.JobTurn.{JobTurn}
use Rattle.mi_job.specs.declared.turns.JobTurn.TheVariants.{More, Held, Done}
use Rattle.mi_job.specs.Claims.{ClaimsNone, IsHeld}

-- the leaf of the insert, which waits, is being split
pub record Splits (insert : InsertOp) (split : SplitOp) (v : View) : Type 0 where
  pub waits : inserting.Waits insert v
  pub ready : splitting.Ready split v
  pub begun : begins split.leaf.prefix (perm_in insert) ≡ true

-- what the section needs that is next: one of the split while that is under way, else one of the insert
abbrev pub NextIsReady : InsertOp → Option SplitOp → View → Type 0
NextIsReady insert None v = inserting.Ready insert v
NextIsReady insert (Some split) v = Splits insert split v

-- what an insert with its splits needs of its actor between two sections
pub record Ready (job : InsertJob) (v : View) : Type 0 where
  pub next : NextIsReady job.insert job.split v
  pub pin : v.pin ≡ None

-- the routes that are still to be posted
abbrev pub pending : InsertOp → Option SplitOp → ℕ → Bool
pending insert None p = inserting.pending_in insert.state insert.post p
pending insert (Some split) p = splitting.pending_in split.state split.post p

-- the flag of copies taken back early stands as it stood, but where the insert ends for want of memory
abbrev pub EarlyUnless : Ending → Bool → View → Type 0
EarlyUnless ending.Memory early v = Unit {0}
EarlyUnless e early v = v.early ≡ early

abbrev pub EarlyAt : InsertState → Bool → View → Type 0
EarlyAt (Unclaiming e) early v = EarlyUnless e early v
EarlyAt (Releasing e) early v = EarlyUnless e early v
EarlyAt (Over e) early v = EarlyUnless e early v
EarlyAt state early v = v.early ≡ early

-- and while the leaf is being split, as the split has it
abbrev pub EarlyIs : InsertOp → Option SplitOp → Bool → View → Type 0
EarlyIs insert None early v = EarlyAt insert.state early v
EarlyIs insert (Some split) early v = splitting.EarlyIs split.state early v

-- How many sections are left while the budget stays, at most. A split under way is followed by a claim of the leaf's child at the deepest.
abbrev pub left_of : InsertOp → Option SplitOp → View → ℕ
left_of insert None v = inserting.left split_most insert v
left_of insert (Some split) v = splits_left insert v * round split_most + 3 + splitting.left split v

abbrev pub left : InsertJob → View → ℕ
left job v = left_of job.insert job.split v

-- what the answer of the insert makes of the job: a crowded leaf begins a split of it
abbrev pub Leads : Turn → JobTurn → Option SplitOp → Type 0
Leads turn.More answer split = (answer ≡ More) × (split ≡ None)
Leads turn.Held answer split = (answer ≡ Held) × (split ≡ None)
Leads (turn.Crowded leaf) answer split = (answer ≡ More) × (begun : SplitOp) × (split ≡ Some begun) × splitting.Begun begun leaf
Leads (turn.Done reply) answer split = (answer ≡ Done reply) × (split ≡ None)

-- what the answer of the split does: once published, the leaf is claimed anew, and a split that was given up ends the insert
abbrev pub Hears : SplitTurn → SplitOp → InsertOp → InsertJob → Type 0
Hears divided.More split insert new = new ≡ record { insert = insert; split = Some split }
Hears (divided.Published position) split insert new = new ≡ record { insert = record insert { state = Claiming }; split = None }
Hears (divided.GivenUp why) split insert new = new ≡ record { insert = record insert { state = Releasing (refusal_of why) }; split = None }

-- the section that is made: one of the split while that is under way, else one of the insert
abbrev pub Makes : InsertOp → Option SplitOp → View → JobTurn → InsertJob → View → Type 0
Makes insert None v answer new w = (told : Turn) × inserting.Turned insert v told new.insert w × Leads told answer new.split
Makes insert (Some split) v answer new w =
    (told : SplitTurn) × (after : SplitOp) × splitting.Turned split v told after w × (answer ≡ More) × Hears told after insert new

-- what each answer says
abbrev pub Outcome : InsertJob → View → JobTurn → InsertJob → View → Type 0
Outcome old v More new w = Ready new w × (IsTrue w.tells_full → Falls v (left old v) w (left new w))
Outcome old v Held new w = Ready new w × (new ≡ old) × IsHeld (asked old.insert) w
Outcome old v (Done reply) new w =
    Finishes (asked new.insert) new.insert.op (since_in old.insert v) (number_in new.insert) (made new.insert) w reply × ClaimsNone w × (new.split ≡ None)
    × (e : Ending) × (reply ≡ reply_of e) × (new.insert.state ≡ Over e)

-- what a section of an insert with its splits makes of it and of its actor
pub record Turned (old : InsertJob) (v : View) (answer : JobTurn) (new : InsertJob) (w : View) : Type 0 where
  pub asked_is : asked new.insert ≡ asked old.insert
  pub op_is : new.insert.op ≡ old.insert.op
  pub later : Later v w
  pub actors : SameActors v w
  pub makes : Makes old.insert old.split v answer new w
  pub advances : Advances old.insert.op (made old.insert) (number_in old.insert) (number_in new.insert) (since_in old.insert v) (since_in new.insert w) v w
  pub owes : (owed : ℕ → Bool) → OwesOnly owed (pending old.insert old.split) v → OwesOnly owed (pending new.insert new.split) w
  pub early_is : (early : Bool) → EarlyIs old.insert old.split early v → EarlyIs new.insert new.split early w
  pub outcome : Outcome old v answer new w
