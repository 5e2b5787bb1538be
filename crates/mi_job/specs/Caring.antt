-- The splitter between its sections, and what a section of it does.
use Rattle.std.specs.Prelude.{◌≡◌, ℕ, Option, Some, None, Bool, true, false, IsTrue, Ok, ◌⊎◌}
use Rattle.mi_base.specs.declared.records.Position.{Position}
use Rattle.mi_tree.specs.declared.answers.Work.{Work}
use Rattle.mi_tree.specs.declared.answers.Work.TheVariants as work
use Rattle.mi_world.specs.Boards.{GivesWork}
use Rattle.mi_world.specs.Splits.{GivesUp, Publishes}
use Rattle.mi_world.specs.View.{View, Later, SameActors, SameUpdate}
use Rattle.mi_blink.specs.declared.turns.Why.TheVariants.{NoPages, Memory}
use Rattle.mi_blink.specs.declared.walk.WalkTurn.{WalkTurn}
use Rattle.mi_blink.specs.declared.walk.WalkTurn.TheVariants as walk
use Rattle.mi_blink.specs.Descents.{Falls}
use Rattle.mi_blink.specs.Posting.{OwesOnly}
use Rattle.mi_split.specs.declared.split.SplitOp.{SplitOp}
use Rattle.mi_split.specs.declared.split.SplitTurn.{SplitTurn}
use Rattle.mi_split.specs.declared.split.SplitTurn.TheVariants as divided
use Rattle.mi_split.specs.declared.sweep.SweepOp.{SweepOp}
use Rattle.mi_split.specs.Splitting as splitting
use Rattle.mi_split.specs.Splitting.{split_most}
use Rattle.mi_split.specs.Sweeping as sweeping
use Rattle.mi_job.specs.declared.care.Care.{Care}
use Rattle.mi_job.specs.declared.care.CareTurn.{CareTurn}
use Rattle.mi_job.specs.declared.care.CareTurn.TheVariants as turn
use Rattle.mi_job.specs.declared.care.Task.{Task}
use Rattle.mi_job.specs.declared.care.Task.TheVariants.{Sweep, Split}
use Rattle.mi_job.specs.Claims.{ClaimsNone}

-- what the operation under way needs, beside which the actor claims nothing
abbrev pub TaskIsReady : Option Task → View → Type 0
TaskIsReady None v = (v.leaf ≡ None) × (v.sweep ≡ None) × (v.splitting ≡ false)
TaskIsReady (Some (Sweep sweep)) v = sweeping.Ready sweep v × (v.leaf ≡ None) × (v.splitting ≡ false)
TaskIsReady (Some (Split split)) v = splitting.Ready split v × (v.sweep ≡ None)

-- what the splitter needs of its actor between two sections
pub record Ready (care : Care) (v : View) : Type 0 where
  pub task : TaskIsReady care.task v
  pub shard : v.shard ≡ None
  pub pin : v.pin ≡ None

-- How many sections are left while the budget stays, at most: those of the operation under way, or of the next one.
abbrev pub left_of : Option Task → View → ℕ
left_of None v = split_most
left_of (Some (Sweep sweep)) v = sweeping.left sweep v
left_of (Some (Split split)) v = splitting.left split v

abbrev pub left : Care → View → ℕ
left care v = left_of care.task v

-- What is kept of an operation: no routes are owed but those before it and those to be posted, unless pages or memory were wanting; and the
-- flag of copies taken back early stands as it stood, as a split has it.
abbrev pub TaskKeeps : (ℕ → Bool) → Bool → Option Task → View → Type 0
TaskKeeps owed early None v = OwesOnly owed (λ p. false) v × (v.early ≡ early)
TaskKeeps owed early (Some (Sweep sweep)) v = OwesOnly owed (λ p. false) v × (v.early ≡ early)
TaskKeeps owed early (Some (Split split)) v = splitting.Since owed early split v

-- the same after a section; the flag may stand otherwise where a split was given up for want of memory
abbrev pub Keeps : CareTurn → (ℕ → Bool) → Bool → Option Task → View → Type 0
Keeps turn.Memory owed early task v = OwesOnly owed (λ p. false) v
Keeps answer owed early task v = TaskKeeps owed early task v

-- the operation begins that next_work gave
abbrev pub Begins : Work → CareTurn → Option Task → Type 0
Begins (work.Sweep prefix) answer task = (answer ≡ turn.More) × (sweep : SweepOp) × (task ≡ Some (Sweep sweep)) × sweeping.Begun sweep prefix
Begins (work.Split leaf) answer task = (answer ≡ turn.More) × (split : SplitOp) × (task ≡ Some (Split split)) × splitting.Begun split leaf
Begins work.Idle answer task = (answer ≡ turn.Idle) × (task ≡ None)

-- a sweep goes on or has ended
abbrev pub LeadsSweep : WalkTurn → SweepOp → CareTurn → Option Task → Type 0
LeadsSweep walk.More sweep answer task = (answer ≡ turn.More) × (task ≡ Some (Sweep sweep))
LeadsSweep walk.Done sweep answer task = (answer ≡ turn.Done) × (task ≡ None)

-- a split goes on or has ended
abbrev pub LeadsSplit : SplitTurn → SplitOp → CareTurn → Option Task → Type 0
LeadsSplit divided.More split answer task = (answer ≡ turn.More) × (task ≡ Some (Split split))
LeadsSplit (divided.Published position) split answer task = (answer ≡ turn.Done) × (task ≡ None)
LeadsSplit (divided.GivenUp (NoPages limit)) split answer task = (answer ≡ turn.Done) × (task ≡ None)
LeadsSplit (divided.GivenUp Memory) split answer task = (answer ≡ turn.Memory) × (task ≡ None)

-- the section that is made: one of the operation under way, else next_work
abbrev pub Makes : Option Task → View → CareTurn → Option Task → View → Type 0
Makes None v answer task w = (given : Work) × GivesWork v w given × Begins given answer task
Makes (Some (Sweep sweep)) v answer task w = (told : WalkTurn) × (after : SweepOp) × sweeping.Turned sweep v told after w × LeadsSweep told after answer task
Makes (Some (Split split)) v answer task w = (told : SplitTurn) × (after : SplitOp) × splitting.Turned split v told after w × LeadsSplit told after answer task

-- what each answer says
abbrev pub Outcome : Care → View → CareTurn → Care → View → Type 0
Outcome old v turn.More new w = Ready new w × (IsTrue w.tells_full → Falls v (left old v) w (left new w))
Outcome old v turn.Idle new w = ClaimsNone w
Outcome old v turn.Done new w = ClaimsNone w
Outcome old v turn.Memory new w = ClaimsNone w

-- what a section of the splitter makes of it and of its actor
pub record Turned (old : Care) (v : View) (answer : CareTurn) (new : Care) (w : View) : Type 0 where
  pub later : Later v w
  pub update : SameUpdate v w
  pub actors : SameActors v w
  pub makes : Makes old.task v answer new.task w
  pub keeps : (owed : ℕ → Bool) (early : Bool) → TaskKeeps owed early old.task v → Keeps answer owed early new.task w
  pub outcome : Outcome old v answer new w

-- nothing is to be done, and nothing was begun
pub record FindsNone (old : Care) (v : View) (new : Care) (w : View) : Type 0 where
  pub none : old.task ≡ None
  pub idle : GivesWork v w work.Idle
  pub none_begun : new.task ≡ None

-- the last section of a sweep
pub record EndsSweep (task : Option Task) (v w : View) : Type 0 where
  pub sweep : SweepOp
  pub was : task ≡ Some (Sweep sweep)
  pub after : SweepOp
  pub makes : sweeping.Makes sweep.state v after.state w
  pub over : w.sweep ≡ None

-- a split was published
pub record EndsPublished (task : Option Task) (v w : View) : Type 0 where
  pub split : SplitOp
  pub was : task ≡ Some (Split split)
  pub position : Position
  pub publishes : Publishes v w (Ok position)

-- a split was given up, for want of pages or of memory
pub record EndsGivenUp (task : Option Task) (v w : View) (pages : Bool) : Type 0 where
  pub split : SplitOp
  pub was : task ≡ Some (Split split)
  pub gives_up : GivesUp v w pages

-- a sweep has ended, or a split was published, or given up where all pages are allotted
pub record EndsWork (old : Care) (v : View) (new : Care) (w : View) : Type 0 where
  pub over : new.task ≡ None
  pub ends : EndsSweep old.task v w ⊎ EndsPublished old.task v w ⊎ (EndsGivenUp old.task v w true × IsTrue w.told)

-- a split was given up for want of memory
pub record LacksMemory (old : Care) (v : View) (new : Care) (w : View) : Type 0 where
  pub over : new.task ≡ None
  pub ends : EndsGivenUp old.task v w false
