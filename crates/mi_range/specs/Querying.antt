-- A range query between its sections, and what a section of it does.
use Rattle.std.specs.Prelude.{◌≡◌, ◌+◌, ◌-◌, ◌*◌, ◌<◌, ◌≤◌, ◌^◌, ◌⊎◌, ◌++◌, [], ℕ, ℤ, List, Option, Some, None, MatchOption, IsTrue, Result, Ok, Err, length, count_by, take}
use Rattle.mi_base.specs.declared.records.Op.TheVariants.{Range}
use Rattle.mi_base.specs.declared.records.Position.{Position}
use Rattle.mi_base.specs.declared.records.Reply.{Reply}
use Rattle.mi_base.specs.declared.records.Reply.TheVariants as reply
use Rattle.mi_base.specs.declared.refusals.NoMemory.{NoMemory}
use Rattle.mi_base.specs.Configuration.{metric_space, space_of}
use Rattle.mi_base.specs.History.{events_at}
use Rattle.mi_base.specs.Permutations.{distances}
use Rattle.mi_base.specs.Space.{MetricSpace}
use Rattle.mi_blink.specs.declared.turns.Turn.{Turn}
use Rattle.mi_blink.specs.declared.turns.Turn.TheVariants as turn
use Rattle.mi_blink.specs.declared.walk.Walk.{Walk}
use Rattle.mi_blink.specs.declared.walk.WalkTurn.{WalkTurn}
use Rattle.mi_blink.specs.declared.walk.WalkTurn.TheVariants as walking
use Rattle.mi_blink.specs.Descents.{IsRoot, descent, longest}
use Rattle.mi_blink.specs.Walking.{Ready as WalkIsReady, Walked, so_far}
use Rattle.mi_key.specs.Entries.{Offering}
use Rattle.mi_legal.specs.Legal.{reach}
use Rattle.mi_legal.specs.Right.{Right}
use Rattle.mi_legal.specs.Work.{Works}
use Rattle.mi_range.specs.declared.range.RangeOp.{RangeOp}
use Rattle.mi_range.specs.declared.range.RangeState.{RangeState}
use Rattle.mi_range.specs.declared.range.RangeState.TheVariants.{Begin, Walking, Ending, Over}
use Rattle.mi_range.specs.Leaves.{IsOpened, NoneIsLeft, NonePasses}
use Rattle.mi_range.specs.Opening.{leaves_offered}
use Rattle.mi_range.specs.Ranging.{RangeWorkState, TakesRange, compared_count}
use Rattle.mi_rules.specs.Passing.{opened_count, passes}
use Rattle.mi_tree.specs.declared.answers.Look.{Look}
use Rattle.mi_tree.specs.declared.outcomes.Leaf.{Leaf}
use Rattle.mi_world.specs.Boards.{Pins, Unpins}
use Rattle.mi_world.specs.LeafKeys.{shown}
use Rattle.mi_world.specs.Pages.{pinned}
use Rattle.mi_world.specs.Queries.{Pinned, SameButPin, pinned_cells}
use Rattle.mi_world.specs.View.{View, Later}

-- a query before its first section
pub record Begun (op : RangeOp) (radius : ℕ) (query : List ℤ) : Type 0 where
  pub radius_is : op.radius ≡ radius
  pub query_is : op.query ≡ query
  pub state_is : op.state ≡ Begin
  pub work_is : op.work ≡ None

-- a query that was offered nothing yet, and has its distances to the pivots
abbrev pub first_of : List ℕ → ℕ → RangeWorkState
first_of dq radius = record { dists = dq; radius = radius; rows = []; distances = length dq; spare = 0 }

-- what was kept of what was offered, and the distances counted: those to the pivots, and one for each object that was compared
pub record Gathered (m : MetricSpace) (query : List ℤ) (dq : List ℕ) (radius : ℕ) (offered : List Offering) (work : RangeWorkState) : Type 0 where
  pub takes : TakesRange m query (first_of dq radius) 0 offered work (compared_count dq radius offered)
  pub exact : work.distances ≡ length dq + compared_count dq radius offered

-- a visit offered what leads from these objects to those
pub record SiftsOn (m : MetricSpace) (query : List ℤ) (old : RangeWorkState) (steps : ℕ) (before : List Offering) (new : RangeWorkState) (new_steps : ℕ) (after : List Offering) : Type 0 where
  pub delta : List Offering
  pub joins : before ++ delta ≡ after
  pub takes : TakesRange m query old steps delta new new_steps

-- the query's distances to the pivots, and what is offered of some leaves at the pin
abbrev pub dists_of : RangeOp → View → List ℕ
dists_of op v = distances (space_of v.settings) op.query

abbrev pub offered_of : RangeOp → View → List Leaf → List Offering
offered_of op v leaves = leaves_offered (dists_of op v) op.radius v.settings.levels (shown v.settings (pinned v)) leaves

-- The leaf at the place is read: the leaves before it that pass were opened and counted, and the work has what was offered of them and of
-- this one so far.
pub record IsReading (op : RangeOp) (place cells root : ℕ) (at : Position) (walk : Walk) (v : View) : Type 0 where
  pub holds : Pinned at v
  pub root_is : IsRoot v root
  pub walk_ready : WalkIsReady walk v
  pub opened : IsOpened (dists_of op v) op.radius v.settings.levels (pinned_cells v) place walk.range
  pub counted : cells ≡ count_by (passes (dists_of op v) op.radius) (take place (pinned_cells v))
  pub kept : RangeWorkState
  pub work_is : op.work ≡ Some kept
  pub gathered : Gathered (metric_space v.settings) op.query (dists_of op v) op.radius (offered_of op v (take place (pinned_cells v)) ++ so_far walk v) kept

-- all leaves that pass were opened and counted, and the work has what was offered of them
pub record HasRead (op : RangeOp) (cells : ℕ) (at : Position) (v : View) : Type 0 where
  pub holds : Pinned at v
  pub counted : cells ≡ opened_count (space_of v.settings) v.settings.levels (pinned v) op.query op.radius
  pub kept : RangeWorkState
  pub work_is : op.work ≡ Some kept
  pub gathered : Gathered (metric_space v.settings) op.query (dists_of op v) op.radius (offered_of op v (pinned_cells v)) kept

abbrev pub StateIsReady : RangeState → RangeOp → View → Type 0
StateIsReady Begin op v = (v.pin ≡ None) × (op.work ≡ None)
StateIsReady (Walking place cells root at walk) op v = IsReading op place cells root at walk v
StateIsReady (Ending cells at) op v = HasRead op cells at v
StateIsReady Over op v = ⊥

-- what a query needs of its actor between two sections
pub record Ready (op : RangeOp) (v : View) : Type 0 where
  pub small : op.radius < 2 ^ 31
  pub fits : IsTrue ((metric_space v.settings).fits op.query)
  pub state : StateIsReady op.state op v

-- how many events the answer's position will have at least
abbrev pub since_at : RangeState → View → ℕ
since_at Begin v = length v.seen
since_at (Walking place cells root at walk) v = events_at at
since_at (Ending cells at) v = events_at at
since_at Over v = length v.seen

-- how many distances were computed
abbrev pub computed : Option RangeWorkState → ℕ
computed None = 0
computed (Some w) = w.distances

-- how many sections are left, at most
abbrev pub left_at : RangeState → View → ℕ
left_at Begin v = 2 ^ 32 * (longest + 1) + 3
left_at (Walking place cells root at walk) v = (length (pinned_cells v) - place) * (longest + 1) + descent v walk.descent.page + 2
left_at (Ending cells at) v = 1
left_at Over v = 0

abbrev pub left : RangeOp → View → ℕ
left op v = left_at op.state v

-- The query opens the first leaf from a place on that passes, whose walk begins at the root; where none does, it has read all.
abbrev pub OpensNext : List ℕ → ℕ → ℕ → List Leaf → ℕ → ℕ → ℕ → Position → RangeState → Type 0
OpensNext dq radius levels leaves from cells root at (Walking place c r p walk) =
    NonePasses dq radius leaves from place × IsOpened dq radius levels leaves place walk.range × (walk.descent.page ≡ root) × (c ≡ cells) × (r ≡ root) × (p ≡ at)
OpensNext dq radius levels leaves from cells root at (Ending c p) =
    NoneIsLeft dq radius leaves from × (c ≡ cells) × (p ≡ at)
OpensNext dq radius levels leaves from cells root at Begin = ⊥
OpensNext dq radius levels leaves from cells root at Over = ⊥

abbrev pub OpensFrom : RangeOp → View → ℕ → ℕ → ℕ → Position → RangeState → Type 0
OpensFrom op w from cells root at new = OpensNext (dists_of op w) op.radius w.settings.levels (pinned_cells w) from cells root at new

-- The pin that was made leads to the first leaf that passes; one that was refused ends the query.
abbrev pub FollowsPin : RangeOp → Result Look NoMemory → RangeState → View → Type 0
FollowsPin op (Ok look) new w = OpensFrom op w 0 0 look.root look.at new
FollowsPin op (Err e) new w = new ≡ Over

-- A visit leads on within the leaf, and after its last page to the next leaf that passes.
abbrev pub FollowsVisit : RangeOp → ℕ → ℕ → ℕ → Position → WalkTurn → Walk → RangeState → View → Type 0
FollowsVisit op place cells root at walking.More walk new w = new ≡ Walking place cells root at walk
FollowsVisit op place cells root at walking.Done walk new w = OpensFrom op w (place + 1) (cells + 1) root at new

-- a leaf is read on
pub record ReadsOn (op : RangeOp) (v : View) (place cells root : ℕ) (at : Position) (walk : Walk) (new : RangeState) (w : View) : Type 0 where
  pub answer : WalkTurn
  pub walk_after : Walk
  pub walked : Walked walk v answer walk_after w
  pub follows : FollowsVisit op place cells root at answer walk_after new w

-- Which section each state makes: the pin; a visit, or the unpin where no room could be made; and the unpin after the last leaf.
abbrev pub Makes : RangeState → RangeOp → View → RangeState → View → Type 0
Makes Begin op v new w = (result : Result Look NoMemory) × Pins v w result × FollowsPin op result new w
Makes (Walking place cells root at walk) op v new w = ReadsOn op v place cells root at walk new w ⊎ (Unpins v w × (new ≡ Over))
Makes (Ending cells at) op v new w = Unpins v w × (new ≡ Over)
Makes Over op v new w = ⊥

-- Only a query that has read all leaves has an answer: its position is that of the pin, its cells those that were opened, and its distances
-- those that were computed.
abbrev pub Tells : RangeState → Option RangeWorkState → Reply → Type 0
Tells Begin work y = y ≡ reply.Memory
Tells (Walking place cells root at walk) work y = y ≡ reply.Memory
Tells (Ending cells at) work (reply.Range p rows c distances) = (p ≡ at) × (c ≡ cells) × (distances ≡ computed work)
Tells (Ending cells at) work y = ⊥
Tells Over work y = ⊥

-- the reply is right in the log seen
abbrev pub IsRight : RangeOp → View → Reply → Type 0
IsRight op w y = (allotted number : ℕ) → Right w.settings w.seen allotted w.actor number (Range op.radius op.query) y

-- what each answer says
abbrev pub Outcome : RangeOp → View → Turn → RangeOp → View → Type 0
Outcome old v turn.More new w = Ready new w × (since_at old.state v ≤ since_at new.state w) × (left new w < left old v)
Outcome old v turn.Held new w = ⊥
Outcome old v (turn.Crowded leaf) new w = ⊥
Outcome old v (turn.Done y) new w =
    (new.state ≡ Over) × (w.pin ≡ None) × Tells old.state old.work y × IsRight new w y × MatchOption (reach w.seen y) (Unit {0}) (λ n. since_at old.state v ≤ n)

-- what a section of a query makes of it and of its actor
pub record Turned (old : RangeOp) (v : View) (answer : Turn) (new : RangeOp) (w : View) : Type 0 where
  pub radius_is : new.radius ≡ old.radius
  pub query_is : new.query ≡ old.query
  pub later : Later v w
  pub same : SameButPin v w
  pub makes : Makes old.state old v new.state w
  pub outcome : Outcome old v answer new w

-- each distance is one step
abbrev pub Ticks : RangeOp → ℕ → Turn → RangeOp → ℕ → Type 0
Ticks old k turn.More new n = n + computed old.work ≡ k + computed new.work
Ticks old k y new n = n ≡ k

-- What is so from the first section on, whatever the actor's view was there: nothing of the actor's has changed but the pin, the answer's
-- position won't be of an earlier log, and as many steps were taken as distances computed.
pub record Since (first : View) (begun : ℕ) (op : RangeOp) (v : View) (k : ℕ) : Type 0 where
  pub later : Later first v
  pub same : SameButPin first v
  pub reaches : length first.seen ≤ since_at op.state v
  pub ticked : k ≡ begun + computed op.work

-- From its first section to its last: the reply is right in the log seen, its position isn't of an earlier log than that of the first section,
-- as many steps were taken as it tells distances, nothing of the actor's has changed, and nothing is pinned.
pub record Ended (first : View) (begun : ℕ) (op : RangeOp) (w : View) (y : Reply) (n : ℕ) : Type 0 where
  pub later : Later first w
  pub same : SameButPin first w
  pub pin : w.pin ≡ None
  pub right : IsRight op w y
  pub not_before : MatchOption (reach w.seen y) (Unit {0}) (λ m. length first.seen ≤ m)
  pub works : Works begun y n
