-- A query for the nearest between its sections, and what a section of it does.
use Rattle.std.specs.Prelude.{◌≡◌, ◌+◌, ◌-◌, ◌*◌, ◌<◌, ◌≤◌, ◌^◌, ◌⊎◌, ◌++◌, [], ℕ, ℤ, List, Option, Some, None, MatchOption, IsTrue, IsSome, Result, Ok, Err, false, true, length, take, slice_get}
use Rattle.std.specs.List.{sum_by}
use Rattle.mi_base.specs.declared.records.Op.TheVariants.{Nearest}
use Rattle.mi_base.specs.declared.records.Position.{Position}
use Rattle.mi_base.specs.declared.records.Reply.{Reply}
use Rattle.mi_base.specs.declared.records.Reply.TheVariants as reply
use Rattle.mi_base.specs.declared.records.Row.{Row}
use Rattle.mi_base.specs.declared.refusals.NoMemory.{NoMemory}
use Rattle.mi_base.specs.Configuration.{metric_space, space_of}
use Rattle.mi_base.specs.History.{events_at}
use Rattle.mi_base.specs.Permutations.{distances}
use Rattle.mi_base.specs.Space.{MetricSpace}
use Rattle.mi_blink.specs.declared.turns.Turn.{Turn}
use Rattle.mi_blink.specs.declared.turns.Turn.TheVariants as turn
use Rattle.mi_blink.specs.declared.walk.Walk.{Walk}
use Rattle.mi_blink.specs.declared.walk.WalkTurn.{WalkTurn}
use Rattle.mi_blink.specs.declared.walk.WalkTurn.TheVariants as walking
use Rattle.mi_blink.specs.Descents.{IsRoot, descent, longest}
use Rattle.mi_blink.specs.Walking.{Ready as WalkIsReady, Walked, so_far}
use Rattle.mi_key.specs.declared.ranges.Interval.{Interval}
use Rattle.mi_key.specs.Entries.{Offering}
use Rattle.mi_key.specs.Keys.{parts_of}
use Rattle.mi_key.specs.Ranges.{is_within}
use Rattle.mi_legal.specs.Legal.{reach}
use Rattle.mi_legal.specs.Right.{Right}
use Rattle.mi_legal.specs.Work.{WorksNearest, objects_reached}
use Rattle.mi_nearest.specs.declared.nearest.Gathering.{Gathering}
use Rattle.mi_nearest.specs.declared.nearest.NearestOp.{NearestOp}
use Rattle.mi_nearest.specs.declared.nearest.NearestState.{NearestState}
use Rattle.mi_nearest.specs.declared.nearest.NearestState.TheVariants.{Begin, Walking, Ending, Refusing, Over}
use Rattle.mi_nearest.specs.declared.order.Rank.{Rank}
use Rattle.mi_nearest.specs.Nearing.{NearestWorkState, TakesNearest, stops_at, worst_of}
use Rattle.mi_nearest.specs.Order.{IsRanked, leaves_at}
use Rattle.mi_nearest.specs.Walking.{KeepsFirst, rows_in}
use Rattle.mi_rules.specs.Spans.{is_near}
use Rattle.mi_tree.specs.declared.answers.Look.{Look}
use Rattle.mi_tree.specs.declared.outcomes.Leaf.{Leaf}
use Rattle.mi_world.specs.Boards.{Pins, Unpins}
use Rattle.mi_world.specs.LeafKeys.{shown}
use Rattle.mi_world.specs.Pages.{pinned}
use Rattle.mi_world.specs.Queries.{Pinned, SameButPin, pinned_cells}
use Rattle.mi_world.specs.View.{View, Later}

-- a query before its first section
pub record Begun (op : NearestOp) (count : ℕ) (query : List ℤ) : Type 0 where
  pub count_is : op.count ≡ count
  pub query_is : op.query ≡ query
  pub state_is : op.state ≡ Begin
  pub found_is : op.found ≡ None

-- a visit offered what leads from these objects to those
pub record SiftsOn (m : MetricSpace) (query : List ℤ) (old : NearestWorkState) (steps : ℕ) (before : List Offering) (new : NearestWorkState) (new_steps : ℕ) (after : List Offering) : Type 0 where
  pub delta : List Offering
  pub joins : before ++ delta ≡ after
  pub takes : TakesNearest m query old steps delta new new_steps

-- the query's distances to the pivots, and the rows of the objects of a leaf at the pin
abbrev pub dists_of : NearestOp → View → List ℕ
dists_of op v = distances (space_of v.settings) op.query

abbrev pub rows_of_leaf : NearestOp → View → Leaf → List Row
rows_of_leaf op v = rows_in v.settings op.query (shown v.settings (pinned v))

-- how many objects the leaves of ranks have
abbrev pub objects_at : View → List Rank → ℕ
objects_at v ranks = sum_by (λ leaf. leaf.count) (leaves_at (pinned_cells v) ranks)

-- the leaf at the place has a hull, and the interval has the keys of it that are near at the last row's distance
pub record IsOpened (dq : List ℕ) (levels : ℕ) (leaves : List Leaf) (place : ℕ) (worst : Option ℕ) (span : Interval) : Type 0 where
  pub leaf : Leaf
  pub stands : slice_get leaves place ≡ Some leaf
  pub hull : ℕ × ℕ
  pub hull_is : leaf.hull ≡ Some hull
  pub has : (key : ℕ) → is_within span key ≡ is_near dq worst levels leaf.prefix hull (parts_of key)

-- no leaf is left, or the next one's bound is greater than the distance of the last of rows enough
abbrev pub StopsBefore : List Rank → Option ℕ → ℕ → Type 0
StopsBefore ranks worst next = (rank : Rank) → slice_get ranks next ≡ Some rank → stops_at worst rank.bound ≡ true

-- The leaves before this one were opened, and the rows are the first ones of theirs.
pub record HasOpened (op : NearestOp) (opened : ℕ) (ranks : List Rank) (work : NearestWorkState) (v : View) : Type 0 where
  pub ranked : IsRanked (dists_of op v) (pinned_cells v) ranks
  pub within : opened ≤ length ranks
  pub counted : opened ≡ sum_by (λ leaf. 1) (leaves_at (pinned_cells v) (take opened ranks))
  pub dists_are : work.dists ≡ dists_of op v
  pub count_is : work.count ≡ op.count
  pub keeps : KeepsFirst op.count (pinned_cells v) (rows_of_leaf op v) (take opened ranks) work.rows

-- The leaf of the next rank is read: it was opened with the rows of then, and its objects so far were offered since.
pub record IsReading (op : NearestOp) (opened root : ℕ) (at : Position) (walk : Walk) (v : View) : Type 0 where
  pub holds : Pinned at v
  pub root_is : IsRoot v root
  pub walk_ready : WalkIsReady walk v
  pub kept : Gathering
  pub found_is : op.found ≡ Some kept
  pub before : NearestWorkState
  pub done : HasOpened op opened kept.ranks.items before v
  pub rank : Rank
  pub rank_is : slice_get kept.ranks.items opened ≡ Some rank
  pub goes_on : stops_at (worst_of before) rank.bound ≡ false
  pub opens : IsOpened (dists_of op v) v.settings.levels (pinned_cells v) rank.place (worst_of before) walk.range
  pub takes : TakesNearest (metric_space v.settings) op.query before 0 (so_far walk v) kept.work (length (so_far walk v))

-- all leaves that have to be opened were
pub record HasRead (op : NearestOp) (cells : ℕ) (at : Position) (v : View) : Type 0 where
  pub holds : Pinned at v
  pub kept : Gathering
  pub found_is : op.found ≡ Some kept
  pub done : HasOpened op cells kept.ranks.items kept.work v
  pub stops : StopsBefore kept.ranks.items (worst_of kept.work) cells

abbrev pub StateIsReady : NearestState → NearestOp → View → Type 0
StateIsReady Begin op v = v.pin ≡ None
StateIsReady (Walking opened root at walk) op v = IsReading op opened root at walk v
StateIsReady (Ending cells at) op v = HasRead op cells at v
StateIsReady Refusing op v = IsSome v.pin
StateIsReady Over op v = ⊥

-- what a query needs of its actor between two sections
pub record Ready (op : NearestOp) (v : View) : Type 0 where
  pub some : 1 ≤ op.count
  pub few : op.count ≤ 1000000
  pub fits : IsTrue ((metric_space v.settings).fits op.query)
  pub state : StateIsReady op.state op v

-- how many events the answer's position will have at least
abbrev pub since_at : NearestState → View → ℕ
since_at (Walking opened root at walk) v = events_at at
since_at (Ending cells at) v = events_at at
since_at state v = length v.seen

-- the ranks of the leaves, once they are made
abbrev pub ranks_of : Option Gathering → List Rank
ranks_of None = []
ranks_of (Some found) = found.ranks.items

-- how many distances were computed so far, at least and at most
abbrev pub least_at : NearestState → View → ℕ
least_at Begin v = 0
least_at state v = length v.settings.pivots

abbrev pub most_at : NearestState → List Rank → View → ℕ
most_at Begin ranks v = 0
most_at (Walking opened root at walk) ranks v = length v.settings.pivots + objects_at v (take opened ranks) + length (so_far walk v)
most_at (Ending cells at) ranks v = length v.settings.pivots + objects_at v (take cells ranks)
most_at Refusing ranks v = length v.settings.pivots
most_at Over ranks v = length v.settings.pivots

abbrev pub most : NearestOp → View → ℕ
most op v = most_at op.state (ranks_of op.found) v

-- how many sections are left, at most
abbrev pub left_at : NearestState → View → ℕ
left_at Begin v = 2 ^ 32 * (longest + 1) + 3
left_at (Walking opened root at walk) v = (length (pinned_cells v) - opened) * (longest + 1) + descent v walk.descent.page + 2
left_at (Ending cells at) v = 1
left_at Refusing v = 1
left_at Over v = 0

abbrev pub left : NearestOp → View → ℕ
left op v = left_at op.state v

-- The query opens the leaf of the next rank, whose walk begins at the root; where it stops before that, it has read all.
abbrev pub OpensNext : List ℕ → ℕ → List Leaf → List Rank → NearestWorkState → ℕ → ℕ → Position → NearestState → Type 0
OpensNext dq levels leaves ranks work opened root at (Walking o r p walk) =
    (rank : Rank) × (slice_get ranks opened ≡ Some rank) × (stops_at (worst_of work) rank.bound ≡ false) × IsOpened dq levels leaves rank.place (worst_of work) walk.range
    × (walk.descent.page ≡ root) × (o ≡ opened) × (r ≡ root) × (p ≡ at)
OpensNext dq levels leaves ranks work opened root at (Ending c p) = StopsBefore ranks (worst_of work) opened × (c ≡ opened) × (p ≡ at)
OpensNext dq levels leaves ranks work opened root at state = ⊥

-- the same, with what the query has found after a section
abbrev pub OpensFrom : NearestOp → View → ℕ → ℕ → Position → Type 0
OpensFrom new w opened root at =
    (found : Gathering) × (new.found ≡ Some found) × OpensNext (dists_of new w) w.settings.levels (pinned_cells w) found.ranks.items found.work opened root at new.state

-- The pin that was made leads to the leaf with the least bound, and to the unpin where no memory was left to rank the leaves; one that was
-- refused ends the query.
abbrev pub FollowsPin : Result Look NoMemory → NearestOp → View → Type 0
FollowsPin (Ok look) new w = (new.state ≡ Refusing) ⊎ (IsRanked (dists_of new w) (pinned_cells w) (ranks_of new.found) × OpensFrom new w 0 look.root look.at)
FollowsPin (Err e) new w = new.state ≡ Over

-- A visit leads on within the leaf, and after its last page to the leaf of the next rank.
abbrev pub FollowsVisit : ℕ → ℕ → Position → WalkTurn → Walk → NearestOp → View → Type 0
FollowsVisit opened root at walking.More walk new w = new.state ≡ Walking opened root at walk
FollowsVisit opened root at walking.Done walk new w = OpensFrom new w (opened + 1) root at

-- a leaf is read on, and the ranks stay
pub record ReadsOn (old : NearestOp) (v : View) (opened root : ℕ) (at : Position) (walk : Walk) (new : NearestOp) (w : View) : Type 0 where
  pub answer : WalkTurn
  pub walk_after : Walk
  pub walked : Walked walk v answer walk_after w
  pub follows : FollowsVisit opened root at answer walk_after new w
  pub ranks_are : ranks_of new.found ≡ ranks_of old.found

-- Which section each state makes: the pin; a visit, or the unpin where no room could be made; and the unpin after the last leaf.
abbrev pub Makes : NearestState → NearestOp → View → NearestOp → View → Type 0
Makes Begin old v new w = (result : Result Look NoMemory) × Pins v w result × FollowsPin result new w
Makes (Walking opened root at walk) old v new w = ReadsOn old v opened root at walk new w ⊎ (Unpins v w × (new.state ≡ Over))
Makes (Ending cells at) old v new w = Unpins v w × (new.state ≡ Over)
Makes Refusing old v new w = Unpins v w × (new.state ≡ Over)
Makes Over old v new w = ⊥

-- Only a query that has read all leaves has an answer: its position is that of the pin, and its cells those that were opened.
abbrev pub Tells : NearestState → Reply → Type 0
Tells (Ending cells at) (reply.Nearest p rows c) = (p ≡ at) × (c ≡ cells)
Tells (Ending cells at) y = ⊥
Tells state y = y ≡ reply.Memory

-- the reply is right in the log seen
abbrev pub IsRight : NearestOp → View → Reply → Type 0
IsRight op w y = (allotted number : ℕ) → Right w.settings w.seen allotted w.actor number (Nearest op.count op.query) y

-- an answer's distances were no more than those to the pivots, and one for each object of the leaves that had to be opened
abbrev pub IsCheap : NearestOp → ℕ → View → Reply → Type 0
IsCheap op spent w (reply.Nearest p rows cells) = spent ≤ length w.settings.pivots + objects_reached w.settings w.seen op.count op.query (reply.Nearest p rows cells)
IsCheap op spent w y = Unit {0}

-- what each answer says
abbrev pub Outcome : NearestOp → View → Turn → NearestOp → View → Type 0
Outcome old v turn.More new w = Ready new w × (since_at old.state v ≤ since_at new.state w) × (left new w < left old v)
Outcome old v turn.Held new w = ⊥
Outcome old v (turn.Crowded leaf) new w = ⊥
Outcome old v (turn.Done y) new w =
    (new.state ≡ Over) × (w.pin ≡ None) × Tells old.state y × IsRight new w y × MatchOption (reach w.seen y) (Unit {0}) (λ n. since_at old.state v ≤ n) × IsCheap new (most old v) w y

-- what a section of a query makes of it and of its actor
pub record Turned (old : NearestOp) (v : View) (answer : Turn) (new : NearestOp) (w : View) : Type 0 where
  pub count_is : new.count ≡ old.count
  pub query_is : new.query ≡ old.query
  pub later : Later v w
  pub same : SameButPin v w
  pub makes : Makes old.state old v new w
  pub outcome : Outcome old v answer new w

-- each distance is one step
abbrev pub Ticks : NearestOp → View → ℕ → Turn → NearestOp → View → ℕ → Type 0
Ticks old v k turn.More new w n = (k + least_at new.state w ≤ n + least_at old.state v) × (n + most old v ≤ k + most new w)
Ticks old v k y new w n = n ≡ k

-- What is so from the first section on, whatever the actor's view was there: nothing of the actor's has changed but the pin, the answer's
-- position won't be of an earlier log, and no fewer and no more steps were taken than distances computed.
pub record Since (first : View) (begun : ℕ) (op : NearestOp) (v : View) (k : ℕ) : Type 0 where
  pub later : Later first v
  pub same : SameButPin first v
  pub reaches : length first.seen ≤ since_at op.state v
  pub least : begun + least_at op.state v ≤ k
  pub ticked : k ≤ begun + most op v

-- From its first section to its last: the reply is right in the log seen, its position isn't of an earlier log than that of the first section,
-- an answer took a step for each pivot and at most one for each object of the leaves that had to be opened, nothing of the actor's has
-- changed, and nothing is pinned.
pub record Ended (first : View) (begun : ℕ) (op : NearestOp) (w : View) (y : Reply) (n : ℕ) : Type 0 where
  pub later : Later first w
  pub same : SameButPin first w
  pub pin : w.pin ≡ None
  pub right : IsRight op w y
  pub not_before : MatchOption (reach w.seen y) (Unit {0}) (λ m. length first.seen ≤ m)
  pub works : WorksNearest w.settings w.seen op.count op.query begun y n
