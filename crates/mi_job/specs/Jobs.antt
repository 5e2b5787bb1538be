-- One operation of a script between its sections, and what a section of it does, whichever operation it is.
use Rattle.std.specs.Prelude.{◌≡◌, ◌≤◌, ◌+◌, ◌*◌, ◌^◌, ◌++◌, ◌∷◌, [], ◌⊎◌, ℕ, ℤ, List, Option, Some, None, MatchOption, Bool, true, false, IsTrue, cond, length}
use Rattle.mi_base.specs.declared.records.Op.{Op}
use Rattle.mi_base.specs.declared.records.Op.TheVariants as op
use Rattle.mi_base.specs.declared.records.Reply.{Reply}
use Rattle.mi_base.specs.declared.records.Reply.TheVariants as reply
use Rattle.mi_base.specs.declared.records.Update.TheVariants as update
use Rattle.mi_base.specs.History.{Entered, updates_of}
use Rattle.mi_base.specs.Permutations.{distances}
use Rattle.mi_base.specs.Space.{Space}
use Rattle.mi_legal.specs.Legal.{accepted_update, reach}
use Rattle.mi_legal.specs.Want.{is_memory}
use Rattle.mi_legal.specs.Work.{objects_reached}
use Rattle.mi_world.specs.View.{View, Later, SameActors}
use Rattle.mi_blink.specs.declared.turns.Turn.{Turn}
use Rattle.mi_blink.specs.declared.turns.Turn.TheVariants as turn
use Rattle.mi_blink.specs.Descents.{Falls, longest}
use Rattle.mi_blink.specs.Posting.{OwesOnly}
use Rattle.mi_nearest.specs.declared.nearest.NearestState.{NearestState}
use Rattle.mi_nearest.specs.declared.nearest.NearestState.TheVariants as near
use Rattle.mi_nearest.specs.Querying as nearing
use Rattle.mi_range.specs.declared.range.RangeState.{RangeState}
use Rattle.mi_range.specs.declared.range.RangeState.TheVariants as ranged
use Rattle.mi_range.specs.Querying as ranging
use Rattle.mi_split.specs.Splitting.{split_most}
use Rattle.mi_update.specs.Deleting as deleting
use Rattle.mi_update.specs.Endings.{IsRight}
use Rattle.mi_update.specs.Inserting as inserting
use Rattle.mi_update.specs.Stepping.{number_told}
use Rattle.mi_job.specs.declared.job.Job.{Job}
use Rattle.mi_job.specs.declared.job.Operation.{Operation}
use Rattle.mi_job.specs.declared.job.Operation.TheVariants.{Insert, Delete, Range, Nearest}
use Rattle.mi_job.specs.declared.turns.JobTurn.{JobTurn}
use Rattle.mi_job.specs.declared.turns.JobTurn.TheVariants.{More, Held, Done}
use Rattle.mi_job.specs.Claims.{ClaimsNone, IsHeld}
use Rattle.mi_job.specs.Inserts as inserts

-- the operation is a query
abbrev pub is_query : Op → Bool
is_query (op.Insert id vector) = false
is_query (op.Delete id) = false
is_query (op.Range radius query) = true
is_query (op.Nearest count query) = true

-- how many distances are measured when the operation is made: those of an insert's vector to the pivots
abbrev pub measured_for : Op → List (List ℤ) → ℕ
measured_for (op.Insert id vector) pivots = length pivots
measured_for o pivots = 0

-- the operation, and its number in its script
abbrev pub asked_by : Operation → Op
asked_by (Insert job) = inserting.asked job.insert
asked_by (Delete delete) = deleting.asked delete
asked_by (Range range number) = op.Range range.radius range.query
asked_by (Nearest nearest number) = op.Nearest nearest.count nearest.query

abbrev pub numbered : Operation → ℕ
numbered (Insert job) = job.insert.op
numbered (Delete delete) = delete.op
numbered (Range range number) = number
numbered (Nearest nearest number) = number

abbrev pub asked : Job → Op
asked job = asked_by job.operation

abbrev pub op_number : Job → ℕ
op_number job = numbered job.operation

-- an operation before its first section: an insert's vector is measured, and no split is under way
abbrev pub OperationIsBegun : Operation → Op → ℕ → Space → Type 0
OperationIsBegun (Insert job) (op.Insert id vector) number space = inserting.Begun job.insert id vector (distances space vector) number × (job.split ≡ None)
OperationIsBegun (Delete delete) (op.Delete id) number space = deleting.Begun delete id number
OperationIsBegun (Range range k) (op.Range radius query) number space = ranging.Begun range radius query × (k ≡ number)
OperationIsBegun (Nearest nearest k) (op.Nearest count query) number space = nearing.Begun nearest count query × (k ≡ number)
OperationIsBegun operation o number space = ⊥

pub record Begun (job : Job) (o : Op) (number : ℕ) (space : Space) : Type 0 where
  pub operation : OperationIsBegun job.operation o number space
  pub not_yet : job.begun ≡ false

-- a query was begun: its pin was made, or was refused
abbrev pub range_begun : RangeState → Bool
range_begun ranged.Begin = false
range_begun state = true

abbrev pub nearest_begun : NearestState → Bool
nearest_begun near.Begin = false
nearest_begun state = true

-- the actor of a query claims nothing, and has no split under way
pub record ClaimsAtMostPin (v : View) : Type 0 where
  pub shard : v.shard ≡ None
  pub leaf : v.leaf ≡ None
  pub sweep : v.sweep ≡ None
  pub unsplit : v.splitting ≡ false

-- What an operation needs of its actor between two sections; a query's first section is its pin, which is never held.
abbrev pub OperationIsReady : Operation → Bool → View → Type 0
OperationIsReady (Insert job) begun v = inserts.Ready job v
OperationIsReady (Delete delete) begun v = deleting.Ready delete v × (v.pin ≡ None)
OperationIsReady (Range range number) begun v = ranging.Ready range v × (begun ≡ range_begun range.state) × ClaimsAtMostPin v
OperationIsReady (Nearest nearest number) begun v = nearing.Ready nearest v × (begun ≡ nearest_begun nearest.state) × ClaimsAtMostPin v

pub record Ready (job : Job) (v : View) : Type 0 where
  pub operation : OperationIsReady job.operation job.begun v

-- the number of its update, once that is entered
abbrev pub number_of : Operation → Option ℕ
number_of (Insert job) = inserting.number_in job.insert
number_of (Delete delete) = deleting.number_in delete
number_of query = None

abbrev pub number_in : Job → Option ℕ
number_in job = number_of job.operation

-- how many events the reply's position will have at least
abbrev pub since_of : Operation → View → ℕ
since_of (Insert job) v = inserting.since_in job.insert v
since_of (Delete delete) v = deleting.since_in delete v
since_of (Range range number) v = ranging.since_at range.state v
since_of (Nearest nearest number) v = nearing.since_at nearest.state v

abbrev pub since_in : Job → View → ℕ
since_in job v = since_of job.operation v

-- the routes that are still to be posted
abbrev pub pending : Operation → ℕ → Bool
pending (Insert job) p = inserts.pending job.insert job.split p
pending operation p = false

-- the flag of copies taken back early stands as it stood, but where memory was wanting
abbrev pub EarlyIs : Operation → Bool → View → Type 0
EarlyIs (Insert job) early v = inserts.EarlyIs job.insert job.split early v
EarlyIs operation early v = v.early ≡ early

-- how many sections are left while the budget stays, at most
abbrev pub left_of : Operation → View → ℕ
left_of (Insert job) v = inserts.left job v
left_of (Delete delete) v = deleting.left delete v
left_of (Range range number) v = ranging.left range v
left_of (Nearest nearest number) v = nearing.left nearest v

abbrev pub left : Job → View → ℕ
left job v = left_of job.operation v

-- more than any of these
abbrev pub job_most : ℕ
job_most = 7 * inserting.round split_most + (2 ^ 32 * (longest + 1) + 4)

-- the update that an operation enters into the log
abbrev pub entry_of : View → ℕ → Op → List Entered
entry_of v number (op.Insert id vector) = record { session = v.actor; op = number; update = update.Insert id vector } ∷ []
entry_of v number (op.Delete id) = record { session = v.actor; op = number; update = update.Delete id } ∷ []
entry_of v number o = []

-- what an operation whose update has this number has added to the actor's own updates
abbrev pub where_entered : Option ℕ → List Entered → List Entered
where_entered None es = []
where_entered (Some n) es = es

abbrev pub added : Job → View → List Entered
added job v = where_entered (number_in job) (entry_of v (op_number job) (asked job))

-- this section enters the update, which is the last of the log then
pub record Enters (old : Job) (v : View) (new : Job) (w : View) : Type 0 where
  pub before : number_in old ≡ None
  pub after : number_in new ≡ Some (length (updates_of w.seen))
  pub update : is_query (asked old) ≡ false
  pub own : w.own ≡ v.own ++ entry_of w (op_number old) (asked old)

-- this section enters none
pub record EntersNone (old : Job) (v : View) (new : Job) (w : View) : Type 0 where
  pub number : number_in new ≡ number_in old
  pub own : w.own ≡ v.own

abbrev pub IsNotCrowded : Turn → Type 0
IsNotCrowded (turn.Crowded leaf) = ⊥
IsNotCrowded answer = Unit {0}

-- the answer of an operation that splits no leaf
abbrev pub Tells : Turn → JobTurn → Type 0
Tells turn.More answer = answer ≡ More
Tells turn.Held answer = answer ≡ Held
Tells (turn.Crowded leaf) answer = ⊥
Tells (turn.Done reply) answer = answer ≡ Done reply

-- the section that is made is one of the operation
abbrev pub Makes : Operation → View → JobTurn → Operation → View → Type 0
Makes (Insert old) v answer (Insert new) w = inserts.Turned old v answer new w
Makes (Delete old) v answer (Delete new) w = (told : Turn) × deleting.Turned old v told new w × Tells told answer
Makes (Range old k) v answer (Range new n) w = (told : Turn) × ranging.Turned old v told new w × Tells told answer × (n ≡ k)
Makes (Nearest old k) v answer (Nearest new n) w = (told : Turn) × nearing.Turned old v told new w × Tells told answer × (n ≡ k)
Makes old v answer new w = ⊥

-- how many distances a query has computed, at least and at most
abbrev pub least_spent : Operation → View → ℕ
least_spent (Range range number) v = ranging.computed range.work
least_spent (Nearest nearest number) v = nearing.least_at nearest.state v
least_spent operation v = 0

abbrev pub most_spent : Operation → View → ℕ
most_spent (Range range number) v = ranging.computed range.work
most_spent (Nearest nearest number) v = nearing.most nearest v
most_spent operation v = 0

-- each distance is one step
abbrev pub Ticks : Job → View → ℕ → JobTurn → Job → View → ℕ → Type 0
Ticks old v k More new w n = (k + least_spent new.operation w ≤ n + least_spent old.operation v) × (n + most_spent old.operation v ≤ k + most_spent new.operation w)
Ticks old v k answer new w n = n ≡ k

-- The distances that the answer to a range query tells are those that were computed. For the nearest there is one for each pivot at least, and
-- at most one more for each object of the leaves that had to be opened.
abbrev pub TellsSpent : Operation → View → View → Reply → Type 0
TellsSpent (Range range number) v w (reply.Range p rows cells distances) = distances ≡ ranging.computed range.work
TellsSpent (Nearest nearest number) v w (reply.Nearest p rows cells) =
    (length w.settings.pivots ≤ nearing.least_at nearest.state v)
    × (nearing.most nearest v ≤ length w.settings.pivots + objects_reached w.settings w.seen nearest.count nearest.query (reply.Nearest p rows cells))
TellsSpent operation v w y = Unit {0}

-- how many events the position of a query's reply has: those of the log that its first section leaves, which is its pin
abbrev pub pinned_in : Job → View → View → ℕ
pinned_in old v w = cond old.begun (since_in old v) (length w.seen)

-- The reply is right in the log seen, its position has no fewer events than it was to have, it tells the number of the update, which is what
-- it accepts, and the actor claims nothing.
pub record Finishes (old : Job) (v : View) (y : Reply) (new : Job) (w : View) : Type 0 where
  pub right : IsRight (asked old) (op_number old) w y
  pub not_before : MatchOption (reach w.seen y) (Unit {0}) (λ n. since_in old v ≤ n)
  pub pinned : is_query (asked old) ≡ true → MatchOption (reach w.seen y) (Unit {0}) (λ n. n ≡ pinned_in old v w)
  pub spent : TellsSpent old.operation v w y
  pub number_is : number_told y ≡ number_in new
  pub accepted_is : accepted_update w.actor (op_number old) (asked old) y ≡ added new w
  pub none_pending : (p : ℕ) → pending new.operation p ≡ false
  pub early_is : (early : Bool) → EarlyIs new.operation early w → is_memory y ≡ false → w.early ≡ early
  pub claims : ClaimsNone w

-- what each answer says
abbrev pub Outcome : Job → View → JobTurn → Job → View → Type 0
Outcome old v More new w =
    Ready new w × (is_query (asked old) ≡ true → since_in new w ≡ pinned_in old v w) × (IsTrue w.tells_full → Falls v (left old v) w (left new w))
Outcome old v Held new w = Ready new w × (new.operation ≡ old.operation) × IsHeld (asked old) w
Outcome old v (Done y) new w = Finishes old v y new w

-- what a section of a job makes of it and of its actor
pub record Turned (old : Job) (v : View) (answer : JobTurn) (new : Job) (w : View) : Type 0 where
  pub asked_is : asked new ≡ asked old
  pub number_is : op_number new ≡ op_number old
  pub has_begun : new.begun ≡ true
  pub later : Later v w
  pub actors : SameActors v w
  pub makes : Makes old.operation v answer new.operation w
  pub enters : Enters old v new w ⊎ EntersNone old v new w
  pub not_before : since_in old v ≤ since_in new w
  pub owes : (owed : ℕ → Bool) → OwesOnly owed (pending old.operation) v → OwesOnly owed (pending new.operation) w
  pub early_is : (early : Bool) → EarlyIs old.operation early v → EarlyIs new.operation early w
  pub outcome : Outcome old v answer new w

-- What is kept from the first section to the last, whatever the actor's own updates, the events seen, the routes owed and the flag were at
-- the first: its own updates are those and what was added, the reply isn't of an earlier log, no more routes are owed but those to be posted,
-- and the flag stands as it stood, but where memory was wanting.
pub record Since (own : List Entered) (from : ℕ) (owed : ℕ → Bool) (early : Bool) (job : Job) (v : View) : Type 0 where
  pub own_is : v.own ≡ own ++ added job v
  pub reaches : from ≤ since_in job v
  pub owes : OwesOnly owed (pending job.operation) v
  pub early_is : EarlyIs job.operation early v

-- as many steps were taken since as distances were computed
abbrev pub Ticked : ℕ → Job → View → ℕ → Type 0
Ticked first job v k = (first + least_spent job.operation v ≤ k) × (k ≤ first + most_spent job.operation v)

-- An operation from its first section to its last: the reply is right in the log seen, and its position isn't before so many events; the
-- actor's own updates are those of the beginning and what the reply accepts; it claims nothing, and has no pin and no split under way; it owes
-- no route more, unless pages or memory were wanting; and the flag stands as it stood, unless the reply is want of memory.
pub record Ended (o : Op) (number : ℕ) (own : List Entered) (from : ℕ) (owed : ℕ → Bool) (early : Bool) (w : View) (y : Reply) : Type 0 where
  pub right : IsRight o number w y
  pub not_before : MatchOption (reach w.seen y) (Unit {0}) (λ n. from ≤ n)
  pub own_is : w.own ≡ own ++ accepted_update w.actor number o y
  pub claims : ClaimsNone w
  pub owes : OwesOnly owed (λ p. false) w
  pub early_is : is_memory y ≡ false → w.early ≡ early
