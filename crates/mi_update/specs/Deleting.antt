-- A delete between its sections, and what a section of it does.
use Rattle.std.specs.Prelude.{◌≡◌, ◌≤◌, ◌+◌, ◌++◌, [], ℕ, List, Option, Some, None, true, false, IsTrue, Result, Ok, Err, length, ◌⊎◌}
use Rattle.mi_base.specs.declared.records.LogEvent.{LogEvent}
use Rattle.mi_base.specs.declared.records.Op.{Op}
use Rattle.mi_base.specs.declared.records.Op.TheVariants.{Delete}
use Rattle.mi_base.specs.declared.records.Update.{Update}
use Rattle.mi_base.specs.declared.records.Update.TheVariants as update
use Rattle.mi_base.specs.History.{Entered}
use Rattle.mi_base.specs.Permutations.{permutation_of}
use Rattle.mi_world.specs.declared.answers.Record.{Record}
use Rattle.mi_tree.specs.declared.answers.LeafClaim.{LeafClaim}
use Rattle.mi_tree.specs.declared.answers.LeafClaim.TheVariants as claim
use Rattle.mi_tree.specs.declared.answers.Look.{Look}
use Rattle.mi_tree.specs.declared.answers.ReserveRefusal.{ReserveRefusal}
use Rattle.mi_tree.specs.declared.answers.ReserveRefusal.TheVariants as reserve
use Rattle.mi_world.specs.declared.answers.Commit.{Commit}
use Rattle.mi_world.specs.declared.answers.Commit.TheVariants as commit
use Rattle.mi_world.specs.declared.answers.ShardClaim.{ShardClaim}
use Rattle.mi_world.specs.declared.answers.ShardClaim.TheVariants as shard_claim
use Rattle.mi_world.specs.Boards.{Looks, Reserves}
use Rattle.mi_world.specs.Claims.{ClaimsLeaf, ClaimsShard, ReleasesLeaf, ReleasesShard, holds_leaf_of}
use Rattle.mi_world.specs.Pages.{CommitsDelete, delete_key}
use Rattle.mi_world.specs.View.{View, Agrees, Later, SameApart, shard_of}
use Rattle.mi_blink.specs.declared.turns.Turn.{Turn}
use Rattle.mi_blink.specs.declared.turns.Turn.TheVariants as turn
use Rattle.mi_blink.specs.Descents.{Falls, IsRoot, descent, longest}
use Rattle.mi_update.specs.declared.endings.Ending.{Ending}
use Rattle.mi_update.specs.declared.endings.Ending.TheVariants as ending
use Rattle.mi_update.specs.declared.delete.DeleteOp.{DeleteOp}
use Rattle.mi_update.specs.declared.delete.DeleteState.{DeleteState}
use Rattle.mi_update.specs.declared.delete.DeleteState.TheVariants.{Begin, Looking, Reserving, Claiming, Committing, Unclaiming, Releasing, Over}
use Rattle.mi_update.specs.Endings.{Answered, events_of, number_of, reply_of}
use Rattle.mi_update.specs.Stepping.{Advances, HeldLeaf, HeldShard, HoldsShard, added, entry_of}

-- a delete before its first section
pub record Begun (op : DeleteOp) (id number : ℕ) : Type 0 where
  pub id_is : op.id ≡ id
  pub op_is : op.op ≡ number
  pub state_is : op.state ≡ Begin

-- the permutation of the object of a record
abbrev pub perm_of : Option Record → List ℕ
perm_of None = []
perm_of (Some r) = permutation_of r.dists.items

abbrev pub perm_in : DeleteOp → List ℕ
perm_in op = perm_of op.kept

-- the operation, and the update that it makes
abbrev pub asked : DeleteOp → Op
asked op = Delete op.id

abbrev pub made : DeleteOp → Update
made op = update.Delete op.id

-- the shard is held, and its record of the identifier is in hand
pub record Knows (id : ℕ) (kept : Option Record) (v : View) : Type 0 where
  pub shard : v.shard ≡ Some (shard_of id)
  pub record_is : v.records id ≡ kept
  pub found : Record
  pub is : kept ≡ Some found

-- room is reserved too, the record has the object's distances, and descents begin at this root
pub record Prepared (id root : ℕ) (kept : Option Record) (v : View) : Type 0 where
  pub knows : Knows id kept v
  pub reserved : v.reserved ≡ true
  pub long : length (perm_of kept) ≡ length v.settings.pivots
  pub root_is : IsRoot v root

-- the leaf of the object is claimed too, and the page of its entry is sought from this one on
pub record Seeking (id root : ℕ) (kept : Option Record) (v : View) (page : ℕ) : Type 0 where
  pub prepared : Prepared id root kept v
  pub claimed : holds_leaf_of (perm_of kept) v.leaf ≡ true
  pub named : IsTrue (v.named page)
  pub low_is : v.low page ≤ delete_key v id
  pub small : v.level page ≤ 5

-- an ending that a commit leads to
abbrev pub IsCommitted : Ending → Type 0
IsCommitted (ending.Removed number) = Unit {0}
IsCommitted (ending.Full limit) = Unit {0}
IsCommitted e = ⊥

-- what a state needs of the actor
abbrev pub StateIsReady : DeleteState → DeleteOp → View → Type 0
StateIsReady Begin op v = (v.shard ≡ None) × (v.leaf ≡ None)
StateIsReady Looking op v = HoldsShard op.id v × (v.records op.id ≡ None)
StateIsReady Reserving op v = Knows op.id op.kept v × (v.leaf ≡ None)
StateIsReady Claiming op v = Prepared op.id op.root op.kept v × (v.leaf ≡ None)
StateIsReady (Committing page) op v = Seeking op.id op.root op.kept v page
StateIsReady (Unclaiming e) op v =
    (v.shard ≡ Some (shard_of op.id)) × (holds_leaf_of (perm_in op) v.leaf ≡ true) × Answered (asked op) op.op v e × IsCommitted e
StateIsReady (Releasing e) op v = HoldsShard op.id v × Answered (asked op) op.op v e
StateIsReady (Over e) op v = ⊥

-- what a delete needs of its actor between two sections
pub record Ready (op : DeleteOp) (v : View) : Type 0 where
  pub idle : v.sweep ≡ None
  pub unsplit : v.splitting ≡ false
  pub state : StateIsReady op.state op v

-- the number of the update, once it is entered
abbrev pub number_at : DeleteState → Option ℕ
number_at (Unclaiming e) = number_of e
number_at (Releasing e) = number_of e
number_at (Over e) = number_of e
number_at state = None

abbrev pub number_in : DeleteOp → Option ℕ
number_in op = number_at op.state

-- how many events the reply's position will have at least
abbrev pub since_at : DeleteState → List LogEvent → ℕ
since_at (Unclaiming e) log = events_of e log
since_at (Releasing e) log = events_of e log
since_at (Over e) log = events_of e log
since_at state log = length log

abbrev pub since_in : DeleteOp → View → ℕ
since_in op v = since_at op.state v.seen

-- how many sections are left, at most
abbrev pub left_in : DeleteState → View → ℕ
left_in Begin v = longest + 6
left_in Looking v = 2
left_in Reserving v = longest + 5
left_in Claiming v = longest + 4
left_in (Committing page) v = descent v page + 3
left_in (Unclaiming e) v = 2
left_in (Releasing e) v = 1
left_in (Over e) v = 0

abbrev pub left : DeleteOp → View → ℕ
left op v = left_in op.state v

-- the shard was found held, or the leaf of the object whose record the shard keeps
abbrev pub FindsHeld : DeleteOp → View → Type 0
FindsHeld op w =
    ((op.state ≡ Begin) × HeldShard op.id w) ⊎ ((op.state ≡ Claiming) × HeldLeaf (perm_in op) w × Agrees w.settings w.seen op.id op.kept)

-- a claim was found held: the same section is to be made again
pub record StandsStill (old new : DeleteOp) (w : View) : Type 0 where
  pub ready : Ready new w
  pub same : new ≡ old
  pub held : FindsHeld old w

-- the root in hand after a section: that of the reservation
abbrev pub root_after : DeleteState → DeleteState → ℕ → View → ℕ
root_after Reserving Claiming root w = w.root
root_after old new root w = root

-- Which section follows which; root is the one in hand.
abbrev pub Follows : DeleteState → DeleteState → ℕ → Type 0
Follows Begin Begin root = Unit {0}
Follows Begin Looking root = Unit {0}
Follows Begin Reserving root = Unit {0}
Follows Looking (Releasing (ending.Absent p)) root = Unit {0}
Follows Reserving Claiming root = Unit {0}
Follows Reserving (Releasing (ending.Full limit)) root = Unit {0}
Follows Reserving (Releasing ending.Memory) root = Unit {0}
Follows Claiming Claiming root = Unit {0}
Follows Claiming (Committing page) root = page ≡ root
Follows (Committing page) (Committing p) root = Unit {0}
Follows (Committing page) (Unclaiming (ending.Removed n)) root = Unit {0}
Follows (Committing page) (Unclaiming (ending.Full limit)) root = Unit {0}
Follows (Unclaiming e) (Releasing f) root = f ≡ e
Follows (Releasing e) (Over f) root = f ≡ e
Follows old new root = ⊥

-- where the answer to the claim of the shard leads, and the record in hand then
abbrev pub after_shard : ShardClaim → DeleteState
after_shard shard_claim.Held = Begin
after_shard (shard_claim.Taken (Some r)) = Reserving
after_shard (shard_claim.Taken None) = Looking

abbrev pub kept_after : ShardClaim → Option Record → Option Record
kept_after shard_claim.Held kept = kept
kept_after (shard_claim.Taken (Some r)) kept = Some r
kept_after (shard_claim.Taken None) kept = kept

-- where that to the reservation leads
abbrev pub after_reserve : Result Look ReserveRefusal → DeleteState
after_reserve (Ok look) = Claiming
after_reserve (Err (reserve.Full limit)) = Releasing (ending.Full limit)
after_reserve (Err reserve.Memory) = Releasing ending.Memory

-- where that to the claim of the leaf leads: the descent begins at the root in hand
abbrev pub after_claim : LeafClaim → ℕ → DeleteState
after_claim (claim.Taken leaf) root = Committing root
after_claim (claim.Held by) root = Claiming

-- where that to a commit leads; no leaf is too full for it, and no page
abbrev pub AfterCommit : Commit → DeleteOp → Type 0
AfterCommit (commit.Down p) new = new.state ≡ Committing p
AfterCommit (commit.Right p) new = new.state ≡ Committing p
AfterCommit (commit.Full limit) new = new.state ≡ Unclaiming (ending.Full limit)
AfterCommit commit.Crowded new = ⊥
AfterCommit commit.PageFull new = ⊥
AfterCommit (commit.Done number) new = new.state ≡ Unclaiming (ending.Removed number)

-- the section that each state makes of the actor, and where its answer leads
abbrev pub Makes : DeleteState → DeleteOp → View → DeleteOp → View → Type 0
Makes Begin old v new w =
    (answer : ShardClaim) × ClaimsShard v w old.id answer × (new.state ≡ after_shard answer) × (new.kept ≡ kept_after answer old.kept)
Makes Looking old v new w = (look : Look) × Looks v w look × (new.state ≡ Releasing (ending.Absent look.at))
Makes Reserving old v new w = (answer : Result Look ReserveRefusal) × Reserves v w answer × (new.state ≡ after_reserve answer)
Makes Claiming old v new w = (answer : LeafClaim) × ClaimsLeaf v w (perm_in old) answer × (new.state ≡ after_claim answer old.root)
Makes (Committing page) old v new w = (answer : Commit) × CommitsDelete v w page old.op old.id answer × AfterCommit answer new
Makes (Unclaiming e) old v new w = ReleasesLeaf v w × (new.state ≡ Releasing e)
Makes (Releasing e) old v new w = ReleasesShard v w × (new.state ≡ Over e)
Makes (Over e) old v new w = ⊥

-- what each answer says
abbrev pub Outcome : DeleteOp → View → Turn → DeleteOp → View → Type 0
Outcome old v turn.More new w = Ready new w × Falls v (left old v) w (left new w)
Outcome old v turn.Held new w = StandsStill old new w
Outcome old v (turn.Crowded leaf) new w = ⊥
Outcome old v (turn.Done reply) new w = (w.shard ≡ None) × (w.leaf ≡ None) × (e : Ending) × (reply ≡ reply_of e) × (new.state ≡ Over e) × Answered (asked new) new.op w e

-- what a section of a delete makes of it and of its actor
pub record Turned (old : DeleteOp) (v : View) (answer : Turn) (new : DeleteOp) (w : View) : Type 0 where
  pub id_is : new.id ≡ old.id
  pub op_is : new.op ≡ old.op
  pub later : Later v w
  pub apart : SameApart v w
  pub fresh : w.fresh ≡ v.fresh
  pub owes : w.owes ≡ v.owes
  pub advances : Advances old.op (made old) (number_in old) (number_in new) (since_in old v) (since_in new w) v w
  pub follows : Follows old.state new.state new.root
  pub root_is : new.root ≡ root_after old.state new.state old.root w
  pub makes : Makes old.state old v new w
  pub outcome : Outcome old v answer new w

-- What is kept from the first section to the last, whatever the actor's own updates and the events seen were at the first: its own updates
-- are those and what the delete added, and the reply isn't of an earlier log.
pub record Since (own : List Entered) (from : ℕ) (op : DeleteOp) (v : View) : Type 0 where
  pub own_is : v.own ≡ own ++ added (number_in op) (entry_of v op.op (made op))
  pub reaches : from ≤ since_in op v
