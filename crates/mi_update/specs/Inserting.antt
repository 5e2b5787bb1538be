-- An insert between its sections, and what a section of it does.
use Rattle.std.specs.Prelude.{unwrap_or, is_some, ◌≡◌, ◌≤◌, ◌+◌, ◌-◌, ◌*◌, ◌++◌, ℕ, ℤ, List, Option, Some, None, Bool, true, false, IsTrue, IsSome, Result, Ok, Err, length, cond, ◌⊎◌}
use Rattle.mi_base.specs.declared.records.LogEvent.{LogEvent}
use Rattle.mi_base.specs.declared.records.Op.{Op}
use Rattle.mi_base.specs.declared.records.Op.TheVariants.{Insert}
use Rattle.mi_base.specs.declared.records.Update.{Update}
use Rattle.mi_base.specs.declared.records.Update.TheVariants as update
use Rattle.mi_base.specs.Configuration.{metric_space, space_of}
use Rattle.mi_base.specs.History.{Entered, updates_of}
use Rattle.mi_base.specs.Permutations.{distances, permutation_of}
use Rattle.mi_tree.specs.declared.outcomes.Leaf.{Leaf}
use Rattle.mi_tree.specs.Cells.{depth}
use Rattle.mi_tree.specs.declared.answers.AllotRefusal.{AllotRefusal}
use Rattle.mi_tree.specs.declared.answers.AllotRefusal.TheVariants as allot
use Rattle.mi_tree.specs.declared.answers.LeafClaim.{LeafClaim}
use Rattle.mi_tree.specs.declared.answers.LeafClaim.TheVariants as claim
use Rattle.mi_tree.specs.declared.answers.Look.{Look}
use Rattle.mi_tree.specs.declared.answers.ReserveRefusal.{ReserveRefusal}
use Rattle.mi_tree.specs.declared.answers.ReserveRefusal.TheVariants as reserve
use Rattle.mi_world.specs.declared.answers.Commit.{Commit}
use Rattle.mi_world.specs.declared.answers.Commit.TheVariants as commit
use Rattle.mi_world.specs.declared.answers.Parted.{Parted}
use Rattle.mi_world.specs.declared.answers.Parted.TheVariants as part
use Rattle.mi_world.specs.declared.answers.ShardClaim.{ShardClaim}
use Rattle.mi_world.specs.declared.answers.ShardClaim.TheVariants as shard_claim
use Rattle.mi_world.specs.Boards.{Allots, Looks, Reserves}
use Rattle.mi_world.specs.Claims.{ClaimsLeaf, ClaimsShard, ReleasesLeaf, ReleasesShard, holds_leaf_of}
use Rattle.mi_world.specs.Pages.{CommitsInsert, MaySeek, PartsPage, is_crowded_leaf}
use Rattle.mi_tree.specs.Placing.{grid_under}
use Rattle.mi_world.specs.View.{View, Later, SameApart, shard_of}
use Rattle.mi_blink.specs.declared.post.Post.{Post}
use Rattle.mi_blink.specs.declared.post.PostTurn.{PostTurn}
use Rattle.mi_blink.specs.declared.post.PostTurn.TheVariants as post_turn
use Rattle.mi_blink.specs.declared.turns.Turn.{Turn}
use Rattle.mi_blink.specs.declared.turns.Turn.TheVariants as turn
use Rattle.mi_blink.specs.declared.turns.Why.{Why}
use Rattle.mi_blink.specs.declared.turns.Why.TheVariants as reason
use Rattle.mi_blink.specs.Descents.{Falls, IsRoot, descent, longest, post_most}
use Rattle.mi_blink.specs.Posting.{OwesOnly}
use Rattle.mi_blink.specs.Posting as posting
use Rattle.mi_update.specs.declared.endings.Ending.{Ending}
use Rattle.mi_update.specs.declared.endings.Ending.TheVariants as ending
use Rattle.mi_update.specs.declared.insert.InsertOp.{InsertOp}
use Rattle.mi_update.specs.declared.insert.InsertState.{InsertState}
use Rattle.mi_update.specs.declared.insert.InsertState.TheVariants.{Begin, Looking, Reserving, Claiming, Committing, Splitting, Allotting, Halving, Posting, Unclaiming, Releasing, Over}
use Rattle.mi_update.specs.Endings.{Answered, events_of, number_of, reply_of}
use Rattle.mi_update.specs.Stepping.{Advances, HeldLeaf, HeldShard, HoldsShard, added, entry_of}

-- an insert before its first section
pub record Begun (op : InsertOp) (id : ℕ) (vector : List ℤ) (dists : List ℕ) (number : ℕ) : Type 0 where
  pub id_is : op.id ≡ id
  pub vector_is : op.vector ≡ vector
  pub dists_are : op.dists.items ≡ dists
  pub op_is : op.op ≡ number
  pub state_is : op.state ≡ Begin

-- the permutation of the object, the operation, and the update that it makes
abbrev pub perm_in : InsertOp → List ℕ
perm_in op = permutation_of op.dists.items

abbrev pub asked : InsertOp → Op
asked op = Insert op.id op.vector

abbrev pub made : InsertOp → Update
made op = update.Insert op.id op.vector

-- the object fits the metric and is measured by the pivots, and the actor neither sweeps nor splits
pub record Fits (vector : List ℤ) (dists : List ℕ) (v : View) : Type 0 where
  pub measured : dists ≡ distances (space_of v.settings) vector
  pub fits : IsTrue ((metric_space v.settings).fits vector)
  pub idle : v.sweep ≡ None
  pub unsplit : v.splitting ≡ false

-- the shard is held and has no record of the identifier, room is reserved, and descents begin at this root
pub record Prepared (id root : ℕ) (v : View) : Type 0 where
  pub shard : v.shard ≡ Some (shard_of id)
  pub absent : v.records id ≡ None
  pub reserved : v.reserved ≡ true
  pub root_is : IsRoot v root

-- the claimed leaf is the one in hand
abbrev pub HasLeaf : Option Leaf → View → Type 0
HasLeaf None v = ⊥
HasLeaf (Some leaf) v = v.leaf ≡ Some leaf.prefix

-- the leaf of the object is claimed too, and its page is sought from this one on
pub record Seeking (id root : ℕ) (dists : List ℕ) (leaf : Option Leaf) (v : View) (page : ℕ) : Type 0 where
  pub prepared : Prepared id root v
  pub claimed : holds_leaf_of (permutation_of dists) v.leaf ≡ true
  pub leaf_is : HasLeaf leaf v
  pub seeks : MaySeek v page dists id
  pub small : v.level page ≤ 5

abbrev pub Seeks : InsertOp → View → ℕ → Type 0
Seeks op v page = Seeking op.id op.root op.dists.items op.leaf v page

-- a post is under way
abbrev pub PostIsReady : Option Post → View → Type 0
PostIsReady None v = ⊥
PostIsReady (Some post) v = posting.Ready post v

-- what a state needs of the actor
abbrev pub StateIsReady : InsertState → InsertOp → View → Type 0
StateIsReady Begin op v = (v.shard ≡ None) × (v.leaf ≡ None)
StateIsReady Looking op v = HoldsShard op.id v × IsSome (v.records op.id)
StateIsReady Reserving op v = HoldsShard op.id v × (v.records op.id ≡ None)
StateIsReady Claiming op v = Prepared op.id op.root v × (v.leaf ≡ None)
StateIsReady (Committing page) op v = Seeks op v page
StateIsReady Splitting op v = ⊥
StateIsReady (Allotting page) op v = Seeks op v page × (v.level page ≡ 0) × (is_some v.fresh ≡ false)
StateIsReady (Halving page) op v = Seeks op v page × (v.level page ≡ 0) × (is_some v.fresh ≡ true)
StateIsReady (Posting page) op v = Seeks op v page × PostIsReady op.post v
StateIsReady (Unclaiming e) op v = (v.shard ≡ Some (shard_of op.id)) × (holds_leaf_of (perm_in op) v.leaf ≡ true) × Answered (asked op) op.op v e
StateIsReady (Releasing e) op v = HoldsShard op.id v × Answered (asked op) op.op v e
StateIsReady (Over e) op v = ⊥

-- what an insert needs of its actor between two sections
pub record Ready (op : InsertOp) (v : View) : Type 0 where
  pub fits : Fits op.vector op.dists.items v
  pub state : StateIsReady op.state op v

-- what it needs while its leaf is split, and afterwards
pub record Waits (op : InsertOp) (v : View) : Type 0 where
  pub measured : op.dists.items ≡ distances (space_of v.settings) op.vector
  pub fits : IsTrue ((metric_space v.settings).fits op.vector)
  pub idle : v.sweep ≡ None
  pub prepared : Prepared op.id op.root v
  pub few : length (updates_of v.seen) ≤ v.settings.updates
  pub state_is : op.state ≡ Splitting

-- the split is over
pub record Freed (v : View) : Type 0 where
  pub leaf : v.leaf ≡ None
  pub unsplit : v.splitting ≡ false

-- how the insert ends where the split was given up for this reason
abbrev pub refusal_of : Why → Ending
refusal_of (reason.NoPages limit) = ending.NoPages limit
refusal_of reason.Memory = ending.Memory

-- the split was given up for this reason
abbrev pub GivenUp : View → Why → Type 0
GivenUp v (reason.NoPages limit) = (limit ≡ v.settings.pages) × IsTrue v.told
GivenUp v reason.Memory = Unit {0}

-- the number of the update, once it is entered
abbrev pub number_at : InsertState → Option ℕ
number_at (Unclaiming e) = number_of e
number_at (Releasing e) = number_of e
number_at (Over e) = number_of e
number_at state = None

abbrev pub number_in : InsertOp → Option ℕ
number_in op = number_at op.state

-- how many events the reply's position will have at least
abbrev pub since_at : InsertState → List LogEvent → ℕ
since_at (Unclaiming e) log = events_of e log
since_at (Releasing e) log = events_of e log
since_at (Over e) log = events_of e log
since_at state log = length log

abbrev pub since_in : InsertOp → View → ℕ
since_in op v = since_at op.state v.seen

-- the routes that are still to be posted
abbrev pub posts_of : Option Post → ℕ → Bool
posts_of None p = false
posts_of (Some post) p = posting.pending post p

abbrev pub pending_in : InsertState → Option Post → ℕ → Bool
pending_in (Posting page) post p = posts_of post p
pending_in state post p = false

-- how many splits can still come to the object's leaf
abbrev pub splits_left : InsertOp → View → ℕ
splits_left op v = v.settings.levels - depth (grid_under v.settings) v.seen (perm_in op)

abbrev pub post_left : Option Post → View → ℕ
post_left None v = 0
post_left (Some post) v = posting.left post v

-- How many sections are left before the next split of the object's leaf, while the budget stays, at most; where a split has so many.
abbrev pub left_in : ℕ → InsertState → Option Post → View → ℕ
left_in split Begin post v = split + 3 * longest + 10
left_in split Looking post v = 2
left_in split Reserving post v = split + 3 * longest + 9
left_in split Claiming post v = split + 3 * longest + 8
left_in split (Committing page) post v = split + 4 + 3 * descent v page
left_in split Splitting post v = split + 3
left_in split (Allotting page) post v = split + 3 + 3 * descent v page
left_in split (Halving page) post v = split + 3 + 3 * descent v page + cond (v.full page) 0 2
left_in split (Posting page) post v = split + 5 + 3 * descent v page + post_left post v
left_in split (Unclaiming e) post v = 2
left_in split (Releasing e) post v = 1
left_in split (Over e) post v = 0

-- more than any of these
unfoldable pub round : ℕ → ℕ
round split = split + 3 * longest + post_most + 11

-- how many sections are left while the budget stays, at most, where a split has so many
abbrev pub left : ℕ → InsertOp → View → ℕ
left split op v = splits_left op v * round split + left_in split op.state op.post v

-- where full pages are told, less is left
abbrev pub Lessens : InsertOp → View → InsertOp → View → Type 0
Lessens old v new w = (split : ℕ) → IsTrue w.tells_full → Falls v (left split old v) w (left split new w)

-- the shard was found held, or the leaf of the object
abbrev pub FindsHeld : InsertOp → View → Type 0
FindsHeld op w = ((op.state ≡ Begin) × HeldShard op.id w) ⊎ ((op.state ≡ Claiming) × HeldLeaf (perm_in op) w)

-- a claim was found held: the same section is to be made again
pub record StandsStill (old new : InsertOp) (w : View) : Type 0 where
  pub ready : Ready new w
  pub same : new ≡ old
  pub held : FindsHeld old w

-- the page was found full
pub record FindsFull (w : View) (page : ℕ) : Type 0 where
  pub page_is : w.page ≡ page
  pub items : w.items ≡ 32

-- the root that the post's latest look gave, after this section, or else the one in hand
abbrev pub root_of_post : Option Post → ℕ → View → ℕ
root_of_post None root w = root
root_of_post (Some post) root w = unwrap_or (posting.root_after post.state post.root w) root

-- the root in hand after a section: that of the reservation, and after a post that of its latest look
abbrev pub root_after : InsertState → InsertState → Option Post → ℕ → View → ℕ
root_after Reserving Claiming post root w = w.root
root_after (Posting page) (Committing p) post root w = root_of_post post root w
root_after old new post root w = root

-- Which section follows which, and what was found that leads there; root is the one in hand.
abbrev pub Follows : InsertState → InsertState → ℕ → View → Type 0
Follows Begin Begin root w = Unit {0}
Follows Begin Looking root w = Unit {0}
Follows Begin Reserving root w = Unit {0}
Follows Looking (Releasing (ending.Present p)) root w = Unit {0}
Follows Reserving Claiming root w = Unit {0}
Follows Reserving (Releasing (ending.Full limit)) root w = Unit {0}
Follows Reserving (Releasing ending.Memory) root w = Unit {0}
Follows Claiming Claiming root w = Unit {0}
Follows Claiming (Committing page) root w = page ≡ root
Follows (Committing page) (Committing p) root w = Unit {0}
Follows (Committing page) (Unclaiming (ending.Stored n)) root w = Unit {0}
Follows (Committing page) (Unclaiming (ending.Full limit)) root w = Unit {0}
Follows (Committing page) Splitting root w = IsTrue (is_crowded_leaf w.settings w.seen w.leaf)
Follows (Committing page) (Allotting p) root w = (p ≡ page) × FindsFull w page × (is_some w.fresh ≡ false)
Follows (Committing page) (Halving p) root w = (p ≡ page) × FindsFull w page × (is_some w.fresh ≡ true)
Follows (Allotting page) (Halving p) root w = (p ≡ page) × (is_some w.fresh ≡ true)
Follows (Allotting page) (Unclaiming (ending.NoPages limit)) root w = (is_some w.fresh ≡ false) × (w.allotted ≡ limit)
Follows (Allotting page) (Unclaiming ending.Memory) root w = (is_some w.fresh ≡ false) × IsTrue w.lacked
Follows (Halving page) (Committing p) root w = p ≡ page
Follows (Halving page) (Posting p) root w = p ≡ page
Follows (Posting page) (Posting p) root w = p ≡ page
Follows (Posting page) (Committing p) root w = p ≡ page
Follows (Unclaiming e) (Releasing f) root w = f ≡ e
Follows (Releasing e) (Over f) root w = f ≡ e
Follows old new root w = ⊥

-- where the answer to the claim of the shard leads
abbrev pub after_shard : ShardClaim → InsertState
after_shard shard_claim.Held = Begin
after_shard (shard_claim.Taken (Some r)) = Looking
after_shard (shard_claim.Taken None) = Reserving

-- where that to the reservation leads
abbrev pub after_reserve : Result Look ReserveRefusal → InsertState
after_reserve (Ok look) = Claiming
after_reserve (Err (reserve.Full limit)) = Releasing (ending.Full limit)
after_reserve (Err reserve.Memory) = Releasing ending.Memory

-- where that to the claim of the leaf leads: the descent begins at the root in hand
abbrev pub after_claim : LeafClaim → ℕ → InsertState
after_claim (claim.Taken leaf) root = Committing root
after_claim (claim.Held by) root = Claiming

-- where that to a commit leads: a full page has to be halved first, for which a fresh page is wanted
abbrev pub after_commit : Commit → ℕ → View → InsertState
after_commit (commit.Down p) page w = Committing p
after_commit (commit.Right p) page w = Committing p
after_commit (commit.Full limit) page w = Unclaiming (ending.Full limit)
after_commit commit.Crowded page w = Splitting
after_commit commit.PageFull page w = cond (is_some w.fresh) (Halving page) (Allotting page)
after_commit (commit.Done number) page w = Unclaiming (ending.Stored number)

-- a page was allotted, or the insert ends for want of it
abbrev pub after_allot : Result (Unit {0}) AllotRefusal → ℕ → InsertState
after_allot (Ok _) page = Halving page
after_allot (Err (allot.PagesFull limit)) page = Unclaiming (ending.NoPages limit)
after_allot (Err allot.Memory) page = Unclaiming ending.Memory

-- the page was halved, and the route of its upper half is posted before the insert goes on there; or it wasn't full any more
abbrev pub AfterHalf : Parted → ℕ → InsertOp → Type 0
AfterHalf (part.Parted key child) page new = (new.state ≡ Posting page) × (post : Post) × (new.post ≡ Some post) × posting.Begun post 1 key child
AfterHalf part.Roomy page new = new.state ≡ Committing page

-- the insert goes on at its page, and later descents begin at the root of the post's latest look
abbrev pub GoesBack : ℕ → Post → InsertOp → InsertOp → Type 0
GoesBack page post old new = (new.state ≡ Committing page) × (new.root ≡ unwrap_or post.root old.root)

-- the post goes on, or the insert does
abbrev pub AfterPost : PostTurn → ℕ → Post → InsertOp → InsertOp → Type 0
AfterPost post_turn.More page post old new = (new.state ≡ Posting page) × (new.post ≡ Some post) × (new.root ≡ old.root)
AfterPost post_turn.Done page post old new = GoesBack page post old new
AfterPost (post_turn.Left limit) page post old new = GoesBack page post old new
AfterPost post_turn.Memory page post old new = GoesBack page post old new

-- the section that each state makes of the actor, and where its answer leads
abbrev pub Makes : InsertState → InsertOp → View → InsertOp → View → Type 0
Makes Begin old v new w = (answer : ShardClaim) × ClaimsShard v w old.id answer × (new.state ≡ after_shard answer)
Makes Looking old v new w = (look : Look) × Looks v w look × (new.state ≡ Releasing (ending.Present look.at))
Makes Reserving old v new w = (answer : Result Look ReserveRefusal) × Reserves v w answer × (new.state ≡ after_reserve answer)
Makes Claiming old v new w = (answer : LeafClaim) × ClaimsLeaf v w (perm_in old) answer × (new.state ≡ after_claim answer old.root)
Makes (Committing page) old v new w =
    (answer : Commit) × CommitsInsert v w page old.op old.id old.vector old.dists.items answer × (new.state ≡ after_commit answer page w)
Makes Splitting old v new w = ⊥
Makes (Allotting page) old v new w = (answer : Result (Unit {0}) AllotRefusal) × Allots v w answer × (new.state ≡ after_allot answer page)
Makes (Halving page) old v new w = (answer : Parted) × PartsPage v w page answer × AfterHalf answer page new
Makes (Posting page) old v new w =
    (before : Post) × (after : Post) × (answer : PostTurn) × (old.post ≡ Some before) × posting.Turned before v answer after w
    × AfterPost answer page after old new
Makes (Unclaiming e) old v new w = ReleasesLeaf v w × (new.state ≡ Releasing e)
Makes (Releasing e) old v new w = ReleasesShard v w × (new.state ≡ Over e)
Makes (Over e) old v new w = ⊥

-- the claimed leaf is to be split, and this is it
pub record Crowds (op : InsertOp) (leaf : Leaf) (w : View) : Type 0 where
  pub leaf_is : w.leaf ≡ Some leaf.prefix
  pub claimed : holds_leaf_of (perm_in op) w.leaf ≡ true
  pub wanted : w.wanted ≡ true
  pub crowded : IsTrue (is_crowded_leaf w.settings w.seen w.leaf)
  pub unsplit : w.splitting ≡ false

-- what each answer says
abbrev pub Outcome : InsertOp → View → Turn → InsertOp → View → Type 0
Outcome old v turn.More new w = Ready new w × Lessens old v new w
Outcome old v turn.Held new w = StandsStill old new w
Outcome old v (turn.Crowded leaf) new w = Waits new w × Crowds new leaf w × Lessens old v new w
Outcome old v (turn.Done reply) new w = (w.shard ≡ None) × (w.leaf ≡ None) × (e : Ending) × (reply ≡ reply_of e) × (new.state ≡ Over e) × Answered (asked new) new.op w e

-- what a section of an insert makes of it and of its actor
pub record Turned (old : InsertOp) (v : View) (answer : Turn) (new : InsertOp) (w : View) : Type 0 where
  pub id_is : new.id ≡ old.id
  pub op_is : new.op ≡ old.op
  pub vector_is : new.vector ≡ old.vector
  pub dists_are : new.dists ≡ old.dists
  pub later : Later v w
  pub apart : SameApart v w
  pub advances : Advances old.op (made old) (number_in old) (number_in new) (since_in old v) (since_in new w) v w
  pub owes : (owed : ℕ → Bool) → OwesOnly owed (pending_in old.state old.post) v → OwesOnly owed (pending_in new.state new.post) w
  pub follows : Follows old.state new.state new.root w
  pub root_is : new.root ≡ root_after old.state new.state old.post old.root w
  pub makes : Makes old.state old v new w
  pub outcome : Outcome old v answer new w

-- What is kept from the first section to the last, whatever the actor's own updates, the events seen and the routes owed were at the
-- first: its own updates are those and what the insert added, the reply isn't of an earlier log, and no more routes are owed.
pub record Since (own : List Entered) (from : ℕ) (owed : ℕ → Bool) (op : InsertOp) (v : View) : Type 0 where
  pub own_is : v.own ≡ own ++ added (number_in op) (entry_of v op.op (made op))
  pub reaches : from ≤ since_in op v
  pub owes : OwesOnly owed (pending_in op.state op.post) v
