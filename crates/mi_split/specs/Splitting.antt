-- A split between its sections, and what a section of it does.
use Rattle.std.specs.Prelude.{◌≡◌, ◌≤◌, ◌<◌, ◌+◌, ◌-◌, ◌*◌, ℕ, Option, Some, None, Bool, true, false, IsTrue, Result, Ok, Err, is_some, length, cond, nat_lt, unwrap_or}
use Rattle.mi_base.specs.declared.limits.TheConstants.{MAX_UPDATES}
use Rattle.mi_base.specs.declared.records.Position.{Position}
use Rattle.mi_base.specs.declared.refusals.NoMemory.{NoMemory}
use Rattle.mi_tree.specs.declared.answers.AllotRefusal.{AllotRefusal}
use Rattle.mi_tree.specs.declared.answers.AllotRefusal.TheVariants as allot
use Rattle.mi_tree.specs.declared.answers.Look.{Look}
use Rattle.mi_tree.specs.declared.outcomes.Leaf.{Leaf}
use Rattle.mi_world.specs.declared.answers.Parted.{Parted}
use Rattle.mi_world.specs.declared.answers.Parted.TheVariants as part
use Rattle.mi_world.specs.declared.answers.Put.{Put}
use Rattle.mi_world.specs.declared.answers.Put.TheVariants as put
use Rattle.mi_world.specs.declared.answers.Visit.{Visit}
use Rattle.mi_world.specs.declared.answers.Visit.TheVariants as visit
use Rattle.mi_world.specs.Boards.{Allots, Looks}
use Rattle.mi_world.specs.Pages.{PartsPage}
use Rattle.mi_world.specs.Splits.{CopiesIn, Gathers, GivesUp, IsGathered, MayGather, Publishes, Uncopies, copied_in, gather_key, gathered_in, last_copy, next_copy}
use Rattle.mi_world.specs.View.{View, Later, SameUpdate, SameSweep, SameActors}
use Rattle.mi_blink.specs.declared.post.Post.{Post}
use Rattle.mi_blink.specs.declared.post.PostTurn.{PostTurn}
use Rattle.mi_blink.specs.declared.post.PostTurn.TheVariants as post_turn
use Rattle.mi_blink.specs.declared.turns.Why.{Why as Reason}
use Rattle.mi_blink.specs.declared.turns.Why.TheVariants.{NoPages, Memory}
use Rattle.mi_blink.specs.Descents.{Falls, IsRoot, Stands, budget, descent, longest, post_most}
use Rattle.mi_blink.specs.Posting as posting
use Rattle.mi_blink.specs.Posting.{OwesOnly}
use Rattle.mi_split.specs.declared.split.SplitOp.{SplitOp}
use Rattle.mi_split.specs.declared.split.SplitState.{SplitState}
use Rattle.mi_split.specs.declared.split.SplitState.TheVariants.{Looking, Gathering, Copying, Allotting, Halving, Posting, Publishing, Undoing, GivingUp, Published, GivenUp}
use Rattle.mi_split.specs.declared.split.SplitTurn.{SplitTurn}
use Rattle.mi_split.specs.declared.split.SplitTurn.TheVariants as turn

-- a split of this leaf before its first section
pub record Begun (op : SplitOp) (leaf : Leaf) : Type 0 where
  pub leaf_is : op.leaf ≡ leaf
  pub state_is : op.state ≡ Looking

-- where a split is given up for want of pages, it was told that all are allotted
abbrev pub IsWhy : Reason → View → Type 0
IsWhy (NoPages limit) v = (limit ≡ v.settings.pages) × IsTrue v.told
IsWhy Memory v = Unit {0}

-- the whole leaf is gathered, a copy more is to be made, and a look gave this root
pub record MayCopy (root : ℕ) (v : View) : Type 0 where
  pub whole : IsGathered v
  pub more : v.copied < length v.copies
  pub few : length v.copies ≤ MAX_UPDATES
  pub root_is : IsRoot v root

-- a copy is there to be taken back
pub record MayUndo (v : View) : Type 0 where
  pub splitting : v.splitting ≡ true
  pub some : 0 < v.copied
  pub few : v.copied ≤ MAX_UPDATES

-- a post is under way, and it is ready
abbrev pub PostIsReady : Option Post → View → Type 0
PostIsReady None v = ⊥
PostIsReady (Some post) v = posting.Ready post v

-- What a state needs of the actor: a page at which its descent may stand, and what its call needs. No section follows the end.
abbrev pub StateIsReady : SplitState → ℕ → Option Post → View → Type 0
StateIsReady Looking root post v = MayGather v × (v.splitting ≡ false)
StateIsReady (Gathering page) root post v = MayGather v × (copied_in v ≡ 0) × Stands v page 0 (gather_key v) × IsRoot v root
StateIsReady (Copying page) root post v = MayCopy root v × Stands v page 0 (next_copy v)
StateIsReady (Allotting page) root post v = MayCopy root v × Stands v page 0 (next_copy v) × (v.level page ≡ 0) × (is_some v.fresh ≡ false)
StateIsReady (Halving page) root post v = MayCopy root v × Stands v page 0 (next_copy v) × (v.level page ≡ 0) × (is_some v.fresh ≡ true)
StateIsReady (Posting page) root post v = MayCopy root v × Stands v page 0 (next_copy v) × PostIsReady post v
StateIsReady Publishing root post v = IsGathered v × (v.copied ≡ length v.copies) × (length v.copies ≤ MAX_UPDATES) × IsRoot v root
StateIsReady (Undoing page why) root post v = MayUndo v × Stands v page 0 (last_copy v) × IsWhy why v × IsRoot v root
StateIsReady (GivingUp why) root post v = (copied_in v ≡ 0) × IsWhy why v
StateIsReady Published root post v = ⊥
StateIsReady (GivenUp why) root post v = ⊥

-- what a split needs of its actor between two sections: the claim of its leaf, and what its state needs
pub record Ready (op : SplitOp) (v : View) : Type 0 where
  pub claimed : v.leaf ≡ Some op.leaf.prefix
  pub state : StateIsReady op.state op.root op.post v

-- the next copy begins at the root, or the split is published where all are made
abbrev pub copy_next : ℕ → View → SplitState
copy_next root v = cond (nat_lt (copied_in v) (gathered_in v)) (Copying root) Publishing

-- the last copy is taken back from the root on, or the split is given up where none is left
abbrev pub undo_next : Reason → ℕ → View → SplitState
undo_next why root v = cond (nat_lt 0 (copied_in v)) (Undoing root why) (GivingUp why)

-- where the answer of a gather leads: to the page that it names; the whole leaf is gathered where it names none
abbrev pub after_gather : Result Visit NoMemory → ℕ → View → SplitState
after_gather (Ok (visit.Down p)) root w = Gathering p
after_gather (Ok (visit.Right p)) root w = Gathering p
after_gather (Ok (visit.Read (Some p))) root w = Gathering p
after_gather (Ok (visit.Read None)) root w = copy_next root w
after_gather (Err e) root w = GivingUp Memory

-- where the answer of a copy leads: a full page has to be halved first, for which a fresh page is wanted
abbrev pub after_copy : Put → ℕ → ℕ → View → SplitState
after_copy (put.Down p) page root w = Copying p
after_copy (put.Right p) page root w = Copying p
after_copy put.PageFull page root w = cond (is_some w.fresh) (Halving page) (Allotting page)
after_copy put.Done page root w = copy_next root w

-- a page was allotted for a copy, or the copies are taken back for want of it
abbrev pub after_allot : Result (Unit {0}) AllotRefusal → ℕ → ℕ → View → SplitState
after_allot (Ok _) page root w = Halving page
after_allot (Err (allot.PagesFull limit)) page root w = undo_next (NoPages limit) root w
after_allot (Err allot.Memory) page root w = undo_next Memory root w

-- the page of a copy was halved, and the route of its upper half is posted before the copy goes on; or it wasn't full any more
abbrev pub AfterHalf : Parted → ℕ → SplitOp → Type 0
AfterHalf (part.Parted key child) page new = (new.state ≡ Posting page) × (post : Post) × (new.post ≡ Some post) × posting.Begun post 1 key child
AfterHalf part.Roomy page new = new.state ≡ Copying page

-- the post goes on, or the copy does at its page, where later descents begin at the root of the post's latest look
abbrev pub AfterPost : PostTurn → ℕ → Post → SplitOp → SplitOp → Type 0
AfterPost post_turn.More page post old new = (new.state ≡ Posting page) × (new.post ≡ Some post) × (new.root ≡ old.root)
AfterPost answer page post old new = (new.state ≡ Copying page) × (new.root ≡ unwrap_or post.root old.root)

-- a refused publish takes the copies back
abbrev pub after_publish : Result Position NoMemory → ℕ → View → SplitState
after_publish (Ok position) root w = Published
after_publish (Err e) root w = undo_next Memory root w

-- where the answer of an uncopy leads; no page is too full for it
abbrev pub after_uncopy : Put → Reason → ℕ → View → SplitState
after_uncopy (put.Down p) why root w = Undoing p why
after_uncopy (put.Right p) why root w = Undoing p why
after_uncopy put.PageFull why root w = GivingUp why
after_uncopy put.Done why root w = undo_next why root w

-- the leaf is passed over exactly where pages were wanting
abbrev pub for_pages : Reason → Bool
for_pages (NoPages limit) = true
for_pages Memory = false

-- the section that each state makes of the actor, and where its answer leads: to a state and a root for later descents
abbrev pub Makes : SplitState → SplitOp → View → SplitOp → View → Type 0
Makes Looking old v new w = (look : Look) × Looks v w look × (new.state ≡ Gathering look.root) × (new.root ≡ look.root)
Makes (Gathering page) old v new w =
    (answer : Result Visit NoMemory) × Gathers v w page answer × (new.state ≡ after_gather answer old.root w) × (new.root ≡ old.root)
Makes (Copying page) old v new w =
    (answer : Put) × CopiesIn v w page answer × (new.state ≡ after_copy answer page old.root w) × (new.root ≡ old.root)
Makes (Allotting page) old v new w =
    (answer : Result (Unit {0}) AllotRefusal) × Allots v w answer × (new.state ≡ after_allot answer page old.root w) × (new.root ≡ old.root)
Makes (Halving page) old v new w = (answer : Parted) × PartsPage v w page answer × AfterHalf answer page new × (new.root ≡ old.root)
Makes (Posting page) old v new w =
    (before : Post) × (after : Post) × (answer : PostTurn) × (old.post ≡ Some before) × posting.Turned before v answer after w
    × AfterPost answer page after old new
Makes Publishing old v new w =
    (answer : Result Position NoMemory) × Publishes v w answer × (new.state ≡ after_publish answer old.root w) × (new.root ≡ old.root)
Makes (Undoing page why) old v new w =
    (answer : Put) × Uncopies v w page answer × (new.state ≡ after_uncopy answer why old.root w) × (new.root ≡ old.root)
Makes (GivingUp why) old v new w = GivesUp v w (for_pages why) × (new.state ≡ GivenUp why)
Makes Published old v new w = ⊥
Makes (GivenUp why) old v new w = ⊥

-- the routes that are still to be posted: those of a post
abbrev pub posts_of : Option Post → ℕ → Bool
posts_of None p = false
posts_of (Some post) p = posting.pending post p

-- and none where no post is under way
abbrev pub pending_in : SplitState → Option Post → ℕ → Bool
pending_in (Posting page) post p = posts_of post p
pending_in state post p = false

-- the flag of copies taken back early stands as it stood, but where memory was wanting
abbrev pub EarlyUnless : Reason → Bool → View → Type 0
EarlyUnless (NoPages limit) early v = v.early ≡ early
EarlyUnless Memory early v = Unit {0}

-- as it stood before the first section, until copies are taken back
abbrev pub EarlyIs : SplitState → Bool → View → Type 0
EarlyIs (Undoing page why) early v = EarlyUnless why early v
EarlyIs (GivingUp why) early v = EarlyUnless why early v
EarlyIs (GivenUp why) early v = EarlyUnless why early v
EarlyIs state early v = v.early ≡ early

-- What is kept from the first section to the last: the flag, and that no routes are owed but those before and those to be posted, unless pages
-- or memory were wanting.
pub record Since (owed : ℕ → Bool) (early : Bool) (op : SplitOp) (v : View) : Type 0 where
  pub owes : OwesOnly owed (pending_in op.state op.post) v
  pub early_is : EarlyIs op.state early v

-- how many sections are left of a post under way, at most, while the budget stays
abbrev pub post_left : Option Post → View → ℕ
post_left None v = 0
post_left (Some post) v = posting.left post v

-- and of one copy
unfoldable pub per_copy : ℕ
per_copy = 3 * longest + 8

-- and of taking one back
unfoldable pub per_undo : ℕ
per_undo = longest + 2

-- and of taking back all copies, and of what follows
abbrev pub undo_most : ℕ
undo_most = MAX_UPDATES * per_undo + 3

-- and of the copies after the next one
abbrev pub copies_left : View → ℕ
copies_left v = (length v.copies - (v.copied + 1)) * per_copy

-- and of all copies, and of what follows
abbrev pub copy_most : ℕ
copy_most = undo_most + MAX_UPDATES * per_copy + 12

-- and of the split in each state: its descent, the copies, and what taking them back would need
abbrev pub left_in : SplitState → Option Post → View → ℕ
left_in Looking post v = copy_most + longest + 1
left_in (Gathering page) post v = copy_most + descent v page
left_in (Copying page) post v = undo_most + 2 + copies_left v + 3 * descent v page + 4
left_in (Allotting page) post v = undo_most + 2 + copies_left v + 3 * descent v page + 3
left_in (Halving page) post v = undo_most + 2 + copies_left v + 3 * descent v page + 3 + cond (v.full page) 0 2
left_in (Posting page) post v = undo_most + 2 + copies_left v + 3 * descent v page + 5 + post_left post v
left_in Publishing post v = undo_most + 1
left_in (Undoing page why) post v = (v.copied - 1) * per_undo + descent v page + 2
left_in (GivingUp why) post v = 1
left_in Published post v = 0
left_in (GivenUp why) post v = 0

-- and of the split
abbrev pub left : SplitOp → View → ℕ
left op v = left_in op.state op.post v

-- how many sections a split has while the budget stays, at most
unfoldable pub split_most : ℕ
split_most = copy_most + longest + post_most + 2

-- A split that goes on is ready, and less is left of it. It is published with all its copies, or given up with none.
abbrev pub Outcome : SplitOp → View → SplitTurn → SplitOp → View → Type 0
Outcome old v turn.More new w = Ready new w × (IsTrue w.tells_full → Falls v (left old v) w (left new w))
Outcome old v (turn.Published position) new w =
    (new.state ≡ Published) × Publishes v w (Ok position) × (copied_in v ≡ gathered_in v) × (budget w ≤ budget v)
Outcome old v (turn.GivenUp why) new w =
    (new.state ≡ GivenUp why) × GivesUp v w (for_pages why) × (copied_in v ≡ 0) × IsWhy why w × (budget w ≤ budget v)

-- what a section of a split makes of it and of its actor
pub record Turned (old : SplitOp) (v : View) (answer : SplitTurn) (new : SplitOp) (w : View) : Type 0 where
  pub later : Later v w
  pub update : SameUpdate v w
  pub sweep : SameSweep v w
  pub actors : SameActors v w
  pub pin : w.pin ≡ v.pin
  pub leaf : new.leaf ≡ old.leaf
  pub makes : Makes old.state old v new w
  pub since : (owed : ℕ → Bool) (early : Bool) → Since owed early old v → Since owed early new w
  pub outcome : Outcome old v answer new w
