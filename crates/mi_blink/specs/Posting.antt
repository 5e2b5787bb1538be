-- A post between its sections, and what a section of it does.
use Rattle.std.specs.Prelude.{is_some, ◌≡◌, ◌≤◌, ◌<◌, ◌+◌, ◌*◌, ◌==◌, ◌||◌, ◌∷◌, ◌++◌, [], ℕ, List, Option, Some, None, Bool, true, false, IsTrue, IfSome, Result, Ok, Err, length, cond, nat_lt, ◌⊎◌}
use Rattle.std.specs.List.{list_any}
use Rattle.mi_tree.specs.declared.answers.AllotRefusal.{AllotRefusal}
use Rattle.mi_tree.specs.declared.answers.AllotRefusal.TheVariants as allot
use Rattle.mi_tree.specs.declared.answers.Look.{Look}
use Rattle.mi_world.specs.declared.answers.Parted.{Parted}
use Rattle.mi_world.specs.declared.answers.Parted.TheVariants as part
use Rattle.mi_world.specs.declared.answers.Put.{Put}
use Rattle.mi_world.specs.declared.answers.Put.TheVariants as put
use Rattle.mi_blink.specs.declared.post.Post.{Post}
use Rattle.mi_blink.specs.declared.post.PostState.{PostState}
use Rattle.mi_blink.specs.declared.post.PostState.TheVariants.{Looking, Posting, Allotting, Halving, Widening, Growing, Over}
use Rattle.mi_blink.specs.declared.post.PostTurn.{PostTurn}
use Rattle.mi_blink.specs.declared.post.PostTurn.TheVariants.{More, Done, Left, Memory}
use Rattle.mi_blink.specs.declared.post.Waiting.{Waiting}
use Rattle.mi_blink.specs.Descents.{IsRoot, Stands, Reached, Falls, budget, descent, longest}
use Rattle.mi_world.specs.Boards.{Allots, Grew, Looks}
use Rattle.mi_world.specs.Pages.{IsChildAt, PartsPage, Posts}
use Rattle.mi_world.specs.View.{View, Later, SameWork}

-- a post of this route before its first section
pub record Begun (op : Post) (level key child : ℕ) : Type 0 where
  pub level_is : op.level ≡ level
  pub key_is : op.key ≡ key
  pub child_is : op.child ≡ child
  pub state_is : op.state ≡ Looking
  pub waiting_is : op.waiting.items ≡ []
  pub root_is : op.root ≡ None

-- the route under way has ended: the last that waits goes on, or the post has ended
pub record Resumes (old new : Post) : Type 0 where
  pub waiting : List Waiting
  pub below : Waiting
  pub waited : old.waiting.items ≡ waiting ++ below ∷ []
  pub level_is : new.level ≡ below.level
  pub key_is : new.key ≡ below.key
  pub child_is : new.child ≡ below.child
  pub state_is : new.state ≡ Posting below.page
  pub waiting_is : new.waiting.items ≡ waiting
  pub root_is : new.root ≡ old.root

-- no route waits, and the post has ended
pub record Ends (old new : Post) : Type 0 where
  pub waited : old.waiting.items ≡ []
  pub waiting_is : new.waiting.items ≡ []
  pub child_is : new.child ≡ old.child
  pub state_is : new.state ≡ Over
  pub root_is : new.root ≡ old.root

-- the route under way has ended so: one that waited goes on, or the post has ended so
abbrev pub Pops : Post → PostTurn → PostTurn → Post → Type 0
Pops old end result new = (Resumes old new × (result ≡ More)) ⊎ (Ends old new × (result ≡ end))

-- a route may wait at its page for one a level up: fewer wait than there are levels below it, and it isn't of the greatest
pub record MayWait (op : Post) : Type 0 where
  pub few : length op.waiting.items < op.level
  pub low : op.level < 6

-- the route under way waits at the page, and that of the page's upper half is under way
pub record Waits (old : Post) (page key child : ℕ) (new : Post) : Type 0 where
  pub level_is : new.level ≡ old.level + 1
  pub key_is : new.key ≡ key
  pub child_is : new.child ≡ child
  pub state_is : new.state ≡ Looking
  pub waiting_is : new.waiting.items ≡ old.waiting.items ++ record { level = old.level; key = old.key; child = old.child; page = page } ∷ []
  pub root_is : new.root ≡ old.root

-- a route that waits at a page of its level where its key lies, so many before it
pub record WaitFits (v : View) (n : ℕ) (w : Waiting) : Type 0 where
  pub route : IsChildAt v w.level w.key w.child
  pub low : n < w.level
  pub page : Reached v w.page w.level w.key

-- each route that waits does so, the first of them with so many before it
abbrev pub EachWaits : View → ℕ → List Waiting → Type 0
EachWaits v n [] = Unit {0}
EachWaits v n (w ∷ ws) = WaitFits v n w × EachWaits v (n + 1) ws

-- what a state needs of the actor, for a route of this level and key
abbrev pub StateIsReady : PostState → ℕ → ℕ → View → Type 0
StateIsReady Looking level key v = Unit {0}
StateIsReady (Posting page) level key v = Stands v page level key
StateIsReady (Allotting page) level key v = Reached v page level key × (is_some v.fresh ≡ false)
StateIsReady (Halving page) level key v = Reached v page level key × (is_some v.fresh ≡ true)
StateIsReady Widening level key v = is_some v.fresh ≡ false
StateIsReady Growing level key v = is_some v.fresh ≡ true
StateIsReady Over level key v = ⊥

-- what a post needs of its actor between two sections
pub record Ready (op : Post) (v : View) : Type 0 where
  pub route : IsChildAt v op.level op.key op.child
  pub low : length op.waiting.items < op.level
  pub high : op.level ≤ 6
  pub waits : EachWaits v 0 op.waiting.items
  pub root_is : IfSome op.root (IsRoot v)
  pub state : StateIsReady op.state op.level op.key v

-- the route of this child waits
abbrev pub is_waiting : ℕ → List Waiting → Bool
is_waiting p ws = list_any (λ w. p == w.child) ws

-- the route of this child is still to be posted
abbrev pub pending : Post → ℕ → Bool
pending op p = (p == op.child) || is_waiting p op.waiting.items

-- none is where the post has ended
abbrev pub pending_after : PostTurn → Post → ℕ → Bool
pending_after More op p = pending op p
pending_after Done op p = false
pending_after (Left limit) op p = false
pending_after Memory op p = false

-- the child whose route the post is for: that of the first route that waits, and of the one under way where none does
abbrev pub first_child : List Waiting → ℕ → ℕ
first_child [] child = child
first_child (w ∷ ws) child = w.child

abbrev pub posted : Post → ℕ
posted op = first_child op.waiting.items op.child

-- Unless it was told that all pages are allotted, or memory was wanted for a page, no route is owed but of these children or of those.
abbrev pub OwesOnly : (ℕ → Bool) → (ℕ → Bool) → View → Type 0
OwesOnly start more v = (v.told || v.lacked) ≡ false → (p : ℕ) → IsTrue (v.owes p) → IsTrue (start p || more p)

-- how many sections are left of the routes that wait while the budget stays, at most
abbrev pub left_waiting : View → List Waiting → ℕ
left_waiting v [] = 0
left_waiting v (w ∷ ws) = 3 * descent v w.page + 2 + left_waiting v ws

-- and of the one under way: its descents, and what comes between them
abbrev pub left_in : PostState → ℕ → View → ℕ
left_in Looking level v = 3 * longest + cond (nat_lt v.least level) 4 2
left_in (Posting page) level v = 3 * descent v page + 1
left_in (Allotting page) level v = 3 * descent v page
left_in (Halving page) level v = 3 * descent v page + cond (v.full page) 0 2
left_in Widening level v = 3 * longest + 3
left_in Growing level v = 3 * longest + 3
left_in Over level v = 0

-- and of the post
abbrev pub left : Post → View → ℕ
left op v = left_in op.state op.level v + left_waiting v op.waiting.items

-- A page is wanted only where the page of the route has 32 items, or the root is below the route's level, and no fresh page is in hand.
abbrev pub Cause : PostState → ℕ → View → Type 0
Cause Looking level w = Unit {0}
Cause (Posting page) level w = Unit {0}
Cause (Allotting page) level w = (w.page ≡ page) × (w.items ≡ 32) × (is_some w.fresh ≡ false)
Cause (Halving page) level w = Unit {0}
Cause Widening level w = (w.height < level) × (is_some w.fresh ≡ false)
Cause Growing level w = Unit {0}
Cause Over level w = Unit {0}

-- the route under way can't go on before a page is allotted
abbrev pub wants_page : PostState → Bool
wants_page (Allotting page) = true
wants_page Widening = true
wants_page s = false

-- A look begins a descent at the root that it gave, unless that is too low. Where a page is wanted, the route that the post is for goes on only
-- with one in hand.
abbrev pub Leads : PostState → Post → Post → View → Type 0
Leads Looking old new w = (new.root ≡ Some w.root) × ((new.state ≡ Posting w.root) ⊎ (w.height < new.level))
Leads (Posting page) old new w = Unit {0}
Leads (Allotting page) old new w = old.waiting.items ≡ [] → is_some w.fresh ≡ true
Leads (Halving page) old new w = Unit {0}
Leads Widening old new w = old.waiting.items ≡ [] → is_some w.fresh ≡ true
Leads Growing old new w = Unit {0}
Leads Over old new w = ⊥

-- the route under way goes on in this state
pub record GoesOn (old : Post) (state : PostState) (turn : PostTurn) (new : Post) : Type 0 where
  pub turn_is : turn ≡ More
  pub level_is : new.level ≡ old.level
  pub key_is : new.key ≡ old.key
  pub child_is : new.child ≡ old.child
  pub waiting_is : new.waiting ≡ old.waiting
  pub state_is : new.state ≡ state

-- where a look leads: down from the root, or to a new root where that is too low
abbrev pub after_look : Look → ℕ → View → PostState
after_look look level w = cond (nat_lt look.height level) (cond (is_some w.fresh) Growing Widening) (Posting look.root)

-- where the answer of a section at a page leads: a full page has to be halved first, for which a fresh page is wanted
abbrev pub AfterPut : Put → ℕ → Post → PostTurn → Post → View → Type 0
AfterPut (put.Down p) page old turn new w = GoesOn old (Posting p) turn new
AfterPut (put.Right p) page old turn new w = GoesOn old (Posting p) turn new
AfterPut put.PageFull page old turn new w = GoesOn old (cond (is_some w.fresh) (Halving page) (Allotting page)) turn new
AfterPut put.Done page old turn new w = Pops old Done turn new

-- a page was allotted, or the route under way has ended without it
abbrev pub AfterAllot : Result (Unit {0}) AllotRefusal → PostState → Post → PostTurn → Post → Type 0
AfterAllot (Ok _) state old turn new = GoesOn old state turn new
AfterAllot (Err (allot.PagesFull limit)) state old turn new = Pops old (Left limit) turn new
AfterAllot (Err allot.Memory) state old turn new = Pops old Memory turn new

-- the page was halved, and the route of its upper half is posted first; or it wasn't full any more
abbrev pub AfterHalf : Parted → ℕ → Post → PostTurn → Post → Type 0
AfterHalf (part.Parted key child) page old turn new = Waits old page key child new × (turn ≡ More)
AfterHalf part.Roomy page old turn new = GoesOn old (Posting page) turn new

-- the root grew by the route, or another one had grown
abbrev pub AfterGrow : Bool → Post → PostTurn → Post → Type 0
AfterGrow true old turn new = Pops old Done turn new
AfterGrow false old turn new = GoesOn old Looking turn new

-- the section that each state makes of the actor, and where its answer leads
abbrev pub Makes : PostState → Post → View → PostTurn → Post → View → Type 0
Makes Looking old v turn new w = (look : Look) × Looks v w look × GoesOn old (after_look look old.level w) turn new
Makes (Posting page) old v turn new w = (answer : Put) × Posts v w page old.level old.key old.child answer × AfterPut answer page old turn new w
Makes (Allotting page) old v turn new w = (answer : Result (Unit {0}) AllotRefusal) × Allots v w answer × AfterAllot answer (Halving page) old turn new
Makes (Halving page) old v turn new w = (answer : Parted) × PartsPage v w page answer × AfterHalf answer page old turn new
Makes Widening old v turn new w = (answer : Result (Unit {0}) AllotRefusal) × Allots v w answer × AfterAllot answer Growing old turn new
Makes Growing old v turn new w = (answer : Bool) × Grew v w old.level old.child answer × AfterGrow answer old turn new
Makes Over old v turn new w = ⊥

-- the refusal of a page ends the post where that was wanted for the route that the post is for
pub record LacksPage (old : Post) (w : View) : Type 0 where
  pub wanted : wants_page old.state ≡ true
  pub waiting_is : old.waiting.items ≡ []
  pub fresh : is_some w.fresh ≡ false

-- What each answer says. The route that the post is for isn't owed any more where it is done, whatever was refused on the way.
abbrev pub Outcome : Post → View → PostTurn → Post → View → Type 0
Outcome old v More new w = Ready new w × (IsTrue w.tells_full → Falls v (left old v) w (left new w)) × Leads old.state old new w
Outcome old v Done new w = (new.state ≡ Over) × (budget w ≤ budget v) × (wants_page old.state ≡ false) × (w.owes (posted new) ≡ false)
Outcome old v (Left limit) new w =
    (new.state ≡ Over) × (limit ≡ w.settings.pages) × (w.allotted ≡ limit) × (is_some w.fresh ≡ false) × IsTrue w.told × (budget w ≤ budget v) × LacksPage old w
Outcome old v Memory new w = (new.state ≡ Over) × IsTrue w.lacked × (budget w ≤ budget v) × LacksPage old w

-- the root that the latest look gave, after a section
abbrev pub root_after : PostState → Option ℕ → View → Option ℕ
root_after Looking root w = Some w.root
root_after state root w = root

-- what a section of a post makes of it and of its actor
pub record Turned (old : Post) (v : View) (turn : PostTurn) (new : Post) (w : View) : Type 0 where
  pub later : Later v w
  pub work : SameWork v w
  pub makes : Makes old.state old v turn new w
  pub posted_is : posted new ≡ posted old
  pub owes : (start : ℕ → Bool) → OwesOnly start (pending old) v → OwesOnly start (pending_after turn new) w
  pub root_is : IfSome new.root (IsRoot w)
  pub latest : new.root ≡ root_after old.state old.root w
  pub cause : Cause new.state new.level w
  pub outcome : Outcome old v turn new w
