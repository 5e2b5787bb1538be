-- Sections of pages: where a descent goes on, what a visit offers, commits, halves and routes.
use Rattle.std.specs.Prelude.{◌≡◌, ◌≢◌, ◌≤◌, ◌<◌, ◌+◌, ◌&&◌, ◌∷◌, ◌^◌, ◌++◌, [], ℕ, ℤ, List, Option, Some, None, Bool, true, false, IsTrue, length, unwrap_or, is_some}
use Rattle.std.specs.List.{list_any}
use Rattle.mi_base.specs.declared.records.LogEvent.{LogEvent}
use Rattle.mi_base.specs.declared.records.LogEvent.TheVariants.{Update as Made}
use Rattle.mi_base.specs.declared.records.Update.{Update}
use Rattle.mi_base.specs.declared.records.Update.TheVariants as update
use Rattle.mi_base.specs.Configuration.{Configuration, metric_space, space_of}
use Rattle.mi_base.specs.History.{updates_of, is_live}
use Rattle.mi_base.specs.Permutations.{distances, key_distance, permutation_of}
use Rattle.mi_key.specs.declared.entries.Entry.{Entry}
use Rattle.mi_key.specs.declared.ranges.Interval.{Interval}
use Rattle.mi_key.specs.Clusters.{cluster_of}
use Rattle.mi_key.specs.Entries.{Offering}
use Rattle.mi_key.specs.Keys.{parts_of}
use Rattle.mi_key.specs.Ranges.{is_within}
use Rattle.mi_tree.specs.Cells.{same_cell}
use Rattle.mi_tree.specs.Counting.{has_leaf, is_crowded}
use Rattle.mi_tree.specs.Legal.{cells_of}
use Rattle.mi_world.specs.declared.answers.Commit.{Commit}
use Rattle.mi_world.specs.declared.answers.Commit.TheVariants as commit
use Rattle.mi_world.specs.declared.answers.Parted.{Parted}
use Rattle.mi_world.specs.declared.answers.Parted.TheVariants.{Parted as HasParted, Roomy}
use Rattle.mi_world.specs.declared.answers.Put.{Put}
use Rattle.mi_world.specs.declared.answers.Put.TheVariants as put
use Rattle.mi_world.specs.declared.answers.Record.{Record}
use Rattle.mi_world.specs.declared.answers.Visit.{Visit}
use Rattle.mi_world.specs.declared.answers.Visit.TheVariants.{Down, Right, Read}
use Rattle.mi_world.specs.Boards.{owing, paying}
use Rattle.mi_world.specs.Claims.{holds_leaf_of}
use Rattle.mi_key.specs.Shown.{within, below, from_on, offerings}
use Rattle.mi_world.specs.LeafKeys.{key_under, shown}
use Rattle.mi_tree.specs.Growing.{Grows}
use Rattle.mi_world.specs.View.{View, Later, SameOwn, SameUpdate, SameLeaf, SameBoard, SameTry, SeesBoard, shard_of, prefix_or, SameWork, SameApart}

-- where a descent goes on

-- the page is above the level sought, and one a level lower is named
pub record GoesDown (old new : View) (page p sought key : ℕ) : Type 0 where
  pub above : sought < old.level page
  pub named : IsTrue (new.named p)
  pub level_is : new.level p + 1 ≡ old.level page
  pub low_is : new.low p ≤ key

-- the page is at the level sought, the key isn't below its high key, and its right sibling is named
pub record GoesRight (old new : View) (page p sought key : ℕ) : Type 0 where
  pub reached : old.level page ≡ sought
  pub named : IsTrue (new.named p)
  pub level_is : new.level p ≡ old.level page
  pub low_is : new.low p ≤ key
  pub after : old.low page < new.low p
  pub small : new.low p < 2 ^ 128
  pub high_is : new.high ≡ Some (new.low p)

abbrev pub IsBelow : ℕ → Option ℕ → Type 0
IsBelow key None = Unit {0}
IsBelow key (Some high) = key < high

-- the page is at the level sought, and the key lies in it
pub record IsReached (old new : View) (page sought key : ℕ) : Type 0 where
  pub reached : old.level page ≡ sought
  pub below_high : IsBelow key new.high

-- the page has 32 items, and had them before
pub record IsFullPage (old new : View) (page : ℕ) : Type 0 where
  pub many : new.items ≡ 32
  pub was_full : IsTrue old.tells_full → IsTrue (old.full page)
  pub told_full : IsTrue new.tells_full → IsTrue (new.full page)

-- a page that had fewer than 32 items has taken one, or had it already
pub record HasTaken (old new : View) (page : ℕ) : Type 0 where
  pub some : 1 ≤ new.items
  pub few : new.items ≤ 32
  pub was_roomy : IsTrue old.tells_full → old.full page ≡ false

-- the page goes on at its right sibling where that begins no later than this key, else not at all
abbrev pub ReadsTo : View → View → ℕ → ℕ → Option ℕ → Type 0
ReadsTo old new page to None = IsBelow to new.high
ReadsTo old new page to (Some p) =
    IsTrue (new.named p) × (new.level p ≡ 0) × (new.low p ≤ to) × (old.low page < new.low p) × (new.low p < 2 ^ 128) × (new.high ≡ Some (new.low p))

-- visits

abbrev pub VisitAnswer : View → View → ℕ → Interval → Visit → Type 0
VisitAnswer old new page range (Down p) = GoesDown old new page p 0 range.from
VisitAnswer old new page range (Right p) = GoesRight old new page p 0 range.from
VisitAnswer old new page range (Read next) = IsReached old new page 0 range.from × ReadsTo old new page range.to next

pub record Visits (old new : View) (page : ℕ) (range : Interval) (result : Visit) : Type 0 where
  pub later : Later old new
  pub same : SameOwn old new
  pub floor : new.floor ≡ old.floor
  pub board : SameBoard old new
  pub tries : SameTry old new
  pub page_is : new.page ≡ page
  pub answer : VisitAnswer old new page range result

abbrev pub pinned : View → List LogEvent
pinned v = unwrap_or v.pin []

-- what a visit offers: what is shown at the pin under the interval's keys that lie on the page
abbrev pub offered_by : View → View → ℕ → Interval → Visit → List Offering
offered_by old new page range (Down p) = []
offered_by old new page range (Right p) = []
offered_by old new page range (Read None) = offerings (from_on (old.low page) (within range (shown old.settings (pinned old))))
offered_by old new page range (Read (Some p)) = offerings (below (new.low p) (from_on (old.low page) (within range (shown old.settings (pinned old)))))

-- the interval lies in the cell of one pinned leaf
pub record IsInLeaf (v : View) (range : Interval) : Type 0 where
  pub prefix : List ℕ
  pub is_leaf : has_leaf prefix (cells_of v.settings (pinned v)) ≡ true
  pub inside : (key : ℕ) → IsTrue (is_within range key) → (parts_of key).cluster ≡ cluster_of (length v.settings.pivots) v.settings.levels prefix

-- the sieve takes each entry whose vector fits and whose distances are the vector's
abbrev pub TakesAll : View → (Entry → Type 0) → Type 0
TakesAll v takes = (e : Entry) → IsTrue ((metric_space v.settings).fits e.vector) → e.dists.items ≡ distances (space_of v.settings) e.vector → takes e

-- the page may be visited for the interval: it is a leaf page, or begins no later than the interval
abbrev pub MayVisit : View → ℕ → Interval → Type 0
MayVisit v page range = 1 ≤ v.level page → v.low page ≤ range.from

-- commits

-- the key of an insert under the claimed leaf, at a birth number
abbrev pub insert_key : View → List ℕ → ℕ → ℕ → ℕ
insert_key v dists id birth = key_under v.settings (prefix_or v.leaf) (key_distance dists) id birth

-- the number of the update after those that were seen
abbrev pub next_number : View → ℕ
next_number v = length (updates_of v.seen) + 1

-- the page isn't right of the key that an insert seeks: that of birth 0 above the leaf pages, that of the next number at one
pub record MaySeek (v : View) (page : ℕ) (dists : List ℕ) (id : ℕ) : Type 0 where
  pub named : IsTrue (v.named page)
  pub above : 1 ≤ v.level page → v.low page ≤ insert_key v dists id 0
  pub at_leaf : v.level page ≡ 0 → v.low page ≤ insert_key v dists id (next_number v)

-- the claimed leaf takes no insert before it is split
abbrev pub is_crowded_leaf : Configuration → List LogEvent → Option (List ℕ) → Bool
is_crowded_leaf c log leaf = list_any (λ l. same_cell (prefix_or leaf) l.prefix && is_crowded c.levels c.cell l) (cells_of c log)

abbrev pub HasRoom : View → Type 0
HasRoom v = length (updates_of v.seen) < v.settings.updates

-- the log has as many updates as it may have
pub record IsFullLog (new : View) (limit : ℕ) : Type 0 where
  pub limit_is : limit ≡ new.settings.updates
  pub many : length (updates_of new.seen) ≡ limit

-- The update entered the log under this number, which had room, and the identifier was not live, or was.
pub record Enters (old new : View) (op id : ℕ) (u : Update) (was_live : Bool) (number : ℕ) : Type 0 where
  pub before : List LogEvent
  pub grows : Grows old.seen before
  pub room : length (updates_of before) < new.settings.updates
  pub known : is_live id (updates_of before) ≡ was_live
  pub seen : new.seen ≡ before ++ Made new.actor op u ∷ []
  pub number_is : number ≡ length (updates_of before) + 1
  pub own : new.own ≡ old.own ++ record { session = new.actor; op = op; update = u } ∷ []
  pub shard : new.shard ≡ old.shard
  pub records : (i : ℕ) → i ≢ id → new.records i ≡ old.records i
  pub reserved : new.reserved ≡ false

-- the identifier's record in the shard
pub record Recorded (new : View) (id number : ℕ) (dists : List ℕ) : Type 0 where
  pub kept : Record
  pub is : new.records id ≡ Some kept
  pub birth_is : kept.birth ≡ number
  pub dists_are : kept.dists.items ≡ dists

-- no update entered, and the claimed leaf is as it was
pub record NotEntered (old new : View) : Type 0 where
  pub update : SameUpdate old new
  pub leaf : SameLeaf old new

-- Down, Right, Full, Crowded, PageFull, Done: each comes where none before it does.
abbrev pub InsertAnswer : View → View → ℕ → ℕ → ℕ → List ℤ → List ℕ → Commit → Type 0
InsertAnswer old new page op id vector dists (commit.Down p) = NotEntered old new × GoesDown old new page p 0 (insert_key new dists id 0)
InsertAnswer old new page op id vector dists (commit.Right p) = NotEntered old new × GoesRight old new page p 0 (insert_key new dists id (next_number new))
InsertAnswer old new page op id vector dists (commit.Full limit) =
    NotEntered old new × IsReached old new page 0 (insert_key new dists id (next_number new)) × IsFullLog new limit
InsertAnswer old new page op id vector dists commit.Crowded =
    SameUpdate old new × IsReached old new page 0 (insert_key new dists id (next_number new)) × HasRoom new × IsTrue (is_crowded_leaf new.settings new.seen new.leaf) × (new.wanted ≡ true)
InsertAnswer old new page op id vector dists commit.PageFull =
    NotEntered old new × IsReached old new page 0 (insert_key new dists id (next_number new)) × HasRoom new × (is_crowded_leaf new.settings new.seen new.leaf ≡ false) × IsFullPage old new page
InsertAnswer old new page op id vector dists (commit.Done number) =
    Enters old new op id (update.Insert id vector) false number × IsReached old new page 0 (insert_key new dists id number) × Recorded new id number dists × HasTaken old new page

-- an insert sees the board where its page is a leaf page
abbrev pub InsertSees : View → View → Commit → Type 0
InsertSees old new (commit.Down p) = SameBoard old new
InsertSees old new (commit.Right p) = SeesBoard new
InsertSees old new (commit.Full limit) = SeesBoard new
InsertSees old new commit.Crowded = SeesBoard new
InsertSees old new commit.PageFull = SeesBoard new
InsertSees old new (commit.Done number) = SeesBoard new

pub record CommitsInsert (old new : View) (page op id : ℕ) (vector : List ℤ) (dists : List ℕ) (result : Commit) : Type 0 where
  pub later : Later old new
  pub lacked : new.lacked ≡ old.lacked
  pub told : new.told ≡ old.told
  pub leaf : new.leaf ≡ old.leaf
  pub apart : SameApart old new
  pub floor : new.floor ≡ old.floor
  pub fresh : new.fresh ≡ old.fresh
  pub owes : new.owes ≡ old.owes
  pub board : InsertSees old new result
  pub tries : SameTry old new
  pub page_is : new.page ≡ page
  pub answer : InsertAnswer old new page op id vector dists result

-- what an insert needs of its actor before it commits
pub record MayInsert (v : View) (id : ℕ) (vector : List ℤ) (dists : List ℕ) : Type 0 where
  pub shard : v.shard ≡ Some (shard_of id)
  pub absent : v.records id ≡ None
  pub reserved : v.reserved ≡ true
  pub leaf : holds_leaf_of (permutation_of dists) v.leaf ≡ true
  pub unsplit : v.splitting ≡ false
  pub fits : IsTrue ((metric_space v.settings).fits vector)
  pub measured : dists ≡ distances (space_of v.settings) vector

-- the key of a recorded object under a leaf
abbrev pub key_of_record : Configuration → Option (List ℕ) → ℕ → Option Record → ℕ
key_of_record c leaf id None = 0
key_of_record c leaf id (Some r) = key_under c (prefix_or leaf) (key_distance r.dists.items) id r.birth

-- the key of the entry that a delete seeks
abbrev pub delete_key : View → ℕ → ℕ
delete_key v id = key_of_record v.settings v.leaf id (v.records id)

-- what a delete needs of its actor before it commits
pub record MayDelete (v : View) (id : ℕ) : Type 0 where
  pub shard : v.shard ≡ Some (shard_of id)
  pub kept : Record
  pub is : v.records id ≡ Some kept
  pub reserved : v.reserved ≡ true
  pub leaf : holds_leaf_of (permutation_of kept.dists.items) v.leaf ≡ true
  pub unsplit : v.splitting ≡ false

-- Down, Right, Full, Done: each comes where none before it does. A delete has room in any page and leaf.
abbrev pub DeleteAnswer : View → View → ℕ → ℕ → ℕ → Commit → Type 0
DeleteAnswer old new page op id (commit.Down p) = NotEntered old new × GoesDown old new page p 0 (delete_key old id)
DeleteAnswer old new page op id (commit.Right p) = NotEntered old new × GoesRight old new page p 0 (delete_key old id)
DeleteAnswer old new page op id (commit.Full limit) = NotEntered old new × IsReached old new page 0 (delete_key old id) × IsFullLog new limit
DeleteAnswer old new page op id commit.Crowded = ⊥
DeleteAnswer old new page op id commit.PageFull = ⊥
DeleteAnswer old new page op id (commit.Done number) =
    Enters old new op id (update.Delete id) true number × IsReached old new page 0 (delete_key old id) × (new.records id ≡ None)

-- a delete sees the board where its key lies in the page
abbrev pub DeleteSees : View → View → Commit → Type 0
DeleteSees old new (commit.Down p) = SameBoard old new
DeleteSees old new (commit.Right p) = SameBoard old new
DeleteSees old new (commit.Full limit) = SeesBoard new
DeleteSees old new commit.Crowded = ⊥
DeleteSees old new commit.PageFull = ⊥
DeleteSees old new (commit.Done number) = SeesBoard new

pub record CommitsDelete (old new : View) (page op id : ℕ) (result : Commit) : Type 0 where
  pub later : Later old new
  pub lacked : new.lacked ≡ old.lacked
  pub told : new.told ≡ old.told
  pub leaf : new.leaf ≡ old.leaf
  pub apart : SameApart old new
  pub floor : new.floor ≡ old.floor
  pub fresh : new.fresh ≡ old.fresh
  pub owes : new.owes ≡ old.owes
  pub board : DeleteSees old new result
  pub tries : SameTry old new
  pub page_is : new.page ≡ page
  pub answer : DeleteAnswer old new page op id result

-- halves and routes

-- Where the page has 32 items, its upper 16 are on the fresh page, whose route is owed. Else the fresh page stays in hand.
abbrev pub PartAnswer : View → View → ℕ → Parted → Type 0
PartAnswer old new page (HasParted key child) =
    (is_some new.fresh ≡ false) × (new.owes ≡ owing child old.owes) × IsTrue (new.named child) × (new.level child ≡ old.level page) × (new.low child ≡ key)
    × (old.low page < key) × (new.high ≡ Some key) × (new.items ≡ 16) × (old.fresh ≡ Some child) × (IsTrue old.tells_full → IsTrue (old.full page))
PartAnswer old new page Roomy = (new.fresh ≡ old.fresh) × (new.owes ≡ old.owes) × (new.items < 32) × (IsTrue old.tells_full → old.full page ≡ false)

pub record PartsPage (old new : View) (page : ℕ) (result : Parted) : Type 0 where
  pub later : Later old new
  pub work : SameWork old new
  pub floor : new.floor ≡ old.floor
  pub board : SameBoard old new
  pub tries : SameTry old new
  pub page_is : new.page ≡ page
  pub answer : PartAnswer old new page result

-- a child whose route may stand at this level: it is one level lower, begins at the route's key, and isn't the leftmost of its level
pub record IsChildAt (v : View) (level key child : ℕ) : Type 0 where
  pub named : IsTrue (v.named child)
  pub level_is : v.level child + 1 ≡ level
  pub low_is : v.low child ≡ key
  pub later_key : 0 < key

-- a page from which a route of this level and key may be sought
pub record MayPost (v : View) (page level key : ℕ) : Type 0 where
  pub named : IsTrue (v.named page)
  pub level_is : level ≤ v.level page
  pub low_is : v.low page ≤ key

abbrev pub PostAnswer : View → View → ℕ → ℕ → ℕ → ℕ → Put → Type 0
PostAnswer old new page level key child (put.Down p) = (new.owes ≡ old.owes) × GoesDown old new page p level key
PostAnswer old new page level key child (put.Right p) = (new.owes ≡ old.owes) × GoesRight old new page p level key
PostAnswer old new page level key child put.PageFull = (new.owes ≡ old.owes) × IsReached old new page level key × IsFullPage old new page
PostAnswer old new page level key child put.Done = (new.owes ≡ paying child old.owes) × IsReached old new page level key × HasTaken old new page

pub record Posts (old new : View) (page level key child : ℕ) (result : Put) : Type 0 where
  pub later : Later old new
  pub work : SameWork old new
  pub floor : new.floor ≡ old.floor
  pub fresh : new.fresh ≡ old.fresh
  pub board : SameBoard old new
  pub tries : SameTry old new
  pub page_is : new.page ≡ page
  pub answer : PostAnswer old new page level key child result

-- trims

-- a leaf page is trimmed, and its right sibling is named exactly where there is one
abbrev pub TrimAnswer : View → View → ℕ → Visit → Type 0
TrimAnswer old new page (Down p) = ⊥
TrimAnswer old new page (Right p) = ⊥
TrimAnswer old new page (Read None) = new.high ≡ None
TrimAnswer old new page (Read (Some p)) =
    IsTrue (new.named p) × (new.level p ≡ 0) × (old.low page < new.low p) × (new.low p < 2 ^ 128) × (new.high ≡ Some (new.low p))

pub record Trims (old new : View) (page : ℕ) (result : Visit) : Type 0 where
  pub later : Later old new
  pub same : SameOwn old new
  pub floor : new.floor ≡ old.floor
  pub board : SameBoard old new
  pub tries : SameTry old new
  pub page_is : new.page ≡ page
  pub answer : TrimAnswer old new page result
