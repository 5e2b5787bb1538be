-- The events: one section of one actor each. An event tells the page, the shard and whatever else its actor has in hand.
use Rattle.std.specs.Prelude.{◌≡◌, ◌≢◌, ◌≤◌, ◌<◌, ℕ, ◌+◌, ◌-◌, ◌==◌, List, [], ◌∷◌, ◌++◌, Bool, true, false, cond, length, drop, IsTrue, Option, Some, None, replicate, slice_get, slice_set, max}
use Rattle.std.specs.List.{find, list_any}
use Rattle.mi_base.specs.declared.records.LogEvent.TheVariants.{Split}
use Rattle.mi_base.specs.declared.records.Position.{Position}
use Rattle.mi_base.specs.declared.records.Update.TheVariants.{Insert, Delete}
use Rattle.mi_base.specs.Configuration.{Configuration}
use Rattle.mi_base.specs.History.{end_of, updates_of}
use Rattle.mi_base.specs.Permutations.{begins, permutation_of}
use Rattle.mi_key.specs.declared.entries.Entry.{Entry}
use Rattle.mi_page.specs.Entries.{without_dead}
use Rattle.mi_page.specs.Keys.{IsInside}
use Rattle.mi_page.specs.Nodes.{Node, fresh_node, item_count, lower_half, middle_key, root_node, upper_half}
use Rattle.mi_tree.specs.declared.outcomes.Leaf.{Leaf}
use Rattle.mi_tree.specs.Cells.{same_cell}
use Rattle.mi_tree.specs.Legal.{MayFollow, cells_of}
use Rattle.mi_entries.specs.Marks.{cell_end, cell_range, gather_more, split_or, swept_on}
use Rattle.mi_core.specs.Effects.{trim_leaf, committed, drop_entry, looked, mark_entry, noted, paid, post_route, put_entry, saw, sweep_node, trim_node, with_update}
use Rattle.mi_entries.specs.Records.{held_by, with_record, without_id, Rows, ShardRecord, home, no_shard, shard_at}
use Rattle.mi_entries.specs.Entries.{IsNewEntry, record_key, grid}
use Rattle.mi_board.specs.Boards.{HasRoom, crowded_at, BoardState, given_up, grown, next_split, next_sweep, opened_board, pinned, with_actor, with_more, with_split}
use Rattle.mi_board.specs.Actors.{gone, idle, is_claimed, with_claim, with_reserved, without_claim, without_pin}
use Rattle.mi_core.specs.Refusals.{Because, Refusal}
use Rattle.mi_entries.specs.Splits.{copy_in_child}
use Rattle.mi_core.specs.State.{State, node_at, put_actor, put_board, put_page, put_shard}
use Rattle.mi_entries.specs.Actors.{Actor, Pin, SplitWork, SweepWork}

-- one section of one actor, with what it has in hand
pub data Event : Type 0 where
  -- a section of the board that leaves it as it was: without a floor, with one, and beside a page
  see : Event
  look : Event
  meet : (page : ℕ) → Event
  -- such a section that refuses, and one beside a page
  refuse : (why : Refusal) → Event
  refuse_at : (page : ℕ) (why : Refusal) → Event
  -- a section of a page that leaves it as it was, or trims it; also of a first gather
  visit : (page : ℕ) → Event
  start : (page : ℕ) → Event
  trim : (page : ℕ) (node : Node) → Event
  -- a shard
  miss_shard : (shard : ℕ) → Event
  claim_shard : (shard : ℕ) (kept : Rows) → Event
  release_shard : (shard : ℕ) (kept : Rows) → Event
  reserve : (shard : ℕ) (kept : Rows) (room : ℕ) → Event
  -- pins and claims
  pin : Event
  unpin : Event
  claim_leaf : (leaf : List ℕ) → Event
  release_leaf : Event
  -- updates
  insert : (op id page : ℕ) (node : Node) (kept : Rows) (entry : Entry) → Event
  delete : (op id page : ℕ) (node : Node) (kept : Rows) (key : ℕ) → Event
  -- pages
  allot : Event
  lack : Event
  grow : (level key child : ℕ) → Event
  split_page : (page : ℕ) (node : Node) → Event
  post : (page : ℕ) (node : Node) (key child : ℕ) → Event
  -- splits and sweeps; no_work is a section of the board that found neither
  gather : (page : ℕ) (node : Node) → Event
  copy_in : (page : ℕ) (node : Node) (entry : Entry) → Event
  uncopy : (page : ℕ) (node : Node) (entry : Entry) (told : Bool) → Event
  publish : Event
  give_up : (pages : Bool) → Event
  take_sweep : (leaf : List ℕ) → Event
  take_split : (leaf : List ℕ) → Event
  no_work : Event
  sweep : (page : ℕ) (node : Node) → Event
  -- actors
  fork : Event
  absorb : (other : ℕ) (record_of : Actor) → Event
  depart : Event

-- the page is linked
abbrev pub IsPage : State → ℕ → Type 0
IsPage s page = (n : Node) × (node_at s.pages page ≡ Some n)

-- a page section: the page is linked, of leaf level
pub record IsLeafPage (s : State) (page : ℕ) (node : Node) : Type 0 where
  pub there : node_at s.pages page ≡ Some node
  pub level : node.level ≡ 0

-- an actor has no claim of a leaf, and no sweep
pub record IsFree (r : Actor) : Type 0 where
  pub claim : r.claim ≡ None
  pub sweep : r.sweep ≡ None

-- the leaf is one, and nobody claims it
pub record MayClaim (s : State) (r : Actor) (p : List ℕ) : Type 0 where
  pub free : IsFree r
  pub leaf : IsTrue (list_any (λ leaf. same_cell p leaf.prefix) (cells_of s.board.settings s.board.log))
  pub unclaimed : is_claimed p s.board.actors ≡ false

-- an actor may change its shard and the leaf that it claims, by an update of this identifier: of an object with this permutation, whose entry has this key
pub record MayUpdate (s : State) (r : Actor) (leaf : List ℕ) (id page : ℕ) (node : Node) (kept : Rows) (perm : List ℕ) (key : ℕ) : Type 0 where
  pub shard : r.shard ≡ Some (home id)
  pub here : r.reserved_here ≡ true
  pub kept_is : (shard_at s.shards (home id)).rows ≡ kept
  pub whole : r.split ≡ None
  pub claim : r.claim ≡ Some leaf
  pub under : begins leaf perm ≡ true
  pub few : HasRoom s.board
  pub page_is : IsLeafPage s page node
  pub inside : IsInside node.low node.high key

-- the object's leaf is claimed and takes inserts, its identifier has no record, and the page has room for its entry after a trim
pub record CanInsert (s : State) (r : Actor) (id page : ℕ) (node : Node) (kept : Rows) (e : Entry) : Type 0 where
  pub leaf : List ℕ
  pub may : MayUpdate s r leaf id page node kept ((grid s.board.settings).perm e.vector) e.key
  pub new : IsNewEntry s.board.settings s.board.log leaf id e
  pub absent : find (λ x. x.id == id) kept.records ≡ None
  pub calm : crowded_at s.board ((grid s.board.settings).perm e.vector) ≡ false
  pub space : length (without_dead r.floor.updates node.entries) < 32

-- the shard has the identifier's record, and the page's range has the key that it tells
pub record CanDelete (s : State) (r : Actor) (id page : ℕ) (node : Node) (kept : Rows) (key : ℕ) : Type 0 where
  pub leaf : List ℕ
  pub has : ShardRecord
  pub found : find (λ x. x.id == id) kept.records ≡ Some has
  pub may : MayUpdate s r leaf id page node kept (permutation_of has.dists) key
  pub key_is : key ≡ record_key (grid s.board.settings) leaf has

-- a split has gathered its whole leaf
pub record IsWhole (s : State) (r : Actor) (w : SplitWork) : Type 0 where
  pub split : r.split ≡ Some w
  pub whole : cell_end (grid s.board.settings) w.leaf ≤ w.mark

-- the route of a page one level below, which may have been posted already, into a page with room
pub record MayPost (s : State) (node : Node) (key child : ℕ) : Type 0 where
  pub inside : IsInside node.low node.high key
  pub space : length node.routes < 32
  pub below : Node
  pub there : node_at s.pages child ≡ Some below
  pub level : below.level + 1 ≡ node.level
  pub low : below.low ≡ key

-- what a call needs of its actor's record r, and what the event tells of the state
abbrev pub Can : State → ℕ → Actor → Event → Type 0
Can s a r see = Unit {0}
Can s a r look = Unit {0}
Can s a r (meet page) = IsPage s page
Can s a r (refuse why) = Because s a r why
Can s a r (refuse_at page why) = IsPage s page × Because s a r why
Can s a r (visit page) = IsPage s page
Can s a r (start page) = (p : List ℕ) × (r.claim ≡ Some p) × MayFollow s.board.settings s.board.log (Split p) × IsPage s page
Can s a r (trim page node) = IsLeafPage s page node
Can s a r (miss_shard k) = (k < 16) × (r.shard ≡ None) × (b : ℕ) × ((shard_at s.shards k).holder ≡ Some b)
Can s a r (claim_shard k kept) = (k < 16) × (r.shard ≡ None) × ((shard_at s.shards k).rows ≡ kept) × ((shard_at s.shards k).holder ≡ None)
Can s a r (release_shard k kept) = (r.shard ≡ Some k) × ((shard_at s.shards k).rows ≡ kept)
Can s a r (reserve k kept room) =
    (r.shard ≡ Some k) × ((shard_at s.shards k).rows ≡ kept) × (length kept.records < room) × HasRoom s.board
Can s a r pin = r.pin ≡ None
Can s a r unpin = (p : Pin) × (r.pin ≡ Some p)
Can s a r (claim_leaf p) = MayClaim s r p
Can s a r release_leaf = (p : List ℕ) × (r.claim ≡ Some p) × (r.split ≡ None)
Can s a r (insert op id page node kept e) = CanInsert s r id page node kept e
Can s a r (delete op id page node kept key) = CanDelete s r id page node kept key
Can s a r allot = (r.fresh ≡ None) × (s.board.allotted < s.board.settings.pages)
Can s a r lack = r.fresh ≡ None
Can s a r (grow level key child) =
    (p : ℕ) × (r.fresh ≡ Some p) × (s.board.height + 1 ≡ level) × (0 < key) × (n : Node) × (node_at s.pages child ≡ Some n) × (n.level ≡ s.board.height) × (n.low ≡ key)
Can s a r (split_page page node) = (p : ℕ) × (r.fresh ≡ Some p) × (node_at s.pages page ≡ Some node) × (item_count (trim_leaf r.floor.updates node) ≡ 32)
Can s a r (post page node key child) = (node_at s.pages page ≡ Some node) × MayPost s node key child
Can s a r (gather page node) =
    IsLeafPage s page node × (p : List ℕ) × (r.claim ≡ Some p) × MayFollow s.board.settings s.board.log (Split p)
    × IsInside node.low node.high (split_or (grid s.board.settings) p r.split).mark
Can s a r (copy_in page node e) =
    IsLeafPage s page node × (w : SplitWork) × IsWhole s r w × (old : Entry) × (slice_get w.gathered w.copied ≡ Some old)
    × (e ≡ copy_in_child (grid s.board.settings) w.leaf old) × IsInside node.low node.high e.key × (length (without_dead r.floor.updates node.entries) < 32)
Can s a r (uncopy page node e told) =
    IsLeafPage s page node × (w : SplitWork) × (r.split ≡ Some w) × (0 < w.copied) × (old : Entry) × (slice_get w.gathered (w.copied - 1) ≡ Some old)
    × (e ≡ copy_in_child (grid s.board.settings) w.leaf old) × IsInside node.low node.high e.key × (told ≡ true → s.board.allotted ≡ s.board.settings.pages)
Can s a r publish =
    (w : SplitWork) × IsWhole s r w × (w.copied ≡ length w.gathered) × MayFollow s.board.settings s.board.log (Split w.leaf)
Can s a r (give_up pages) =
    (p : List ℕ) × (r.claim ≡ Some p) × ((w : SplitWork) → r.split ≡ Some w → w.copied ≡ 0) × (pages ≡ true → s.board.allotted ≡ s.board.settings.pages)
Can s a r (take_sweep p) = IsFree r × (next_sweep s.board ≡ Some p)
Can s a r (take_split p) = IsFree r × (next_sweep s.board ≡ None) × (leaf : Leaf) × (next_split s.board ≡ Some leaf) × (leaf.prefix ≡ p)
Can s a r no_work = IsFree r × (next_sweep s.board ≡ None) × (next_split s.board ≡ None)
Can s a r (sweep page node) = IsLeafPage s page node × (w : SweepWork) × (r.sweep ≡ Some w) × IsInside node.low node.high w.mark
Can s a r fork = length s.actors < 4294967295
Can s a r (absorb b t) = (b ≢ a) × (slice_get s.actors b ≡ Some t) × (t.shard ≡ None) × IsFree t × (t.split ≡ None) × (t.pin ≡ None) × (t.ended ≡ false)
Can s a r depart = Unit {0}

-- the record of an actor that was just made, with the floor of its maker
abbrev pub made_actor : BoardState → Position → Actor
made_actor b floor = record {
  seen = length b.log;
  own = [];
  floor = floor;
  reserved = false;
  reserved_here = false;
  shard = None;
  claim = None;
  sweep = None;
  pin = None;
  split = None;
  fresh = None;
  owed = [];
  page = 0;
  tried = 0;
  found = None;
  lacked = false;
  undone = false;
  early = false;
  ended = false;
}

-- the page that is in an actor's hand, where there is one
abbrev pub hand : Option ℕ → ℕ
hand None = 0
hand (Some p) = p

-- the leaf of a claim
abbrev pub leaf_or : Option (List ℕ) → List ℕ
leaf_or None = []
leaf_or (Some p) = p

-- what is left of a page that is halved, beside the upper half
abbrev pub split_at : ℕ → Node → ℕ → State → State
split_at page n fresh s = put_page fresh (upper_half n) (put_page page (lower_half fresh n) s)

-- another split, noted at a page
abbrev pub with_split_at : Option SplitWork → ℕ → Actor → Actor
with_split_at w page r = record r { split = w; page = page }

-- so much of what was gathered is copied
abbrev pub copied_to : ℕ → Option SplitWork → Option SplitWork
copied_to n None = None
copied_to n (Some w) = Some (record w { copied = n })

-- how much of what was gathered is copied
abbrev pub copied_of : Option SplitWork → ℕ
copied_of None = 0
copied_of (Some w) = w.copied

-- the leaf of a sweep
abbrev pub sweep_leaf : Option SweepWork → List ℕ
sweep_leaf None = []
sweep_leaf (Some w) = w.leaf

-- a sweep that has swept a page more
abbrev pub sweep_next : Configuration → Node → Option SweepWork → Option SweepWork
sweep_next c n None = None
sweep_next c n (Some w) = swept_on (grid c) w n

-- an actor that has seen what another saw, whose flags are its own now
abbrev pub more_seen : Actor → Actor → Actor
more_seen t r = record r { seen = max r.seen t.seen; lacked = cond r.lacked true t.lacked; undone = cond r.undone true t.undone; early = cond r.early true t.early }

-- its flags are the other's now
abbrev pub ended : Actor → Actor
ended t = record t { ended = true; owed = []; reserved_here = false; undone = false; early = false }

-- the state after an event
abbrev pub after : State → ℕ → Actor → Event → State
after s a r see = put_actor a (saw s.board r) s
after s a r look = put_actor a (looked s.board r) s
after s a r (meet page) = put_actor a (noted page (saw s.board r)) s
after s a r (refuse why) = put_actor a (saw s.board r) s
after s a r (refuse_at page why) = put_actor a (noted page (saw s.board r)) s
after s a r (visit page) = put_actor a (noted page r) s
after s a r (start page) = put_actor a (with_split_at (Some (split_or (grid s.board.settings) (leaf_or r.claim) r.split)) page r) s
after s a r (trim page node) = put_actor a (noted page r) (put_page page (trim_node r.floor.updates node) s)
after s a r (miss_shard k) = put_actor a (record r { tried = k; found = (shard_at s.shards k).holder }) s
after s a r (claim_shard k kept) = put_actor a (record r { shard = Some k; tried = k; found = None; reserved_here = false }) (put_shard k (held_by (Some a) kept) s)
after s a r (release_shard k kept) = put_actor a (record r { shard = None; reserved_here = false }) (put_shard k (held_by None kept) s)
after s a r (reserve k kept room) =
    put_actor a (record (looked s.board r) { reserved = true; reserved_here = true })
    (put_shard k (held_by (Some a) (record kept { room = room })) (put_board (with_actor (with_reserved true) a s.board) s))
after s a r pin =
    put_actor a (record (looked s.board r) { pin = Some (record { at = end_of s.board.log; cells = cells_of s.board.settings s.board.log }) }) (put_board (pinned a s.board) s)
after s a r unpin = put_actor a (record (saw s.board r) { pin = None }) (put_board (with_actor without_pin a s.board) s)
after s a r (claim_leaf p) = put_actor a (record (saw s.board r) { claim = Some p }) (put_board (with_actor (with_claim p) a s.board) s)
after s a r release_leaf = put_actor a (record (saw s.board r) { claim = None }) (put_board (with_actor without_claim a s.board) s)
after s a r (insert op id page node kept e) =
    let u = Insert id e.vector in let b = with_update a op u s.board in
    put_actor a (committed b a op u page r)
    (put_page page (put_entry r.floor.updates e node) (put_shard (home id) (held_by (Some a) (with_record (record { id = id; birth = e.birth; dists = e.dists.items }) kept)) (put_board b s)))
after s a r (delete op id page node kept key) =
    let u = Delete id in let b = with_update a op u s.board in
    put_actor a (committed b a op u page r)
    (put_page page (mark_entry key (length (updates_of s.board.log) + 1) node) (put_shard (home id) (held_by (Some a) (without_id id kept)) (put_board b s)))
after s a r allot = put_actor a (record (saw s.board r) { fresh = Some s.board.allotted }) (put_board (record s.board { allotted = s.board.allotted + 1 }) s)
after s a r lack = put_actor a (record (saw s.board r) { lacked = true }) s
after s a r (grow level key child) =
    put_actor a (record (saw s.board r) { fresh = None; owed = paid child r.owed })
    (put_page (hand r.fresh) (root_node level s.board.root key child) (put_board (grown level (hand r.fresh) s.board) s))
after s a r (split_page page node) =
    put_actor a (record r { page = page; fresh = None; owed = r.owed ++ record { level = node.level + 1; key = middle_key node; child = hand r.fresh } ∷ [] }) (split_at page node (hand r.fresh) s)
after s a r (post page node key child) = put_actor a (record r { page = page; owed = paid child r.owed }) (put_page page (post_route key child node) s)
after s a r (gather page node) =
    put_actor a (with_split_at (Some (gather_more (grid s.board.settings) (split_or (grid s.board.settings) (leaf_or r.claim) r.split) node)) page r) s
after s a r (copy_in page node e) = put_actor a (with_split_at (copied_to (copied_of r.split + 1) r.split) page r) (put_page page (put_entry r.floor.updates e node) s)
after s a r (uncopy page node e told) =
    put_actor a (record (with_split_at (copied_to (copied_of r.split - 1) r.split) page r) { undone = true; early = cond told r.early true }) (put_page page (drop_entry e.key node) s)
after s a r publish =
    let b = with_split (leaf_or r.claim) a s.board in
    put_actor a (record (saw b r) { claim = None; split = None }) (put_board b s)
after s a r (give_up pages) =
    put_actor a (record (saw s.board r) { claim = None; split = None })
    (put_board (given_up pages a s.board) s)
after s a r (take_sweep p) =
    put_actor a (record (looked s.board r) { sweep = Some (record { leaf = p; mark = (cell_range (grid s.board.settings) p).from }) })
    (put_board (record s.board { retired = drop 1 s.board.retired }) s)
after s a r (take_split p) = put_actor a (record (looked s.board r) { claim = Some p }) (put_board (with_actor (with_claim p) a s.board) s)
after s a r no_work = put_actor a (looked s.board r) s
after s a r (sweep page node) =
    put_actor a (record r { page = page; sweep = sweep_next s.board.settings node r.sweep })
    (put_page page (sweep_node (cell_range (grid s.board.settings) (sweep_leaf r.sweep)) node) s)
after s a r fork = let b = with_more s.board in
    record { board = b; shards = s.shards; pages = s.pages; actors = slice_set s.actors a (saw s.board r) ++ made_actor s.board r.floor ∷ [] }
after s a r (absorb b t) = put_actor b (ended t) (put_actor a (more_seen t r) s)
after s a r depart = put_actor a (saw s.board r) (put_board (with_actor gone a s.board) s)

-- one event of the actor a, which hasn't ended, leads from s to t
pub record Leads (s : State) (a : ℕ) (t : State) : Type 0 where
  pub actor : Actor
  pub there : slice_get s.actors a ≡ Some actor
  pub going : actor.ended ≡ false
  pub event : Event
  pub can : Can s a actor event
  pub is : t ≡ after s a actor event

-- the record of an actor at the opening
abbrev pub first_actor : Actor
first_actor = record {
  seen = 0;
  own = [];
  floor = record { updates = 0; splits = 0 };
  reserved = false;
  reserved_here = false;
  shard = None;
  claim = None;
  sweep = None;
  pin = None;
  split = None;
  fresh = None;
  owed = [];
  page = 0;
  tried = 0;
  found = None;
  lacked = false;
  undone = false;
  early = false;
  ended = false;
}

-- the state that was just opened, with so many actors and so many pages beside page 0, which alone is linked
abbrev pub opened : Configuration → ℕ → ℕ → State
opened c count more = record {
  board = opened_board c (replicate count idle);
  shards = replicate 16 no_shard;
  pages = Some fresh_node ∷ replicate more None;
  actors = replicate count first_actor;
}
