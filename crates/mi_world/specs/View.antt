-- What a World means: the view of its actor, and what sections leave as it was.
use Rattle.std.specs.Prelude.{◌≡◌, ◌≢◌, ◌≤◌, ◌⊎◌, ◌%◌, [], ℕ, List, Option, Some, None, Bool, true, false, IsTrue, length, ◌&&◌, drop}
use Rattle.std.specs.List.{list_any}
use Rattle.mi_base.specs.declared.records.LogEvent.{LogEvent}
use Rattle.mi_base.specs.declared.records.Position.{Position}
use Rattle.mi_base.specs.Configuration.{Configuration, IsWithinLimits, space_of}
use Rattle.mi_base.specs.History.{Entered, end_of, events_at, updates_of, is_live, IsPosition}
use Rattle.mi_base.specs.Permutations.{distances}
use Rattle.mi_tree.specs.Births.{Born, living, splits_in}
use Rattle.mi_tree.specs.Growing.{Grows}
use Rattle.mi_tree.specs.Cells.{same_cell}
use Rattle.mi_tree.specs.Counting.{has_leaf, is_wanted}
use Rattle.mi_tree.specs.Legal.{LegalLog, cells_of}
use Rattle.mi_world.specs.declared.answers.Record.{Record}

-- an actor that was absorbed, with its own updates
pub record Absorbed : Type 0 where
  pub actor : ℕ
  pub own : List Entered

-- What one actor has, knows and has noted.
pub record View : Type 0 where
  -- the settings, the actor's number, the actors that it has absorbed and those that it has made
  pub settings : Configuration
  pub actor : ℕ
  pub absorbed : List Absorbed
  pub forked : List ℕ
  -- the log as far as it was seen, the actor's own updates, the least position that may still be read, the pinned log
  pub seen : List LogEvent
  pub own : List Entered
  pub floor : Position
  pub pin : Option (List LogEvent)
  -- the shard held, its records by identifier, and whether room was reserved since the shard was taken and since the latest update
  pub shard : Option ℕ
  pub records : ℕ → Option Record
  pub reserved : Bool
  -- the leaf claimed, and whether it is to be split; the leaf under sweep, and the key up to which it is swept
  pub leaf : Option (List ℕ)
  pub wanted : Bool
  pub sweep : Option (List ℕ)
  pub swept : ℕ
  -- the split of the claimed leaf, once a gather has begun it: the key up to which it has gathered, whether that is the whole leaf,
  -- the keys of the copies to be made of what was gathered, and how many are made
  pub splitting : Bool
  pub mark : ℕ
  pub whole : Bool
  pub copies : List ℕ
  pub copied : ℕ
  -- the fresh page in hand, the pages whose routes the actor owes, whether it ever took a copy back, and whether it did so untold that all
  -- pages are allotted
  pub fresh : Option ℕ
  pub owes : ℕ → Bool
  pub undone : Bool
  pub early : Bool
  -- what stays so: memory was wanted for a page; it was told that all pages are allotted; the pages named to it, their levels and low
  -- keys; and a level that the root has at least
  pub lacked : Bool
  pub told : Bool
  pub named : ℕ → Bool
  pub level : ℕ → ℕ
  pub low : ℕ → ℕ
  pub least : ℕ
  -- whether it is told which pages are full, and which are then
  pub tells_full : Bool
  pub full : ℕ → Bool
  -- the note of the board, as the actor's latest section of it left it: how many pages are allotted, who claims a leaf, each actor's pin,
  -- how many of the leaves that were split were given to be swept, the others, oldest first, the leaves passed over, and the root with its level
  pub allotted : ℕ
  pub holder : List ℕ → Option ℕ
  pub pins : ℕ → Option Position
  pub given : ℕ
  pub retired : List (List ℕ)
  pub passed : List ℕ → Bool
  pub root : ℕ
  pub height : ℕ
  -- the note of the page of the actor's latest page section: its number, its high key, and how many items it has, those not counted that
  -- its floor lets be trimmed
  pub page : ℕ
  pub high : Option ℕ
  pub items : ℕ
  -- the note of the shard that was tried last: its number, and who held it then
  pub tried : ℕ
  pub found : Option ℕ

-- What any section of anyone leaves: the settings and the actor are the same, and what was learned stays true.
pub record Later (old new : View) : Type 0 where
  pub settings : new.settings ≡ old.settings
  pub actor : new.actor ≡ old.actor
  pub grows : Grows old.seen new.seen
  pub few : length (updates_of old.seen) ≤ old.settings.updates → length (updates_of new.seen) ≤ new.settings.updates
  pub lacked : IsTrue old.lacked → IsTrue new.lacked
  pub told : IsTrue old.told → IsTrue new.told
  pub named : (p : ℕ) → IsTrue (old.named p) → IsTrue (new.named p)
  pub level : (p : ℕ) → IsTrue (old.named p) → new.level p ≡ old.level p
  pub low : (p : ℕ) → IsTrue (old.named p) → new.low p ≡ old.low p
  pub least : old.least ≤ new.least
  pub tells_full : new.tells_full ≡ old.tells_full
  pub allotted : old.allotted ≤ new.allotted
  pub given : old.given ≤ new.given

-- the lists of actors, which fork and absorb alone change
pub record SameActors (old new : View) : Type 0 where
  pub absorbed : new.absorbed ≡ old.absorbed
  pub forked : new.forked ≡ old.forked

-- what an update under way has
pub record SameUpdate (old new : View) : Type 0 where
  pub own : new.own ≡ old.own
  pub shard : new.shard ≡ old.shard
  pub records : new.records ≡ old.records
  pub reserved : new.reserved ≡ old.reserved

-- the claim of a leaf
pub record SameLeaf (old new : View) : Type 0 where
  pub leaf : new.leaf ≡ old.leaf
  pub wanted : new.wanted ≡ old.wanted

-- the leaf under sweep, and how far it is swept
pub record SameSweep (old new : View) : Type 0 where
  pub sweep : new.sweep ≡ old.sweep
  pub swept : new.swept ≡ old.swept

-- the split under way
pub record SameSplit (old new : View) : Type 0 where
  pub splitting : new.splitting ≡ old.splitting
  pub mark : new.mark ≡ old.mark
  pub whole : new.whole ≡ old.whole
  pub copies : new.copies ≡ old.copies
  pub copied : new.copied ≡ old.copied

-- what is told of copies that were taken back
pub record SameFlags (old new : View) : Type 0 where
  pub undone : new.undone ≡ old.undone
  pub early : new.early ≡ old.early

-- what no update and no post of an actor changes
pub record SameApart (old new : View) : Type 0 where
  pub sweep : SameSweep old new
  pub split : SameSplit old new
  pub flags : SameFlags old new
  pub actors : SameActors old new
  pub pin : new.pin ≡ old.pin

-- what an operation has under way, but the page in hand and the owed routes
pub record SameWork (old new : View) : Type 0 where
  pub update : SameUpdate old new
  pub leaf : SameLeaf old new
  pub apart : SameApart old new

-- what no other actor changes
pub record SameOwn (old new : View) : Type 0 where
  pub work : SameWork old new
  pub fresh : new.fresh ≡ old.fresh
  pub owes : new.owes ≡ old.owes

-- what the sections of others make of an actor's view; of its note it says nothing
pub record Others (old new : View) : Type 0 where
  pub later : Later old new
  pub same : SameOwn old new
  pub floor : new.floor ≡ old.floor

-- the shard of an identifier
abbrev pub shard_of : ℕ → ℕ
shard_of id = id % 16

-- the prefix of a leaf, where there is one
abbrev pub prefix_or : Option (List ℕ) → List ℕ
prefix_or None = []
prefix_or (Some p) = p

-- A shard has a record of an identifier exactly where a log has it live: with the number of its insert, and its distances.
abbrev pub Agrees : Configuration → List LogEvent → ℕ → Option Record → Type 0
Agrees c log id None = is_live id (updates_of log) ≡ false
Agrees c log id (Some r) =
    (is_live id (updates_of log) ≡ true)
    × ((b : Born) × (living id log ≡ Some b) × (r.birth ≡ b.birth) × (r.dists.items ≡ distances (space_of c) b.vector))

-- page 0 is a leaf page from the lowest key on, and is named to everyone
pub record NamesFirstPage (v : View) : Type 0 where
  pub named : IsTrue (v.named 0)
  pub level_is : v.level 0 ≡ 0
  pub low_is : v.low 0 ≡ 0

-- the position of a pin
abbrev pub pin_position : Option (List LogEvent) → Option Position
pin_position None = None
pin_position (Some log) = Some (end_of log)

-- the leaf of this prefix is to be split
abbrev pub is_wanted_leaf : Configuration → List LogEvent → List ℕ → Bool
is_wanted_leaf c log p = list_any (λ l. same_cell p l.prefix && is_wanted c.levels c.cell l) (cells_of c log)

-- A section of the board: the actor has seen the whole log then, which is legal and agrees with the shard that it holds; and of the note its
-- own claim and pin are part.
pub record SeesBoard (new : View) : Type 0 where
  pub limits : IsWithinLimits new.settings
  pub legal : LegalLog new.settings new.seen
  pub guards : (id : ℕ) → new.shard ≡ Some (shard_of id) → Agrees new.settings new.seen id (new.records id)
  -- no more pages are allotted than may be, and all are where that was told or a leaf is passed over
  pub few : new.allotted ≤ new.settings.pages
  pub all : IsTrue new.told → new.allotted ≡ new.settings.pages
  pub passed : (p : List ℕ) → IsTrue (new.passed p) → new.allotted ≡ new.settings.pages
  -- this actor is the holder of the leaf that it claims, and of no other, and its pin is noted
  pub holds : (p : List ℕ) → new.leaf ≡ Some p → new.holder p ≡ Some new.actor
  pub alone : (p : List ℕ) → new.holder p ≡ Some new.actor → new.leaf ≡ Some p
  pub pin : new.pins new.actor ≡ pin_position new.pin
  -- the leaf that it claims is a leaf, and it is known whether that is to be split
  pub there : (p : List ℕ) → new.leaf ≡ Some p → has_leaf p (cells_of new.settings new.seen) ≡ true
  pub wanted : (p : List ℕ) → new.leaf ≡ Some p → new.wanted ≡ is_wanted_leaf new.settings new.seen p
  -- each pin is at a position of the log
  pub read : (actor : ℕ) (q : Position) → new.pins actor ≡ Some q → IsPosition new.seen q
  -- the leaves that were split first were given to be swept, and no others
  pub given : new.given ≤ length (splits_in new.seen)
  pub retired : new.retired ≡ drop new.given (splits_in new.seen)
  pub first : NamesFirstPage new

-- the note of the board
pub record SameNote (old new : View) : Type 0 where
  pub allotted : new.allotted ≡ old.allotted
  pub holder : new.holder ≡ old.holder
  pub pins : new.pins ≡ old.pins
  pub given : new.given ≡ old.given
  pub retired : new.retired ≡ old.retired
  pub passed : new.passed ≡ old.passed
  pub root : new.root ≡ old.root
  pub height : new.height ≡ old.height

-- no section of the board: what was known of it stays
pub record SameBoard (old new : View) : Type 0 where
  pub seen : new.seen ≡ old.seen
  pub lacked : new.lacked ≡ old.lacked
  pub told : new.told ≡ old.told
  pub note : SameNote old new

-- no section of a page: its note stays, and as many items are counted unless the floor rose
pub record SamePage (old new : View) : Type 0 where
  pub page : new.page ≡ old.page
  pub high : new.high ≡ old.high
  pub items : new.floor ≡ old.floor → new.items ≡ old.items

-- no try of a shard
pub record SameTry (old new : View) : Type 0 where
  pub tried : new.tried ≡ old.tried
  pub found : new.found ≡ old.found

-- a holder, who is not this actor
pub record IsOther (holder : Option ℕ) (actor : ℕ) : Type 0 where
  pub by : ℕ
  pub is : holder ≡ Some by
  pub other : by ≢ actor

-- the least pinned position, or the end of the log where nothing is pinned
pub record IsFloor (v : View) (p : Position) : Type 0 where
  pub none_below : (actor : ℕ) (q : Position) → v.pins actor ≡ Some q → events_at p ≤ events_at q
  pub is : (p ≡ end_of v.seen) ⊎ ((actor : ℕ) × (v.pins actor ≡ Some p))
