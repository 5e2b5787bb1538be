-- What an actor knows where others act beside it, and its view by that.
use Rattle.std.specs.Prelude.{◌≡◌, ◌≤◌, ◌==◌, ◌++◌, ◌∷◌, [], ℕ, List, Option, None, Bool, true, false, cond, IsTrue, length, max}
use Rattle.std.specs.List.{AllByRecursion, list_any}
use Rattle.mi_base.specs.declared.records.LogEvent.{LogEvent}
use Rattle.mi_base.specs.declared.records.Position.{Position}
use Rattle.mi_base.specs.History.{Entered, updates_of}
use Rattle.mi_core.specs.Named.{Named}
use Rattle.mi_tree.specs.Growing.{Grows}
use Rattle.mi_world.specs.View.{Absorbed, View}

-- What an actor knows beside what is its own: the actors that it has absorbed and made, the log that it has seen, whether it was told that all
-- pages are allotted, the pages named to it, a level that the root has at least; and its notes of the board, of a page and of a shard.
pub record Knowledge : Type 0 where
  pub absorbed : List Absorbed
  pub forked : List ℕ
  pub seen : List LogEvent
  pub told : Bool
  pub pages : List Named
  pub least : ℕ
  pub allotted : ℕ
  pub holder : List ℕ → Option ℕ
  pub pins : ℕ → Option Position
  pub given : ℕ
  pub retired : List (List ℕ)
  pub passed : List ℕ → Bool
  pub root : ℕ
  pub height : ℕ
  pub high : Option ℕ
  pub items : ℕ
  pub found : Option ℕ

-- the page is one of these
abbrev pub is_named : List Named → ℕ → Bool
is_named names p = list_any (λ x. x.page == p) names

-- its level and its low key
abbrev pub level_of : List Named → ℕ → ℕ
level_of [] p = 0
level_of (x ∷ names) p = cond (x.page == p) x.level (level_of names p)

abbrev pub low_of : List Named → ℕ → ℕ
low_of [] p = 0
low_of (x ∷ names) p = cond (x.page == p) x.low (low_of names p)

-- a view, as one has it who knows so much of what all share
abbrev pub view_by : Knowledge → View → View
view_by n w = record {
  settings = w.settings;
  actor = w.actor;
  absorbed = n.absorbed;
  forked = n.forked;
  seen = n.seen;
  own = w.own;
  floor = w.floor;
  pin = w.pin;
  shard = w.shard;
  records = w.records;
  reserved = w.reserved;
  leaf = w.leaf;
  wanted = w.wanted;
  sweep = w.sweep;
  swept = w.swept;
  splitting = w.splitting;
  mark = w.mark;
  whole = w.whole;
  copies = w.copies;
  copied = w.copied;
  fresh = w.fresh;
  owes = w.owes;
  undone = w.undone;
  early = w.early;
  lacked = w.lacked;
  told = n.told;
  named = is_named n.pages;
  level = level_of n.pages;
  low = low_of n.pages;
  least = n.least;
  tells_full = false;
  full = λ p. false;
  allotted = n.allotted;
  holder = n.holder;
  pins = n.pins;
  given = n.given;
  retired = n.retired;
  passed = n.passed;
  root = n.root;
  height = n.height;
  page = w.page;
  high = n.high;
  items = n.items;
  tried = w.tried;
  found = n.found;
}

-- a page is as it was named
pub record IsShown (w : View) (x : Named) : Type 0 where
  pub named : IsTrue (w.named x.page)
  pub level : w.level x.page ≡ x.level
  pub low : w.low x.page ≡ x.low

-- What is known is so, in the view of one who sees all; and page 0 is known to everyone.
pub record Knows (w : View) (n : Knowledge) : Type 0 where
  pub seen : Grows n.seen w.seen
  pub few : length (updates_of n.seen) ≤ w.settings.updates
  pub told : IsTrue n.told → IsTrue w.told
  pub pages : AllByRecursion (IsShown w) n.pages
  pub first : IsTrue (is_named n.pages 0)
  pub least : n.least ≤ w.least
  pub allotted : n.allotted ≤ w.allotted
  pub given : n.given ≤ w.given

-- nothing that was known is forgotten
pub record Learns (old new : Knowledge) : Type 0 where
  pub seen : Grows old.seen new.seen
  pub told : IsTrue old.told → IsTrue new.told
  pub pages : (p : ℕ) → IsTrue (is_named old.pages p) → IsTrue (is_named new.pages p)
  pub least : old.least ≤ new.least
  pub allotted : old.allotted ≤ new.allotted
  pub given : old.given ≤ new.given

-- the board is noted, and the whole log seen
abbrev pub noting : View → Knowledge → Knowledge
noting w n = record n {
  seen = w.seen;
  allotted = w.allotted;
  holder = w.holder;
  pins = w.pins;
  given = w.given;
  retired = w.retired;
  passed = w.passed;
  root = w.root;
  height = w.height;
}

-- after a section of the board, which names these pages
abbrev pub seeing : View → Bool → List Named → Knowledge → Knowledge
seeing w told names n = noting w (record n { told = told; pages = names ++ n.pages; least = w.least })

-- after a section of a page it has noted that page; these pages were named
abbrev pub reading : View → List Named → Knowledge → Knowledge
reading w names n = record n { pages = names ++ n.pages; high = w.high; items = w.items }

-- after a try of a shard it has noted its holder
abbrev pub trying : Option ℕ → Knowledge → Knowledge
trying found n = record n { found = found }

-- after a section that made an actor of this number
abbrev pub forking : View → ℕ → Knowledge → Knowledge
forking w child n = record (seeing w n.told [] n) { forked = n.forked ++ child ∷ [] }

-- what that actor knows, of what its maker does
abbrev pub newborn : Knowledge → Knowledge
newborn m = record m { absorbed = []; forked = []; high = None; items = 0; found = None }

-- after an actor of this number and these own updates was absorbed: what either knew, of the longer log; the notes stay
abbrev pub blended : List LogEvent → ℕ → List Entered → Knowledge → Knowledge → Knowledge
blended seen other own n o = record n {
  absorbed = n.absorbed ++ record { actor = other; own = own } ∷ o.absorbed;
  forked = n.forked ++ o.forked;
  seen = seen;
  told = cond n.told true o.told;
  pages = o.pages ++ n.pages;
  least = max n.least o.least;
}
