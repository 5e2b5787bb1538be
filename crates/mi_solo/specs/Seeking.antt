-- What one page tells: where the way of a key goes on, and how far a reader reads.
use Rattle.std.specs.Prelude.{◌≡◌, ◌<◌, ◌+◌, ◌^◌, ℕ, List, [], length, map, take, Option, Some, None, true, false, IsTrue}
use Rattle.mi_base.specs.Configuration.{Configuration, metric_space, space_of}
use Rattle.mi_base.specs.Permutations.{begins, distances, permutation_of}
use Rattle.mi_key.specs.declared.entries.Entry.{Entry}
use Rattle.mi_key.specs.declared.ranges.Interval.{Interval}
use Rattle.mi_key.specs.Clusters.{cluster_of}
use Rattle.mi_key.specs.Entries.{Offering, offering_of}
use Rattle.mi_key.specs.Keys.{key_of, parts_of}
use Rattle.mi_page.specs.Entries.{shown_in}
use Rattle.mi_page.specs.Keys.{is_below}
use Rattle.mi_page.specs.Nodes.{Node}
use Rattle.mi_page.specs.Routes.{IsChild}
use Rattle.mi_entries.specs.Entries.{grid}
use Rattle.mi_entries.specs.Splits.{copy_in_child}
use Rattle.mi_world.specs.declared.answers.Visit.{Visit}
use Rattle.mi_world.specs.declared.answers.Visit.TheVariants.{Down, Right, Read}
use Rattle.mi_world.specs.View.{View}

-- a page as a view shows it: named, with its level and its low key
pub record ShowsPage (v : View) (page : ℕ) (n : Node) : Type 0 where
  pub named : IsTrue (v.named page)
  pub level : v.level page ≡ n.level
  pub low : v.low page ≡ n.low

-- the page is above the level sought, and this is its child for the key
pub record PointsDown (n : Node) (sought key child : ℕ) : Type 0 where
  pub above : sought < n.level
  pub route : IsChild key n.routes child

-- an entry's vector is one of the space, and its distances are the vector's
pub record IsMeasured (c : Configuration) (e : Entry) : Type 0 where
  pub fits : IsTrue ((metric_space c).fits e.vector)
  pub dists : e.dists.items ≡ distances (space_of c) e.vector

-- an entry of a leaf that is split, whose copy's key is told by the entry's distances and key
pub record IsCopied (c : Configuration) (leaf : List ℕ) (e : Entry) : Type 0 where
  pub measured : IsMeasured c e
  pub under : begins leaf (permutation_of e.dists.items) ≡ true
  pub key : (copy_in_child (grid c) leaf e).key ≡ key_of (record {
    cluster = cluster_of (length c.pivots) c.levels (take (length leaf + 1) (permutation_of e.dists.items));
    distance = (parts_of e.key).distance;
    id = (parts_of e.key).id;
    birth = (parts_of e.key).birth;
  })

-- a high key has at most 128 bits
abbrev pub IsSmall : Option ℕ → Type 0
IsSmall o = (high : ℕ) → o ≡ Some high → high < 2 ^ 128

-- the page ends no later than at the key, and this is its right sibling
pub record EndsBefore (n : Node) (key next : ℕ) : Type 0 where
  pub past : is_below n.high key ≡ false
  pub right : n.right ≡ Some next
  pub small : IsSmall n.high

-- the page is of the level sought, and the key lies right of it
pub record PointsRight (n : Node) (sought key next : ℕ) : Type 0 where
  pub level : n.level ≡ sought
  pub ends : EndsBefore n key next

-- the page is of the level sought, and ends after the key
pub record EndsAfter (n : Node) (sought key : ℕ) : Type 0 where
  pub level : n.level ≡ sought
  pub under : is_below n.high key ≡ true

-- a page with a high key has a right sibling
abbrev pub HasSibling : Node → Type 0
HasSibling n = (high : ℕ) → n.high ≡ Some high → (next : ℕ) × (n.right ≡ Some next)

-- the page on which one who reads up to a key goes on, if there is one
abbrev pub ReadsOn : Node → ℕ → Option ℕ → Type 0
ReadsOn n to None = is_below n.high to ≡ true
ReadsOn n to (Some p) = EndsBefore n to p

-- the right sibling of a page, and none exactly where it has no end
abbrev pub TrimsTo : Node → Option ℕ → Type 0
TrimsTo n None = n.high ≡ None
TrimsTo n (Some p) = (high : ℕ) × (n.high ≡ Some high) × (n.right ≡ Some p) × IsSmall n.high

-- what a visit for an interval answers of a page
abbrev pub AnswersVisit : Node → Interval → Visit → Type 0
AnswersVisit n range (Down p) = PointsDown n 0 range.from p
AnswersVisit n range (Right p) = PointsRight n 0 range.from p
AnswersVisit n range (Read next) = EndsAfter n 0 range.from × ReadsOn n range.to next

-- what a visit offers of a page: nothing, unless it is read
abbrev pub offered_of : Node → Interval → ℕ → Visit → List Offering
offered_of n range updates (Down p) = []
offered_of n range updates (Right p) = []
offered_of n range updates (Read next) = map offering_of (shown_in range updates n.entries)
