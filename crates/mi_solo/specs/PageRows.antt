-- What the work on a page in hand makes of the page and of its actor's row.
use Rattle.std.specs.Prelude.{◌≡◌, ◌<◌, ◌+◌, ◌++◌, ◌∷◌, [], ℕ, Option, Some, None}
use Rattle.mi_core.specs.Effects.{paid, post_route, trim_leaf, trim_node}
use Rattle.mi_core.specs.Events.{hand}
use Rattle.mi_page.specs.Nodes.{Node, item_count, lower_half, middle_key, upper_half}
use Rattle.mi_solo.specs.declared.rows.ActorRow.{ActorRow}
use Rattle.mi_solo.specs.Seeking.{EndsAfter, PointsDown, PointsRight, TrimsTo}
use Rattle.mi_world.specs.declared.answers.Put.{Put}
use Rattle.mi_world.specs.declared.answers.Put.TheVariants as put
use Rattle.mi_world.specs.declared.answers.Visit.{Visit}
use Rattle.mi_world.specs.declared.answers.Visit.TheVariants.{Down, Read, Right}

-- the page stays as it is, and is noted
pub record OnlyNotes (page : ℕ) (n : Node) (row : ActorRow) (new : Node) (made : ActorRow) : Type 0 where
  pub same : new ≡ n
  pub row_is : made ≡ record row { page = page }

-- a route is put in, which is owed no more
pub record PaysRoute (page key child : ℕ) (n : Node) (row : ActorRow) (new : Node) (made : ActorRow) : Type 0 where
  pub few : item_count n < 32
  pub posted : new ≡ post_route key child n
  pub row_is : made ≡ record row { page = page; hand = record row.hand { owed = paid child row.hand.owed } }

-- what a post answers of a page, and what it makes of it and of the row
abbrev pub PostsRow : ℕ → ℕ → ℕ → ℕ → Put → Node → ActorRow → Node → ActorRow → Type 0
PostsRow page level key child (put.Down p) n row new made = PointsDown n level key p × OnlyNotes page n row new made
PostsRow page level key child (put.Right p) n row new made = PointsRight n level key p × OnlyNotes page n row new made
PostsRow page level key child put.PageFull n row new made = EndsAfter n level key × (item_count n ≡ 32) × OnlyNotes page n row new made
PostsRow page level key child put.Done n row new made = EndsAfter n level key × PaysRoute page key child n row new made

-- what a trim answers of a leaf page, and what it makes of it and of the row
abbrev pub TrimsRow : ℕ → Visit → Node → ActorRow → Node → ActorRow → Type 0
TrimsRow page (Down p) n row new made = ⊥
TrimsRow page (Right p) n row new made = ⊥
TrimsRow page (Read next) n row new made = TrimsTo n next × (new ≡ trim_node row.floor.updates n) × (made ≡ record row { page = page })

-- a full page is halved: the fresh page is its upper half, whose route is owed
pub record HalvesWhole (page : ℕ) (n : Node) (row : ActorRow) (upper new : Node) (made : ActorRow) : Type 0 where
  pub lower : new ≡ lower_half (hand row.hand.fresh) n
  pub upper_is : upper ≡ upper_half n
  pub row_is : made ≡ record row { page = page; hand = record { fresh = None; owed = row.hand.owed ++ record { level = n.level + 1; key = middle_key n; child = hand row.hand.fresh } ∷ [] } }

-- what the halving of a page makes of it and of the row: what is left of it after a trim has room, or is halved with the fresh page for its upper half
abbrev pub HalvesRow : ℕ → Option Node → Node → ActorRow → Node → ActorRow → Type 0
HalvesRow page None n row new made = (item_count (trim_leaf row.floor.updates n) < 32) × (new ≡ trim_leaf row.floor.updates n) × (made ≡ record row { page = page })
HalvesRow page (Some upper) n row new made = (item_count (trim_leaf row.floor.updates n) ≡ 32) × HalvesWhole page (trim_leaf row.floor.updates n) row upper new made
