-- What sections of routes do: a page is halved, a root grows.
use Rattle.std.specs.Prelude.{◌≡◌, ◌≢◌, ◌+◌, ◌==◌, ℕ, Bool, true, false, cond, Some, None}
use Rattle.mi_core.specs.Events.{Event}
use Rattle.mi_core.specs.Events.Event.{grow, refuse, trim, visit}
use Rattle.mi_core.specs.Refusals.Refusal.{grown}
use Rattle.mi_core.specs.State.{State, put_page}
use Rattle.mi_page.specs.Nodes.{Node, item_count}
use Rattle.mi_solo.specs.OnPages.{OnPage}
use Rattle.mi_solo.specs.PageRows.{HalvesRow}
use Rattle.mi_solo.specs.States.{Does, actor_in}
use Rattle.mi_solo.specs.Viewing.{page_seen}
use Rattle.mi_world.specs.declared.answers.Parted.{Parted}
use Rattle.mi_world.specs.declared.answers.Parted.TheVariants.{Parted as HasParted, Roomy}

-- how many items an actor counts on a page: without the entries that are dead at its floor
abbrev pub items_seen : State → ℕ → ℕ → ℕ
items_seen s a page = item_count (page_seen s (actor_in s a) page)

-- the fresh page is the root of this level exactly where the root was of the level below
abbrev pub GrowsRoot : State → ℕ → ℕ → ℕ → ℕ → Bool → State → Type 0
GrowsRoot s a level key child true t = Does s a (grow level key child) t
GrowsRoot s a level key child false t = Does s a (refuse (grown level)) t × (s.board.height + 1 ≢ level)

-- a leaf page is trimmed, and a page of routes stays as it is
abbrev pub trims_leaf : ℕ → Node → Event
trims_leaf page n = cond (n.level == 0) (trim page n) (visit page)

-- the lower half of a full page stays on it, and its upper half is linked as the fresh page
pub record LinksHalf (s : State) (a page key child : ℕ) (t : State) : Type 0 where
  pub upper : Node
  pub between : State
  pub halved : OnPage s a page (HalvesRow page (Some upper)) between
  pub fresh : (actor_in s a).fresh ≡ Some child
  pub low : key ≡ upper.low
  pub is : t ≡ put_page child upper between

-- a page that is full to its actor is halved; any other has room
abbrev pub HalvesPage : State → ℕ → ℕ → Parted → State → Type 0
HalvesPage s a page (HasParted key child) t = LinksHalf s a page key child t
HalvesPage s a page Roomy t = OnPage s a page (HalvesRow page None) t
