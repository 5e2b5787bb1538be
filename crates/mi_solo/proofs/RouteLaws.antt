-- Halves, routes and roots, as laws of their events.
use Rattle.std.proofs.Common.{◌≡◌, ℕ, ◌<◌, true, false}
use Rattle.std.proofs.Common.{Some}
use Rattle.mi_page.specs.Nodes.{Node, item_count, middle_key}
use Rattle.mi_core.specs.Effects.{paid, saw, trim_leaf}
use Rattle.mi_core.specs.Events.Event.{grow, post, refuse, split_page, trim, visit}
use Rattle.mi_core.specs.Kept.{Kept}
use Rattle.mi_core.specs.Refusals.Refusal.{grown}
use Rattle.mi_core.specs.State.{State, node_at}
use Rattle.mi_core.proofs.ActorLemmas.{set_there}
use Rattle.mi_world.specs.declared.answers.Parted.TheVariants.{Parted as HasParted, Roomy}
use Rattle.mi_world.specs.declared.answers.Put.TheVariants as put
use Rattle.mi_world.specs.Boards.{Grew}
use Rattle.mi_world.specs.Pages.{PartsPage, Posts}
use Rattle.mi_solo.specs.Onward.{Makes}
use Rattle.mi_solo.specs.Seeking.{EndsAfter, PointsDown, PointsRight}
use Rattle.mi_solo.proofs.DescentLemmas.{page_stands}
use Rattle.mi_solo.proofs.OwnLemmas.{made}
use Rattle.mi_solo.proofs.RouteEvents.{full_untrimmed, grows, grows_not, now_grown, now_parted, parts_not, parts_child, parts_trimmed, post_done, post_down, post_full, post_right}

-- a page with 32 items after a trim has none that a trim takes off
pub full_kept : (s : State) → Kept s → (page : ℕ) (node : Node) → node_at s.pages page ≡ Some node → (floor : ℕ) → item_count (trim_leaf floor node) ≡ 32 → trim_leaf floor node ≡ node
full_kept s k page node here floor many = full_untrimmed floor node (page_stands s k page node here) many

module _ (page : ℕ) (node : Node) where
  pub parts : (child : ℕ) → Makes (split_page page node) (λ s v w. v.fresh ≡ Some child → PartsPage v w page (HasParted (middle_key node) child))
  parts child = made (split_page page node) (λ s v w. v.fresh ≡ Some child → PartsPage v w page (HasParted (middle_key node) child))
      (λ s k a r there going can. (_, now_parted s k a r there going page node can.2 can, λ e. parts_child s k a r there going page node can.2 can child e))

  pub parts_none : Makes (visit page) (λ s v w. node_at s.pages page ≡ Some node → item_count (trim_leaf v.floor.updates node) < 32 → PartsPage v w page Roomy)
  parts_none = made (visit page) (λ s v w. node_at s.pages page ≡ Some node → item_count (trim_leaf v.floor.updates node) < 32 → PartsPage v w page Roomy)
      (λ s k a r there going can. (_, set_there s.actors a (record r { page = page }) r there, λ here few. parts_not s k a r there going page node here few can))

  pub parts_after_trim : Makes (trim page node) (λ s v w. item_count (trim_leaf v.floor.updates node) < 32 → PartsPage v w page Roomy)
  parts_after_trim = made (trim page node) (λ s v w. item_count (trim_leaf v.floor.updates node) < 32 → PartsPage v w page Roomy)
      (λ s k a r there going can. (_, set_there s.actors a (record r { page = page }) r there, λ few. parts_trimmed s k a r there going page node can.there few can))

  module _ (level key child : ℕ) where
    pub posts_down : (next : ℕ) → Makes (visit page) (λ s v w. node_at s.pages page ≡ Some node → PointsDown node level key next → Posts v w page level key child (put.Down next))
    posts_down next = made (visit page) (λ s v w. node_at s.pages page ≡ Some node → PointsDown node level key next → Posts v w page level key child (put.Down next))
        (λ s k a r there going can. (_, set_there s.actors a (record r { page = page }) r there, λ here p. post_down s k a r there going page node here level key child can next p))

    pub posts_right : (next : ℕ) → Makes (visit page) (λ s v w. node_at s.pages page ≡ Some node → PointsRight node level key next → Posts v w page level key child (put.Right next))
    posts_right next = made (visit page) (λ s v w. node_at s.pages page ≡ Some node → PointsRight node level key next → Posts v w page level key child (put.Right next))
        (λ s k a r there going can. (_, set_there s.actors a (record r { page = page }) r there, λ here p. post_right s k a r there going page node here level key child can next p))

    pub posts_full : Makes (visit page) (λ s v w. node_at s.pages page ≡ Some node → EndsAfter node level key → item_count (trim_leaf v.floor.updates node) ≡ 32 → Posts v w page level key child put.PageFull)
    posts_full = made (visit page) (λ s v w. node_at s.pages page ≡ Some node → EndsAfter node level key → item_count (trim_leaf v.floor.updates node) ≡ 32 → Posts v w page level key child put.PageFull)
        (λ s k a r there going can. (_, set_there s.actors a (record r { page = page }) r there, λ here e many. post_full s k a r there going page node here level key child can e many))

    pub posts_done : Makes (post page node key child) (λ s v w. node.level ≡ level → Posts v w page level key child put.Done)
    posts_done = made (post page node key child) (λ s v w. node.level ≡ level → Posts v w page level key child put.Done)
        (λ s k a r there going can. (_, set_there s.actors a (record r { page = page; owed = paid child r.owed }) r there, λ at. post_done s k a r there going page node can.0 level key child can at))

pub roots_grow : (level key child : ℕ) → Makes (grow level key child) (λ s v w. Grew v w level child true)
roots_grow level key child = made (grow level key child) (λ s v w. Grew v w level child true)
    (λ s k a r there going can. (_, now_grown s k a r there going level key child can, grows s k a r there going level key child can))

pub roots_stay : (level child : ℕ) → Makes (refuse (grown level)) (λ s v w. Grew v w level child false)
roots_stay level child = made (refuse (grown level)) (λ s v w. Grew v w level child false)
    (λ s k a r there going can. (_, set_there s.actors a (saw s.board r) r there, grows_not s k a r there going level 0 child can))
