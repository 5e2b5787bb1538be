-- What sections of pages make of a seat's view.
use Rattle.std.proofs.Common.{◌≡◌, ℕ, ◌<◌, length, IsTrue, refl, sym, ◌∙◌, Option, Some}
use Rattle.std.specs.Prelude.{IsSome}
use Rattle.std.proofs.lemmas.Option.{none-some}
use Rattle.mi_key.specs.declared.ranges.Interval.{Interval}
use Rattle.mi_core.specs.Effects.{trim_leaf}
use Rattle.mi_core.specs.Events.Event.{post, split_page, sweep, trim, visit}
use Rattle.mi_core.specs.State.{node_at}
use Rattle.mi_core.proofs.ActorLemmas.{set_there}
use Rattle.mi_page.specs.Nodes.{Node, item_count, middle_key}
use Rattle.mi_world.specs.declared.answers.Parted.TheVariants.{Parted, Roomy}
use Rattle.mi_world.specs.declared.answers.Put.TheVariants as put
use Rattle.mi_world.specs.declared.answers.Visit.{Visit}
use Rattle.mi_world.specs.declared.answers.Visit.TheVariants.{Down, Right, Read}
use Rattle.mi_world.specs.Pages.{IsInLeaf, PartsPage, Posts, Trims, Visits, offered_by, pinned}
use Rattle.mi_world.specs.Splits.{Sweeps, last_key}
use Rattle.mi_solo.specs.Seeking.{AnswersVisit, EndsAfter, PointsDown, PointsRight, ReadsOn, TrimsTo, offered_of}
use Rattle.mi_solo.proofs.OwnLemmas.{event_later}
use Rattle.mi_solo.proofs.ReaderLemmas.{offers_page}
use Rattle.mi_world.specs.View.{Later}
use Rattle.mi_base.specs.History.{updates_of}
use Rattle.mi_hall.proofs.Conditions.{in_leaf}
use Rattle.mi_solo.proofs.RouteLaws.{parts, parts_after_trim, parts_none, posts_done, posts_down, posts_full, posts_right}
use Rattle.mi_solo.proofs.SweepEvents.{sweeps_down, sweeps_on, sweeps_right, trims_on}
use Rattle.mi_solo.proofs.VisitEvents.{visits_page}
use Rattle.mi_hall.specs.Leading.{page_of_visit}
use Rattle.mi_hall.specs.Places.{PageMakes}
use Rattle.mi_hall.proofs.PageRelations.{parts_page_by, posts_by, same_offers, sweeps_by, trims_by, visits_by}
use Rattle.mi_hall.proofs.PlaceLemmas.{page_lifts}

pub visits_seated : (page : ℕ) (node : Node) (range : Interval) (result : Visit) → PageMakes (visit page) (λ c v w. IsTrue (v.named page) → ((p : ℕ) → page_of_visit result ≡ Some p → IsTrue (w.named p)) → node_at c.pages page ≡ Some node → AnswersVisit node range result → Visits v w page range result)
visits_seated page node range result = page_lifts (visit page) (λ c v w. node_at c.pages page ≡ Some node → AnswersVisit node range result → Visits v w page range result) (λ c v w. IsTrue (v.named page) → ((p : ℕ) → page_of_visit result ≡ Some p → IsTrue (w.named p)) → node_at c.pages page ≡ Some node → AnswersVisit node range result → Visits v w page range result) (visits_page page node range result)
    (λ s a r there can. (_, set_there s.actors a _ r there, refl, refl, refl, refl)) (λ s v w n k names shows x here named is answers. visits_by v w n k names shows page here range result named (x is answers))

pub parts_seated : (page : ℕ) (node : Node) (child : ℕ) → PageMakes (split_page page node) (λ c v w. IsTrue (v.named page) → ((p : ℕ) → Some child ≡ Some p → IsTrue (w.named p)) → v.fresh ≡ Some child → PartsPage v w page (Parted (middle_key node) child))
parts_seated page node child = page_lifts (split_page page node) (λ c v w. v.fresh ≡ Some child → PartsPage v w page (Parted (middle_key node) child)) (λ c v w. IsTrue (v.named page) → ((p : ℕ) → Some child ≡ Some p → IsTrue (w.named p)) → v.fresh ≡ Some child → PartsPage v w page (Parted (middle_key node) child)) (parts page node child)
    (λ s a r there can. (_, set_there s.actors a _ r there, refl, refl, refl, refl)) (λ s v w n k names shows x here named fresh. parts_page_by v w n k names shows page here (Parted (middle_key node) child) named (x fresh))

pub roomy_seated : (page : ℕ) (node : Node) → PageMakes (visit page) (λ c v w. IsTrue (v.named page) → node_at c.pages page ≡ Some node → item_count (trim_leaf v.floor.updates node) < 32 → PartsPage v w page Roomy)
roomy_seated page node = page_lifts (visit page) (λ c v w. node_at c.pages page ≡ Some node → item_count (trim_leaf v.floor.updates node) < 32 → PartsPage v w page Roomy) (λ c v w. IsTrue (v.named page) → node_at c.pages page ≡ Some node → item_count (trim_leaf v.floor.updates node) < 32 → PartsPage v w page Roomy) (parts_none page node)
    (λ s a r there can. (_, set_there s.actors a _ r there, refl, refl, refl, refl)) (λ s v w n k names shows x here is few. parts_page_by v w n k names shows page here Roomy (λ p e. absurd (none-some p e)) (x is few))

pub roomy_trim_seated : (page : ℕ) (node : Node) → PageMakes (trim page node) (λ c v w. IsTrue (v.named page) → item_count (trim_leaf v.floor.updates node) < 32 → PartsPage v w page Roomy)
roomy_trim_seated page node = page_lifts (trim page node) (λ c v w. item_count (trim_leaf v.floor.updates node) < 32 → PartsPage v w page Roomy) (λ c v w. IsTrue (v.named page) → item_count (trim_leaf v.floor.updates node) < 32 → PartsPage v w page Roomy) (parts_after_trim page node)
    (λ s a r there can. (_, set_there s.actors a _ r there, refl, refl, refl, refl)) (λ s v w n k names shows x here few. parts_page_by v w n k names shows page here Roomy (λ p e. absurd (none-some p e)) (x few))

pub posts_down_seated : (page : ℕ) (node : Node) (level key child next : ℕ) → PageMakes (visit page) (λ c v w. IsTrue (v.named page) → ((p : ℕ) → Some next ≡ Some p → IsTrue (w.named p)) → node_at c.pages page ≡ Some node → PointsDown node level key next → Posts v w page level key child (put.Down next))
posts_down_seated page node level key child next = page_lifts (visit page) (λ c v w. node_at c.pages page ≡ Some node → PointsDown node level key next → Posts v w page level key child (put.Down next)) (λ c v w. IsTrue (v.named page) → ((p : ℕ) → Some next ≡ Some p → IsTrue (w.named p)) → node_at c.pages page ≡ Some node → PointsDown node level key next → Posts v w page level key child (put.Down next)) (posts_down page node level key child next)
    (λ s a r there can. (_, set_there s.actors a _ r there, refl, refl, refl, refl)) (λ s v w n k names shows x here named is points. posts_by v w n k names shows page here level key child (put.Down next) named (x is points))

pub posts_right_seated : (page : ℕ) (node : Node) (level key child next : ℕ) → PageMakes (visit page) (λ c v w. IsTrue (v.named page) → ((p : ℕ) → Some next ≡ Some p → IsTrue (w.named p)) → node_at c.pages page ≡ Some node → PointsRight node level key next → Posts v w page level key child (put.Right next))
posts_right_seated page node level key child next = page_lifts (visit page) (λ c v w. node_at c.pages page ≡ Some node → PointsRight node level key next → Posts v w page level key child (put.Right next)) (λ c v w. IsTrue (v.named page) → ((p : ℕ) → Some next ≡ Some p → IsTrue (w.named p)) → node_at c.pages page ≡ Some node → PointsRight node level key next → Posts v w page level key child (put.Right next)) (posts_right page node level key child next)
    (λ s a r there can. (_, set_there s.actors a _ r there, refl, refl, refl, refl)) (λ s v w n k names shows x here named is points. posts_by v w n k names shows page here level key child (put.Right next) named (x is points))

pub posts_full_seated : (page : ℕ) (node : Node) (level key child : ℕ) → PageMakes (visit page) (λ c v w. IsTrue (v.named page) → node_at c.pages page ≡ Some node → EndsAfter node level key → item_count (trim_leaf v.floor.updates node) ≡ 32 → Posts v w page level key child put.PageFull)
posts_full_seated page node level key child = page_lifts (visit page) (λ c v w. node_at c.pages page ≡ Some node → EndsAfter node level key → item_count (trim_leaf v.floor.updates node) ≡ 32 → Posts v w page level key child put.PageFull) (λ c v w. IsTrue (v.named page) → node_at c.pages page ≡ Some node → EndsAfter node level key → item_count (trim_leaf v.floor.updates node) ≡ 32 → Posts v w page level key child put.PageFull) (posts_full page node level key child)
    (λ s a r there can. (_, set_there s.actors a _ r there, refl, refl, refl, refl)) (λ s v w n k names shows x here is ends many. posts_by v w n k names shows page here level key child put.PageFull (λ p e. absurd (none-some p e)) (x is ends many))

pub posts_done_seated : (page : ℕ) (node : Node) (level key child : ℕ) → PageMakes (post page node key child) (λ c v w. IsTrue (v.named page) → node.level ≡ level → Posts v w page level key child put.Done)
posts_done_seated page node level key child = page_lifts (post page node key child) (λ c v w. node.level ≡ level → Posts v w page level key child put.Done) (λ c v w. IsTrue (v.named page) → node.level ≡ level → Posts v w page level key child put.Done) (posts_done page node level key child)
    (λ s a r there can. (_, set_there s.actors a _ r there, refl, refl, refl, refl)) (λ s v w n k names shows x here is. posts_by v w n k names shows page here level key child put.Done (λ p e. absurd (none-some p e)) (x is))

pub sweeps_down_seated : (page : ℕ) (node : Node) (child : ℕ) → PageMakes (visit page) (λ c v w. IsTrue (v.named page) → ((p : ℕ) → Some child ≡ Some p → IsTrue (w.named p)) → node_at c.pages page ≡ Some node → PointsDown node 0 v.swept child → Sweeps v w page (Down child))
sweeps_down_seated page node child = page_lifts (visit page) (λ c v w. node_at c.pages page ≡ Some node → PointsDown node 0 v.swept child → Sweeps v w page (Down child)) (λ c v w. IsTrue (v.named page) → ((p : ℕ) → Some child ≡ Some p → IsTrue (w.named p)) → node_at c.pages page ≡ Some node → PointsDown node 0 v.swept child → Sweeps v w page (Down child)) (sweeps_down page node child)
    (λ s a r there can. (_, set_there s.actors a _ r there, refl, refl, refl, refl)) (λ s v w n k names shows x here named is points. sweeps_by v w n k names shows page here (Down child) named (x is points))

pub sweeps_right_seated : (page : ℕ) (node : Node) (next : ℕ) → PageMakes (visit page) (λ c v w. IsTrue (v.named page) → ((p : ℕ) → Some next ≡ Some p → IsTrue (w.named p)) → node_at c.pages page ≡ Some node → PointsRight node 0 v.swept next → Sweeps v w page (Right next))
sweeps_right_seated page node next = page_lifts (visit page) (λ c v w. node_at c.pages page ≡ Some node → PointsRight node 0 v.swept next → Sweeps v w page (Right next)) (λ c v w. IsTrue (v.named page) → ((p : ℕ) → Some next ≡ Some p → IsTrue (w.named p)) → node_at c.pages page ≡ Some node → PointsRight node 0 v.swept next → Sweeps v w page (Right next)) (sweeps_right page node next)
    (λ s a r there can. (_, set_there s.actors a _ r there, refl, refl, refl, refl)) (λ s v w n k names shows x here named is points. sweeps_by v w n k names shows page here (Right next) named (x is points))

pub sweeps_seated : (page : ℕ) (node : Node) (next : Option ℕ) → PageMakes (sweep page node) (λ c v w. IsTrue (v.named page) → ((p : ℕ) → next ≡ Some p → IsTrue (w.named p)) → ReadsOn node (last_key v v.sweep) next → Sweeps v w page (Read next))
sweeps_seated page node next = page_lifts (sweep page node) (λ c v w. ReadsOn node (last_key v v.sweep) next → Sweeps v w page (Read next)) (λ c v w. IsTrue (v.named page) → ((p : ℕ) → next ≡ Some p → IsTrue (w.named p)) → ReadsOn node (last_key v v.sweep) next → Sweeps v w page (Read next)) (sweeps_on page node next)
    (λ s a r there can. (_, set_there s.actors a _ r there, refl, refl, refl, refl)) (λ s v w n k names shows x here named reads. sweeps_by v w n k names shows page here (Read next) named (x reads))

pub trims_seated : (page : ℕ) (node : Node) (next : Option ℕ) → PageMakes (trim page node) (λ c v w. IsTrue (v.named page) → ((p : ℕ) → next ≡ Some p → IsTrue (w.named p)) → TrimsTo node next → Trims v w page (Read next))
trims_seated page node next = page_lifts (trim page node) (λ c v w. TrimsTo node next → Trims v w page (Read next)) (λ c v w. IsTrue (v.named page) → ((p : ℕ) → next ≡ Some p → IsTrue (w.named p)) → TrimsTo node next → Trims v w page (Read next)) (trims_on page node next)
    (λ s a r there can. (_, set_there s.actors a _ r there, refl, refl, refl, refl)) (λ s v w n k names shows x here named to. trims_by v w n k names shows page here (Read next) named (x to))

-- what a visit offers is what the page shows at the pin
pub offers_seated : (page : ℕ) (node : Node) (range : Interval) (result : Visit) → PageMakes (visit page) (λ c v w. IsTrue (v.named page) → ((p : ℕ) → page_of_visit result ≡ Some p → IsTrue (w.named p)) → node_at c.pages page ≡ Some node
    → IsSome v.pin → IsInLeaf v range → AnswersVisit node range result → offered_of node range (length (updates_of (pinned v))) result ≡ offered_by v w page range result)
offers_seated page node range result = page_lifts (visit page)
    (λ c v w. Later v w × (node_at c.pages page ≡ Some node → IsSome v.pin → IsInLeaf v range → AnswersVisit node range result → offered_of node range (length (updates_of (pinned v))) result ≡ offered_by v w page range result))
    (λ c v w. IsTrue (v.named page) → ((p : ℕ) → page_of_visit result ≡ Some p → IsTrue (w.named p)) → node_at c.pages page ≡ Some node
    → IsSome v.pin → IsInLeaf v range → AnswersVisit node range result → offered_of node range (length (updates_of (pinned v))) result ≡ offered_by v w page range result)
    (λ s k a r q there going can now. (event_later (visit page) s k a r q there going can now, offers_page page node range result s k a r q there going can now))
    (λ s a r there can. (_, set_there s.actors a _ r there, refl, refl, refl, refl))
    (λ s v w n k names shows x here named is some cell t. x.1 is some (in_leaf v n k range cell) t ∙ sym (same_offers v w n k names shows page here x.0 range result named))
