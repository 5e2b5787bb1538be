-- What commits make of a seat's view.
use Rattle.std.proofs.Common.{◌≡◌, ℕ, ◌+◌, List, length, IsTrue, refl, false, Some}
use Rattle.std.specs.Prelude.{ℤ}
use Rattle.std.proofs.lemmas.Option.{none-some}
use Rattle.mi_base.specs.History.{updates_of}
use Rattle.mi_board.specs.Boards.{HasRoom, crowded_at}
use Rattle.mi_core.specs.Events.Event.{delete, insert, meet, refuse_at, visit}
use Rattle.mi_core.specs.Refusals.Refusal.{crowded, full, page_full}
use Rattle.mi_core.specs.State.{node_at}
use Rattle.mi_core.proofs.ActorLemmas.{set_there}
use Rattle.mi_entries.specs.Entries.{grid}
use Rattle.mi_entries.specs.Records.{Rows}
use Rattle.mi_key.specs.declared.entries.Entry.{Entry}
use Rattle.mi_page.specs.Nodes.{Node}
use Rattle.mi_world.specs.declared.answers.Commit.TheVariants as commit
use Rattle.mi_world.specs.Pages.{CommitsDelete, CommitsInsert, MayInsert, delete_key, insert_key}
use Rattle.mi_solo.specs.Seeking.{EndsAfter, PointsDown, PointsRight}
use Rattle.mi_solo.proofs.CommitEvents.{deletes_down, deletes_full, deletes_right, inserts_crowded, inserts_down, inserts_full, inserts_page_full, inserts_right}
use Rattle.mi_solo.proofs.EnterEvents.{deletes_done, inserts_done}
use Rattle.mi_hall.specs.Places.{BothMake, PageMakes}
use Rattle.mi_hall.proofs.CommitRelations.{deletes_done_by, deletes_down_by, deletes_full_by, deletes_right_by, inserts_by, inserts_down_by}
use Rattle.mi_hall.proofs.Conditions.{may_insert}
use Rattle.mi_hall.proofs.PlaceLemmas.{both_lift, page_lifts}

pub inserts_down_seated : (page op id : ℕ) (node : Node) (vector : List ℤ) (dists : List ℕ) (child : ℕ) → PageMakes (visit page) (λ c v w. IsTrue (v.named page) → ((p : ℕ) → Some child ≡ Some p → IsTrue (w.named p)) → node_at c.pages page ≡ Some node → PointsDown node 0 (insert_key v dists id 0) child → CommitsInsert v w page op id vector dists (commit.Down child))
inserts_down_seated page op id node vector dists child = page_lifts (visit page) (λ c v w. node_at c.pages page ≡ Some node → PointsDown node 0 (insert_key v dists id 0) child → CommitsInsert v w page op id vector dists (commit.Down child)) (λ c v w. IsTrue (v.named page) → ((p : ℕ) → Some child ≡ Some p → IsTrue (w.named p)) → node_at c.pages page ≡ Some node → PointsDown node 0 (insert_key v dists id 0) child → CommitsInsert v w page op id vector dists (commit.Down child)) (inserts_down page op id node vector dists child)
    (λ s a r there can. (_, set_there s.actors a _ r there, refl, refl, refl, refl)) (λ s v w n k names shows x here named is points. inserts_down_by v w n k names shows page here op id vector dists child (named child refl) (x is points))

pub inserts_right_seated : (page op id : ℕ) (node : Node) (vector : List ℤ) (dists : List ℕ) (next : ℕ) → BothMake (meet page) (λ c v w. IsTrue (v.named page) → ((p : ℕ) → Some next ≡ Some p → IsTrue (w.named p)) → node_at c.pages page ≡ Some node → PointsRight node 0 (insert_key v dists id (length (updates_of c.board.log) + 1)) next → CommitsInsert v w page op id vector dists (commit.Right next))
inserts_right_seated page op id node vector dists next = both_lift (meet page) (λ c v w. node_at c.pages page ≡ Some node → PointsRight node 0 (insert_key v dists id (length (updates_of c.board.log) + 1)) next → CommitsInsert v w page op id vector dists (commit.Right next)) (λ c v w. IsTrue (v.named page) → ((p : ℕ) → Some next ≡ Some p → IsTrue (w.named p)) → node_at c.pages page ≡ Some node → PointsRight node 0 (insert_key v dists id (length (updates_of c.board.log) + 1)) next → CommitsInsert v w page op id vector dists (commit.Right next)) (inserts_right page op id node vector dists next)
    (λ s a r there can. (_, set_there s.actors a _ r there, refl)) (λ s v w n k names shows x here named is points. inserts_by v w n k names shows page here op id vector dists (commit.Right next) (λ p e. cc) named (x is points))

pub inserts_full_seated : (page op id : ℕ) (node : Node) (vector : List ℤ) (dists : List ℕ) → BothMake (refuse_at page full) (λ c v w. IsTrue (v.named page) → node_at c.pages page ≡ Some node → EndsAfter node 0 (insert_key v dists id (length (updates_of c.board.log) + 1)) → CommitsInsert v w page op id vector dists (commit.Full c.board.settings.updates))
inserts_full_seated page op id node vector dists = both_lift (refuse_at page full) (λ c v w. node_at c.pages page ≡ Some node → EndsAfter node 0 (insert_key v dists id (length (updates_of c.board.log) + 1)) → CommitsInsert v w page op id vector dists (commit.Full c.board.settings.updates)) (λ c v w. IsTrue (v.named page) → node_at c.pages page ≡ Some node → EndsAfter node 0 (insert_key v dists id (length (updates_of c.board.log) + 1)) → CommitsInsert v w page op id vector dists (commit.Full c.board.settings.updates)) (inserts_full page op id node vector dists)
    (λ s a r there can. (_, set_there s.actors a _ r there, refl)) (λ s v w n k names shows x here is ends. inserts_by v w n k names shows page here op id vector dists (commit.Full s.board.settings.updates) (λ p e. cc) (λ p e. absurd (none-some p e)) (x is ends))

pub inserts_crowded_seated : (page op id : ℕ) (node : Node) (vector : List ℤ) (dists : List ℕ) → BothMake (refuse_at page (crowded vector)) (λ c v w. IsTrue (v.named page) → node_at c.pages page ≡ Some node → MayInsert v id vector dists → EndsAfter node 0 (insert_key v dists id (length (updates_of c.board.log) + 1)) → HasRoom c.board → CommitsInsert v w page op id vector dists commit.Crowded)
inserts_crowded_seated page op id node vector dists = both_lift (refuse_at page (crowded vector)) (λ c v w. node_at c.pages page ≡ Some node → MayInsert v id vector dists → EndsAfter node 0 (insert_key v dists id (length (updates_of c.board.log) + 1)) → HasRoom c.board → CommitsInsert v w page op id vector dists commit.Crowded) (λ c v w. IsTrue (v.named page) → node_at c.pages page ≡ Some node → MayInsert v id vector dists → EndsAfter node 0 (insert_key v dists id (length (updates_of c.board.log) + 1)) → HasRoom c.board → CommitsInsert v w page op id vector dists commit.Crowded) (inserts_crowded page op id node vector dists)
    (λ s a r there can. (_, set_there s.actors a _ r there, refl)) (λ s v w n k names shows x here is may ends room. inserts_by v w n k names shows page here op id vector dists commit.Crowded (λ p e. cc) (λ p e. absurd (none-some p e)) (x is (may_insert v n k id vector dists may) ends room))

pub inserts_page_full_seated : (page op id : ℕ) (node : Node) (vector : List ℤ) (dists : List ℕ) → BothMake (refuse_at page (page_full page)) (λ c v w. IsTrue (v.named page) → node_at c.pages page ≡ Some node → MayInsert v id vector dists → EndsAfter node 0 (insert_key v dists id (length (updates_of c.board.log) + 1)) → HasRoom c.board → crowded_at c.board ((grid c.board.settings).perm vector) ≡ false → CommitsInsert v w page op id vector dists commit.PageFull)
inserts_page_full_seated page op id node vector dists = both_lift (refuse_at page (page_full page)) (λ c v w. node_at c.pages page ≡ Some node → MayInsert v id vector dists → EndsAfter node 0 (insert_key v dists id (length (updates_of c.board.log) + 1)) → HasRoom c.board → crowded_at c.board ((grid c.board.settings).perm vector) ≡ false → CommitsInsert v w page op id vector dists commit.PageFull) (λ c v w. IsTrue (v.named page) → node_at c.pages page ≡ Some node → MayInsert v id vector dists → EndsAfter node 0 (insert_key v dists id (length (updates_of c.board.log) + 1)) → HasRoom c.board → crowded_at c.board ((grid c.board.settings).perm vector) ≡ false → CommitsInsert v w page op id vector dists commit.PageFull) (inserts_page_full page op id node vector dists)
    (λ s a r there can. (_, set_there s.actors a _ r there, refl)) (λ s v w n k names shows x here is may ends room calm. inserts_by v w n k names shows page here op id vector dists commit.PageFull (λ p e. cc) (λ p e. absurd (none-some p e)) (x is (may_insert v n k id vector dists may) ends room calm))

pub inserts_seated : (op id page : ℕ) (node : Node) (kept : Rows) (e : Entry) → BothMake (insert op id page node kept e) (λ c v w. IsTrue (v.named page) → CommitsInsert v w page op id e.vector e.dists.items (commit.Done e.birth))
inserts_seated op id page node kept e = both_lift (insert op id page node kept e) (λ c v w. CommitsInsert v w page op id e.vector e.dists.items (commit.Done e.birth)) (λ c v w. IsTrue (v.named page) → CommitsInsert v w page op id e.vector e.dists.items (commit.Done e.birth)) (inserts_done op id page node kept e)
    (λ s a r there can. (_, set_there s.actors a _ r there, refl)) (λ s v w n k names shows x here. inserts_by v w n k names shows page here op id e.vector e.dists.items (commit.Done e.birth) (λ p e. cc) (λ p e. absurd (none-some p e)) x)

pub deletes_down_seated : (page op id : ℕ) (node : Node) (child : ℕ) → PageMakes (visit page) (λ c v w. IsTrue (v.named page) → ((p : ℕ) → Some child ≡ Some p → IsTrue (w.named p)) → node_at c.pages page ≡ Some node → PointsDown node 0 (delete_key v id) child → CommitsDelete v w page op id (commit.Down child))
deletes_down_seated page op id node child = page_lifts (visit page) (λ c v w. node_at c.pages page ≡ Some node → PointsDown node 0 (delete_key v id) child → CommitsDelete v w page op id (commit.Down child)) (λ c v w. IsTrue (v.named page) → ((p : ℕ) → Some child ≡ Some p → IsTrue (w.named p)) → node_at c.pages page ≡ Some node → PointsDown node 0 (delete_key v id) child → CommitsDelete v w page op id (commit.Down child)) (deletes_down page op id node child)
    (λ s a r there can. (_, set_there s.actors a _ r there, refl, refl, refl, refl)) (λ s v w n k names shows x here named is points. deletes_down_by v w n k names shows page here op id child (named child refl) (x is points))

pub deletes_right_seated : (page op id : ℕ) (node : Node) (next : ℕ) → PageMakes (visit page) (λ c v w. IsTrue (v.named page) → ((p : ℕ) → Some next ≡ Some p → IsTrue (w.named p)) → node_at c.pages page ≡ Some node → PointsRight node 0 (delete_key v id) next → CommitsDelete v w page op id (commit.Right next))
deletes_right_seated page op id node next = page_lifts (visit page) (λ c v w. node_at c.pages page ≡ Some node → PointsRight node 0 (delete_key v id) next → CommitsDelete v w page op id (commit.Right next)) (λ c v w. IsTrue (v.named page) → ((p : ℕ) → Some next ≡ Some p → IsTrue (w.named p)) → node_at c.pages page ≡ Some node → PointsRight node 0 (delete_key v id) next → CommitsDelete v w page op id (commit.Right next)) (deletes_right page op id node next)
    (λ s a r there can. (_, set_there s.actors a _ r there, refl, refl, refl, refl)) (λ s v w n k names shows x here named is points. deletes_right_by v w n k names shows page here op id next (named next refl) (x is points))

pub deletes_full_seated : (page op id : ℕ) (node : Node) → BothMake (refuse_at page full) (λ c v w. IsTrue (v.named page) → node_at c.pages page ≡ Some node → EndsAfter node 0 (delete_key v id) → CommitsDelete v w page op id (commit.Full c.board.settings.updates))
deletes_full_seated page op id node = both_lift (refuse_at page full) (λ c v w. node_at c.pages page ≡ Some node → EndsAfter node 0 (delete_key v id) → CommitsDelete v w page op id (commit.Full c.board.settings.updates)) (λ c v w. IsTrue (v.named page) → node_at c.pages page ≡ Some node → EndsAfter node 0 (delete_key v id) → CommitsDelete v w page op id (commit.Full c.board.settings.updates)) (deletes_full page op id node)
    (λ s a r there can. (_, set_there s.actors a _ r there, refl)) (λ s v w n k names shows x here is ends. deletes_full_by v w n k names shows page here op id s.board.settings.updates (x is ends))

pub deletes_seated : (op id page : ℕ) (node : Node) (kept : Rows) (key : ℕ) → BothMake (delete op id page node kept key) (λ c v w. IsTrue (v.named page) → CommitsDelete v w page op id (commit.Done (length (updates_of c.board.log) + 1)))
deletes_seated op id page node kept key = both_lift (delete op id page node kept key) (λ c v w. CommitsDelete v w page op id (commit.Done (length (updates_of c.board.log) + 1))) (λ c v w. IsTrue (v.named page) → CommitsDelete v w page op id (commit.Done (length (updates_of c.board.log) + 1))) (deletes_done op id page node kept key)
    (λ s a r there can. (_, set_there s.actors a _ r there, refl)) (λ s v w n k names shows x here. deletes_done_by v w n k names shows page here op id (length (updates_of s.board.log) + 1) x)
