-- What sections of a split's pages make of a seat's view.
use Rattle.std.proofs.Common.{◌≡◌, ℕ, ◌-◌, ◌==◌, ◌||◌, Bool, true, false, cond, not, IsTrue, refl, sym, ap, ◌∙◌, subst, eqb-true, Option, Some}
use Rattle.std.specs.Prelude.{Ok, Err}
use Rattle.std.proofs.lemmas.Option.{none-some, same_Some}
use Rattle.mi_base.specs.declared.refusals.NoMemory.{NoMemory}
use Rattle.mi_core.specs.Effects.{trim_leaf}
use Rattle.mi_core.specs.Events.Event.{copy_in, gather, start, uncopy, visit}
use Rattle.mi_core.specs.Events.{Can, after, copied_of, copied_to, with_split_at}
use Rattle.mi_entries.specs.Actors.{Actor, SplitWork}
use Rattle.mi_core.specs.State.{State, node_at}
use Rattle.mi_core.proofs.ActorLemmas.{set_there}
use Rattle.mi_key.specs.declared.entries.Entry.{Entry}
use Rattle.mi_page.specs.Nodes.{Node, item_count}
use Rattle.mi_world.specs.declared.answers.Put.TheVariants as put
use Rattle.mi_world.specs.declared.answers.Visit.TheVariants.{Down, Right, Read}
use Rattle.mi_world.specs.Splits.{CopiesIn, Gathers, Uncopies, gather_key, last_copy, last_key, next_copy}
use Rattle.mi_solo.specs.Seeking.{EndsAfter, PointsDown, PointsRight, ReadsOn}
use Rattle.mi_solo.proofs.CopyEvents.{copies_done, copies_down, copies_full, copies_right, uncopies_done, uncopies_down, uncopies_right}
use Rattle.mi_solo.specs.Viewing.{shown_to}
use Rattle.mi_hall.specs.Knowledge.{reading, view_by}
use Rattle.mi_hall.specs.Seats.{knowledge}
use Rattle.mi_hall.proofs.SeatLemmas.{shows_named}
use Rattle.mi_solo.proofs.GatherEvents.{gathers_down, gathers_memory, gathers_on, gathers_right}
use Rattle.mi_hall.specs.Places.{PageMakes}
use Rattle.mi_hall.proofs.SplitRelations.{copies_in_by, gathers_by, uncopies_done_by, uncopies_on_by}
use Rattle.mi_hall.proofs.PlaceLemmas.{at_page, page_lifts}

pub gathers_down_seated : (page : ℕ) (node : Node) (child : ℕ) → PageMakes (start page) (λ c v w. IsTrue (v.named page) → ((p : ℕ) → Some child ≡ Some p → IsTrue (w.named p)) → node_at c.pages page ≡ Some node → PointsDown node 0 (gather_key v) child → Gathers v w page (Ok (Down child)))
gathers_down_seated page node child = page_lifts (start page) (λ c v w. node_at c.pages page ≡ Some node → PointsDown node 0 (gather_key v) child → Gathers v w page (Ok (Down child))) (λ c v w. IsTrue (v.named page) → ((p : ℕ) → Some child ≡ Some p → IsTrue (w.named p)) → node_at c.pages page ≡ Some node → PointsDown node 0 (gather_key v) child → Gathers v w page (Ok (Down child))) (gathers_down page node child)
    (λ s a r there can. (_, set_there s.actors a _ r there, refl, refl, refl, refl)) (λ s v w n k names shows x here named is points. gathers_by v w n k names shows page here (Ok (Down child)) named (x is points))

pub gathers_right_seated : (page : ℕ) (node : Node) (next : ℕ) → PageMakes (start page) (λ c v w. IsTrue (v.named page) → ((p : ℕ) → Some next ≡ Some p → IsTrue (w.named p)) → node_at c.pages page ≡ Some node → PointsRight node 0 (gather_key v) next → Gathers v w page (Ok (Right next)))
gathers_right_seated page node next = page_lifts (start page) (λ c v w. node_at c.pages page ≡ Some node → PointsRight node 0 (gather_key v) next → Gathers v w page (Ok (Right next))) (λ c v w. IsTrue (v.named page) → ((p : ℕ) → Some next ≡ Some p → IsTrue (w.named p)) → node_at c.pages page ≡ Some node → PointsRight node 0 (gather_key v) next → Gathers v w page (Ok (Right next))) (gathers_right page node next)
    (λ s a r there can. (_, set_there s.actors a _ r there, refl, refl, refl, refl)) (λ s v w n k names shows x here named is points. gathers_by v w n k names shows page here (Ok (Right next)) named (x is points))

pub gathers_none_seated : (page : ℕ) (e : NoMemory) → PageMakes (start page) (λ c v w. IsTrue (v.named page) → Gathers v w page (Err e))
gathers_none_seated page e = page_lifts (start page) (λ c v w. Gathers v w page (Err e)) (λ c v w. IsTrue (v.named page) → Gathers v w page (Err e)) (gathers_memory page e)
    (λ s a r there can. (_, set_there s.actors a _ r there, refl, refl, refl, refl)) (λ s v w n k names shows x here. gathers_by v w n k names shows page here (Err e) (λ p e. absurd (none-some p e)) x)

pub gathers_seated : (page : ℕ) (node : Node) (next : Option ℕ) → PageMakes (gather page node) (λ c v w. IsTrue (v.named page) → ((p : ℕ) → next ≡ Some p → IsTrue (w.named p)) → ReadsOn node (last_key v v.leaf) next → Gathers v w page (Ok (Read next)))
gathers_seated page node next = page_lifts (gather page node) (λ c v w. ReadsOn node (last_key v v.leaf) next → Gathers v w page (Ok (Read next))) (λ c v w. IsTrue (v.named page) → ((p : ℕ) → next ≡ Some p → IsTrue (w.named p)) → ReadsOn node (last_key v v.leaf) next → Gathers v w page (Ok (Read next))) (gathers_on page node next)
    (λ s a r there can. (_, set_there s.actors a _ r there, refl, refl, refl, refl)) (λ s v w n k names shows x here named reads. gathers_by v w n k names shows page here (Ok (Read next)) named (x reads))

pub copies_down_seated : (page : ℕ) (node : Node) (child : ℕ) → PageMakes (visit page) (λ c v w. IsTrue (v.named page) → ((p : ℕ) → Some child ≡ Some p → IsTrue (w.named p)) → node_at c.pages page ≡ Some node → PointsDown node 0 (next_copy v) child → CopiesIn v w page (put.Down child))
copies_down_seated page node child = page_lifts (visit page) (λ c v w. node_at c.pages page ≡ Some node → PointsDown node 0 (next_copy v) child → CopiesIn v w page (put.Down child)) (λ c v w. IsTrue (v.named page) → ((p : ℕ) → Some child ≡ Some p → IsTrue (w.named p)) → node_at c.pages page ≡ Some node → PointsDown node 0 (next_copy v) child → CopiesIn v w page (put.Down child)) (copies_down page node child)
    (λ s a r there can. (_, set_there s.actors a _ r there, refl, refl, refl, refl)) (λ s v w n k names shows x here named is points. copies_in_by v w n k names shows page here (put.Down child) named (x is points))

pub copies_right_seated : (page : ℕ) (node : Node) (next : ℕ) → PageMakes (visit page) (λ c v w. IsTrue (v.named page) → ((p : ℕ) → Some next ≡ Some p → IsTrue (w.named p)) → node_at c.pages page ≡ Some node → PointsRight node 0 (next_copy v) next → CopiesIn v w page (put.Right next))
copies_right_seated page node next = page_lifts (visit page) (λ c v w. node_at c.pages page ≡ Some node → PointsRight node 0 (next_copy v) next → CopiesIn v w page (put.Right next)) (λ c v w. IsTrue (v.named page) → ((p : ℕ) → Some next ≡ Some p → IsTrue (w.named p)) → node_at c.pages page ≡ Some node → PointsRight node 0 (next_copy v) next → CopiesIn v w page (put.Right next)) (copies_right page node next)
    (λ s a r there can. (_, set_there s.actors a _ r there, refl, refl, refl, refl)) (λ s v w n k names shows x here named is points. copies_in_by v w n k names shows page here (put.Right next) named (x is points))

pub copies_full_seated : (page : ℕ) (node : Node) → PageMakes (visit page) (λ c v w. IsTrue (v.named page) → node_at c.pages page ≡ Some node → EndsAfter node 0 (next_copy v) → item_count (trim_leaf v.floor.updates node) ≡ 32 → CopiesIn v w page put.PageFull)
copies_full_seated page node = page_lifts (visit page) (λ c v w. node_at c.pages page ≡ Some node → EndsAfter node 0 (next_copy v) → item_count (trim_leaf v.floor.updates node) ≡ 32 → CopiesIn v w page put.PageFull) (λ c v w. IsTrue (v.named page) → node_at c.pages page ≡ Some node → EndsAfter node 0 (next_copy v) → item_count (trim_leaf v.floor.updates node) ≡ 32 → CopiesIn v w page put.PageFull) (copies_full page node)
    (λ s a r there can. (_, set_there s.actors a _ r there, refl, refl, refl, refl)) (λ s v w n k names shows x here is ends many. copies_in_by v w n k names shows page here put.PageFull (λ p e. absurd (none-some p e)) (x is ends many))

pub copies_seated : (page : ℕ) (node : Node) (e : Entry) → PageMakes (copy_in page node e) (λ c v w. IsTrue (v.named page) → CopiesIn v w page put.Done)
copies_seated page node e = page_lifts (copy_in page node e) (λ c v w. CopiesIn v w page put.Done) (λ c v w. IsTrue (v.named page) → CopiesIn v w page put.Done) (copies_done page node e)
    (λ s a r there can. (_, set_there s.actors a _ r there, refl, refl, refl, refl)) (λ s v w n k names shows x here. copies_in_by v w n k names shows page here put.Done (λ p e. absurd (none-some p e)) x)

pub uncopies_down_seated : (page : ℕ) (node : Node) (child : ℕ) → PageMakes (visit page) (λ c v w. IsTrue (v.named page) → ((p : ℕ) → Some child ≡ Some p → IsTrue (w.named p)) → node_at c.pages page ≡ Some node → PointsDown node 0 (last_copy v) child → Uncopies v w page (put.Down child))
uncopies_down_seated page node child = page_lifts (visit page) (λ c v w. node_at c.pages page ≡ Some node → PointsDown node 0 (last_copy v) child → Uncopies v w page (put.Down child)) (λ c v w. IsTrue (v.named page) → ((p : ℕ) → Some child ≡ Some p → IsTrue (w.named p)) → node_at c.pages page ≡ Some node → PointsDown node 0 (last_copy v) child → Uncopies v w page (put.Down child)) (uncopies_down page node child)
    (λ s a r there can. (_, set_there s.actors a _ r there, refl, refl, refl, refl)) (λ s v w n k names shows x here named is points. uncopies_on_by v w n k names shows page here (put.Down child) (λ e. cc) named (x is points))

pub uncopies_right_seated : (page : ℕ) (node : Node) (next : ℕ) → PageMakes (visit page) (λ c v w. IsTrue (v.named page) → ((p : ℕ) → Some next ≡ Some p → IsTrue (w.named p)) → node_at c.pages page ≡ Some node → PointsRight node 0 (last_copy v) next → Uncopies v w page (put.Right next))
uncopies_right_seated page node next = page_lifts (visit page) (λ c v w. node_at c.pages page ≡ Some node → PointsRight node 0 (last_copy v) next → Uncopies v w page (put.Right next)) (λ c v w. IsTrue (v.named page) → ((p : ℕ) → Some next ≡ Some p → IsTrue (w.named p)) → node_at c.pages page ≡ Some node → PointsRight node 0 (last_copy v) next → Uncopies v w page (put.Right next)) (uncopies_right page node next)
    (λ s a r there can. (_, set_there s.actors a _ r there, refl, refl, refl, refl)) (λ s v w n k names shows x here named is points. uncopies_on_by v w n k names shows page here (put.Right next) (λ e. cc) named (x is points))

early_is : (told early : Bool) → cond told early true ≡ (early || not told)
early_is true true = refl
early_is true false = refl
early_is false true = refl
early_is false false = refl

-- a copy is taken back early where its actor wasn't told that all pages are allotted
pub uncopies_seated : (page : ℕ) (node : Node) (e : Entry) (told : Bool) → PageMakes (uncopy page node e told) (λ c v w. IsTrue (v.named page) → told ≡ v.told → Uncopies v w page put.Done)
uncopies_seated page node e told c v b can q now n here names named out rows =
    let a : ℕ = v.actor in
    let r : Actor = v.mine.part in
    let t : State = after c a r (uncopy page node e told) in
    let split : Option SplitWork = copied_to (copied_of r.split - 1) r.split in
    let to : Bool → Actor = λ z. record (with_split_at split page r) { undone = true; early = cond z r.early true } in
    let same : to told ≡ q = same_Some (to told) q (sym (set_there c.actors a (to told) r b.fits.part) ∙ now) in
    let all : Bool = c.board.allotted == c.board.settings.pages in
    let can_all : Can c a r (uncopy page node e all) = (can.0, can.1, can.2, can.3, can.4, can.5, can.6, can.7, λ z. eqb-true c.board.allotted c.board.settings.pages z) in
    let x = uncopies_done page node e all c b.kept a r (to all) b.fits.part b.going can_all (set_there c.actors a (to all) r b.fits.part) refl in
    let shows = shows_named (after c a r (uncopy page node e all)) a (to all) names named in
    at_page c v b (uncopy page node e told) can q names named (ap (λ (z : Actor). z.found) (sym same)) n here out refl (ap (λ (z : Actor). z.pin) (sym same)) (ap (λ (z : Actor). z.claim) (sym same)) rows
    (λ v w. IsTrue (v.named page) → told ≡ v.told → Uncopies v w page put.Done)
    (λ knows _ at is. subst (λ (z : Actor). Uncopies (view_by (knowledge v) (shown_to c a r)) (view_by (reading (shown_to t a z) names (knowledge v)) (shown_to t a z)) page put.Done) same
    (uncopies_done_by (shown_to c a r) (shown_to (after c a r (uncopy page node e all)) a (to all)) (knowledge v) knows names shows page at (cond told r.early true) (early_is told r.early ∙ ap (λ z. r.early || not z) is) x))
