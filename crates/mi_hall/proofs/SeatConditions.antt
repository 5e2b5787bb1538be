-- What a call needs of its seat's view is so in a state that backs the seat.
use Rattle.std.proofs.Common.{◌≡◌, ℕ, ◌≤◌, List, IsTrue, subst}
use Rattle.std.specs.Prelude.{ℤ}
use Rattle.mi_core.specs.State.{State}
use Rattle.mi_key.specs.declared.ranges.Interval.{Interval}
use Rattle.mi_latch.specs.Views.{Sight}
use Rattle.mi_solo.specs.Viewing.{shown_to}
use Rattle.mi_world.specs.Pages.{IsChildAt, IsInLeaf, MayDelete, MayInsert, MayPost, MaySeek, MayVisit}
use Rattle.mi_world.specs.Splits.{IsGathered, MayGather}
use Rattle.mi_world.specs.View.{View}
use Rattle.mi_hall.specs.Knowledge.{Knowledge, Knows, view_by}
use Rattle.mi_hall.specs.Places.{IsBacked, Needs}
use Rattle.mi_hall.specs.Seats.{knowledge, seat_view}
use Rattle.mi_hall.proofs.Conditions.{in_leaf, is_child, is_gathered, leaf_known, low_known, may_delete, may_gather, may_insert, may_post, may_seek, may_visit, named_so}
use Rattle.mi_hall.proofs.SeatLemmas.{seat_is, seat_knows}

pub seat_backed : (c : State) (v : Sight) → IsBacked c v → seat_view v ≡ view_by (knowledge v) (shown_to c v.actor v.mine.part)
seat_backed c v b = seat_is c v b.fits b.rows

pub knows_backed : (c : State) (v : Sight) → IsBacked c v → Knows (shown_to c v.actor v.mine.part) (knowledge v)
knows_backed c v b = seat_knows c b.kept v b.fits

-- a condition that holds of the state's view where it does of the view of one who knows so much
needs : (of : View → Type 0) → ((v : View) (n : Knowledge) → Knows v n → of (view_by n v) → of v) → Needs of
needs of h c v b x = h (shown_to c v.actor v.mine.part) (knowledge v) (knows_backed c v b) (subst of (seat_backed c v b) x)

pub named_seated : (page : ℕ) → Needs (λ v. IsTrue (v.named page))
named_seated page = needs (λ v. IsTrue (v.named page)) (λ v n k x. named_so v n k page x)

pub low_seated : (page key : ℕ) → Needs (λ v. IsTrue (v.named page) × (v.low page ≤ key))
low_seated page key = needs (λ v. IsTrue (v.named page) × (v.low page ≤ key)) (λ v n k x. (named_so v n k page x.0, low_known v n k page x.0 key x.1))

pub leaf_page_seated : (page : ℕ) → Needs (λ v. IsTrue (v.named page) × (v.level page ≡ 0))
leaf_page_seated page = needs (λ v. IsTrue (v.named page) × (v.level page ≡ 0)) (λ v n k x. (named_so v n k page x.0, leaf_known v n k page x.0 x.1))

pub visit_seated : (page : ℕ) (range : Interval) → Needs (λ v. IsTrue (v.named page) × MayVisit v page range)
visit_seated page range = needs (λ v. IsTrue (v.named page) × MayVisit v page range) (λ v n k x. (named_so v n k page x.0, may_visit v n k page x.0 range x.1))

pub in_leaf_seated : (range : Interval) → Needs (λ v. IsInLeaf v range)
in_leaf_seated range = needs (λ v. IsInLeaf v range) (λ v n k x. in_leaf v n k range x)

pub seek_seated : (page : ℕ) (dists : List ℕ) (id : ℕ) → Needs (λ v. MaySeek v page dists id)
seek_seated page dists id = needs (λ v. MaySeek v page dists id) (λ v n k x. may_seek v n k page dists id x)

pub insert_seated : (id : ℕ) (vector : List ℤ) (dists : List ℕ) → Needs (λ v. MayInsert v id vector dists)
insert_seated id vector dists = needs (λ v. MayInsert v id vector dists) (λ v n k x. may_insert v n k id vector dists x)

pub delete_seated : (id : ℕ) → Needs (λ v. MayDelete v id)
delete_seated id = needs (λ v. MayDelete v id) (λ v n k x. may_delete v n k id x)

pub child_seated : (level key child : ℕ) → Needs (λ v. IsChildAt v level key child)
child_seated level key child = needs (λ v. IsChildAt v level key child) (λ v n k x. is_child v n k level key child x)

pub post_seated : (page level key : ℕ) → Needs (λ v. MayPost v page level key)
post_seated page level key = needs (λ v. MayPost v page level key) (λ v n k x. may_post v n k page level key x)

pub gather_seated : Needs MayGather
gather_seated = needs MayGather may_gather

pub gathered_seated : Needs IsGathered
gathered_seated = needs IsGathered is_gathered
