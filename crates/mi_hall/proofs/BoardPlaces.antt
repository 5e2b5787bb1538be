-- What sections of the board make of a seat's view.
use Rattle.std.proofs.Common.{◌≡◌, ℕ, ◌++◌, List, [], ◌∷◌, length, Bool, true, false, IsTrue, refl, ◌∙◌, subst, Some, None}
use Rattle.std.specs.Prelude.{Ok, Err}
use Rattle.std.specs.List.{list_any}
use Rattle.mi_tree.specs.Cells.{same_cell}
use Rattle.std.proofs.lemmas.Option.{none-some, same_Some}
use Rattle.mi_base.specs.declared.refusals.NoMemory.{NoMemory}
use Rattle.mi_base.specs.History.{end_of}
use Rattle.mi_base.specs.Permutations.{begins, is_permutation}
use Rattle.mi_board.specs.Actors.{with_reserved}
use Rattle.mi_board.specs.Boards.{look_of, next_split, pinned, with_actor}
use Rattle.mi_core.specs.Events.Event.{allot, claim_leaf, give_up, grow, lack, look, no_work, pin, publish, refuse, release_leaf, reserve, see, take_split, take_sweep, unpin}
use Rattle.mi_core.specs.Refusals.Refusal.{full, grown, held, pages_full}
use Rattle.mi_core.proofs.ActorLemmas.{set_there}
use Rattle.mi_entries.specs.Records.{Rows}
use Rattle.mi_tree.specs.declared.answers.AllotRefusal.TheVariants as allotting
use Rattle.mi_tree.specs.declared.answers.LeafClaim.TheVariants as claiming
use Rattle.mi_tree.specs.declared.answers.ReserveRefusal.TheVariants as reserving
use Rattle.mi_tree.specs.declared.answers.Work.TheVariants as work
use Rattle.mi_tree.specs.declared.outcomes.Leaf.{Leaf}
use Rattle.mi_tree.specs.Counting.{leaves_beginning}
use Rattle.mi_tree.specs.Legal.{cells_of}
use Rattle.mi_world.specs.Boards.{Allots, GivesWork, Grew, Looks, Pins, Reserves, Unpins}
use Rattle.mi_world.specs.Claims.{ClaimsLeaf, ReleasesLeaf}
use Rattle.mi_world.specs.Splits.{GivesUp, Publishes}
use Rattle.mi_world.specs.View.{prefix_or}
use Rattle.mi_solo.proofs.BoardEvents.{allots, allots_full, allots_none, looks, pins, pins_none, reserves, reserves_full, reserves_none, unpins}
use Rattle.mi_solo.proofs.ClaimEvents.{claims_held, claims_leaf, releases_leaf}
use Rattle.mi_solo.proofs.RouteLaws.{roots_grow, roots_stay}
use Rattle.mi_solo.proofs.WorkEvents.{gives_nothing, gives_split, gives_sweep, gives_up, publishes, publishes_none}
use Rattle.mi_hall.specs.Knowledge.{is_named}
use Rattle.mi_hall.specs.Places.{BoardMakes, untold}
use Rattle.mi_hall.proofs.BoardRelations.{allots_by, gives_work_by, grew_by, looks_by, pins_by, reserves_by, unpins_by}
use Rattle.mi_hall.proofs.ClaimRelations.{claims_leaf_by, gives_up_by, publishes_by, releases_leaf_by}
use Rattle.mi_hall.proofs.PlaceLemmas.{board_lifts}

-- the root that a look names
root_named : (named : ℕ → Bool) (root : ℕ) → IsTrue (named root) → (r : ℕ) → Some root ≡ Some r → IsTrue (named r)
root_named named root h r e = subst (λ i. IsTrue (named i)) (same_Some root r e) h

none_named : (named : ℕ → Bool) (r : ℕ) → None ≡ Some r → IsTrue (named r)
none_named named r e = absurd (none-some r e)

pub looks_seated : BoardMakes look untold (λ c v w. IsTrue (w.named c.board.root) → Looks v w (look_of c.board))
looks_seated = board_lifts look untold (λ c v w. Looks v w (look_of c.board)) (λ c v w. IsTrue (w.named c.board.root) → Looks v w (look_of c.board)) looks
    (λ s a r there can. (_, set_there s.actors a _ r there, refl)) (λ s v w n k names shown x root. looks_by v w n k names shown (look_of s.board) root x)

pub reserves_seated : (n room : ℕ) (kept : Rows) → BoardMakes (reserve n kept room) untold (λ c v w. IsTrue (w.named c.board.root) → Reserves v w (Ok (look_of (with_actor (with_reserved true) v.actor c.board))))
reserves_seated n room kept = board_lifts (reserve n kept room) untold (λ c v w. Reserves v w (Ok (look_of (with_actor (with_reserved true) v.actor c.board)))) (λ c v w. IsTrue (w.named c.board.root) → Reserves v w (Ok (look_of (with_actor (with_reserved true) v.actor c.board)))) (reserves n room kept)
    (λ s a r there can. (_, set_there s.actors a _ r there, refl)) (λ s v w o k names shown x root. reserves_by v w o k names shown (Ok (look_of (with_actor (with_reserved true) v.actor s.board))) (root_named (is_named (names ++ o.pages)) s.board.root root) x)

pub reserves_full_seated : BoardMakes (refuse full) untold (λ c v w. Reserves v w (Err (reserving.Full c.board.settings.updates)))
reserves_full_seated = board_lifts (refuse full) untold (λ c v w. Reserves v w (Err (reserving.Full c.board.settings.updates))) (λ c v w. Reserves v w (Err (reserving.Full c.board.settings.updates))) reserves_full
    (λ s a r there can. (_, set_there s.actors a _ r there, refl)) (λ s v w n k names shown x. reserves_by v w n k names shown (Err (reserving.Full s.board.settings.updates)) (none_named (is_named (names ++ n.pages))) x)

pub reserves_none_seated : BoardMakes see untold (λ c v w. Reserves v w (Err reserving.Memory))
reserves_none_seated = board_lifts see untold (λ c v w. Reserves v w (Err reserving.Memory)) (λ c v w. Reserves v w (Err reserving.Memory)) reserves_none
    (λ s a r there can. (_, set_there s.actors a _ r there, refl)) (λ s v w n k names shown x. reserves_by v w n k names shown (Err reserving.Memory) (none_named (is_named (names ++ n.pages))) x)

pub pins_seated : BoardMakes pin untold (λ c v w. IsTrue (w.named c.board.root) → Pins v w (Ok (look_of (pinned v.actor c.board))))
pins_seated = board_lifts pin untold (λ c v w. Pins v w (Ok (look_of (pinned v.actor c.board)))) (λ c v w. IsTrue (w.named c.board.root) → Pins v w (Ok (look_of (pinned v.actor c.board)))) pins
    (λ s a r there can. (_, set_there s.actors a _ r there, refl)) (λ s v w n k names shown x root. pins_by v w n k names shown (Ok (look_of (pinned v.actor s.board))) (root_named (is_named (names ++ n.pages)) s.board.root root) x)

pub pins_none_seated : (e : NoMemory) → BoardMakes see untold (λ c v w. v.pin ≡ None → Pins v w (Err e))
pins_none_seated e = board_lifts see untold (λ c v w. v.pin ≡ None → Pins v w (Err e)) (λ c v w. v.pin ≡ None → Pins v w (Err e)) (pins_none e)
    (λ s a r there can. (_, set_there s.actors a _ r there, refl)) (λ s v w n k names shown x bare. pins_by v w n k names shown (Err e) (none_named (is_named (names ++ n.pages))) (x bare))

pub unpins_seated : BoardMakes unpin untold (λ c v w. Unpins v w)
unpins_seated = board_lifts unpin untold (λ c v w. Unpins v w) (λ c v w. Unpins v w) unpins
    (λ s a r there can. (_, set_there s.actors a _ r there, refl)) (λ s v w n k names shown x. unpins_by v w n k names shown x)

pub allots_seated : BoardMakes allot untold (λ c v w. Allots v w (Ok tt))
allots_seated = board_lifts allot untold (λ c v w. Allots v w (Ok tt)) (λ c v w. Allots v w (Ok tt)) allots
    (λ s a r there can. (_, set_there s.actors a _ r there, refl)) (λ s v w n k names shown x. allots_by v w n k names shown (Ok tt) x)

pub allots_full_seated : BoardMakes (refuse pages_full) (λ told. true) (λ c v w. Allots v w (Err (allotting.PagesFull c.board.settings.pages)))
allots_full_seated = board_lifts (refuse pages_full) (λ told. true) (λ c v w. Allots v w (Err (allotting.PagesFull c.board.settings.pages))) (λ c v w. Allots v w (Err (allotting.PagesFull c.board.settings.pages))) allots_full
    (λ s a r there can. (_, set_there s.actors a _ r there, refl)) (λ s v w n k names shown x. allots_by v w n k names shown (Err (allotting.PagesFull s.board.settings.pages)) x)

pub allots_none_seated : BoardMakes lack untold (λ c v w. Allots v w (Err allotting.Memory))
allots_none_seated = board_lifts lack untold (λ c v w. Allots v w (Err allotting.Memory)) (λ c v w. Allots v w (Err allotting.Memory)) allots_none
    (λ s a r there can. (_, set_there s.actors a _ r there, refl)) (λ s v w n k names shown x. allots_by v w n k names shown (Err allotting.Memory) x)

pub grows_seated : (level key child : ℕ) → BoardMakes (grow level key child) untold (λ c v w. Grew v w level child true)
grows_seated level key child = board_lifts (grow level key child) untold (λ c v w. Grew v w level child true) (λ c v w. Grew v w level child true) (roots_grow level key child)
    (λ s a r there can. (_, set_there s.actors a _ r there, refl)) (λ s v w n k names shown x. grew_by v w n k names shown level child true x)

pub stays_seated : (level child : ℕ) → BoardMakes (refuse (grown level)) untold (λ c v w. Grew v w level child false)
stays_seated level child = board_lifts (refuse (grown level)) untold (λ c v w. Grew v w level child false) (λ c v w. Grew v w level child false) (roots_stay level child)
    (λ s a r there can. (_, set_there s.actors a _ r there, refl)) (λ s v w n k names shown x. grew_by v w n k names shown level child false x)

pub sweep_seated : (p : List ℕ) → BoardMakes (take_sweep p) untold (λ c v w. GivesWork v w (work.Sweep p))
sweep_seated p = board_lifts (take_sweep p) untold (λ c v w. GivesWork v w (work.Sweep p)) (λ c v w. GivesWork v w (work.Sweep p)) (gives_sweep p)
    (λ s a r there can. (_, set_there s.actors a _ r there, refl)) (λ s v w n k names shown x. gives_work_by v w n k names shown (work.Sweep p) x)

pub split_seated : (leaf : Leaf) → BoardMakes (take_split leaf.prefix) untold (λ c v w. next_split c.board ≡ Some leaf → GivesWork v w (work.Split leaf))
split_seated leaf = board_lifts (take_split leaf.prefix) untold (λ c v w. next_split c.board ≡ Some leaf → GivesWork v w (work.Split leaf)) (λ c v w. next_split c.board ≡ Some leaf → GivesWork v w (work.Split leaf)) (gives_split leaf)
    (λ s a r there can. (_, set_there s.actors a _ r there, refl)) (λ s v w n k names shown x is. gives_work_by v w n k names shown (work.Split leaf) (x is))

pub idle_seated : BoardMakes no_work untold (λ c v w. GivesWork v w work.Idle)
idle_seated = board_lifts no_work untold (λ c v w. GivesWork v w work.Idle) (λ c v w. GivesWork v w work.Idle) gives_nothing
    (λ s a r there can. (_, set_there s.actors a _ r there, refl)) (λ s v w n k names shown x. gives_work_by v w n k names shown work.Idle x)

pub claims_leaf_seated : (leaf : Leaf) → BoardMakes (claim_leaf leaf.prefix) untold (λ c v w. (perm : List ℕ) → leaves_beginning perm (cells_of c.board.settings c.board.log) ≡ leaf ∷ [] → ClaimsLeaf v w perm (claiming.Taken leaf))
claims_leaf_seated leaf = board_lifts (claim_leaf leaf.prefix) untold (λ c v w. (perm : List ℕ) → leaves_beginning perm (cells_of c.board.settings c.board.log) ≡ leaf ∷ [] → ClaimsLeaf v w perm (claiming.Taken leaf)) (λ c v w. (perm : List ℕ) → leaves_beginning perm (cells_of c.board.settings c.board.log) ≡ leaf ∷ [] → ClaimsLeaf v w perm (claiming.Taken leaf)) (claims_leaf leaf)
    (λ s a r there can. (_, set_there s.actors a _ r there, refl)) (λ s v w n k names shown x perm one. claims_leaf_by v w n k names shown perm (claiming.Taken leaf) (x perm one))

pub claims_held_seated : (leaf : List ℕ) (by : ℕ) → BoardMakes (refuse (held leaf by)) untold (λ c v w. (perm : List ℕ) → IsTrue (is_permutation perm) → length perm ≡ length c.board.settings.pivots → begins leaf perm ≡ true → v.leaf ≡ None → ClaimsLeaf v w perm (claiming.Held by))
claims_held_seated leaf by = board_lifts (refuse (held leaf by)) untold (λ c v w. (perm : List ℕ) → IsTrue (is_permutation perm) → length perm ≡ length c.board.settings.pivots → begins leaf perm ≡ true → v.leaf ≡ None → ClaimsLeaf v w perm (claiming.Held by)) (λ c v w. (perm : List ℕ) → IsTrue (is_permutation perm) → length perm ≡ length c.board.settings.pivots → begins leaf perm ≡ true → v.leaf ≡ None → ClaimsLeaf v w perm (claiming.Held by)) (claims_held leaf by)
    (λ s a r there can. (_, set_there s.actors a _ r there, refl)) (λ s v w n k names shown x perm is long under free. claims_leaf_by v w n k names shown perm (claiming.Held by) (x perm is long under free))

-- whether the claimed leaf is passed over is as it was noted
pub releases_leaf_seated : BoardMakes release_leaf untold (λ c v w. list_any (same_cell (prefix_or v.leaf)) c.board.passed_over ≡ v.passed (prefix_or v.leaf) → ReleasesLeaf v w)
releases_leaf_seated = board_lifts release_leaf untold
    (λ c v w. (v.passed (prefix_or v.leaf) ≡ list_any (same_cell (prefix_or v.leaf)) c.board.passed_over) × ReleasesLeaf v w)
    (λ c v w. list_any (same_cell (prefix_or v.leaf)) c.board.passed_over ≡ v.passed (prefix_or v.leaf) → ReleasesLeaf v w)
    (λ s k a r q there going can now. (refl, releases_leaf s k a r q there going can now))
    (λ s a r there can. (_, set_there s.actors a _ r there, refl)) (λ s v w n k names shown x passed. releases_leaf_by v w n k names shown (x.0 ∙ passed) x.1)

pub publishes_seated : BoardMakes publish untold (λ c v w. Publishes v w (Ok (end_of w.seen)))
publishes_seated = board_lifts publish untold (λ c v w. Publishes v w (Ok (end_of w.seen))) (λ c v w. Publishes v w (Ok (end_of w.seen))) publishes
    (λ s a r there can. (_, set_there s.actors a _ r there, refl)) (λ s v w n k names shown x. publishes_by v w n k names shown (Ok (end_of w.seen)) x)

pub publishes_none_seated : (e : NoMemory) → BoardMakes see untold (λ c v w. Publishes v w (Err e))
publishes_none_seated e = board_lifts see untold (λ c v w. Publishes v w (Err e)) (λ c v w. Publishes v w (Err e)) (publishes_none e)
    (λ s a r there can. (_, set_there s.actors a _ r there, refl)) (λ s v w n k names shown x. publishes_by v w n k names shown (Err e) x)

-- whether the claimed leaf is passed over is as it was noted
pub gives_up_seated : (pages : Bool) → BoardMakes (give_up pages) untold (λ c v w. list_any (same_cell (prefix_or v.leaf)) c.board.passed_over ≡ v.passed (prefix_or v.leaf) → GivesUp v w pages)
gives_up_seated pages c v b can q now names named out rows = board_lifts (give_up pages) untold
    (λ c v w. (v.passed (prefix_or v.leaf) ≡ list_any (same_cell (prefix_or v.leaf)) c.board.passed_over) × GivesUp v w pages)
    (λ c v w. list_any (same_cell (prefix_or v.leaf)) c.board.passed_over ≡ v.passed (prefix_or v.leaf) → GivesUp v w pages)
    (λ s k a r q there going can now. (refl, gives_up pages s k a r q there going can now))
    (λ s a r there can. (_, set_there s.actors a _ r there, refl)) (λ s v w n k names shown x passed. gives_up_by v w n k names shown pages (x.0 ∙ passed) x.1)
    c v b can q now names named out rows
