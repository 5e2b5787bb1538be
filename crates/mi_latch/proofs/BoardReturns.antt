-- What is out once the board has gone home: the other slots, whatever is in them.
use Rattle.std.proofs.Common.{◌≡◌, inl, inr, ⊎_elim, true, ℕ, ◌+◌, List, [], ◌∷◌, refl, sym, subst}
use Rattle.atomic_table.specs.Table.{rest}
use Rattle.mi_page.specs.Nodes.{Node}
use Rattle.mi_board.specs.Boards.{BoardState}
use Rattle.mi_entries.specs.Records.{Rows}
use Rattle.mi_latch.specs.declared.slots.Slot.{Slot}
use Rattle.mi_latch.specs.declared.slots.Slot.TheVariants.{OfBoard, OfPage, OfShard}
use Rattle.mi_latch.specs.Boards.{Telling}
use Rattle.mi_latch.specs.Boths.{HoldsBoth, HoldsCommit}
use Rattle.mi_latch.specs.Ends.{adding}
use Rattle.mi_latch.specs.Shows.{Has, HasKey, Returns}
use Rattle.mi_latch.specs.Views.{HoldsLast, Mine, Seated, Sight, now}
use Rattle.mi_latch.proofs.Steps.{out_has, rest_has}

-- the same slots are out with the seat but the board's
abbrev SameSlots : List (ℕ × Slot) → List (ℕ × Slot) → Type 0
SameSlots xs ys = (k : ℕ) → HasKey xs k → HasKey ys k

returned : (m : Seated) (was : BoardState) (w : Sight) → HoldsLast m 0 (OfBoard was) → w.live ≡ true → w.actor ≡ m.0.actor → SameSlots w.out (rest m.0.out) → SameSlots (rest m.0.out) w.out → Returns m.0 w 0
returned m was w l live actor back forth =
    let v : Sight = m.0 in
    record {
      still = live;
      actor = actor;
      given = (OfBoard was, out_has v 0 (OfBoard was) (rest v.out) l.out);
      back = λ k h. let o = back k h in ((o.0, rest_has v 0 (OfBoard was) (rest v.out) l.out k o.0 o.1), λ e. l.others (subst (HasKey (rest v.out)) e o));
      forth = λ k h n. ⊎_elim (λ e. absurd (n (sym e.0))) (λ t. forth k (h.0, t)) (subst (λ (l : List (ℕ × Slot)). Has l k h.0) l.out h.1);
    }

-- one slot, with another value, and more
key_set : (i : ℕ) (x y : Slot) (more : List (ℕ × Slot)) → SameSlots ((i, x) ∷ more) ((i, y) ∷ more)
key_set i x y more k h = ⊎_elim (λ e. (y, inl (e.0, refl))) (λ t. (h.0, inr t)) h.1

pub returned_both : (m : Seated) (was : BoardState) (i : ℕ) (old new : Slot) (more : List (ℕ × Slot)) (q : Mine) → HoldsBoth m was i old more → Returns m.0 (now m.0 q ((i, new) ∷ more)) 0
returned_both m was i old new more q h =
    returned m was (now m.0 q ((i, new) ∷ more)) h.last refl refl (λ k g. subst (λ l. HasKey l k) (sym h.also) (key_set i new old more k g)) (λ k g. key_set i old new more k (subst (λ l. HasKey l k) h.also g))

pub returned_commit : (m : Seated) (was : BoardState) (page : ℕ) (had new : Node) (k : ℕ) (rows left : Rows) (q : Mine) → HoldsCommit m was page had k rows → Returns m.0 (now m.0 q ((page + 17, OfPage new) ∷ (k + 1, OfShard left) ∷ [])) 0
returned_commit m was page had new k rows left q h = returned m was (now m.0 q ((page + 17, OfPage new) ∷ (k + 1, OfShard left) ∷ [])) h.last refl refl
    (λ j g. subst (λ l. HasKey l j) (sym h.also) (both had new rows left j g)) (λ j g. both new had left rows j (subst (λ l. HasKey l j) h.also g))
  where
    both : (n o : Node) (x y : Rows) → SameSlots ((page + 17, OfPage o) ∷ (k + 1, OfShard y) ∷ []) ((page + 17, OfPage n) ∷ (k + 1, OfShard x) ∷ [])
    both n o x y j g = ⊎_elim (λ e. (OfPage n, inl (e.0, refl))) (λ t. let z = key_set (k + 1) (OfShard y) (OfShard x) [] j (g.0, t) in (z.0, inr z.1)) g.1

-- one more actor was made
pub returned_more : (m : Seated) (was : BoardState) (t : Telling) → HoldsLast m 0 (OfBoard was) → Returns m.0 (adding m.0 was t) 0
returned_more m was t l = returned m was (adding m.0 was t) l refl refl (λ k h. h) (λ k h. h)
