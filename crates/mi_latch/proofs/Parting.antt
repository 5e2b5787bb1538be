-- A seat is cut in two, and the table at its start and at its end.
use Rattle.std.proofs.Common.{◌≡◌, inl, ℕ, zero, suc, ◌-◌, ◌+◌, ◌≤◌, true, List, [], ◌∷◌, ◌++◌, replicate, map, take, add-one, length, get_or, refl, sym, ap, ◌∙◌, subst, arith, Option, None}
use Rattle.std.proofs.lemmas.List.{length-map, length-replicate}
use mathlib.Core.Option.{some, some-injective, some-ne-none}
use lib.ListN.{get_elem?}
use Rattle.atomic_table.specs.Table.{Final, Seen, Splits, opening}
use Rattle.mi_base.specs.Configuration.{Configuration, IsWithinLimits, metric_space}
use Rattle.mi_base.specs.Space.{IsMetric}
use Rattle.mi_page.specs.Nodes.{Node, fresh_node}
use Rattle.mi_board.specs.Actors.{idle}
use Rattle.mi_board.specs.Boards.{opened_board}
use Rattle.mi_core.specs.Events.{opened}
use Rattle.mi_latch.specs.declared.slots.Slot.{Slot}
use Rattle.mi_latch.specs.declared.slots.Slot.TheVariants.{Vacant, OfBoard, OfPage, OfShard}
use Rattle.mi_latch.specs.Ends.{Leaves}
use Rattle.mi_latch.specs.Layout.{at, cells, no_rows, slot_count, slot_of}
use Rattle.mi_latch.specs.Shows.{Covers, Has, Opens, Shows, child, child_of, parting}
use Rattle.mi_latch.specs.Views.{Fits, Held, Latched, Marks, Mine, Next, Own, Sight, first_mine, made, newcomer}
use Rattle.mi_latch.proofs.EndingDoings.{leaves}
use Rattle.mi_latch.proofs.Opening.{opens_so}
use Rattle.mi_latch.proofs.Rules.{opens, splits}
use Rattle.mi_latch.proofs.Steps.{fits_made, held_keeps}

-- what a seat's new actor gets is its own
own_parts : (v : Sight) (k : ℕ) (m : Mine) → v.born ≡ (k, m) ∷ [] → Own v → Own (parting v) × Own (child v)
own_parts v k m is o = (
  record { mine = o.mine; born = λ a t h. absurd h; over = o.over; forked = o.forked },
  subst Own (sym (ap (child_of v.mine) is)) record {
    mine = λ h. o.born k m (subst (λ (l : List (ℕ × Mine)). Has l k m) (sym is) (inl (refl, refl)));
    born = λ a t h. absurd h;
    over = λ a t h. absurd h;
    forked = λ a h. absurd h;
  },
)

pub parts : (settings : Configuration) (id : ℕ) (v : Sight) (k : ℕ) (m : Mine) → v.live ≡ true → v.born ≡ (k, m) ∷ [] → Splits (Latched settings) id v (parting v) (child v)
parts settings id v k m live is = splits at Fits Own Marks made (Held settings) Next (held_keeps settings) fits_made (slot_count settings) id v k m (own_parts v k m is) live is

map_copy : (n : ℕ) → map slot_of (replicate n (let o : Option Node = None in o)) ≡ replicate n Vacant
map_copy zero = refl
map_copy (suc n) = ap (λ l. Vacant ∷ l) (map_copy n)

-- the values at the opening, one after another
pub cells_are : (c : Configuration) (more : ℕ) → ((((OfBoard (opened_board c (replicate 1 idle)) ∷ []) ++ replicate 16 (OfShard no_rows)) ++ OfPage fresh_node ∷ []) ++ replicate more Vacant) ≡ cells (opened c 1 more)
cells_are c more = ap (λ l. OfBoard (opened_board c (replicate 1 idle)) ∷ replicate 16 (OfShard no_rows) ++ OfPage fresh_node ∷ l) (sym (map_copy more))

pub as_many_cells : (c : Configuration) (more : ℕ) → length (cells (opened c 1 more)) ≡ more + 18
as_many_cells c more = (let l = length-map (replicate more (let o : Option Node = None in o)) slot_of in omega (arith, l, length-replicate more (let o : Option Node = None in o)))

zero_at : (n i : ℕ) → ◌≡◌ {A = ℕ} (get_or (replicate n 0) i 0) 0
zero_at zero i = refl
zero_at (suc n) zero = refl
zero_at (suc n) (suc i) = zero_at n i

-- the rule holds of the table at the opening
pub opens_rule : (c : Configuration) → IsWithinLimits c → IsMetric (metric_space c) → (words : List ℕ) (slots : List Slot) → words ≡ replicate (c.pages + 17) 0 → slots ≡ cells (opened c 1 (c.pages - 1)) → length slots ≡ slot_count c
    → 1 ≤ c.pages → Latched c (opening words slots (newcomer c))
opens_rule c limits metric words slots words_are slots_are count pages =
    subst (λ (n : ℕ). Shows at Fits Own Marks made (Held c) n (opening words slots (newcomer c))) count
    (opens at Fits Own Marks made (Held c) Next (held_keeps c) fits_made words slots (first_mine c)
    (ap length words_are ∙ length-replicate (c.pages + 17) 0 ∙ sym count)
    (λ i. ap (λ (l : List ℕ). get_or l i 0) words_are ∙ zero_at (c.pages + 17) i)
    (subst (λ (l : List Slot). Opens at Fits Own Marks made (Held c) l (first_mine c)) (sym slots_are) (opens_so c limits metric (c.pages - 1) (omega arith))))

read_elem : (xs : List Slot) (i : ℕ) (x : Slot) → get_elem? xs i ≡ some x → get_or xs i Vacant ≡ x
read_elem [] i x e = absurd (some-ne-none x (sym e))
read_elem (y ∷ xs) zero x e = some-injective y x e
read_elem (y ∷ xs) (suc i) x e = read_elem xs i x e

-- what the last seat leaves
pub left : (settings : Configuration) (words : List ℕ) (xs : List Slot) (id : ℕ) (v : Sight) → v.live ≡ true → v.born ≡ [] → v.out ≡ [] → Covers v → Final (Seen (Latched settings) id v) words xs → Leaves settings (λ i. get_or xs i Vacant) v
left settings words xs id v live unborn empty covers f = leaves settings f.0 f.1.0 id v f.1.1 live unborn empty covers (λ i. get_or xs i Vacant) (λ i x e. read_elem xs i x (f.4 i x e))

-- one more of a list
take_one : (xs : List Slot) (n : ℕ) (x : Slot) → get_elem? xs n ≡ some x → take n xs ++ x ∷ [] ≡ take (suc n) xs
take_one [] n x e = absurd (some-ne-none x (sym e))
take_one (y ∷ xs) zero x e = ap (λ z. z ∷ []) (sym (some-injective y x e))
take_one (y ∷ xs) (suc n) x e = ap (λ l. y ∷ l) (take_one xs n x e)

pub take_more : (xs : List Slot) (n : ℕ) (x : Slot) → get_elem? xs n ≡ some x → take n xs ++ x ∷ [] ≡ take (n + 1) xs
take_more xs n x e = take_one xs n x e ∙ ap (λ m. take m xs) (sym (add-one n))
