-- The ends of cells, and what is gathered at a place.
use Rattle.std.proofs.Common.{◌≡◌, ℕ, suc, zero, ◌+◌, ◌<◌, ◌≤◌, ◌==◌, List, [], ◌∷◌, ◌++◌, length, map, Bool, true, false, cond, not, refl, ap, arith, Option, Some, None, is_some}
use Rattle.std.specs.Prelude.{slice_get, slice_index}
use Rattle.std.specs.List.{filter}
use Rattle.std.proofs.lemmas.Bool.{le-ltb, lt-ltb, ltb-false, ltb-true}
use Rattle.std.proofs.lemmas.Option.{none-some, same_Some}
use Rattle.mi_base.specs.declared.records.Update.{Update}
use Rattle.mi_base.specs.declared.records.Update.TheVariants.{Insert, Delete}
use Rattle.mi_base.specs.Configuration.{Configuration}
use Rattle.mi_base.proofs.LiveLemmas.{length_filter}
use Rattle.mi_key.specs.Keys.{key_of}
use Rattle.mi_page.specs.Keys.{is_below}
use Rattle.mi_tree.specs.Births.{Born, born_after, born_from}
use Rattle.mi_tree.specs.Cells.{Grid}
use Rattle.mi_entries.specs.Entries.{grid}
use Rattle.mi_entries.specs.Marks.{cell_end, cell_start, mark_past}
use Rattle.mi_world.specs.LeafKeys.{greatest_key}

-- the end of a cell is the number after its greatest key
pub end_is : (c : Configuration) (p : List ℕ) → cell_end (grid c) p ≡ greatest_key c p + 1
unfolding key_of
end_is c p = omega arith

pub start_before : (g : Grid) (p : List ℕ) → cell_start g p < cell_end g p
unfolding key_of
start_before g p = omega arith

-- a page that ends after the last key is the last of the cell
pub mark_ends : (high : Option ℕ) (last e : ℕ) → e ≡ last + 1 → is_below high last ≡ true → mark_past high e ≡ e
mark_ends None last e is h = refl
mark_ends (Some high) last e is h = rw (le-ltb high e (let l = ltb-true last high h in omega arith)) refl

pub mark_on : (high : Option ℕ) (h last e : ℕ) → e ≡ last + 1 → high ≡ Some h → is_below high last ≡ false → (mark_past high e ≡ h) × (h < e)
mark_on None h last e is same b = absurd (none-some h same)
mark_on (Some high) h last e is same b =
    let l = ltb-false last high b in
    let one = same_Some high h same in
    (rw (lt-ltb high e (omega arith)) one, omega arith)

pub index_map : {X : Type 0} (f : X → ℕ) (xs : List X) (i : ℕ) (x : X) → slice_get xs i ≡ Some x → slice_index (map f xs) i ≡ f x
index_map f [] i x h = absurd (none-some x h)
index_map f (y ∷ xs) zero x h = ap f (same_Some y x h)
index_map f (y ∷ xs) (suc i) x h = index_map f xs i x h

pub map_more : {X Y : Type 0} (f : X → Y) (xs ys : List X) → map f (xs ++ ys) ≡ map f xs ++ map f ys
map_more f [] ys = refl
map_more f (x ∷ xs) ys = ap (λ zs. f x ∷ zs) (map_more f xs ys)

-- a stronger test keeps no more
pub fewer : {X : Type 0} (t p : X → Bool) → ((x : X) → t x ≡ true → p x ≡ true) → (xs : List X) → length (filter t xs) ≤ length (filter p xs)
fewer t p imp [] = omega arith
fewer {X = X} t p imp (x ∷ xs) =
    let P : Bool → Type 0 = λ b. t x ≡ b → length (cond b (x ∷ filter t xs) (filter t xs)) ≤ length (cond (p x) (x ∷ filter p xs) (filter p xs)) in
    let Q : Bool → Type 0 = λ b. length (filter t xs) ≤ length (cond b (x ∷ filter p xs) (filter p xs)) in
    (elim (t x) as P [
      | true ↦ λ e. rw (imp x e) (omega (arith, fewer t p imp xs))
      | false ↦ λ _. elim (p x) as Q [ true ↦ omega (arith, fewer t p imp xs) | false ↦ fewer t p imp xs ]
    ]) refl

-- no more objects live than were inserted
pub born_few : (n : ℕ) (os : List Born) (us : List Update) → length (born_from n os us) ≤ length os + length us
born_few n os [] = omega arith
born_few n os (Insert id v ∷ us) = omega (arith, born_few (n + 1) (born_after (n + 1) os (Insert id v)) us)
born_few n os (Delete id ∷ us) = omega (arith, born_few (n + 1) (born_after (n + 1) os (Delete id)) us, length_filter (λ o. not (o.id == id)) os)

pub some_at : {X : Type 0} (xs : List X) (i : ℕ) → i < length xs → (x : X) × (slice_get xs i ≡ Some x)
some_at [] i h = absurd (omega arith)
some_at (x ∷ xs) zero h = (x, refl)
some_at (x ∷ xs) (suc i) h = some_at xs i (omega arith)

pub some_of : {X : Type 0} (o : Option X) → is_some o ≡ true → (x : X) × (o ≡ Some x)
some_of None h = absurd cc
some_of (Some x) h = (x, refl)
