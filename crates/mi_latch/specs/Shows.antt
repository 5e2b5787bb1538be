-- The rule of a table of latched values, over any core state: words, values at home and views show one core state.
-- A core state has a value at each slot (`at`), it fits what an actor knows (`Fits`), and so many actors were made in it (`made`).
use Rattle.std.specs.Prelude.{◌≡◌, ◌≢◌, ◌⊎◌, ℕ, ◌+◌, ◌<◌, ◌≤◌, List, [], ◌∷◌, ◌++◌, Bool, true, false, length, slice_index}
use mathlib.Core.Option.{some}
use lib.ListN.{get_elem?}
use Rattle.atomic_table.specs.Table.{State, Me}
use Rattle.mi_latch.specs.declared.known.Known.{Known}

module _ {A S : Type 0} where
  abbrev pub known : ℕ → A → List (ℕ × S) → List (ℕ × A) → List (ℕ × A) → List ℕ → Known A S
  known actor mine out born absorbed forked = record { live = true; actor = actor; mine = mine; out = out; born = born; absorbed = absorbed; forked = forked }

-- x stands at k in a list of pairs
abbrev pub Has : {X : Type 0} → List (ℕ × X) → ℕ → X → Type 0
Has [] k x = ⊥
Has (h ∷ t) k x = ((h.0 ≡ k) × (h.1 ≡ x)) ⊎ Has t k x

abbrev pub HasKey : {X : Type 0} → List (ℕ × X) → ℕ → Type 0
HasKey {X} l k = (x : X) × Has l k x

abbrev pub In : ℕ → List ℕ → Type 0
In k [] = ⊥
In k (h ∷ t) = (h ≡ k) ⊎ In k t

abbrev pub stands_if : {A : Type 0} → Bool → List (ℕ × A) → List (ℕ × A)
stands_if true l = l
stands_if false l = []

-- the actors that a view stands for
abbrev pub stands : {A S : Type 0} → Known A S → List (ℕ × A)
stands v = stands_if v.live ((v.actor, v.mine) ∷ v.born ++ v.absorbed)

-- the core state fits what the view knows, and has the values that are out with it
pub record Backs {A S C : Type 0} (at : C → ℕ → S) (Fits : C → ℕ → A → Type 0) (Own : Known A S → Type 0) (c : C) (v : Known A S) : Type 0 where
  pub records : (a : ℕ) (r : A) → Has (stands v) a r → Fits c a r
  pub values : (i : ℕ) (x : S) → Has v.out i x → at c i ≡ x
  pub unborn : (k : ℕ) → HasKey v.born k → (k ≢ v.actor) × (HasKey v.absorbed k → ⊥)
  pub unjoined : HasKey v.absorbed v.actor → ⊥
  -- what the project asks of a view by itself
  pub own : Own v

-- one view fits
pub record Sits {A S C : Type 0} (at : C → ℕ → S) (Fits : C → ℕ → A → Type 0) (Own : Known A S → Type 0) (n : ℕ) (words : List ℕ) (c : C) (v : Known A S) : Type 0 where
  pub backs : Backs at Fits Own c v
  pub outs : (i : ℕ) → HasKey v.out i → (i < n) × (v.live ≡ true) × (slice_index words i ≡ v.actor + 1)

-- a value that is out stands in its holder's view
pub record Holds {A S : Type 0} (views : List (Known A S)) (word i : ℕ) (x : S) : Type 0 where
  pub seat : ℕ
  pub view : Known A S
  pub there : get_elem? views seat ≡ some view
  pub word_is : word ≡ view.actor + 1
  pub has : Has view.out i x

-- whoever stands for the maker of an actor knows that it was made
pub record Parent {A S : Type 0} (views : List (Known A S)) (k : ℕ) : Type 0 where
  pub maker : ℕ
  pub less : maker < k
  pub heirs : (j : ℕ) (v : Known A S) → get_elem? views j ≡ some v → HasKey (stands v) maker → In k v.forked × (HasKey v.born maker → ⊥)

pub record Shows {A S C : Type 0} (at : C → ℕ → S) (Fits : C → ℕ → A → Type 0) (Own : Known A S → Type 0) (Marks : C → ℕ → ℕ → Type 0) (made : C → ℕ) (Kept : C → Type 0) (n : ℕ) (s : State S (Known A S)) : Type 0 where
  pub core : C
  pub kept : Kept core
  -- each word is right for the core state
  pub marks : (i : ℕ) → i < n → Marks core i (slice_index s.words i)
  pub long : length s.words ≡ n
  pub wide : length s.homes ≡ n
  pub free : (i : ℕ) → i < n → slice_index s.words i ≡ 0 → get_elem? s.homes i ≡ some (some (at core i))
  pub taken : (i : ℕ) → i < n → slice_index s.words i ≢ 0 → Holds s.views (slice_index s.words i) i (at core i)
  pub each : (j : ℕ) (v : Known A S) → get_elem? s.views j ≡ some v → Sits at Fits Own n s.words core v
  -- an actor has one seat
  pub alone : (j k : ℕ) (v w : Known A S) (a : ℕ) → get_elem? s.views j ≡ some v → get_elem? s.views k ≡ some w → HasKey (stands v) a → HasKey (stands w) a → j ≡ k
  pub parents : (k : ℕ) → 0 < k → k < made core → Parent s.views k

-- One event of the seat's actor, or none, leads from c to d, while the word i becomes new. There the view w fits, what stands in ys is as it says there, and all else is as in c
pub record Changes {A S C : Type 0} (at : C → ℕ → S) (Fits : C → ℕ → A → Type 0) (Own : Known A S → Type 0) (Marks : C → ℕ → ℕ → Type 0) (made : C → ℕ) (Next : C → ℕ → C → Type 0) (c d : C) (v w : Known A S) (ys : List (ℕ × S)) (i new : ℕ) : Type 0 where
  pub next : Next c v.actor d
  pub own : Own w
  pub records : (a : ℕ) (r : A) → Has (stands w) a r → Fits d a r
  pub others : (b : ℕ) (t : A) → Fits c b t → (HasKey (stands v) b → ⊥) → Fits d b t
  pub values : (i : ℕ) (x : S) → Has ys i x → at d i ≡ x
  pub rest : (i : ℕ) → (HasKey ys i → ⊥) → at d i ≡ at c i
  pub mark : (word : ℕ) → Marks c i word → Marks d i new
  pub marks : (k word : ℕ) → k ≢ i → Marks c k word → Marks d k word

-- w stands for the actors of v, and for those that were made between c and d
pub record Makes {A S C : Type 0} (made : C → ℕ) (c d : C) (v w : Known A S) : Type 0 where
  pub back : (a : ℕ) → HasKey (stands w) a → HasKey (stands v) a ⊎ (made c ≤ a)
  pub born : (a : ℕ) → HasKey w.born a → HasKey v.born a ⊎ (made c ≤ a)
  pub unborn : (k : ℕ) → HasKey w.born k → (k ≢ w.actor) × (HasKey w.absorbed k → ⊥)
  pub unjoined : HasKey w.absorbed w.actor → ⊥
  pub forked : (k : ℕ) → In k v.forked → In k w.forked
  pub new : (k : ℕ) → k < made d → (k < made c) ⊎ (In k w.forked × (w.actor < k))

-- the seat has the slot i out, and after the step just the others
pub record Returns {A S : Type 0} (v w : Known A S) (i : ℕ) : Type 0 where
  pub still : w.live ≡ true
  pub actor : w.actor ≡ v.actor
  pub given : HasKey v.out i
  pub back : (k : ℕ) → HasKey w.out k → HasKey v.out k × (k ≢ i)
  pub forth : (k : ℕ) → HasKey v.out k → k ≢ i → HasKey w.out k

-- Whatever kept core state backs what the seat knows, an event of its actor, or none, at the give of y into the slot i, makes it back w
abbrev pub Does : {A S C : Type 0} → (C → ℕ → S) → (C → ℕ → A → Type 0) → (Known A S → Type 0) → (C → ℕ → ℕ → Type 0) → (C → ℕ) → (C → Type 0) → (C → ℕ → C → Type 0) → Known A S → Known A S → ℕ → S → Type 0
Does {A} {S} {C} at Fits Own Marks made Kept Next v w i y = (c : C) → Kept c → Backs at Fits Own c v → (d : C) × Changes at Fits Own Marks made Next c d v w ((i, y) ∷ w.out) i 0 × Makes made c d v w

module _ {A S : Type 0} where
  -- the seat after it took the slot i, with the value x
  abbrev pub with_out : (S → A → A) → Known A S → ℕ → S → Known A S
  with_out see v i x = record { live = v.live; actor = v.actor; mine = see x v.mine; out = (i, x) ∷ v.out; born = v.born; absorbed = v.absorbed; forked = v.forked }

  -- the seat that found the slot i taken
  abbrev pub with_mine : Known A S → A → Known A S
  with_mine v m = record { live = v.live; actor = v.actor; mine = m; out = v.out; born = v.born; absorbed = v.absorbed; forked = v.forked }

  -- a try to take the slot i; of what it finds it is told
  abbrev pub Took : (S → A → A) → (Known A S → ℕ → S → Type 0) → (ℕ → A → A) → (Known A S → ℕ → ℕ → Type 0) → Me S (Known A S) → ℕ → ℕ → Me S (Known A S) → Type 0
  Took see told miss missed me i found m = (found ≡ 0 → (x : S) × (m ≡ (with_out see me.0 i x, (i, x) ∷ me.1)) × told me.0 i x × (HasKey me.0.out i → ⊥))
      × (found ≢ 0 → (m ≡ (with_mine me.0 (miss found me.0.mine), me.1)) × missed me.0 i found)

  -- the seat without the actor that it made last, and that actor's new seat
  abbrev pub parting : Known A S → Known A S
  parting v = record { live = v.live; actor = v.actor; mine = v.mine; out = v.out; born = []; absorbed = v.absorbed; forked = v.forked }

  abbrev pub child_of : A → List (ℕ × A) → Known A S
  child_of d [] = record { live = false; actor = 0; mine = d; out = []; born = []; absorbed = []; forked = [] }
  child_of d (b ∷ bs) = known b.0 b.1 [] [] [] []

  abbrev pub child : Known A S → Known A S
  child v = child_of v.mine v.born

  -- the seat with the actors of another, whose own one is over
  abbrev pub joined : (A → A → A) → (A → A) → Known A S → Known A S → Known A S
  joined blend over v w = record { live = v.live; actor = v.actor; mine = blend v.mine w.mine; out = v.out; born = []; absorbed = v.absorbed ++ (w.actor, over w.mine) ∷ w.absorbed; forked = v.forked ++ w.forked }

  abbrev pub spent : A → Known A S
  spent d = child_of d []

  -- it stands for the first actor, and for each that one of its actors made
  pub record Covers (v : Known A S) : Type 0 where
    pub first : HasKey (stands v) 0
    pub heirs : (k : ℕ) → In k v.forked → HasKey (stands v) k

-- one event of the actor of v, or none, leads from c to d, where the two views are one
pub record Merges {A S C : Type 0} (at : C → ℕ → S) (Fits : C → ℕ → A → Type 0) (Own : Known A S → Type 0) (Marks : C → ℕ → ℕ → Type 0) (made : C → ℕ) (Next : C → ℕ → C → Type 0) (c d : C) (v w both : Known A S) : Type 0 where
  pub next : Next c v.actor d
  pub own : Own both
  pub records : (a : ℕ) (r : A) → Has (stands both) a r → Fits d a r
  pub others : (b : ℕ) (t : A) → Fits c b t → (HasKey (stands v) b → ⊥) → (HasKey (stands w) b → ⊥) → Fits d b t
  pub same : (i : ℕ) → at d i ≡ at c i
  pub marks : (k word : ℕ) → Marks c k word → Marks d k word
  pub made_same : made d ≡ made c

-- the core state at the start
pub record Opens {A S C : Type 0} (at : C → ℕ → S) (Fits : C → ℕ → A → Type 0) (Own : Known A S → Type 0) (Marks : C → ℕ → ℕ → Type 0) (made : C → ℕ) (Kept : C → Type 0) (slots : List S) (a : A) : Type 0 where
  pub core : C
  pub kept : Kept core
  pub marks : (i : ℕ) → Marks core i 0
  pub one : made core ≡ 1
  pub fits : Fits core 0 a
  pub own : Own (known 0 a [] [] [] [])
  pub values : (i : ℕ) → i < length slots → get_elem? slots i ≡ some (at core i)

-- from f to g the slot i became x, and no other changed
pub record One {S : Type 0} (f g : ℕ → S) (i : ℕ) (x : S) : Type 0 where
  pub here : g i ≡ x
  pub others : (j : ℕ) → j ≢ i → g j ≡ f j

-- from f to g the slots of ys became what stands there, and no others changed
pub record Writes {S : Type 0} (f g : ℕ → S) (ys : List (ℕ × S)) : Type 0 where
  pub values : (i : ℕ) (x : S) → Has ys i x → g i ≡ x
  pub rest : (i : ℕ) → (HasKey ys i → ⊥) → g i ≡ f i
