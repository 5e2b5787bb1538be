-- How deep the leaf of a permutation lies.
use Rattle.std.proofs.Common.{◌≡◌, ◌≢◌, ℕ, ℤ, ◌+◌, ◌≤◌, List, [], ◌∷◌, ◌++◌, length, take, drop, Bool, true, false, cond, ◌&&◌, nat_eq, refl, sym, ap, ◌∙◌, subst, arith, min}
use Rattle.std.specs.List.{fold}
use Rattle.std.proofs.lemmas.Grind.{fold-append}
use Rattle.std.proofs.lemmas.Bool.{eqb-true, eq-eqb}
use Rattle.std.proofs.lemmas.List.{take-append-drop, length-take}
use Rattle.mi_base.specs.declared.records.LogEvent.{LogEvent}
use Rattle.mi_base.specs.declared.records.LogEvent.TheVariants.{Update as Made, Split}
use Rattle.mi_base.specs.Permutations.{begins}
use Rattle.mi_key.specs.declared.entries.Entry.{Entry}
use Rattle.mi_tree.specs.Cells.{Grid, IsGrid, AllMaySplit, depth, depth_after, is_leaf}
use Rattle.mi_tree.proofs.LeafLemmas.{leaf_is, step_deep}
use Rattle.mi_key.specs.Keys.{parts_of}
use Rattle.mi_tree.specs.Births.{Born}
use Rattle.mi_entries.specs.Entries.{FitsKey, born_in, is_down, key_down}
use Rattle.mi_entries.proofs.FilterLemmas.{not_true}

-- vectors have permutations, and keys tell depths apart and have their identifiers
pub record IsKeyed (g : Grid) : Type 0 where
  pub grid : IsGrid g
  pub named : (o : Born) → FitsKey g o → (d : ℕ) → d ≤ g.levels → (parts_of (key_down g d o)).id ≡ o.id
  pub aged : (o : Born) → FitsKey g o → (d : ℕ) → d ≤ g.levels → (parts_of (key_down g d o)).birth ≡ o.birth
  pub apart : (o : Born) (a b : ℕ) → a ≤ g.levels → b ≤ g.levels → key_down g a o ≡ key_down g b o → a ≡ b

abbrev depth_from : ℕ → List LogEvent → List ℕ → ℕ
depth_from first log perm = fold (depth_after perm) first log

step_grows : (perm : List ℕ) (d : ℕ) (e : LogEvent) → d ≤ depth_after perm d e
step_grows perm d (Made session op u) = omega arith
step_grows perm d (Split p) =
    let P : Bool → Type 0 = λ b. d ≤ cond b (d + 1) d in
    elim (nat_eq (length p) d && begins p perm) as P [ true ↦ omega arith | false ↦ omega arith ]

from_grows : (perm : List ℕ) (d : ℕ) (log : List LogEvent) → d ≤ depth_from d log perm
from_grows perm d [] = omega arith
from_grows perm d (e ∷ log) = omega (arith, step_grows perm d e, from_grows perm (depth_after perm d e) log)

pub depth-append : (g : Grid) (log : List LogEvent) (e : LogEvent) (perm : List ℕ) → depth g (log ++ e ∷ []) perm ≡ depth_after perm (depth g log perm) e
depth-append g log e perm = fold-append (depth_after perm) (min 1 g.pivots) log (e ∷ [])

-- an earlier depth is not greater
pub depth_take : (g : Grid) (log : List LogEvent) (k : ℕ) (perm : List ℕ) → depth g (take k log) perm ≤ depth g log perm
depth_take g log k perm =
    let first = min 1 g.pivots in
    let grown : depth g (take k log) perm ≤ depth_from first (take k log ++ drop k log) perm =
    rw (fold-append (depth_after perm) first (take k log) (drop k log)) (from_grows perm (depth g (take k log) perm) (drop k log)) in
    subst (λ (l : List LogEvent). depth g (take k log) perm ≤ depth_from first l perm) (take-append-drop k log) grown

from_deep : (g : Grid) (perm : List ℕ) (d : ℕ) (log : List LogEvent) → AllMaySplit g log → d ≤ g.levels → depth_from d log perm ≤ g.levels
from_deep g perm d [] h le = le
from_deep g perm d (e ∷ log) h le = from_deep g perm (depth_after perm d e) log h.1 (step_deep g perm d e h.0 le)

pub depth_deep : (g : Grid) → IsKeyed g → (log : List LogEvent) → AllMaySplit g log → (perm : List ℕ) → depth g log perm ≤ g.levels
depth_deep g ok log h perm = from_deep g perm (min 1 g.pivots) log h ok.grid.first

-- an entry at one depth isn't at another
pub not_down : (g : Grid) → IsKeyed g → (e : Entry) (a d : ℕ) → e.key ≡ key_down g a (born_in e) → a ≤ g.levels → d ≤ g.levels → a ≢ d → is_down g d e ≡ false
not_down g ok e a d keyed la ld ne = not_true (is_down g d e) (λ t. ne (ok.apart (born_in e) a d la ld (sym keyed ∙ eqb-true e.key (key_down g d (born_in e)) t)))

-- a split doesn't change the depth of what it isn't for, and takes the others one deeper
pub depth_not_under : (g : Grid) (log : List LogEvent) (p perm : List ℕ) → begins p perm ≡ false → depth g (log ++ Split p ∷ []) perm ≡ depth g log perm
depth_not_under g log p perm out =
    let P : Bool → Type 0 = λ b. cond (b && begins p perm) (depth g log perm + 1) (depth g log perm) ≡ depth g log perm in
    depth-append g log (Split p) perm ∙ elim (nat_eq (length p) (depth g log perm)) as P [ true ↦ rw out refl | false ↦ refl ]

pub depth_under : (g : Grid) (log : List LogEvent) (p perm : List ℕ) → begins p perm ≡ true → depth g log perm ≡ length p → depth g (log ++ Split p ∷ []) perm ≡ depth g log perm + 1
depth_under g log p perm inside is = depth-append g log (Split p) perm ∙ rw (inside, eq-eqb (length p) (depth g log perm) (sym is)) refl

module _ (g : Grid) (ok : IsKeyed g) (log : List LogEvent) (legal : AllMaySplit g log) where
  pub leaf_deep : (p : List ℕ) (v : List ℤ) → is_leaf g log p ≡ true → begins p (g.perm v) ≡ true → depth g log (g.perm v) ≡ length p
  leaf_deep p v l h =
      let long = (ok.grid.perms v).1 in
      let deep = depth_deep g ok log legal (g.perm v) in
      let most = ok.grid.levels in
      omega (arith, length-take (depth g log (g.perm v)) (g.perm v), ap length (leaf_is g ok.grid log legal p v l h))
