-- Prefixes of permutations.
use Rattle.std.proofs.Common.{◌≡◌, ℕ, zero, suc, ◌<◌, ◌^◌, List, [], ◌∷◌, length, take, ◌&&◌, IsTrue, nat_le, nat_lt, refl, subst, arith}
use Rattle.std.proofs.lemmas.Bool.{and_from, and_parts}
use Rattle.mi_base.specs.Permutations.{is_permutation}
use Rattle.mi_base.specs.Prefixes.{all_below, are_different}

-- a front of small numbers
pub all_below-take : (n d : ℕ) (xs : List ℕ) → IsTrue (all_below n xs) → IsTrue (all_below n (take d xs))
all_below-take n zero xs h = refl
all_below-take n (suc d) [] h = refl
all_below-take n (suc d) (x ∷ xs) h =
    let parts = and_parts (nat_lt x n) (all_below n xs) h in
    and_from (nat_lt x n) (all_below n (take d xs)) parts.0 (all_below-take n d xs parts.1)

-- each pivot of a permutation is below their count
pub all_below-permutation : (n d : ℕ) (perm : List ℕ) → length perm ≡ n → IsTrue (is_permutation perm) → IsTrue (all_below n (take d perm))
all_below-permutation n d perm long h =
    let parts = and_parts (nat_le (length perm) 32) (all_below (length perm) perm && are_different perm) h in
    let low = (and_parts (all_below (length perm) perm) (are_different perm) parts.1).0 in
    all_below-take n d perm (subst (λ (m : ℕ). IsTrue (all_below m perm)) long low)
