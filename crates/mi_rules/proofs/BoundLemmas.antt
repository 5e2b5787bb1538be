-- From which radius on numbers meet what is asked of them.
use Rattle.std.proofs.Common.{◌≡◌, ℕ, ◌+◌, ◌-◌, ◌*◌, ◌<◌, ◌≤◌, List, length, take, Bool, true, false, cond, ◌&&◌, ◌||◌, nat_le, sym, ap, ◌∙◌, arith, zero-add}
use Rattle.std.specs.Prelude.{max, slice_index}
use Rattle.std.specs.Int.{div_ceil}
use Rattle.std.specs.Ordering.{nat_cmp, ord_max}
use Rattle.std.specs.List.{list_all, range_with_len}
use Rattle.mi_base.specs.Prefixes.{has}
use Rattle.std.proofs.lemmas.Bool.Decides.{nat_tests}
use Rattle.std.proofs.lemmas.List.{take_all}
use Rattle.std.proofs.lemmas.List.Folds.{list_all_more}
use Rattle.std.proofs.lemmas.List.FromFn.{length-range_with_len, get_or-range_with_len}

-- a test of the numbers up to and with i
pub all_more : (p : ℕ → Bool) (n i : ℕ) → i < n → list_all p (take (i + 1) (range_with_len 0 n)) ≡ (list_all p (take i (range_with_len 0 n)) && p i)
all_more p n i h =
    let within : i < length (range_with_len 0 n) = omega (arith, length-range_with_len 0 n) in
    list_all_more p (range_with_len 0 n) i 0 within ∙ ap (λ j. list_all p (take i (range_with_len 0 n)) && p j) (get_or-range_with_len 0 n i 0 h ∙ zero-add i)

-- what `max` answers
pub max_is : (a b : ℕ) → ord_max nat_cmp a b ≡ max a b
max_is a b = grind (arith, nat_tests)

-- what two numbers ask for, the greater asks for
pub both_bounds : (a b r : ℕ) → (nat_le a r && nat_le b r) ≡ nat_le (max a b) r
both_bounds a b r = grind (arith, nat_tests)

-- twice a radius makes up for a difference from half of it on, rounded up
half_bound : (a b r : ℕ) → nat_le a (b + 2 * r) ≡ nat_le (div_ceil (a - b) 2) r
half_bound a b r = grind (arith, nat_tests)

-- one more number
bound_more : (p : ℕ → ℕ → Bool) (n i bound need : ℕ) → i < n → ((r : ℕ) → list_all (p r) (take i (range_with_len 0 n)) ≡ nat_le bound r) → ((r : ℕ) → p r i ≡ nat_le need r)
    → (r : ℕ) → list_all (p r) (take (i + 1) (range_with_len 0 n)) ≡ nat_le (max bound need) r
bound_more p n i bound need h before here r =
    all_more (p r) n i h ∙ ap (λ b. b && p r i) (before r) ∙ ap (λ b. nat_le bound r && b) (here r) ∙ both_bounds bound need r

-- one more pivot, which stands among the earlier ones or asks for half of the difference
pub pivot_more : (dq earlier : List ℕ) (d i bound next : ℕ) → i < length dq
    → ((r : ℕ) → list_all (λ j. has j earlier || nat_le d (slice_index dq j + 2 * r)) (take i (range_with_len 0 (length dq))) ≡ nat_le bound r)
    → next ≡ max bound (cond (has i earlier) 0 (div_ceil (d - slice_index dq i) 2))
    → (r : ℕ) → list_all (λ j. has j earlier || nat_le d (slice_index dq j + 2 * r)) (take (i + 1) (range_with_len 0 (length dq))) ≡ nat_le next r
pivot_more dq earlier d i bound next h before is r =
    let need = div_ceil (d - slice_index dq i) 2 in
    let here : (b : Bool) (s : ℕ) → (b || nat_le d (slice_index dq i + 2 * s)) ≡ nat_le (cond b 0 need) s =
    elim [ true ↦ λ s. grind (arith, nat_tests) | false ↦ λ s. half_bound d (slice_index dq i) s ] in
    bound_more (λ s j. has j earlier || nat_le d (slice_index dq j + 2 * s)) (length dq) i bound (cond (has i earlier) 0 need) h before (here (has i earlier)) r
    ∙ ap (λ n. nat_le n r) (sym is)

-- one more place
pub place_more : (p : ℕ → ℕ → Bool) (n i bound here next : ℕ) → i < n → ((r : ℕ) → list_all (p r) (take i (range_with_len 0 n)) ≡ nat_le bound r) → ((r : ℕ) → p r i ≡ nat_le here r) → next ≡ max bound here
    → (r : ℕ) → list_all (p r) (take (i + 1) (range_with_len 0 n)) ≡ nat_le next r
place_more p n i bound here next h before is e r = bound_more p n i bound here h before is r ∙ ap (λ m. nat_le m r) (sym e)

-- all numbers
pub all_taken : (p : ℕ → Bool) (n i : ℕ) → n ≤ i → list_all p (take i (range_with_len 0 n)) ≡ list_all p (range_with_len 0 n)
all_taken p n i h = ap (list_all p) (take_all i (range_with_len 0 n) (omega (arith, length-range_with_len 0 n)))
