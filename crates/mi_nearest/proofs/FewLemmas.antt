-- How many rows are nearer than a distance.
use Rattle.std.proofs.Common.{◌≡◌, ℕ, suc, zero, ◌+◌, ◌<◌, ◌≤◌, List, [], ◌∷◌, ◌++◌, length, take, Bool, true, false, cond, nat_lt, refl, sym, ap, ◌∙◌, subst, arith, append_assoc, append-nil, Some, None}
use Rattle.std.specs.Prelude.{IfSome}
use Rattle.std.specs.List.{AllByRecursion}
use Rattle.std.specs.Ordering.{nat_cmp, is_lt}
use Rattle.std.proofs.lemmas.Bool.Decides.{nat_tests}
use Rattle.std.proofs.lemmas.Map.Keys.{ge_from_not_lt}
use Rattle.std.proofs.lemmas.List.{length-take}
use Rattle.std.proofs.lemmas.List.Sums.{count_by-le-length, sum_by-cons}
use Rattle.mi_base.specs.declared.records.Row.{Row}
use Rattle.mi_base.specs.History.{row_cmp}
use Rattle.mi_base.specs.Sorting.{Ascends, sorted}
use Rattle.mi_base.proofs.HistoryLemmas.{row_total}
use Rattle.mi_base.proofs.SortingLemmas.{same_length, same_sorted, sorted_ascends}
use Rattle.mi_rules.proofs.RuleLemmas.{not_less}
use Rattle.mi_rules.specs.Passing.{kth_distance, last_distance}
use Rattle.mi_nearest.specs.Nearing.{first_rows}
use Rattle.mi_nearest.specs.Walking.{nearer_count}
use Rattle.mi_nearest.proofs.FirstLemmas.{farther_kth}

nearer_cons : (bound : ℕ) (row : Row) (rows : List Row) → nearer_count bound (row ∷ rows) ≡ cond (nat_lt row.distance bound) 1 0 + nearer_count bound rows
nearer_cons bound row rows = sum_by-cons (λ r. cond (nat_lt r.distance bound) 1 0) row rows

nearer_far : (bound : ℕ) (row : Row) (rows : List Row) → bound ≤ row.distance → nearer_count bound (row ∷ rows) ≡ nearer_count bound rows
nearer_far bound row rows far =
    let out : nat_lt row.distance bound ≡ false = grind (arith, nat_tests) in
    omega (arith, nearer_cons bound row rows, ap {B = ℕ} (λ b. cond b 1 0) out)

nearer_near : (bound : ℕ) (row : Row) (rows : List Row) → row.distance < bound → nearer_count bound (row ∷ rows) ≡ 1 + nearer_count bound rows
nearer_near bound row rows near =
    let in' : nat_lt row.distance bound ≡ true = grind (arith, nat_tests) in
    omega (arith, nearer_cons bound row rows, ap {B = ℕ} (λ b. cond b 1 0) in')

nearer_more : (bound : ℕ) (row : Row) (rows : List Row) → nearer_count bound (row ∷ rows) ≤ 1 + nearer_count bound rows
nearer_more bound row rows =
    let P : Bool → Type 0 = λ b. cond b 1 0 ≤ 1 in
    let few : (b : Bool) → P b = elim [ true ↦ omega arith | false ↦ omega arith ] in
    omega (arith, nearer_cons bound row rows, few (nat_lt row.distance bound))

-- what comes after a row is no nearer
none_after : (bound : ℕ) (row : Row) (rows : List Row) → bound ≤ row.distance → AllByRecursion (λ y. is_lt (row_cmp y row) ≡ false) rows → nearer_count bound rows ≡ 0
none_after bound row [] far after = refl
none_after bound row (next ∷ rows) far after =
    let le : row.distance ≤ next.distance = ge_from_not_lt next.distance row.distance (not_less (nat_cmp next.distance row.distance) (nat_cmp next.id row.id) after.0) in
    nearer_far bound next rows (omega arith) ∙ none_after bound row rows far after.1

-- where row number k is no nearer, fewer than k are
last_far : (k : ℕ) (rows : List Row) (bound : ℕ) → Ascends row_cmp rows → 1 ≤ k → k ≤ length rows → IfSome (last_distance (take k rows)) (λ worst. bound ≤ worst) → nearer_count bound rows < k
last_far zero rows bound a some long last = absurd (omega arith)
last_far (suc k) [] bound a some long last = absurd (omega arith)
last_far (suc zero) (row ∷ rows) bound a some long last = omega (arith, nearer_far bound row rows last, none_after bound row rows last a.0)
last_far (suc (suc k)) (row ∷ []) bound a some long last = absurd (omega arith)
last_far (suc (suc k)) (row ∷ next ∷ rows) bound a some long last =
    omega (arith, nearer_more bound row (next ∷ rows), last_far (suc k) (next ∷ rows) bound a.1 (omega arith) (omega arith) last)

far_last : (k : ℕ) (rows : List Row) (bound : ℕ) → Ascends row_cmp rows → k ≤ length rows → nearer_count bound rows < k → IfSome (last_distance (take k rows)) (λ worst. bound ≤ worst)
far_last zero rows bound a long few = absurd (omega arith)
far_last (suc k) [] bound a long few = absurd (omega arith)
far_last (suc zero) (row ∷ rows) bound a long few =
    let P : Bool → Type 0 = λ b. nat_lt row.distance bound ≡ b → bound ≤ row.distance in
    let go : (b : Bool) → P b = elim [
      | true ↦ λ e. let near : row.distance < bound = grind (arith, nat_tests) in absurd (omega (arith, nearer_near bound row rows near))
      | false ↦ λ e. grind (arith, nat_tests)
    ] in
    go (nat_lt row.distance bound) refl
far_last (suc (suc k)) (row ∷ []) bound a long few = absurd (omega arith)
far_last (suc (suc k)) (row ∷ next ∷ rows) bound a long few =
    let P : Bool → Type 0 = λ b. nat_lt row.distance bound ≡ b → nearer_count bound (next ∷ rows) < suc k in
    let go : (b : Bool) → P b = elim [
      | true ↦ λ e. let near : row.distance < bound = grind (arith, nat_tests) in omega (arith, nearer_near bound row (next ∷ rows) near)
      | false ↦ λ e. let far : bound ≤ row.distance = grind (arith, nat_tests) in omega (arith, none_after bound row (next ∷ rows) far a.0)
    ] in
    far_last (suc k) (next ∷ rows) bound a.1 (omega arith) (go (nat_lt row.distance bound) refl)

-- as many are nearer in whatever order
nearer_sorted : (bound : ℕ) (rows : List Row) → nearer_count bound (sorted row_cmp rows) ≡ nearer_count bound rows
nearer_sorted bound rows = (same_sorted row_cmp rows).sums (λ row. cond (nat_lt row.distance bound) 1 0)

-- where there are too few rows, or the last is no nearer than a distance, fewer than k are nearer than it
pub few_nearer : (k : ℕ) (rows before : List Row) (bound : ℕ) → 1 ≤ k → rows ≡ first_rows k before → IfSome (kth_distance k rows) (λ worst. bound ≤ worst) → nearer_count bound before < k
few_nearer k rows before bound some e last =
    let all = sorted row_cmp before in
    let P : Bool → Type 0 = λ b. nat_lt (length rows) k ≡ b → IfSome (cond b None (last_distance rows)) (λ worst. bound ≤ worst) → nearer_count bound before < k in
    let go : (b : Bool) → P b = elim [
      | true ↦ λ t h.
          let short : length rows < k = grind (arith, nat_tests) in
          omega (arith, ap length e, length-take k all, same_length all before (same_sorted row_cmp before), count_by-le-length (λ row. nat_lt row.distance bound) before)
      | false ↦ λ t h.
          let long : k ≤ length rows = grind (arith, nat_tests) in
          let size : k ≤ length all = omega (arith, ap length e, length-take k all) in
          let taken = subst (λ (xs : List Row). IfSome (last_distance xs) (λ worst. bound ≤ worst)) e h in
          omega (arith, nearer_sorted bound before, last_far k all bound (sorted_ascends row_cmp row_total before) some size taken)
    ] in
    go (nat_lt (length rows) k) refl last

-- and the other way round
pub none_nearer_last : (k : ℕ) (rows before : List Row) (bound : ℕ) → rows ≡ first_rows k before → nearer_count bound before < k → IfSome (kth_distance k rows) (λ worst. bound ≤ worst)
none_nearer_last k rows before bound e few =
    let all = sorted row_cmp before in
    let P : Bool → Type 0 = λ b. nat_lt (length rows) k ≡ b → IfSome (cond b None (last_distance rows)) (λ worst. bound ≤ worst) in
    let go : (b : Bool) → P b = elim [
      | true ↦ λ t. tt
      | false ↦ λ t.
          let long : k ≤ length rows = grind (arith, nat_tests) in
          let size : k ≤ length all = omega (arith, ap length e, length-take k all) in
          let fewer : nearer_count bound all < k = omega (arith, nearer_sorted bound before) in
          subst (λ (xs : List Row). IfSome (last_distance xs) (λ worst. bound ≤ worst)) (sym e) (far_last k all bound (sorted_ascends row_cmp row_total before) size fewer)
    ] in
    go (nat_lt (length rows) k) refl

-- the first rows of a list are the first rows of it with any rows that are farther than the last of k
pub first_without_all : (k : ℕ) (rows before far : List Row) (worst : ℕ) → rows ≡ first_rows k before → kth_distance k rows ≡ Some worst → AllByRecursion (λ row. worst < row.distance) far
    → rows ≡ first_rows k (before ++ far)
first_without_all k rows before [] worst e last out = e ∙ ap (first_rows k) (sym (append-nil before))
first_without_all k rows before (row ∷ far) worst e last out =
    first_without_all k rows (before ++ row ∷ []) far worst (farther_kth k row rows before worst e last out.0) last out.1 ∙ ap (first_rows k) (append_assoc before (row ∷ []) far)
