-- What is made may be run.
use Rattle.std.proofs.Common.{◌≡◌, ℕ, zero, suc, ◌+◌, ◌-◌, ◌*◌, ◌%◌, ◌<◌, ◌≤◌, ◌++◌, List, [], ◌∷◌, length, Bool, true, false, cond, sym, subst, ap, arith}
use Rattle.std.specs.Prelude.{◌==◌}
use Rattle.std.specs.List.{AllByRecursion}
use Rattle.std.proofs.lemmas.List.{length-append}
use Rattle.mi_base.specs.declared.records.Op.{Op}
use Rattle.mi_base.specs.declared.records.Op.TheVariants.{Delete, Range, Nearest}
use Rattle.mi_base.specs.declared.records.ScheduleItem.{ScheduleItem}
use Rattle.mi_base.specs.Configuration.{metric_space}
use Rattle.mi_base.specs.Scripts.{IsOpOver, IsScriptOver}
use Rattle.mi_base.specs.Space.{MetricSpace, l1_metric}
use Rattle.mi_make.specs.declared.workload.Workload.{Workload}
use Rattle.mi_make.specs.Draws.{after_vector, drawn, next_state, number_below, vector}
use Rattle.mi_make.specs.Workloads.{IsMade, IsOneOfThree, IsUpToTwenty, MayBeRun, actor_of, after_item, after_objects, after_operations, after_pivots, after_range, delete_after, item, nearest_after, operations, range_after, script, share}
use Rattle.mi_make.proofs.WorkloadLemmas.{vector_fits}

all_both : {X : Type 0} (P : X → Type 0) (xs ys : List X) → AllByRecursion P xs → AllByRecursion P ys → AllByRecursion P (xs ++ ys)
all_both P [] ys a b = b
all_both P (x ∷ xs) ys a b = (a.0, all_both P xs ys a.1 b)

abbrev Over : List Op → Type 0
Over ops = AllByRecursion (IsOpOver (l1_metric 16)) ops

-- an operation that not every object is followed by
optional : (b : Bool) (o : Op) → IsOpOver (l1_metric 16) o → Over (cond b (o ∷ []) [])
optional true o h = (h, tt)
optional false o h = tt

at_most_one : (b : Bool) (o : Op) → length (cond b (o ∷ []) []) ≤ 1
at_most_one true o = omega arith
at_most_one false o = omega arith

operations_over : (i x : ℕ) → i < 5000 → Over (operations i x)
operations_over i x few =
    let inserted = after_vector x in
    let ranged = after_range i inserted in
    let deletes = optional (i % 50 == 49) (Delete (i - 24)) (omega (arith, few)) in
    let ranges = optional (i % 25 == 24) (Range 3000 (vector inserted)) (omega arith, vector_fits inserted) in
    let nearests = optional (i % 50 == 49) (Nearest 10 (vector ranged)) (omega arith, omega arith, vector_fits ranged) in
    let P = IsOpOver (l1_metric 16) in (
      (omega (arith, few), vector_fits x),
      all_both P (delete_after i ++ range_after i inserted) (nearest_after i ranged) (all_both P (delete_after i) (range_after i inserted) deletes ranges) nearests,
    )

operations_few : (i x : ℕ) → length (operations i x) ≤ 4
operations_few i x =
    let inserted = after_vector x in
    let ranged = after_range i inserted in
    omega (
      arith,
      length-append (delete_after i ++ range_after i inserted) (nearest_after i ranged),
      length-append (delete_after i) (range_after i inserted),
      at_most_one (i % 50 == 49) (Delete (i - 24)),
      at_most_one (i % 25 == 24) (Range 3000 (vector inserted)),
      at_most_one (i % 50 == 49) (Nearest 10 (vector ranged)),
    )

share_over : (b : Bool) (i x : ℕ) → i < 5000 → Over (cond b (operations i x) [])
share_over true i x few = operations_over i x few
share_over false i x few = tt

share_few : (b : Bool) (i x : ℕ) → length (cond b (operations i x) []) ≤ 4
share_few true i x = operations_few i x
share_few false i x = omega arith

script_over : (which n i x : ℕ) → i + n ≤ 5000 → Over (script which n i x)
unfolding script
script_over which zero i x few = tt
script_over which (suc n) i x few =
    all_both (IsOpOver (l1_metric 16)) (share which i x) (script which n (i + 1) (after_operations i x))
    (share_over (i % 2 == which) i x (omega (arith, few))) (script_over which n (i + 1) (after_operations i x) (omega (arith, few)))

script_few : (which n i x : ℕ) → length (script which n i x) ≤ 4 * n
unfolding script
script_few which zero i x = omega arith
script_few which (suc n) i x =
    let rest = script which n (i + 1) (after_operations i x) in
    omega (arith, length-append (share which i x) rest, share_few (i % 2 == which) i x, script_few which n (i + 1) (after_operations i x))

is_script : (which x : ℕ) → IsScriptOver (l1_metric 16) (script which 5000 0 x)
is_script which x = record { few = omega (arith, script_few which 5000 0 x); each = script_over which 5000 0 x (omega arith) }

actor_over : (n : ℕ) → n < 3 → IsOneOfThree (actor_of n)
actor_over zero few = omega arith
actor_over (suc zero) few = omega arith
actor_over (suc (suc zero)) few = tt
actor_over (suc (suc (suc n))) few = absurd (omega (arith, few))

abbrev ItemOver : ScheduleItem → Type 0
ItemOver i = IsOneOfThree i.actor × IsUpToTwenty i.take

items_over : (n x : ℕ) → AllByRecursion ItemOver (drawn item after_item n x)
unfolding drawn
items_over zero x = tt
items_over (suc n) x = ((actor_over (number_below 3 (next_state x)) (omega arith), (omega arith, omega arith)), items_over n (after_item x))

pub made_may_run : (seed : ℕ) (w : Workload) → IsMade seed w → MayBeRun w
made_may_run seed w made =
    let m : MetricSpace = metric_space w.settings in
    let l1 : l1_metric 16 ≡ m = sym (ap metric_space made.settings) in
    let x = after_pivots seed in
    record {
      scripts = subst (λ ops. AllByRecursion (IsScriptOver m) ops) (sym made.scripts) (
          subst (λ s. AllByRecursion (IsScriptOver s) (script 0 5000 0 x ∷ script 1 5000 0 x ∷ [])) l1 (is_script 0 x, (is_script 1 x, tt))
          );
      schedule = subst (AllByRecursion ItemOver) (sym made.schedule) (items_over 4000 (after_objects 5000 0 x));
    }
