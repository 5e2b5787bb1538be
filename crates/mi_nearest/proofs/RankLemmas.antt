-- The ranks of the leaves.
use Rattle.std.proofs.Common.{◌≡◌, ℕ, ◌+◌, ◌≤◌, List, [], ◌∷◌, ◌++◌, take, Bool, true, false, cond, refl, sym, ap, ◌∙◌, append-nil, zero-add, length, Option, Some, None}
use Rattle.std.specs.Prelude.{is_some, slice_get}
use Rattle.std.specs.Cmp.{IsTotalOrder, on_total, then_total, nat_cmp_total}
use Rattle.std.specs.List.{All, cons_option, filter, filter_map, sum_by}
use Rattle.std.specs.List.Sorted.{IsPermutation, IsSorted}
use Rattle.std.proofs.lemmas.Bool.{false≢true}
use Rattle.std.proofs.lemmas.List.{take_all}
use Rattle.std.proofs.lemmas.List.Elements.{All-nil, All-push, All-same, filter_map-append, filter_more, recursion_from_All}
use Rattle.std.proofs.lemmas.List.Sorted.{All-permutation}
use Rattle.std.proofs.lemmas.List.Sums.{sum_by-cons}
use Rattle.std.proofs.lemmas.Option.{slice_get_within, get_or_from_slice_get}
use Rattle.mi_base.specs.Sorting.{SameElements}
use Rattle.mi_base.proofs.SortingLemmas.{ascends-from_sort, same_permutation, same_sym}
use Rattle.mi_tree.specs.declared.outcomes.Leaf.{Leaf}
use Rattle.mi_rules.specs.Passing.{IsBound, hull_passes}
use Rattle.mi_nearest.specs.declared.order.Rank.{Rank}
use Rattle.mi_nearest.specs.Order.{IsRank, IsRanked, leaves_at, rank_cmp}

rank_total : IsTotalOrder rank_cmp
rank_total = then_total (on_total (λ r. r.bound) nat_cmp_total) (on_total (λ r. r.place) nat_cmp_total)

abbrev pub has_hull : Leaf → Bool
has_hull leaf = is_some leaf.hull

abbrev value_or_none : {Y : Type 0} → (Y → ℕ) → Option Y → ℕ
value_or_none f None = 0
value_or_none f (Some y) = f y

filter_map_sum : {X Y : Type 0} (g : X → Option Y) (f : Y → ℕ) (xs : List X) → sum_by f (filter_map g xs) ≡ sum_by (λ x. value_or_none f (g x)) xs
filter_map_sum g f [] = refl
filter_map_sum {X} {Y} g f (x ∷ xs) =
    let rest = filter_map_sum g f xs in
    let P : Option Y → Type 0 = λ o. sum_by f (cons_option o (filter_map g xs)) ≡ value_or_none f o + sum_by f (filter_map g xs) in
    let go : (o : Option Y) → P o = elim [ None ↦ sym (zero-add (sum_by f (filter_map g xs))) | Some y ↦ sum_by-cons f y (filter_map g xs) ] in
    go (g x) ∙ ap (λ n. value_or_none f (g x) + n) rest ∙ sym (sum_by-cons (λ z. value_or_none f (g z)) x xs)

-- the leaves at places, in whatever order
same_leaves : (leaves : List Leaf) (xs ys : List Rank) → SameElements xs ys → SameElements (leaves_at leaves xs) (leaves_at leaves ys)
same_leaves leaves xs ys s =
    let at : Rank → Option Leaf = λ rank. slice_get leaves rank.place in
    record { sums = λ f. filter_map_sum at f xs ∙ s.sums (λ rank. value_or_none f (at rank)) ∙ sym (filter_map_sum at f ys) }

-- a leaf with a bound has a hull
some_hull : (dq prefix : List ℕ) (bound : ℕ) (hull : Option (ℕ × ℕ)) → hull_passes dq bound prefix hull ≡ true → is_some hull ≡ true
some_hull dq prefix bound None h = absurd (false≢true h)
some_hull dq prefix bound (Some hull) h = refl

-- one leaf more
one_more : (leaves : List Leaf) (place : ℕ) (leaf : Leaf) (b : Bool) → slice_get leaves place ≡ Some leaf → has_hull leaf ≡ b → filter has_hull (take (place + 1) leaves) ≡ filter has_hull (take place leaves) ++ cond b (leaf ∷ []) []
one_more leaves place leaf b at h =
    filter_more has_hull leaves place leaf (slice_get_within leaves place leaf at)
    ∙ ap (λ l. filter has_hull (take place leaves) ++ cond (has_hull l) (l ∷ []) []) (get_or_from_slice_get leaves place leaf leaf at)
    ∙ ap (λ c. filter has_hull (take place leaves) ++ cond c (leaf ∷ []) []) h

ranked_more : (dq : List ℕ) (leaves : List Leaf) (ranks : List Rank) (rank : Rank) (leaf : Leaf) → leaves_at leaves ranks ≡ filter has_hull (take rank.place leaves) → slice_get leaves rank.place ≡ Some leaf
    → IsBound dq leaf (Some rank.bound) → leaves_at leaves (ranks ++ rank ∷ []) ≡ filter has_hull (take (rank.place + 1) leaves)
ranked_more dq leaves ranks rank leaf e at b =
    filter_map-append (λ r. slice_get leaves r.place) ranks (rank ∷ []) ∙ ap (λ o. leaves_at leaves ranks ++ cons_option o []) at ∙ ap (λ ls. ls ++ leaf ∷ []) e
    ∙ sym (one_more leaves rank.place leaf true at (some_hull dq leaf.prefix rank.bound leaf.hull b.0))

ranked_same : (leaves : List Leaf) (ranks : List Rank) (place : ℕ) (leaf : Leaf) → leaves_at leaves ranks ≡ filter has_hull (take place leaves) → slice_get leaves place ≡ Some leaf → leaf.hull ≡ None
    → leaves_at leaves ranks ≡ filter has_hull (take (place + 1) leaves)
ranked_same leaves ranks place leaf e at none = e ∙ sym (append-nil (filter has_hull (take place leaves))) ∙ sym (one_more leaves place leaf false at (ap is_some none))

-- so far the ranks are those of the leaves before a place
pub record RankedTo (dq : List ℕ) (leaves : List Leaf) (place : ℕ) (ranks : List Rank) : Type 0 where
  pub are : All (IsRank dq leaves) ranks
  pub all : leaves_at leaves ranks ≡ filter has_hull (take place leaves)

pub to_none : (dq : List ℕ) (leaves : List Leaf) (ranks : List Rank) → ranks ≡ [] → RankedTo dq leaves 0 ranks
to_none dq leaves ranks e = record { are = All-same (IsRank dq leaves) ranks [] e (All-nil (IsRank dq leaves)); all = ap (leaves_at leaves) e }

-- the leaf at the place has a bound, and its rank is added
pub to_more : (dq : List ℕ) (leaves : List Leaf) (ranks more : List Rank) (rank : Rank) (leaf : Leaf) → RankedTo dq leaves rank.place ranks → slice_get leaves rank.place ≡ Some leaf → IsBound dq leaf (Some rank.bound)
    → more ≡ ranks ++ rank ∷ [] → RankedTo dq leaves (rank.place + 1) more
to_more dq leaves ranks more rank leaf so at b e = record {
  are = All-same (IsRank dq leaves) more (ranks ++ rank ∷ []) e (All-push (IsRank dq leaves) ranks rank so.are (record { leaf = leaf; stands = at; bound_is = b }));
  all = ap (leaves_at leaves) e ∙ ranked_more dq leaves ranks rank leaf so.all at b;
}

-- it has none
pub to_same : (dq : List ℕ) (leaves : List Leaf) (ranks : List Rank) (place : ℕ) (leaf : Leaf) → RankedTo dq leaves place ranks → slice_get leaves place ≡ Some leaf → leaf.hull ≡ None → RankedTo dq leaves (place + 1) ranks
to_same dq leaves ranks place leaf so at none = record { are = so.are; all = ranked_same leaves ranks place leaf so.all at none }

-- the ranks of all leaves, sorted
pub to_sorted : (dq : List ℕ) (leaves : List Leaf) (found ranks : List Rank) (place : ℕ) → RankedTo dq leaves place found → length leaves ≤ place → IsPermutation found ranks → IsSorted rank_cmp ranks
    → IsRanked dq leaves ranks
to_sorted dq leaves found ranks place so past p s = record {
  are = recursion_from_All (IsRank dq leaves) ranks (All-permutation (IsRank dq leaves) found ranks p so.are);
  all =
      let same = same_leaves leaves ranks found (same_sym (same_permutation found ranks p)) in
      record { sums = λ f. same.sums f ∙ ap (sum_by f) (so.all ∙ ap (filter has_hull) (take_all place leaves past)) };
  ascend = ascends-from_sort rank_cmp rank_total ranks s;
}
