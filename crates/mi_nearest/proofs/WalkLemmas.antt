-- A walk over ranked leaves that stops at the first whose bound is greater than the last row's distance.
use Rattle.std.proofs.Common.{◌≡◌, ℕ, suc, ◌+◌, ◌<◌, ◌≤◌, List, [], ◌∷◌, ◌++◌, length, Bool, true, false, cond, nat_le, nat_lt, refl, sym, ap, ◌∙◌, subst, arith, append-nil, length-append, zero-add, Option, Some, None}
use Rattle.std.specs.Prelude.{IfSome, is_some, slice_get, slice_index_or}
use Rattle.std.specs.List.{AllByRecursion, filter, flat_map, sum_by}
use Rattle.std.specs.Ordering.{is_lt, nat_cmp}
use Rattle.std.proofs.lemmas.Bool.{false≢true, le-leb, le-ltb}
use Rattle.std.proofs.lemmas.Bool.Decides.{nat_tests}
use Rattle.std.proofs.lemmas.Grind.{flat_map-append}
use Rattle.std.proofs.lemmas.List.Elements.{filter_map-append}
use Rattle.std.proofs.lemmas.List.Sums.{sum_by-append, sum_by-cons, sum_by_push}
use Rattle.std.proofs.lemmas.Map.Keys.{ge_from_not_lt}
use Rattle.mi_base.specs.declared.records.Row.{Row}
use Rattle.mi_base.specs.Sorting.{Ascends, SameElements}
use Rattle.mi_rules.proofs.RuleLemmas.{bound_passes, not_less}
use Rattle.mi_tree.specs.declared.outcomes.Leaf.{Leaf}
use Rattle.mi_rules.specs.Passing.{IsBound, hull_passes, is_reached, kth_distance}
use Rattle.mi_tree.proofs.ListLemmas.{all_get, all_joined}
use Rattle.mi_nearest.specs.declared.order.Rank.{Rank}
use Rattle.mi_nearest.specs.Nearing.{first_rows}
use Rattle.mi_nearest.specs.Order.{IsRank, IsRanked, leaves_at, rank_cmp}
use Rattle.mi_nearest.specs.Walking.{StopsAt, KeepsFirst, nearer_count, rows_at}
use Rattle.mi_nearest.proofs.FewLemmas.{few_nearer, first_without_all, none_nearer_last}

-- what holds of each holds of the one in the midst
all_middle : {X : Type 0} (P : X → Type 0) (xs : List X) (y : X) (ys : List X) → AllByRecursion P (xs ++ y ∷ ys) → P y
all_middle P [] y ys h = h.0
all_middle P (x ∷ xs) y ys h = all_middle P xs y ys h.1

-- and of those behind
pub all_later : {X : Type 0} (P : X → Type 0) (xs ys : List X) → AllByRecursion P (xs ++ ys) → AllByRecursion P ys
all_later P [] ys h = h
all_later P (x ∷ xs) ys h = all_later P xs ys h.1

-- ranks that ascend have bounds that do
rank_le : (a b : Rank) → is_lt (rank_cmp b a) ≡ false → a.bound ≤ b.bound
rank_le a b e = ge_from_not_lt b.bound a.bound (not_less (nat_cmp b.bound a.bound) (nat_cmp b.place a.place) e)

pub below_next : (done : List Rank) (r : Rank) (rest : List Rank) → Ascends rank_cmp (done ++ r ∷ rest) → AllByRecursion (λ x. x.bound ≤ r.bound) done
below_next [] r rest a = tt
below_next (x ∷ done) r rest a = (rank_le x r (all_middle (λ y. is_lt (rank_cmp y x) ≡ false) done r rest a.0), below_next done r rest a.1)

above_first : (r : Rank) (rest : List Rank) → AllByRecursion (λ y. is_lt (rank_cmp y r) ≡ false) rest → AllByRecursion (λ y. r.bound ≤ y.bound) rest
above_first r [] h = tt
above_first r (y ∷ rest) h = (rank_le r y h.0, above_first r rest h.1)

ascends_later : (done rest : List Rank) → Ascends rank_cmp (done ++ rest) → Ascends rank_cmp rest
ascends_later [] rest a = a
ascends_later (x ∷ done) rest a = ascends_later done rest a.1

stops_up : (worst : Option ℕ) (low high : ℕ) → low ≤ high → StopsAt worst low → StopsAt worst high
stops_up None low high le h = h
stops_up (Some w) low high le h = omega arith

stops_above : (worst : Option ℕ) (bound : ℕ) (rs : List Rank) → StopsAt worst bound → AllByRecursion (λ r. bound ≤ r.bound) rs → AllByRecursion (λ r. StopsAt worst r.bound) rs
stops_above worst bound [] s h = tt
stops_above worst bound (r ∷ rs) s h = (stops_up worst bound r.bound h.0 s, stops_above worst bound rs s h.1)

-- where it stops at a rank it would at each later one
pub stops_later : (worst : Option ℕ) (done : List Rank) (r : Rank) (rest : List Rank) → Ascends rank_cmp (done ++ r ∷ rest) → StopsAt worst r.bound → AllByRecursion (λ y. StopsAt worst y.bound) (r ∷ rest)
stops_later worst done r rest a s = (s, stops_above worst r.bound rest s (above_first r rest (ascends_later done (r ∷ rest) a).0))

-- the leaf of a rank
at_one : (leaves : List Leaf) (r : Rank) (rs : List Rank) (leaf : Leaf) → slice_get leaves r.place ≡ Some leaf → leaves_at leaves (r ∷ rs) ≡ leaf ∷ leaves_at leaves rs
at_one leaves r rs leaf at = rw at refl

at_more : (leaves : List Leaf) (xs ys : List Rank) → leaves_at leaves (xs ++ ys) ≡ leaves_at leaves xs ++ leaves_at leaves ys
at_more leaves xs ys = filter_map-append (λ (r : Rank). slice_get leaves r.place) xs ys

-- a leaf has to be opened for a k-th distance that its bound isn't above
bound_reached : (dq : List ℕ) (leaf : Leaf) (bound : ℕ) → IsBound dq leaf (Some bound) → (worst : Option ℕ) → IfSome worst (λ w. bound ≤ w) → is_reached dq worst leaf ≡ true
bound_reached dq leaf bound b None h =
    let P : Option (ℕ × ℕ) → Type 0 = λ hull. hull_passes dq bound leaf.prefix hull ≡ true → is_some hull ≡ true in
    let go : (hull : Option (ℕ × ℕ)) → P hull = elim [ None ↦ λ e. absurd (false≢true e) | Some hull ↦ λ e. refl ] in
    go leaf.hull b.0
bound_reached dq leaf bound b (Some w) h = bound_passes dq leaf bound b w ∙ le-leb bound w h

-- and not for one that it is above
bound_unreached : (dq : List ℕ) (leaf : Leaf) (bound : ℕ) → IsBound dq leaf (Some bound) → (worst : Option ℕ) → StopsAt worst bound → is_reached dq worst leaf ≡ false
bound_unreached dq leaf bound b None h = absurd h
bound_unreached dq leaf bound b (Some w) h = (let no : nat_le bound w ≡ false = grind (arith, nat_tests) in bound_passes dq leaf bound b w ∙ no)

-- a leaf without a hull is opened for none
unreached : (dq : List ℕ) (worst : Option ℕ) (leaf : Leaf) → is_some leaf.hull ≡ false → is_reached dq worst leaf ≡ false
unreached dq None leaf h = h
unreached dq (Some w) leaf h =
    let P : Option (ℕ × ℕ) → Type 0 = λ hull. is_some hull ≡ false → hull_passes dq w leaf.prefix hull ≡ false in
    let go : (hull : Option (ℕ × ℕ)) → P hull = elim [ None ↦ λ e. refl | Some hull ↦ λ e. absurd (false≢true (sym e)) ] in
    go leaf.hull h

-- what fails a test weighs nothing
sum_kept : {X : Type 0} (t : X → Bool) (f : X → ℕ) → ((x : X) → t x ≡ false → f x ≡ 0) → (xs : List X) → sum_by f (filter t xs) ≡ sum_by f xs
sum_kept t f none [] = refl
sum_kept t f none (x ∷ xs) =
    let rest = sum_kept t f none xs in
    let P : Bool → Type 0 = λ b. t x ≡ b → sum_by f (cond b (x ∷ filter t xs) (filter t xs)) ≡ f x + sum_by f xs in
    (elim (t x) as P [
      | true ↦ λ e. sum_by-cons f x (filter t xs) ∙ ap (λ n. f x + n) rest
      | false ↦ λ e. omega (arith, rest, none x e)
    ]) refl ∙ sym (sum_by-cons f x xs)

-- no row of the leaf is nearer than its bound
abbrev pub NoNearer : List ℕ → (Leaf → List Row) → Leaf → Type 0
NoNearer dq rows_of leaf = (bound : ℕ) → IsBound dq leaf (Some bound) → AllByRecursion (λ row. bound ≤ row.distance) (rows_of leaf)

rows_more : (leaves : List Leaf) (rows_of : Leaf → List Row) (done : List Rank) (r : Rank) (leaf : Leaf) → slice_get leaves r.place ≡ Some leaf
    → rows_at leaves rows_of (done ++ r ∷ []) ≡ rows_at leaves rows_of done ++ rows_of leaf
rows_more leaves rows_of done r leaf at =
    ap (flat_map rows_of) (at_more leaves done (r ∷ []) ∙ ap (λ ls. leaves_at leaves done ++ ls) (at_one leaves r [] leaf at))
    ∙ flat_map-append rows_of (leaves_at leaves done) (leaf ∷ []) ∙ ap (λ xs. rows_at leaves rows_of done ++ xs) (append-nil (rows_of leaf))

nearer_more : (bound : ℕ) (xs ys : List Row) → nearer_count bound (xs ++ ys) ≡ nearer_count bound xs + nearer_count bound ys
nearer_more bound xs ys = sum_by-append (λ (row : Row). cond (nat_lt row.distance bound) 1 0) xs ys

nearer_none : (bound high : ℕ) (rows : List Row) → bound ≤ high → AllByRecursion (λ row. high ≤ row.distance) rows → nearer_count bound rows ≡ 0
nearer_none bound high [] le h = refl
nearer_none bound high (row ∷ rows) le h =
    let near = h.0 in
    let no : nat_lt row.distance bound ≡ false = le-ltb row.distance bound (omega arith) in
    sum_by-cons (λ (x : Row). cond (nat_lt x.distance bound) 1 0) row rows ∙ ap (λ b. cond b 1 0 + nearer_count bound rows) no ∙ zero-add (nearer_count bound rows) ∙ nearer_none bound high rows le h.1

few_more : (k high : ℕ) (before more : List Row) (done : List Rank) → AllByRecursion (λ row. high ≤ row.distance) more → AllByRecursion (λ r. r.bound ≤ high) done
    → AllByRecursion (λ r. nearer_count r.bound before < k) done → AllByRecursion (λ r. nearer_count r.bound (before ++ more) < k) done
few_more k high before more [] far low h = tt
few_more k high before more (r ∷ done) far low h =
    let few = h.0 in
    (omega (arith, nearer_more r.bound before more, nearer_none r.bound high more low.0 far, few), few_more k high before more done far low.1 h.1)

-- one leaf more was opened, of no lesser bound, and not one where the walk stops
pub walked_more : (dq : List ℕ) (k : ℕ) (leaves : List Leaf) (rows_of : Leaf → List Row) (done : List Rank) (rows new : List Row) (r : Rank) (is : IsRank dq leaves r) → 1 ≤ k
    → NoNearer dq rows_of is.leaf → AllByRecursion (λ x. x.bound ≤ r.bound) done → IfSome (kth_distance k rows) (λ w. r.bound ≤ w)
    → KeepsFirst k leaves rows_of done rows → new ≡ first_rows k (rows_at leaves rows_of done ++ rows_of is.leaf) → KeepsFirst k leaves rows_of (done ++ r ∷ []) new
walked_more dq k leaves rows_of done rows new r is one apart low next before new_is =
    let all = rows_at leaves rows_of done in
    let more = rows_more leaves rows_of done r is.leaf is.stands in
    let far = apart r.bound is.bound_is in
    let here = few_nearer k rows all r.bound one before.rows_are next in
    let last : nearer_count r.bound (all ++ rows_of is.leaf) < k = omega (arith, nearer_more r.bound all (rows_of is.leaf), nearer_none r.bound r.bound (rows_of is.leaf) (omega arith) far, here) in
    record {
      rows_are = new_is ∙ ap (first_rows k) (sym more);
      few = subst (λ (xs : List Row). AllByRecursion (λ (x : Rank). nearer_count x.bound xs < k) (done ++ r ∷ [])) (sym more)
          (all_joined (λ (x : Rank). nearer_count x.bound (all ++ rows_of is.leaf) < k) done (r ∷ []) (few_more k r.bound all (rows_of is.leaf) done far low before.few) (last, tt));
    }

no_nearer_than : (worst : Option ℕ) (bound : ℕ) (rows : List Row) → StopsAt worst bound → AllByRecursion (λ row. bound ≤ row.distance) rows → AllByRecursion (λ row. StopsAt worst row.distance) rows
no_nearer_than worst bound [] stop h = tt
no_nearer_than worst bound (row ∷ rows) stop h = (stops_up worst bound row.distance h.0 stop, no_nearer_than worst bound rows stop h.1)

-- the rows of leaves where the walk stops are farther than the last row
far_rows : (dq : List ℕ) (leaves : List Leaf) (rows_of : Leaf → List Row) (worst : Option ℕ) (rest : List Rank) → AllByRecursion (NoNearer dq rows_of) leaves → AllByRecursion (IsRank dq leaves) rest
    → AllByRecursion (λ r. StopsAt worst r.bound) rest → AllByRecursion (λ row. StopsAt worst row.distance) (rows_at leaves rows_of rest)
far_rows dq leaves rows_of worst [] apart are stops = tt
far_rows dq leaves rows_of worst (r ∷ rest) apart are stops =
    let is = are.0 in
    let P : Row → Type 0 = λ row. StopsAt worst row.distance in
    let near = all_get (NoNearer dq rows_of) leaves r.place is.leaf apart is.stands r.bound is.bound_is in
    let one : rows_at leaves rows_of (r ∷ rest) ≡ rows_of is.leaf ++ rows_at leaves rows_of rest = ap (flat_map rows_of) (at_one leaves r rest is.leaf is.stands) in
    subst (AllByRecursion P) (sym one)
    (all_joined P (rows_of is.leaf) (rows_at leaves rows_of rest) (no_nearer_than worst r.bound (rows_of is.leaf) stops.0 near) (far_rows dq leaves rows_of worst rest apart are.1 stops.1))

-- rows that are farther than the last of k change nothing
pub far_out : (k : ℕ) (rows before far : List Row) → rows ≡ first_rows k before → AllByRecursion (λ row. StopsAt (kth_distance k rows) row.distance) far → rows ≡ first_rows k (before ++ far)
far_out k rows before [] e h = e ∙ ap (first_rows k) (sym (append-nil before))
far_out k rows before (row ∷ far) e h =
    let P : Option ℕ → Type 0 = λ o. kth_distance k rows ≡ o → AllByRecursion (λ (x : Row). StopsAt o x.distance) (row ∷ far) → rows ≡ first_rows k (before ++ row ∷ far) in
    let go : (o : Option ℕ) → P o = elim [ None ↦ λ t s. absurd s.0 | Some w ↦ λ t s. first_without_all k rows before (row ∷ far) w e t s ] in
    go (kth_distance k rows) refl h

-- where the walk stops at each that is left, the rows are the first of all
rows_whole : (dq : List ℕ) (k : ℕ) (leaves : List Leaf) (rows_of : Leaf → List Row) (done rest : List Rank) (rows : List Row) → AllByRecursion (NoNearer dq rows_of) leaves → AllByRecursion (IsRank dq leaves) rest
    → AllByRecursion (λ r. StopsAt (kth_distance k rows) r.bound) rest → KeepsFirst k leaves rows_of done rows → rows ≡ first_rows k (rows_at leaves rows_of (done ++ rest))
rows_whole dq k leaves rows_of done rest rows apart are stops walked =
    far_out k rows (rows_at leaves rows_of done) (rows_at leaves rows_of rest) walked.rows_are (far_rows dq leaves rows_of (kth_distance k rows) rest apart are stops)
    ∙ ap (first_rows k) (sym (ap (flat_map rows_of) (at_more leaves done rest) ∙ flat_map-append rows_of (leaves_at leaves done) (leaves_at leaves rest)))

-- each that was opened had to be
sum_done : (dq : List ℕ) (worst : Option ℕ) (leaves : List Leaf) (f : Leaf → ℕ) (done : List Rank) → AllByRecursion (IsRank dq leaves) done → AllByRecursion (λ r. IfSome worst (λ w. r.bound ≤ w)) done
    → sum_by (λ l. cond (is_reached dq worst l) (f l) 0) (leaves_at leaves done) ≡ sum_by f (leaves_at leaves done)
sum_done dq worst leaves f [] are low = refl
sum_done dq worst leaves f (r ∷ done) are low =
    let is = are.0 in
    let h : Leaf → ℕ = λ l. cond (is_reached dq worst l) (f l) 0 in
    let one = at_one leaves r done is.leaf is.stands in
    let yes : h is.leaf ≡ f is.leaf = ap (λ b. cond b (f is.leaf) 0) (bound_reached dq is.leaf r.bound is.bound_is worst low.0) in
    let rest = sum_done dq worst leaves f done are.1 low.1 in
    omega (arith, ap (sum_by h) one, ap (sum_by f) one, sum_by-cons h is.leaf (leaves_at leaves done), sum_by-cons f is.leaf (leaves_at leaves done), yes, rest)

-- and none that is left
sum_rest : (dq : List ℕ) (worst : Option ℕ) (leaves : List Leaf) (f : Leaf → ℕ) (rest : List Rank) → AllByRecursion (IsRank dq leaves) rest → AllByRecursion (λ r. StopsAt worst r.bound) rest
    → sum_by (λ l. cond (is_reached dq worst l) (f l) 0) (leaves_at leaves rest) ≡ 0
sum_rest dq worst leaves f [] are stops = refl
sum_rest dq worst leaves f (r ∷ rest) are stops =
    let is = are.0 in
    let h : Leaf → ℕ = λ l. cond (is_reached dq worst l) (f l) 0 in
    let one = at_one leaves r rest is.leaf is.stands in
    let no : h is.leaf ≡ 0 = ap (λ b. cond b (f is.leaf) 0) (bound_unreached dq is.leaf r.bound is.bound_is worst stops.0) in
    omega (arith, ap (sum_by h) one, sum_by-cons h is.leaf (leaves_at leaves rest), no, sum_rest dq worst leaves f rest are.1 stops.1)

all_earlier : {X : Type 0} (P : X → Type 0) (xs ys : List X) → AllByRecursion P (xs ++ ys) → AllByRecursion P xs
all_earlier P [] ys h = tt
all_earlier P (x ∷ xs) ys h = (h.0, all_earlier P xs ys h.1)

flat_sum : {X Y : Type 0} (f : Y → ℕ) (g : X → List Y) (xs : List X) → sum_by f (flat_map g xs) ≡ sum_by (λ x. sum_by f (g x)) xs
flat_sum f g [] = refl
flat_sum {X = X} f g (x ∷ xs) = sum_by-append f (g x) (flat_map g xs) ∙ ap (λ n. sum_by f (g x) + n) (flat_sum f g xs) ∙ sym (sum_by-cons (λ (y : X). sum_by f (g y)) x xs)

pub same_flat : {X Y : Type 0} (g : X → List Y) (xs ys : List X) → SameElements xs ys → SameElements (flat_map g xs) (flat_map g ys)
same_flat {X = X} g xs ys same = record { sums = λ f. flat_sum f g xs ∙ same.sums (λ (x : X). sum_by f (g x)) ∙ sym (flat_sum f g ys) }

low_bounds : (k : ℕ) (rows before : List Row) (done : List Rank) → rows ≡ first_rows k before → AllByRecursion (λ r. nearer_count r.bound before < k) done → AllByRecursion (λ r. IfSome (kth_distance k rows) (λ w. r.bound ≤ w)) done
low_bounds k rows before [] e few = tt
low_bounds k rows before (r ∷ done) e few = (none_nearer_last k rows before r.bound e few.0, low_bounds k rows before done e few.1)

-- what a walk that has ended leaves
pub record Ended (dq : List ℕ) (k : ℕ) (leaves : List Leaf) (rows_of : Leaf → List Row) (ranks done : List Rank) (rows : List Row) : Type 0 where
  pub rows_are : rows ≡ first_rows k (rows_at leaves rows_of ranks)
  pub sums : (f : Leaf → ℕ) → sum_by (λ l. cond (is_reached dq (kth_distance k rows) l) (f l) 0) leaves ≡ sum_by f (leaves_at leaves done)

pub walk_ends : (dq : List ℕ) (k : ℕ) (leaves : List Leaf) (rows_of : Leaf → List Row) (ranks done rest : List Rank) (rows : List Row) → IsRanked dq leaves ranks → ranks ≡ done ++ rest
    → AllByRecursion (NoNearer dq rows_of) leaves → AllByRecursion (λ r. StopsAt (kth_distance k rows) r.bound) rest → KeepsFirst k leaves rows_of done rows → Ended dq k leaves rows_of ranks done rows
walk_ends dq k leaves rows_of ranks done rest rows ranked parts apart stops walked =
    let worst = kth_distance k rows in
    let are = subst (AllByRecursion (IsRank dq leaves)) parts ranked.are in
    record {
      rows_are = rows_whole dq k leaves rows_of done rest rows apart (all_later (IsRank dq leaves) done rest are) stops walked ∙ ap (λ (rs : List Rank). first_rows k (rows_at leaves rows_of rs)) (sym parts);
      sums = λ f.
          let h : Leaf → ℕ = λ l. cond (is_reached dq worst l) (f l) 0 in
          let none : (l : Leaf) → is_some l.hull ≡ false → h l ≡ 0 = λ l e. ap (λ b. cond b (f l) 0) (unreached dq worst l e) in
          let whole = sum_kept (λ (l : Leaf). is_some l.hull) h none leaves in
          let all = ranked.all.sums h in
          let split = ap (sum_by h) (ap (leaves_at leaves) parts ∙ at_more leaves done rest) in
          let both = sum_by-append h (leaves_at leaves done) (leaves_at leaves rest) in
          let first = sum_done dq worst leaves f done (all_earlier (IsRank dq leaves) done rest are) (low_bounds k rows (rows_at leaves rows_of done) done walked.rows_are walked.few) in
          let last = sum_rest dq worst leaves f rest (all_later (IsRank dq leaves) done rest are) stops in
          omega (arith, whole, all, split, both, first, last);
    }

ones : {X : Type 0} (xs : List X) → sum_by (λ (x : X). 1) xs ≡ length xs
ones [] = refl
ones {X = X} (x ∷ xs) = omega (arith, sum_by-cons (λ (y : X). 1) x xs, ones xs)

kept_few : {X : Type 0} (t : X → Bool) (xs : List X) → sum_by (λ (x : X). 1) (filter t xs) ≤ length xs
kept_few t [] = omega arith
kept_few {X = X} t (x ∷ xs) =
    let rest = kept_few t xs in
    let P : Bool → Type 0 = λ b. sum_by (λ (y : X). 1) (cond b (x ∷ filter t xs) (filter t xs)) ≤ suc (length xs) in
    elim (t x) as P [ true ↦ omega (arith, sum_by-cons (λ (y : X). 1) x (filter t xs), rest) | false ↦ omega (arith, rest) ]

-- no more were opened than there are leaves
pub few_done : (dq : List ℕ) (leaves : List Leaf) (ranks done rest : List Rank) → IsRanked dq leaves ranks → ranks ≡ done ++ rest → sum_by (λ (l : Leaf). 1) (leaves_at leaves done) ≤ length leaves
few_done dq leaves ranks done rest ranked parts =
    let one : Leaf → ℕ = λ l. 1 in
    omega (
      arith,
      ranked.all.sums one,
      kept_few (λ (l : Leaf). is_some l.hull) leaves,
      ap (sum_by one) (ap (leaves_at leaves) parts ∙ at_more leaves done rest),
      sum_by-append one (leaves_at leaves done) (leaves_at leaves rest),
    )

next_rank : (done rest : List Rank) (d : Rank) → length done < length (done ++ rest) → (more : List Rank) × (rest ≡ slice_index_or (done ++ rest) (length done) d ∷ more)
next_rank [] [] d h = absurd (omega arith)
next_rank [] (r ∷ rest) d h = (rest, refl)
next_rank (x ∷ done) rest d h = next_rank done rest d (omega arith)

-- the rank that comes next
pub next_at : (ranks done rest : List Rank) (i : ℕ) (d : Rank) → ranks ≡ done ++ rest → length done ≡ i → i < length ranks → (more : List Rank) × (rest ≡ slice_index_or ranks i d ∷ more)
next_at ranks done rest i d parts place within =
    let found = next_rank done rest d (omega (arith, ap length parts, place, within)) in
    (found.0, found.1 ∙ ap (λ (n : ℕ). slice_index_or (done ++ rest) n d ∷ found.0) place ∙ ap (λ (xs : List Rank). slice_index_or xs i d ∷ found.0) (sym parts))

-- none comes after all
pub all_walked : (worst : Option ℕ) (done rest : List Rank) → length (done ++ rest) ≤ length done → AllByRecursion (λ r. StopsAt worst r.bound) rest
all_walked worst done [] h = tt
all_walked worst done (r ∷ rest) h = absurd (omega (arith, length-append done (r ∷ rest)))

-- a sum over the leaves with the next one
pub sum_next : (leaves : List Leaf) (f : Leaf → ℕ) (done : List Rank) (r : Rank) (leaf : Leaf) → slice_get leaves r.place ≡ Some leaf → sum_by f (leaves_at leaves (done ++ r ∷ [])) ≡ sum_by f (leaves_at leaves done) + f leaf
sum_next leaves f done r leaf at =
    ap (sum_by f) (at_more leaves done (r ∷ []) ∙ ap (λ ls. leaves_at leaves done ++ ls) (at_one leaves r [] leaf at)) ∙ sum_by_push f (leaves_at leaves done) leaf
