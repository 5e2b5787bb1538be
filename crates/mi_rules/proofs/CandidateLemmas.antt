-- The objects that a query is compared with are the live ones that the filter lets through.
use Rattle.std.proofs.Common.{◌≡◌, ℕ, suc, zero, ℤ, ◌≤◌, ◌<◌, List, [], ◌∷◌, length, get_or, Bool, true, false, ◌&&◌, ◌||◌, cond, refl, sym, ap, ◌∙◌, arith}
use Rattle.std.specs.List.{filter, list_all, list_any}
use Rattle.std.proofs.lemmas.Bool.{and_parts}
use Rattle.std.proofs.lemmas.List.{length-map}
use Rattle.mi_base.specs.declared.records.LogEvent.{LogEvent}
use Rattle.mi_base.specs.Configuration.{IsDepth}
use Rattle.mi_base.specs.History.{live, updates_of}
use Rattle.mi_base.specs.Permutations.{begins, distances, permutation_of, key_distance}
use Rattle.mi_base.specs.Space.{Space}
use Rattle.mi_tree.specs.Cells.{IsGrid, AllMaySplit, depth, grid_of, leaves, leaf_of}
use Rattle.mi_tree.specs.Counting.{belongs, population, in_hull, leaf_with}
use Rattle.mi_rules.specs.Passing.{candidates, is_opened, lets_through, passes}
use Rattle.mi_tree.proofs.CountLemmas.{any_map}
use Rattle.mi_tree.proofs.CoverLemmas.{live_covered}
use Rattle.mi_tree.proofs.LeafLemmas.{begins_take, one_leaf}
use Rattle.mi_tree.proofs.GridLemmas.{space_is_grid}
use Rattle.mi_rules.proofs.RuleLemmas.{filter_passes}

-- a test that another one implies
filter_implied : {X : Type 0} (a b : X → Bool) (xs : List X) → ((k : ℕ) (d : X) → k < length xs → b (get_or xs k d) ≡ true → a (get_or xs k d) ≡ true) → filter (λ x. a x && b x) xs ≡ filter b xs
filter_implied a b [] imp = refl
filter_implied a b (x ∷ xs) imp =
    let rest = filter_implied a b xs (λ k d h t. imp (suc k) d (omega arith) t) in
    let P : Bool → Type 0 = λ t. b x ≡ t → cond (a x && t) (x ∷ filter (λ y. a y && b y) xs) (filter (λ y. a y && b y) xs) ≡ cond t (x ∷ filter b xs) (filter b xs) in
    let out : (t : Bool) → (t && false) ≡ false = elim [ true ↦ refl | false ↦ refl ] in
    let go : (t : Bool) → P t = elim [
      | true ↦ λ e. ap (λ s. cond (s && true) (x ∷ filter (λ y. a y && b y) xs) (filter (λ y. a y && b y) xs)) (imp 0 x (omega arith) e) ∙ ap (λ ys. x ∷ ys) rest
      | false ↦ λ e. ap (λ s. cond s (x ∷ filter (λ y. a y && b y) xs) (filter (λ y. a y && b y) xs)) (out (a x)) ∙ rest
    ] in
    go (b x) refl

-- what all that pass a test have, one that passes has
kept_at : {X : Type 0} (t b : X → Bool) (xs : List X) (k : ℕ) (d : X) → list_all t (filter b xs) ≡ true → k < length xs → b (get_or xs k d) ≡ true → t (get_or xs k d) ≡ true
kept_at t b [] k d all h p = absurd (omega arith)
kept_at t b (x ∷ xs) zero d all h p = (and_parts (t x) (list_all t (filter b xs)) (ap (λ s. list_all t (cond s (x ∷ filter b xs) (filter b xs))) (sym p) ∙ all)).0
kept_at t b (x ∷ xs) (suc k) d all h p =
    let P : Bool → Type 0 = λ s. list_all t (cond s (x ∷ filter b xs) (filter b xs)) ≡ true → list_all t (filter b xs) ≡ true in
    let go : (s : Bool) → P s = elim [ true ↦ λ e. (and_parts (t x) (list_all t (filter b xs)) e).1 | false ↦ λ e. e ] in
    kept_at t b xs k d (go (b x) all) (omega arith) p

-- the one that passes a test passes another
any_of_one : {X : Type 0} (b u : X → Bool) (x : X) (xs : List X) → filter b xs ≡ x ∷ [] → u x ≡ true → list_any (λ y. b y && u y) xs ≡ true
any_of_one b u x [] e h = cc
any_of_one b u x (y ∷ ys) e h =
    let P : Bool → Type 0 = λ s. cond s (y ∷ filter b ys) (filter b ys) ≡ x ∷ [] → ((s && u y) || list_any (λ z. b z && u z) ys) ≡ true in
    let go : (s : Bool) → P s = elim [ true ↦ λ k. (let same : y ≡ x = cc in ap (λ z. u z || list_any (λ w. b w && u w) ys) same ∙ ap (λ s. s || list_any (λ w. b w && u w) ys) h) | false ↦ λ k. any_of_one b u x ys k h ] in
    go (b y) e

pub candidates_are : (space : Space) (levels : ℕ) → length space.pivots ≤ 32 → IsDepth (length space.pivots) levels → (log : List LogEvent) → AllMaySplit (grid_of space levels) log → (query : List ℤ) (r : ℕ)
    → candidates space levels log query r ≡ filter (λ o. lets_through r (distances space query) (distances space o.vector)) (live (updates_of log))
candidates_are space levels few deep log may query r =
    let g = grid_of space levels in
    let ok : IsGrid g = space_is_grid space levels few deep in
    let dq = distances space query in
    let objects = live (updates_of log) in
    filter_implied (is_opened space levels log query r) (λ o. lets_through r dq (distances space o.vector)) objects
    (λ k d within through.
    let o = get_or objects k d in
    let dists = distances space o.vector in
    let p = leaf_of g log (g.perm o.vector) in
    let leaf = leaf_with g (population g log) p in
    let begun : begins p (permutation_of dists) ≡ true = begins_take (depth g log (g.perm o.vector)) (g.perm o.vector) in
    let covered : in_hull (key_distance dists) leaf.hull ≡ true = kept_at (λ x. in_hull (g.distance x.vector) leaf.hull) (belongs g p) objects k d (live_covered g log p) within begun in
    let same : length dq ≡ length dists = length-map space.pivots (λ x. space.metric.d query x) ∙ sym (length-map space.pivots (λ x. space.metric.d o.vector x)) in
    any_map (λ l. belongs g l.prefix o && passes dq r l) (leaf_with g (population g log)) (leaves g log)
    ∙ any_of_one (λ q. begins q (g.perm o.vector)) (λ q. passes dq r (leaf_with g (population g log) q)) p (leaves g log)
    (one_leaf g (g.perm o.vector) (ok.perms o.vector).0 (ok.perms o.vector).1 ok log may) (filter_passes dq dists r leaf same through begun covered))
