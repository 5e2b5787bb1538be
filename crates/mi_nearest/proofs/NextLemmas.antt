-- Where a query goes on at a leaf, or has read all; and what is kept while its pin stays.
use Rattle.std.proofs.Common.{◌≡◌, ℕ, suc, zero, ◌+◌, ◌-◌, ◌*◌, ◌≤◌, List, [], ◌∷◌, ◌++◌, length, take, true, nat_eq, Option, Some, None, IsTrue, refl, sym, ap, ◌∙◌, subst, arith}
use Rattle.std.specs.Prelude.{slice_get, drop}
use Rattle.std.specs.List.{AllByRecursion}
use Rattle.std.proofs.lemmas.Bool.{and_parts, eqb-true}
use Rattle.std.proofs.lemmas.List.{take-append-drop}
use Rattle.mi_base.specs.declared.records.Position.{Position}
use Rattle.mi_base.specs.Configuration.{metric_space}
use Rattle.mi_base.specs.History.{events_at}
use Rattle.mi_base.specs.Permutations.{distances}
use Rattle.mi_base.specs.Prefixes.{all_below}
use Rattle.mi_blink.specs.declared.walk.Walk.{Walk}
use Rattle.mi_blink.specs.Descents.{IsRoot, longest}
use Rattle.mi_blink.specs.Walking.{so_far}
use Rattle.mi_blink.proofs.DescentLemmas.{descent_longest}
use Rattle.mi_blink.proofs.WalkLemmas.{none_at_root}
use Rattle.mi_key.specs.declared.keys.KeyParts.{KeyParts}
use Rattle.mi_key.specs.Clusters.{cluster_of}
use Rattle.mi_key.specs.Entries.{Offering}
use Rattle.mi_key.specs.Keys.{parts_of}
use Rattle.mi_nearest.specs.declared.nearest.Gathering.{Gathering}
use Rattle.mi_nearest.specs.declared.nearest.NearestOp.{NearestOp}
use Rattle.mi_nearest.specs.declared.nearest.NearestState.{NearestState}
use Rattle.mi_nearest.specs.declared.nearest.NearestState.TheVariants.{Begin, Walking, Ending, Refusing, Over}
use Rattle.mi_nearest.specs.declared.order.Rank.{Rank}
use Rattle.mi_nearest.specs.Nearing.{NearestWorkState, TakesNearest, worst_of}
use Rattle.mi_nearest.specs.Order.{IsRanked}
use Rattle.mi_nearest.specs.Querying.{HasOpened, HasRead, IsOpened, IsReading, OpensNext, StateIsReady, dists_of, left_at, most_at, objects_at, since_at}
use Rattle.mi_nearest.specs.Taking.{takes_none}
use Rattle.mi_nearest.proofs.WalkLemmas.{few_done}
use Rattle.mi_rules.specs.Spans.{is_in_hull, is_in_span, is_near}
use Rattle.mi_tree.specs.declared.outcomes.Leaf.{Leaf}
use Rattle.mi_tree.specs.Catalog.{CatalogState}
use Rattle.mi_tree.proofs.FitLemmas.{Fits}
use Rattle.mi_tree.proofs.LimitLemmas.{cells_fit}
use Rattle.mi_tree.proofs.ListLemmas.{all_weaker}
use Rattle.mi_world.specs.Pages.{IsInLeaf, pinned}
use Rattle.mi_world.specs.Queries.{Pinned, pinned_cells}
use Rattle.mi_world.specs.View.{View}
use Rattle.mi_world.proofs.QueryLemmas.{leaf_there, long}

pub times : (a b k : ℕ) → a ≡ b + 1 → a * k ≡ b * k + k
times a b k h = rw h (omega arith)

-- while the pin stays
pub opened_keeps : (op : NearestOp) (opened : ℕ) (ranks : List Rank) (work : NearestWorkState) (v w : View) → w.settings ≡ v.settings → w.pin ≡ v.pin
    → HasOpened op opened ranks work v → HasOpened op opened ranks work w
opened_keeps op opened ranks work v w settings pin h = record {
  ranked = rw (settings, pin) h.ranked;
  within = h.within;
  counted = rw (settings, pin) h.counted;
  dists_are = rw settings h.dists_are;
  count_is = h.count_is;
  keeps = rw (settings, pin) h.keeps;
}

-- what the pinned catalog and the work's own distances say of the leaf that is opened next
pub opens_here : (op : NearestOp) (w : View) (dq : List ℕ) (k : CatalogState) (ranks : List Rank) (work : NearestWorkState) (opened root : ℕ) (at : Position) (s : NearestState) → dq ≡ dists_of op w
    → k ≡ record { pivots = length w.settings.pivots; levels = w.settings.levels; leaves = pinned_cells w } → OpensNext dq k.levels k.leaves ranks work opened root at s
    → OpensNext (dists_of op w) w.settings.levels (pinned_cells w) ranks work opened root at s
opens_here op w dq k ranks work opened root at s dists catalog h = rw (dists, catalog) at h

pub fit_here : (op : NearestOp) (at : Position) (w : View) (dq : List ℕ) (k : CatalogState) → Pinned at w → dq ≡ dists_of op w
    → k ≡ record { pivots = length w.settings.pivots; levels = w.settings.levels; leaves = pinned_cells w } → AllByRecursion (λ (l : Leaf). Fits (length dq) k.levels l.prefix) k.leaves
fit_here op at w dq k holds dists catalog =
    let fit = subst (λ (n : ℕ). AllByRecursion (λ (l : Leaf). Fits n w.settings.levels l.prefix) (pinned_cells w)) (sym (long op.query w)) (cells_fit w.settings holds.limits (pinned w) holds.legal) in
    rw (dists, catalog) fit

pub below_here : (op : NearestOp) (at : Position) (w : View) (dq : List ℕ) (k : CatalogState) → Pinned at w → dq ≡ dists_of op w
    → k ≡ record { pivots = length w.settings.pivots; levels = w.settings.levels; leaves = pinned_cells w } → AllByRecursion (λ (leaf : Leaf). IsTrue (all_below (length dq) leaf.prefix)) k.leaves
below_here op at w dq k holds dists catalog =
    let n = length dq in
    all_weaker (λ (l : Leaf). Fits n k.levels l.prefix) (λ (l : Leaf). IsTrue (all_below n l.prefix)) (λ l f. f.1) k.leaves (fit_here op at w dq k holds dists catalog)

pub ranked_where : (op : NearestOp) (w : View) (dq : List ℕ) (k : CatalogState) (ranks : List Rank) → dq ≡ dists_of op w
    → k ≡ record { pivots = length w.settings.pivots; levels = w.settings.levels; leaves = pinned_cells w } → IsRanked (dists_of op w) (pinned_cells w) ranks → IsRanked dq k.leaves ranks
ranked_where op w dq k ranks dists catalog h = rw (dists, catalog) h

pub ranked_there : (op : NearestOp) (w : View) (dq : List ℕ) (k : CatalogState) (ranks : List Rank) → dq ≡ dists_of op w
    → k ≡ record { pivots = length w.settings.pivots; levels = w.settings.levels; leaves = pinned_cells w } → IsRanked dq k.leaves ranks → IsRanked (dists_of op w) (pinned_cells w) ranks
ranked_there op w dq k ranks dists catalog h = rw (dists, catalog) at h

-- a place of a list parts it
pub parted : {X : Type 0} (xs : List X) (i : ℕ) (x : X) → slice_get xs i ≡ Some x → xs ≡ take i xs ++ x ∷ drop (suc i) xs
parted [] i x at = cc
parted (y ∷ xs) zero x at =
    let same : y ≡ x = cc in
    ap (λ z. z ∷ xs) same
parted (y ∷ xs) (suc i) x at = ap (λ ys. y ∷ ys) (parted xs i x at)

-- what is near lies in the hull
near_in_hull : (dq : List ℕ) (worst : Option ℕ) (levels : ℕ) (prefix : List ℕ) (hull : ℕ × ℕ) (key : KeyParts) → is_near dq worst levels prefix hull key ≡ true → is_in_hull (length dq) levels prefix hull key ≡ true
near_in_hull dq None levels prefix hull key h = h
near_in_hull dq (Some worst) levels prefix hull key h = (and_parts (is_in_hull (length dq) levels prefix hull key) (is_in_span dq worst levels prefix key) h).0

-- no more leaves were opened than there are
pub few_opened : (op : NearestOp) (opened : ℕ) (ranks : List Rank) (work : NearestWorkState) (w : View) → HasOpened op opened ranks work w → opened ≤ length (pinned_cells w)
few_opened op opened ranks work w h =
    omega (arith, h.counted, few_done (dists_of op w) (pinned_cells w) ranks (take opened ranks) (drop opened ranks) h.ranked (sym (take-append-drop opened ranks)))

module _ (op : NearestOp) (opened root : ℕ) (at : Position) (w : View) (holds : Pinned at w) (is_root : IsRoot w root)
    (kept : Gathering) (found_is : op.found ≡ Some kept) (done : HasOpened op opened kept.ranks.items kept.work w) where
  in_leaf : (rank : Rank) (walk : Walk) → IsOpened (dists_of op w) w.settings.levels (pinned_cells w) rank.place (worst_of kept.work) walk.range → IsInLeaf w walk.range
  in_leaf rank walk o = record {
    prefix = o.leaf.prefix;
    is_leaf = leaf_there (pinned_cells w) rank.place o.leaf o.stands;
    inside = λ key h.
        let dq = dists_of op w in
        let near = near_in_hull dq (worst_of kept.work) w.settings.levels o.leaf.prefix o.hull (parts_of key) (sym (o.has key) ∙ h) in
        eqb-true (parts_of key).cluster (cluster_of (length dq) w.settings.levels o.leaf.prefix)
        (and_parts (nat_eq (parts_of key).cluster (cluster_of (length dq) w.settings.levels o.leaf.prefix)) _ near).0
        ∙ ap (λ (k : ℕ). cluster_of k w.settings.levels o.leaf.prefix) (long op.query w);
  }

  abbrev Opens : NearestState → Type 0
  Opens = OpensNext (dists_of op w) w.settings.levels (pinned_cells w) kept.ranks.items kept.work opened root at

  none_yet : (walk : Walk) → walk.descent.page ≡ root → so_far walk w ≡ []
  none_yet walk page = none_at_root walk w (ap w.low page ∙ is_root.low_is)

  reads : (walk : Walk) → Opens (Walking opened root at walk) → IsReading op opened root at walk w
  reads walk h =
      let page : walk.descent.page ≡ root = h.4 in
      let m = metric_space w.settings in
      record {
        holds = holds;
        root_is = is_root;
        walk_ready = record {
          pin = holds.pin;
          named = rw page is_root.named;
          small = rw page is_root.small;
          low = λ _. rw (page, is_root.low_is) (omega arith);
          inside = in_leaf h.0 walk h.3;
        };
        kept = kept;
        found_is = found_is;
        before = kept.work;
        done = done;
        rank = h.0;
        rank_is = h.1;
        goes_on = h.2;
        opens = h.3;
        takes = subst (λ (os : List Offering). TakesNearest m op.query kept.work 0 os kept.work (length os)) (sym (none_yet walk page)) (takes_none m op.query kept.work 0);
      }

  pub goes : (s : NearestState) → Opens s → StateIsReady s op w
  goes Begin h = absurd h
  goes (Walking o r a walk) h = rw (h.5, h.6, h.7) (reads walk (h.0, h.1, h.2, h.3, h.4, refl, refl, refl))
  goes (Ending c a) h = rw (h.1, h.2) (record { holds = holds; kept = kept; found_is = found_is; done = done; stops = h.0 })
  goes Refusing h = absurd h
  goes Over h = absurd h

  pub goes_since : (s : NearestState) → Opens s → since_at s w ≡ events_at at
  goes_since Begin h = absurd h
  goes_since (Walking o r a walk) h = ap events_at h.7
  goes_since (Ending c a) h = ap events_at h.2
  goes_since Refusing h = absurd h
  goes_since Over h = absurd h

  pub goes_left : (s : NearestState) → Opens s → left_at s w ≤ (length (pinned_cells w) - opened) * (longest + 1) + longest + 2
  goes_left Begin h = absurd h
  goes_left (Walking o r a walk) h = rw h.5 (omega (arith, descent_longest w walk.descent.page))
  goes_left (Ending c a) h = omega arith
  goes_left Refusing h = absurd h
  goes_left Over h = absurd h

  pub goes_most : (s : NearestState) → Opens s → most_at s kept.ranks.items w ≡ length w.settings.pivots + objects_at w (take opened kept.ranks.items)
  goes_most Begin h = absurd h
  goes_most (Walking o r a walk) h = rw h.5 (omega (arith, ap length (none_yet walk h.4)))
  goes_most (Ending c a) h = rw h.1 refl
  goes_most Refusing h = absurd h
  goes_most Over h = absurd h

  pub goes_least : (s : NearestState) → Opens s → Rattle.mi_nearest.specs.Querying.least_at s w ≡ length w.settings.pivots
  goes_least Begin h = absurd h
  goes_least (Walking o r a walk) h = refl
  goes_least (Ending c a) h = refl
  goes_least Refusing h = absurd h
  goes_least Over h = absurd h
