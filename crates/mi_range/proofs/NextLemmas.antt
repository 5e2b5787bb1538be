-- Where a query goes on at a leaf, or has read all.
use Rattle.std.proofs.Common.{◌≡◌, ℕ, ◌+◌, ◌-◌, ◌*◌, ◌≤◌, List, [], ◌++◌, length, take, nat_eq, Some, refl, sym, ap, ◌∙◌, subst, arith, append-nil}
use Rattle.std.specs.Prelude.{count_by}
use Rattle.std.proofs.Math.Nat.{mul-le-mul_right}
use Rattle.std.proofs.lemmas.Bool.{and_parts, eqb-true}
use Rattle.std.proofs.lemmas.List.{take_all}
use Rattle.std.proofs.lemmas.Option.{slice_get_within}
use Rattle.mi_base.specs.declared.records.Position.{Position}
use Rattle.mi_base.specs.Configuration.{metric_space}
use Rattle.mi_base.specs.History.{events_at}
use Rattle.mi_blink.specs.declared.walk.Walk.{Walk}
use Rattle.mi_blink.specs.Descents.{IsRoot, longest}
use Rattle.mi_blink.specs.Walking.{so_far}
use Rattle.mi_blink.proofs.DescentLemmas.{descent_longest}
use Rattle.mi_blink.proofs.WalkLemmas.{none_at_root}
use Rattle.mi_key.specs.Clusters.{cluster_of}
use Rattle.mi_key.specs.Entries.{Offering}
use Rattle.mi_key.specs.Keys.{parts_of}
use Rattle.mi_range.specs.declared.range.RangeOp.{RangeOp}
use Rattle.mi_range.specs.declared.range.RangeState.{RangeState}
use Rattle.mi_range.specs.declared.range.RangeState.TheVariants.{Begin, Walking, Ending, Over}
use Rattle.mi_range.specs.Leaves.{AreOfPivots, IsOpened}
use Rattle.mi_range.specs.Querying.{Gathered, HasRead, IsReading, OpensFrom, OpensNext, StateIsReady, dists_of, left_at, offered_of, since_at}
use Rattle.mi_range.specs.Ranging.{RangeWorkState}
use Rattle.mi_range.proofs.PassedLemmas.{all_passed, passed}
use Rattle.mi_rules.specs.Passing.{passes}
use Rattle.mi_tree.specs.Catalog.{CatalogState}
use Rattle.mi_tree.proofs.LimitLemmas.{cells_fit}
use Rattle.mi_world.specs.LeafKeys.{shown}
use Rattle.mi_world.specs.Pages.{IsInLeaf, pinned}
use Rattle.mi_world.specs.Queries.{Pinned, pinned_cells}
use Rattle.mi_world.specs.View.{View}
use Rattle.mi_world.proofs.QueryLemmas.{leaf_there, long}

pub times : (a b k : ℕ) → a ≡ b + 1 → a * k ≡ b * k + k
times a b k h = rw h (omega arith)

-- the leaves are what the rules want of them
pub all_fit : (op : RangeOp) (at : Position) (w : View) → Pinned at w → AreOfPivots (length (dists_of op w)) w.settings.levels (pinned_cells w)
all_fit op at w holds = subst (λ (n : ℕ). AreOfPivots n w.settings.levels (pinned_cells w)) (sym (long op.query w)) (cells_fit w.settings holds.limits (pinned w) holds.legal)

-- what the pinned catalog and the work's own numbers say of the leaf that is opened next
pub opens_here : (op : RangeOp) (w : View) (dq : List ℕ) (radius : ℕ) (k : CatalogState) (from cells root : ℕ) (at : Position) (s : RangeState) → dq ≡ dists_of op w → radius ≡ op.radius
    → k ≡ record { pivots = length w.settings.pivots; levels = w.settings.levels; leaves = pinned_cells w } → OpensNext dq radius k.levels k.leaves from cells root at s → OpensFrom op w from cells root at s
opens_here op w dq radius k from cells root at s dists same catalog h = rw (dists, same, catalog) at h

pub fit_here : (op : RangeOp) (at : Position) (w : View) (dq : List ℕ) (k : CatalogState) → Pinned at w → dq ≡ dists_of op w
    → k ≡ record { pivots = length w.settings.pivots; levels = w.settings.levels; leaves = pinned_cells w } → AreOfPivots (length dq) k.levels k.leaves
fit_here op at w dq k holds dists catalog = rw (dists, catalog) (all_fit op at w holds)

module _ (op : RangeOp) (from cells root : ℕ) (at : Position) (w : View) (holds : Pinned at w) (is_root : IsRoot w root)
    (within : from ≤ length (pinned_cells w)) (counted : cells ≡ count_by (passes (dists_of op w) op.radius) (take from (pinned_cells w)))
    (kept : RangeWorkState) (work_is : op.work ≡ Some kept) (gathered : Gathered (metric_space w.settings) op.query (dists_of op w) op.radius (offered_of op w (take from (pinned_cells w))) kept) where
  in_leaf : (place : ℕ) (walk : Walk) → IsOpened (dists_of op w) op.radius w.settings.levels (pinned_cells w) place walk.range → IsInLeaf w walk.range
  in_leaf place walk o = record {
    prefix = o.leaf.prefix;
    is_leaf = leaf_there (pinned_cells w) place o.leaf o.stands;
    inside = λ key h.
        let spans = sym (o.has key) ∙ h in
        eqb-true (parts_of key).cluster (cluster_of (length (dists_of op w)) w.settings.levels o.leaf.prefix)
        (and_parts (nat_eq (parts_of key).cluster (cluster_of (length (dists_of op w)) w.settings.levels o.leaf.prefix)) _ spans).0
        ∙ ap (λ (k : ℕ). cluster_of k w.settings.levels o.leaf.prefix) (long op.query w);
  }

  reads : (place : ℕ) (walk : Walk) → OpensFrom op w from cells root at (Walking place cells root at walk) → IsReading op place cells root at walk w
  reads place walk h =
      let page : walk.descent.page ≡ root = h.2 in
      let ls = pinned_cells w in
      let inside : place ≤ length ls = omega (arith, slice_get_within ls place h.1.leaf h.1.stands) in
      let between = passed (dists_of op w) op.radius w.settings.levels ls from place inside h.0 in
      let none : so_far walk w ≡ [] = none_at_root walk w (ap w.low page ∙ is_root.low_is) in
      let front = offered_of op w (take place ls) in
      let same : offered_of op w (take from ls) ≡ front ++ so_far walk w =
      sym (between.offered (shown w.settings (pinned w))) ∙ sym (append-nil front) ∙ ap (λ (os : List Offering). front ++ os) (sym none) in
      record {
        holds = holds;
        root_is = is_root;
        walk_ready = record {
          pin = holds.pin;
          named = rw page is_root.named;
          small = rw page is_root.small;
          low = λ _. rw (page, is_root.low_is) (omega arith);
          inside = in_leaf place walk h.1;
        };
        opened = h.1;
        counted = counted ∙ sym between.counted;
        kept = kept;
        work_is = work_is;
        gathered = subst (λ (os : List Offering). Gathered (metric_space w.settings) op.query (dists_of op w) op.radius os kept) same gathered;
      }

  stops : OpensFrom op w from cells root at (Ending cells at) → HasRead op cells at w
  stops h =
      let ls = pinned_cells w in
      let n = length ls in
      let between = passed (dists_of op w) op.radius w.settings.levels ls from n (omega arith) (all_passed (dists_of op w) op.radius ls from within h.0) in
      let all : take n ls ≡ ls = take_all n ls (omega arith) in
      record {
        holds = holds;
        counted = counted ∙ sym between.counted ∙ ap (count_by (passes (dists_of op w) op.radius)) all;
        kept = kept;
        work_is = work_is;
        gathered = subst (λ (os : List Offering). Gathered (metric_space w.settings) op.query (dists_of op w) op.radius os kept)
            (sym (between.offered (shown w.settings (pinned w))) ∙ ap (offered_of op w) all) gathered;
      }

  pub goes : (s : RangeState) → OpensFrom op w from cells root at s → StateIsReady s op w
  goes Begin h = absurd h
  goes (Walking place c r a walk) h = rw (h.3, h.4, h.5) (reads place walk (h.0, h.1, h.2, refl, refl, refl))
  goes (Ending c a) h = rw (h.1, h.2) (stops (h.0, refl, refl))
  goes Over h = absurd h

  pub goes_since : (s : RangeState) → OpensFrom op w from cells root at s → since_at s w ≡ events_at at
  goes_since Begin h = absurd h
  goes_since (Walking place c r a walk) h = ap events_at h.5
  goes_since (Ending c a) h = ap events_at h.2
  goes_since Over h = absurd h

  pub goes_left : (s : RangeState) → OpensFrom op w from cells root at s → left_at s w ≤ (length (pinned_cells w) - from) * (longest + 1) + longest + 2
  goes_left Begin h = absurd h
  goes_left (Walking place c r a walk) h =
      let m : (length (pinned_cells w) - place) * (longest + 1) ≤ (length (pinned_cells w) - from) * (longest + 1) = mul-le-mul_right (longest + 1) (omega (arith, h.0.onward)) in
      omega (arith, m, descent_longest w walk.descent.page)
  goes_left (Ending c a) h = omega arith
  goes_left Over h = absurd h
