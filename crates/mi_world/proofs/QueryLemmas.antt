-- What a query has pinned and measured stays so.
use Rattle.std.proofs.Common.{◌≡◌, ℕ, suc, zero, ℤ, List, [], ◌∷◌, length, Bool, true, false, ◌||◌, Some, refl, sym, ap, ◌∙◌}
use Rattle.std.specs.Prelude.{slice_get}
use Rattle.std.proofs.lemmas.List.{length-map}
use Rattle.mi_base.specs.declared.records.Position.{Position}
use Rattle.mi_base.specs.Configuration.{metric_space, space_of}
use Rattle.mi_base.specs.Permutations.{distances}
use Rattle.mi_base.specs.Space.{MetricSpace}
use Rattle.mi_tree.specs.declared.outcomes.Leaf.{Leaf}
use Rattle.mi_tree.specs.Cells.{same_cell}
use Rattle.mi_tree.specs.Counting.{has_leaf}
use Rattle.mi_tree.specs.Growing.{Grows}
use Rattle.mi_tree.proofs.GrowingLemmas.{grows_on}
use Rattle.mi_tree.proofs.LeafLemmas.{same_self}
use Rattle.mi_world.specs.Pages.{pinned}
use Rattle.mi_world.specs.Queries.{Pinned, SameButPin}
use Rattle.mi_world.specs.View.{View, SameOwn}

-- while the pin stays
pub pinned_keeps : (at : Position) (v w : View) → w.settings ≡ v.settings → w.pin ≡ v.pin → Grows v.seen w.seen → Pinned at v → Pinned at w
pinned_keeps at v w settings pin grows h = record {
  pin = rw pin h.pin;
  at_is = rw pin h.at_is;
  seen = grows_on (pinned w) v.seen w.seen (rw pin h.seen) grows;
  limits = rw settings h.limits;
  legal = rw (settings, pin) h.legal;
}

-- what a visit keeps
pub walk_same : (v w : View) → SameOwn v w → SameButPin v w
walk_same v w s = record {
  update = s.work.update;
  leaf = s.work.leaf;
  sweep = s.work.apart.sweep;
  split = s.work.apart.split;
  flags = s.work.apart.flags;
  actors = s.work.apart.actors;
  fresh = s.fresh;
  owes = s.owes;
}

pub same_on : (u v w : View) → SameButPin u v → SameButPin v w → SameButPin u w
same_on u v w a b = record {
  update = record { own = b.update.own ∙ a.update.own; shard = b.update.shard ∙ a.update.shard; records = b.update.records ∙ a.update.records; reserved = b.update.reserved ∙ a.update.reserved };
  leaf = record { leaf = b.leaf.leaf ∙ a.leaf.leaf; wanted = b.leaf.wanted ∙ a.leaf.wanted };
  sweep = record { sweep = b.sweep.sweep ∙ a.sweep.sweep; swept = b.sweep.swept ∙ a.sweep.swept };
  split = record {
    splitting = b.split.splitting ∙ a.split.splitting;
    mark = b.split.mark ∙ a.split.mark;
    whole = b.split.whole ∙ a.split.whole;
    copies = b.split.copies ∙ a.split.copies;
    copied = b.split.copied ∙ a.split.copied;
  };
  flags = record { undone = b.flags.undone ∙ a.flags.undone; early = b.flags.early ∙ a.flags.early };
  actors = record { absorbed = b.actors.absorbed ∙ a.actors.absorbed; forked = b.actors.forked ∙ a.actors.forked };
  fresh = b.fresh ∙ a.fresh;
  owes = b.owes ∙ a.owes;
}

-- a query has as many distances as there are pivots
pub long : (query : List ℤ) (w : View) → length (distances (space_of w.settings) query) ≡ length w.settings.pivots
long query w = length-map w.settings.pivots (λ (x : List ℤ). (metric_space w.settings).d query x)

-- the distances that were measured are the query's
pub measured : (query : List ℤ) (v w : View) (m : MetricSpace) (pivots : List (List ℤ)) (dq : List ℕ)
    → w.settings ≡ v.settings → m ≡ metric_space v.settings → pivots ≡ v.settings.pivots
    → dq ≡ distances (record { metric = m; pivots = pivots }) query → dq ≡ distances (space_of w.settings) query
measured query v w m pivots dq settings space same is = is ∙ rw (space, same, settings) refl

-- a leaf that stands at a place is one of the leaves
pub leaf_there : (ls : List Leaf) (i : ℕ) (l : Leaf) → slice_get ls i ≡ Some l → has_leaf l.prefix ls ≡ true
leaf_there [] i l at = cc
leaf_there (m ∷ ls) zero l at =
    let same : l ≡ m = cc in
    ap (λ (x : Leaf). same_cell l.prefix x.prefix || has_leaf l.prefix ls) (sym same) ∙ ap (λ b. b || has_leaf l.prefix ls) (same_self l.prefix)
leaf_there (m ∷ ls) (suc i) l at =
    let P : Bool → Type 0 = λ b. (b || has_leaf l.prefix ls) ≡ true in
    elim (same_cell l.prefix m.prefix) as P [ true ↦ refl | false ↦ leaf_there ls i l at ]
