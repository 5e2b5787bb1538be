-- What one who knows a part of what all share needs for a section, as it is needed of the state.
use Rattle.std.proofs.Common.{◌≡◌, ℕ, ◌+◌, ◌≤◌, List, IsTrue, sym, ap, ◌∙◌, subst, arith, length-append}
use Rattle.std.specs.Prelude.{ℤ}
use Rattle.mi_base.specs.History.{updates_of}
use Rattle.mi_base.specs.Permutations.{key_distance}
use Rattle.mi_base.proofs.HistoryLemmas.{updates_of-append}
use Rattle.mi_key.specs.declared.ranges.Interval.{Interval}
use Rattle.mi_world.specs.Pages.{IsChildAt, IsInLeaf, MayDelete, MayInsert, MayPost, MaySeek, MayVisit, insert_key, next_number}
use Rattle.mi_world.specs.Splits.{IsGathered, MayGather}
use Rattle.mi_world.specs.View.{View, prefix_or}
use Rattle.mi_world.proofs.ViewLemmas.{key_rises}
use Rattle.mi_hall.specs.Knowledge.{Knowledge, Knows, is_named, level_of, low_of, view_by}
use Rattle.mi_hall.proofs.KnowledgeLemmas.{known}

module _ (v : View) (n : Knowledge) (k : Knows v n) where
  module _ (page : ℕ) (here : IsTrue (is_named n.pages page)) where
    pub named_so : IsTrue (v.named page)
    named_so = (known v n.pages k.pages page here).0

    level_so : v.level page ≡ level_of n.pages page
    level_so = (known v n.pages k.pages page here).1

    low_so : v.low page ≡ low_of n.pages page
    low_so = (known v n.pages k.pages page here).2

    -- a page that isn't right of a key, as it is known
    pub low_known : (key : ℕ) → (view_by n v).low page ≤ key → v.low page ≤ key
    low_known key h = subst (λ low. low ≤ key) (sym low_so) h

    -- it is a leaf page
    pub leaf_known : (view_by n v).level page ≡ 0 → v.level page ≡ 0
    leaf_known h = level_so ∙ h

    pub may_visit : (range : Interval) → MayVisit (view_by n v) page range → MayVisit v page range
    may_visit range h = λ above. low_known range.from (h (subst (λ l. 1 ≤ l) level_so above))

  pub in_leaf : (range : Interval) → IsInLeaf (view_by n v) range → IsInLeaf v range
  in_leaf range h = record { prefix = h.prefix; is_leaf = h.is_leaf; inside = h.inside }

  next_later : next_number (view_by n v) ≤ next_number v
  next_later = rw (k.seen.is, updates_of-append n.seen k.seen.by) (omega (arith, length-append (updates_of n.seen) (updates_of k.seen.by)))

  pub may_seek : (page : ℕ) (dists : List ℕ) (id : ℕ) → MaySeek (view_by n v) page dists id → MaySeek v page dists id
  may_seek page dists id h = record {
    named = named_so page h.named;
    above = λ up. low_known page h.named (insert_key v dists id 0) (h.above (subst (λ l. 1 ≤ l) (level_so page h.named) up));
    at_leaf = λ leaf. (let low = h.at_leaf (sym (level_so page h.named) ∙ leaf) in
        omega (arith, low, low_so page h.named, key_rises v.settings (prefix_or v.leaf) (key_distance dists) id (next_number (view_by n v)) (next_number v) next_later));
  }

  pub may_insert : (id : ℕ) (vector : List ℤ) (dists : List ℕ) → MayInsert (view_by n v) id vector dists → MayInsert v id vector dists
  may_insert id vector dists h = record { shard = h.shard; absent = h.absent; reserved = h.reserved; leaf = h.leaf; unsplit = h.unsplit; fits = h.fits; measured = h.measured }

  pub may_delete : (id : ℕ) → MayDelete (view_by n v) id → MayDelete v id
  may_delete id h = record { shard = h.shard; kept = h.kept; is = h.is; reserved = h.reserved; leaf = h.leaf; unsplit = h.unsplit }

  pub is_child : (level key child : ℕ) → IsChildAt (view_by n v) level key child → IsChildAt v level key child
  is_child level key child h = record {
    named = named_so child h.named;
    level_is = ap (λ l. l + 1) (level_so child h.named) ∙ h.level_is;
    low_is = low_so child h.named ∙ h.low_is;
    later_key = h.later_key;
  }

  pub may_post : (page level key : ℕ) → MayPost (view_by n v) page level key → MayPost v page level key
  may_post page level key h = record { named = named_so page h.named; level_is = subst (λ l. level ≤ l) (sym (level_so page h.named)) h.level_is; low_is = low_known page h.named key h.low_is }

  pub may_gather : MayGather (view_by n v) → MayGather v
  may_gather h = record { leaf = h.leaf; leaf_is = h.leaf_is; wanted = h.wanted }

  pub is_gathered : IsGathered (view_by n v) → IsGathered v
  is_gathered h = record { leaf = h.leaf; leaf_is = h.leaf_is; wanted = h.wanted; splitting = h.splitting; whole = h.whole }
