-- An allotment of a page keeps what is kept.
use Rattle.std.proofs.Common.{◌≡◌, ◌≢◌, ℕ, ◌+◌, ◌<◌, List, set, cond, refl, sym, ap, ◌∙◌, arith, Option, Some, None, length-set}
use Rattle.std.specs.Prelude.{slice_get}
use Rattle.mi_base.specs.History.{entered, events_at}
use Rattle.mi_page.specs.Nodes.{Node}
use Rattle.mi_core.specs.Actors.{Suits}
use Rattle.mi_board.specs.Boards.{floor_of, BoardState}
use Rattle.mi_core.specs.Effects.{saw}
use Rattle.mi_core.specs.Events.{after}
use Rattle.mi_core.specs.Events.Event.{allot}
use Rattle.mi_forest.specs.Forests.{all_entries, occurrence}
use Rattle.mi_core.specs.Sound.{Sound}
use Rattle.mi_core.specs.Pages.{ArePages, forest_of, has_page, node_or_fresh, is_page}
use Rattle.mi_core.specs.State.{count_if, State, node_at}
use Rattle.mi_entries.specs.Actors.{Actor}
use Rattle.mi_core.proofs.ActorLemmas.{count_set, claims_by, each_set, holders_by, retired_by, sweeps_by, works_by}
use Rattle.std.proofs.lemmas.Option.{same_Some}
use Rattle.mi_entries.proofs.ContentLemmas.{entries_stay}
use Rattle.mi_tree.proofs.ListLemmas.{all_weaker}
use Rattle.mi_forest.specs.Changes.{AllotsPage}
use Rattle.mi_forest.proofs.AllotLemmas.{allots_keep}
use Rattle.mi_forest.proofs.HandLemmas.{allotted_below}

module _ (s : State) (k : Sound s) (a : ℕ) (r : Actor) (there : slice_get s.actors a ≡ Some r) (none : r.fresh ≡ None) (left : s.board.allotted < s.board.settings.pages) where
  abbrev A : ℕ
  A = s.board.allotted

  abbrev b' : BoardState
  b' = record s.board { allotted = A + 1 }

  abbrev q : Actor
  q = record (saw s.board r) { fresh = Some A }

  abbrev actors' : List Actor
  actors' = set s.actors a q

  mine : Suits s.board s.shards s.pages a r
  mine = k.each a r there

  -- a page beyond the allotted ones isn't linked
  not_yet : node_at s.pages A ≡ None
  not_yet = none_there (node_at s.pages A) refl
    where
      none_there : (o : Option Node) → node_at s.pages A ≡ o → node_at s.pages A ≡ None
      none_there None e = e
      none_there (Some n) e = absurd (let l = allotted_below (forest_of s.board s.pages s.actors k.chain) k.pages.forest A (k.pages.linked A n e) in omega arith)

  hands : (m : ℕ) → count_if (has_page m) actors' ≡ count_if (has_page m) s.actors + occurrence m A
  hands m =
      let n = count_set (has_page m) s.actors a q r there in
      let old : cond {A = ℕ} (has_page m r) 1 0 ≡ 0 = ap (λ (o : Option ℕ). cond {A = ℕ} (is_page m o) 1 0) none in
      omega (arith, n, old)

  allots : AllotsPage (forest_of s.board s.pages s.actors k.chain) (forest_of b' s.pages actors' k.chain)
  allots = record {
    fresh = ap node_or_fresh not_yet;
    others = λ m n. refl;
    chains = λ l. refl;
    root = refl;
    allotted = refl;
    held = hands;
  }

  pages_are : ArePages b' s.pages actors' k.chain
  pages_are =
      let p = k.pages in
      record {
        forest = allots_keep (forest_of s.board s.pages s.actors k.chain) (forest_of b' s.pages actors' k.chain) p.forest allots;
        linked = p.linked;
        there = p.there;
        height = p.height;
        length_is = p.length_is;
        most = omega arith;
        passed_over = λ y ys e. absurd (let n = p.passed_over y ys e in omega arith);
      }

  own' : Suits b' s.shards s.pages a q
  own' =
      let h = mine.holds in
      record {
        saw = (let v = mine.saw in record { seen = omega arith; floor = v.floor; low = v.low; pin = v.pin });
        own = mine.own;
        holds = record { claim = h.claim; reserved = h.reserved; pin = h.pin; shard = h.shard; leaf = h.leaf; split = h.split; room = h.room };
        sweep = mine.sweep;
        fresh = λ p e. let same : A ≡ p = same_Some A p e in (omega (arith, same), ap (node_at s.pages) (sym same) ∙ not_yet);
      }

  others' : (b : ℕ) (t : Actor) → b ≢ a → slice_get s.actors b ≡ Some t → Suits b' s.shards s.pages b t
  others' b t n e =
      let o = k.each b t e in
      let h = o.holds in
      record {
        saw = (let v = o.saw in record { seen = v.seen; floor = v.floor; low = v.low; pin = v.pin });
        own = o.own;
        holds = record { claim = h.claim; reserved = h.reserved; pin = h.pin; shard = h.shard; leaf = h.leaf; split = h.split; room = h.room };
        sweep = o.sweep;
        fresh = λ p f. let m = o.fresh p f in let l = m.0 in (omega arith, m.1);
      }

  pub allot_event : Sound (after s a r allot)
  allot_event = record {
    limits = k.limits;
    metric = k.metric;
    chain = k.chain;
    pages = pages_are;
    entries = entries_stay s.actors actors' (works_by s.actors a r q there refl refl) s.board.settings s.board.log (events_at (floor_of s.board)) s.board.retired (all_entries (forest_of s.board s.pages s.actors k.chain)) k.entries;
    each = each_set s.actors a r q there (λ b t. Suits b' s.shards s.pages b t) own' others';
    retired = retired_by s.actors a r q there refl s.board.log s.board.retired k.retired;
    order = k.order;
    sixteen = k.sixteen;
    holders = λ n b h. holders_by s.actors a r q there refl n b (k.holders n b h);
    claims = claims_by s.actors a r q there refl k.claims;
    sweeps = sweeps_by s.actors a r q there refl k.sweeps;
    records = k.records;
    counted = k.counted ∙ sym (length-set s.actors a q);
    made = all_weaker _ _ (λ m l. omega (arith, l, length-set s.actors a q)) (entered s.board.log) k.made;
    legal = k.legal;
  }
