-- A trim of one page keeps what is kept.
use Rattle.std.proofs.Common.{◌≡◌, ◌≢◌, ℕ, ◌≤◌, List, length, take, set, not, ◌&&◌, refl, sym, ap, ◌∙◌, subst, arith, Option, Some, None, length-set, get_or-set_other}
use Rattle.std.specs.Prelude.{slice_get}
use Rattle.std.specs.List.{filter}
use Rattle.mi_base.specs.declared.records.LogEvent.{LogEvent}
use Rattle.mi_base.specs.Configuration.{Configuration}
use Rattle.mi_base.specs.History.{entered, events_at, updates_of}
use Rattle.mi_key.specs.declared.entries.Entry.{Entry}
use Rattle.mi_page.specs.Entries.{outlives}
use Rattle.mi_page.specs.Nodes.{Node, in_range}
use Rattle.mi_tree.proofs.LegalLemmas.{all_may}
use Rattle.mi_core.specs.Actors.{Suits}
use Rattle.mi_board.specs.Boards.{floor_of}
use Rattle.mi_core.specs.Effects.{noted, trim_node}
use Rattle.mi_core.specs.Events.{IsLeafPage, after}
use Rattle.mi_core.specs.Events.Event.{trim}
use Rattle.mi_forest.specs.Forests.{all_entries}
use Rattle.mi_core.specs.Sound.{Sound}
use Rattle.mi_core.specs.Pages.{ArePages, forest_of, has_page}
use Rattle.mi_entries.specs.Splits.{AreEntries}
use Rattle.mi_core.specs.State.{count_if, State, node_at, put_actor, put_page}
use Rattle.mi_entries.specs.Actors.{Actor}
use Rattle.mi_core.proofs.ActorLemmas.{SameHands, claims_stay, each_set, held_stays, holders_stay, retired_stay, sweeps_stay, works_stay}
use Rattle.mi_entries.proofs.ContentLemmas.{entries_stay, entries_trim}
use Rattle.mi_core.proofs.KeptLemmas.{floor_position, some_none}
use Rattle.mi_entries.proofs.KeyedLemmas.{is_keyed}
use Rattle.mi_core.proofs.PageLemmas.{flat_trimmed, forest_held, forest_mid, linked_set, root_set, there_set}
use Rattle.mi_entries.proofs.ShowLemmas.{count_between}
use Rattle.mi_tree.proofs.ListLemmas.{all_weaker}

module _ (s : State) (k : Sound s) (a : ℕ) (r : Actor) (there : slice_get s.actors a ≡ Some r) (page : ℕ) (node : Node) (on : IsLeafPage s page node) where
  abbrev c : Configuration
  c = s.board.settings

  abbrev log : List LogEvent
  log = s.board.log

  abbrev trimmed_page : Node
  trimmed_page = trim_node r.floor.updates node

  abbrev pages' : List (Option Node)
  pages' = set s.pages page (Some trimmed_page)

  mine : Suits s.board s.shards s.pages a r
  mine = k.each a r there

  fresh_more : (p : ℕ) → node_at s.pages p ≡ None → node_at pages' p ≡ None
  fresh_more p h =
      let apart : p ≢ page = λ same. some_none node (sym on.there ∙ ap (node_at s.pages) (sym same) ∙ h) in
      get_or-set_other s.pages page p (Some trimmed_page) None apart ∙ h

  module _ (q : Actor) (same : SameHands r q) (own : Suits s.board s.shards pages' a q) where
    abbrev actors' : List Actor
    actors' = set s.actors a q

    held : (p : ℕ) → count_if (has_page p) actors' ≡ count_if (has_page p) s.actors
    held = held_stays s.actors a r q there same

    entries' : AreEntries c log (events_at (floor_of s.board)) actors' s.board.retired (all_entries (forest_of s.board pages' actors' k.chain))
    entries' =
        let F : List Entry = all_entries (forest_of s.board s.pages s.actors k.chain) in
        let low : r.floor.updates ≤ length (updates_of (take (events_at (floor_of s.board)) log)) =
        (let u = mine.saw.floor.updates in let l = count_between (events_at r.floor) (events_at (floor_of s.board)) log mine.saw.low in omega arith) in
        let trimmed = entries_trim c (is_keyed c k.limits) log (all_may c log k.legal) (events_at (floor_of s.board)) s.actors s.board.retired F k.entries (floor_position s k).within r.floor.updates low (in_range node) in
        subst (AreEntries c log (events_at (floor_of s.board)) actors' s.board.retired)
        (sym (flat_trimmed s.board s.board s.pages s.actors s.actors k.chain k.pages refl refl (λ n. refl) page node on.there on.level r.floor.updates))
        (entries_stay s.actors actors' (works_stay s.actors a r q there same) c log (events_at (floor_of s.board)) s.board.retired
        (filter (λ e. not (in_range node e.key && not (outlives e.death r.floor.updates))) F) trimmed)

    pages_are : ArePages s.board pages' actors' k.chain
    pages_are =
        let p = k.pages in
        record {
          forest = forest_held (forest_of s.board pages' s.actors k.chain) (λ n. count_if (has_page n) actors') held (forest_mid s.board s.board s.pages s.actors s.actors k.chain p refl refl (λ n. refl) page node on.there on.level r.floor.updates);
          linked = linked_set s.board s.board s.pages s.actors actors' k.chain p refl refl held page node trimmed_page on.there refl;
          there = there_set s.board s.board s.pages s.actors actors' k.chain p refl refl held page node trimmed_page on.there refl;
          height = root_set s.board s.board s.pages s.actors actors' k.chain p refl refl held page node trimmed_page on.there refl;
          length_is = length-set s.pages page (Some trimmed_page) ∙ p.length_is;
          most = p.most;
          passed_over = p.passed_over;
        }

    others' : (b : ℕ) (t : Actor) → b ≢ a → slice_get s.actors b ≡ Some t → Suits s.board s.shards pages' b t
    others' b t n z =
        let o = k.each b t z in
        record { saw = o.saw; own = o.own; holds = o.holds; sweep = o.sweep; fresh = λ p f. let m = o.fresh p f in (m.0, fresh_more p m.1) }

    pub trimmed_keeps : Sound (put_actor a q (put_page page trimmed_page s))
    trimmed_keeps = record {
      limits = k.limits;
      metric = k.metric;
      chain = k.chain;
      pages = pages_are;
      entries = entries';
      each = each_set s.actors a r q there (λ b t. Suits s.board s.shards pages' b t) own others';
      retired = retired_stay s.actors a r q there same log s.board.retired k.retired;
      order = k.order;
      sixteen = k.sixteen;
      holders = λ n b h. holders_stay s.actors a r q there same n b (k.holders n b h);
      claims = claims_stay s.actors a r q there same k.claims;
      sweeps = sweeps_stay s.actors a r q there same k.sweeps;
      records = k.records;
      counted = k.counted ∙ sym (length-set s.actors a q);
      made = all_weaker _ _ (λ m l. omega (arith, l, length-set s.actors a q)) (entered log) k.made;
      legal = k.legal;
    }

  pub trim_keeps : Sound (after s a r (trim page node))
  trim_keeps =
      let h = mine.holds in
      trimmed_keeps (noted page r) (record { shard = refl; claim = refl; sweep = refl; split = refl; fresh = refl }) (record {
        saw = (let v = mine.saw in record { seen = v.seen; floor = v.floor; low = v.low; pin = v.pin });
        own = mine.own;
        holds = record { claim = h.claim; reserved = h.reserved; pin = h.pin; shard = h.shard; leaf = h.leaf; split = h.split; room = h.room };
        sweep = mine.sweep;
        fresh = λ p f. let m = mine.fresh p f in (m.0, fresh_more p m.1);
      })
