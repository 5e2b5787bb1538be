-- What each event of a page makes of the page and of its actor's record, and that it can happen.
use Rattle.std.proofs.Common.{◌≡◌, ◌≤◌, ◌<◌, ◌-◌, ℕ, ◌+◌, List, length, true, cond, Option, Some, None, set, refl, sym, ap, ◌∙◌, subst}
use Rattle.std.specs.Prelude.{slice_get}
use Rattle.std.proofs.lemmas.List.{set-get_or}
use Rattle.mi_base.specs.Configuration.{Configuration}
use Rattle.mi_base.specs.declared.records.LogEvent.TheVariants.{Split}
use Rattle.mi_key.specs.declared.entries.Entry.{Entry}
use Rattle.mi_page.specs.Entries.{without_dead}
use Rattle.mi_page.specs.Keys.{IsInside}
use Rattle.mi_page.specs.Nodes.{Node}
use Rattle.mi_tree.specs.Legal.{MayFollow}
use Rattle.mi_entries.specs.Actors.{Actor, SplitWork, SweepWork}
use Rattle.mi_entries.specs.Entries.{grid}
use Rattle.mi_entries.specs.Marks.{cell_end, cell_range, gather_more, split_or}
use Rattle.mi_entries.specs.Splits.{copy_in_child}
use Rattle.mi_core.specs.Effects.{drop_entry, noted, paid, post_route, put_entry, sweep_node, trim_node}
use Rattle.mi_core.specs.Events.{after, copied_of, copied_to, leaf_or, sweep_leaf, sweep_next, with_split_at}
use Rattle.mi_core.specs.Events.Event.{copy_in, gather, post, start, sweep, trim, uncopy, visit}
use Rattle.mi_core.specs.Kept.{Kept}
use Rattle.mi_core.specs.Named.{IsNamed, Named}
use Rattle.mi_core.specs.State.{State, node_at, put_actor, put_page}
use Rattle.mi_latch.specs.Naming.{names_of}
use Rattle.mi_latch.specs.PageSteps.{MakesPage}
use Rattle.mi_latch.specs.Wanting.{leaf_wanted}
use Rattle.mi_latch.specs.Views.{Fits, IsOne, Mine}
use Rattle.mi_latch.proofs.PageNames.{names_stand}

-- the claimed leaf, known to be wanted, may be split
pub wanted_may : (c : State) (a : ℕ) (m : Mine) (p : List ℕ) → Fits c a m → m.wanted ≡ true → m.part.claim ≡ Some p → MayFollow c.board.settings c.board.log (Split p)
wanted_may c a m p f wanted claim = sym (ap (leaf_wanted c.board.settings c.board.log) claim) ∙ sym f.knows.wanted ∙ wanted

-- a page that is put where it is changes nothing
put_same : (a : ℕ) (to : Actor) (page : ℕ) (was : Node) (c : State) → node_at c.pages page ≡ Some was → put_actor a to c ≡ put_actor a to (put_page page was c)
put_same a to page was c there =
    let P : List (Option Node) → State = λ pages. record { board = c.board; shards = c.shards; pages = pages; actors = set c.actors a to } in
    ap P (sym (ap (set c.pages page) (sym there) ∙ set-get_or c.pages page None))

module _ (settings : Configuration) (a : ℕ) (m : Mine) (page : ℕ) (was : Node) where
  named : (c : State) → Kept c → Fits c a m → node_at c.pages page ≡ Some was → (x : Named) → IsOne x (names_of was) → IsNamed c.pages x
  named c k f there = names_stand c k.sound page was there

  -- a page goes back as it was, and is noted
  pub visit_makes : MakesPage settings a m page was was (noted page m.part) (names_of was) (visit page)
  visit_makes = record {
    does = λ c k same f there. ((was, there), put_same a (noted page m.part) page was c there);
    named = named;
    seen = refl;
    claim = refl;
    pin = refl;
    going = refl;
  }

  -- a leaf page is trimmed
  pub trim_makes : was.level ≡ 0 → MakesPage settings a m page was (trim_node m.part.floor.updates was) (noted page m.part) (names_of was) (trim page was)
  trim_makes leaf = record { does = λ c k same f there. (record { there = there; level = leaf }, refl); named = named; seen = refl; claim = refl; pin = refl; going = refl }

  -- a leaf page is swept
  pub sweep_makes : (w : SweepWork) → was.level ≡ 0 → m.part.sweep ≡ Some w → IsInside was.low was.high w.mark
      → MakesPage settings a m page was (sweep_node (cell_range (grid settings) (sweep_leaf m.part.sweep)) was) (record m.part { page = page; sweep = sweep_next settings was m.part.sweep }) (names_of was) (sweep page was)
  sweep_makes w leaf sweeps inside = record {
    does = λ c k same f there.
        let P : Configuration → Type 0 = λ s. after c a m.part (sweep page was) ≡ put_actor a (record m.part { page = page; sweep = sweep_next s was m.part.sweep }) (put_page page (sweep_node (cell_range (grid s) (sweep_leaf m.part.sweep)) was) c) in
        ((record { there = there; level = leaf }, w, sweeps, inside), subst P same refl);
    named = named;
    seen = refl;
    claim = refl;
    pin = refl;
    going = refl;
  }

  -- a route is put in, or stands there already. That its child is linked, one level below and with this low key, is known for good
  pub post_makes : (x : Named) → IsOne x m.named → x.level + 1 ≡ was.level → IsInside was.low was.high x.low → length was.routes < 32
      → MakesPage settings a m page was (post_route x.low x.page was) (record m.part { page = page; owed = paid x.page m.part.owed }) (names_of was) (post page was x.low x.page)
  post_makes x known height inside space = record {
    does = λ c k same f there.
        let s = f.knows.named x known in
        ((there, record { inside = inside; space = space; below = s.node; there = s.there; level = ap (λ l. l + 1) s.level ∙ height; low = s.low }), refl);
    named = named;
    seen = refl;
    claim = refl;
    pin = refl;
    going = refl;
  }

  -- a gather of a leaf begins at a page that goes back as it was
  pub start_makes : (p : List ℕ) → m.part.claim ≡ Some p → m.wanted ≡ true
      → MakesPage settings a m page was was (with_split_at (Some (split_or (grid settings) (leaf_or m.part.claim) m.part.split)) page m.part) (names_of was) (start page)
  start_makes p claim wanted = record {
    does = λ c k same f there.
        let to : Configuration → Actor = λ s. with_split_at (Some (split_or (grid s) (leaf_or m.part.claim) m.part.split)) page m.part in
        ((p, claim, wanted_may c a m p f wanted claim, (was, there)), ap (λ s. put_actor a (to s) c) same ∙ put_same a (to settings) page was c there);
    named = named;
    seen = refl;
    claim = refl;
    pin = refl;
    going = refl;
  }

  -- a leaf page is gathered: it goes back as it was
  pub gather_makes : (p : List ℕ) → was.level ≡ 0 → m.part.claim ≡ Some p → m.wanted ≡ true → IsInside was.low was.high (split_or (grid settings) p m.part.split).mark
      → MakesPage settings a m page was was (with_split_at (Some (gather_more (grid settings) (split_or (grid settings) (leaf_or m.part.claim) m.part.split) was)) page m.part) (names_of was) (gather page was)
  gather_makes p leaf claim wanted inside = record {
    does = λ c k same f there.
        let to : Configuration → Actor = λ s. with_split_at (Some (gather_more (grid s) (split_or (grid s) (leaf_or m.part.claim) m.part.split) was)) page m.part in (
          (record { there = there; level = leaf }, p, claim, wanted_may c a m p f wanted claim, subst (λ s. IsInside was.low was.high (split_or (grid s) p m.part.split).mark) (sym same) inside),
          ap (λ s. put_actor a (to s) c) same ∙ put_same a (to settings) page was c there,
        );
    named = named;
    seen = refl;
    claim = refl;
    pin = refl;
    going = refl;
  }

  module _ (w : SplitWork) (old : Entry) (leaf : was.level ≡ 0) (split : m.part.split ≡ Some w) (inside : IsInside was.low was.high (copy_in_child (grid settings) w.leaf old).key) where
    abbrev copy : Entry
    copy = copy_in_child (grid settings) w.leaf old

    same_copy : (c : State) → c.board.settings ≡ settings → copy ≡ copy_in_child (grid c.board.settings) w.leaf old
    same_copy c same = ap (λ s. copy_in_child (grid s) w.leaf old) (sym same)

    -- the next gathered entry is copied into a leaf page
    pub copy_makes : cell_end (grid settings) w.leaf ≤ w.mark → slice_get w.gathered w.copied ≡ Some old → length (without_dead m.part.floor.updates was.entries) < 32
        → MakesPage settings a m page was (put_entry m.part.floor.updates copy was) (with_split_at (copied_to (copied_of m.part.split + 1) m.part.split) page m.part) (names_of was) (copy_in page was copy)
    copy_makes whole next space = record {
      does = λ c k same f there. (
        (record { there = there; level = leaf }, w, record { split = split; whole = subst (λ s. cell_end (grid s) w.leaf ≤ w.mark) (sym same) whole }, old, next, same_copy c same, inside, space),
        refl,
      );
      named = named;
      seen = refl;
      claim = refl;
      pin = refl;
      going = refl;
    }

    -- the last copy is taken off a leaf page. That all pages are allotted is known for good
    pub uncopy_makes : 0 < w.copied → slice_get w.gathered (w.copied - 1) ≡ Some old
        → MakesPage settings a m page was (drop_entry copy.key was) (record (with_split_at (copied_to (copied_of m.part.split - 1) m.part.split) page m.part) { undone = true; early = cond m.told m.part.early true }) (names_of was)
        (uncopy page was copy m.told)
    uncopy_makes some next = record {
      does = λ c k same f there. ((record { there = there; level = leaf }, w, split, some, old, next, same_copy c same, inside, f.knows.told), refl);
      named = named;
      seen = refl;
      claim = refl;
      pin = refl;
      going = refl;
    }
