-- What a visit offers at its actor's pin.
use Rattle.std.proofs.Common.{◌≡◌, ℕ, ℤ, suc, zero, ◌-◌, ◌≤◌, List, [], ◌∷◌, ◌++◌, length, map, Bool, true, false, ◌&&◌, nat_le, nat_lt, IsTrue, refl, sym, ap, ◌∙◌, subst, arith, Option, Some, None}
use Rattle.std.specs.Prelude.{slice_get, unwrap_or, IsSome}
use Rattle.std.specs.List.{AllByRecursion, filter}
use Rattle.std.proofs.lemmas.Bool.{and_parts, false≢true}
use Rattle.std.proofs.lemmas.Bool.Decides.{nat_tests}
use Rattle.std.proofs.lemmas.Option.{none-some, same_Some}
use Rattle.mi_base.specs.declared.records.LogEvent.{LogEvent}
use Rattle.mi_base.specs.declared.records.LogEvent.TheVariants.{Update as Made, Split}
use Rattle.mi_base.specs.declared.records.Update.TheVariants.{Insert, Delete}
use Rattle.mi_base.specs.Configuration.{Configuration, metric_space}
use Rattle.mi_base.specs.History.{IsPosition, at_position, end_of, events_at, updates_of}
use Rattle.mi_base.proofs.SortingLemmas.{filter_keeps}
use Rattle.mi_key.specs.declared.entries.Entry.{Entry}
use Rattle.mi_key.specs.declared.ranges.Interval.{Interval}
use Rattle.mi_key.specs.Clusters.{cluster_of}
use Rattle.mi_key.specs.Entries.{offering_of}
use Rattle.mi_key.specs.Keys.{parts_of}
use Rattle.mi_key.specs.Ranges.{is_within}
use Rattle.mi_key.specs.Shown.{Shown, below, from_on, offerings, shown_of, within}
use Rattle.mi_page.specs.Entries.{is_shown, shown_in}
use Rattle.mi_page.specs.Keys.{is_below}
use Rattle.mi_page.specs.Nodes.{Node, in_range}
use Rattle.mi_tree.specs.Cells.{is_leaf}
use Rattle.mi_tree.specs.Counting.{has_leaf}
use Rattle.mi_tree.specs.Legal.{EachMayFollow, cells_of}
use Rattle.mi_tree.proofs.CountLemmas.{cat_has}
use Rattle.mi_tree.proofs.LegalLemmas.{all_may}
use Rattle.mi_tree.proofs.ListLemmas.{all_any, all_take, all_weaker, filter_map, filter_same, filter_twice, map_twice}
use Rattle.mi_board.specs.Boards.{floor_of}
use Rattle.mi_entries.specs.Actors.{Actor, Pin}
use Rattle.mi_entries.specs.Entries.{HasPlace, grid}
use Rattle.mi_forest.specs.Forests.{Forest, all_entries}
use Rattle.mi_forest.proofs.FlatLemmas.{flat_ascends, leaf_entries}
use Rattle.mi_core.specs.Actors.{pinned_at}
use Rattle.mi_core.specs.Effects.{noted}
use Rattle.mi_core.specs.Events.{after}
use Rattle.mi_core.specs.Events.Event.{visit}
use Rattle.mi_core.specs.Kept.{Kept}
use Rattle.mi_core.specs.Pages.{forest_of, node_or_fresh}
use Rattle.mi_core.specs.State.{State, node_at}
use Rattle.mi_world.specs.declared.answers.Visit.{Visit}
use Rattle.mi_world.specs.declared.answers.Visit.TheVariants.{Down, Right, Read}
use Rattle.mi_world.specs.LeafKeys.{shown}
use Rattle.mi_world.specs.Pages.{IsInLeaf, TakesAll, offered_by, pinned}
use Rattle.mi_world.specs.View.{View}
use Rattle.mi_solo.specs.Onward.{Makes}
use Rattle.mi_solo.specs.Seeking.{AnswersVisit, IsMeasured, offered_of}
use Rattle.mi_solo.specs.Viewing.{pinned_log, shown_to}
use Rattle.mi_solo.proofs.DescentLemmas.{page_in}
use Rattle.mi_solo.proofs.OfferedLemmas.{shown_is}
use Rattle.mi_solo.proofs.OwnLemmas.{made}
use Rattle.mi_solo.proofs.SectionLemmas.{least_below}
use Rattle.mi_solo.proofs.VisitEvents.{its, visits}

-- each vector that was inserted fits
pub inserted_fits : (c : Configuration) (before es : List LogEvent) → EachMayFollow c before es → (i id : ℕ) (v : List ℤ) → slice_get (updates_of es) i ≡ Some (Insert id v) → IsTrue ((metric_space c).fits v)
inserted_fits c before [] each i id v h = absurd (none-some (Insert id v) h)
inserted_fits c before (Made a op (Insert j u) ∷ es) each zero id v h =
    let same : Insert j u ≡ Insert id v = same_Some (Insert j u) (Insert id v) h in
    let vectors : u ≡ v = cc in
    subst (λ (x : List ℤ). IsTrue ((metric_space c).fits x)) vectors each.0.0
inserted_fits c before (Made a op (Delete j) ∷ es) each zero id v h = let same : Delete j ≡ Insert id v = same_Some (Delete j) (Insert id v) h in absurd (cc)
inserted_fits c before (Made a op u ∷ es) each (suc i) id v h = inserted_fits c (before ++ Made a op u ∷ []) es each.1.1 i id v h
inserted_fits c before (Split p ∷ es) each i id v h = inserted_fits c (before ++ Split p ∷ []) es each.1.1 i id v h

module _ (s : State) (k : Kept s) (page : ℕ) (node : Node) (here : node_at s.pages page ≡ Some node) (leaf : node.level ≡ 0) where
  pub measured_page : AllByRecursion (IsMeasured s.board.settings) node.entries
  measured_page = all_weaker (HasPlace s.board.settings s.board.log s.actors s.board.retired) (IsMeasured s.board.settings) one node.entries (page_in s k page node here leaf _ k.sound.entries.places)
    where
      one : (e : Entry) → HasPlace s.board.settings s.board.log s.actors s.board.retired e → IsMeasured s.board.settings e
      one e h = record { fits = inserted_fits s.board.settings [] s.board.log k.sound.legal.each (e.birth - 1) _ e.vector h.is.born.1; dists = h.is.dists }

  -- a sieve that takes each entry that is measured takes what the page shows
  pub takes_page : (a : ℕ) (r : Actor) (takes : Entry → Type 0) → TakesAll (shown_to s a r) takes → (range : Interval) (u : ℕ) → AllByRecursion takes (shown_in range u node.entries)
  takes_page a r takes all range u = filter_keeps takes (λ e. is_within range e.key && is_shown u e) node.entries (all_weaker (IsMeasured s.board.settings) takes (λ e m. all e m.fits m.dists) node.entries measured_page)

  module _ (a : ℕ) (r : Actor) (there : slice_get s.actors a ≡ Some r) (pin : Pin) (pin_is : r.pin ≡ Some pin) (range : Interval)
      (p : List ℕ) (at_leaf : is_leaf (grid s.board.settings) (at_position s.board.log pin.at) p ≡ true)
      (inside : (key : ℕ) → IsTrue (is_within range key) → (parts_of key).cluster ≡ cluster_of (length s.board.settings.pivots) s.board.settings.levels p) where
    abbrev c : Configuration
    c = s.board.settings

    abbrev f : Forest
    f = forest_of s.board s.pages s.actors k.sound.chain

    abbrev log : List LogEvent
    log = at_position s.board.log pin.at

    at_pin : IsPosition s.board.log pin.at
    at_pin = ((k.sound.each a r there).saw.pin pin pin_is).0

    -- the pin is not below the floor
    high_pin : events_at (floor_of s.board) ≤ events_at pin.at
    high_pin = least_below (end_of s.board.log) s.board.actors a pin.at ((k.sound.each a r there).holds.pin ∙ ap pinned_at pin_is)

    node_in : f.node page ≡ node
    node_in = ap node_or_fresh here

    its_entries : filter (λ e. in_range node e.key) (all_entries f) ≡ node.entries
    its_entries = subst (λ (n : Node). filter (λ e. in_range n e.key) (all_entries f) ≡ n.entries) node_in
        (leaf_entries f k.sound.pages.forest page (k.sound.pages.linked page node here) (ap (λ (n : Node). n.level) node_in ∙ leaf))

    whole : map shown_of (filter (λ e. is_within range e.key && is_shown (length (updates_of log)) e) (all_entries f)) ≡ within range (shown c log)
    whole = shown_is c k.sound.limits s.board.log (events_at pin.at) (all_take _ (events_at pin.at) s.board.log (all_may c s.board.log k.sound.legal)) range p at_leaf inside (all_entries f)
        (flat_ascends f k.sound.pages.forest) (all_weaker _ _ (λ e h. h.is) (all_entries f) k.sound.entries.places) (k.sound.entries.shows (events_at pin.at) high_pin at_pin.within)

    abbrev shows : Entry → Bool
    shows e = is_within range e.key && is_shown pin.at.updates e

    pub offered : map offering_of (shown_in range pin.at.updates node.entries) ≡ offerings (filter (λ x. in_range node x.key) (within range (shown c log)))
    offered =
        sym (ap (λ es. map offering_of (filter shows es)) its_entries)
        ∙ ap (map offering_of) (filter_twice shows (λ e. in_range node e.key) (all_entries f)
        ∙ filter_same _ _ (all_entries f) (all_any (λ e. (in_range node e.key && shows e) ≡ (shows e && in_range node e.key)) (λ e. swap (in_range node e.key) (shows e)) (all_entries f))
        ∙ sym (filter_twice (λ e. in_range node e.key) shows (all_entries f)))
        ∙ sym (map_twice (λ (x : Shown). x.offering) shown_of (filter (λ e. in_range node e.key) (filter shows (all_entries f))))
        ∙ ap offerings (filter_map shown_of (λ (x : Shown). in_range node x.key) (filter shows (all_entries f))
        ∙ ap (filter (λ (x : Shown). in_range node x.key)) (ap (λ n. map shown_of (filter (λ e. is_within range e.key && is_shown n e) (all_entries f))) (sym at_pin.updates) ∙ whole))
      where
        swap : (x y : Bool) → (x && y) ≡ (y && x)
        swap true true = refl
        swap true false = refl
        swap false true = refl
        swap false false = refl

-- as many updates are pinned as the pin's position tells
pub pin_counts : (s : State) → Kept s → (a : ℕ) (r : Actor) → slice_get s.actors a ≡ Some r → (pin : Pin) → r.pin ≡ Some pin → length (updates_of (pinned (shown_to s a r))) ≡ pin.at.updates
pin_counts s k a r there pin is = ap (λ o. length (updates_of (unwrap_or (pinned_log s.board.log o) []))) is ∙ ((k.sound.each a r there).saw.pin pin is).0.updates

module _ (s : State) (k : Kept s) (a : ℕ) (r : Actor) (there : slice_get s.actors a ≡ Some r) (going : r.ended ≡ false) (page : ℕ) (node : Node) (here : node_at s.pages page ≡ Some node)
    (pin : Pin) (pin_is : r.pin ≡ Some pin) (range : Interval) (cell : IsInLeaf (shown_to s a r) range) where
  abbrev v : View
  v = shown_to s a r

  abbrev w : View
  w = shown_to (after s a r (visit page)) a (noted page r)

  log_is : pinned v ≡ at_position s.board.log pin.at
  log_is = ap (λ o. unwrap_or (pinned_log s.board.log o) []) pin_is

  its_leaf : is_leaf (grid s.board.settings) (at_position s.board.log pin.at) cell.prefix ≡ true
  its_leaf = sym (cat_has (grid s.board.settings) (at_position s.board.log pin.at) cell.prefix) ∙ subst (λ (l : List LogEvent). has_leaf cell.prefix (cells_of s.board.settings l) ≡ true) log_is cell.is_leaf

  on_page : node.level ≡ 0 → map offering_of (shown_in range pin.at.updates node.entries) ≡ offerings (filter (λ x. in_range node x.key) (within range (shown s.board.settings (pinned v))))
  on_page leaf = offered s k page node here leaf a r there pin pin_is range cell.prefix its_leaf cell.inside
      ∙ ap (λ l. offerings (filter (λ x. in_range node x.key) (within range (shown s.board.settings l)))) (sym log_is)

  low_is : v.low page ≡ node.low
  low_is = ap (λ o. (node_or_fresh o).low) here

  and_true : (b : Bool) → (b && true) ≡ b
  and_true true = refl
  and_true false = refl

  up : (high : Option ℕ) (key : ℕ) → is_below high range.to ≡ true → nat_le key range.to ≡ true → is_below high key ≡ true
  up None key h l = refl
  up (Some high) key h l = grind (arith, nat_tests)

  pub offers : (result : Visit) → AnswersVisit node range result → offered_of node range pin.at.updates result ≡ offered_by v w page range result
  offers (Down p) t = refl
  offers (Right p) t = refl
  offers (Read None) t =
      let xs : List Shown = shown s.board.settings (pinned v) in
      on_page t.0.level ∙ ap offerings (filter_twice (λ x. in_range node x.key) (λ x. is_within range x.key) xs
      ∙ filter_same _ _ xs (all_any (λ x. (is_within range x.key && in_range node x.key) ≡ (is_within range x.key && nat_le node.low x.key)) (λ x. one x.key) xs)
      ∙ sym (filter_twice (λ x. nat_le node.low x.key) (λ x. is_within range x.key) xs))
      ∙ ap (λ low. offerings (from_on low (within range xs))) (sym low_is)
    where
      one : (key : ℕ) → (is_within range key && in_range node key) ≡ (is_within range key && nat_le node.low key)
      one key =
          let P : Bool → Type 0 = λ b. is_within range key ≡ b → (b && in_range node key) ≡ (b && nat_le node.low key) in
          (elim (is_within range key) as P [
            | true ↦ λ i. rw (up node.high key t.1 (and_parts (nat_le range.from key) (nat_le key range.to) i).1) (and_true (nat_le node.low key))
            | false ↦ λ _. refl
          ]) refl
  offers (Read (Some next)) t =
      let xs : List Shown = within range (shown s.board.settings (pinned v)) in
      let high : node.high ≡ Some (w.low next) = ap (λ o. (node_or_fresh o).high) (sym here) ∙ (visits s k a r there going page (node, here) node here range (Read (Some next)) t).answer.1.5 in
      on_page t.0.level ∙ ap offerings (filter_same _ _ xs (all_any (λ x. in_range node x.key ≡ (nat_le node.low x.key && nat_lt x.key (w.low next))) (λ x. ap (λ o. nat_le node.low x.key && is_below o x.key) high) xs)
      ∙ sym (filter_twice (λ x. nat_lt x.key (w.low next)) (λ x. nat_le node.low x.key) xs))
      ∙ ap (λ low. offerings (below (w.low next) (from_on low xs))) (sym low_is)

pub offers_page : (page : ℕ) (node : Node) (range : Interval) (result : Visit)
    → Makes (visit page) (λ s v w. node_at s.pages page ≡ Some node → IsSome v.pin → IsInLeaf v range → AnswersVisit node range result → offered_of node range (length (updates_of (pinned v))) result ≡ offered_by v w page range result)
offers_page page node range result = made (visit page)
    (λ s v w. node_at s.pages page ≡ Some node → IsSome v.pin → IsInLeaf v range → AnswersVisit node range result → offered_of node range (length (updates_of (pinned v))) result ≡ offered_by v w page range result)
    (λ s k a r there going can. (
      noted page r,
      its s k a r there going page can,
      λ here some cell t.
          let p = some_pin s.board.log r.pin some in
          ap (λ n. offered_of node range n result) (pin_counts s k a r there p.0 p.1) ∙ offers s k a r there going page node here p.0 p.1 range cell result t,
    ))
  where
    some_pin : (l : List LogEvent) (o : Option Pin) → IsSome (pinned_log l o) → (p : Pin) × (o ≡ Some p)
    some_pin l None h = absurd (false≢true h)
    some_pin l (Some p) h = (p, refl)
