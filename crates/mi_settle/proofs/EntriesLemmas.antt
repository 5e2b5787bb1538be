-- How many entries the pages have: an own one of each live object, and no others where nothing is under way.
use Rattle.std.proofs.Common.{◌≡◌, ◌≢◌, ℕ, zero, suc, ◌+◌, ◌-◌, ◌*◌, ◌<◌, ◌≤◌, List, [], ◌∷◌, length, map, set, nat_le, true, false, Option, Some, None, refl, sym, ap, ◌∙◌, subst, arith, inl, inr, eq-eqb, length-append, get_or-set_other}
use Rattle.std.specs.List.{AllByRecursion, filter, flat_map, list_any}
use Rattle.std.proofs.Math.Seq.{take-length}
use Rattle.std.proofs.lemmas.Bool.{and_from, cases_eq, cases_lt, false≢true, le-leb, ne_eqb}
use Rattle.std.proofs.lemmas.List.{length-map}
use Rattle.std.proofs.lemmas.Option.{none-some, slice_get_within}
use Rattle.mi_base.specs.declared.records.LogEvent.{LogEvent}
use Rattle.mi_base.specs.declared.records.Update.{Update}
use Rattle.mi_base.specs.declared.records.Update.TheVariants.{Insert}
use Rattle.mi_base.specs.Configuration.{Configuration}
use Rattle.mi_base.specs.History.{live, updates_of}
use Rattle.mi_base.specs.Prefixes.{has}
use Rattle.mi_base.proofs.LiveLemmas.{length_filter}
use Rattle.mi_base.proofs.SortingLemmas.{same_length}
use Rattle.mi_key.specs.declared.entries.Entry.{Entry}
use Rattle.mi_page.specs.Entries.{is_shown, outlives}
use Rattle.mi_page.specs.Nodes.{Node}
use Rattle.mi_tree.specs.Births.{born}
use Rattle.mi_tree.specs.Cells.{Grid}
use Rattle.mi_tree.proofs.ListLemmas.{all_joined, all_weaker, filter_all}
use Rattle.mi_forest.specs.Forests.{Forest, IsChain, all_entries}
use Rattle.mi_forest.proofs.ChainLemmas.{lows_rise}
use Rattle.mi_forest.proofs.HandLemmas.{allotted_below}
use Rattle.mi_forest.proofs.MoveLemmas.{level_in, stands}
use Rattle.mi_forest.proofs.NumberLemmas.{all_from_has}
use Rattle.mi_entries.specs.Entries.{HasPlace, Shows, born_in, counts, depth_of, grid, id_of, is_in, is_placed, key_down}
use Rattle.mi_entries.proofs.FilterLemmas.{all_both}
use Rattle.mi_entries.proofs.RecordLemmas.{born_live, object}
use Rattle.mi_core.specs.Counted.{total}
use Rattle.mi_core.specs.Pages.{forest_of, node_or_fresh}
use Rattle.mi_core.specs.Sound.{Sound}
use Rattle.mi_core.specs.State.{State, node_at}
use Rattle.mi_core.proofs.KeptLemmas.{floor_position}
use Rattle.mi_solo.specs.Solos.{entries_on}
use Rattle.mi_settle.specs.Entries.{IsTrimmed, NoSplits, NoSweeps, entry_count}

-- with one page gone
sum_without : (pages : List (Option Node)) (n : ℕ) → total entries_on (set pages n None) + entries_on (node_at pages n) ≡ total entries_on pages
sum_without [] n = refl
sum_without (x ∷ pages) zero = omega arith
sum_without (x ∷ pages) (suc n) = omega (arith, sum_without pages n)

gone : (pages : List (Option Node)) (n : ℕ) → node_at (set pages n None) n ≡ None
gone [] n = refl
gone (x ∷ pages) zero = refl
gone (x ∷ pages) (suc n) = gone pages n

no_entries : (pages : List (Option Node)) → ((p : ℕ) → entries_on (node_at pages p) ≡ 0) → total entries_on pages ≡ 0
no_entries [] h = refl
no_entries (x ∷ pages) h =
    let here : entries_on x ≡ 0 = h 0 in
    omega (arith, here, no_entries pages (λ p. h (suc p)))

-- where the pages of a chain alone have entries
chain_sum : (node : ℕ → Node) (ns : List ℕ) → IsChain node 0 ns → (pages : List (Option Node)) → AllByRecursion (λ m. entries_on (node_at pages m) ≡ length (node m).entries) ns
    → ((p : ℕ) → has p ns ≡ false → entries_on (node_at pages p) ≡ 0) → total entries_on pages ≡ length (flat_map (λ m. (node m).entries) ns)
chain_sum node [] c pages own others = no_entries pages (λ p. others p refl)
chain_sum node (n ∷ ns) c pages own others =
    let left : List (Option Node) = set pages n None in
    let stay : AllByRecursion (λ m. entries_on (node_at left m) ≡ length (node m).entries) ns =
    all_weaker (λ m. ((node n).low < (node m).low) × (entries_on (node_at pages m) ≡ length (node m).entries)) (λ m. entries_on (node_at left m) ≡ length (node m).entries) (λ m h.
    let low = h.0 in
    let apart : m ≢ n = λ e. let same = ap (λ k. (node k).low) e in omega arith in
    ap entries_on (get_or-set_other pages n m None None apart) ∙ h.1) ns
    (all_both (λ m. (node n).low < (node m).low) (λ m. entries_on (node_at pages m) ≡ length (node m).entries) ns (lows_rise node 0 n ns c) own.1) in
    let rest = chain_sum node ns c.1 left stay (λ p out. elim (cases_eq p n) [
      | inl e ↦ ap (λ q. entries_on (node_at left q)) e ∙ ap entries_on (gone pages n)
      | inr o ↦ ap entries_on (get_or-set_other pages n p None None o) ∙ others p (rw (ne_eqb n p (λ e. o (sym e)), out) refl)
    ]) in
    omega (arith, sum_without pages n, own.0, rest, length-append (node n).entries (flat_map (λ m. (node m).entries) ns))

-- where no page has more than 32 entries, and only the first so many have any
few_entries : (pages : List (Option Node)) (a : ℕ) → ((p : ℕ) → entries_on (node_at pages p) ≤ 32) → ((p : ℕ) → a ≤ p → entries_on (node_at pages p) ≡ 0)
    → total entries_on pages ≤ 32 * a
few_entries [] a few none = omega arith
few_entries (x ∷ pages) zero few none = omega (arith, no_entries (x ∷ pages) (λ p. none p (omega arith)))
few_entries (x ∷ pages) (suc a) few none =
    let here : entries_on x ≤ 32 = few 0 in
    omega (arith, here, few_entries pages a (λ p. few (suc p)) (λ p le. none (suc p) (omega (arith, le))))

entries_by : (o : Option Node) → entries_on o ≡ length (node_or_fresh o).entries
entries_by None = refl
entries_by (Some n) = refl

all_flat : (P : Entry → Type 0) (node : ℕ → Node) (ns : List ℕ) → AllByRecursion (λ n. AllByRecursion P (node n).entries) ns → AllByRecursion P (flat_map (λ n. (node n).entries) ns)
all_flat P node [] h = tt
all_flat P node (n ∷ ns) h = all_joined P (node n).entries (flat_map (λ m. (node m).entries) ns) h.0 (all_flat P node ns h.1)

all_at : (P : Entry → Type 0) (o : Option Node) → ((n : Node) → o ≡ Some n → AllByRecursion P n.entries) → AllByRecursion P (node_or_fresh o).entries
all_at P None h = tt
all_at P (Some n) h = h n refl

module _ (s : State) (k : Sound s) where
  abbrev c : Configuration
  c = s.board.settings

  abbrev g : Grid
  g = grid s.board.settings

  abbrev log : List LogEvent
  log = s.board.log

  abbrev us : List Update
  us = updates_of s.board.log

  abbrev f : Forest
  f = forest_of s.board s.pages s.actors k.chain

  abbrev F : List Entry
  F = all_entries (forest_of s.board s.pages s.actors k.chain)

  none_outside : (p : ℕ) → has p (k.chain 0) ≡ false → entries_on (node_at s.pages p) ≡ 0
  none_outside p out =
      let P : Option Node → Type 0 = λ o. node_at s.pages p ≡ o → entries_on o ≡ 0 in
      (elim (node_at s.pages p) as P [
        | None ↦ λ e. refl
        | Some n ↦ λ e.
            let linked = k.pages.linked p n e in
            let here : f.node p ≡ n = ap node_or_fresh e in
            elim (cases_lt 0 (f.node p).level) [
              | inl up ↦ ap length (ap (λ (m : Node). m.entries) (sym here) ∙ (stands f k.pages.forest p linked).stands.page.inner up)
              | inr low ↦
                  let least : (f.node p).level ≡ 0 = omega arith in
                  absurd (false≢true (sym out ∙ ap (λ l. has p (k.chain l)) (sym least) ∙ linked))
            ]
      ]) refl

  -- the entries of all pages are those of the leaf pages from left to right
  pub count_is : entry_count s ≡ length F
  count_is = chain_sum f.node (k.chain 0) (k.pages.forest.chains 0) s.pages (all_from_has _ (k.chain 0) (λ m _. entries_by (node_at s.pages m))) none_outside

  few_on : (p : ℕ) → entries_on (node_at s.pages p) ≤ 32
  few_on p =
      let P : Option Node → Type 0 = λ o. node_at s.pages p ≡ o → entries_on o ≤ 32 in
      (elim (node_at s.pages p) as P [
        | None ↦ λ e. omega arith
        | Some n ↦ λ e.
            let here : f.node p ≡ n = ap node_or_fresh e in
            let few = (stands f k.pages.forest p (k.pages.linked p n e)).stands.page.entries.few in
            omega (arith, few, length-map (f.node p).entries (λ (x : Entry). x.key), ap (λ (m : Node). length m.entries) here)
      ]) refl

  none_past : (p : ℕ) → s.board.allotted ≤ p → entries_on (node_at s.pages p) ≡ 0
  none_past p past =
      let P : Option Node → Type 0 = λ o. node_at s.pages p ≡ o → entries_on o ≡ 0 in
      (elim (node_at s.pages p) as P [
        | None ↦ λ e. refl
        | Some n ↦ λ e. absurd (omega (arith, past, allotted_below f k.pages.forest p (k.pages.linked p n e)))
      ]) refl

  pub entries_few : entry_count s ≤ 32 * s.board.allotted
  entries_few = few_entries s.pages s.board.allotted few_on none_past

  shown : Shows g log F
  shown = subst (λ (l : List LogEvent). Shows g l F) (take-length log) (k.entries.shows (length log) (floor_position s k).within (omega arith))

  -- as many count as there are live objects
  counted : length (filter (counts g log) F) ≡ length (live us)
  counted = sym (length-map (filter (counts g log) F) born_in) ∙ same_length _ _ shown.same ∙ sym (length-map (born us) object) ∙ ap length (born_live us)

  pub enough : length (live us) ≤ entry_count s
  enough = omega (arith, count_is, counted, length_filter (counts g log) F)

  module _ (swept : s.board.retired ≡ []) (sweeps : NoSweeps s) (splits : NoSplits s) where
    -- an entry lies in its leaf
    at_leaf : (e : Entry) → (h : HasPlace c log s.actors s.board.retired e) → h.is.down ≡ depth_of g log e
    at_leaf e h =
        let near = h.is.near in
        elim (cases_eq h.is.down (depth_of g log e + 1)) [
          | inl deeper ↦ let w = (h.copied deeper).1 in absurd (none-some w.work (sym (splits w.by w.actor w.there) ∙ w.split))
          | inr n ↦ elim (cases_lt h.is.down (depth_of g log e)) [
            | inl above ↦ elim (h.left above) [
              | inl r ↦ absurd (false≢true (sym (ap (list_any (λ q. is_in g q e)) swept) ∙ r))
              | inr w ↦ absurd (none-some w.work (sym (sweeps w.by w.actor w.there) ∙ w.sweep))
            ]
            | inr le ↦ omega arith
          ]
        ]

    each_counts : (e : Entry) → HasPlace c log s.actors s.board.retired e → outlives e.death (length us) ≡ true → counts g log e ≡ true
    each_counts e h lives =
        let first = h.is.born.0 in
        let within = slice_get_within us (e.birth - 1) (Insert (id_of e) e.vector) h.is.born.1 in
        let placed : is_placed g log e ≡ true = eq-eqb e.key (key_down g (depth_of g log e) (born_in e)) (h.is.keyed ∙ ap (λ d. key_down g d (born_in e)) (at_leaf e h)) in
        let seen : nat_le e.birth (length us) ≡ true = le-leb e.birth (length us) (omega arith) in
        and_from (is_shown (length us) e) (is_placed g log e) (and_from (nat_le e.birth (length us)) (outlives e.death (length us)) seen lives) placed

    pub exact : IsTrimmed s → entry_count s ≡ length (live us)
    exact trimmed =
        let P : Entry → Type 0 = λ e. outlives e.death (length us) ≡ true in
        let alive : AllByRecursion P F = all_flat P f.node (k.chain 0) (all_from_has (λ n. AllByRecursion P (f.node n).entries) (k.chain 0) (λ p t.
        let level : (f.node p).level ≡ 0 = level_in f.node 0 p (k.chain 0) (k.pages.forest.chains 0) t in
        all_at P (node_at s.pages p) (λ n e. trimmed p n e (sym (ap (λ (o : Option Node). (node_or_fresh o).level) e) ∙ level)))) in
        let all = all_weaker _ (λ e. counts g log e ≡ true) (λ e h. each_counts e h.0 h.1) F (all_both (HasPlace c log s.actors s.board.retired) P F k.entries.places alive) in
        count_is ∙ sym (ap length (filter_all (counts g log) F all)) ∙ counted
