-- What a section of the walk over one leaf adds to what was gathered.
use Rattle.std.proofs.Common.{◌≡◌, ℕ, ℤ, ◌+◌, ◌*◌, ◌<◌, ◌≤◌, ◌^◌, List, [], ◌∷◌, ◌++◌, length, take, map, Bool, true, false, cond, refl, sym, ap, ◌∙◌, subst, arith, append_assoc, length-append, zero-add}
use Rattle.std.specs.Prelude.{nat_lt}
use Rattle.std.specs.List.{filter}
use Rattle.std.proofs.lemmas.Nat.{mul-le}
use Rattle.std.proofs.lemmas.List.{length-map}
use Rattle.std.proofs.lemmas.List.Sums.{count_by-le-length}
use Rattle.std.proofs.Math.ListN.{length-take}
use Rattle.mi_base.specs.declared.records.LogEvent.{LogEvent}
use Rattle.mi_base.specs.declared.records.Position.{Position}
use Rattle.mi_base.specs.Configuration.{Configuration}
use Rattle.mi_base.specs.History.{updates_of}
use Rattle.mi_base.specs.Space.{MetricSpace}
use Rattle.mi_base.proofs.LiveLemmas.{few_live, length_filter}
use Rattle.mi_base.proofs.SortingLemmas.{same_length, same_sorted}
use Rattle.mi_blink.specs.declared.walk.Walk.{Walk}
use Rattle.mi_blink.specs.declared.walk.WalkTurn.{WalkTurn}
use Rattle.mi_blink.specs.declared.walk.WalkTurn.TheVariants as turns
use Rattle.mi_blink.specs.Walking.{so_far_after}
use Rattle.mi_key.specs.Entries.{Offering}
use Rattle.mi_key.specs.Keys.{parts_of}
use Rattle.mi_key.specs.Ranges.{is_within}
use Rattle.mi_key.specs.Shown.{Shown, below, offerings, shown_cmp, within}
use Rattle.mi_range.specs.declared.range.RangeOp.{RangeOp}
use Rattle.mi_range.specs.Opening.{leaf_offered, leaves_offered}
use Rattle.mi_range.specs.Querying.{Gathered, SiftsOn, first_of, offered_of}
use Rattle.mi_range.specs.Ranging.{RangeWorkState, TakesRange, compared_count}
use Rattle.mi_range.specs.Taking.{takes_more}
use Rattle.mi_range.proofs.NextLemmas.{times}
use Rattle.mi_rules.specs.Passing.{lets_through, passes}
use Rattle.mi_rules.specs.Spans.{is_in_span}
use Rattle.mi_tree.specs.declared.outcomes.Leaf.{Leaf}
use Rattle.mi_tree.specs.Births.{born, object_born}
use Rattle.mi_tree.proofs.BirthLemmas.{born_live}
use Rattle.mi_tree.proofs.LimitLemmas.{few_cells}
use Rattle.mi_world.specs.LeafKeys.{shown, shown_as}
use Rattle.mi_world.specs.Pages.{pinned}
use Rattle.mi_world.specs.Queries.{Pinned, pinned_cells}
use Rattle.mi_world.specs.View.{View}

-- of each leaf no more is offered than is shown
leaf_short : (dq : List ℕ) (radius levels : ℕ) (xs : List Shown) (l : Leaf) → length (leaf_offered dq radius levels xs l) ≤ length xs
leaf_short dq radius levels xs l =
    let ys = filter (λ (x : Shown). is_in_span dq radius levels l.prefix (parts_of x.key)) xs in
    let short = length_filter (λ (x : Shown). is_in_span dq radius levels l.prefix (parts_of x.key)) xs in
    let P : Bool → Type 0 = λ b. length (cond b (offerings ys) []) ≤ length xs in
    elim (passes dq radius l) as P [ true ↦ omega (arith, short, length-map ys (λ (x : Shown). x.offering)) | false ↦ omega arith ]

leaves_short : (dq : List ℕ) (radius levels : ℕ) (xs : List Shown) (ls : List Leaf) → length (leaves_offered dq radius levels xs ls) ≤ length ls * length xs
leaves_short dq radius levels xs [] = omega arith
leaves_short dq radius levels xs (l ∷ ls) =
    omega (
      arith,
      length-append (leaf_offered dq radius levels xs l) (leaves_offered dq radius levels xs ls),
      leaf_short dq radius levels xs l,
      leaves_short dq radius levels xs ls,
      times (length (l ∷ ls)) (length ls) (length xs) (omega arith),
    )

length_shown : (c : Configuration) (log : List LogEvent) → length (shown c log) ≤ length (updates_of log)
length_shown c log =
    let bs = born (updates_of log) in
    omega (
      arith,
      same_length (shown c log) (map (shown_as c log) bs) (same_sorted shown_cmp (map (shown_as c log) bs)),
      length-map bs (shown_as c log),
      length-map bs object_born,
      ap length (born_live (updates_of log)),
      few_live (updates_of log),
    )

walk_short : (turn : WalkTurn) (walk : Walk) (w : View) → length (so_far_after turn walk w) ≤ length (shown w.settings (pinned w))
walk_short turns.More walk w =
    let xs = shown w.settings (pinned w) in
    let ys = within walk.range xs in
    omega (
      arith,
      length_filter (λ (x : Shown). is_within walk.range x.key) xs,
      length_filter (λ (x : Shown). nat_lt x.key (w.low walk.descent.page)) ys,
      length-map (below (w.low walk.descent.page) ys) (λ (x : Shown). x.offering),
    )
walk_short turns.Done walk w =
    let xs = shown w.settings (pinned w) in
    omega (arith, length_filter (λ (x : Shown). is_within walk.range x.key) xs, length-map (within walk.range xs) (λ (x : Shown). x.offering))

-- so few objects are offered that the distances are counted in 64 bits
pub few_offered : (op : RangeOp) (at : Position) (place : ℕ) (turn : WalkTurn) (walk : Walk) (w : View) → Pinned at w
    → length (offered_of op w (take place (pinned_cells w)) ++ so_far_after turn walk w) < 2 ^ 60
few_offered op at place turn walk w holds =
    let front = offered_of op w (take place (pinned_cells w)) in
    let xs = shown w.settings (pinned w) in
    let dq = Rattle.mi_range.specs.Querying.dists_of op w in
    let n : length xs ≤ 200000 = omega (arith, length_shown w.settings (pinned w), holds.legal.few, holds.limits.updates.1) in
    let cells = few_cells w.settings holds.limits (pinned w) holds.legal in
    let some : length (take place (pinned_cells w)) ≤ 4294967295 = omega (arith, cells, length-take {A = Leaf} place (pinned_cells w)) in
    let most : length (take place (pinned_cells w)) * length xs ≤ 4294967295 * 200000 = mul-le (length (take place (pinned_cells w))) (length xs) 4294967295 200000 some n in
    omega (arith, length-append front (so_far_after turn walk w), leaves_short dq op.radius w.settings.levels xs (take place (pinned_cells w)), most, walk_short turn walk w, n)

-- from another number of steps on
from_steps : (m : MetricSpace) (query : List ℤ) (u w : RangeWorkState) (k n j : ℕ) (xs : List Offering) → TakesRange m query u k xs w n → TakesRange m query u j xs w (j + compared_count u.dists u.radius xs)
from_steps m query u w k n j xs t = record { same_dists = t.same_dists; same_radius = t.same_radius; rows_are = t.rows_are; distances_are = t.distances_are; ticks = refl }

-- room for more rows changes nothing that counts
pub roomy : (m : MetricSpace) (query : List ℤ) (dq : List ℕ) (radius : ℕ) (os : List Offering) (k r : RangeWorkState) → r ≡ record k { spare = r.spare }
    → Gathered m query dq radius os k → Gathered m query dq radius os r
roomy m query dq radius os k r same g =
    let made : RangeWorkState = record { dists = k.dists; radius = k.radius; rows = k.rows; distances = k.distances; spare = r.spare } in
    let t = g.takes in
    let here : Gathered m query dq radius os made = record { takes = record { same_dists = t.same_dists; same_radius = t.same_radius; rows_are = t.rows_are; distances_are = t.distances_are; ticks = t.ticks }; exact = g.exact } in
    subst (λ (x : RangeWorkState). Gathered m query dq radius os x) (sym same) here

-- nothing was offered yet
pub gathers_none : (m : MetricSpace) (query : List ℤ) (dq : List ℕ) (radius : ℕ) (work : RangeWorkState) → work.dists ≡ dq → work.radius ≡ radius → work.rows ≡ [] → work.distances ≡ length dq
    → Gathered m query dq radius [] work
gathers_none m query dq radius work dists same rows counted = record {
  takes = record { same_dists = dists; same_radius = same; rows_are = rows; distances_are = λ _. omega (arith, counted); ticks = omega arith };
  exact = omega (arith, counted);
}

module _ (m : MetricSpace) (query : List ℤ) (dq : List ℕ) (radius : ℕ) (front before after : List Offering) (old new : RangeWorkState) (steps new_steps : ℕ)
    (g : Gathered m query dq radius (front ++ before) old) (s : SiftsOn m query old steps before new new_steps after) (few : length (front ++ after) < 2 ^ 60) (dims : length dq ≤ 32) where
  joined : (front ++ before) ++ s.delta ≡ front ++ after
  joined = append_assoc front before s.delta ∙ ap (λ (os : List Offering). front ++ os) s.joins

  both : TakesRange m query (first_of dq radius) 0 (front ++ after) new (compared_count dq radius (front ++ after))
  both =
      let n = compared_count dq radius (front ++ before) in
      let one = from_steps m query old new steps new_steps n s.delta s.takes in
      let all = takes_more m query (first_of dq radius) old new 0 n (n + compared_count old.dists old.radius s.delta) (front ++ before) s.delta g.takes one in
      let based = from_steps m query (first_of dq radius) new 0 (n + compared_count old.dists old.radius s.delta) 0 ((front ++ before) ++ s.delta) all in
      subst (λ (k : ℕ). TakesRange m query (first_of dq radius) 0 (front ++ after) new k) (zero-add (compared_count dq radius (front ++ after)))
      (subst (λ (os : List Offering). TakesRange m query (first_of dq radius) 0 os new (0 + compared_count dq radius os)) joined based)

  few_compared : compared_count dq radius (front ++ after) < 2 ^ 60
  few_compared = omega (arith, few, count_by-le-length (λ (o : Offering). lets_through radius dq o.dists) (front ++ after))

  pub gathers : Gathered m query dq radius (front ++ after) new
  gathers = record { takes = both; exact = both.distances_are (omega (arith, few_compared, dims)) }

  pub ticked : new_steps + old.distances ≡ steps + new.distances
  ticked =
      let n = compared_count dq radius (front ++ before) in
      let all = takes_more m query (first_of dq radius) old new 0 n (n + compared_count old.dists old.radius s.delta) (front ++ before) s.delta g.takes (from_steps m query old new steps new_steps n s.delta s.takes) in
      let counted : n + compared_count old.dists old.radius s.delta ≡ 0 + compared_count dq radius ((front ++ before) ++ s.delta) = all.ticks in
      let same : compared_count dq radius ((front ++ before) ++ s.delta) ≡ compared_count dq radius (front ++ after) = ap (compared_count dq radius) joined in
      omega (arith, counted, same, g.exact, gathers.exact, s.takes.ticks)
