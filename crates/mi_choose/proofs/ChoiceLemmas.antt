-- What is true of the objects that are chosen farthest first.
use Rattle.std.proofs.Common.{◌≡◌, ℕ, zero, suc, ◌+◌, ◌*◌, ◌<◌, ◌≤◌, List, [], ◌∷◌, ◌++◌, length, map, get_or, min, refl, ap, sym, ◌∙◌, subst, arith, eqb, cond, ◌⊎◌, inl, inr, length-append, Option, None, Some}
use Rattle.std.specs.Prelude.{ℤ, IsTrue}
use Rattle.std.specs.List.{All, AllByRecursion, position_or_len}
use Rattle.std.proofs.lemmas.Bool.{cases_lt, eq-eqb, ne_eqb}
use Rattle.std.proofs.lemmas.List.{ext_get_or, get_or-map, map-append, length-map}
use Rattle.std.proofs.lemmas.List.Elements.{All-from_recursion, All-get_or, All-head, All-tail, All-nil, All-push}
use Rattle.mi_base.specs.declared.limits.TheConstants.{MAX_DISTANCE}
use Rattle.mi_base.specs.Space.{IsMetric, MetricSpace}
use Rattle.mi_choose.specs.Covering.{cover_of, from_nearest, greatest, least_distance}
use Rattle.mi_choose.specs.Farthest.{IsFarthestFirst, apart_of, chosen_after, far_of, farthest_place, objects_at}
use Rattle.mi_choose.proofs.CoverLemmas.{cover_falls, cover_most, farthest_is, first-map, from_nearest-append}
use Rattle.mi_choose.proofs.ApartLemmas.{least_distance-append}
use Rattle.mi_choose.proofs.PigeonholeLemmas.{LiesWithin, two_are_near}

-- what is true of each object is true of those at some places
all_at : (P : List ℤ → Type 0) (objects : List (List ℤ)) (places : List ℕ) → AllByRecursion P objects → All (λ p. p < length objects) places → AllByRecursion P (objects_at objects places)
all_at P objects [] each inside = tt
all_at P objects (p ∷ places) each inside = (
  All-get_or P objects p [] (All-head (λ q. q < length objects) p places inside) (All-from_recursion P objects each),
  all_at P objects places each (All-tail (λ q. q < length objects) p places inside),
)

objects_at-append : (objects : List (List ℤ)) (places : List ℕ) (p : ℕ) → objects_at objects (places ++ p ∷ []) ≡ objects_at objects places ++ get_or objects p [] ∷ []
objects_at-append objects places p = map-append (λ q. get_or objects q []) places (p ∷ [])

-- each object lies within the cover
within_cover : (m : MetricSpace) (objects members : List (List ℤ)) (radius : ℕ) → AllByRecursion (λ v. IsTrue (m.fits v)) objects → cover_of m objects members ≤ radius → AllByRecursion (LiesWithin m radius members) objects
within_cover m [] members radius fit most = tt
within_cover m (v ∷ objects) members radius fit most =
    (record { fits = fit.0; near = omega arith }, within_cover m objects members radius fit.1 (omega arith))

-- where each object is at a chosen one, no more are chosen
pub stops : (m : MetricSpace) (objects : List (List ℤ)) (count : ℕ) (chosen : List ℕ) → cover_of m objects (objects_at objects chosen) ≡ 0 → chosen_after m objects count chosen ≡ chosen
stops m objects zero chosen none = refl
stops m objects (suc count) chosen none =
    ap (λ b. cond b chosen (chosen_after m objects count (chosen ++ farthest_place m objects (objects_at objects chosen) ∷ []))) (eq-eqb (cover_of m objects (objects_at objects chosen)) 0 none)

-- else the first of the farthest is
pub goes_on : (m : MetricSpace) (objects : List (List ℤ)) (count : ℕ) (chosen : List ℕ) → 0 < cover_of m objects (objects_at objects chosen)
    → chosen_after m objects (suc count) chosen ≡ chosen_after m objects count (chosen ++ farthest_place m objects (objects_at objects chosen) ∷ [])
goes_on m objects count chosen some =
    ap (λ b. cond b chosen (chosen_after m objects count (chosen ++ farthest_place m objects (objects_at objects chosen) ∷ [])))
    (ne_eqb (cover_of m objects (objects_at objects chosen)) 0 (λ none. omega arith))

-- there are objects where the cover isn't 0
pub some_object : (m : MetricSpace) (objects members : List (List ℤ)) → 0 < cover_of m objects members → 0 < length objects
some_object m [] members h = absurd (omega arith)
some_object m (v ∷ objects) members h = omega arith

-- all are chosen that were wanted, or each object is at one that is chosen
enough_after : (m : MetricSpace) (objects : List (List ℤ)) (count : ℕ) (chosen : List ℕ)
    → (cover_of m objects (objects_at objects (chosen_after m objects count chosen)) ≡ 0) ⊎ (length (chosen_after m objects count chosen) ≡ length chosen + count)
enough_after m objects zero chosen = inr (omega arith)
enough_after m objects (suc count) chosen =
    let Enough : List ℕ → Type 0 = λ all. (cover_of m objects (objects_at objects all) ≡ 0) ⊎ (length all ≡ length chosen + suc count) in
    let place = farthest_place m objects (objects_at objects chosen) in
    elim (cases_lt 0 (cover_of m objects (objects_at objects chosen))) [
      | inl some ↦ subst Enough (sym (goes_on m objects count chosen some)) (elim (enough_after m objects count (chosen ++ place ∷ [])) [
        | inl none ↦ inl none
        | inr all ↦ inr (omega (arith, all, length-append chosen (place ∷ [])))
      ])
      | inr none ↦ let is : cover_of m objects (objects_at objects chosen) ≡ 0 = omega arith in
          subst Enough (sym (stops m objects (suc count) chosen is)) (inl is)
    ]

-- what the code finds of the distances so far is the farthest object and the cover
pub found_farthest : (m : MetricSpace) (objects members : List (List ℤ)) (ds : List ℕ) (distance place : ℕ) → ds ≡ map (from_nearest m members) objects
    → distance ≡ greatest ds → place ≡ position_or_len (λ d. eqb d (greatest ds)) ds → (distance ≡ cover_of m objects members) × (place ≡ farthest_place m objects members)
found_farthest m objects members ds distance place is far at_place = (
  far ∙ ap greatest is,
  at_place ∙ ap (λ ns. position_or_len (λ d. eqb d (greatest ns)) ns) is ∙ first-map (from_nearest m members) (λ d. eqb d (cover_of m objects members)) objects,
)

-- the distances where one more is chosen
pub nearer_distances : (m : MetricSpace) (objects : List (List ℤ)) (chosen : List ℕ) (place : ℕ) (member : List ℤ) (ds es : List ℕ) → ds ≡ map (from_nearest m (objects_at objects chosen)) objects
    → get_or objects place [] ≡ member → length es ≡ length objects → ((k : ℕ) → k < length objects → get_or es k 0 ≡ min (m.d (get_or objects k []) member) (get_or ds k 0))
    → es ≡ map (from_nearest m (objects_at objects (chosen ++ place ∷ []))) objects
nearer_distances m objects chosen place member ds es is there long nearer =
    let members = objects_at objects chosen in
    let all : objects_at objects (chosen ++ place ∷ []) ≡ members ++ member ∷ [] = objects_at-append objects chosen place ∙ ap (λ v. members ++ v ∷ []) there in
    let each : (k : ℕ) → k < length es → get_or es k 0 ≡ get_or (map (from_nearest m (members ++ member ∷ [])) objects) k 0 = λ k h.
    let inside : k < length objects = omega arith in
    let before : get_or ds k 0 ≡ from_nearest m members (get_or objects k []) = ap (λ ns. get_or ns k 0) is ∙ get_or-map (from_nearest m members) objects k [] 0 inside in
    let after : get_or (map (from_nearest m (members ++ member ∷ [])) objects) k 0 ≡ from_nearest m (members ++ member ∷ []) (get_or objects k []) =
    get_or-map (from_nearest m (members ++ member ∷ [])) objects k [] 0 inside in
    omega (arith, nearer k inside, before, after, from_nearest-append m members member (get_or objects k [])) in
    ext_get_or 0 es (map (from_nearest m (members ++ member ∷ [])) objects) (omega (arith, length-map objects (from_nearest m (members ++ member ∷ [])))) each
    ∙ ap (λ vs. map (from_nearest m vs) objects) (sym all)

-- chosen places are places of objects, and these are as far apart as they leave the objects, or farther
record AreSpread (m : MetricSpace) (objects : List (List ℤ)) (chosen : List ℕ) : Type 0 where
  pub inside : All (λ p. p < length objects) chosen
  pub apart : cover_of m objects (objects_at objects chosen) ≤ least_distance m (objects_at objects chosen)

none_spread : (m : MetricSpace) (objects : List (List ℤ)) → AreSpread m objects []
none_spread m objects = record { inside = All-nil (λ p. p < length objects); apart = cover_most m objects [] }

-- without objects, and with some
far_none : (m : MetricSpace) (chosen : List ℕ) (objects : List (List ℤ)) → length objects ≡ 0 → far_of m objects chosen ≡ None
far_none m chosen [] h = refl
far_none m chosen (v ∷ objects) h = absurd (omega arith)

far_some : (m : MetricSpace) (chosen : List ℕ) (objects : List (List ℤ)) → 0 < length objects → far_of m objects chosen ≡ Some (farthest_place m objects (objects_at objects chosen))
far_some m chosen [] h = absurd (omega arith)
far_some m chosen (v ∷ objects) h = refl

cover_none : (m : MetricSpace) (objects members : List (List ℤ)) → length objects ≡ 0 → cover_of m objects members ≡ 0
cover_none m [] members h = refl
cover_none m (v ∷ objects) members h = absurd (omega arith)

module _ (m : MetricSpace) (laws : IsMetric m) (objects : List (List ℤ)) (fit : AllByRecursion (λ v. IsTrue (m.fits v)) objects) where
  -- with the farthest object they are as far apart as they leave the objects
  with_farthest : (chosen : List ℕ) → 0 < length objects → AreSpread m objects chosen
      → least_distance m (objects_at objects (chosen ++ farthest_place m objects (objects_at objects chosen) ∷ [])) ≡ cover_of m objects (objects_at objects chosen)
  with_farthest chosen some spread =
      let members = objects_at objects chosen in
      let place = farthest_place m objects members in
      let far = farthest_is m objects members some in
      let fits : IsTrue (m.fits (get_or objects place [])) = All-get_or (λ v. IsTrue (m.fits v)) objects place [] far.0 (All-from_recursion (λ v. IsTrue (m.fits v)) objects fit) in
      let added : least_distance m (members ++ get_or objects place [] ∷ []) ≡ min (least_distance m members) (from_nearest m members (get_or objects place [])) =
      least_distance-append m laws members (get_or objects place []) (all_at (λ v. IsTrue (m.fits v)) objects chosen fit spread.inside) fits in
      ap (least_distance m) (objects_at-append objects chosen place) ∙ omega (arith, added, far.1, spread.apart)

  spread_more : (chosen : List ℕ) → 0 < length objects → AreSpread m objects chosen → AreSpread m objects (chosen ++ farthest_place m objects (objects_at objects chosen) ∷ [])
  spread_more chosen some spread =
      let members = objects_at objects chosen in
      let place = farthest_place m objects members in
      let falls : cover_of m objects (objects_at objects (chosen ++ place ∷ [])) ≤ cover_of m objects members =
      subst (λ vs. cover_of m objects vs ≤ cover_of m objects members) (sym (objects_at-append objects chosen place)) (cover_falls m objects members (get_or objects place [])) in
      record {
        inside = All-push (λ p. p < length objects) chosen place spread.inside (farthest_is m objects members some).0;
        apart = omega (arith, falls, with_farthest chosen some spread);
      }

  spread_after : (count : ℕ) (chosen : List ℕ) → AreSpread m objects chosen → AreSpread m objects (chosen_after m objects count chosen)
  spread_after zero chosen spread = spread
  spread_after (suc count) chosen spread =
      let members = objects_at objects chosen in
      elim (cases_lt 0 (cover_of m objects members)) [
        | inl some ↦ subst (AreSpread m objects) (sym (goes_on m objects count chosen some)) (spread_after count (chosen ++ farthest_place m objects members ∷ []) (spread_more chosen (some_object m objects members some) spread))
        | inr none ↦ let is : cover_of m objects members ≡ 0 = omega arith in subst (AreSpread m objects) (sym (stops m objects (suc count) chosen is)) spread
      ]

  all_spread : (count : ℕ) (chosen : List ℕ) → chosen ≡ chosen_after m objects count [] → AreSpread m objects chosen
  all_spread count chosen is = subst (AreSpread m objects) (sym is) (spread_after count [] (none_spread m objects))

  -- the chosen places are places of objects
  pub places_inside : (count : ℕ) (chosen : List ℕ) → chosen ≡ chosen_after m objects count [] → All (λ p. p < length objects) chosen
  places_inside count chosen is = (all_spread count chosen is).inside

  -- all that are wanted are chosen and leave an object apart: then no others, as many or fewer, leave the objects less than half as far
  full_twice : (count : ℕ) (chosen : List ℕ) (others : List (List ℤ)) → 0 < length objects → AreSpread m objects chosen → length chosen ≡ count → AllByRecursion (λ v. IsTrue (m.fits v)) others
      → length others ≤ count → cover_of m objects others < MAX_DISTANCE → cover_of m objects (objects_at objects chosen) ≤ 2 * cover_of m objects others
  full_twice count chosen others some spread full fits few small =
      let place = farthest_place m objects (objects_at objects chosen) in
      let all = chosen ++ place ∷ [] in
      let inside : All (λ p. p < length objects) all = All-push (λ p. p < length objects) chosen place spread.inside (farthest_is m objects (objects_at objects chosen) some).0 in
      let radius = cover_of m objects others in
      let lie : AllByRecursion (LiesWithin m radius others) (objects_at objects all) = all_at (LiesWithin m radius others) objects all (within_cover m objects others radius fit (omega arith)) inside in
      let more : length others < length (objects_at objects all) = omega (arith, length-map all (λ p. get_or objects p []), length-append chosen (place ∷ [])) in
      omega (arith, with_farthest chosen some spread, two_are_near m laws radius others (objects_at objects all) more small fits lie)

  -- no others, as many or fewer, leave the objects less than half as far as those that are chosen farthest first
  pub twice : (count : ℕ) (others : List (List ℤ)) → AllByRecursion (λ v. IsTrue (m.fits v)) others → length others ≤ count
      → cover_of m objects (objects_at objects (chosen_after m objects count [])) ≤ 2 * cover_of m objects others
  twice count others fits few =
      let chosen = chosen_after m objects count [] in
      let members = objects_at objects chosen in
      elim (cases_lt (cover_of m objects others) MAX_DISTANCE) [
        | inl small ↦ elim (cases_lt 0 (cover_of m objects members)) [
          | inl some ↦ elim (enough_after m objects count []) [
            | inl none ↦ omega (arith, none)
            | inr full ↦ full_twice count chosen others (some_object m objects members some) (spread_after count [] (none_spread m objects)) (omega arith) fits few small
          ]
          | inr none ↦ omega arith
        ]
        | inr large ↦ omega (arith, cover_most m objects members)
      ]

  -- the choice, where the farthest object is told if there are objects
  pub choice_is : (count : ℕ) (chosen : List ℕ) (far : Option ℕ) (distance place : ℕ) → chosen ≡ chosen_after m objects count [] → distance ≡ cover_of m objects (objects_at objects chosen)
      → place ≡ farthest_place m objects (objects_at objects chosen) → ((length objects ≡ 0) × (far ≡ None)) ⊎ ((0 < length objects) × (far ≡ Some place))
      → IsFarthestFirst m objects count (record { chosen = chosen; far = far; cover = distance; apart = distance })
  choice_is count chosen far distance place is cover at_place told = record {
    chosen = is;
    far = elim told [ inl none ↦ none.1 ∙ sym (far_none m chosen objects none.0) | inr some ↦ some.1 ∙ ap Some at_place ∙ sym (far_some m chosen objects some.0) ];
    cover = cover;
    apart = elim told [
      | inl none ↦ cover ∙ cover_none m objects (objects_at objects chosen) none.0 ∙ ap (apart_of m objects chosen) (sym none.1)
      | inr some ↦
          cover ∙ sym (with_farthest chosen some.0 (all_spread count chosen is)) ∙ ap (λ p. apart_of m objects chosen (Some p)) (sym at_place) ∙ ap (apart_of m objects chosen) (sym some.1)
    ];
  }
