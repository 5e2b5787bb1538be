-- What a walk has offered grows to the whole.
use Rattle.std.proofs.Common.{◌≡◌, ℕ, ◌≤◌, List, [], ◌++◌, map, refl, sym, ap, ◌∙◌, subst, arith, IsTrue, Some, None, Option}
use Rattle.std.specs.Prelude.{unwrap_or, IsSome}
use Rattle.std.specs.Cmp.{on_total, nat_cmp_total}
use Rattle.std.proofs.lemmas.List.{map-append}
use Rattle.mi_base.specs.Sorting.{Ascends}
use Rattle.mi_base.specs.Configuration.{Configuration}
use Rattle.mi_base.specs.declared.records.LogEvent.{LogEvent}
use Rattle.mi_base.proofs.SortingLemmas.{sorted_ascends}
use Rattle.mi_base.specs.History.{updates_of}
use Rattle.mi_key.specs.Entries.{Offering}
use Rattle.mi_key.specs.declared.ranges.Interval.{Interval}
use Rattle.mi_world.specs.declared.answers.Visit.TheVariants.{Down, Right, Read}
use Rattle.mi_tree.specs.Births.{born}
use Rattle.mi_world.specs.Pages.{Visits, GoesRight, IsInLeaf, pinned}
use Rattle.mi_key.specs.Shown.{Shown, shown_cmp, within, below, from_on, offerings}
use Rattle.mi_world.specs.LeafKeys.{shown, shown_as}
use Rattle.mi_world.specs.View.{View, Later}
use Rattle.mi_blink.specs.declared.walk.Walk.{Walk}
use Rattle.mi_blink.specs.declared.walk.WalkTurn.TheVariants.{More, Done}
use Rattle.mi_blink.specs.Walking.{Ready, Walked, Offers, so_far, whole}
use Rattle.mi_blink.proofs.DescentLemmas.{down_less, right_less}
use Rattle.mi_blink.proofs.ShownLemmas.{below-from_on, below-more, below-within, ascends_filter}

shown_ascends : (c : Configuration) (log : List LogEvent) → Ascends shown_cmp (shown c log)
shown_ascends c log = sorted_ascends shown_cmp (on_total (λ (x : Shown). x.key) nat_cmp_total) (map (shown_as c log) (born (updates_of log)))

within_ascends : (range : Interval) (c : Configuration) (log : List LogEvent) → Ascends shown_cmp (within range (shown c log))
within_ascends range c log = ascends_filter _ _ (shown_ascends c log)

-- nothing lies below the interval
none_yet : (low : ℕ) (range : Interval) (c : Configuration) (log : List LogEvent) → low ≤ range.from → offerings (below low (within range (shown c log))) ≡ []
none_yet low range c log le = ap offerings (below-within low range le (shown c log))

pub none_at_root : (walk : Walk) (v : View) → v.low walk.descent.page ≡ 0 → so_far walk v ≡ []
none_at_root walk v e = none_yet (v.low walk.descent.page) walk.range v.settings (pinned v) (rw e (omega arith))

read_on : (low high : ℕ) → low ≤ high → (range : Interval) (c : Configuration) (log : List LogEvent)
    → offerings (below low (within range (shown c log))) ++ offerings (below high (from_on low (within range (shown c log)))) ≡ offerings (below high (within range (shown c log)))
read_on low high le range c log =
    sym (map-append (λ (x : Shown). x.offering) (below low (within range (shown c log))) (below high (from_on low (within range (shown c log)))))
    ∙ ap offerings (below-more low high le (within range (shown c log)) (within_ascends range c log))

read_end : (low : ℕ) (range : Interval) (c : Configuration) (log : List LogEvent)
    → offerings (below low (within range (shown c log))) ++ offerings (from_on low (within range (shown c log))) ≡ offerings (within range (shown c log))
read_end low range c log =
    sym (map-append (λ (x : Shown). x.offering) (below low (within range (shown c log))) (from_on low (within range (shown c log))))
    ∙ ap offerings (below-from_on low (within range (shown c log)) (within_ascends range c log))

some_pin : (p q : Option (List LogEvent)) → q ≡ p → IsSome p → IsSome q
some_pin p q e h = subst (λ x. IsSome x) (sym e) h

module _ {S : Type 0} (offered : S → List Offering → S → Type 0) (s t : S) (walk : Walk) (v w : View) (ready : Ready walk v) where
  same_pin : w.pin ≡ v.pin → pinned w ≡ pinned v
  same_pin e = ap (λ o. unwrap_or o []) e

  in_leaf : w.settings ≡ v.settings → w.pin ≡ v.pin → IsInLeaf w walk.range
  in_leaf e f = record {
    prefix = ready.inside.prefix;
    is_leaf = rw (e, f) ready.inside.is_leaf;
    inside = rw e ready.inside.inside;
  }

  moved : (q : ℕ) → Later v w → w.pin ≡ v.pin → IsTrue (w.named q) → w.level q ≤ 5 → (1 ≤ w.level q → w.low q ≤ walk.range.from) → Ready (record { descent = record { page = q }; range = walk.range }) w
  moved q l p n h low = record { pin = some_pin v.pin w.pin p ready.pin; named = n; small = h; low = low; inside = in_leaf l.settings p }

  pub walks_down : (q : ℕ) → Visits v w walk.descent.page walk.range (Down q) → Walked walk v More (record { descent = record { page = q }; range = walk.range }) w
  walks_down q k = record {
    answer = Down q;
    visits = k;
    follows = (refl, refl);
    range = refl;
    goes_on = (moved q k.later k.same.work.apart.pin k.answer.named (omega (arith, ready.small, k.answer.level_is)) (λ _. k.answer.low_is), down_less v w walk.descent.page q 0 walk.range.from ready.small k.answer);
  }

  pub walks_right : (q : ℕ) → Visits v w walk.descent.page walk.range (Right q) → Walked walk v More (record { descent = record { page = q }; range = walk.range }) w
  walks_right q k = record {
    answer = Right q;
    visits = k;
    follows = (refl, refl);
    range = refl;
    goes_on = (moved q k.later k.same.work.apart.pin k.answer.named (omega (arith, ready.small, k.answer.level_is)) (λ _. k.answer.low_is), right_less v w walk.descent.page q 0 walk.range.from k.answer);
  }

  pub walks_next : (q : ℕ) → Visits v w walk.descent.page walk.range (Read (Some q)) → Walked walk v More (record { descent = record { page = q }; range = walk.range }) w
  walks_next q k =
      let r = k.answer.1 in
      let d : GoesRight v w walk.descent.page q 0 (w.low q) = record { reached = k.answer.0.reached; named = r.0; level_is = r.1 ∙ sym k.answer.0.reached; low_is = omega arith; after = r.3; small = r.4; high_is = r.5 } in
      record {
        answer = Read (Some q);
        visits = k;
        follows = (refl, refl);
        range = refl;
        goes_on = (moved q k.later k.same.work.apart.pin r.0 (omega (arith, r.1)) (λ h. absurd (omega (arith, h, r.1))), right_less v w walk.descent.page q 0 (w.low q) d);
      }

  pub walks_end : Visits v w walk.descent.page walk.range (Read None) → Walked walk v Done walk w
  walks_end k = record { answer = Read None; visits = k; follows = (refl, refl); range = refl; goes_on = tt }

  -- a move down or to the right offers nothing
  pub offers_none : (q : ℕ) → v.low walk.descent.page ≤ walk.range.from → w.low q ≤ walk.range.from → offered s [] t → Offers offered s (so_far walk v) t (so_far (record { descent = record { page = q }; range = walk.range }) w)
  offers_none q a b o = record {
    delta = [];
    joins = ap (λ xs. xs ++ []) (none_yet (v.low walk.descent.page) walk.range v.settings (pinned v) a) ∙ sym (none_yet (w.low q) walk.range w.settings (pinned w) b);
    offers = o;
  }

  pub offers_page : (q : ℕ) → v.low walk.descent.page ≤ w.low q → w.settings ≡ v.settings → w.pin ≡ v.pin → offered s (offerings (below (w.low q) (from_on (v.low walk.descent.page) (within walk.range (shown v.settings (pinned v)))))) t
      → Offers offered s (so_far walk v) t (so_far (record { descent = record { page = q }; range = walk.range }) w)
  offers_page q le e f o = record {
    delta = offerings (below (w.low q) (from_on (v.low walk.descent.page) (within walk.range (shown v.settings (pinned v)))));
    joins = read_on (v.low walk.descent.page) (w.low q) le walk.range v.settings (pinned v)
        ∙ ap (λ c. offerings (below (w.low q) (within walk.range (shown c (pinned v))))) (sym e) ∙ ap (λ log. offerings (below (w.low q) (within walk.range (shown w.settings log)))) (sym (same_pin f));
    offers = o;
  }

  pub offers_last : w.settings ≡ v.settings → w.pin ≡ v.pin → offered s (offerings (from_on (v.low walk.descent.page) (within walk.range (shown v.settings (pinned v))))) t
      → Offers offered s (so_far walk v) t (whole walk w)
  offers_last e f o = record {
    delta = offerings (from_on (v.low walk.descent.page) (within walk.range (shown v.settings (pinned v))));
    joins = read_end (v.low walk.descent.page) walk.range v.settings (pinned v)
        ∙ ap (λ c. offerings (within walk.range (shown c (pinned v)))) (sym e) ∙ ap (λ log. offerings (within walk.range (shown w.settings log))) (sym (same_pin f));
    offers = o;
  }
