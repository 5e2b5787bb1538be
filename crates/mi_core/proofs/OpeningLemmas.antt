-- What was just opened is kept.
use Rattle.std.proofs.Common.{◌≡◌, ℕ, suc, zero, ◌==◌, [], length, take, get_or, Bool, true, false, cond, nat_eq, refl, sym, ap, ◌∙◌, subst, arith, Option, Some, None}
use Rattle.std.specs.Prelude.{slice_get, replicate}
use Rattle.std.specs.List.{find}
use Rattle.mi_base.specs.Configuration.{Configuration, IsWithinLimits, metric_space}
use Rattle.mi_page.specs.Nodes.{Node, fresh_node}
use Rattle.mi_core.specs.Actors.{Suits}
use Rattle.mi_board.specs.Actors.{idle}
use Rattle.mi_board.specs.declared.actors.ActorState.{ActorState}
use Rattle.mi_core.specs.Events.{opened, first_actor}
use Rattle.mi_forest.specs.Forests.{IsForest, IsLinked, first_chain, first_forest}
use Rattle.mi_core.specs.Sound.{Sound}
use Rattle.mi_core.specs.Pages.{ArePages, forest_of, has_page, node_or_fresh}
use Rattle.mi_core.specs.State.{count_if, State, node_at}
use Rattle.mi_entries.specs.Actors.{Actor}
use Rattle.mi_entries.specs.Records.{Shard, home, no_shard}
use Rattle.mi_entries.specs.Entries.{grid, Shows}
use Rattle.std.proofs.lemmas.Option.{none-some, same_Some}
use Rattle.mi_core.proofs.PageLemmas.{fun_same}
use Rattle.mi_base.specs.Prefixes.{has}
use Rattle.std.proofs.lemmas.Bool.{eqb-true}
use Rattle.std.proofs.Math.Bool.{or-false}
use Rattle.std.proofs.lemmas.List.{length-replicate}
use Rattle.mi_base.specs.Space.{IsMetric}
use Rattle.mi_forest.proofs.AllotLemmas.{first_is}

pub get_copy : {X : Type 0} (n i : ℕ) (x y : X) → slice_get (replicate n x) i ≡ Some y → x ≡ y
get_copy zero i x y e = cc
get_copy (suc n) zero x y e = same_Some x y e
get_copy (suc n) (suc i) x y e = get_copy n i x y e

pub or_copy : {X : Type 0} (n i : ℕ) (x : X) → get_or (replicate n x) i x ≡ x
or_copy zero i x = refl
or_copy (suc n) zero x = refl
or_copy (suc n) (suc i) x = or_copy n i x

pub count_none : {X : Type 0} (t : X → Bool) (x : X) → t x ≡ false → (n : ℕ) → count_if t (replicate n x) ≡ 0
count_none t x h zero = refl
count_none t x h (suc n) = let one : cond {A = ℕ} (t x) 1 0 ≡ 0 = ap (λ b. cond {A = ℕ} b 1 0) h in omega (arith, one, count_none t x h n)

both_none : {X : Type 0} (b : Bool) → cond {A = Option X} b None None ≡ None
both_none true = refl
both_none false = refl

module _ (c : Configuration) (limits : IsWithinLimits c) (metric : IsMetric (metric_space c)) (count more : ℕ) (pages_are : c.pages ≡ suc more) where
  abbrev s : State
  s = opened c count more

  node_first : (p : ℕ) → node_or_fresh (node_at s.pages p) ≡ fresh_node
  node_first zero = refl
  node_first (suc p) = ap node_or_fresh (or_copy more p None)

  forest_first : forest_of s.board s.pages s.actors first_chain ≡ first_forest
  forest_first =
      let nodes : (λ p. node_or_fresh (node_at s.pages p)) ≡ (λ p. fresh_node) = fun_same _ _ node_first in
      let hands : (λ p. count_if (has_page p) s.actors) ≡ (λ p. 0) = fun_same _ _ (λ p. count_none (has_page p) first_actor refl count) in
      ap (λ (n : ℕ → Node). record { node = n; chain = first_chain; root = 0; allotted = 1; held = λ p. count_if (has_page p) s.actors }) nodes
      ∙ ap (λ (h : ℕ → ℕ). record { node = λ p. fresh_node; chain = first_chain; root = 0; allotted = 1; held = h }) hands

  are : ArePages s.board s.pages s.actors first_chain
  are = record {
    forest = subst IsForest (sym forest_first) first_is;
    linked = linked;
    there = is_there;
    height = refl;
    length_is = long;
    most = (let p = limits.pages.0 in omega arith);
    passed_over = λ p ps h. cc;
  }
    where
      long : length s.pages ≡ c.pages
      long =
          let rest : length (replicate more (let o : Option Node = None in o)) ≡ more = length-replicate more _ in
          omega (arith, rest, pages_are)

      linked : (p : ℕ) (n : Node) → node_at s.pages p ≡ Some n → IsLinked (forest_of s.board s.pages s.actors first_chain) p
      linked zero n e = refl
      linked (suc p) n e = absurd (none-some n (sym (or_copy more p None) ∙ e))

      is_there : (p : ℕ) → IsLinked (forest_of s.board s.pages s.actors first_chain) p → (n : Node) × (node_at s.pages p ≡ Some n)
      is_there zero l = (fresh_node, refl)
      is_there (suc p) l =
          let h : has (suc p) (first_chain 0) ≡ true = subst (λ (n : Node). has (suc p) (first_chain n.level) ≡ true) (node_first (suc p)) l in
          absurd (let e : 0 ≡ suc p = eqb-true 0 (suc p) (sym (or-false (nat_eq 0 (suc p))) ∙ h) in omega arith)

  suits : (a : ℕ) (r : Actor) → slice_get s.actors a ≡ Some r → Suits s.board s.shards s.pages a r
  suits a r e = subst (Suits s.board s.shards s.pages a) (get_copy count a first_actor r e) (record {
    saw = record { seen = omega arith; floor = record { within = omega arith; updates = refl }; low = omega arith; pin = λ p h. absurd (none-some p h) };
    own = refl;
    holds = record {
      claim = ap (λ (z : ActorState). z.claim) (or_copy count a idle);
      reserved = ap (λ (z : ActorState). z.reserved) (or_copy count a idle);
      pin = ap (λ (z : ActorState). z.pin) (or_copy count a idle);
      shard = λ k h. absurd (none-some k h);
      leaf = λ p h. absurd (none-some p h);
      split = λ w h. absurd (none-some w h);
      room = λ k h _. absurd (none-some k h);
    };
    sweep = λ w h. absurd (none-some w h);
    fresh = λ p h. absurd (none-some p h);
  })

  pub opened_is_kept : Sound s
  opened_is_kept = record {
    limits = limits;
    metric = metric;
    chain = first_chain;
    pages = are;
    entries = record {
      places = tt;
      shows = λ k l m. none_shown k;
      works = λ a r w e h. absurd (none-some w (ap (λ (z : Actor). z.split) (get_copy count a first_actor r e) ∙ h));
    };
    each = suits;
    retired = tt;
    order = refl;
    sixteen = length-replicate 16 no_shard;
    holders = λ k a h. absurd (none-some a (sym (ap (λ (z : Shard). z.holder) (or_copy 16 k no_shard)) ∙ h));
    claims = λ a b r t p e f g h. absurd (none-some p (ap (λ (z : Actor). z.claim) (get_copy count a first_actor r e) ∙ g));
    sweeps = λ a b r t x y e f g h i. absurd (none-some x (ap (λ (z : Actor). z.sweep) (get_copy count a first_actor r e) ∙ g));
    records = λ k i l. ap (λ (z : Shard). find (λ x. x.id == i) z.rows.records) (or_copy 16 k no_shard) ∙ sym (both_none (k == home i));
    counted = length-replicate count idle ∙ sym (length-replicate count first_actor);
    made = tt;
    legal = record { few = omega arith; each = tt };
  }
    where
      none_shown : (k : ℕ) → Shows (grid c) (take k []) []
      none_shown zero = record { same = record { sums = λ f. refl } }
      none_shown (suc k) = record { same = record { sums = λ f. refl } }
