-- The give of a page: the event of a section of one page, and the halving of a page.
use Rattle.std.proofs.Common.{◌≡◌, ◌≢◌, inl, inr, ⊎_elim, ℕ, ◌+◌, ◌<◌, List, [], ◌∷◌, ◌++◌, length, Some, None, sym, refl, ap, ◌∙◌, subst, arith, length-set, get_or-set_same}
use Rattle.atomic_table.specs.Table.{rest}
use Rattle.mi_base.specs.Configuration.{Configuration}
use Rattle.mi_page.specs.Nodes.{Node, item_count, lower_half, middle_key, upper_half}
use Rattle.mi_entries.specs.Actors.{Actor}
use Rattle.mi_entries.specs.Records.{shard_at}
use Rattle.mi_core.specs.Effects.{trim_leaf}
use Rattle.mi_core.specs.Events.{Can, Event, after, hand, split_at}
use Rattle.mi_core.specs.Events.Event.{split_page}
use Rattle.mi_core.specs.Named.{IsNamed, Named}
use Rattle.mi_core.specs.State.{State, node_at, put_actor, put_page}
use Rattle.mi_core.proofs.KeptLemmas.{some_none}
use Rattle.mi_core.proofs.LaterEvents.{event_leads_on}
use Rattle.mi_core.proofs.PageLemmas.{within}
use Rattle.mi_latch.specs.declared.slots.Slot.{Slot}
use Rattle.mi_latch.specs.declared.slots.Slot.TheVariants.{OfPage, Vacant}
use Rattle.mi_latch.specs.Layout.{at}
use Rattle.mi_latch.specs.Naming.{names_of}
use Rattle.mi_latch.specs.PageSteps.{HoldsFresh, MakesPage, halves_named, halving, noting}
use Rattle.mi_latch.specs.Shows.{Has, HasKey, One, Writes}
use Rattle.mi_latch.specs.Views.{Doing, Fits, Held, HoldsLast, IsOne, Mine, Seated, Sight, now}
use Rattle.mi_latch.proofs.Ones.{and_actor, at_page, of_page, read_page}
use Rattle.mi_latch.proofs.PageChanges.{Learns, changes_still, later, named_later}
use Rattle.mi_latch.proofs.PageNames.{names_stand, one_more, one_of_either}
use Rattle.mi_latch.proofs.Steps.{marks_on, me, out_has, rest_has}
use Rattle.mi_latch.proofs.Writing.{writes_frame, writes_more}

-- what the seat knows after a section of a page
noting_learns : (m : Mine) (to : Actor) (names : List Named) (n : Node) → to.seen ≡ m.part.seen → to.claim ≡ m.part.claim → to.pin ≡ m.part.pin → to.ended ≡ m.part.ended → Learns m (noting to names n m)
noting_learns m to names n seen claim pin going = record {
  log = refl;
  told = refl;
  wanted = refl;
  least = refl;
  count = refl;
  noted = refl;
  names = one_more names m.named;
  seen = seen;
  claim = claim;
  pin = pin;
  going = going;
}

-- any event of one page alone
pub page_does : (settings : Configuration) (m : Seated) (page : ℕ) (was new : Node) (to : Actor) (names : List Named) (e : Event) → HoldsLast m (page + 17) (OfPage was) → MakesPage settings m.0.actor m.0.mine page was new to names e
    → Doing settings m.0 (now m.0 (noting to names new m.0.mine) (rest m.0.out)) (page + 17) (OfPage new)
page_does settings m page was new to names e l x c held b =
    let v : Sight = m.0 in
    let q : Mine = noting to names new v.mine in
    let sixteen = held.kept.sound.sixteen in
    let there : node_at c.pages page ≡ Some was = of_page (node_at c.pages page) was (sym (read_page c page sixteen) ∙ b.values (page + 17) (OfPage was) (out_has v (page + 17) (OfPage was) (rest v.out) l.out)) in
    let f = me settings c held v l.live b in
    let t = x.does c held.kept held.same f there in
    let d : State = after c v.actor v.mine.part e in
    let next = later settings c held v l.live b e t.0 in
    let named : (y : Named) → IsOne y q.named → IsNamed d.pages y = λ y h. named_later c d next y (⊎_elim (λ z. x.named c held.kept f there y z) (λ z. f.knows.named y z) (one_of_either names v.mine.named y h)) in
    let one : One (at c) (at d) (page + 17) (OfPage new) = subst (λ (s : State). One (at c) (at s) (page + 17) (OfPage new)) (sym t.1)
    (and_actor c (put_page page new c) v.actor to (page + 17) (OfPage new) (at_page c page new sixteen (within c.pages page was there))) in
    let z = changes_still settings c held v l.live b e t.0 q (rest v.out) ((page + 17, OfPage new) ∷ rest v.out) (page + 17) 0 (ap (λ (s : State). s.board) t.1) (ap (λ (s : State). s.actors) t.1)
    (noting_learns v.mine to names new x.seen x.claim x.pin x.going) named
    (writes_frame (at c) (at d) (page + 17) (OfPage new) (rest v.out) one (λ j y h. b.values j y (rest_has v (page + 17) (OfPage was) (rest v.out) l.out j y h)) l.others)
    (λ word h k g near. absurd (omega arith))
    (λ i word ne h. marks_on c d i word (λ k g near. ap (λ (s : State). (shard_at s.shards k).holder) t.1) h) in
    (d, z.0, z.1)

writes_swap : {S : Type 0} (f g : ℕ → S) (i j : ℕ) (x y : S) (l : List (ℕ × S)) → Writes f g ((i, x) ∷ (j, y) ∷ l) → Writes f g ((j, y) ∷ (i, x) ∷ l)
writes_swap f g i j x y l w = record {
  values = λ k z h. w.values k z (⊎_elim (λ t. inr (inl t)) (λ t. ⊎_elim (λ t. inl t) (λ t. inr (inr t)) t) h);
  rest = λ k n. w.rest k (λ t. n (t.0, ⊎_elim (λ t. inr (inl t)) (λ t. ⊎_elim (λ t. inl t) (λ t. inr (inr t)) t) t.1));
}

-- The old page goes back as its lower half: the event; the fresh page's value, its upper half, stands in the view
module _ (settings : Configuration) (m : Seated) (page f : ℕ) (was : Node) (more : List (ℕ × Slot)) (h : HoldsFresh m page f was more) where
  abbrev low : Slot
  low = OfPage (lower_half f was)

  abbrev up : Slot
  up = OfPage (upper_half was)

  abbrev to : Actor
  to = halving m.0.mine.part page f was

  abbrev names : List Named
  names = halves_named f was ++ names_of was

  -- what the seat knows then
  abbrev pub halved : Mine
  halved = noting to names (lower_half f was) m.0.mine

  module _ (c : State) (there : node_at c.pages page ≡ Some was) (none : node_at c.pages f ≡ None) (long : f < length c.pages) (sixteen : length c.shards ≡ 16) where
    abbrev lower : State
    lower = put_page page (lower_half f was) c

    abbrev both : State
    both = put_actor m.0.actor to (split_at page was f c)

    both_is : after c m.0.actor m.0.mine.part (split_page page was) ≡ both
    both_is =
        let r : Actor = m.0.mine.part in
        let P : ℕ → Type 0 = λ n. after c m.0.actor r (split_page page was)
        ≡ put_actor m.0.actor (record r { page = page; fresh = None; owed = r.owed ++ record { level = was.level + 1; key = middle_key was; child = n } ∷ [] }) (split_at page was n c) in
        subst P (ap hand h.fresh) refl

    still_long : f < length lower.pages
    still_long = omega (arith, length-set c.pages page (Some (lower_half f was)), long)

    apart : page ≢ f
    apart z = some_none was (sym there ∙ ap (node_at c.pages) z ∙ none)

    out : m.0.out ≡ (page + 17, OfPage was) ∷ (f + 17, Vacant) ∷ more
    out = h.last.out ∙ ap (λ z. (page + 17, OfPage was) ∷ z) h.fresh_out

    writes : ((j : ℕ) (y : Slot) → Has m.0.out j y → at c j ≡ y) → Writes (at c) (at both) ((page + 17, low) ∷ (f + 17, up) ∷ more)
    writes values =
        let one = writes_frame (at c) (at lower) (page + 17) low more (at_page c page (lower_half f was) sixteen (within c.pages page was there))
        (λ j y z. values j y (rest_has m.0 (page + 17) (OfPage was) ((f + 17, Vacant) ∷ more) out j y (inr z)))
        (λ z. h.last.others (subst (λ (o : List (ℕ × Slot)). HasKey o (page + 17)) (sym h.fresh_out) (z.0, inr z.1))) in
        let two = writes_more (at c) (at lower) (at both) (f + 17) up ((page + 17, low) ∷ more) one
        (and_actor lower (put_page f (upper_half was) lower) m.0.actor to (f + 17) up (at_page lower f (upper_half was) sixteen still_long))
        (λ z. ⊎_elim (λ y. let e = y.0 in apart (omega arith)) (λ y. h.apart (z.0, y)) z.1) in
        writes_swap (at c) (at both) (f + 17) (page + 17) up low more two

    fresh_named : IsNamed both.pages (record { page = f; level = was.level; low = middle_key was })
    fresh_named = record { node = upper_half was; there = get_or-set_same lower.pages f (Some (upper_half was)) None still_long; level = refl; low = refl }

  -- the pages that the seat is told of are linked then
  pub split_named : (c : State) → Held settings c → Fits c m.0.actor m.0.mine → Can c m.0.actor m.0.mine.part (split_page page was) → (x : Named) → IsOne x (halves_named f was ++ names_of was) → IsNamed (after c m.0.actor m.0.mine.part (split_page page was)).pages x
  split_named c held g can x o =
      let k = held.kept.sound in
      let d : State = after c m.0.actor m.0.mine.part (split_page page was) in
      -- the fresh page is allotted, so it has a slot
      let fresh = (k.each m.0.actor m.0.mine.part g.part).fresh f h.fresh in
      let long : f < length c.pages = (let z = fresh.0 in omega (arith, k.pages.length_is, k.pages.most)) in
      let is = both_is c can.2 fresh.1 long k.sixteen in
      ⊎_elim
      (λ z. subst (IsNamed d.pages) z (subst (λ (s : State). IsNamed s.pages (record { page = f; level = was.level; low = middle_key was })) (sym is) (fresh_named c can.2 fresh.1 long k.sixteen)))
      (λ z. named_later c d (event_leads_on (split_page page was) c k m.0.actor m.0.mine.part g.part can) x (names_stand c k page was can.2 x z)) o

  pub split_does : item_count (trim_leaf m.0.mine.part.floor.updates was) ≡ 32 → Doing settings m.0 (now m.0 halved ((f + 17, up) ∷ more)) (page + 17) low
  split_does full c held b =
      let v : Sight = m.0 in
      let l = h.last in
      let k = held.kept.sound in
      let g = me settings c held v l.live b in
      let e : Event = split_page page was in
      let there : node_at c.pages page ≡ Some was = of_page (node_at c.pages page) was (sym (read_page c page k.sixteen) ∙ b.values (page + 17) (OfPage was) (out_has v (page + 17) (OfPage was) (rest v.out) l.out)) in
      let fresh = (k.each v.actor v.mine.part g.part).fresh f h.fresh in
      let long : f < length c.pages = (let z = fresh.0 in omega (arith, k.pages.length_is, k.pages.most)) in
      let is = both_is c there fresh.1 long k.sixteen in
      let can : Can c v.actor v.mine.part e = (f, h.fresh, there, full) in
      let d : State = after c v.actor v.mine.part e in
      let next = later settings c held v l.live b e can in
      let named : (y : Named) → IsOne y halved.named → IsNamed d.pages y = λ y o. ⊎_elim (λ z. split_named c held g can y z) (λ z. named_later c d next y (g.knows.named y z)) (one_of_either names v.mine.named y o) in
      let w : Writes (at c) (at d) ((page + 17, low) ∷ (f + 17, up) ∷ more) = subst (λ (s : State). Writes (at c) (at s) ((page + 17, low) ∷ (f + 17, up) ∷ more)) (sym is) (writes c there fresh.1 long k.sixteen b.values) in
      let z = changes_still settings c held v l.live b e can halved ((f + 17, up) ∷ more) ((page + 17, low) ∷ (f + 17, up) ∷ more) (page + 17) 0
      refl (ap (λ (s : State). s.actors) is) (noting_learns v.mine to names (lower_half f was) refl refl refl refl) named w
      (λ word z i y near. absurd (omega arith))
      (λ i word ne z. marks_on c d i word (λ j y near. refl) z) in
      (d, z.0, z.1)
