-- A page stays one.
use Rattle.std.proofs.Common.{None, Option, ◌≡◌, ℕ, ◌<◌, List, [], ◌∷◌, map, Bool, true, false, cond, ◌&&◌, ◌||◌, nat_eq, refl, sym, ap, ◌∙◌, subst, arith, Some}
use Rattle.std.specs.Prelude.{slice_get, is_none}
use Rattle.std.specs.List.{filter}
use Rattle.std.specs.Ordering.{nat_cmp}
use Rattle.std.proofs.lemmas.List.{length-map}
use Rattle.mi_base.specs.Sorting.{put}
use Rattle.mi_key.specs.declared.entries.Entry.{Entry}
use Rattle.mi_page.specs.declared.routes.Route.{Route}
use Rattle.mi_page.specs.Keys.{AreOrdered, IsInside}
use Rattle.mi_page.specs.Entries.{entry_keys, entry_cmp, has_entry, has_living, with_death}
use Rattle.mi_page.specs.Routes.{route_keys, route_cmp, has_route}
use Rattle.mi_page.specs.Nodes.{Node, IsNode, item_count, fresh_node, root_node}
use Rattle.mi_page.proofs.OrderLemmas.{put_ordered, put_keys, put_first, filter_ordered}

-- a leaf page with other entries in order
pub leaf_keeps : (p : Node) (entries : List Entry) → IsNode p → p.level ≡ 0 → AreOrdered p.low p.high (entry_keys entries) → IsNode (record p { entries = entries })
leaf_keeps p entries h leaf o = record {
  entries = o;
  routes = h.routes;
  leaf = h.leaf;
  inner = λ above. absurd (omega arith);
  first = h.first;
}

-- one entry more
pub insert_entry_keeps : (p : Node) (e : Entry) (entries : List Entry) → IsNode p → p.level ≡ 0 → item_count p < 32 → IsInside p.low p.high e.key → has_entry e.key p.entries ≡ false
    → entries ≡ put entry_cmp e p.entries → IsNode (record p { entries = entries })
insert_entry_keeps p e entries h leaf few inside new is =
    let keys : entry_keys entries ≡ put nat_cmp e.key (entry_keys p.entries) = ap entry_keys is ∙ put_keys (λ x. x.key) e p.entries in
    leaf_keeps p entries h leaf
    (subst (AreOrdered p.low p.high) (sym keys) (put_ordered p.low p.high e.key (entry_keys p.entries) h.entries (omega (arith, length-map p.entries (λ x. x.key))) inside new))

-- one route more
pub insert_route_keeps : (p : Node) (r : Route) (routes : List Route) → IsNode p → 0 < p.level → item_count p < 32 → IsInside p.low p.high r.key → has_route r.key p.routes ≡ false
    → routes ≡ put route_cmp r p.routes → IsNode (record p { routes = routes })
insert_route_keeps p r routes h above few inside new is =
    let keys : route_keys routes ≡ put nat_cmp r.key (route_keys p.routes) = ap route_keys is ∙ put_keys (λ x. x.key) r p.routes in
    record {
      entries = h.entries;
      routes = subst (AreOrdered p.low p.high) (sym keys) (put_ordered p.low p.high r.key (route_keys p.routes) h.routes (omega (arith, length-map p.routes (λ x. x.key))) inside new);
      leaf = λ zero. absurd (omega arith);
      inner = h.inner;
      first = λ _. ap (λ ks. slice_get ks 0) keys ∙ put_first p.low r.key (route_keys p.routes) (h.first above) inside.from_low new;
    }

-- entries of which a test keeps some
pub filter_keeps_leaf : (p : Node) (t : Entry → Bool) (entries : List Entry) → IsNode p → p.level ≡ 0 → entries ≡ filter t p.entries → IsNode (record p { entries = entries })
filter_keeps_leaf p t entries h leaf is =
    leaf_keeps p entries h leaf (subst (λ (es : List Entry). AreOrdered p.low p.high (entry_keys es)) (sym is) (filter_ordered (λ e. e.key) t p.low p.high p.entries h.entries))

-- a death changes no key
pub marked_keys : (key number : ℕ) (entries : List Entry) → entry_keys (map (with_death key number) entries) ≡ entry_keys entries
marked_keys key number [] = refl
marked_keys key number (e ∷ es) =
    let Q : Bool → Type 0 = λ b. (cond b (record { key = e.key; vector = e.vector; dists = e.dists; birth = e.birth; death = Some number }) e).key ∷ entry_keys (map (with_death key number) es) ≡ e.key ∷ entry_keys es in
    elim (nat_eq e.key key) as Q [ true ↦ ap (λ ks. e.key ∷ ks) (marked_keys key number es) | false ↦ ap (λ ks. e.key ∷ ks) (marked_keys key number es) ]

pub mark_keeps : (p : Node) (key number : ℕ) (entries : List Entry) → IsNode p → p.level ≡ 0 → entries ≡ map (with_death key number) p.entries → IsNode (record p { entries = entries })
mark_keeps p key number entries h leaf is =
    leaf_keeps p entries h leaf (subst (AreOrdered p.low p.high) (sym (ap entry_keys is ∙ marked_keys key number p.entries)) h.entries)

-- a living entry is an entry
pub living_there : (key : ℕ) (entries : List Entry) → has_living key entries ≡ true → has_entry key entries ≡ true
living_there key [] h = h
living_there key (e ∷ es) h =
    let Q : Bool → Type 0 = λ b. ((b && is_none e.death) || has_living key es) ≡ true → (b || has_entry key es) ≡ true in
    (elim (nat_eq e.key key) as Q [ true ↦ λ _. refl | false ↦ λ w. living_there key es w ]) h

none_ordered : (low : ℕ) (high : Option ℕ) → AreOrdered low high []
none_ordered low high = record { few = omega arith; ascend = tt; inside = tt }

pub fresh_is : IsNode fresh_node
fresh_is = record {
  entries = none_ordered 0 None;
  routes = none_ordered 0 None;
  leaf = λ _. refl;
  inner = λ _. refl;
  first = λ above. absurd (omega arith);
}

pub root_is : (level left key child : ℕ) → 0 < level → 0 < key → IsNode (root_node level left key child)
root_is level left key child above greater = record {
  entries = none_ordered 0 None;
  routes = record { few = omega arith; ascend = ((greater, tt), (tt, tt)); inside = (record { from_low = omega arith; below_high = refl }, (record { from_low = omega arith; below_high = refl }, tt)) };
  leaf = λ zero. absurd (omega arith);
  inner = λ _. refl;
  first = λ _. refl;
}
