-- No event forgets a debt.
use Rattle.std.proofs.Common.{◌≡◌, ◌≢◌, ℕ, zero, suc, ◌+◌, ◌<◌, List, [], ◌∷◌, ◌++◌, map, set, Bool, true, false, cond, not, ◌||◌, nat_eq, Option, Some, None, refl, sym, ap, ◌∙◌, subst, arith, inl, inr, ◌⊎◌, length-set, get_or-set_other, get_or-set_same, eq-eqb}
use Rattle.std.specs.Prelude.{IsTrue, slice_get, replicate}
use Rattle.mi_page.specs.Keys.{is_below}
use Rattle.std.specs.List.{AllByRecursion}
use Rattle.std.proofs.lemmas.Bool.{cases_eq, eqb-true, false≢true}
use Rattle.mi_base.specs.Prefixes.{has}
use Rattle.mi_base.specs.Sorting.{put}
use Rattle.mi_page.specs.declared.routes.Route.{Route}
use Rattle.mi_page.specs.Nodes.{Node, lower_half, middle_key, root_node, upper_half, fresh_node}
use Rattle.mi_page.specs.Routes.{has_route, route_cmp}
use Rattle.mi_forest.specs.Paths.{children_of}
use Rattle.mi_core.specs.Debts.{Debts, IsDebt, IsOwed, IsRouted, Linked, Remembers}
use Rattle.mi_core.specs.Effects.{paid, post_route, route_owed, saw}
use Rattle.mi_core.specs.Events.{Can, Event, MayPost, after, ended, hand, made_actor, more_seen, opened, first_actor}
use Rattle.mi_core.specs.Events.Event.{see, look, meet, refuse, refuse_at, visit, start, trim, miss_shard, claim_shard, release_shard, reserve, pin, unpin, claim_leaf, release_leaf, insert, delete, allot, lack, grow, split_page, post, gather, copy_in, uncopy, publish, give_up, take_sweep, take_split, no_work, sweep, fork, absorb, depart}
use Rattle.mi_forest.specs.Forests.{Forest, IsLinked, LeadsDown}
use Rattle.mi_core.specs.Sound.{Sound}
use Rattle.mi_core.specs.Pages.{forest_of, node_or_fresh}
use Rattle.mi_entries.specs.Actors.{Actor, Owed}
use Rattle.mi_core.specs.State.{State, node_at}
use Rattle.mi_core.proofs.ActorLemmas.{each_set, set_else, set_there}
use Rattle.std.proofs.lemmas.Option.{none-some, same_Some}
use Rattle.mi_forest.proofs.ChainLemmas.{in_front}
use Rattle.mi_core.proofs.DebtLemmas.{Goes, Routes, child_halves, child_kept, child_put, debt_stays, leaf_debts, or_right, owed_part, quiet_debts, same_low, same_node, set_back, set_goes, set_here, set_routes}
use Rattle.mi_entries.proofs.EntryLemmas.{get_more}
use Rattle.mi_core.proofs.ForkEvents.{get_either}
use Rattle.mi_core.proofs.KeptLemmas.{all_snoc, some_none}
use Rattle.mi_core.proofs.LawLemmas.{event_keeps}
use Rattle.mi_forest.proofs.MoveLemmas.{right_of, stands}
use Rattle.mi_forest.proofs.NumberLemmas.{first_in, other}
use Rattle.mi_core.proofs.OpeningLemmas.{get_copy, or_copy}
use Rattle.mi_core.proofs.PageLemmas.{within}
use Rattle.mi_base.specs.Configuration.{Configuration}
use Rattle.mi_base.proofs.SortingLemmas.{filter_keeps}
use Rattle.mi_tree.proofs.ListLemmas.{all_weaker}

-- what is paid is the debt of this child
paid_keeps : (child m : ℕ) → m ≢ child → (os : List Owed) → has m (map (λ (o : Owed). o.child) os) ≡ true → has m (map (λ (o : Owed). o.child) (paid child os)) ≡ true
paid_keeps child m n [] h = h
paid_keeps child m n (o ∷ os) h =
    let P : Bool → Type 0 = λ b. route_owed child o ≡ b → has m (map (λ (o : Owed). o.child) (cond (not b) (o ∷ paid child os) (paid child os))) ≡ true in
    let Q : Bool → Type 0 = λ b. (b || has m (map (λ (o : Owed). o.child) os)) ≡ true → (b || has m (map (λ (o : Owed). o.child) (paid child os))) ≡ true in
    (elim (route_owed child o) as P [
      | true ↦ λ e.
          let its = eqb-true o.child child e in
          paid_keeps child m n os (sym (ap (λ b. b || has m (map (λ (o : Owed). o.child) os)) (other o.child m (λ same. n (sym same ∙ its)))) ∙ h)
      | false ↦ λ e. (elim (nat_eq o.child m) as Q [ true ↦ λ _. refl | false ↦ λ t. paid_keeps child m n os t ]) h
    ]) refl

has_more : (m : ℕ) (os : List Owed) (y : Owed) → has m (map (λ (o : Owed). o.child) os) ≡ true → has m (map (λ (o : Owed). o.child) (os ++ y ∷ [])) ≡ true
has_more m [] y h = absurd (false≢true h)
has_more m (o ∷ os) y h =
    let Q : Bool → Type 0 = λ b. (b || has m (map (λ (o : Owed). o.child) os)) ≡ true → (b || has m (map (λ (o : Owed). o.child) (os ++ y ∷ []))) ≡ true in
    (elim (nat_eq o.child m) as Q [ true ↦ λ _. refl | false ↦ λ t. has_more m os y t ]) h

has_last : (os : List Owed) (y : Owed) → has y.child (map (λ (o : Owed). o.child) (os ++ y ∷ [])) ≡ true
has_last [] y = ap (λ b. b || false) (eq-eqb y.child y.child refl)
has_last (o ∷ os) y = or_right (nat_eq o.child y.child) (has y.child (map (λ (o : Owed). o.child) (os ++ y ∷ []))) (has_last os y)

module _ (s : State) (k : Sound s) (d : Debts s.pages s.actors) (a : ℕ) (r : Actor) (there : slice_get s.actors a ≡ Some r) where
  module _ (page : ℕ) (node : Node) (key child : ℕ) (on : node_at s.pages page ≡ Some node) (may : MayPost s node key child) where
    abbrev r' : Actor
    r' = record r { page = page; owed = paid child r.owed }

    -- a route of this key leads to this child
    find : (rs : List Route) → AllByRecursion (LeadsDown (forest_of s.board s.pages s.actors k.chain) node.level) rs → has_route key rs ≡ true → has child (children_of rs) ≡ true
    find [] b t = absurd (false≢true t)
    find (x ∷ xs) b t = elim (cases_eq x.key key) [
      | inl e ↦
          let f : Forest = forest_of s.board s.pages s.actors k.chain in
          let mine : f.node child ≡ may.below = ap node_or_fresh may.there in
          let level : (f.node x.child).level ≡ may.below.level = (let up = b.0.height in let high = may.level in omega arith) in
          let in_chain : has child (k.chain may.below.level) ≡ true = subst (λ (n : Node). has child (k.chain n.level) ≡ true) mine (k.pages.linked child may.below may.there) in
          let its_chain : has x.child (k.chain may.below.level) ≡ true = ap (λ l. has x.child (k.chain l)) (sym level) ∙ b.0.linked in
          let same : x.child ≡ child = same_low f.node may.below.level (k.chain may.below.level) (k.pages.forest.chains may.below.level) x.child child its_chain in_chain (b.0.low ∙ e ∙ sym (ap (λ (n : Node). n.low) mine ∙ may.low)) in
          ap (λ c. c || has child (children_of xs)) (eq-eqb x.child child same)
      | inr o ↦ or_right (nat_eq x.child child) (has child (children_of xs)) (find xs b.1 (sym (ap (λ c. c || has_route key xs) (other x.key key o)) ∙ t))
    ]

    module _ (y : Node) (level : y.level ≡ node.level) (low : y.low ≡ node.low) (kept : (m : ℕ) → has m (children_of node.routes) ≡ true → has m (children_of y.routes) ≡ true) (routed : has child (children_of y.routes) ≡ true) where
      abbrev pages' : List (Option Node)
      pages' = set s.pages page (Some y)

      goes : Goes s.pages pages'
      goes = set_goes s.pages page node y on level low kept

      posted : Debts pages' (set s.actors a r')
      posted = record {
        stand = each_set s.actors a r r' there (λ b t. AllByRecursion (IsDebt pages') t.owed)
            (filter_keeps (IsDebt pages') (λ o. not (route_owed child o)) r.owed (all_weaker _ _ (debt_stays s.pages pages' goes) r.owed (d.stand a r there)))
            (λ b t n e. all_weaker _ _ (debt_stays s.pages pages' goes) t.owed (d.stand b t e));
        owed = λ n x h low_x.
            let b = set_back s.pages page node y on level low kept n x h in
            elim (d.owed n b.0 b.1 (let l = b.3 in omega arith)) [
              | inl z ↦ inl (subst (IsRouted pages' n) (sym b.2) (set_routes s.pages page node y on level low kept n b.0.level z))
              | inr z ↦ elim (cases_eq n child) [
                | inl e ↦
                    let is : b.0 ≡ may.below = same_node s.pages n b.0 may.below b.1 (ap (node_at s.pages) e ∙ may.there) in
                    let its : x.level ≡ may.below.level = b.2 ∙ ap (λ (p : Node). p.level) is in
                    inl (record { parent = page; node = y; there = set_here s.pages page node y on level low kept; height = level ∙ sym may.level ∙ ap (λ l. l + 1) (sym its); child = ap (λ m. has m (children_of y.routes)) e ∙ routed })
                | inr o ↦ inr (owed_part s.actors a r r' there n (paid_keeps child n o r.owed) z)
              ]
            ];
      }

    pub post_debts : Debts (set s.pages page (Some (post_route key child node))) (set s.actors a r')
    post_debts =
        let y : Route = record { key = key; child = child } in
        let P : Bool → Type 0 = λ b. has_route key node.routes ≡ b → Debts (set s.pages page (Some (cond b node (record node { routes = put route_cmp y node.routes })))) (set s.actors a r') in
        let leads : AllByRecursion (LeadsDown (forest_of s.board s.pages s.actors k.chain) node.level) node.routes =
        subst (λ (n : Node). AllByRecursion (LeadsDown (forest_of s.board s.pages s.actors k.chain) n.level) n.routes) (ap node_or_fresh on) (k.pages.forest.routes page (k.pages.linked page node on)) in
        (elim (has_route key node.routes) as P [
          | true ↦ λ e. posted node refl refl (λ m t. t) (find node.routes leads e)
          | false ↦ λ e. posted (record node { routes = put route_cmp y node.routes }) refl refl (λ m t. child_kept route_cmp y m node.routes t) (child_put route_cmp y node.routes)
        ]) refl

  module _ (level key child f : ℕ) (has_hand : r.fresh ≡ Some f) (next : s.board.height + 1 ≡ level) (n : Node) (on : node_at s.pages child ≡ Some n) (height : n.level ≡ s.board.height) where
    abbrev g' : Actor
    g' = record (saw s.board r) { fresh = None; owed = paid child r.owed }

    abbrev top' : Node
    top' = root_node level s.board.root key child

    abbrev grown' : List (Option Node)
    grown' = set s.pages f (Some top')

    none_yet : node_at s.pages f ≡ None
    none_yet = ((k.each a r there).fresh f has_hand).1

    at_top : node_at grown' f ≡ Some top'
    at_top = get_or-set_same s.pages f (Some top') None (let m = k.pages.most in let l = ((k.each a r there).fresh f has_hand).0 in omega (arith, k.pages.length_is))

    off_top : (m : ℕ) → m ≢ f → node_at grown' m ≡ node_at s.pages m
    off_top m o = get_or-set_other s.pages f m (Some top') None o

    apart : (m : ℕ) (p : Node) → node_at s.pages m ≡ Some p → m ≢ f
    apart m p h e = some_none p (sym h ∙ ap (node_at s.pages) e ∙ none_yet)

    pub goes_up : Goes s.pages grown'
    goes_up m p h = record { now = p; there = off_top m (apart m p h) ∙ h; level = refl; low = refl }

    pub grow_debts : Debts grown' (set s.actors a g')
    grow_debts = record {
      stand = each_set s.actors a r g' there (λ b t. AllByRecursion (IsDebt grown') t.owed)
          (filter_keeps (IsDebt grown') (λ o. not (route_owed child o)) r.owed (all_weaker _ _ (debt_stays s.pages grown' goes_up) r.owed (d.stand a r there)))
          (λ b t n e. all_weaker _ _ (debt_stays s.pages grown' goes_up) t.owed (d.stand b t e));
      owed = λ m x h low. elim (cases_eq m f) [
        | inl e ↦ let is : top' ≡ x = same_Some top' x (sym at_top ∙ ap (node_at grown') (sym e) ∙ h) in let zero_low = ap (λ (p : Node). p.low) is in absurd (omega arith)
        | inr o ↦
            let was : node_at s.pages m ≡ Some x = sym (off_top m o) ∙ h in
            elim (d.owed m x was low) [
              | inl z ↦ inl (record { parent = z.parent; node = z.node; there = off_top z.parent (apart z.parent z.node z.there) ∙ z.there; height = z.height; child = z.child })
              | inr z ↦ elim (cases_eq m child) [
                | inl e ↦
                    let is : x ≡ n = same_node s.pages m x n was (ap (node_at s.pages) e ∙ on) in
                    inl (record { parent = f; node = top'; there = at_top; height = sym next ∙ ap (λ l. l + 1) (sym (ap (λ (p : Node). p.level) is ∙ height)); child = or_right (nat_eq s.board.root m) (nat_eq child m || false) (ap (λ b. b || false) (eq-eqb child m (sym e))) })
                | inr q ↦ inr (owed_part s.actors a r g' there m (paid_keeps child m q r.owed) z)
              ]
            ]
      ];
    }

  module _ (page : ℕ) (node : Node) (f : ℕ) (has_hand : r.fresh ≡ Some f) (on : node_at s.pages page ≡ Some node) (n : Node) (level : n.level ≡ node.level) (low : n.low ≡ node.low) (routes : n.routes ≡ node.routes) (above : 0 < middle_key n) where
    abbrev debt : Owed
    debt = record { level = n.level + 1; key = middle_key n; child = f }

    abbrev h' : Actor
    h' = record r { page = page; fresh = None; owed = r.owed ++ debt ∷ [] }

    abbrev halved' : List (Option Node)
    halved' = set (set s.pages page (Some (lower_half f n))) f (Some (upper_half n))

    none_there : node_at s.pages f ≡ None
    none_there = ((k.each a r there).fresh f has_hand).1

    differ : page ≢ f
    differ e = some_none node (sym on ∙ ap (node_at s.pages) e ∙ none_there)

    lower_there : node_at halved' page ≡ Some (lower_half f n)
    lower_there = get_or-set_other (set s.pages page (Some (lower_half f n))) f page (Some (upper_half n)) None differ ∙ get_or-set_same s.pages page (Some (lower_half f n)) None (within s.pages page node on)

    upper_there : node_at halved' f ≡ Some (upper_half n)
    upper_there = get_or-set_same (set s.pages page (Some (lower_half f n))) f (Some (upper_half n)) None
        (let m = k.pages.most in let l = ((k.each a r there).fresh f has_hand).0 in omega (arith, k.pages.length_is, length-set s.pages page (Some (lower_half f n))))

    off_both : (m : ℕ) → m ≢ page → m ≢ f → node_at halved' m ≡ node_at s.pages m
    off_both m o q = get_or-set_other (set s.pages page (Some (lower_half f n))) f m (Some (upper_half n)) None q ∙ get_or-set_other s.pages page m (Some (lower_half f n)) None o

    off_hand : (m : ℕ) (p : Node) → node_at s.pages m ≡ Some p → m ≢ f
    off_hand m p h e = some_none p (sym h ∙ ap (node_at s.pages) e ∙ none_there)

    pub goes_on : Goes s.pages halved'
    goes_on m p h = elim (cases_eq m page) [
      | inl e ↦
          let is : p ≡ node = same_node s.pages m p node h (ap (node_at s.pages) e ∙ on) in
          record { now = lower_half f n; there = ap (node_at halved') e ∙ lower_there; level = level ∙ ap (λ (x : Node). x.level) (sym is); low = low ∙ ap (λ (x : Node). x.low) (sym is) }
      | inr o ↦ record { now = p; there = off_both m o (off_hand m p h) ∙ h; level = refl; low = refl }
    ]

    routes_on : Routes s.pages halved'
    routes_on m l z = elim (cases_eq z.parent page) [
      | inl e ↦
          let is : z.node ≡ node = same_node s.pages z.parent z.node node z.there (ap (node_at s.pages) e ∙ on) in
          let up : n.level ≡ l + 1 = level ∙ ap (λ (x : Node). x.level) (sym is) ∙ z.height in
          elim (child_halves m 16 n.routes (ap (λ rs. has m (children_of rs)) routes ∙ ap (λ (x : Node). has m (children_of x.routes)) (sym is) ∙ z.child)) [
            | inl t ↦ record { parent = page; node = lower_half f n; there = lower_there; height = up; child = t }
            | inr t ↦ record { parent = f; node = upper_half n; there = upper_there; height = up; child = t }
          ]
      | inr o ↦ record { parent = z.parent; node = z.node; there = off_both z.parent o (off_hand z.parent z.node z.there) ∙ z.there; height = z.height; child = z.child }
    ]

    pub halve_debts : Debts halved' (set s.actors a h')
    halve_debts = record {
      stand = each_set s.actors a r h' there (λ b t. AllByRecursion (IsDebt halved') t.owed)
          (all_snoc (IsDebt halved') r.owed debt (all_weaker _ _ (debt_stays s.pages halved' goes_on) r.owed (d.stand a r there))
          (record { below = upper_half n; there = upper_there; level = refl; low = refl; above = above }))
          (λ b t n e. all_weaker _ _ (debt_stays s.pages halved' goes_on) t.owed (d.stand b t e));
      owed = λ m x h low_x. elim (cases_eq m f) [
        | inl e ↦ inr (subst (IsOwed (set s.actors a h')) (sym e) (record { by = a; actor = h'; there = set_there s.actors a h' r there; owes = has_last r.owed debt }))
        | inr o ↦ elim (cases_eq m page) [
          | inl e ↦
              let is : x ≡ lower_half f n = same_node halved' m x (lower_half f n) h (ap (node_at halved') e ∙ lower_there) in
              let its_level : node.level ≡ x.level = sym level ∙ ap (λ (p : Node). p.level) (sym is) in
              let its_low : x.low ≡ node.low = ap (λ (p : Node). p.low) is ∙ low in
              go m x (elim (d.owed m node (ap (node_at s.pages) e ∙ on) (omega arith)) [ inl z ↦ inl (subst (IsRouted s.pages m) its_level z) | inr z ↦ inr z ])
          | inr q ↦ go m x (d.owed m x (sym (off_both m q o) ∙ h) low_x)
        ]
      ];
    }
      where
        go : (m : ℕ) (x : Node) → IsRouted s.pages m x.level ⊎ IsOwed s.actors m → IsRouted halved' m x.level ⊎ IsOwed (set s.actors a h') m
        go m x z = elim z [ inl u ↦ inl (routes_on m x.level u) | inr u ↦ inr (owed_part s.actors a r h' there m (has_more m r.owed debt) u) ]

  pub split_debts : (page : ℕ) (node : Node) (f : ℕ) → r.fresh ≡ Some f → node_at s.pages page ≡ Some node → Sound (after s a r (split_page page node))
      → Debts (after s a r (split_page page node)).pages (after s a r (split_page page node)).actors
  split_debts page node f has_hand on k' =
      subst (λ (o : Option ℕ). Debts (set (set s.pages page (Some (lower_half (hand o) node))) (hand o) (Some (upper_half node))) (set s.actors a (record r { page = page; fresh = None; owed = r.owed ++ record { level = node.level + 1; key = middle_key node; child = hand o } ∷ [] }))) (sym has_hand)
      (halve_debts page node f has_hand on node refl refl refl above)
    where
      none_there' : node_at s.pages f ≡ None
      none_there' = ((k.each a r there).fresh f has_hand).1

      there' : node_at (after s a r (split_page page node)).pages page ≡ Some (lower_half (hand r.fresh) node)
      there' = get_or-set_other (set s.pages page (Some (lower_half (hand r.fresh) node))) (hand r.fresh) page (Some (upper_half node)) None
          (λ e. some_none node (sym on ∙ ap (node_at s.pages) (e ∙ ap hand has_hand) ∙ none_there')) ∙ get_or-set_same s.pages page (Some (lower_half (hand r.fresh) node)) None (within s.pages page node on)

      above : 0 < middle_key node
      above =
          let wide = (stands _ k'.pages.forest page (k'.pages.linked page (lower_half (hand r.fresh) node) there')).stands.wide in
          let less = in_front (Some (middle_key node)) node.low (middle_key node) refl (subst (λ (o : Option Node). IsTrue (is_below (node_or_fresh o).high (node_or_fresh o).low)) there' wide) in
          omega arith

  pub fork_debts : Debts s.pages (set s.actors a (saw s.board r) ++ made_actor s.board r.floor ∷ [])
  fork_debts =
      let q : Actor = saw s.board r in
      let one = quiet_debts s.pages s.actors d a r q there refl in
      record {
        stand = λ b t e. elim (get_either (set s.actors a q) (made_actor s.board r.floor) b t e) [ inl l ↦ one.stand b t l | inr m ↦ subst (λ (t : Actor). AllByRecursion (IsDebt s.pages) t.owed) m.1 tt ];
        owed = λ n p h low. elim (one.owed n p h low) [
          | inl z ↦ inl z
          | inr z ↦ inr (record { by = z.by; actor = z.actor; there = get_more (set s.actors a q) (made_actor s.board r.floor ∷ []) z.by z.actor z.there; owes = z.owes })
        ];
      }

abbrev pub StaysOwed : Event → Type 0
StaysOwed e = (s : State) → Sound s → Debts s.pages s.actors → (a : ℕ) (r : Actor) → slice_get s.actors a ≡ Some r → Can s a r e → Remembers e → Debts (after s a r e).pages (after s a r e).actors

pub event_keeps_debts : (e : Event) → StaysOwed e
event_keeps_debts see = λ s k d a r there can m. quiet_debts s.pages s.actors d a r _ there refl
event_keeps_debts look = λ s k d a r there can m. quiet_debts s.pages s.actors d a r _ there refl
event_keeps_debts no_work = λ s k d a r there can m. quiet_debts s.pages s.actors d a r _ there refl
event_keeps_debts (meet page) = λ s k d a r there can m. quiet_debts s.pages s.actors d a r _ there refl
event_keeps_debts (refuse why) = λ s k d a r there can m. quiet_debts s.pages s.actors d a r _ there refl
event_keeps_debts (refuse_at page why) = λ s k d a r there can m. quiet_debts s.pages s.actors d a r _ there refl
event_keeps_debts (visit page) = λ s k d a r there can m. quiet_debts s.pages s.actors d a r _ there refl
event_keeps_debts (start page) = λ s k d a r there can m. quiet_debts s.pages s.actors d a r _ there refl
event_keeps_debts (trim page node) = λ s k d a r there can m. leaf_debts s.pages s.actors d a r _ there refl page node _ can.there refl refl refl
event_keeps_debts (miss_shard n) = λ s k d a r there can m. quiet_debts s.pages s.actors d a r _ there refl
event_keeps_debts (claim_shard n kept) = λ s k d a r there can m. quiet_debts s.pages s.actors d a r _ there refl
event_keeps_debts (release_shard n kept) = λ s k d a r there can m. quiet_debts s.pages s.actors d a r _ there refl
event_keeps_debts (reserve n kept room) = λ s k d a r there can m. quiet_debts s.pages s.actors d a r _ there refl
event_keeps_debts pin = λ s k d a r there can m. quiet_debts s.pages s.actors d a r _ there refl
event_keeps_debts unpin = λ s k d a r there can m. quiet_debts s.pages s.actors d a r _ there refl
event_keeps_debts (claim_leaf l) = λ s k d a r there can m. quiet_debts s.pages s.actors d a r _ there refl
event_keeps_debts release_leaf = λ s k d a r there can m. quiet_debts s.pages s.actors d a r _ there refl
event_keeps_debts (insert op id page node kept e) = λ s k d a r there can m. leaf_debts s.pages s.actors d a r _ there refl page node _ can.may.page_is.there refl refl refl
event_keeps_debts (delete op id page node kept key) = λ s k d a r there can m. leaf_debts s.pages s.actors d a r _ there refl page node _ can.may.page_is.there refl refl refl
event_keeps_debts allot = λ s k d a r there can m. quiet_debts s.pages s.actors d a r _ there refl
event_keeps_debts lack = λ s k d a r there can m. quiet_debts s.pages s.actors d a r _ there refl
event_keeps_debts (grow level key child) = λ s k d a r there can m.
    subst (λ (o : Option ℕ). Debts (set s.pages (hand o) (Some (root_node level s.board.root key child))) (set s.actors a (record (saw s.board r) { fresh = None; owed = paid child r.owed }))) (sym can.1)
    (grow_debts s k d a r there level key child can.0 can.1 can.2 can.4 can.5 can.6)
event_keeps_debts (split_page page node) = λ s k d a r there can m. split_debts s k d a r there page node can.0 can.1 can.2 (event_keeps (split_page page node) s k a r there can)
event_keeps_debts (post page node key child) = λ s k d a r there can m. post_debts s k d a r there page node key child can.0 can.1
event_keeps_debts (gather page node) = λ s k d a r there can m. quiet_debts s.pages s.actors d a r _ there refl
event_keeps_debts (copy_in page node e) = λ s k d a r there can m. leaf_debts s.pages s.actors d a r _ there refl page node _ can.0.there refl refl refl
event_keeps_debts (uncopy page node e told) = λ s k d a r there can m. leaf_debts s.pages s.actors d a r _ there refl page node _ can.0.there refl refl refl
event_keeps_debts publish = λ s k d a r there can m. quiet_debts s.pages s.actors d a r _ there refl
event_keeps_debts (give_up pages) = λ s k d a r there can m. quiet_debts s.pages s.actors d a r _ there refl
event_keeps_debts (take_sweep l) = λ s k d a r there can m. quiet_debts s.pages s.actors d a r _ there refl
event_keeps_debts (take_split l) = λ s k d a r there can m. quiet_debts s.pages s.actors d a r _ there refl
event_keeps_debts (sweep page node) = λ s k d a r there can m. leaf_debts s.pages s.actors d a r _ there refl page node _ can.0.there refl refl refl
event_keeps_debts fork = λ s k d a r there can m. fork_debts s k d a r there
event_keeps_debts (absorb b t) = λ s k d a r there can m.
    quiet_debts s.pages (set s.actors a (more_seen t r)) (quiet_debts s.pages s.actors d a r (more_seen t r) there refl) b t (ended t) (set_else s.actors a b (more_seen t r) can.0 ∙ can.1) (sym m)
event_keeps_debts depart = λ s k d a r there can m. quiet_debts s.pages s.actors d a r _ there refl

-- where nothing is owed, all routes are there
module _ (s : State) (k : Sound s) (d : Debts s.pages s.actors) (none : (a : ℕ) (r : Actor) → slice_get s.actors a ≡ Some r → r.owed ≡ []) where
  abbrev f : Forest
  f = forest_of s.board s.pages s.actors k.chain

  routed : (n : ℕ) (p : Node) → node_at s.pages n ≡ Some p → 0 < p.low → IsRouted s.pages n p.level
  routed n p h low = elim (d.owed n p h low) [
    | inl z ↦ z
    | inr z ↦ absurd (false≢true (ap (λ (os : List Owed). has n (map (λ o. o.child) os)) (sym (none z.by z.actor z.there)) ∙ z.owes))
  ]

  is_there : (n : ℕ) → 0 < (f.node n).low → (p : Node) × (node_at s.pages n ≡ Some p) × (f.node n ≡ p)
  is_there n low =
      let P : Option Node → Type 0 = λ o. node_at s.pages n ≡ o → 0 < (node_or_fresh o).low → (p : Node) × (node_at s.pages n ≡ Some p) × (f.node n ≡ p) in
      (elim (node_at s.pages n) as P [ None ↦ λ e l. absurd (omega arith) | Some p ↦ λ e l. (p, e, ap node_or_fresh e) ]) refl low

  go : (p : Node) → node_at s.pages s.board.root ≡ Some p → (right : Option ℕ) → p.right ≡ right → right ≡ None
  go p h None e = refl
  go p h (Some m) e =
      let root_linked : IsLinked f s.board.root = first_in s.board.root (k.chain (f.node s.board.root).level) k.pages.forest.root in
      let past = right_of f k.pages.forest s.board.root m root_linked (ap (λ (o : Option Node). (node_or_fresh o).right) h ∙ e) in
      let far = past.farther in
      let it = is_there m (omega arith) in
      let z = routed m it.0 it.1 (let l = ap (λ (x : Node). x.low) it.2 in omega arith) in
      let parent_level : (f.node z.parent).level ≡ z.node.level = ap (λ (o : Option Node). (node_or_fresh o).level) z.there in
      let its : (f.node m).level ≡ it.0.level = ap (λ (x : Node). x.level) it.2 in
      let up = z.height in
      let same = past.height in
      let linked = k.pages.linked z.parent z.node z.there in
      absurd (false≢true (ap (has z.parent) (sym (k.pages.forest.top (f.node z.parent).level (omega arith))) ∙ linked))

  pub none_owed : Linked s
  none_owed = record { routed = λ n p h under low. routed n p h low; alone = λ p h. go p h p.right refl }

pub opened_debts : (c : Configuration) (count more : ℕ) → Debts (opened c count more).pages (opened c count more).actors
opened_debts c count more = record {
  stand = λ a r e. subst (λ (t : Actor). AllByRecursion (IsDebt (opened c count more).pages) t.owed) (get_copy count a first_actor r e) tt;
  owed = λ n p e low. absurd (none more n p e low);
}
  where
    none : (more n : ℕ) (p : Node) → node_at (Some fresh_node ∷ replicate more None) n ≡ Some p → 0 < p.low → ⊥
    none more zero p e low = let is : fresh_node ≡ p = same_Some fresh_node p e in let zero_low = ap (λ (x : Node). x.low) is in omega arith
    none more (suc n) p e low = none-some p (sym (or_copy more n None) ∙ e)
