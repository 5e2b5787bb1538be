-- What each change of one page does to the entries of all.
use Rattle.std.proofs.Common.{◌≡◌, ◌≢◌, ℕ, suc, ◌<◌, List, [], ◌∷◌, ◌++◌, map, length, Bool, true, false, cond, not, ◌||◌, nat_eq, Some, refl, sym, ap, ◌∙◌, subst, arith}
use Rattle.std.specs.List.{AllByRecursion, filter, flat_map, list_any}
use Rattle.std.specs.declared.cmp.Ordering.{Ordering}
use Rattle.std.specs.Ordering.{is_lt}
use Rattle.std.proofs.lemmas.Bool.{eqb-true, false≢true}
use Rattle.std.proofs.lemmas.List.Folds.{list_any-append}
use Rattle.mi_base.specs.Prefixes.{has}
use Rattle.mi_base.specs.Sorting.{put}
use Rattle.mi_key.specs.declared.entries.Entry.{Entry}
use Rattle.mi_page.specs.declared.routes.Route.{Route}
use Rattle.mi_page.specs.Keys.{IsInside, is_below}
use Rattle.mi_page.specs.Entries.{entry_cmp, has_entry, with_death, without_key}
use Rattle.mi_page.specs.Routes.{route_cmp, has_route}
use Rattle.mi_page.specs.Nodes.{Node, IsNode, item_count, in_range}
use Rattle.mi_page.proofs.NodeLemmas.{insert_entry_keeps, insert_route_keeps, mark_keeps, filter_keeps_leaf}
use Rattle.mi_tree.proofs.ListLemmas.{all_put, filter_same, all_weaker, all_any, flat_same, all_from_map}
use Rattle.mi_forest.specs.Forests.{Forest, IsForest, IsLinked, LeadsDown, all_entries}
use Rattle.mi_forest.specs.Changes.{RewritesPage, SetsPage, with_entries, with_routes}
use Rattle.mi_forest.proofs.ListLemmas.{ChangesAt, filtered, mapped, placed, inside_in}
use Rattle.mi_forest.proofs.MoveLemmas.{stands, level_in}
use Rattle.mi_forest.proofs.NumberLemmas.{all_from_has}
use Rattle.mi_forest.proofs.FlatLemmas.{changes_at}
use Rattle.mi_forest.proofs.KeepLemmas.{rewrite_keeps}

pub length-put : {X : Type 0} (cmp : X → X → Ordering) (x : X) (xs : List X) → length (put cmp x xs) ≡ suc (length xs)
length-put cmp x [] = refl
length-put cmp x (y ∷ ys) =
    let Q : Bool → Type 0 = λ b. length (cond b (y ∷ put cmp x ys) (x ∷ y ∷ ys)) ≡ suc (suc (length ys)) in
    elim (is_lt (cmp y x)) as Q [ true ↦ ap suc (length-put cmp x ys) | false ↦ refl ]

module _ (old new : Forest) (h : IsForest old) (n : ℕ) (linked : IsLinked old n) where
  page : IsNode (old.node n)
  page = (stands old h n linked).stands.page

  module _ (leaf : (old.node n).level ≡ 0) (entries : List Entry) (s : SetsPage old new n (with_entries (old.node n) entries)) where
    -- other entries that make a page
    pub entries_rewrite : IsNode (with_entries (old.node n) entries) → RewritesPage old new n
    entries_rewrite i = record {
      linked = linked;
      page = subst IsNode (sym s.is) i;
      frame = record { level = ap (λ (p : Node). p.level) s.is; low = ap (λ (p : Node). p.low) s.is; high = ap (λ (p : Node). p.high) s.is; right = ap (λ (p : Node). p.right) s.is };
      routes = subst (λ (p : Node). AllByRecursion (LeadsDown old (old.node n).level) p.routes) (sym s.is) (h.routes n linked);
      more = (let same = ap (λ (p : Node). length p.routes) s.is in omega arith);
      others = s.others;
      chains = s.chains;
      root = s.root;
      allotted = s.allotted;
      held = s.held;
    }

    pub entries_keep : IsNode (with_entries (old.node n) entries) → IsForest new
    entries_keep i = rewrite_keeps old new h n (entries_rewrite i)

    pub entries_change : ChangesAt (old.node n) entries (all_entries old) (all_entries new)
    entries_change = subst (λ (es : List Entry). ChangesAt (old.node n) es (all_entries old) (all_entries new)) (ap (λ (p : Node). p.entries) s.is)
        (changes_at old h n linked leaf new (s.chains 0) s.others)

  own : AllByRecursion (λ (e : Entry). IsInside (old.node n).low (old.node n).high e.key) (old.node n).entries
  own = all_from_map (λ (e : Entry). e.key) (IsInside (old.node n).low (old.node n).high) (old.node n).entries page.entries.inside

  module _ (leaf : (old.node n).level ≡ 0) where
    -- an entry is put into a page with room
    pub put_event : (e : Entry) → item_count (old.node n) < 32 → IsInside (old.node n).low (old.node n).high e.key → has_entry e.key (old.node n).entries ≡ false
        → SetsPage old new n (with_entries (old.node n) (put entry_cmp e (old.node n).entries)) → IsForest new × (all_entries new ≡ put entry_cmp e (all_entries old))
    put_event e few inside absent s =
        let es : List Entry = put entry_cmp e (old.node n).entries in (
          entries_keep leaf es s (insert_entry_keeps (old.node n) e es page leaf few inside absent refl),
          placed (old.node n) es (all_entries old) (all_entries new) (entries_change leaf es s) own e inside refl,
        )

    -- a page keeps what a test keeps
    pub filter_event : (t : Entry → Bool) → SetsPage old new n (with_entries (old.node n) (filter t (old.node n).entries))
        → IsForest new × (all_entries new ≡ filter (λ e. not (in_range (old.node n) e.key) || t e) (all_entries old))
    filter_event t s =
        let es : List Entry = filter t (old.node n).entries in
        (entries_keep leaf es s (filter_keeps_leaf (old.node n) t es page leaf refl), filtered (old.node n) es (all_entries old) (all_entries new) (entries_change leaf es s) own t refl)

    -- the entry of a key in the range is removed
    pub remove_event : (key : ℕ) → IsInside (old.node n).low (old.node n).high key → SetsPage old new n (with_entries (old.node n) (without_key key (old.node n).entries))
        → IsForest new × (all_entries new ≡ without_key key (all_entries old))
    remove_event key inside s =
        let r = filter_event (λ e. not (nat_eq e.key key)) s in (
          r.0,
          r.1 ∙ filter_same (λ e. not (in_range (old.node n) e.key) || not (nat_eq e.key key)) (λ e. not (nat_eq e.key key)) (all_entries old)
              (all_any (λ e. (not (in_range (old.node n) e.key) || not (nat_eq e.key key)) ≡ not (nat_eq e.key key)) same (all_entries old)),
        )
      where
        same : (e : Entry) → (not (in_range (old.node n) e.key) || not (nat_eq e.key key)) ≡ not (nat_eq e.key key)
        same e =
            let P : Bool → Type 0 = λ b. nat_eq e.key key ≡ b → (not (in_range (old.node n) e.key) || not b) ≡ not b in
            (elim (nat_eq e.key key) as P [
              | true ↦ λ is. ap (λ b. not b || false) (ap (in_range (old.node n)) (eqb-true e.key key is) ∙ inside_in (old.node n) key inside)
              | false ↦ λ _. right (not (in_range (old.node n) e.key))
            ]) refl
          where
            right : (b : Bool) → (b || true) ≡ true
            right true = refl
            right false = refl

    -- the entry of a key in the range gets a death
    pub death_event : (key number : ℕ) → IsInside (old.node n).low (old.node n).high key → SetsPage old new n (with_entries (old.node n) (map (with_death key number) (old.node n).entries))
        → IsForest new × (all_entries new ≡ map (with_death key number) (all_entries old))
    death_event key number inside s =
        let es : List Entry = map (with_death key number) (old.node n).entries in (
          entries_keep leaf es s (mark_keeps (old.node n) key number es page leaf refl),
          mapped (old.node n) es (all_entries old) (all_entries new) (entries_change leaf es s) own (with_death key number) fixed refl,
        )
      where
        fixed : (e : Entry) → in_range (old.node n) e.key ≡ false → with_death key number e ≡ e
        fixed e out =
            let P : Bool → Type 0 = λ b. nat_eq e.key key ≡ b → cond b (record { key = e.key; vector = e.vector; dists = e.dists; birth = e.birth; death = Some number }) e ≡ e in
            (elim (nat_eq e.key key) as P [
              | true ↦ λ is. absurd (false≢true (sym out ∙ ap (in_range (old.node n)) (eqb-true e.key key is) ∙ inside_in (old.node n) key inside))
              | false ↦ λ _. refl
            ]) refl

    -- a key in the range is in all pages where it is in this one
    pub there_or_not : (key : ℕ) → IsInside (old.node n).low (old.node n).high key → (t : Entry → Bool) → ((e : Entry) → t e ≡ true → e.key ≡ key) → list_any t (all_entries old) ≡ list_any t (old.node n).entries
    there_or_not key inside t its =
        ap (list_any t) c.was
        ∙ list_any-append t c.before ((old.node n).entries ++ c.behind)
        ∙ ap (λ b. b || list_any t ((old.node n).entries ++ c.behind)) (none c.before (all_weaker (λ e. e.key < (old.node n).low) (λ e. e.key ≢ key) (λ e l same. let low = inside.from_low in omega arith) c.before c.below))
        ∙ list_any-append t (old.node n).entries c.behind
        ∙ ap (λ b. list_any t (old.node n).entries || b) (none c.behind (all_weaker (λ e. is_below (old.node n).high e.key ≡ false) (λ e. e.key ≢ key)
        (λ e l same. false≢true (sym l ∙ ap (is_below (old.node n).high) same ∙ inside.below_high)) c.behind c.above))
        ∙ or_no (list_any t (old.node n).entries)
      where
        c : ChangesAt (old.node n) (old.node n).entries (all_entries old) (all_entries old)
        c = changes_at old h n linked leaf old refl (λ m o. refl)

        or_no : (b : Bool) → (b || false) ≡ b
        or_no true = refl
        or_no false = refl

        none : (es : List Entry) → AllByRecursion (λ e. e.key ≢ key) es → list_any t es ≡ false
        none [] a = refl
        none (e ∷ es) a =
            let P : Bool → Type 0 = λ b. t e ≡ b → (b || list_any t es) ≡ false in
            (elim (t e) as P [ true ↦ λ is. absurd (a.0 (its e is)) | false ↦ λ _. none es a.1 ]) refl

  -- a route is put into a page with room
  module _ (above : 0 < (old.node n).level) (r : Route) (few : item_count (old.node n) < 32) (inside : IsInside (old.node n).low (old.node n).high r.key)
      (absent : has_route r.key (old.node n).routes ≡ false) (leads : LeadsDown old (old.node n).level r) (s : SetsPage old new n (with_routes (old.node n) (put route_cmp r (old.node n).routes))) where
    pub post_rewrite : RewritesPage old new n
    post_rewrite = record {
      linked = linked;
      page = subst IsNode (sym s.is) (insert_route_keeps (old.node n) r (put route_cmp r (old.node n).routes) page above few inside absent refl);
      frame = record { level = ap (λ (p : Node). p.level) s.is; low = ap (λ (p : Node). p.low) s.is; high = ap (λ (p : Node). p.high) s.is; right = ap (λ (p : Node). p.right) s.is };
      routes = subst (λ (p : Node). AllByRecursion (LeadsDown old (old.node n).level) p.routes) (sym s.is)
          (all_put route_cmp (LeadsDown old (old.node n).level) r (old.node n).routes leads (h.routes n linked));
      more = (let same = ap (λ (p : Node). length p.routes) s.is in omega (arith, length-put route_cmp r (old.node n).routes));
      others = s.others;
      chains = s.chains;
      root = s.root;
      allotted = s.allotted;
      held = s.held;
    }

    off : (m : ℕ) → has m (old.chain 0) ≡ true → (new.node m).entries ≡ (old.node m).entries
    off m t = ap (λ (p : Node). p.entries) (s.others m (λ same. let zero_level = level_in old.node 0 m (old.chain 0) (h.chains 0) t in let low = ap (λ k. (old.node k).level) same in absurd (omega arith)))

    pub post_event : IsForest new × (all_entries new ≡ all_entries old)
    post_event = (
      rewrite_keeps old new h n post_rewrite,
      ap (flat_map (λ m. (new.node m).entries)) (s.chains 0)
          ∙ flat_same (λ m. (new.node m).entries) (λ m. (old.node m).entries) (old.chain 0) (all_from_has (λ m. (new.node m).entries ≡ (old.node m).entries) (old.chain 0) off),
    )
