-- What follows of a legal log, and how one goes on.
use Rattle.std.proofs.Common.{◌≡◌, ℕ, ◌<◌, ◌≤◌, List, [], ◌∷◌, ◌++◌, map, length, Bool, true, false, ◌&&◌, ◌||◌, nat_lt, refl, sym, ap, ◌∙◌, subst, append_assoc, append-nil}
use Rattle.std.specs.List.{filter, list_any}
use Rattle.std.proofs.lemmas.Bool.{and_parts, false≢true, ltb-true, or_right}
use Rattle.mi_base.specs.declared.records.Update.{Update}
use Rattle.mi_base.specs.declared.records.Update.TheVariants.{Insert, Delete}
use Rattle.mi_base.specs.declared.records.LogEvent.{LogEvent}
use Rattle.mi_base.specs.declared.records.LogEvent.TheVariants.{Update as Made, Split}
use Rattle.mi_base.specs.Configuration.{Configuration, space_of}
use Rattle.mi_base.specs.History.{Object, live, live_after, updates_of, is_live, Once, TheOne}
use Rattle.mi_base.proofs.HistoryLemmas.{updates_of-append, live-append}
use Rattle.mi_base.proofs.LiveLemmas.{once_inserted, once_deleted, the_one}
use Rattle.mi_tree.specs.declared.outcomes.Leaf.{Leaf}
use Rattle.mi_tree.specs.Cells.{Grid, grid_of, same_cell, is_leaf, MaySplit, AllMaySplit}
use Rattle.mi_tree.specs.Counting.{Population, belongs, population, leaf_with, is_wanted}
use Rattle.mi_tree.specs.Legal.{MayFollow, IsUncrowded, EachMayFollow, LegalLog}
use Rattle.mi_tree.proofs.LeafLemmas.{same_cell_is}
use Rattle.mi_tree.proofs.CatLemmas.{held_live}

-- the grid of settings
abbrev pub grid : Configuration → Grid
grid c = grid_of (space_of c) c.levels

-- a leaf that is to be split is one, above the greatest depth, with more objects than the cell size
pub wanted_among : (g : Grid) (h : Population) (levels cell : ℕ) (p : List ℕ) (ps : List (List ℕ)) → list_any (λ l. same_cell p l.prefix && is_wanted levels cell l) (map (leaf_with g h) ps) ≡ true
    → (list_any (same_cell p) ps ≡ true) × ((length p < levels) × (cell < length (filter (belongs g p) h.live)))
wanted_among g h levels cell p [] k = absurd (false≢true k)
wanted_among g h levels cell p (q ∷ ps) k =
    let T : Bool = same_cell p q && is_wanted levels cell (leaf_with g h q) in
    let P : Bool → Type 0 = λ b. T ≡ b → (b || list_any (λ (l : Leaf). same_cell p l.prefix && is_wanted levels cell l) (map (leaf_with g h) ps)) ≡ true
    → ((same_cell p q || list_any (same_cell p) ps) ≡ true) × ((length p < levels) × (cell < length (filter (belongs g p) h.live))) in
    (elim T as P [
      | true ↦ λ e _.
          let both = and_parts (same_cell p q) (is_wanted levels cell (leaf_with g h q)) e in
          let same : p ≡ q = same_cell_is p q both.0 in
          let wanted = and_parts (nat_lt (length q) levels) (nat_lt cell (length (filter (belongs g q) h.live))) both.1 in (
            (rw both.0 refl),
            (
              subst (λ (x : List ℕ). length x < levels) (sym same) (ltb-true (length q) levels wanted.0),
              subst (λ (x : List ℕ). cell < length (filter (belongs g x) h.live)) (sym same) (ltb-true cell _ wanted.1),
            ),
          )
      | false ↦ λ e r.
          let found = wanted_among g h levels cell p ps r in
          (or_right (same_cell p q) (list_any (same_cell p) ps) found.0, found.1)
    ]) refl k

-- the same of a split that may follow a log
pub wanted : (c : Configuration) (log : List LogEvent) (p : List ℕ) → MayFollow c log (Split p)
    → (is_leaf (grid c) log p ≡ true) × ((length p < c.levels) × (c.cell < length (filter (belongs (grid c) p) (live (updates_of log)))))
wanted c log p h =
    let all = wanted_among (grid c) (population (grid c) log) c.levels c.cell p _ h in
    (all.0, (all.1.0, subst (λ (xs : List Object). c.cell < length (filter (belongs (grid c) p) xs)) (held_live (grid c) log) all.1.1))

-- an event that may follow splits no leaf of greatest depth
pub may_split : (c : Configuration) (log : List LogEvent) (e : LogEvent) → MayFollow c log e → MaySplit (grid c) e
may_split c log (Made session op u) h = tt
may_split c log (Split p) h = (wanted c log p h).1.0

all_may_from : (c : Configuration) (earlier es : List LogEvent) → EachMayFollow c earlier es → AllMaySplit (grid c) es
all_may_from c earlier [] h = tt
all_may_from c earlier (e ∷ es) h = (may_split c earlier e h.0, all_may_from c (earlier ++ e ∷ []) es h.1.1)

-- a legal log splits no leaf of greatest depth
pub all_may : (c : Configuration) (log : List LogEvent) → LegalLog c log → AllMaySplit (grid c) log
all_may c log h = all_may_from c [] log h.each

-- the live objects after one more update
pub live_updated : (log : List LogEvent) (session op : ℕ) (u : Update) → live (updates_of (log ++ Made session op u ∷ [])) ≡ live_after (live (updates_of log)) u
live_updated log session op u = ap live (updates_of-append log (Made session op u ∷ [])) ∙ live-append (updates_of log) (u ∷ [])

-- a split is no update
pub updates_of_split : (log : List LogEvent) (p : List ℕ) → updates_of (log ++ Split p ∷ []) ≡ updates_of log
updates_of_split log p = updates_of-append log (Split p ∷ []) ∙ append-nil (updates_of log)

-- an event that may follow keeps each identifier once
once_after : (c : Configuration) (log : List LogEvent) (e : LogEvent) → MayFollow c log e → Once (live (updates_of log)) → Once (live (updates_of (log ++ e ∷ [])))
once_after c log (Made session op (Insert id v)) h once = subst Once (sym (live_updated log session op (Insert id v))) (once_inserted (live (updates_of log)) id v once h.1)
once_after c log (Made session op (Delete id)) h once = subst Once (sym (live_updated log session op (Delete id))) (once_deleted (live (updates_of log)) id once)
once_after c log (Split p) h once = subst Once (sym (ap live (updates_of_split log p))) once

once_from : (c : Configuration) (earlier es : List LogEvent) → EachMayFollow c earlier es → Once (live (updates_of earlier)) → Once (live (updates_of (earlier ++ es)))
once_from c earlier [] h once = subst (λ (l : List LogEvent). Once (live (updates_of l))) (sym (append-nil earlier)) once
once_from c earlier (e ∷ es) h once =
    subst (λ (l : List LogEvent). Once (live (updates_of l))) (append_assoc earlier (e ∷ []) es) (once_from c (earlier ++ e ∷ []) es h.1.1 (once_after c earlier e h.0 once))

-- after a legal log each live identifier has one object
pub one_live : (c : Configuration) (log : List LogEvent) → LegalLog c log → (id : ℕ) → is_live id (updates_of log) ≡ true → TheOne id (live (updates_of log))
one_live c log legal id h = the_one id (live (updates_of log)) (once_from c [] log legal.each tt) h

each_more : (c : Configuration) (earlier es : List LogEvent) (e : LogEvent) → EachMayFollow c earlier es → MayFollow c (earlier ++ es) e → IsUncrowded c ((earlier ++ es) ++ e ∷ []) → EachMayFollow c earlier (es ++ e ∷ [])
each_more c earlier [] e h may few =
    let same = append-nil earlier in
    (subst (λ (l : List LogEvent). MayFollow c l e) same may, (subst (λ (l : List LogEvent). IsUncrowded c (l ++ e ∷ [])) same few, tt))
each_more c earlier (x ∷ es) e h may few =
    let same : earlier ++ x ∷ es ≡ (earlier ++ x ∷ []) ++ es = sym (append_assoc earlier (x ∷ []) es) in
    (h.0, (h.1.0, each_more c (earlier ++ x ∷ []) es e h.1.1 (subst (λ (l : List LogEvent). MayFollow c l e) same may) (subst (λ (l : List LogEvent). IsUncrowded c (l ++ e ∷ [])) same few)))

-- a legal log goes on by an event that may follow, where that leaves no leaf too full
pub legal_more : (c : Configuration) (log : List LogEvent) (e : LogEvent) → LegalLog c log → MayFollow c log e → IsUncrowded c (log ++ e ∷ []) → length (updates_of (log ++ e ∷ [])) ≤ c.updates → LegalLog c (log ++ e ∷ [])
legal_more c log e legal may few bound = record { few = bound; each = each_more c [] log e legal.each may few }

pub uncrowded_from : (c : Configuration) (earlier es : List LogEvent) → EachMayFollow c earlier es → IsUncrowded c earlier → IsUncrowded c (earlier ++ es)
uncrowded_from c earlier [] h few = subst (IsUncrowded c) (sym (append-nil earlier)) few
uncrowded_from c earlier (e ∷ es) h few = subst (IsUncrowded c) (append_assoc earlier (e ∷ []) es) (uncrowded_from c (earlier ++ e ∷ []) es h.1.1 h.1.0)
