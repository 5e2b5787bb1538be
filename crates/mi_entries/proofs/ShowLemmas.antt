-- An update and a drop keep what is shown.
use Rattle.std.proofs.Common.{◌≡◌, ℕ, suc, zero, ◌+◌, ◌≤◌, List, [], ◌∷◌, ◌++◌, map, length, take, Bool, true, false, not, nat_lt, refl, sym, ap, ◌∙◌, subst, arith, Option, Some, None, inl, inr, length-append}
use Rattle.std.specs.List.{AllByRecursion, filter}
use Rattle.std.proofs.lemmas.Bool.{le-leb, le-ltb, lt-leb, ltb-false, false≢true, cases_lt}
use Rattle.std.proofs.lemmas.List.{take-append-le, take_all, take-take}
use Rattle.mi_base.specs.declared.records.LogEvent.{LogEvent}
use Rattle.mi_base.specs.declared.records.LogEvent.TheVariants.{Update as Made, Split}
use Rattle.mi_base.specs.declared.records.Update.{Update}
use Rattle.mi_base.specs.declared.records.Update.TheVariants.{Insert}
use Rattle.mi_base.specs.History.{updates_of}
use Rattle.mi_base.specs.Sorting.{put, SameElements}
use Rattle.mi_base.proofs.HistoryLemmas.{length-entered, updates_of-append}
use Rattle.mi_base.proofs.SortingLemmas.{same_trans, same_map, same_cons}
use Rattle.mi_key.specs.declared.entries.Entry.{Entry}
use Rattle.mi_page.specs.Entries.{entry_cmp, outlives}
use Rattle.mi_tree.specs.Cells.{Grid, depth}
use Rattle.mi_tree.specs.Births.{Born, born, born_after, born_from}
use Rattle.mi_entries.specs.Entries.{Shows, born_in, counts, is_placed}
use Rattle.mi_entries.proofs.FilterLemmas.{same_is, filter_dropped, put_out, put_in, no_and}
use Rattle.mi_tree.proofs.ListLemmas.{filter_same, all_weaker}
use Rattle.mi_entries.proofs.DepthLemmas.{depth-append}

-- an entry's birth and death are of updates that were made
pub record IsTimely (log : List LogEvent) (e : Entry) : Type 0 where
  pub birth : e.birth ≤ length (updates_of log)
  pub death : (d : ℕ) → e.death ≡ Some d → d ≤ length (updates_of log)

pub count_take : (k : ℕ) (log : List LogEvent) → length (updates_of (take k log)) ≤ length (updates_of log)
count_take zero log = omega arith
count_take (suc k) [] = omega arith
count_take (suc k) (Made a op x ∷ es) = omega (arith, count_take k es)
count_take (suc k) (Split p ∷ es) = count_take k es

-- later positions have no fewer updates
pub count_between : (j k : ℕ) (log : List LogEvent) → j ≤ k → length (updates_of (take j log)) ≤ length (updates_of (take k log))
count_between j k log le = subst (λ (l : List LogEvent). length (updates_of l) ≤ length (updates_of (take k log))) (take-take j k log le) (count_take j (take k log))

born_from-append : (n : ℕ) (objects : List Born) (us : List Update) (u : Update) → born_from n objects (us ++ u ∷ []) ≡ born_after (n + length us + 1) (born_from n objects us) u
born_from-append n objects [] u = ap (λ m. born_after m objects u) (omega arith)
born_from-append n objects (v ∷ us) u =
    born_from-append (n + 1) (born_after (n + 1) objects v) us u
    ∙ ap (λ m. born_after m (born_from (n + 1) (born_after (n + 1) objects v) us) u) (omega arith)

pub born_more : (log : List LogEvent) (a op : ℕ) (x : Update) → born (updates_of (log ++ Made a op x ∷ [])) ≡ born_after (length (updates_of log) + 1) (born (updates_of log)) x
born_more log a op x = ap born (updates_of-append log (Made a op x ∷ [])) ∙ born_from-append 0 [] (updates_of log) x ∙ ap (λ m. born_after m (born (updates_of log)) x) (omega arith)

pub depth_more : (g : Grid) (log : List LogEvent) (a op : ℕ) (x : Update) (perm : List ℕ) → depth g (log ++ Made a op x ∷ []) perm ≡ depth g log perm
depth_more g log a op x perm = depth-append g log (Made a op x) perm

-- whether it lives on after one more update that isn't its end
outlives_more : (n : ℕ) (death : Option ℕ) → ((d : ℕ) → death ≡ Some d → d ≤ n) → outlives death (n + 1) ≡ outlives death n
outlives_more n None h = refl
outlives_more n (Some d) h = let l = h d refl in rw (le-ltb (n + 1) d (omega arith), le-ltb n d l) refl

-- an entry from before counts after an update where it counted before
pub counts_more : (g : Grid) (log : List LogEvent) (a op : ℕ) (x : Update) (e : Entry) → IsTimely log e → counts g (log ++ Made a op x ∷ []) e ≡ counts g log e
counts_more g log a op x e h =
    rw (
      length-entered log a op x,
      depth_more g log a op x (g.perm e.vector),
      outlives_more (length (updates_of log)) e.death h.death,
      le-leb e.birth (length (updates_of log) + 1) (let b = h.birth in omega arith),
      le-leb e.birth (length (updates_of log)) h.birth,
    ) refl

not_yes : (b : Bool) → not b ≡ true → b ≡ false
not_yes true t = sym t
not_yes false t = refl

-- what died by u updates isn't shown later
pub dead_on : (u n : ℕ) (death : Option ℕ) → u ≤ n → not (outlives death u) ≡ true → outlives death n ≡ false
dead_on u n None le t = absurd (false≢true t)
dead_on u n (Some d) le t = le-ltb n d (omega (arith, ltb-false u d (not_yes (nat_lt u d) t)))

-- positions of the log before an event
pub take_less : (log : List LogEvent) (x : LogEvent) (k : ℕ) → k ≤ length log → take k (log ++ x ∷ []) ≡ take k log
take_less log x k le = take-append-le k log (x ∷ []) le

-- an insert, with its entry e
module _ (g : Grid) (log : List LogEvent) (a op id : ℕ) (e : Entry) (entries : List Entry) (timely : AllByRecursion (IsTimely log) entries)
    (birth : e.birth ≡ length (updates_of log) + 1) (death : e.death ≡ None) (named : born_in e ≡ record { id = id; vector = e.vector; birth = e.birth })
    (placed : is_placed g log e ≡ true) where
  pub insert_before : (k : ℕ) → Shows g (take k log) entries → Shows g (take k log) (put entry_cmp e entries)
  insert_before k s =
      let few : length (updates_of (take k log)) ≤ length (updates_of log) = count_take k log in
      record {
        same = same_trans (same_map born_in _ _ (put_out entry_cmp (counts g (take k log)) e entries
            (no_and _ _ (no_and _ _ (lt-leb e.birth (length (updates_of (take k log))) (omega arith)))))) s.same;
      }

  shown_more : filter (counts g (log ++ Made a op (Insert id e.vector) ∷ [])) entries ≡ filter (counts g log) entries
  shown_more = filter_same _ _ entries (all_weaker _ _ (λ x h. counts_more g log a op (Insert id e.vector) x h) entries timely)

  new_counts : counts g (log ++ Made a op (Insert id e.vector) ∷ []) e ≡ true
  new_counts =
      rw (
        length-entered log a op (Insert id e.vector),
        depth_more g log a op (Insert id e.vector) (g.perm e.vector),
        placed,
        death,
        le-leb e.birth (length (updates_of log) + 1) (omega (arith, birth)),
      ) refl

  new_born : born_in e ∷ born (updates_of log) ≡ born (updates_of (log ++ Made a op (Insert id e.vector) ∷ []))
  new_born =
      ap (λ (o : Born). o ∷ born (updates_of log)) (named ∙ ap (λ (n : ℕ). record { id = id; vector = e.vector; birth = n }) birth)
      ∙ sym (born_more log a op (Insert id e.vector))

  pub insert_now : Shows g log entries → Shows g (log ++ Made a op (Insert id e.vector) ∷ []) (put entry_cmp e entries)
  insert_now s = record {
    same = subst (SameElements _) new_born
        (same_trans (same_map born_in _ _ (put_in entry_cmp (counts g (log ++ Made a op (Insert id e.vector) ∷ [])) e entries new_counts))
        (same_cons _ _ _ (same_trans (same_is _ _ (ap (map born_in) shown_more)) s.same)));
  }

-- what is dropped didn't count
pub drop_shows : (g : Grid) (log : List LogEvent) (entries : List Entry) (out : Entry → Bool) → AllByRecursion (λ e. out e ≡ true → counts g log e ≡ false) entries → Shows g log entries → Shows g log (filter (λ e. not (out e)) entries)
drop_shows g log entries out h s = record { same = same_trans (same_is _ _ (ap (map born_in) (filter_dropped (counts g log) out entries h))) s.same }

-- all positions after one more event
pub extend : (g : Grid) (log : List LogEvent) (x : LogEvent) (entries : List Entry) (floor : ℕ) → ((k : ℕ) → floor ≤ k → k ≤ length log → Shows g (take k log) entries) → Shows g (log ++ x ∷ []) entries
    → (k : ℕ) → floor ≤ k → k ≤ length (log ++ x ∷ []) → Shows g (take k (log ++ x ∷ [])) entries
extend g log x entries floor before now k le most = elim (cases_lt (length log) k) [
  | inl l ↦ subst (λ (l : List LogEvent). Shows g l entries) (sym (take_all k (log ++ x ∷ []) (omega (arith, length-append log (x ∷ []))))) now
  | inr l ↦ subst (λ (l : List LogEvent). Shows g l entries) (sym (take_less log x k l)) (before k le l)
]
