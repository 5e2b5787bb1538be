-- What is known of an entry stays known.
use Rattle.std.proofs.Common.{◌≡◌, ℕ, suc, zero, ◌+◌, ◌-◌, ◌<◌, ◌≤◌, List, [], ◌∷◌, ◌++◌, length, take, drop, Bool, true, false, refl, sym, ap, ◌∙◌, subst, arith, Some, inl, inr, length-append}
use Rattle.std.specs.Prelude.{slice_get}
use Rattle.std.specs.List.{list_any}
use Rattle.std.proofs.lemmas.Bool.{false≢true, cases_lt, eq-eqb}
use Rattle.std.proofs.lemmas.Option.{slice_get_within}
use Rattle.std.proofs.lemmas.List.{take-append-le}
use Rattle.mi_base.specs.declared.records.LogEvent.{LogEvent}
use Rattle.mi_base.specs.declared.records.LogEvent.TheVariants.{Update as Made, Split}
use Rattle.mi_base.specs.declared.records.Update.{Update}
use Rattle.mi_base.specs.declared.records.Update.TheVariants.{Insert, Delete}
use Rattle.mi_base.specs.Configuration.{Configuration}
use Rattle.mi_base.specs.History.{updates_of}
use Rattle.mi_base.proofs.HistoryLemmas.{updates_of-append}
use Rattle.mi_key.specs.declared.entries.Entry.{Entry}
use Rattle.mi_entries.specs.Deaths.{IsFirstDelete, deletes, updates_by}
use Rattle.mi_entries.specs.Entries.{IsEntry, depth_of, id_of, grid}
use Rattle.mi_entries.proofs.ShowLemmas.{IsTimely}

pub get_more : {X : Type 0} (xs ys : List X) (k : ℕ) (x : X) → slice_get xs k ≡ Some x → slice_get (xs ++ ys) k ≡ Some x
get_more [] ys k x h = cc
get_more (y ∷ xs) ys zero x h = h
get_more (y ∷ xs) ys (suc k) x h = get_more xs ys k x h

pub get_before : {X : Type 0} (xs ys : List X) (k : ℕ) → k < length xs → slice_get (xs ++ ys) k ≡ slice_get xs k
get_before [] ys k h = absurd (omega arith)
get_before (y ∷ xs) ys zero h = refl
get_before (y ∷ xs) ys (suc k) h = get_before xs ys k (omega arith)

pub get_last : {X : Type 0} (xs : List X) (y : X) → slice_get (xs ++ y ∷ []) (length xs) ≡ Some y
get_last [] y = refl
get_last (x ∷ xs) y = get_last xs y

-- the event is a delete of the identifier
abbrev pub is_delete_of : ℕ → LogEvent → Bool
is_delete_of id (Made a op u) = deletes id u
is_delete_of id (Split p) = false

module _ (log : List LogEvent) (x : LogEvent) (id birth k : ℕ) where
  taken : k ≤ length log → take k (log ++ x ∷ []) ≡ take k log
  taken le = take-append-le k log (x ∷ []) le

  pub delete_more : IsFirstDelete log id birth k → IsFirstDelete (log ++ x ∷ []) id birth k
  delete_more h =
      let w = slice_get_within log k (Made h.session h.op (Delete id)) h.there in
      let t : take k log ≡ take k (log ++ x ∷ []) = sym (taken (omega arith)) in
      record {
        session = h.session;
        op = h.op;
        there = get_more log (x ∷ []) k (Made h.session h.op (Delete id)) h.there;
        later = subst (λ (l : List LogEvent). birth ≤ length (updates_of l)) t h.later;
        first = subst (λ (l : List LogEvent). list_any (deletes id) (drop birth (updates_of l)) ≡ false) t h.first;
      }

  -- an event that isn't a delete of the identifier makes no delete of it
  pub delete_before : is_delete_of id x ≡ false → IsFirstDelete (log ++ x ∷ []) id birth k → IsFirstDelete log id birth k × (k < length log)
  delete_before other h =
      let w = slice_get_within (log ++ x ∷ []) k (Made h.session h.op (Delete id)) h.there in
      let within : k < length log = elim (cases_lt k (length log)) [
        | inl l ↦ l
        | inr l ↦
            let here : k ≡ length log = omega (arith, w, length-append log (x ∷ [])) in
            let is : Some x ≡ Some (Made h.session h.op (Delete id)) = sym (get_last log x) ∙ ap (slice_get (log ++ x ∷ [])) (sym here) ∙ h.there in
            let same : x ≡ Made h.session h.op (Delete id) = cc in
            let yes : is_delete_of id x ≡ true = ap (is_delete_of id) same ∙ eq-eqb id id refl in
            absurd (false≢true (sym other ∙ yes))
      ] in
      let t : take k (log ++ x ∷ []) ≡ take k log = taken (omega arith) in (
        record {
          session = h.session;
          op = h.op;
          there = sym (get_before log (x ∷ []) k within) ∙ h.there;
          later = subst (λ (l : List LogEvent). birth ≤ length (updates_of l)) t h.later;
          first = subst (λ (l : List LogEvent). list_any (deletes id) (drop birth (updates_of l)) ≡ false) t h.first;
        },
        within,
      )

-- one more event that isn't a delete of an entry's object
pub entry_more : (c : Configuration) (log : List LogEvent) (x : LogEvent) (e : Entry) → is_delete_of (id_of e) x ≡ false → depth_of (grid c) log e ≤ depth_of (grid c) (log ++ x ∷ []) e → (h : IsEntry c log e) → (i : IsEntry c (log ++ x ∷ []) e) × (i.down ≡ h.down)
entry_more c log x e other deeper h =
    let near = h.near in
    let t : (k : ℕ) → k < length log → take k (log ++ x ∷ []) ≡ take k log = λ k l. take-append-le k log (x ∷ []) (omega arith) in (
      record {
        born = (h.born.0, subst (λ (us : List Update). slice_get us (e.birth - 1) ≡ Some (Insert (id_of e) e.vector)) (sym (updates_of-append log (x ∷ []))) (get_more (updates_of log) (updates_of (x ∷ [])) (e.birth - 1) (Insert (id_of e) e.vector) h.born.1));
        dists = h.dists;
        fits = h.fits;
        down = h.down;
        deep = h.deep;
        near = omega arith;
        keyed = h.keyed;
        death = λ d s.
            let f = h.death d s in
            let w = slice_get_within log f.0 (Made f.1.session f.1.op (Delete (id_of e))) f.1.there in
            (f.0, delete_more log x (id_of e) e.birth f.0 f.1, f.2 ∙ ap (λ (l : List LogEvent). length (updates_of l) + 1) (sym (t f.0 w)));
        died = λ k f d.
            let b = delete_before log x (id_of e) e.birth k other f in
            h.died k b.0 (d ∙ ap (λ (l : List LogEvent). depth_of (grid c) l e) (t k b.1)) ∙ ap (λ (l : List LogEvent). Some (length (updates_of l) + 1)) (sym (t k b.1));
        none_deeper = λ k f.
            let b = delete_before log x (id_of e) e.birth k other f in
            subst (λ (l : List LogEvent). h.down ≤ depth_of (grid c) l e) (sym (t k b.1)) (h.none_deeper k b.0);
      },
      refl,
    )

-- an update is among those up to it
pub count_at : (k : ℕ) (log : List LogEvent) (a op : ℕ) (u : Update) → slice_get log k ≡ Some (Made a op u) → updates_by log k + 1 ≤ length (updates_of log)
count_at k [] a op u h = cc
count_at zero (Made b o v ∷ log) a op u h = omega arith
count_at zero (Split p ∷ log) a op u h = cc
count_at (suc k) (Made b o v ∷ log) a op u h = omega (arith, count_at k log a op u h)
count_at (suc k) (Split p ∷ log) a op u h = count_at k log a op u h

pub timely : (c : Configuration) (log : List LogEvent) (e : Entry) → IsEntry c log e → IsTimely log e
timely c log e h = record {
  birth = (let w = slice_get_within (updates_of log) (e.birth - 1) (Insert (id_of e) e.vector) h.born.1 in let p = h.born.0 in omega arith);
  death = λ d s. let f = h.death d s in omega (arith, f.2, count_at f.0 log f.1.session f.1.op (Delete (id_of e)) f.1.there);
}
