-- Live objects as a log grows, and the records of shards.
use Rattle.std.proofs.Common.{◌≡◌, ◌≢◌, ℕ, ℤ, ◌+◌, ◌<◌, ◌==◌, List, [], ◌∷◌, ◌++◌, map, length, set, Bool, true, false, cond, not, ◌||◌, refl, sym, ap, ◌∙◌, arith, Option, Some, None, inl, inr, get_or-set_other, get_or-set_same, eq-eqb}
use Rattle.std.specs.List.{filter, find, fold}
use Rattle.std.specs.Option.{option_or}
use Rattle.std.proofs.lemmas.Bool.{cases_eq, ne_eqb}
use Rattle.std.proofs.lemmas.List.Folds.{find-append}
use Rattle.mi_base.specs.declared.records.LogEvent.{LogEvent}
use Rattle.mi_base.specs.declared.records.LogEvent.TheVariants.{Update as Made}
use Rattle.mi_base.specs.declared.records.Update.{Update}
use Rattle.mi_base.specs.declared.records.Update.TheVariants.{Insert, Delete}
use Rattle.mi_base.specs.Configuration.{Configuration, space_of}
use Rattle.mi_base.specs.History.{Object, is_among, is_live, live, live_after, updates_of}
use Rattle.mi_base.specs.Permutations.{distances}
use Rattle.mi_tree.specs.Births.{Born, born, born_after, born_from, living}
use Rattle.mi_entries.specs.Records.{HasRecords, record_of, held_by, with_record, without_id, Rows, Shard, ShardRecord, home, no_shard, shard_at}
use Rattle.mi_entries.proofs.ShowLemmas.{born_more}
use Rattle.mi_tree.proofs.ListLemmas.{filter_map}

abbrev pub object : Born → Object
object o = record { id = o.id; vector = o.vector }

one_more : (n : ℕ) (os : List Born) (u : Update) → map object (born_after n os u) ≡ live_after (map object os) u
one_more n os (Insert id v) = refl
one_more n os (Delete id) = filter_map object (λ o. not (o.id == id)) os

all_more : (n : ℕ) (os : List Born) (us : List Update) → map object (born_from n os us) ≡ fold live_after (map object os) us
all_more n os [] = refl
all_more n os (u ∷ us) = all_more (n + 1) (born_after (n + 1) os u) us ∙ ap (λ xs. fold live_after xs us) (one_more (n + 1) os u)

-- the live objects are those with births
pub born_live : (us : List Update) → map object (born us) ≡ live us
born_live us = all_more 0 [] us

not_found : (id : ℕ) (os : List Born) → find (λ o. o.id == id) os ≡ None → is_among id (map object os) ≡ false
not_found id [] h = refl
not_found id (o ∷ os) h =
    let P : Bool → Type 0 = λ b. cond b (Some o) (find (λ x. x.id == id) os) ≡ None → (b || is_among id (map object os)) ≡ false in
    (elim (o.id == id) as P [ true ↦ λ e. cc | false ↦ λ e. not_found id os e ]) h

pub not_living : (id : ℕ) (log : List LogEvent) → living id log ≡ None → is_live id (updates_of log) ≡ false
not_living id log h = ap (is_among id) (sym (born_live (updates_of log))) ∙ not_found id (born (updates_of log)) h

pub living_insert : (log : List LogEvent) (a op id i : ℕ) (v : List ℤ) → living i (log ++ Made a op (Insert id v) ∷ []) ≡ cond (id == i) (Some (record { id = id; vector = v; birth = length (updates_of log) + 1 })) (living i log)
living_insert log a op id i v = ap (find (λ o. o.id == i)) (born_more log a op (Insert id v))

no_record : (c : Configuration) (o : Option Born) → record_of c o ≡ None → o ≡ None
no_record c None h = refl
no_record c (Some x) h = cc

or_none : {X : Type 0} (o : Option X) → option_or o None ≡ o
or_none None = refl
or_none (Some x) = refl

-- a record more for an insert
module _ (c : Configuration) (log : List LogEvent) (shards : List Shard) (a op id : ℕ) (v : List ℤ) (birth : ℕ) (dists : List ℕ) (kept : Rows)
    (records : (k i : ℕ) → k < 16 → HasRecords c log shards k i) (low : home id < 16) (size : length shards ≡ 16) (kept_is : (shard_at shards (home id)).rows ≡ kept)
    (absent : find (λ x. x.id == id) kept.records ≡ None) (birth_is : birth ≡ length (updates_of log) + 1) (dists_is : dists ≡ distances (space_of c) v) where
  abbrev y : ShardRecord
  y = record { id = id; birth = birth; dists = dists }

  abbrev after : List Shard
  after = set shards (home id) (held_by (Some a) (with_record y kept))

  here : shard_at after (home id) ≡ held_by (Some a) (with_record y kept)
  here = get_or-set_same shards (home id) (held_by (Some a) (with_record y kept)) no_shard (omega arith)

  pub was_absent : living id log ≡ None
  was_absent = no_record c (living id log)
      (sym (records (home id) id low ∙ ap (λ b. cond b (record_of c (living id log)) None) (eq-eqb (home id) (home id) refl))
      ∙ ap (λ (s : Rows). find (λ x. x.id == id) s.records) kept_is ∙ absent)

  new_is : record_of c (living id (log ++ Made a op (Insert id v) ∷ [])) ≡ Some y
  new_is =
      let o : Born = record { id = id; vector = v; birth = length (updates_of log) + 1 } in
      ap (record_of c) (living_insert log a op id id v ∙ ap (λ b. cond b (Some o) (living id log)) (eq-eqb id id refl))
      ∙ ap (λ (n : ℕ). Some (record { id = id; birth = n; dists = distances (space_of c) v })) (sym birth_is)
      ∙ ap (λ (d : List ℕ). Some (record { id = id; birth = birth; dists = d })) (sym dists_is)

  other_is : (i : ℕ) → id ≢ i → living i (log ++ Made a op (Insert id v) ∷ []) ≡ living i log
  other_is i n = living_insert log a op id i v ∙ ap (λ b. cond b (Some (record { id = id; vector = v; birth = length (updates_of log) + 1 })) (living i log)) (ne_eqb id i n)

  found_here : (i : ℕ) → find (λ x. x.id == i) (shard_at after (home id)).rows.records ≡ option_or (find (λ x. x.id == i) (shard_at shards (home id)).rows.records) (cond (id == i) (Some y) None)
  found_here i = ap (λ (s : Shard). find (λ x. x.id == i) s.rows.records) here ∙ find-append (λ x. x.id == i) kept.records (y ∷ [])
      ∙ ap (λ (s : Rows). option_or (find (λ x. x.id == i) s.records) (cond (id == i) (Some y) None)) (sym kept_is)

  pub records_insert : (k i : ℕ) → k < 16 → HasRecords c (log ++ Made a op (Insert id v) ∷ []) after k i
  records_insert k i lt =
      let R : Option ShardRecord = record_of c (living i (log ++ Made a op (Insert id v) ∷ [])) in
      elim (cases_eq id i) [
        | inl same ↦ elim (cases_eq k (home id)) [
          | inl h ↦
              ap (λ n. find (λ x. x.id == i) (shard_at after n).rows.records) h ∙ found_here i
              ∙ ap (λ (s : Rows). option_or (find (λ x. x.id == i) s.records) (cond (id == i) (Some y) None)) kept_is
              ∙ ap (λ n. option_or (find (λ x. x.id == n) kept.records) (cond (id == n) (Some y) None)) (sym same)
              ∙ ap (λ o. option_or o (cond (id == id) (Some y) None)) absent
              ∙ ap (λ b. cond b (Some y) None) (eq-eqb id id refl)
              ∙ sym (ap (λ b. cond b R None) (eq-eqb k (home i) (h ∙ ap home same)) ∙ ap (λ n. record_of c (living n (log ++ Made a op (Insert id v) ∷ []))) (sym same) ∙ new_is)
          | inr h ↦
              let apart : k ≢ home i = λ e. h (e ∙ ap home (sym same)) in
              ap (λ (s : Shard). find (λ x. x.id == i) s.rows.records) (get_or-set_other shards (home id) k (held_by (Some a) (with_record y kept)) no_shard h) ∙ records k i lt
              ∙ ap (λ b. cond b (record_of c (living i log)) None) (ne_eqb k (home i) apart) ∙ sym (ap (λ b. cond b R None) (ne_eqb k (home i) apart))
        ]
        | inr n ↦
            let rest : cond (k == home i) (record_of c (living i log)) None ≡ cond (k == home i) R None = ap (λ o. cond (k == home i) (record_of c o) None) (sym (other_is i n)) in
            elim (cases_eq k (home id)) [
              | inl h ↦
                  ap (λ m. find (λ x. x.id == i) (shard_at after m).rows.records) h ∙ found_here i
                  ∙ ap (λ b. option_or (find (λ x. x.id == i) (shard_at shards (home id)).rows.records) (cond b (Some y) None)) (ne_eqb id i n)
                  ∙ or_none (find (λ x. x.id == i) (shard_at shards (home id)).rows.records)
                  ∙ ap (λ m. find (λ x. x.id == i) (shard_at shards m).rows.records) (sym h) ∙ records k i lt ∙ rest
              | inr h ↦ ap (λ (s : Shard). find (λ x. x.id == i) s.rows.records) (get_or-set_other shards (home id) k (held_by (Some a) (with_record y kept)) no_shard h) ∙ records k i lt ∙ rest
            ]
      ]

find_left : {X : Type 0} (name : X → ℕ) (id i : ℕ) (xs : List X) → find (λ x. name x == i) (filter (λ x. not (name x == id)) xs) ≡ cond (i == id) None (find (λ x. name x == i) xs)
find_left {X = X} name id i [] = same (i == id)
  where
    nothing_at : Option X
    nothing_at = None

    same : (b : Bool) → nothing_at ≡ cond b nothing_at nothing_at
    same true = refl
    same false = refl
find_left {X = X} name id i (x ∷ xs) = elim (cases_eq (name x) id) [
  | inl here ↦ elim (cases_eq i id) [
    | inl t ↦
        ap (λ b. find (λ y. name y == i) (cond (not b) (x ∷ filter (λ y. not (name y == id)) xs) (filter (λ y. not (name y == id)) xs))) (eq-eqb (name x) id here)
        ∙ find_left name id i xs ∙ ap (λ b. cond b None (find (λ y. name y == i) xs)) (eq-eqb i id t)
        ∙ sym (ap (λ b. cond b None (cond (name x == i) (Some x) (find (λ y. name y == i) xs))) (eq-eqb i id t))
    | inr t ↦
        ap (λ b. find (λ y. name y == i) (cond (not b) (x ∷ filter (λ y. not (name y == id)) xs) (filter (λ y. not (name y == id)) xs))) (eq-eqb (name x) id here)
        ∙ find_left name id i xs ∙ ap (λ b. cond b None (find (λ y. name y == i) xs)) (ne_eqb i id t)
        ∙ sym (ap (λ b. cond b None (cond (name x == i) (Some x) (find (λ y. name y == i) xs))) (ne_eqb i id t) ∙ ap (λ b. cond b (Some x) (find (λ y. name y == i) xs)) (ne_eqb (name x) i (λ e. t (sym e ∙ here))))
  ]
  | inr else ↦
      ap (λ b. find (λ y. name y == i) (cond (not b) (x ∷ filter (λ y. not (name y == id)) xs) (filter (λ y. not (name y == id)) xs))) (ne_eqb (name x) id else)
      ∙ elim (cases_eq (name x) i) [
        | inl t ↦
            ap (λ b. cond b (Some x) (find (λ y. name y == i) (filter (λ y. not (name y == id)) xs))) (eq-eqb (name x) i t)
            ∙ sym (ap (λ b. cond b None (cond (name x == i) (Some x) (find (λ y. name y == i) xs))) (ne_eqb i id (λ e. else (t ∙ e))) ∙ ap (λ b. cond b (Some x) (find (λ y. name y == i) xs)) (eq-eqb (name x) i t))
        | inr t ↦
            ap (λ b. cond b (Some x) (find (λ y. name y == i) (filter (λ y. not (name y == id)) xs))) (ne_eqb (name x) i t)
            ∙ find_left name id i xs
            ∙ sym (ap (λ b. cond (i == id) None (cond b (Some x) (find (λ y. name y == i) xs))) (ne_eqb (name x) i t))
      ]
]

-- a record less for a delete
module _ (c : Configuration) (log : List LogEvent) (shards : List Shard) (a op id : ℕ) (kept : Rows)
    (records : (k i : ℕ) → k < 16 → HasRecords c log shards k i) (low : home id < 16) (size : length shards ≡ 16) (kept_is : (shard_at shards (home id)).rows ≡ kept) where
  abbrev left : List Shard
  left = set shards (home id) (held_by (Some a) (without_id id kept))

  living_delete : (i : ℕ) → living i (log ++ Made a op (Delete id) ∷ []) ≡ cond (i == id) None (living i log)
  living_delete i = ap (find (λ o. o.id == i)) (born_more log a op (Delete id)) ∙ find_left (λ (o : Born). o.id) id i (born (updates_of log))

  record_left : (i : ℕ) → record_of c (living i (log ++ Made a op (Delete id) ∷ [])) ≡ cond (i == id) None (record_of c (living i log))
  record_left i =
      let P : Bool → Type 0 = λ b. record_of c (cond b None (living i log)) ≡ cond b None (record_of c (living i log)) in
      ap (record_of c) (living_delete i) ∙ elim (i == id) as P [ true ↦ refl | false ↦ refl ]

  pub records_delete : (k i : ℕ) → k < 16 → HasRecords c (log ++ Made a op (Delete id) ∷ []) left k i
  records_delete k i lt = elim (cases_eq k (home id)) [
    | inl h ↦
        let P : Bool → Type 0 = λ b. cond b None (cond (k == home i) (record_of c (living i log)) None) ≡ cond (k == home i) (cond b None (record_of c (living i log))) None in
        let turn : cond (i == id) None (cond (k == home i) (record_of c (living i log)) None) ≡ cond (k == home i) (cond (i == id) None (record_of c (living i log))) None = elim (i == id) as P [ true ↦ sym (nothing (k == home i)) | false ↦ refl ] in
        ap (λ m. find (λ x. x.id == i) (shard_at left m).rows.records) h
        ∙ ap (λ (s : Shard). find (λ x. x.id == i) s.rows.records) (get_or-set_same shards (home id) (held_by (Some a) (without_id id kept)) no_shard (omega arith))
        ∙ find_left (λ (x : ShardRecord). x.id) id i kept.records
        ∙ ap (λ (s : Rows). cond (i == id) None (find (λ x. x.id == i) s.records)) (sym kept_is)
        ∙ ap (λ m. cond (i == id) None (find (λ x. x.id == i) (shard_at shards m).rows.records)) (sym h)
        ∙ ap (λ o. cond (i == id) None o) (records k i lt) ∙ turn
        ∙ sym (ap (λ o. cond (k == home i) o None) (record_left i))
    | inr h ↦
        ap (λ (s : Shard). find (λ x. x.id == i) s.rows.records) (get_or-set_other shards (home id) k (held_by (Some a) (without_id id kept)) no_shard h) ∙ records k i lt
        ∙ elim (cases_eq i id) [
          | inl e ↦
              let apart : k ≢ home i = λ t. h (t ∙ ap home e) in
              ap (λ b. cond b (record_of c (living i log)) None) (ne_eqb k (home i) apart) ∙ sym (ap (λ b. cond b (record_of c (living i (log ++ Made a op (Delete id) ∷ []))) None) (ne_eqb k (home i) apart))
          | inr e ↦ sym (ap (λ o. cond (k == home i) o None) (record_left i ∙ ap (λ b. cond b None (record_of c (living i log))) (ne_eqb i id e)))
        ]
  ]
    where
      no_record_at : Option ShardRecord
      no_record_at = None

      nothing : (b : Bool) → cond b no_record_at no_record_at ≡ no_record_at
      nothing true = refl
      nothing false = refl
