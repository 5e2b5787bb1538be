-- A script read record by record.
use Rattle.std.proofs.Common.{◌≡◌, ℕ, ◌+◌, ◌≤◌, List, [], ◌∷◌, ◌++◌, Ok, Err, codes, ◌⊎◌, inl, inr, refl}
use Rattle.mi_base.specs.declared.limits.TheConstants.{MAX_OPS}
use Rattle.mi_base.specs.declared.records.Op.{Op}
use Rattle.mi_input.specs.declared.faults.Reason.{Reason}
use Rattle.mi_input.specs.declared.vectors.Shape.{Shape}
use Rattle.mi_input.specs.Records.{begins_with}
use Rattle.mi_input.specs.Scripts.{delete_in, insert_in, nearest_in, op_in, range_in, script_from}
use Rattle.mi_input.proofs.CaseLemmas.{chosen, limited_ok}
use Rattle.mi_input.proofs.EachLemmas.{front_done, front_more, with_front}

-- one more operation was read
pub script_more : (shape : Shape) (front : List Op) (number : ℕ) (fields : List (List ℕ)) (rest records : List (List (List ℕ))) (op : Op) → records ≡ fields ∷ rest
    → op_in shape number fields ≡ Ok op → with_front front (script_from shape number records) ≡ with_front (front ++ op ∷ []) (script_from shape (number + 1) rest)
unfolding script_from
script_more shape front number fields rest records op e h = rw (e, h) (front_more front op (script_from shape (number + 1) rest))

-- a record was refused
pub script_stops : (shape : Shape) (front : List Op) (number : ℕ) (fields : List (List ℕ)) (rest records : List (List (List ℕ))) (why : Reason) → records ≡ fields ∷ rest
    → op_in shape number fields ≡ Err why → with_front front (script_from shape number records) ≡ Err (record { number = number; why = why })
unfolding script_from
script_stops shape front number fields rest records why e h = rw (e, h) refl

-- no record is left
pub script_done : (shape : Shape) (front : List Op) (number : ℕ) (records : List (List (List ℕ))) → records ≡ [] → with_front front (script_from shape number records) ≡ Ok front
unfolding script_from
script_done shape front number records e = rw e (front_done front)

-- what is known of an operation that was read
pub op_ok : (shape : Shape) (number : ℕ) (fields : List (List ℕ)) (op : Op) → op_in shape number fields ≡ Ok op
    → (number ≤ MAX_OPS) × ((insert_in shape fields ≡ Ok op) ⊎ (delete_in fields ≡ Ok op) ⊎ (range_in shape fields ≡ Ok op) ⊎ (nearest_in shape fields ≡ Ok op))
unfolding op_in
op_ok shape number fields op h = elim (chosen (begins_with (codes "insert") fields) _ _ _ h) [
  | inl inserts ↦ let t = limited_ok MAX_OPS number (insert_in shape fields) op inserts.1 in (t.0, inl t.1)
  | inr others ↦ elim (chosen (begins_with (codes "delete") fields) _ _ _ others.1) [
    | inl deletes ↦ let t = limited_ok MAX_OPS number (delete_in fields) op deletes.1 in (t.0, inr (inl t.1))
    | inr more ↦ elim (chosen (begins_with (codes "range") fields) _ _ _ more.1) [
      | inl ranges ↦ let t = limited_ok MAX_OPS number (range_in shape fields) op ranges.1 in (t.0, inr (inr (inl t.1)))
      | inr rest ↦ elim (chosen (begins_with (codes "nearest") fields) _ _ _ rest.1) [
        | inl nearest ↦ let t = limited_ok MAX_OPS number (nearest_in shape fields) op nearest.1 in (t.0, inr (inr (inr t.1)))
        | inr none ↦ cc none.1
      ]
    ]
  ]
]

-- an operation stands within the limit
pub op_few : (shape : Shape) (number : ℕ) (fields : List (List ℕ)) (op : Op) → op_in shape number fields ≡ Ok op → number ≤ MAX_OPS
op_few shape number fields op h = (op_ok shape number fields op h).0
