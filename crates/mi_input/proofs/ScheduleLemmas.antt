-- A schedule read record by record.
use Rattle.std.proofs.Common.{◌≡◌, ◌==◌, ℕ, ℤ, pos, negsuc, ◌+◌, ◌-ℤ◌, ◌≤◌, ◌≤ℤ◌, ◌<◌, List, [], ◌∷◌, ◌++◌, length, sum_by, nat_le, unsigned_abs, codes, bytes_eq, Ok, Err, inl, inr, refl, arith}
use Rattle.std.specs.List.{AllByRecursion}
use Rattle.std.proofs.lemmas.Bool.{leb-true}
use Rattle.std.proofs.lemmas.Int.{ints}
use Rattle.std.proofs.lemmas.List.Sums.{sum_by-cons}
use Rattle.mi_base.specs.declared.limits.TheConstants.{MAX_ITEMS, MAX_TURNS}
use Rattle.mi_base.specs.declared.records.Actor.{Actor}
use Rattle.mi_base.specs.declared.records.Actor.TheVariants.{Session, Splitter}
use Rattle.mi_base.specs.declared.records.Take.{Take}
use Rattle.mi_base.specs.declared.records.Take.TheVariants.{Turns, Operation}
use Rattle.mi_base.specs.declared.records.ScheduleItem.{ScheduleItem}
use Rattle.mi_input.specs.declared.faults.Reason.{Reason}
use Rattle.mi_input.specs.declared.faults.Reason.TheVariants.{Fields, Limit, Word}
use Rattle.mi_input.specs.declared.schedules.TheConstants.{MAX_TAKE}
use Rattle.mi_input.specs.Faults.{Fault, ◌>>=◌, at_record}
use Rattle.mi_input.specs.Numbers.{count_in, whole_in}
use Rattle.mi_input.specs.Records.{field_in}
use Rattle.mi_input.specs.Schedules.{IsActorOf, IsItemOf, IsScheduleOf, IsTake, actor_in, item_after, item_in, names_actor, schedule_from, take_in, turns_of, within_turns}
use Rattle.mi_input.proofs.CaseLemmas.{at_record_ok, bind_ok, chosen, limited_ok, ok_same}
use Rattle.mi_input.proofs.EachLemmas.{front_done, front_more, with_front}
use Rattle.mi_input.proofs.VectorLaws.{count_ok, whole_ok}

-- one more item was read
pub schedule_more : (sessions : ℕ) (front : List ScheduleItem) (turns number : ℕ) (fields : List (List ℕ)) (rest records : List (List (List ℕ))) (item : ScheduleItem) → records ≡ fields ∷ rest
    → item_after sessions turns number fields ≡ Ok item
    → with_front front (schedule_from sessions turns number records) ≡ with_front (front ++ item ∷ []) (schedule_from sessions (turns + turns_of item.take) (number + 1) rest)
unfolding schedule_from
schedule_more sessions front turns number fields rest records item e h =
    rw (e, h) (front_more front item (schedule_from sessions (turns + turns_of item.take) (number + 1) rest))

-- a record was refused
pub schedule_stops : (sessions : ℕ) (front : List ScheduleItem) (turns number : ℕ) (fields : List (List ℕ)) (rest records : List (List (List ℕ))) (why : Reason) → records ≡ fields ∷ rest
    → item_after sessions turns number fields ≡ Err why → with_front front (schedule_from sessions turns number records) ≡ Err (record { number = number; why = why })
unfolding schedule_from
schedule_stops sessions front turns number fields rest records why e h = rw (e, h) refl

-- no record is left
pub schedule_done : (sessions : ℕ) (front : List ScheduleItem) (turns number : ℕ) (records : List (List (List ℕ))) → records ≡ [] → with_front front (schedule_from sessions turns number records) ≡ Ok front
unfolding schedule_from
schedule_done sessions front turns number records e = rw e (front_done front)

-- a number from 0 to one less than so many
below : (z : ℤ) (n k : ℕ) → unsigned_abs z ≡ k → pos 0 ≤ℤ z → z ≤ℤ (pos n -ℤ pos 1) → k < n
below (pos i) n k e lo hi = let s : i ≡ k = e in omega (arith, ints)
below (negsuc i) n k e lo hi = absurd (omega (arith, ints))

actor_ok : (sessions : ℕ) (field : List ℕ) (actor : Actor) → actor_in sessions field ≡ Ok actor → IsActorOf sessions actor
unfolding actor_in
actor_ok sessions field actor h = elim (chosen (bytes_eq field (codes "splitter")) (Ok Splitter) (whole_in (pos 0) (pos sessions -ℤ pos 1) field >>= λ number. Ok (Session (unsigned_abs number))) (Ok actor) h) [
  | inl splitter ↦ rw (← ok_same {E = Reason} Splitter actor splitter.1) tt
  | inr session ↦
      let (number, read, same) = bind_ok (whole_in (pos 0) (pos sessions -ℤ pos 1) field) (λ number. Ok (Session (unsigned_abs number))) actor session.1 in
      let bounds = whole_ok (pos 0) (pos sessions -ℤ pos 1) field number read in
      rw (← ok_same {E = Reason} (Session (unsigned_abs number)) actor same) (below number sessions (unsigned_abs number) refl bounds.0 bounds.1)
]

take_ok : (field : List ℕ) (take : Take) → take_in field ≡ Ok take → IsTake take
unfolding take_in
take_ok field take h = elim (chosen (bytes_eq field (codes "op")) (Ok Operation) (count_in 1 MAX_TAKE field >>= λ count. Ok (Turns count)) (Ok take) h) [
  | inl operation ↦ rw (← ok_same {E = Reason} Operation take operation.1) tt
  | inr turns ↦
      let (count, read, same) = bind_ok (count_in 1 MAX_TAKE field) (λ count. Ok (Turns count)) take turns.1 in
      rw (← ok_same {E = Reason} (Turns count) take same) (count_ok 1 MAX_TAKE field count read).0
]

-- what is known of an item that was read
item_ok : (sessions number : ℕ) (fields : List (List ℕ)) (item : ScheduleItem) → item_in sessions number fields ≡ Ok item → (number ≤ MAX_ITEMS) × IsItemOf sessions item
unfolding item_in
item_ok sessions number fields item h = elim (chosen (names_actor (field_in 0 fields)) _ (Err Word) (Ok item) h) [
  | inl named ↦
      let t = limited_ok MAX_ITEMS number _ item named.1 in
      elim (chosen (length fields == 2) _ (Err Fields) (Ok item) t.1) [
        | inl full ↦
            let (actor, first, more) = bind_ok (actor_in sessions (field_in 0 fields)) (λ actor. take_in (field_in 1 fields) >>= λ take. Ok (record { actor = actor; take = take })) item full.1 in
            let (take, second, same) = bind_ok (take_in (field_in 1 fields)) (λ take. Ok (record { actor = actor; take = take })) item more in
            rw (← ok_same {E = Reason} (record { actor = actor; take = take }) item same) (t.0, record { actor = actor_ok sessions (field_in 0 fields) actor first; take = take_ok (field_in 1 fields) take second })
        | inr other ↦ cc other.1
      ]
  | inr none ↦ cc none.1
]

-- what is known of one that was read after others
pub next_ok : (sessions turns number : ℕ) (fields : List (List ℕ)) (item : ScheduleItem) → item_after sessions turns number fields ≡ Ok item
    → (number ≤ MAX_ITEMS) × IsItemOf sessions item × (turns + turns_of item.take ≤ MAX_TURNS)
next_ok sessions turns number fields item h =
    let (one, read, counted) = bind_ok (item_in sessions number fields) (within_turns turns) item h in
    elim (chosen (nat_le (turns + turns_of one.take) MAX_TURNS) (Ok one) (Err Limit) (Ok item) counted) [
      | inl few ↦
          let o = item_ok sessions number fields one read in
          rw (← ok_same {E = Reason} one item few.1) (o.0, o.1, leb-true (turns + turns_of one.take) MAX_TURNS few.0)
      | inr many ↦ cc many.1
    ]

records_ok : (sessions turns number : ℕ) (records : List (List (List ℕ))) (items : List ScheduleItem) → number ≤ MAX_ITEMS + 1 → turns ≤ MAX_TURNS
    → schedule_from sessions turns number records ≡ Ok items
    → (length items + number ≤ MAX_ITEMS + 1) × AllByRecursion (IsItemOf sessions) items × (turns + sum_by (λ item. turns_of item.take) items ≤ MAX_TURNS)
unfolding schedule_from
records_ok sessions turns number [] items few small h = let e : [] ≡ items = ok_same {E = Fault} [] items h in rw (← e) (omega arith, tt, omega arith)
records_ok sessions turns number (fields ∷ rest) items few small h =
    let read = item_after sessions turns number fields in
    let (item, first, more) = bind_ok (at_record number read) (λ item. schedule_from sessions (turns + turns_of item.take) (number + 1) rest >>= λ items. Ok (item ∷ items)) items h in
    let (after, others, e) = bind_ok (schedule_from sessions (turns + turns_of item.take) (number + 1) rest) (λ (items : List ScheduleItem). Ok (item ∷ items)) items more in
    let o = next_ok sessions turns number fields item (at_record_ok number read item first) in
    let r = records_ok sessions (turns + turns_of item.take) (number + 1) rest after (omega (arith, o.0)) o.2 others in
    rw (← ok_same {E = Fault} (item ∷ after) items e) (omega (arith, r.0), (o.1, r.1), omega (arith, r.2, sum_by-cons (λ (x : ScheduleItem). turns_of x.take) item after))

-- a schedule that was read is one for its sessions
pub schedule_ok : (sessions : ℕ) (records : List (List (List ℕ))) (items : List ScheduleItem) → schedule_from sessions 0 1 records ≡ Ok items → IsScheduleOf sessions items
schedule_ok sessions records items h =
    let r = records_ok sessions 0 1 records items (omega arith) (omega arith) h in
    record { few = omega (arith, r.0); each = r.1; turns = omega (arith, r.2) }
