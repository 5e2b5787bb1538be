-- How csv's machine goes from record to record.
use Rattle.std.proofs.Common.{◌≡◌, ℕ, zero, suc, ◌+◌, ◌≤◌, ◌<◌, ◌==◌, ◌||◌, inl, inr, cond, subst, Bool, true, false, List, [], ◌∷◌, ◌++◌, length, Option, Some, None, IsSome, refl, sym, ap, ◌∙◌, arith, add-one, true≢false}
use Rattle.std.proofs.lemmas.Bool.{false≢true}
use denote.Ref.{Bor}
use Rattle.csv.specs.Machine.{Read, ends_at_end, field_after, fields_after, in_field, is_end, next_record, start_field, start_record, step}
use Rattle.csv.specs.Reading.{Reached, ReadRecord, default_config, is_flexible, reader_state, records_from, records_next, source_of}
use Rattle.csv.specs.declared.parser.State.{State}
use Rattle.csv.specs.declared.parser.State.TheVariants as st
use Rattle.csv.specs.declared.parser.Action.{Action}
use Rattle.csv.specs.declared.parser.Action.TheVariants as act
use Rattle.csv.specs.declared.reader.Reader.{Reader}
use Rattle.csv.proofs.ReadFacts.{rows-end, rows-more}
use Rattle.mi_input.specs.Records.{IsBetweenRecords, records_at, records_left, records_of}
use Rattle.mi_input.proofs.CaseLemmas.{chosen}

-- a byte that ends a record leaves the machine between two records
abbrev EndsBetween : State × Action → Type 0
EndsBetween x = is_end x.1 ≡ true → ends_at_end x.0 ≡ false

pick : (b : Bool) (x y : State × Action) → EndsBetween x → EndsBetween y → EndsBetween (cond b x y)
pick true x y f g = f
pick false x y f g = g

line_end : (b : Bool) → ends_at_end (cond b st.AfterCr st.StartRecord) ≡ false
line_end true = refl
line_end false = refl

in_field_ends : (c : ℕ) → EndsBetween (in_field default_config c)
in_field_ends c =
    pick (c == 44) (st.StartField, act.EndField) (cond ((c == 13) || (c == 10)) (cond (c == 13) st.AfterCr st.StartRecord, act.EndRecord) (st.InField, act.Copy))
    (λ h. cc)
    (pick ((c == 13) || (c == 10)) (cond (c == 13) st.AfterCr st.StartRecord, act.EndRecord) (st.InField, act.Copy) (λ h. line_end (c == 13)) (λ h. cc))

start_field_ends : (c : ℕ) → EndsBetween (start_field default_config c)
start_field_ends c = pick (c == 34) (st.InQuoted, act.Skip) (in_field default_config c) (λ h. cc) (in_field_ends c)

start_record_ends : (c : ℕ) → EndsBetween (start_record default_config c)
start_record_ends c = pick ((c == 13) || (c == 10)) (st.StartRecord, act.Skip) (start_field default_config c) (λ h. cc) (start_field_ends c)

ends_between : (s : State) (c : ℕ) → EndsBetween (step default_config s c)
ends_between st.StartRecord c = start_record_ends c
ends_between st.StartField c = start_field_ends c
ends_between st.InField c = in_field_ends c
ends_between st.InQuoted c = pick (c == 34) (st.AfterQuote, act.Skip) (st.InQuoted, act.Copy) (λ h. cc) (λ h. cc)
ends_between st.InEscape c = λ h. cc h
ends_between st.AfterQuote c = pick (c == 34) (st.InQuoted, act.Copy) (in_field default_config c) (λ h. cc) (in_field_ends c)
ends_between st.InComment c = pick (c == 10) (st.StartRecord, act.Skip) (st.InComment, act.Skip) (λ h. cc) (λ h. cc)
ends_between st.AfterCr c = pick (c == 10) (st.StartRecord, act.Skip) (start_record default_config c) (λ h. cc) (start_record_ends c)

some_same : {X : Type 0} (x y : X) → Some x ≡ Some y → x ≡ y
some_same x y h = cc

-- what a record leaves: fewer bytes, and the machine between two records
abbrev Leaves : State → List ℕ → Read → Type 0
Leaves s bytes p = (length p.2 ≤ length bytes) × (ends_at_end s ≡ false → length p.2 < length bytes) × (ends_at_end p.1 ≡ false)

pub takes_some : (s : State) (fields : List (List ℕ)) (field bytes : List ℕ) (p : Read) → next_record default_config s fields field bytes ≡ Some p → Leaves s bytes p
unfolding next_record
takes_some s fields field [] p h = elim (chosen (ends_at_end s) (Some (fields ++ (field ∷ []), st.StartRecord, [])) None (Some p) h) [
  | inl at_end ↦
      let e = some_same (fields ++ (field ∷ []), st.StartRecord, []) p at_end.1 in
      subst (λ (q : Read). Leaves s [] q) e (omega arith, (λ between. absurd (true≢false (sym at_end.0 ∙ between))), refl)
  | inr none ↦ cc none.1
]
takes_some s fields field (c ∷ rest) p h =
    let s2 = (step default_config s c).0 in
    let f2 = fields_after (step default_config s c).1 fields field in
    let g2 = field_after (step default_config s c).1 c field in
    elim (chosen (is_end (step default_config s c).1) (Some (f2, s2, rest)) (next_record default_config s2 f2 g2 rest) (Some p) h) [
      | inl value_if_none_left ↦
          let e = some_same (f2, s2, rest) p value_if_none_left.1 in
          subst (λ (q : Read). Leaves s (c ∷ rest) q) e (omega arith, (λ between. omega arith), ends_between s c value_if_none_left.0)
      | inr more ↦
          let t : Leaves s2 rest p = takes_some s2 f2 g2 rest p more.1 in
          (omega (arith, t.0), (λ between. omega (arith, t.0)), t.2)
    ]

same_next : (n m : ℕ) (o : Option Read) → ((p : Read) → o ≡ Some p → records_from default_config n p.1 p.2 ≡ records_from default_config m p.1 p.2)
    → records_next (records_from default_config n) o ≡ records_next (records_from default_config m) o
same_next n m None h = refl
same_next n m (Some p) h = ap (λ rest. p.0 ∷ rest) (h p refl)

-- how many records are asked for makes no difference once it is more than the bytes
pub same_records : (n m : ℕ) (s : State) (bytes : List ℕ) → ends_at_end s ≡ false → length bytes < n → length bytes < m
    → records_from default_config n s bytes ≡ records_from default_config m s bytes
unfolding records_from
same_records zero m s bytes between h k = absurd (omega arith)
same_records (suc n) zero s bytes between h k = absurd (omega arith)
same_records (suc n) (suc m) s bytes between h k =
    same_next n m (next_record default_config s [] [] bytes) (λ p e.
    let t = takes_some s [] [] bytes p e in
    same_records n m p.1 p.2 t.2 (omega (arith, t.1 between)) (omega (arith, t.1 between)))

-- the records left are the next one and those left after it
pub left_more : (s : State) (bytes : List ℕ) (p : Read) → ends_at_end s ≡ false → next_record default_config s [] [] bytes ≡ Some p
    → records_left s (Some bytes) ≡ p.0 ∷ records_left p.1 (Some p.2)
unfolding records_from
left_more s bytes p between e =
    let t = takes_some s [] [] bytes p e in
    rw (add-one (length bytes), e) (ap (λ rest. p.0 ∷ rest) (same_records (length bytes) (length p.2 + 1) p.1 p.2 t.2 (t.1 between) (omega arith)))

-- none are left where there is no next one
pub left_none : (s : State) (bytes : List ℕ) → next_record default_config s [] [] bytes ≡ None → records_left s (Some bytes) ≡ []
unfolding records_from
left_none s bytes e = rw (add-one (length bytes), e) refl

went_on : (s s2 : State) (y z : List ℕ) (k k2 : Option (List ℕ)) (f : List (List ℕ)) (p : Read) → k ≡ Some y → k2 ≡ Some z → ends_at_end s ≡ false
    → next_record default_config s [] [] y ≡ Some p → f ≡ p.0 → p.1 ≡ s2 → p.2 ≡ z → records_left s k ≡ f ∷ records_left s2 k2
went_on s s2 y z k k2 f p known known2 between next fields state rest = rw (known, known2, fields, ← state, ← rest) (left_more s y p between next)

some_value : {X : Type 0} (o : Option X) → IsSome o → (x : X) × (o ≡ Some x)
some_value None h = absurd (false≢true h)
some_value (Some x) h = (x, refl)

known_some : {X : Type 0} (o : Option X) (x : X) → o ≡ Some x → IsSome o
known_some o x h = rw h refl

-- what a read of a record does to the records that are left
pub took : (old new : Reader (Bor (List ℕ))) (found : Bool) (fields : List (List ℕ)) → IsBetweenRecords old → is_flexible new ≡ is_flexible old → ReadRecord (λ bytes. Some bytes.now) old new found fields
    → (records_of old ≡ records_at found fields new) × (found ≡ true → IsBetweenRecords new)
unfolding Reached
took old new false fields between flexible read =
    let k = some_value (source_of (λ bytes. Some bytes.now) old) between.known in
    let none = rows-end (λ bytes. Some bytes.now) old new fields default_config k.0 between.config k.1 read in
    (rw k.1 (left_none (reader_state old) k.0 none), (λ h. absurd (false≢true h)))
took old new true fields between flexible read =
    let k = some_value (source_of (λ bytes. Some bytes.now) old) between.known in
    let m = rows-more (λ bytes. Some bytes.now) old new fields default_config (reader_state old) k.0 k.0 [] between.config k.1 (refl, refl) read in
    let p = m.2.0 in
    let next = m.2.1 in
    let left = takes_some (reader_state old) [] [] k.0 p next in
    let state : p.1 ≡ reader_state new = m.2.3.0 in (
      went_on (reader_state old) (reader_state new) k.0 m.0 _ _ fields p k.1 m.1 between.state next m.2.2 state m.2.3.1,
      (λ h. record {
        trim = read.3 ∙ between.trim;
        flexible = flexible ∙ between.flexible;
        config = read.2 ∙ between.config;
        state = subst (λ (s : State). ends_at_end s ≡ false) state left.2;
        known = known_some _ m.0 m.1;
      }),
    )
