-- Copies of what a row's split has gathered.
use Rattle.std.proofs.Common.{◌≡◌, ℕ, ◌-◌, ◌<◌, ◌≤◌, length, Bool, true, false, arith, refl, sym, ap, ◌∙◌, subst, Option, Some, None}
use Rattle.std.specs.Prelude.{is_some, slice_get, slice_index}
use Rattle.std.proofs.lemmas.Bool.{false≢true}
use Rattle.std.proofs.lemmas.List.{length-map}
use Rattle.mi_base.specs.Configuration.{Configuration}
use Rattle.mi_core.specs.Events.{copied_of}
use Rattle.mi_core.specs.Kept.{Kept}
use Rattle.mi_core.specs.State.{State, node_at}
use Rattle.mi_entries.specs.Actors.{Actor, SplitWork}
use Rattle.mi_entries.specs.Entries.{grid}
use Rattle.mi_entries.specs.Splits.{copy_in_child}
use Rattle.mi_key.specs.declared.entries.Entry.{Entry}
use Rattle.mi_page.specs.Entries.{has_entry, without_dead}
use Rattle.mi_page.specs.Keys.{IsInside}
use Rattle.mi_page.specs.Nodes.{Node}
use Rattle.mi_solo.specs.declared.rows.ActorRow.{ActorRow}
use Rattle.mi_solo.specs.declared.rows.SplitRow.{SplitRow}
use Rattle.mi_solo.specs.Seeking.{EndsAfter}
use Rattle.mi_solo.specs.States.{split_of}
use Rattle.mi_solo.specs.Viewing.{copy_keys}
use Rattle.mi_solo.specs.WorkRows.{work_of}
use Rattle.mi_solo.proofs.CopyEvents.{copy_absent, copy_there}
use Rattle.mi_solo.proofs.KeyLemmas.{gathered_copied, gathered_few, split_above}
use Rattle.mi_solo.proofs.MarkLemmas.{index_map, some_at}
use Rattle.mi_world.specs.declared.answers.Put.{Put}
use Rattle.mi_world.specs.declared.answers.Put.TheVariants as put
use Rattle.mi_solo.specs.LeafRows.{CopiesRow, IsRowCopy, IsSplitting, PutsCopy, TakesCopy, UncopiesRow, copied_by, copy_key, gathered_by, gathered_of}

-- a row that shows a split has one
pub split_there : (o : Option SplitRow) → is_some (split_of o) ≡ true → (w : SplitRow) × (o ≡ Some w)
split_there None h = absurd (false≢true h)
split_there (Some w) h = (w, refl)

-- there are as many keys of copies as entries that are gathered
pub keys_many : (c : Configuration) (o : Option SplitWork) → length (copy_keys c o) ≡ length (gathered_of o)
keys_many c None = refl
keys_many c (Some w) = length-map w.gathered (λ e. (copy_in_child (grid c) w.leaf e).key)

-- a copy has the key that is told of it
pub row_key : (c : Configuration) (row : ActorRow) (place : ℕ) (e : Entry) → IsRowCopy c row place e → e.key ≡ copy_key c row place
row_key c row place e x =
    ap (λ (z : Entry). z.key) x.is
    ∙ sym (ap (λ o. slice_index (copy_keys c o) place) x.split ∙ index_map (λ z. (copy_in_child (grid c) x.work.leaf z).key) x.work.gathered place x.old x.there)

-- a copying leaves the shard in hand
pub copies_shard : (c : Configuration) (page : ℕ) (n new : Node) (row made : ActorRow) (answer : Put) → CopiesRow c page answer n row new made → made.shard ≡ row.shard
copies_shard c page n new row made (put.Down p) x = ap (λ (z : ActorRow). z.shard) x.1.row_is
copies_shard c page n new row made (put.Right p) x = ap (λ (z : ActorRow). z.shard) x.1.row_is
copies_shard c page n new row made put.PageFull x = ap (λ (z : ActorRow). z.shard) x.1.row_is
copies_shard c page n new row made put.Done x = ap (λ (z : ActorRow). z.shard) x.3.row_is

-- its pin
pub copies_pin : (c : Configuration) (page : ℕ) (n new : Node) (row made : ActorRow) (answer : Put) → CopiesRow c page answer n row new made → made.pin ≡ row.pin
copies_pin c page n new row made (put.Down p) x = ap (λ (z : ActorRow). z.pin) x.1.row_is
copies_pin c page n new row made (put.Right p) x = ap (λ (z : ActorRow). z.pin) x.1.row_is
copies_pin c page n new row made put.PageFull x = ap (λ (z : ActorRow). z.pin) x.1.row_is
copies_pin c page n new row made put.Done x = ap (λ (z : ActorRow). z.pin) x.3.row_is

-- and the fresh page
pub copies_hand : (c : Configuration) (page : ℕ) (n new : Node) (row made : ActorRow) (answer : Put) → CopiesRow c page answer n row new made → made.hand.fresh ≡ row.hand.fresh
copies_hand c page n new row made (put.Down p) x = ap (λ (z : ActorRow). z.hand.fresh) x.1.row_is
copies_hand c page n new row made (put.Right p) x = ap (λ (z : ActorRow). z.hand.fresh) x.1.row_is
copies_hand c page n new row made put.PageFull x = ap (λ (z : ActorRow). z.hand.fresh) x.1.row_is
copies_hand c page n new row made put.Done x = ap (λ (z : ActorRow). z.hand.fresh) x.3.row_is

-- so does the taking back of a copy
pub uncopies_shard : (c : Configuration) (page : ℕ) (told : Bool) (n new : Node) (row made : ActorRow) (answer : Put) → UncopiesRow c page told answer n row new made → made.shard ≡ row.shard
uncopies_shard c page told n new row made (put.Down p) x = ap (λ (z : ActorRow). z.shard) x.1.row_is
uncopies_shard c page told n new row made (put.Right p) x = ap (λ (z : ActorRow). z.shard) x.1.row_is
uncopies_shard c page told n new row made put.PageFull x = absurd x
uncopies_shard c page told n new row made put.Done x = ap (λ (z : ActorRow). z.shard) x.3.row_is

pub uncopies_pin : (c : Configuration) (page : ℕ) (told : Bool) (n new : Node) (row made : ActorRow) (answer : Put) → UncopiesRow c page told answer n row new made → made.pin ≡ row.pin
uncopies_pin c page told n new row made (put.Down p) x = ap (λ (z : ActorRow). z.pin) x.1.row_is
uncopies_pin c page told n new row made (put.Right p) x = ap (λ (z : ActorRow). z.pin) x.1.row_is
uncopies_pin c page told n new row made put.PageFull x = absurd x
uncopies_pin c page told n new row made put.Done x = ap (λ (z : ActorRow). z.pin) x.3.row_is

pub uncopies_hand : (c : Configuration) (page : ℕ) (told : Bool) (n new : Node) (row made : ActorRow) (answer : Put) → UncopiesRow c page told answer n row new made → made.hand.fresh ≡ row.hand.fresh
uncopies_hand c page told n new row made (put.Down p) x = ap (λ (z : ActorRow). z.hand.fresh) x.1.row_is
uncopies_hand c page told n new row made (put.Right p) x = ap (λ (z : ActorRow). z.hand.fresh) x.1.row_is
uncopies_hand c page told n new row made put.PageFull x = absurd x
uncopies_hand c page told n new row made put.Done x = ap (λ (z : ActorRow). z.hand.fresh) x.3.row_is

-- the key of the copy at the place up to which it has copied
pub next_row_key : (c : Configuration) (row : ActorRow) (place : ℕ) (e : Entry) → place ≡ copied_by row → IsRowCopy c row place e → e.key ≡ copy_key c row (copied_by row)
next_row_key c row place e is x = row_key c row place e x ∙ ap (copy_key c row) is

-- where that key lies in the page, this tells what the copying answers
pub copy_taken : (c : Configuration) (page : ℕ) (n new : Node) (row made : ActorRow) (place : ℕ) (e : Entry) → place ≡ copied_by row → IsRowCopy c row place e → EndsAfter n 0 (copy_key c row (copied_by row))
    → (answer : Put) → TakesCopy page place e answer n row new made → CopiesRow c page answer n row new made
copy_taken c page n new row made place e is x ends (put.Down p) h = absurd h
copy_taken c page n new row made place e is x ends (put.Right p) h = absurd h
copy_taken c page n new row made place e is x ends put.PageFull h = (ends, h)
copy_taken c page n new row made place e is x ends put.Done h = (
  ends,
  e,
  subst (λ k. IsRowCopy c row k e) is x,
  subst (λ k. PutsCopy page k e n row new made) is h,
)

-- the copy of what is gathered at a place
pub has_copy : (c : Configuration) (row : ActorRow) → IsSplitting c row → (place : ℕ) → place < length (gathered_by row) → (e : Entry) × IsRowCopy c row place e
has_copy c row works place low =
    let w = work_of works.work in
    let on : split_of row.split ≡ Some w = ap split_of works.is in
    let old = some_at w.gathered place (subst (λ o. place < length (gathered_of o)) on low) in
    (copy_in_child (grid c) w.leaf old.0, record { work = w; split = on; old = old.0; there = old.1; is = refl })

-- the row of an actor that has a split under way
pub row_splits : (s : State) → Kept s → (a : ℕ) (r : Actor) → slice_get s.actors a ≡ Some r → (row : ActorRow) → r.split ≡ split_of row.split → is_some r.split ≡ true → IsSplitting s.board.settings row
row_splits s k a r there row same some =
    let w = split_there row.split (subst (λ o. is_some o ≡ true) same some) in
    let on : r.split ≡ Some (work_of w.0) = same ∙ ap split_of w.1 in
    record { work = w.0; is = w.1; above = split_above s k a r there (work_of w.0) on; each = gathered_copied s k a r there (work_of w.0) on; few = gathered_few s k a r there (work_of w.0) on }

-- who has made copies has a split
pub some_split : (o : Option SplitWork) → 0 < copied_of o → is_some o ≡ true
some_split None h = absurd (omega (arith, h))
some_split (Some w) h = refl

-- no more is copied than is gathered
pub copied_few : (s : State) → Kept s → (a : ℕ) (r : Actor) → slice_get s.actors a ≡ Some r → (row : ActorRow) → r.split ≡ split_of row.split → IsSplitting s.board.settings row → copied_by row ≤ length (gathered_by row)
copied_few s k a r there row same works =
    let w = work_of works.work in
    let on : split_of row.split ≡ Some w = ap split_of works.is in
    subst (λ o. copied_of o ≤ length (gathered_of o)) (sym on) (k.sound.entries.works a r w there (same ∙ on)).few

-- of an actor with this row, the copy that is made next is nowhere yet, and the last one is on the page of its key
module _ (s : State) (k : Kept s) (a : ℕ) (r : Actor) (there : slice_get s.actors a ≡ Some r) (row : ActorRow) (same : r.split ≡ split_of row.split) (page : ℕ) (n : Node) (here : node_at s.pages page ≡ Some n) where
  pub copy_nowhere : (e : Entry) → IsRowCopy s.board.settings row (copied_by row) e → n.level ≡ 0 → (floor : ℕ) → has_entry (copy_key s.board.settings row (copied_by row)) (without_dead floor n.entries) ≡ false
  copy_nowhere e x leaf floor =
      let on : r.split ≡ Some x.work = same ∙ x.split in
      let at = ap (slice_get x.work.gathered) (sym (ap copied_of x.split)) ∙ x.there in
      subst (λ y. has_entry y (without_dead floor n.entries) ≡ false) (sym (ap (λ (z : Entry). z.key) x.is) ∙ row_key s.board.settings row (copied_by row) e x)
      (copy_absent s k a r there page n here x.work on x.old at leaf floor)

  pub copy_on_page : (e : Entry) → IsRowCopy s.board.settings row (copied_by row - 1) e → 0 < copied_by row → n.level ≡ 0 → IsInside n.low n.high (copy_key s.board.settings row (copied_by row - 1))
      → has_entry (copy_key s.board.settings row (copied_by row - 1)) n.entries ≡ true
  copy_on_page e x some leaf inside =
      let on : r.split ≡ Some x.work = same ∙ x.split in
      let at = ap (λ m. slice_get x.work.gathered (m - 1)) (sym (ap copied_of x.split)) ∙ x.there in
      let key = sym (ap (λ (z : Entry). z.key) x.is) ∙ row_key s.board.settings row (copied_by row - 1) e x in
      subst (λ y. has_entry y n.entries ≡ true) key
      (copy_there s k a r there page n here x.work on x.old at (omega (arith, some, ap copied_of x.split)) leaf (subst (IsInside n.low n.high) (sym key) inside))
