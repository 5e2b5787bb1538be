-- A pass before and after a section.
use Rattle.std.proofs.Common.{◌≡◌, ℕ, ◌+◌, List, [], ◌∷◌, Bool, true, false, cond, refl, sym, ap, ◌∙◌, subst, Option, Some, None, inl, is_some, eq-eqb}
use Rattle.std.specs.Prelude.{IsSome}
use Rattle.std.proofs.lemmas.Bool.{false≢true}
use Rattle.std.proofs.lemmas.Option.{none-some, same_Some}
use Rattle.atomic_table.specs.Seated.{TableId}
use Rattle.atomic_table.specs.Table.{rest}
use Rattle.mi_base.specs.Configuration.{Configuration}
use Rattle.mi_base.specs.declared.records.LogEvent.{LogEvent}
use Rattle.mi_base.specs.declared.records.Position.{Position}
use Rattle.mi_base.specs.History.{end_of}
use Rattle.mi_board.specs.Boards.{BoardState}
use Rattle.mi_core.specs.Events.{first_actor}
use Rattle.mi_entries.specs.Actors.{Actor, Pin}
use Rattle.mi_entries.specs.Records.{Rows, no_shard}
use Rattle.mi_latch.specs.declared.slots.Slot.TheVariants.{OfBoard, OfPage, OfShard}
use Rattle.mi_latch.specs.Shows.{Has}
use Rattle.mi_latch.specs.Takes.{Finds, see_none, took}
use Rattle.mi_latch.specs.Views.{Seated, Sight, newcomer}
use Rattle.mi_latch.proofs.BoardTold.{found_board}
use Rattle.mi_solo.specs.declared.rows.ActorRow.{ActorRow}
use Rattle.mi_page.specs.Nodes.{Node}
use Rattle.mi_solo.specs.States.{actor_of, pin_of}
use Rattle.mi_solo.specs.Viewing.{pinned_log}
use Rattle.mi_world.specs.View.{View}
use Rattle.mi_hall.specs.Passes.{HasCells, HasOut, HasWord, IsAt, IsPass, PassState, giving, row_actor, turning}
use Rattle.mi_hall.specs.Places.{HoldsRows}
use Rattle.mi_hall.specs.Seats.{rows_out, seat_view}

-- the rows of its shard are out with it
pub pass_rows : (me : Seated) (a : ℕ) (row : ActorRow) (rows : Option Rows) (told : Bool) → IsPass me a row rows told → HoldsRows me.0
pass_rows me a row rows told p n e = go me.0.mine.part.shard rows p.out e
  where
    go : (k : Option ℕ) (x : Option Rows) → HasOut k x me.0.out me.1 → k ≡ Some n → Has me.0.out (n + 1) (OfShard (rows_out me.0.out n))
    go None x h e = absurd (none-some n e)
    go (Some k) None h e = absurd h
    go (Some k) (Some x) h e =
        let is : k ≡ n = same_Some k n e in
        let found : x ≡ rows_out ((k + 1, OfShard x) ∷ []) n = ap (λ z. cond z x no_shard.rows) (sym (eq-eqb (k + 1) (n + 1) (ap (λ z. z + 1) is))) in
        subst (λ o. Has o (n + 1) (OfShard (rows_out o n))) (sym h.0) (inl (ap (λ z. z + 1) is, ap OfShard found))

-- a section of the board leaves the shard in hand
pub given_pass : (old m new : Seated) (a : ℕ) (row made : ActorRow) (rows : Option Rows) (was told : Bool) (b board : BoardState) → IsPass old a row rows was → m ≡ took see_none old 0 (OfBoard b)
    → new ≡ (giving m.0 made board told (rest m.0.out), rest m.1) → made.shard ≡ row.shard → IsPass new a made rows told
given_pass old m new a row made rows was told b board p is gave shard =
    subst (λ z. IsPass z a made rows told) (sym (gave ∙ ap (λ (z : Seated). let y : Seated = (giving z.0 made board told (rest z.0.out), rest z.1) in y) is)) (record {
      live = refl;
      actor_is = p.actor_is;
      row_is = refl;
      told_is = refl;
      out = subst (λ k. HasOut k rows old.0.out old.1) (ap (λ (z : Actor). z.shard) p.row_is ∙ sym shard) p.out;
      unborn = p.unborn;
    })

-- the board that it found is of its settings
pub found_settings : (settings : Configuration) (old : Seated) (b : BoardState) → old.0.live ≡ true → Finds settings old.0 0 (OfBoard b) → b.settings ≡ old.0.mine.note.board.settings
found_settings settings old b live f = let x = found_board settings old.0 b live f in ap (λ (z : BoardState). z.settings) (sym x.board) ∙ x.fits.knows.note.settings

-- its row stands for its record with the settings of the board that it found
pub row_found : (settings : Configuration) (old : Seated) (a : ℕ) (row : ActorRow) (rows : Option Rows) (told : Bool) (b : BoardState) → IsPass old a row rows told → Finds settings old.0 0 (OfBoard b) → old.0.mine.part ≡ row_actor b.settings old.0.mine.part row
row_found settings old a row rows told b p f = subst (λ c. old.0.mine.part ≡ row_actor c old.0.mine.part row) (sym (found_settings settings old b p.live f)) p.row_is

-- what is told of the seat is told of the pass
pub told_of : (rel : View → View → Type 0) (old new : Sight) (table : TableId) (was : PassState) → record { sight = old; table = table } ≡ was → rel (seat_view old) (seat_view new) → rel (seat_view was.sight) (seat_view new)
told_of rel old new table was same x = subst (λ (z : PassState). rel (seat_view z.sight) (seat_view new)) same x

-- the first pass
pub first_pass : (settings : Configuration) (me : Seated) (row : ActorRow) → me ≡ (newcomer settings, []) → ((c : Configuration) (a : ℕ) → actor_of c [] a row ≡ first_actor) → IsPass me 0 row None false
first_pass settings me row is made = subst (λ z. IsPass z 0 row None false) (sym is) (record {
  live = refl;
  actor_is = refl;
  row_is = ap (λ (r : Actor). record r { own = [] }) (sym (made settings 0));
  told_is = refl;
  out = (refl, refl);
  unborn = refl;
})

-- who shows a pin has one
pub pin_shown : (log : List LogEvent) (o : Option Pin) → IsSome (pinned_log log o) → (p : Pin) × (o ≡ Some p)
pin_shown log None h = absurd (false≢true h)
pin_shown log (Some p) h = (p, refl)

-- what its row has in hand is shown
pub hand_shown : (me : Seated) (a : ℕ) (row : ActorRow) (rows : Option Rows) (told : Bool) (table : TableId) (now : PassState) → IsPass me a row rows told → record { sight = me.0; table = table } ≡ now → is_some row.hand.fresh ≡ is_some (seat_view now.sight).fresh
hand_shown me a row rows told table now p same = ap (λ (r : Actor). is_some r.fresh) (sym p.row_is) ∙ ap (λ (z : PassState). is_some (seat_view z.sight).fresh) same

-- the first pass has no pin
pub first_cells : (settings : Configuration) (me : Seated) → me ≡ (newcomer settings, []) → HasCells me.0.mine
first_cells settings me is = subst (λ (z : Seated). HasCells z.0.mine) (sym is) (λ q h. absurd (none-some q h))

-- a section of a page leaves its pin
pub turned_cells : (old m new : Seated) (a : ℕ) (row made : ActorRow) (rows : Option Rows) (told : Bool) (page : ℕ) (had node : Node) → IsPass old a row rows told → HasCells old.0.mine → m ≡ took see_none old (page + 17) (OfPage had)
    → new ≡ (turning m.0 made node, rest m.1) → made.pin ≡ row.pin → HasCells new.0.mine
turned_cells old m new a row made rows told page had node p cells is gave same =
    subst (λ (z : Seated). HasCells z.0.mine) (sym (gave ∙ ap (λ (z : Seated). let y : Seated = (turning z.0 made node, rest z.1) in y) is))
    (λ q h. cells q (ap (λ (r : Actor). r.pin) p.row_is ∙ ap (pin_of old.0.mine.note.board.settings) (sym same) ∙ h))

-- the fresh page in hand stays
pub word_stays : (was table : TableId) (had has : Option ℕ) → table ≡ was → has ≡ had → HasWord was.words had → HasWord table.words has
word_stays was table had has stays same h = subst (λ (t : TableId). HasWord t.words has) (sym stays) (subst (HasWord was.words) (sym same) h)

-- the first pass has none
pub first_word : (words : ℕ) (row : ActorRow) → ((c : Configuration) (a : ℕ) → actor_of c [] a row ≡ first_actor) → (settings : Configuration) → HasWord words row.hand.fresh
first_word words row made settings = subst (HasWord words) (sym (ap (λ (r : Actor). r.fresh) (made settings 0))) tt

-- the log that it has seen then ends where that of its next record ends
pub given_at : (new next : Seated) (at : Position) → new ≡ next → IsAt at next.0.mine → IsAt at new.0.mine
given_at new next at gave is = is ∙ ap (λ (z : Seated). end_of z.0.mine.log) (sym gave)
