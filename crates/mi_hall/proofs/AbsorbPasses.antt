-- A pass that absorbs another.
use Rattle.std.proofs.Common.{◌≡◌, ℕ, List, [], ◌∷◌, ◌++◌, max, nat_le, Bool, true, false, cond, ◌||◌, refl, sym, ap, ◌∙◌, subst, Option, Some, None, inl, inr, ⊎_elim, drop}
use Rattle.std.proofs.lemmas.Option.{none-some, same_Some}
use Rattle.atomic_table.specs.Table.{rest}
use Rattle.mi_base.specs.Configuration.{Configuration}
use Rattle.mi_base.specs.declared.records.Position.{Position}
use Rattle.mi_base.specs.History.{at_position, end_of}
use Rattle.mi_base.specs.declared.records.LogEvent.{LogEvent}
use Rattle.mi_board.specs.Boards.{BoardState}
use Rattle.mi_core.specs.Events.{more_seen}
use Rattle.mi_entries.specs.Actors.{Actor, SplitWork, SweepWork}
use Rattle.mi_entries.specs.Records.{Rows}
use Rattle.mi_latch.specs.declared.slots.Slot.{Slot}
use Rattle.mi_latch.specs.declared.slots.Slot.TheVariants.{OfBoard, Vacant}
use Rattle.mi_latch.specs.Ends.{IsBare, blend, over}
use Rattle.mi_latch.specs.Found.{FoundBoard}
use Rattle.mi_latch.specs.Learning.{IsSo}
use Rattle.mi_latch.specs.Shows.{Has, joined, stands_if}
use Rattle.mi_latch.specs.Takes.{Finds, see_none, took}
use Rattle.mi_latch.specs.Views.{Fits, HoldsLast, Seated, Sight, now}
use Rattle.mi_latch.proofs.BoardTold.{found_board}
use Rattle.mi_latch.proofs.Ones.{of_board}
use Rattle.mi_latch.proofs.PageNames.{one_of_either}
use Rattle.mi_latch.proofs.Rules.{has_right}
use Rattle.mi_latch.proofs.Steps.{me}
use Rattle.mi_solo.specs.declared.rows.ActorRow.{ActorRow}
use Rattle.mi_solo.specs.Viewing.{pinned_log, swept_leaf}
use Rattle.mi_tree.specs.Legal.{cells_of}
use Rattle.mi_world.specs.Families.{Absorbs, ClaimsNothing}
use Rattle.mi_hall.specs.Passes.{AreNear, HasCells, HasOut, IsAt, IsPass, row_actor}
use Rattle.mi_hall.specs.declared.absorbed.Gone.{Gone}
use Rattle.mi_hall.specs.Absorbed.{HasGone, ended_row}
use Rattle.mi_hall.specs.Seats.{seat_view}
use Rattle.mi_hall.proofs.AbsorbedLemmas.{more_gone}
use Rattle.mi_hall.proofs.Absorbing.{absorbs_so, either}
use Rattle.mi_solo.proofs.BoardTurns.{shown_bare}

-- nothing is out with a pass that holds no shard
pub none_out : (k : Option ℕ) (rows : Option Rows) (out held : List (ℕ × Slot)) → k ≡ None → HasOut k rows out held → (out ≡ []) × (held ≡ [])
none_out (Some k) rows out held e h = absurd (none-some k (sym e))
none_out None None out held e h = h
none_out None (Some x) out held e h = absurd h

pub no_sweep : (o : Option SweepWork) → swept_leaf o ≡ None → o ≡ None
no_sweep None e = refl
no_sweep (Some w) e = absurd (none-some w.leaf (sym e))

-- a pass that claims nothing has nothing, and a split is of a claimed leaf
module _ (settings : Configuration) (y : Seated) (a : ℕ) (row : ActorRow) (rows : Option Rows) (told : Bool) (p : IsPass y a row rows told) (k : IsSo settings y.0) (idle : ClaimsNothing (seat_view y.0)) where
  no_split : (o : Option SplitWork) → y.0.mine.part.split ≡ o → y.0.mine.part.split ≡ None
  no_split None e = e
  no_split (Some w) e =
      let fits = me settings k.core k.held y.0 p.live k.backs in
      absurd (none-some w.leaf (sym idle.leaf ∙ (k.held.kept.sound.each y.0.actor y.0.mine.part fits.part).holds.split w e))

  pub is_bare : (y.0.out ≡ []) × (y.1 ≡ []) × IsBare y.0.mine.part
  is_bare =
      let none = none_out y.0.mine.part.shard rows y.0.out y.1 idle.shard p.out in (
        none.0,
        none.1,
        record {
          shard = idle.shard;
          free = record { claim = idle.leaf; sweep = no_sweep y.0.mine.part.sweep idle.sweep };
          split = no_split y.0.mine.part.split refl;
          pin = shown_bare y.0.mine.log y.0.mine.part.pin idle.pin;
        },
      )

-- the end of one of two logs
end_either : (b : Bool) (x y : List LogEvent) → cond b (end_of x) (end_of y) ≡ end_of (cond b x y)
end_either true x y = refl
end_either false x y = refl

-- the seat that took the board, and then took in another
abbrev with_both : Seated → BoardState → Seated → Seated
with_both old b y = (joined blend over (took see_none old 0 (OfBoard b)).0 y.0, (0, Vacant) ∷ old.1)

module _ (settings : Configuration) (old m y j : Seated) (b : BoardState) (a : ℕ) (row : ActorRow) (rows : Option Rows) (told : Bool) (p : IsPass old a row rows told) (is : m ≡ took see_none old 0 (OfBoard b)) (joins : j ≡ (joined blend over m.0 y.0, m.1)) where
  both_are : j ≡ (joined blend over (took see_none old 0 (OfBoard b)).0 y.0, (0, Vacant) ∷ old.1)
  both_are = joins ∙ ap (λ (z : Seated). let x : Seated = (joined blend over z.0 y.0, z.1) in x) is

  -- the board is out still
  pub joined_last : HoldsLast m 0 (OfBoard b) → HoldsLast j 0 (OfBoard b)
  joined_last l = subst (λ z. HoldsLast z 0 (OfBoard b)) (sym joins) (record { held = l.held; live = l.live; out = l.out; others = l.others })

  module _ (new : Seated) (gave : new ≡ (now j.0 j.0.mine (rest j.0.out), rest j.1)) where
    abbrev last : Seated → Seated
    last z = (now z.0 z.0.mine (rest z.0.out), rest z.1)

    new_is : new ≡ last (with_both old b y)
    new_is = gave ∙ ap last both_are

    pub absorb_told : Finds settings old.0 0 (OfBoard b) → IsSo settings j.0 → Absorbs (seat_view old.0) (seat_view y.0) (seat_view new.0)
    absorb_told f told_so =
        let v : Sight = old.0 in
        let w : Sight = y.0 in
        let both : Sight = (with_both old b y).0 in
        let found : FoundBoard settings v.actor v.mine v.out b = found_board settings v b p.live f in
        let k : IsSo settings both = subst (λ (z : Seated). IsSo settings z.0) both_are told_so in
        let here : Fits k.core v.actor (blend v.mine w.mine) = me settings k.core k.held both p.live k.backs in
        let there : Has (stands_if v.live ((v.actor, blend v.mine w.mine) ∷ v.absorbed ++ (w.actor, over w.mine) ∷ w.absorbed)) w.actor (over w.mine) =
        subst (λ z. Has (stands_if z ((v.actor, blend v.mine w.mine) ∷ v.absorbed ++ (w.actor, over w.mine) ∷ w.absorbed)) w.actor (over w.mine)) (sym p.live)
        (inr (has_right v.absorbed ((w.actor, over w.mine) ∷ w.absorbed) w.actor (over w.mine) (inl (refl, refl)))) in
        let gone = (k.backs.records w.actor (over w.mine) there).knows in
        let board : k.core.board ≡ b = of_board k.core.board b (k.backs.values 0 (OfBoard b) (inl (refl, refl))) in
        subst (λ (z : Seated). Absorbs (seat_view v) (seat_view w) (seat_view z.0)) (sym new_is)
        (absorbs_so found.core k.core v w (ap (λ (z : BoardState). z.log) (found.board ∙ sym board)) k.held.kept found.fits.knows here gone)

    pub absorb_pass : (a' : ℕ) (row' made : ActorRow) (rows' : Option Rows) (told' : Bool) → IsPass y a' row' rows' told'
        → made ≡ record row { seen = max row.seen row'.seen; lacked = row.lacked || row'.lacked; undone = row.undone || row'.undone; early = row.early || row'.early } → IsPass new a made rows (told || told')
    absorb_pass a' row' made rows' told' q is_made =
        let s : Configuration = old.0.mine.note.board.settings in
        let r : Actor = old.0.mine.part in
        let u : Actor = y.0.mine.part in
        let mine : Actor = row_actor s r row in
        let its : Actor = row_actor y.0.mine.note.board.settings u row' in
        let flags : Bool → Bool → Bool → Actor = λ x y z. record mine { seen = max row.seen row'.seen; lacked = x; undone = y; early = z } in
        subst (λ z. IsPass z a made rows (told || told')) (sym new_is) (record {
          live = refl;
          actor_is = p.actor_is;
          row_is = ap (more_seen u) p.row_is ∙ ap (λ (x : Actor). more_seen x mine) q.row_is
              ∙ ap (λ x. flags x (cond row.undone true row'.undone) (cond row.early true row'.early)) (either row.lacked row'.lacked)
              ∙ ap (λ x. flags (row.lacked || row'.lacked) x (cond row.early true row'.early)) (either row.undone row'.undone)
              ∙ ap (flags (row.lacked || row'.lacked) (row.undone || row'.undone)) (either row.early row'.early)
              ∙ ap (row_actor s r) (sym is_made);
          told_is = ap (λ x. cond x true y.0.mine.told) p.told_is ∙ ap (cond told true) q.told_is ∙ either told told';
          out = p.out;
          unborn = refl;
        })

    -- what both were told of has its words
    pub absorb_near : (words : ℕ) → AreNear words old.0.mine.named → AreNear words y.0.mine.named → AreNear words new.0.mine.named
    absorb_near words mine its = subst (λ (z : Seated). AreNear words z.0.mine.named) (sym new_is) (λ x one. ⊎_elim (λ h. its x h) (λ h. mine x h) (one_of_either y.0.mine.named old.0.mine.named x one))

    -- the pin is of the log that was seen before
    pub absorb_cells : Finds settings old.0 0 (OfBoard b) → IsSo settings j.0 → HasCells old.0.mine → HasCells new.0.mine
    absorb_cells f told_so cells =
        let x = absorb_told f told_so in
        let log : List LogEvent = (blend old.0.mine y.0.mine).log in
        let pins : pinned_log log old.0.mine.part.pin ≡ pinned_log old.0.mine.log old.0.mine.part.pin = subst (λ (z : Seated). (seat_view z.0).pin ≡ (seat_view old.0).pin) new_is x.pin in
        subst (λ (z : Seated). HasCells z.0.mine) (sym new_is)
        (λ q h. (let at : at_position log q.at ≡ at_position old.0.mine.log q.at = same_Some (at_position log q.at) (at_position old.0.mine.log q.at) (ap (pinned_log log) (sym h) ∙ pins ∙ ap (pinned_log old.0.mine.log) h) in
        cells q h ∙ ap (cells_of old.0.mine.note.board.settings) (sym at)))

    -- the end of the longer log is the one of the log that both saw
    pub absorb_at : (a' : ℕ) (row' : ActorRow) (rows' : Option Rows) (told' : Bool) → IsPass y a' row' rows' told' → (at its made : Position) → IsAt at old.0.mine → IsAt its y.0.mine
        → made ≡ cond (nat_le row.seen row'.seen) its at → IsAt made new.0.mine
    absorb_at a' row' rows' told' q at its made mine_at its_at is_made =
        let here : row.seen ≡ old.0.mine.part.seen = ap (λ (r : Actor). r.seen) (sym p.row_is) in
        let there : row'.seen ≡ y.0.mine.part.seen = ap (λ (r : Actor). r.seen) (sym q.row_is) in
        is_made ∙ ap (λ n. cond (nat_le n row'.seen) its at) here ∙ ap (λ n. cond (nat_le old.0.mine.part.seen n) its at) there
        ∙ ap (λ x. cond (nat_le old.0.mine.part.seen y.0.mine.part.seen) x at) its_at ∙ ap (cond (nat_le old.0.mine.part.seen y.0.mine.part.seen) (end_of y.0.mine.log)) mine_at
        ∙ end_either (nat_le old.0.mine.part.seen y.0.mine.part.seen) y.0.mine.log old.0.mine.log ∙ ap (λ (z : Seated). end_of z.0.mine.log) (sym new_is)

    -- the rows of those that the two absorbed are kept, and the other's between them
    pub absorb_gone : (a' : ℕ) (row' : ActorRow) (rows' : Option Rows) (told' : Bool) (gone other : List Gone) → IsPass y a' row' rows' told' → HasGone old.0.absorbed gone → HasGone y.0.absorbed other
        → HasGone new.0.absorbed (gone ++ record { actor = a'; row = ended_row row' } ∷ drop 1 other)
    absorb_gone a' row' rows' told' gone other q mine its =
        subst (λ (z : Seated). HasGone z.0.absorbed (gone ++ record { actor = a'; row = ended_row row' } ∷ drop 1 other)) (sym new_is)
        (more_gone old.0.absorbed y.0.absorbed gone other y.0.actor a' y.0.mine row' (sym q.actor_is) q.row_is mine its)
