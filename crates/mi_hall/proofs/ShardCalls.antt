-- A pass takes a shard, finds it held by another actor, or lets go of it.
use Rattle.std.proofs.Common.{◌≡◌, ◌≢◌, ℕ, ◌+◌, ◌<◌, ◌==◌, List, [], ◌∷◌, Bool, false, cond, refl, sym, ap, ◌∙◌, subst, arith, Option, Some, None, eq-eqb}
use Rattle.std.specs.List.{find}
use Rattle.std.proofs.lemmas.Option.{none-some}
use Rattle.atomic_table.specs.Seated.{TableId}
use Rattle.atomic_table.specs.Table.{rest}
use Rattle.mi_base.specs.Configuration.{Configuration}
use Rattle.mi_entries.specs.Actors.{Actor}
use Rattle.mi_entries.specs.Records.{Rows}
use Rattle.mi_latch.specs.declared.slots.Slot.{Slot}
use Rattle.mi_latch.specs.declared.slots.Slot.TheVariants.{OfShard, Vacant}
use Rattle.mi_latch.specs.Learning.{IsSo}
use Rattle.mi_latch.specs.Shows.{HasKey, with_mine}
use Rattle.mi_latch.specs.Takes.{claimed, noting_holder, released, see_shard, took}
use Rattle.mi_latch.specs.Views.{HoldsLast, Seated, Sight}
use Rattle.mi_latch.proofs.Steps.{me}
use Rattle.mi_solo.specs.declared.rows.ActorRow.{ActorRow}
use Rattle.mi_solo.specs.Viewing.{record_shown}
use Rattle.mi_tree.proofs.GrowingLemmas.{grows_none}
use Rattle.mi_world.specs.declared.answers.Record.{Record}
use Rattle.mi_world.specs.declared.answers.ShardClaim.{ShardClaim}
use Rattle.mi_world.specs.declared.answers.ShardClaim.TheVariants.{Held, Taken}
use Rattle.mi_world.specs.Claims.{ClaimsShard, ReleasesShard, ShardAnswer}
use Rattle.mi_world.specs.View.{Later, SameApart, SameBoard, SamePage, shard_of}
use Rattle.mi_hall.specs.Passes.{AreNear, HasCells, HasOut, IsPass, PassState, row_actor}
use Rattle.mi_hall.specs.Places.{gives_shard}
use Rattle.mi_hall.specs.Seats.{rows_out, seat_view}
use Rattle.mi_hall.specs.ShardHolds.{releasing}
use Rattle.mi_hall.proofs.PassLemmas.{told_of}

-- a section of a shard changes what the seat's record has of shards, and nothing else of what the seat knows
module _ (v : Sight) (shard : Option ℕ) (tried : ℕ) (found : Option ℕ) (reserved : Bool) (out : List (ℕ × Slot)) where
  abbrev then : Sight
  then = gives_shard v (record v.mine.part { shard = shard; tried = tried; found = found; reserved_here = reserved }) out

  later : Later (seat_view v) (seat_view then)
  later = record {
    settings = refl;
    actor = refl;
    grows = grows_none v.mine.log;
    few = λ h. h;
    lacked = λ h. h;
    told = λ h. h;
    named = λ p h. h;
    level = λ p h. refl;
    low = λ p h. refl;
    least = omega arith;
    tells_full = refl;
    allotted = omega arith;
    given = omega arith;
  }

  apart : SameApart (seat_view v) (seat_view then)
  apart = record {
    sweep = record { sweep = refl; swept = refl };
    split = record { splitting = refl; mark = refl; whole = refl; copies = refl; copied = refl };
    flags = record { undone = refl; early = refl };
    actors = record { absorbed = refl; forked = refl };
    pin = refl;
  }

  board : SameBoard (seat_view v) (seat_view then)
  board = record {
    seen = refl;
    lacked = refl;
    told = refl;
    note = record { allotted = refl; holder = refl; pins = refl; given = refl; retired = refl; passed = refl; root = refl; height = refl };
  }

  page : SamePage (seat_view v) (seat_view then)
  page = record { page = refl; high = refl; items = λ e. refl }

  pub tries_by : (id : ℕ) (result : ShardClaim) → tried ≡ shard_of id → ShardAnswer (seat_view v) (seat_view then) id result → ClaimsShard (seat_view v) (seat_view then) id result
  tries_by id result at answer = record {
    later = later;
    own = refl;
    leaf = record { leaf = refl; wanted = refl };
    apart = apart;
    floor = refl;
    fresh = refl;
    owes = refl;
    board = board;
    page = page;
    tried = at;
    answer = answer;
  }

  pub lets_go_by : shard ≡ None → reserved ≡ false → tried ≡ v.mine.part.tried → found ≡ v.mine.part.found → ReleasesShard (seat_view v) (seat_view then)
  lets_go_by none free same holder = record {
    later = later;
    own = refl;
    shard = none;
    reserved = free;
    leaf = record { leaf = refl; wanted = refl };
    apart = apart;
    floor = refl;
    fresh = refl;
    owes = refl;
    board = board;
    page = page;
    tries = record { tried = same; found = holder };
  }

-- who holds no shard has nothing out
nothing_out : (o : Option ℕ) (rows : Option Rows) (out held : List (ℕ × Slot)) → HasOut o rows out held → o ≡ None → (out ≡ []) × (held ≡ [])
nothing_out None None out held h e = h
nothing_out None (Some x) out held h e = absurd h
nothing_out (Some k) rows out held h e = absurd (none-some k (sym e))

-- the shard that a pass shows is none
pub none_held : (old : Sight) (table : TableId) (was : PassState) → record { sight = old; table = table } ≡ was → (seat_view was.sight).shard ≡ None → old.mine.part.shard ≡ None
none_held old table was same free = ap (λ (z : PassState). (seat_view z.sight).shard) same ∙ free

module _ (old : Seated) (a : ℕ) (row : ActorRow) (rows : Option Rows) (told : Bool) (p : IsPass old a row rows told) where
  -- a shard that nobody held is taken
  module _ (m : Seated) (k : ℕ) (x : Rows) (is : m ≡ took (see_shard k) old (k + 1) (OfShard x)) where
    pub taken_pass : old.0.mine.part.shard ≡ None → (made : ActorRow) → made ≡ record row { shard = Some k; tried = k; found = None; reserved_here = false } → IsPass m a made (Some x) told
    taken_pass free made e =
        let bare = nothing_out old.0.mine.part.shard rows old.0.out old.1 p.out free in
        subst (λ z. IsPass z a made (Some x) told) (sym is) (record {
          live = p.live;
          actor_is = p.actor_is;
          row_is = ap (claimed k) p.row_is ∙ ap (row_actor old.0.mine.note.board.settings (claimed k old.0.mine.part)) (sym e);
          told_is = p.told_is;
          out = (ap (λ o. (k + 1, OfShard x) ∷ o) bare.0, ap (λ o. (k + 1, Vacant) ∷ o) bare.1);
          unborn = p.unborn;
        })

    pub taken_near : (words : ℕ) → AreNear words old.0.mine.named → AreNear words m.0.mine.named
    taken_near words near = subst (λ (z : Seated). AreNear words z.0.mine.named) (sym is) near

    pub taken_cells : HasCells old.0.mine → HasCells m.0.mine
    taken_cells cells = subst (λ (z : Seated). HasCells z.0.mine) (sym is) cells

    pub taken_told : (id : ℕ) → k ≡ shard_of id → (kept : Option Record) → kept ≡ record_shown (find (λ y. y.id == id) x.records) → (table : TableId) (was : PassState) → record { sight = old.0; table = table } ≡ was
        → ClaimsShard (seat_view was.sight) (seat_view m.0) id (Taken kept)
    taken_told id at kept shown table was same =
        let here : (let then = gives_shard old.0 (claimed k old.0.mine.part) ((k + 1, OfShard x) ∷ old.0.out) in (seat_view then).records id ≡ kept) =
        ap (λ b. record_shown (find (λ y. y.id == id) (cond b x (rows_out old.0.out k)).records)) (eq-eqb (k + 1) (k + 1) refl) ∙ sym shown in
        told_of (λ v w. ClaimsShard v w id (Taken kept)) old.0 m.0 table was same
        (subst (λ (z : Seated). ClaimsShard (seat_view old.0) (seat_view z.0) id (Taken kept)) (sym is)
        (tries_by old.0 (Some k) k None false ((k + 1, OfShard x) ∷ old.0.out) id (Taken kept) at (refl, ap Some at, here, refl)))

  -- another actor holds it
  module _ (m : Seated) (k by : ℕ) (is : m ≡ (with_mine old.0 (noting_holder k by old.0.mine), old.1)) where
    pub missed_pass : (made : ActorRow) → made ≡ record row { tried = k; found = Some by } → IsPass m a made rows told
    missed_pass made e = subst (λ z. IsPass z a made rows told) (sym is) (record {
      live = p.live;
      actor_is = p.actor_is;
      row_is = ap (λ (r : Actor). record r { tried = k; found = Some by }) p.row_is ∙ ap (row_actor old.0.mine.note.board.settings old.0.mine.part) (sym e);
      told_is = p.told_is;
      out = p.out;
      unborn = p.unborn;
    })

    pub missed_near : (words : ℕ) → AreNear words old.0.mine.named → AreNear words m.0.mine.named
    missed_near words near = subst (λ (z : Seated). AreNear words z.0.mine.named) (sym is) near

    pub missed_cells : HasCells old.0.mine → HasCells m.0.mine
    missed_cells cells = subst (λ (z : Seated). HasCells z.0.mine) (sym is) cells

    pub missed_told : (id : ℕ) → k ≡ shard_of id → by ≢ a → (table : TableId) (was : PassState) → record { sight = old.0; table = table } ≡ was → (seat_view was.sight).shard ≡ None
        → ClaimsShard (seat_view was.sight) (seat_view m.0) id Held
    missed_told id at other table was same free =
        let r : Actor = old.0.mine.part in
        told_of (λ v w. ClaimsShard v w id Held) old.0 m.0 table was same
        (subst (λ (z : Seated). ClaimsShard (seat_view old.0) (seat_view z.0) id Held) (sym is)
        (tries_by old.0 r.shard k (Some by) r.reserved_here old.0.out id Held at
        (record { by = by; is = refl; other = λ e. other (e ∙ p.actor_is) }, none_held old.0 table was same free, refl, refl)))

  -- the rows of the shard that its row has are in hand
  pub rows_there : (k : ℕ) → row.shard ≡ Some k → (x : Rows) × (rows ≡ Some x)
  rows_there k has = go old.0.mine.part.shard rows p.out (ap (λ (r : Actor). r.shard) p.row_is ∙ has)
    where
      go : (o : Option ℕ) (rows : Option Rows) → HasOut o rows old.0.out old.1 → o ≡ Some k → (x : Rows) × (rows ≡ Some x)
      go None rows h e = absurd (none-some k e)
      go (Some n) None h e = absurd h
      go (Some n) (Some x) h e = (x, refl)

  module _ (k : ℕ) (has : row.shard ≡ Some k) (x : Rows) (hold : rows ≡ Some x) where
    pub held_part : old.0.mine.part.shard ≡ Some k
    held_part = ap (λ (r : Actor). r.shard) p.row_is ∙ has

    -- nothing else is out
    pub only_out : (old.0.out ≡ (k + 1, OfShard x) ∷ []) × (old.1 ≡ (k + 1, Vacant) ∷ [])
    only_out = subst (λ o. HasOut o (Some x) old.0.out old.1) held_part (subst (λ o. HasOut old.0.mine.part.shard o old.0.out old.1) hold p.out)

    pub held_last : HoldsLast old (k + 1) (OfShard x)
    held_last = let o = only_out in record {
      held = o.1 ∙ ap (λ l. (k + 1, Vacant) ∷ l) (sym (ap rest o.1));
      live = p.live;
      out = o.0 ∙ ap (λ l. (k + 1, OfShard x) ∷ l) (sym (ap rest o.0));
      others = λ h. (subst (λ l. HasKey l (k + 1)) (ap rest o.0) h).1;
    }

    -- it is one of the sixteen
    pub held_low : (settings : Configuration) → IsSo settings old.0 → k < 16
    held_low settings so = let f = me settings so.core so.held old.0 p.live so.backs in ((so.held.kept.sound.each old.0.actor old.0.mine.part f.part).holds.shard k held_part).0

    module _ (m : Seated) (gave : m ≡ (releasing old.0, rest old.1)) where
      pub released_pass : (made : ActorRow) → made ≡ record row { shard = None; reserved_here = false } → IsPass m a made None told
      released_pass made e =
          let o = only_out in
          subst (λ z. IsPass z a made None told) (sym gave) (record {
            live = refl;
            actor_is = p.actor_is;
            row_is = ap released p.row_is ∙ ap (row_actor old.0.mine.note.board.settings old.0.mine.part) (sym e);
            told_is = p.told_is;
            out = (ap rest o.0, ap rest o.1);
            unborn = p.unborn;
          })

      pub released_near : (words : ℕ) → AreNear words old.0.mine.named → AreNear words m.0.mine.named
      released_near words near = subst (λ (z : Seated). AreNear words z.0.mine.named) (sym gave) near

      pub released_cells : HasCells old.0.mine → HasCells m.0.mine
      released_cells cells = subst (λ (z : Seated). HasCells z.0.mine) (sym gave) cells

      pub released_told : (table : TableId) (was : PassState) → record { sight = old.0; table = table } ≡ was → ReleasesShard (seat_view was.sight) (seat_view m.0)
      released_told table was same =
          let r : Actor = old.0.mine.part in
          told_of ReleasesShard old.0 m.0 table was same
          (subst (λ (z : Seated). ReleasesShard (seat_view old.0) (seat_view z.0)) (sym gave)
          (lets_go_by old.0 None r.tried r.found false (rest old.0.out) refl refl refl refl))
