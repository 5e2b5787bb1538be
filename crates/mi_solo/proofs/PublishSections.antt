-- What a split needs that is published.
use Rattle.std.proofs.Common.{◌≡◌, ℕ, ◌<◌, length, get_or, refl, sym, ap, ◌∙◌, subst, Some, None, Option}
use Rattle.std.specs.Prelude.{IsSome, slice_get}
use Rattle.std.proofs.lemmas.Bool.{false≢true}
use Rattle.mi_board.specs.Boards.{leaf_claimed, prefix_or}
use Rattle.mi_core.specs.Events.{leaf_or}
use Rattle.mi_core.specs.Kept.{Kept}
use Rattle.mi_core.specs.State.{State}
use Rattle.mi_entries.specs.Actors.{Actor}
use Rattle.mi_world.specs.Splits.{IsGathered}
use Rattle.mi_solo.specs.declared.cores.Core.{Core}
use Rattle.mi_solo.specs.declared.rows.ActorRow.{ActorRow}
use Rattle.mi_solo.specs.declared.rows.SplitRow.{SplitRow}
use Rattle.mi_solo.specs.BoardRows.{MayEnter}
use Rattle.mi_solo.specs.States.{actor_in, split_of, state_of, view_in}
use Rattle.mi_solo.specs.Viewing.{shown_to}
use Rattle.mi_solo.specs.WorkRows.{work_of}
use Rattle.mi_solo.proofs.CoreLemmas.{row_is, there}
use Rattle.mi_solo.proofs.GatheredLemmas.{may_publish, may_publish_all}

-- a row has a split where its record has one
pub row_split : (o : Option SplitRow) → IsSome (split_of o) → (w : SplitRow) × (o ≡ Some w)
row_split None h = absurd (false≢true h)
row_split (Some w) h = (w, refl)

-- of any state that has an actor with this row, whose split is whole and copied
module _ (s : State) (k : Kept s) (a : ℕ) (r : Actor) (at : slice_get s.actors a ≡ Some r) (row : ActorRow) (split : r.split ≡ split_of row.split) (whole : IsGathered (shown_to s a r)) (all : (shown_to s a r).copied ≡ length (shown_to s a r).copies) where
  has : (w : SplitRow) × (row.split ≡ Some w)
  has = row_split row.split (subst IsSome split whole.splitting)

  pub row_enters : MayEnter a s.board row
  row_enters = (has.0, has.1, may_publish_all s k a r at (may_publish s k a r at whole all) (work_of has.0) (split ∙ ap split_of has.1))

  -- the board has the claim that the record has
  pub leaf_enters : leaf_claimed s.board a ≡ leaf_or r.claim
  leaf_enters =
      let holds = (k.sound.each a r at).holds in
      let claim : r.claim ≡ Some has.0.leaf = holds.split (work_of has.0) (split ∙ ap split_of has.1) in
      ap prefix_or (holds.claim ∙ claim) ∙ sym (ap leaf_or claim)

module _ (c : Core) (a : ℕ) (known : a < length c.actors.items) (kept : Kept (state_of c)) (row : ActorRow) (at : row ≡ get_or c.actors.items a row)
    (whole : IsGathered (view_in (state_of c) a)) (all : (view_in (state_of c) a).copied ≡ length (view_in (state_of c) a).copies) where
  pub split_enters : MayEnter a c.board row
  split_enters = row_enters (state_of c) kept a (actor_in (state_of c) a) (there c a known) row (ap (λ (x : Actor). x.split) (row_is c a known row at)) whole all
