-- What a view tells of a claim that was found held is so of its state.
use Rattle.std.proofs.Common.{◌≡◌, ℕ, ◌==◌, Bool, true, false, cond, List, Option, Some, None, refl, subst, rules, inl, inr}
use Rattle.std.specs.Prelude.{◌⊎◌, ℤ}
use Rattle.mi_base.specs.declared.records.Op.{Op}
use Rattle.mi_base.specs.declared.records.Op.TheVariants.{Insert, Delete, Range, Nearest}
use Rattle.mi_core.specs.State.{State}
use Rattle.mi_entries.specs.Actors.{Actor}
use Rattle.mi_entries.specs.Records.{home, shard_at}
use Rattle.mi_job.specs.Claims as seen
use Rattle.mi_job.specs.Claims.{IsHeld}
use Rattle.mi_solo.specs.Viewing.{another, shown_to}
use Rattle.mi_update.specs.Stepping.{HeldShard}
use Rattle.mi_world.specs.View.{IsOther}
use Rattle.mi_replay.specs.InOrder.{LeafIsClaimed, LeafIsHeld, ShardIsHeld}

-- another actor that is found is one that is there
found_there : (a : ℕ) (holder : Option ℕ) → IsOther (another a holder) a → IsOther holder a
found_there a None h = absurd (search rules)
found_there a (Some b) h =
    let P : Bool → Type 0 = λ t. cond t None (Some b) ≡ Some h.by → IsOther (Some b) a in
    (elim (b == a) as P [
      | true ↦ λ e. absurd (search rules)
      | false ↦ λ e. let same : b ≡ h.by = cc in record { by = b; is = refl; other = rw same h.other }
    ]) h.is

module _ (s : State) (a : ℕ) (r : Actor) where
  pub shard_held : (id : ℕ) → HeldShard id (shown_to s a r) → IsOther (shard_at s.shards (home id)).holder a
  shard_held id h = subst (λ k. IsOther (shard_at s.shards k).holder a) h.tried (found_there a (shard_at s.shards r.tried).holder h.other)

  pub leaf_held : (vector : List ℤ) → seen.LeafIsHeld vector (shown_to s a r) → LeafIsClaimed s a vector
  leaf_held vector h = record { prefix = h.prefix; belongs = h.belongs; other = h.other }

  pub held_there : (o : Op) → IsHeld o (shown_to s a r) → ShardIsHeld s a o ⊎ LeafIsHeld s a o
  held_there (Insert id vector) (inl h) = inl (shard_held id h)
  held_there (Insert id vector) (inr h) = inr (leaf_held vector h)
  held_there (Delete id) (inl h) = inl (shard_held id h)
  held_there (Delete id) (inr h) = inr (h.0, h.1, leaf_held h.0.vector h.2)
  held_there (Range radius query) h = absurd h
  held_there (Nearest count query) h = absurd h
