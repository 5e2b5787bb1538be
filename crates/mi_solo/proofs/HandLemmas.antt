-- What a view tells of what its actor has in hand.
use Rattle.std.proofs.Common.{◌≡◌, ℕ, List, [], length, false, cond, refl, sym, ap, ◌∙◌, Option, Some, None, is_some}
use Rattle.std.specs.Prelude.{slice_get, unwrap_or}
use Rattle.std.proofs.lemmas.Bool.{false≢true}
use Rattle.std.proofs.lemmas.Option.{none-some}
use Rattle.std.proofs.lemmas.List.{length-map}
use Rattle.mi_base.specs.declared.records.LogEvent.{LogEvent}
use Rattle.mi_base.specs.History.{at_position}
use Rattle.mi_tree.specs.Legal.{cells_of}
use Rattle.mi_entries.specs.Actors.{Actor, Pin, SplitWork, SweepWork}
use Rattle.mi_entries.specs.Entries.{grid}
use Rattle.mi_entries.specs.Splits.{copy_in_child}
use Rattle.mi_core.specs.Events.{IsFree, copied_of}
use Rattle.mi_core.specs.Kept.{Kept}
use Rattle.mi_core.specs.State.{State}
use Rattle.mi_world.specs.Pages.{pinned}
use Rattle.mi_world.specs.Splits.{copied_in, gathered_in}
use Rattle.mi_solo.specs.Viewing.{copy_keys, pinned_log, shown_to, swept_leaf}

no_sweep : (o : Option SweepWork) → swept_leaf o ≡ None → o ≡ None
no_sweep None h = refl
no_sweep (Some w) h = absurd (none-some w.leaf (sym h))

no_pin : (log : List LogEvent) (o : Option Pin) → pinned_log log o ≡ None → o ≡ None
no_pin log None h = refl
no_pin log (Some p) h = absurd (none-some (at_position log p.at) (sym h))

some_pin : (log : List LogEvent) (o : Option Pin) → is_some (pinned_log log o) ≡ is_some o
some_pin log None = refl
some_pin log (Some p) = refl

not_some : {X : Type 0} (o : Option X) → is_some o ≡ false → o ≡ None
not_some None h = refl
not_some (Some x) h = absurd (false≢true (sym h))

module _ (s : State) (a : ℕ) (r : Actor) where
  pub free_shown : (shown_to s a r).leaf ≡ None → (shown_to s a r).sweep ≡ None → IsFree r
  free_shown leaf sweep = record { claim = leaf; sweep = no_sweep r.sweep sweep }

  pub whole_shown : (shown_to s a r).splitting ≡ false → r.split ≡ None
  whole_shown h = not_some r.split h

  pub bare_shown : (shown_to s a r).pin ≡ None → r.pin ≡ None
  bare_shown h = no_pin s.board.log r.pin h

  pub pin_shown : is_some (shown_to s a r).pin ≡ is_some r.pin
  pin_shown = some_pin s.board.log r.pin

  pub split_shown : (w : SplitWork) → r.split ≡ Some w → (gathered_in (shown_to s a r) ≡ length w.gathered) × (copied_in (shown_to s a r) ≡ w.copied)
  split_shown w is = (
    ap (λ o. length (cond (is_some o) (copy_keys s.board.settings o) [])) is ∙ length-map w.gathered (λ e. (copy_in_child (grid s.board.settings) w.leaf e).key),
    ap (λ o. cond (is_some o) (copied_of o) 0) is,
  )

  pub none_shown : r.split ≡ None → (gathered_in (shown_to s a r) ≡ 0) × (copied_in (shown_to s a r) ≡ 0)
  none_shown is = (ap (λ o. length (cond (is_some o) (copy_keys s.board.settings o) [])) is, ap (λ o. cond (is_some o) (copied_of o) 0) is)

pub cells_shown : (s : State) → Kept s → (a : ℕ) (r : Actor) → slice_get s.actors a ≡ Some r → (p : Pin) → r.pin ≡ Some p → p.cells ≡ cells_of s.board.settings (pinned (shown_to s a r))
cells_shown s k a r there p is = ((k.sound.each a r there).saw.pin p is).1 ∙ ap (λ o. cells_of s.board.settings (unwrap_or (pinned_log s.board.log o) [])) (sym is)
