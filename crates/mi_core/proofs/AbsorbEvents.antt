-- An actor that ends keeps what is kept.
use Rattle.std.proofs.Common.{◌≡◌, ◌≢◌, ℕ, refl, ◌∙◌, arith, Some}
use Rattle.std.specs.Prelude.{slice_get}
use Rattle.std.proofs.lemmas.Bool.{false≢true}
use Rattle.mi_core.specs.Events.{after, ended, more_seen}
use Rattle.mi_core.specs.Events.Event.{absorb}
use Rattle.mi_core.specs.Sound.{Sound}
use Rattle.mi_entries.specs.Actors.{Actor}
use Rattle.mi_core.specs.State.{State, put_actor}
use Rattle.mi_core.proofs.ActorLemmas.{set_else}
use Rattle.mi_core.proofs.QuietEvents.{quiet_keeps}

module _ (s : State) (k : Sound s) (a : ℕ) (r : Actor) (there : slice_get s.actors a ≡ Some r) (b : ℕ) (t : Actor) (apart : b ≢ a) (its : slice_get s.actors b ≡ Some t) where
  q : Actor
  q = more_seen t r

  first : Sound (put_actor a (more_seen t r) s)
  first =
      let m = k.each a r there in
      let o = k.each b t its in
      let h = m.holds in
      quiet_keeps s k a r there (more_seen t r) (record { shard = refl; claim = refl; sweep = refl; split = refl; fresh = refl }) (record {
        saw = (let v = m.saw in let u = o.saw in record { seen = (let x = v.seen in let y = u.seen in omega arith); floor = v.floor; low = v.low; pin = v.pin });
        own = m.own;
        holds = record { claim = h.claim; reserved = h.reserved; pin = h.pin; shard = h.shard; leaf = h.leaf; split = h.split; room = h.room };
        sweep = m.sweep;
        fresh = m.fresh;
      })

  second : (s' : State) → Sound s' → slice_get s'.actors b ≡ Some t → Sound (put_actor b (ended t) s')
  second s' k' its' =
      let m = k'.each b t its' in
      let h = m.holds in
      quiet_keeps s' k' b t its' (ended t) (record { shard = refl; claim = refl; sweep = refl; split = refl; fresh = refl }) (record {
        saw = (let v = m.saw in record { seen = v.seen; floor = v.floor; low = v.low; pin = v.pin });
        own = m.own;
        holds = record { claim = h.claim; reserved = h.reserved; pin = h.pin; shard = h.shard; leaf = h.leaf; split = h.split; room = λ n e here. absurd (false≢true here) };
        sweep = m.sweep;
        fresh = m.fresh;
      })

  pub absorb_keeps : Sound (after s a r (absorb b t))
  absorb_keeps = second (put_actor a (more_seen t r) s) first (set_else s.actors a b (more_seen t r) apart ∙ its)
