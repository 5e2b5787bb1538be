-- A step of one seat's actor, from what changes.
use Rattle.std.proofs.Common.{◌≡◌, ◌≢◌, inl, inr, ⊎_elim, ℕ, ◌+◌, ◌<◌, ◌≤◌, true, List, ◌∷◌, ◌++◌, length, Some, sym, refl, ap, ◌∙◌, subst, arith, length-set}
use Rattle.std.specs.Prelude.{slice_get, slice_set}
use Rattle.std.proofs.lemmas.Option.{slice_get_within}
use Rattle.mi_base.specs.Configuration.{Configuration}
use Rattle.mi_entries.specs.Actors.{Actor}
use Rattle.mi_entries.specs.Records.{shard_at}
use Rattle.mi_core.specs.Events.{Can, Event, after}
use Rattle.mi_core.specs.Kept.{Kept}
use Rattle.mi_core.specs.Later.{IsLater}
use Rattle.mi_core.specs.State.{State}
use Rattle.mi_core.proofs.ActorLemmas.{set_else, set_there}
use Rattle.mi_core.proofs.FrameEvents.{named_stays, seen_stays, told_stays}
use Rattle.mi_core.proofs.KeptEvents.{each_keeps}
use Rattle.mi_core.proofs.LaterEvents.{event_leads_on}
use Rattle.mi_latch.specs.declared.slots.Slot.{Slot}
use Rattle.mi_latch.specs.Layout.{at}
use Rattle.mi_latch.specs.Shows.{Backs, Changes, Has, Makes, Writes, stands, stands_if}
use Rattle.mi_latch.specs.Views.{Fits, Held, Knows, Marks, Mine, Next, Own, Sight, holder_word, made, now}
use Rattle.mi_latch.proofs.OthersLemmas.{given_on, wanted_same}
use Rattle.mi_latch.proofs.PassedLemmas.{passed_same}
use Rattle.mi_latch.proofs.Rules.{has_append, own}

pub fits_made : (c : State) (a : ℕ) (m : Mine) → Fits c a m → a < made c
fits_made c a m f = slice_get_within c.actors a m.part f.part

-- the core's law of every event
pub held_keeps : (settings : Configuration) (c d : State) (a : ℕ) → Held settings c → Next c a d → Held settings d
held_keeps settings c d a h x = ⊎_elim
    (λ g. subst (Held settings) (sym g.is) record {
      kept = each_keeps g.event c h.kept a g.actor g.there g.going g.can;
      same = (event_leads_on g.event c h.kept.sound a g.actor g.there g.can).settings ∙ h.same;
    })
    (λ e. subst (Held settings) (sym e) h)
    x

-- the word of a shard is right in another core state with the same holder
pub marks_on : (c d : State) (i word : ℕ) → ((k : ℕ) → i ≡ k + 1 → k < 16 → (shard_at d.shards k).holder ≡ (shard_at c.shards k).holder) → Marks c i word → Marks d i word
marks_on c d i word same h k e l = h k e l ∙ ap holder_word (sym (same k e l))

-- what an actor knows stays, whatever another does
pub stays : (c : State) (k : Kept c) (a : ℕ) (r : Actor) → slice_get c.actors a ≡ Some r → (e : Event) → Can c a r e → Kept (after c a r e) → (x : ℕ) (t : Mine) → x ≢ a → Fits c x t → slice_get (after c a r e).actors x ≡ slice_get c.actors x → Fits (after c a r e) x t
stays c k a r there e can next x t apart f same =
    let d : State = after c a r e in
    let later : IsLater c d = event_leads_on e c k.sound a r there can in
    record {
      part = same ∙ f.part;
      knows = record {
        log = f.knows.log ∙ sym (seen_stays c d k.sound next.sound later t.part.seen (k.sound.each x t.part f.part).saw.seen);
        named = λ y h. named_stays c d k.sound next.sound later y (f.knows.named y h);
        told = λ h. told_stays c d k.sound next.sound later (f.knows.told h);
        wanted = f.knows.wanted ∙ sym (wanted_same c k.sound a r there e can x t.part f.part apart);
        least = (let n = f.knows.least in omega (arith, n, later.height));
        first = f.knows.first;
        pin = f.knows.pin;
        count = (let n = f.knows.count in omega (arith, n, later.actors));
        note = record {
          settings = later.settings ∙ f.knows.note.settings;
          allotted = (let n = f.knows.note.allotted in omega (arith, n, later.allotted));
          given = (let n = f.knows.note.given in omega (arith, n, given_on c k.sound a r there e));
        };
        passed = λ p h. passed_same c k.sound a r there x t.part f.part apart p h e can ∙ f.knows.passed p h;
      };
    }

module _ (settings : Configuration) (c : State) (held : Held settings c) (v : Sight) (live : v.live ≡ true) (b : Backs at Fits Own c v) where
  -- the actors of a view but its own
  pub more : (x : ℕ) (t : Mine) → Has (v.born ++ v.absorbed) x t → Has (stands v) x t
  more x t h = subst (λ z. Has (stands_if z ((v.actor, v.mine) ∷ v.born ++ v.absorbed)) x t) (sym live) (inr h)

  pub apart : (x : ℕ) (t : Mine) → Has (v.born ++ v.absorbed) x t → x ≢ v.actor
  apart x t h e = ⊎_elim (λ z. (b.unborn x (t, z)).0 e) (λ z. b.unjoined (t, subst (λ (m : ℕ). Has v.absorbed m t) e z)) (has_append v.born v.absorbed x t h)

  pub me : Fits c v.actor v.mine
  me = b.records v.actor v.mine (own v live)

  module _ (e : Event) (can : Can c v.actor v.mine.part e) where
    abbrev pub d : State
    d = after c v.actor v.mine.part e

    pub next_kept : Kept d
    next_kept = each_keeps e c held.kept v.actor v.mine.part me.part (b.own.mine live).going can

    -- an event that changes its own actor's record alone among records
    pub changes : (q : Mine) (next ys : List (ℕ × Slot)) (j new : ℕ) → d.actors ≡ slice_set c.actors v.actor q.part → Knows d q → q.part.ended ≡ v.mine.part.ended → v.mine.count ≤ q.count → Writes (at c) (at d) ys
        → ((word : ℕ) → Marks c j word → Marks d j new) → ((k word : ℕ) → k ≢ j → Marks c k word → Marks d k word)
        → Changes at Fits Own Marks made Next c d v (now v q next) ys j new × Makes made c d v (now v q next)
    changes q next ys j new is knows going count writes mark marks =
        let a : ℕ = v.actor in
        let mine = b.own.mine live in
        let same : (x : ℕ) → x ≢ a → slice_get d.actors x ≡ slice_get c.actors x = λ x n. ap (λ (l : List Actor). slice_get l x) is ∙ set_else c.actors a x q.part n in
        let others : (x : ℕ) (t : Mine) → x ≢ a → Fits c x t → Fits d x t = λ x t n f. stays c held.kept a v.mine.part me.part e can next_kept x t n f (same x n) in (
          record {
            next = inl record { actor = v.mine.part; there = me.part; going = mine.going; event = e; can = can; is = refl };
            own = record {
              mine = λ h. record { small = mine.small; going = going ∙ mine.going };
              born = b.own.born;
              over = b.own.over;
              forked = λ k h. (let n = b.own.forked k h in omega (arith, n, count));
            };
            records = λ x t h. ⊎_elim
                (λ g. subst (λ (y : ℕ). Fits d y t) g.0 (subst (λ (y : Mine). Fits d a y) g.1 record {
                  part = ap (λ (l : List Actor). slice_get l a) is ∙ set_there c.actors a q.part v.mine.part me.part;
                  knows = knows;
                }))
                (λ g. others x t (apart x t g) (b.records x t (more x t g))) h;
            others = λ x t f n. others x t (λ g. n (v.mine, subst (λ (y : ℕ). Has (stands v) y v.mine) (sym g) (own v live))) f;
            values = writes.values;
            rest = writes.rest;
            mark = mark;
            marks = marks;
          },
          record {
            back = λ x h. inl (⊎_elim (λ g. (v.mine, subst (λ (y : ℕ). Has (stands v) y v.mine) g.0 (own v live))) (λ g. (h.0, more x h.0 g)) h.1);
            born = λ x h. inl h;
            unborn = b.unborn;
            unjoined = b.unjoined;
            forked = λ x h. h;
            new = λ x h. inl (subst (λ (n : ℕ). x < n) (ap length is ∙ length-set c.actors a q.part) h);
          },
        )

pub out_has : (v : Sight) (i : ℕ) (x : Slot) (out : List (ℕ × Slot)) → v.out ≡ (i, x) ∷ out → Has v.out i x
out_has v i x out is = subst (λ (l : List (ℕ × Slot)). Has l i x) (sym is) (inl (refl, refl))

-- what is out but the last
pub rest_has : (v : Sight) (i : ℕ) (x : Slot) (out : List (ℕ × Slot)) → v.out ≡ (i, x) ∷ out → (j : ℕ) (y : Slot) → Has out j y → Has v.out j y
rest_has v i x out is j y h = subst (λ (l : List (ℕ × Slot)). Has l j y) (sym is) (inr h)
