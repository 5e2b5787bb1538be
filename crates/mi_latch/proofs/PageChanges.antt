-- A step of one seat's actor that leaves the board as it was.
use Rattle.std.proofs.Common.{◌≡◌, ◌≢◌, ℕ, ◌≤◌, true, List, take, sym, ap, ◌∙◌, subst, arith}
use Rattle.std.specs.Prelude.{slice_set}
use Rattle.mi_base.specs.Configuration.{Configuration}
use Rattle.mi_board.specs.Boards.{BoardState, is_passed}
use Rattle.mi_core.specs.Events.{Can, Event, after}
use Rattle.mi_core.specs.Later.{IsLater}
use Rattle.mi_core.specs.Named.{IsNamed, Named}
use Rattle.mi_core.specs.State.{State}
use Rattle.mi_core.proofs.LaterEvents.{event_leads_on}
use Rattle.mi_latch.specs.declared.slots.Slot.{Slot}
use Rattle.mi_latch.specs.Layout.{at}
use Rattle.mi_latch.specs.Shows.{Backs, Changes, Makes, Writes}
use Rattle.mi_latch.specs.Views.{Fits, Follows, Held, IsOne, Knows, Marks, Mine, Next, Own, Sight, first_page, made, now}
use Rattle.mi_latch.specs.Wanting.{leaf_wanted}
use Rattle.mi_latch.proofs.Steps.{changes, me}

-- a page that was named is named later
pub named_later : (c d : State) → IsLater c d → (x : Named) → IsNamed c.pages x → IsNamed d.pages x
named_later c d l x h = let n = l.pages x.page h.node h.there in record { node = n.now; there = n.there; level = n.level ∙ h.level; low = n.low ∙ h.low }

-- what an actor knew is so, where the board is as it was
pub knows_still : (c d : State) → IsLater c d → d.board ≡ c.board → (t : Mine) → Knows c t → Knows d t
knows_still c d l board t k = record {
  log = k.log ∙ ap (λ (b : BoardState). take t.part.seen b.log) (sym board);
  named = λ x h. named_later c d l x (k.named x h);
  told = λ h. subst (λ (b : BoardState). b.allotted ≡ b.settings.pages) (sym board) (k.told h);
  wanted = k.wanted ∙ ap (λ (b : BoardState). leaf_wanted b.settings b.log t.part.claim) (sym board);
  least = subst (λ (b : BoardState). t.least ≤ b.height) (sym board) k.least;
  first = k.first;
  pin = k.pin;
  count = (let many = l.actors in let n = k.count in omega arith);
  note = subst (λ (b : BoardState). Follows t.note.board b) (sym board) k.note;
  passed = λ p h. ap (is_passed p) board ∙ k.passed p h;
}

-- what an actor knows after a section without the board: what it knew, and more pages
pub record Learns (m q : Mine) : Type 0 where
  pub log : q.log ≡ m.log
  pub told : q.told ≡ m.told
  pub wanted : q.wanted ≡ m.wanted
  pub least : q.least ≡ m.least
  pub count : q.count ≡ m.count
  pub noted : q.note.board ≡ m.note.board
  pub names : (x : Named) → IsOne x m.named → IsOne x q.named
  pub seen : q.part.seen ≡ m.part.seen
  pub claim : q.part.claim ≡ m.part.claim
  pub pin : q.part.pin ≡ m.part.pin
  pub going : q.part.ended ≡ m.part.ended

pub knows_more : (d : State) (m q : Mine) → Learns m q → Knows d m → ((x : Named) → IsOne x q.named → IsNamed d.pages x) → Knows d q
knows_more d m q l k named = record {
  log = l.log ∙ k.log ∙ ap (λ n. take n d.board.log) (sym l.seen);
  named = named;
  told = λ h. k.told (sym l.told ∙ h);
  wanted = l.wanted ∙ k.wanted ∙ ap (leaf_wanted d.board.settings d.board.log) (sym l.claim);
  least = (let n = k.least in omega (arith, l.least));
  first = l.names first_page k.first;
  pin = λ p e. (let n = k.pin p (sym l.pin ∙ e) in omega (arith, l.seen));
  count = (let n = k.count in omega (arith, l.count));
  note = subst (λ (b : BoardState). Follows b d.board) (sym l.noted) k.note;
  passed = λ p e. k.passed p (sym l.claim ∙ e) ∙ ap (is_passed p) (sym l.noted);
}

module _ (settings : Configuration) (c : State) (held : Held settings c) (v : Sight) (live : v.live ≡ true) (b : Backs at Fits Own c v) (e : Event) (can : Can c v.actor v.mine.part e) where
  abbrev d : State
  d = after c v.actor v.mine.part e

  pub later : IsLater c d
  later = event_leads_on e c held.kept.sound v.actor v.mine.part (me settings c held v live b).part can

  -- such an event, which writes what ys says and makes the word of one slot a new one
  pub changes_still : (q : Mine) (next ys : List (ℕ × Slot)) (j new : ℕ) → d.board ≡ c.board → d.actors ≡ slice_set c.actors v.actor q.part → Learns v.mine q → ((x : Named) → IsOne x q.named → IsNamed d.pages x)
      → Writes (at c) (at d) ys → ((word : ℕ) → Marks c j word → Marks d j new) → ((k word : ℕ) → k ≢ j → Marks c k word → Marks d k word)
      → Changes at Fits Own Marks made Next c d v (now v q next) ys j new × Makes made c d v (now v q next)
  changes_still q next ys j new board is l named writes mark marks = changes settings c held v live b e can q next ys j new is
      (knows_more d v.mine q l (knows_still c d later board v.mine (me settings c held v live b).knows) named) l.going (let n = l.count in omega arith) writes mark marks
