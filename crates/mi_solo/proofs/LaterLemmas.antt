-- What is learned stays true.
use Rattle.std.proofs.Common.{◌≡◌, ℕ, ◌-◌, ◌≤◌, List, [], ◌∷◌, ◌++◌, length, drop, IsTrue, refl, sym, ap, ◌∙◌, arith, Option, Some, None, is_some, eq-eqb, eqb-true, length-append}
use Rattle.std.specs.Prelude.{slice_get}
use Rattle.std.proofs.lemmas.Bool.{false≢true}
use Rattle.std.proofs.lemmas.List.{length-drop}
use Rattle.std.proofs.lemmas.List.Elements.{filter_map-append}
use Rattle.mi_base.specs.declared.records.LogEvent.{LogEvent}
use Rattle.mi_base.specs.declared.records.LogEvent.TheVariants.{Update as Made, Split}
use Rattle.mi_base.specs.declared.records.Update.TheVariants.{Insert, Delete}
use Rattle.mi_base.specs.declared.records.Update.{Update}
use Rattle.mi_page.specs.Nodes.{Node}
use Rattle.mi_tree.specs.Births.{split_in, splits_in}
use Rattle.mi_board.specs.Boards.{BoardState}
use Rattle.mi_entries.specs.Actors.{Actor}
use Rattle.mi_core.specs.Events.{Can, Event, after, leaf_or}
use Rattle.mi_core.specs.Events.Event.{see, look, meet, refuse, refuse_at, visit, start, trim, miss_shard, claim_shard, release_shard, reserve, pin, unpin, claim_leaf, release_leaf, insert, delete, allot, lack, grow, split_page, post, gather, copy_in, uncopy, publish, give_up, take_sweep, take_split, no_work, sweep, fork, absorb, depart}
use Rattle.mi_core.specs.Kept.{Kept}
use Rattle.mi_core.specs.Pages.{node_or_fresh}
use Rattle.mi_core.specs.State.{State, node_at}
use Rattle.mi_core.proofs.LaterEvents.{event_leads_on}
use Rattle.mi_core.proofs.OrderLemmas.{updates_split_none}
use Rattle.mi_world.specs.View.{Later}
use Rattle.mi_solo.specs.Onward.{Onward}
use Rattle.mi_solo.specs.Viewing.{given_in, shown_to}

-- a named page is linked
pub linked_at : (o : Option Node) → IsTrue (is_some o) → (n : Node) × (o ≡ Some n)
linked_at None t = absurd (false≢true t)
linked_at (Some n) t = (n, refl)

-- a lasting state shows what it showed
pub later_from : (s t : State) → Kept t → Onward s t → (a : ℕ) (r q : Actor) → (IsTrue r.lacked → IsTrue q.lacked) → Later (shown_to s a r) (shown_to t a q)
later_from s t k' o a r q lacked =
    let l = o.later in
    record {
      settings = l.settings;
      actor = refl;
      grows = record { by = l.more; is = l.log };
      few = λ _. k'.sound.legal.few;
      lacked = lacked;
      told = λ e. (let all = eqb-true s.board.allotted s.board.settings.pages e in let most = k'.sound.pages.most in let up = l.allotted in
          eq-eqb t.board.allotted t.board.settings.pages (omega (arith, ap (λ c. c.pages) l.settings)));
      named = λ p e. let x = linked_at (node_at s.pages p) e in ap is_some (l.pages p x.0 x.1).there;
      level = λ p e. (let z = linked_at (node_at s.pages p) e in let y = l.pages p z.0 z.1 in
          ap (λ o. (node_or_fresh o).level) y.there ∙ y.level ∙ ap (λ o. (node_or_fresh o).level) (sym z.1));
      low = λ p e. (let z = linked_at (node_at s.pages p) e in let y = l.pages p z.0 z.1 in
          ap (λ o. (node_or_fresh o).low) y.there ∙ y.low ∙ ap (λ o. (node_or_fresh o).low) (sym z.1));
      least = l.height;
      tells_full = refl;
      allotted = l.allotted;
      given = o.given;
    }

updated : (b : BoardState) (a op : ℕ) (u : Update) → given_in b ≤ length (splits_in (b.log ++ Made a op u ∷ [])) - length b.retired
updated b a op u = omega (arith, ap length (updates_split_none b.log a op u))

published : (log : List LogEvent) (retired : List (List ℕ)) (p : List ℕ) → length (splits_in log) - length retired ≤ length (splits_in (log ++ Split p ∷ [])) - length (retired ++ p ∷ [])
published log retired p = omega (arith, ap length (filter_map-append split_in log (Split p ∷ [])), length-append (splits_in log) (p ∷ []), length-append retired (p ∷ []))

taken : (n : ℕ) (retired : List (List ℕ)) → n - length retired ≤ n - length (drop 1 retired)
taken n retired = omega (arith, length-drop 1 retired)

module _ (s : State) (k : Kept s) (a : ℕ) (r : Actor) (there : slice_get s.actors a ≡ Some r) where
  given_on : (e : Event) → given_in s.board ≤ given_in (after s a r e).board
  given_on (insert op id page node kept e) = updated s.board a op (Insert id e.vector)
  given_on (delete op id page node kept key) = updated s.board a op (Delete id)
  given_on publish = published s.board.log s.board.retired (leaf_or r.claim)
  given_on (take_sweep p) = taken (length (splits_in s.board.log)) s.board.retired
  given_on see = omega arith
  given_on look = omega arith
  given_on (meet page) = omega arith
  given_on (refuse why) = omega arith
  given_on (refuse_at page why) = omega arith
  given_on (visit page) = omega arith
  given_on (start page) = omega arith
  given_on (trim page node) = omega arith
  given_on (miss_shard n) = omega arith
  given_on (claim_shard n kept) = omega arith
  given_on (release_shard n kept) = omega arith
  given_on (reserve n kept room) = omega arith
  given_on pin = omega arith
  given_on unpin = omega arith
  given_on (claim_leaf p) = omega arith
  given_on release_leaf = omega arith
  given_on allot = omega arith
  given_on lack = omega arith
  given_on (grow level key child) = omega arith
  given_on (split_page page node) = omega arith
  given_on (post page node key child) = omega arith
  given_on (gather page node) = omega arith
  given_on (copy_in page node e) = omega arith
  given_on (uncopy page node e told) = omega arith
  given_on (give_up pages) = omega arith
  given_on (take_split p) = omega arith
  given_on no_work = omega arith
  given_on (sweep page node) = omega arith
  given_on fork = omega arith
  given_on (absorb b t) = omega arith
  given_on depart = omega arith

  pub onward : (e : Event) → Can s a r e → Onward s (after s a r e)
  onward e can = record { later = event_leads_on e s k.sound a r there can; given = given_on e }
