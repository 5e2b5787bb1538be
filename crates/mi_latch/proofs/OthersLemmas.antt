-- What the events of one actor leave of what another knows.
use Rattle.std.proofs.Common.{◌≡◌, ◌≢◌, ℕ, ◌-◌, ◌≤◌, ◌<◌, List, [], ◌∷◌, ◌++◌, length, drop, Bool, true, false, refl, sym, ap, ◌∙◌, subst, arith, Option, Some, None, length-append}
use Rattle.std.specs.Prelude.{slice_get}
use Rattle.std.specs.List.{filter}
use Rattle.std.proofs.lemmas.List.{length-drop}
use Rattle.std.proofs.lemmas.List.Elements.{filter_map-append}
use Rattle.mi_base.specs.declared.records.LogEvent.{LogEvent}
use Rattle.mi_base.specs.declared.records.LogEvent.TheVariants.{Update as Made, Split}
use Rattle.mi_base.specs.declared.records.Update.{Update}
use Rattle.mi_base.specs.declared.records.Update.TheVariants as update
use Rattle.mi_base.specs.Configuration.{Configuration}
use Rattle.mi_base.specs.History.{live, updates_of}
use Rattle.mi_base.specs.Permutations.{begins}
use Rattle.mi_tree.specs.Births.{split_in, splits_in}
use Rattle.mi_tree.specs.Cells.{same_cell}
use Rattle.mi_tree.specs.Counting.{belongs}
use Rattle.mi_tree.proofs.LeafLemmas.{leaf_apart, same_cell_is}
use Rattle.mi_tree.proofs.LegalLemmas.{all_may, live_updated, updates_of_split}
use Rattle.mi_board.specs.Boards.{BoardState}
use Rattle.mi_entries.specs.Actors.{Actor}
use Rattle.mi_entries.specs.Entries.{grid}
use Rattle.mi_entries.proofs.FilterLemmas.{not_true}
use Rattle.mi_entries.proofs.KeyedLemmas.{is_keyed}
use Rattle.mi_core.specs.Events.{Can, Event, after, leaf_or}
use Rattle.mi_core.specs.Events.Event.{see, look, meet, refuse, refuse_at, visit, start, trim, miss_shard, claim_shard, release_shard, reserve, pin, unpin, claim_leaf, release_leaf, insert, delete, allot, lack, grow, split_page, post, gather, copy_in, uncopy, publish, give_up, take_sweep, take_split, no_work, sweep, fork, absorb, depart}
use Rattle.mi_core.specs.Sound.{Sound}
use Rattle.mi_core.specs.State.{State}
use Rattle.mi_core.proofs.LaterEvents.{event_leads_on}
use Rattle.mi_core.proofs.OrderLemmas.{updates_split_none}
use Rattle.mi_core.proofs.WantedLemmas.{count_deleted, deleted_apart, wanted_in, wanted_out, wanted_stays}
use Rattle.mi_latch.specs.Wanting.{given_in, leaf_wanted}

updated : (b : BoardState) (a op : ℕ) (u : Update) → given_in b ≤ length (splits_in (b.log ++ Made a op u ∷ [])) - length b.retired
updated b a op u = omega (arith, ap length (updates_split_none b.log a op u))

published : (log : List LogEvent) (retired : List (List ℕ)) (p : List ℕ) → length (splits_in log) - length retired ≤ length (splits_in (log ++ Split p ∷ [])) - length (retired ++ p ∷ [])
published log retired p = omega (arith, ap length (filter_map-append split_in log (Split p ∷ [])), length-append (splits_in log) (p ∷ []), length-append retired (p ∷ []))

taken : (n : ℕ) (retired : List (List ℕ)) → n - length retired ≤ n - length (drop 1 retired)
taken n retired = omega (arith, length-drop 1 retired)

-- how many live objects belong to a leaf
abbrev many : Configuration → List LogEvent → List ℕ → ℕ
many c log p = length (filter (belongs (grid c) p) (live (updates_of log)))

same_bool : (a b : Bool) → (a ≡ true → b ≡ true) → (b ≡ true → a ≡ true) → a ≡ b
same_bool true b f g = sym (f refl)
same_bool false true f g = g refl
same_bool false false f g = refl

module _ (s : State) (k : Sound s) (a : ℕ) (r : Actor) (there : slice_get s.actors a ≡ Some r) where
  abbrev c : Configuration
  c = s.board.settings

  abbrev log : List LogEvent
  log = s.board.log

  -- no leaf comes back to be swept
  pub given_on : (e : Event) → given_in s.board ≤ given_in (after s a r e).board
  given_on (insert op id page node kept e) = updated s.board a op (update.Insert id e.vector)
  given_on (delete op id page node kept key) = updated s.board a op (update.Delete id)
  given_on publish = published s.board.log s.board.retired (leaf_or r.claim)
  given_on (take_sweep p) = taken (length (splits_in s.board.log)) s.board.retired
  given_on see = omega arith
  given_on look = omega arith
  given_on (meet page) = omega arith
  given_on (refuse why) = omega arith
  given_on (refuse_at page why) = omega arith
  given_on (visit page) = omega arith
  given_on (start page) = omega arith
  given_on (trim page node) = omega arith
  given_on (miss_shard n) = omega arith
  given_on (claim_shard n kept) = omega arith
  given_on (release_shard n kept) = omega arith
  given_on (reserve n kept room) = omega arith
  given_on pin = omega arith
  given_on unpin = omega arith
  given_on (claim_leaf p) = omega arith
  given_on release_leaf = omega arith
  given_on allot = omega arith
  given_on lack = omega arith
  given_on (grow level key child) = omega arith
  given_on (split_page page node) = omega arith
  given_on (post page node key child) = omega arith
  given_on (gather page node) = omega arith
  given_on (copy_in page node e) = omega arith
  given_on (uncopy page node e told) = omega arith
  given_on (give_up pages) = omega arith
  given_on (take_split p) = omega arith
  given_on no_work = omega arith
  given_on (sweep page node) = omega arith
  given_on fork = omega arith
  given_on (absorb b t) = omega arith
  given_on depart = omega arith

  module _ (b : ℕ) (t : Actor) (at : slice_get s.actors b ≡ Some t) (apart : b ≢ a) (p : List ℕ) (claim : t.claim ≡ Some p) where
    -- an object that comes or goes is of another leaf than the one that is claimed
    as_many : (e : Event) → Can s a r e → many (after s a r e).board.settings (after s a r e).board.log p ≡ many c log p
    as_many (insert op id page node kept e) can =
        let two : same_cell p can.leaf ≡ false = not_true (same_cell p can.leaf) (λ e. apart (k.claims b a t r p at there claim (can.may.claim ∙ ap Some (sym (same_cell_is p can.leaf e))))) in
        let beside : begins p ((grid c).perm e.vector) ≡ false = leaf_apart (grid c) (is_keyed c k.limits).grid log (all_may c log k.legal) p can.leaf e.vector ((k.each b t at).holds.leaf p claim)
        ((k.each a r there).holds.leaf can.leaf can.may.claim) two can.may.under in
        ap (λ os. length (filter (belongs (grid c) p) os)) (live_updated log a op (update.Insert id e.vector)) ∙ (rw beside refl)
    as_many (delete op id page node kept key) can = let x = deleted_apart s k a r there id page node kept key can b t p at apart claim in count_deleted c log a op id p x.0 x.1
    as_many publish can = ap (λ us. length (filter (belongs (grid c) p) (live us))) (updates_of_split log (leaf_or r.claim))
    as_many (take_sweep p) can = refl
    as_many see can = refl
    as_many look can = refl
    as_many (meet page) can = refl
    as_many (refuse why) can = refl
    as_many (refuse_at page why) can = refl
    as_many (visit page) can = refl
    as_many (start page) can = refl
    as_many (trim page node) can = refl
    as_many (miss_shard n) can = refl
    as_many (claim_shard n kept) can = refl
    as_many (release_shard n kept) can = refl
    as_many (reserve n kept room) can = refl
    as_many pin can = refl
    as_many unpin can = refl
    as_many (claim_leaf p) can = refl
    as_many release_leaf can = refl
    as_many allot can = refl
    as_many lack can = refl
    as_many (grow level key child) can = refl
    as_many (split_page page node) can = refl
    as_many (post page node key child) can = refl
    as_many (gather page node) can = refl
    as_many (copy_in page node e) can = refl
    as_many (uncopy page node e told) can = refl
    as_many (give_up pages) can = refl
    as_many (take_split p) can = refl
    as_many no_work can = refl
    as_many (sweep page node) can = refl
    as_many fork can = refl
    as_many (absorb b t) can = refl
    as_many depart can = refl

    -- a leaf that another claims is to be split exactly where it was
    wanted_else : (e : Event) → Can s a r e → leaf_wanted (after s a r e).board.settings (after s a r e).board.log (Some p) ≡ leaf_wanted c log (Some p)
    wanted_else e can =
        let d : State = after s a r e in
        let same = (event_leads_on e s k a r there can).settings in
        same_bool (leaf_wanted d.board.settings d.board.log (Some p)) (leaf_wanted c log (Some p))
        (λ h. let w = wanted_in d.board.settings d.board.log p h in
        wanted_out c log p record { leaf = (k.each b t at).holds.leaf p claim; above = subst (λ (x : Configuration). length p < x.levels) same w.above; many = (let m = w.many in omega (arith, m, as_many e can, ap (λ (x : Configuration). x.cell) same)) })
        (λ h. wanted_out d.board.settings d.board.log p (wanted_stays s k a r there e can b t p at apart claim (wanted_in c log p h)))

  -- what is known of a claimed leaf stays, whatever another does
  pub wanted_same : (e : Event) → Can s a r e → (b : ℕ) (t : Actor) → slice_get s.actors b ≡ Some t → b ≢ a → leaf_wanted (after s a r e).board.settings (after s a r e).board.log t.claim ≡ leaf_wanted c log t.claim
  wanted_same e can b t at apart = go t.claim refl
    where
      go : (o : Option (List ℕ)) → t.claim ≡ o → leaf_wanted (after s a r e).board.settings (after s a r e).board.log o ≡ leaf_wanted c log o
      go None h = refl
      go (Some p) h = wanted_else b t at apart p h e can
