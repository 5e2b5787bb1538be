-- What others' events make of an actor's view.
use Rattle.std.proofs.Common.{◌≡◌, ◌≢◌, ℕ, ◌<◌, ◌==◌, List, [], ◌∷◌, ◌++◌, length, false, refl, sym, ap, ◌∙◌, arith, Option, Some, None, inl, inr, set, get_or-set_same, get_or-set_other}
use Rattle.std.specs.Prelude.{slice_get}
use Rattle.std.specs.List.{filter, find}
use Rattle.std.proofs.lemmas.Bool.{cases_eq}
use Rattle.std.proofs.lemmas.Option.{same_Some}
use Rattle.mi_base.specs.declared.records.LogEvent.{LogEvent}
use Rattle.mi_base.specs.declared.records.LogEvent.TheVariants.{Update as Made, Split}
use Rattle.mi_base.specs.declared.records.Update.TheVariants as update
use Rattle.mi_base.specs.Configuration.{Configuration}
use Rattle.mi_base.specs.History.{live}
use Rattle.mi_base.specs.Permutations.{begins}
use Rattle.mi_tree.specs.Cells.{same_cell}
use Rattle.mi_tree.specs.Counting.{belongs}
use Rattle.mi_tree.proofs.LeafLemmas.{leaf_apart, same_cell_is}
use Rattle.mi_tree.proofs.LegalLemmas.{all_may, live_updated, updates_of_split}
use Rattle.mi_entries.specs.Actors.{Actor}
use Rattle.mi_entries.specs.Entries.{grid}
use Rattle.mi_entries.specs.Records.{Rows, Shard, home, no_shard, shard_at}
use Rattle.mi_entries.proofs.ContentLemmas.{leaf_more}
use Rattle.mi_entries.proofs.FilterLemmas.{not_true}
use Rattle.mi_entries.proofs.KeyedLemmas.{is_keyed}
use Rattle.mi_core.specs.Events.{Can, Event, after, leaf_or}
use Rattle.mi_core.specs.Events.Event.{see, look, meet, refuse, refuse_at, visit, start, trim, miss_shard, claim_shard, release_shard, reserve, pin, unpin, claim_leaf, release_leaf, insert, delete, allot, lack, grow, split_page, post, gather, copy_in, uncopy, publish, give_up, take_sweep, take_split, no_work, sweep, fork, absorb, depart}
use Rattle.mi_core.specs.Kept.{Kept}
use Rattle.mi_core.specs.Later.{Spares}
use Rattle.mi_core.specs.State.{State}
use Rattle.mi_core.proofs.FrameEvents.{event_spares}
use Rattle.mi_core.proofs.KeptEvents.{each_keeps}
use Rattle.mi_core.proofs.PageLemmas.{fun_same}
use Rattle.mi_core.proofs.WantedLemmas.{count_deleted, deleted_apart}
use Rattle.mi_world.specs.View.{Others}
use Rattle.mi_solo.specs.Onward.{IsOthers}
use Rattle.mi_solo.specs.Viewing.{copy_keys, is_whole, leaf_wanted, pinned_log, record_shown, records_in, shown_to}
use Rattle.mi_solo.proofs.LaterLemmas.{later_from, onward}
use Rattle.mi_solo.proofs.ViewLemmas.{pin_more, wanted_same}

-- another shard is another's
pub records_else : (shards : List Shard) (m : ℕ) (y : Shard) (o : Option ℕ) → ((j : ℕ) → o ≡ Some j → j ≢ m) → records_in (set shards m y) o ≡ records_in shards o
records_else shards m y None h = refl
records_else shards m y (Some j) h = fun_same _ _ (λ i. ap (λ (z : Shard). record_shown (find (λ x. x.id == i) z.rows.records)) (get_or-set_other shards m j y no_shard (h j refl)))

-- a shard with the same records
pub records_kept : (shards : List Shard) (m : ℕ) (y : Shard) → m < length shards → y.rows.records ≡ (shard_at shards m).rows.records → (o : Option ℕ) → records_in (set shards m y) o ≡ records_in shards o
records_kept shards m y lt same None = refl
records_kept shards m y lt same (Some j) = elim (cases_eq j m) [
  | inl e ↦ fun_same _ _ (λ i. ap (λ z. record_shown (find (λ x. x.id == i) (shard_at (set shards m y) z).rows.records)) e
      ∙ ap (λ (z : Shard). record_shown (find (λ x. x.id == i) z.rows.records)) (get_or-set_same shards m y no_shard lt)
      ∙ ap (λ xs. record_shown (find (λ x. x.id == i) xs)) same ∙ ap (λ z. record_shown (find (λ x. x.id == i) (shard_at shards z).rows.records)) (sym e))
  | inr d ↦ records_else shards m y (Some j) (λ i e. (let same = same_Some j i e in λ z. d (same ∙ z)))
]

module _ (s : State) (k : Kept s) (a : ℕ) (r : Actor) (there : slice_get s.actors a ≡ Some r) (going : r.ended ≡ false) (b : ℕ) (t : Actor) (at : slice_get s.actors b ≡ Some t) (apart : b ≢ a) where
  abbrev c : Configuration
  c = s.board.settings

  abbrev log : List LogEvent
  log = s.board.log

  others_by : (e : Event) (can : Can s a r e)
      → records_in (after s a r e).shards t.shard ≡ records_in s.shards t.shard
      → leaf_wanted (after s a r e).board.settings (after s a r e).board.log t.claim ≡ leaf_wanted c log t.claim
      → pinned_log (after s a r e).board.log t.pin ≡ pinned_log log t.pin
      → Others (shown_to s b t) (shown_to (after s a r e) b t)
  others_by e can records wanted pins =
      let o = onward s k a r there e can in
      record {
        later = later_from s (after s a r e) (each_keeps e s k a r there going can) o b t t (λ l. l);
        same = record {
          work = record {
            update = record { own = refl; shard = refl; records = records; reserved = refl };
            leaf = record { leaf = refl; wanted = wanted };
            apart = record {
              sweep = record { sweep = refl; swept = refl };
              split = record { splitting = refl; mark = refl; whole = ap (λ d. is_whole d t.split) o.later.settings; copies = ap (λ d. copy_keys d t.split) o.later.settings; copied = refl };
              flags = record { undone = refl; early = refl };
              actors = record { absorbed = refl; forked = refl };
              pin = pins;
            };
          };
          fresh = refl;
          owes = refl;
        };
        floor = refl;
      }

  -- a shard that the other holds
  theirs : (m : ℕ) (y : Shard) → r.shard ≡ Some m → records_in (set s.shards m y) t.shard ≡ records_in s.shards t.shard
  theirs m y its = records_else s.shards m y t.shard (λ j e same. apart (same_Some b a (sym ((k.sound.each b t at).holds.shard j e).1 ∙ ap (λ z. (shard_at s.shards z).holder) same ∙ ((k.sound.each a r there).holds.shard m its).1)))

  pins_more : (x : LogEvent) → pinned_log (log ++ x ∷ []) t.pin ≡ pinned_log log t.pin
  pins_more x = pin_more log (x ∷ []) t.pin (λ p e. ((k.sound.each b t at).saw.pin p e).0)

  -- the leaves of two claims are two, and what lies in one doesn't lie in the other
  two : (p q : List ℕ) → t.claim ≡ Some p → r.claim ≡ Some q → same_cell p q ≡ false
  two p q mine its = not_true (same_cell p q) (λ e. apart (k.sound.claims b a t r p at there mine (its ∙ ap Some (sym (same_cell_is p q e)))))

  wanted_by : (x : LogEvent) → ((p : List ℕ) → t.claim ≡ Some p → leaf_wanted c (log ++ x ∷ []) (Some p) ≡ leaf_wanted c log (Some p)) → leaf_wanted c (log ++ x ∷ []) t.claim ≡ leaf_wanted c log t.claim
  wanted_by x h = go t.claim h
    where
      go : (o : Option (List ℕ)) → ((p : List ℕ) → o ≡ Some p → leaf_wanted c (log ++ x ∷ []) (Some p) ≡ leaf_wanted c log (Some p)) → leaf_wanted c (log ++ x ∷ []) o ≡ leaf_wanted c log o
      go None h = refl
      go (Some p) h = h p refl

  pub others : (e : Event) (can : Can s a r e) → Spares e b → Others (shown_to s b t) (shown_to (after s a r e) b t)
  others (insert op id page node kept e) can out = others_by (insert op id page node kept e) can (theirs (home id) _ can.may.shard)
      (wanted_by (Made a op (update.Insert id e.vector)) (λ p mine.
      let leaf = (k.sound.each b t at).holds.leaf p mine in
      let beside : begins p ((grid c).perm e.vector) ≡ false = leaf_apart (grid c) (is_keyed c k.sound.limits).grid log (all_may c log k.sound.legal) p can.leaf e.vector leaf ((k.sound.each a r there).holds.leaf can.leaf can.may.claim)
      (two p can.leaf mine can.may.claim) can.may.under in
      wanted_same c log (log ++ Made a op (update.Insert id e.vector) ∷ []) p leaf (leaf_more (grid c) log a op (update.Insert id e.vector) p ∙ leaf)
      (ap (λ os. length (filter (belongs (grid c) p) os)) (live_updated log a op (update.Insert id e.vector)) ∙ (rw beside refl))))
      (pins_more _)
  others (delete op id page node kept key) can out = others_by (delete op id page node kept key) can (theirs (home id) _ can.may.shard)
      (wanted_by (Made a op (update.Delete id)) (λ p mine.
      let leaf = (k.sound.each b t at).holds.leaf p mine in
      let x = deleted_apart s k.sound a r there id page node kept key can b t p at apart mine in
      wanted_same c log (log ++ Made a op (update.Delete id) ∷ []) p leaf (leaf_more (grid c) log a op (update.Delete id) p ∙ leaf) (count_deleted c log a op id p x.0 x.1)))
      (pins_more _)
  others publish can out = others_by publish can refl
      (wanted_by (Split (leaf_or r.claim)) (λ p mine. wanted_same c log (log ++ Split (leaf_or r.claim) ∷ []) p ((k.sound.each b t at).holds.leaf p mine)
      (((each_keeps publish s k a r there going can).sound.each b t (event_spares publish s a r can b t at apart out)).holds.leaf p mine)
      (ap (λ us. length (filter (belongs (grid c) p) (live us))) (updates_of_split log (leaf_or r.claim)))))
      (pins_more _)
  others (claim_shard m kept) can out = others_by (claim_shard m kept) can (records_kept s.shards m _ (let l = can.0 in omega (arith, k.sound.sixteen)) (ap (λ (z : Rows). z.records) (sym can.2)) t.shard) refl refl
  others (release_shard m kept) can out = others_by (release_shard m kept) can (theirs m _ can.0) refl refl
  others (reserve m kept room) can out = others_by (reserve m kept room) can (theirs m _ can.0) refl refl
  others see can out = others_by see can refl refl refl
  others look can out = others_by look can refl refl refl
  others (meet page) can out = others_by (meet page) can refl refl refl
  others (refuse why) can out = others_by (refuse why) can refl refl refl
  others (refuse_at page why) can out = others_by (refuse_at page why) can refl refl refl
  others (visit page) can out = others_by (visit page) can refl refl refl
  others (start page) can out = others_by (start page) can refl refl refl
  others (trim page node) can out = others_by (trim page node) can refl refl refl
  others (miss_shard m) can out = others_by (miss_shard m) can refl refl refl
  others pin can out = others_by pin can refl refl refl
  others unpin can out = others_by unpin can refl refl refl
  others (claim_leaf p) can out = others_by (claim_leaf p) can refl refl refl
  others release_leaf can out = others_by release_leaf can refl refl refl
  others allot can out = others_by allot can refl refl refl
  others lack can out = others_by lack can refl refl refl
  others (grow level key child) can out = others_by (grow level key child) can refl refl refl
  others (split_page page node) can out = others_by (split_page page node) can refl refl refl
  others (post page node key child) can out = others_by (post page node key child) can refl refl refl
  others (gather page node) can out = others_by (gather page node) can refl refl refl
  others (copy_in page node e) can out = others_by (copy_in page node e) can refl refl refl
  others (uncopy page node e told) can out = others_by (uncopy page node e told) can refl refl refl
  others (give_up pages) can out = others_by (give_up pages) can refl refl refl
  others (take_sweep p) can out = others_by (take_sweep p) can refl refl refl
  others (take_split p) can out = others_by (take_split p) can refl refl refl
  others no_work can out = others_by no_work can refl refl refl
  others (sweep page node) can out = others_by (sweep page node) can refl refl refl
  others fork can out = others_by fork can refl refl refl
  others (absorb o u) can out = others_by (absorb o u) can refl refl refl
  others depart can out = others_by depart can refl refl refl

pub event_is_others : (e : Event) → IsOthers e
event_is_others e s k a r there going can b t at apart out = others s k a r there going b t at apart e can out
