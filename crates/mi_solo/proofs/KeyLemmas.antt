-- The parts of the keys that calls make fit into keys.
use Rattle.std.proofs.Common.{◌≡◌, ◌==◌, ℕ, ℤ, ◌+◌, ◌-◌, ◌^◌, ◌<◌, ◌≤◌, List, [], length, map, take, true, ◌&&◌, nat_lt, sym, ap, ◌∙◌, subst, arith, Some}
use Rattle.std.specs.Prelude.{slice_get}
use Rattle.std.specs.List.{AllByRecursion, filter}
use Rattle.std.proofs.lemmas.Bool.{and_parts}
use Rattle.std.proofs.lemmas.List.{length-map, take_all}
use Rattle.std.proofs.lemmas.Option.{slice_get_within}
use Rattle.mi_base.specs.declared.records.LogEvent.{LogEvent}
use Rattle.mi_base.specs.declared.records.Update.TheVariants.{Insert}
use Rattle.mi_base.specs.Configuration.{Configuration}
use Rattle.mi_base.specs.History.{end_of, updates_of}
use Rattle.mi_base.specs.Permutations.{begins, key_distance, permutation_of}
use Rattle.mi_base.specs.Prefixes.{all_below}
use Rattle.mi_base.specs.Sorting.{SameElements}
use Rattle.mi_base.proofs.SortingLemmas.{filter_keeps, same_length}
use Rattle.mi_board.proofs.FloorLemmas.{end_events, least_low}
use Rattle.mi_key.specs.declared.entries.Entry.{Entry}
use Rattle.mi_key.specs.declared.keys.KeyParts.{KeyParts}
use Rattle.mi_key.specs.Clusters.{cluster_of}
use Rattle.mi_key.specs.Keys.{key_of, parts_of}
use Rattle.mi_tree.specs.Births.{Born, born}
use Rattle.mi_tree.specs.Cells.{Grid}
use Rattle.mi_tree.proofs.LegalLemmas.{all_may}
use Rattle.mi_tree.proofs.ListLemmas.{all_weaker, filter_twice}
use Rattle.mi_entries.specs.Actors.{Actor, SplitWork}
use Rattle.mi_entries.specs.Entries.{HasPlace, IsEntry, born_in, counts, grid, id_of, is_under, under}
use Rattle.mi_entries.specs.Splits.{IsWork}
use Rattle.mi_entries.proofs.FilterLemmas.{all_both, all_passes}
use Rattle.mi_entries.proofs.KeyedLemmas.{distance_small, parts}
use Rattle.mi_entries.proofs.MemberLemmas.{all_one, find_in}
use Rattle.mi_entries.proofs.RetiredLemmas.{leaf_fits}
use Rattle.mi_forest.specs.Forests.{all_entries}
use Rattle.mi_core.specs.Kept.{Kept}
use Rattle.mi_core.specs.Pages.{forest_of}
use Rattle.mi_core.specs.State.{State}
use Rattle.mi_core.proofs.RecordedLemmas.{Inserted, inserted_from}
use Rattle.mi_world.specs.Pages.{MayDelete, MayInsert, next_number}
use Rattle.mi_world.specs.View.{Agrees}
use Rattle.mi_solo.specs.Seeking.{IsCopied}
use Rattle.mi_solo.specs.Viewing.{shown_to}
use Rattle.mi_solo.proofs.BoardLemmas.{sees_board}
use Rattle.mi_solo.proofs.MarkLemmas.{born_few, fewer}
use Rattle.mi_solo.proofs.ReaderLemmas.{inserted_fits}

module _ (s : State) (k : Kept s) (a : ℕ) (r : Actor) (there : slice_get s.actors a ≡ Some r) where
  abbrev c : Configuration
  c = s.board.settings

  abbrev g : Grid
  g = grid s.board.settings

  abbrev log : List LogEvent
  log = s.board.log

  -- a leaf that is claimed is a cell of the pivots
  pub claim_fits : (p : List ℕ) → r.claim ≡ Some p → (length p ≤ s.board.settings.levels) × (all_below (length s.board.settings.pivots) p ≡ true)
  claim_fits p e = leaf_fits c k.sound.limits p log (all_may c log k.sound.legal) ((k.sound.each a r there).holds.leaf p e)

  few : length (updates_of s.board.log) ≤ 200000
  few = (let n = k.sound.legal.few in let m = k.sound.limits.updates.1 in omega arith)

  pub insert_fits : (id : ℕ) (vector : List ℤ) (dists : List ℕ) → MayInsert (shown_to s a r) id vector dists → (key_distance dists < 2 ^ 27) × (next_number (shown_to s a r) < 2 ^ 30)
  insert_fits id vector dists may =
      (subst (λ ds. key_distance ds < 2 ^ 27) (sym may.measured) (distance_small c k.sound.limits k.sound.metric vector may.fits), omega (arith, few))

  pub delete_fits : (id : ℕ) → (may : MayDelete (shown_to s a r) id) → (key_distance may.kept.dists.items < 2 ^ 27) × (may.kept.birth < 2 ^ 30)
  delete_fits id may =
      let x : Agrees c log id (Some may.kept) = subst (Agrees c log id) may.is ((sees_board s k a r there).guards id may.shard) in
      let o : Born = x.1.0 in
      let born_at : slice_get (updates_of log) (o.birth - 1) ≡ Some (Insert o.id o.vector) =
      all_one (Inserted (updates_of log)) (born (updates_of log)) o (inserted_from [] [] (updates_of log) tt) (find_in (λ y. y.id == id) (born (updates_of log)) o x.1.1).1 in (
        subst (λ ds. key_distance ds < 2 ^ 27) (sym x.1.3) (distance_small c k.sound.limits k.sound.metric o.vector (inserted_fits c [] log k.sound.legal.each (o.birth - 1) o.id o.vector born_at)),
        omega (arith, few, x.1.2, slice_get_within (updates_of log) (o.birth - 1) (Insert o.id o.vector) born_at),
      )

  -- what a split gathers
  module _ (w : SplitWork) (split : r.split ≡ Some w) where
    abbrev F : List Entry
    F = all_entries (forest_of s.board s.pages s.actors k.sound.chain)

    work : IsWork g log F w
    work = k.sound.entries.works a r w there split

    pub split_above : length w.leaf < s.board.settings.levels
    split_above = work.above

    gathered : AllByRecursion (λ e. IsEntry c log e × (is_under g w.leaf e ≡ true)) w.gathered
    gathered = subst (AllByRecursion (λ e. IsEntry c log e × (is_under g w.leaf e ≡ true))) (sym work.gathered)
        (filter_keeps _ (λ e. counts g log e && nat_lt e.key w.mark) (under g w.leaf F)
        (all_both (IsEntry c log) (λ e. is_under g w.leaf e ≡ true) (under g w.leaf F)
        (filter_keeps (IsEntry c log) (is_under g w.leaf) F (all_weaker (HasPlace c log s.actors s.board.retired) (IsEntry c log) (λ e h. h.is) F k.sound.entries.places))
        (all_passes (is_under g w.leaf) F)))

    pub gathered_few : length w.gathered ≤ 200000
    gathered_few =
        let shows = k.sound.entries.shows (length log) (omega (arith, least_low (end_of log) s.board.actors, end_events log)) (omega arith) in
        omega (
          arith,
          ap length work.gathered,
          ap length (filter_twice (λ e. counts g log e && nat_lt e.key w.mark) (is_under g w.leaf) F),
          fewer (λ e. is_under g w.leaf e && (counts g log e && nat_lt e.key w.mark)) (counts g log)
              (λ e h. (and_parts (counts g log e) (nat_lt e.key w.mark) (and_parts (is_under g w.leaf e) (counts g log e && nat_lt e.key w.mark) h).1).0) F,
          length-map (filter (counts g log) F) born_in,
          same_length _ _ (subst (λ l. SameElements (map born_in (filter (counts g l) F)) (born (updates_of l))) (take_all (length log) log (omega arith)) shows.same),
          born_few 0 [] (updates_of log),
          few,
        )

    one : (e : Entry) → IsEntry c log e × (is_under g w.leaf e ≡ true) → IsCopied s.board.settings w.leaf e
    one e h =
        let i = h.0 in
        let its : parts_of e.key ≡ record { cluster = cluster_of g.pivots g.levels (take i.down (g.perm e.vector)); distance = g.distance e.vector; id = id_of e; birth = e.birth } =
        ap parts_of i.keyed ∙ parts c k.sound.limits (born_in e) i.fits i.down i.deep in
        record {
          measured = record { fits = inserted_fits c [] log k.sound.legal.each (e.birth - 1) (id_of e) e.vector i.born.1; dists = i.dists };
          under = ap (λ ds. begins w.leaf (permutation_of ds)) i.dists ∙ h.1;
          key = ap (λ ds. key_of (record { cluster = cluster_of (length c.pivots) c.levels (take (length w.leaf + 1) (permutation_of ds)); distance = g.distance e.vector; id = id_of e; birth = e.birth })) (sym i.dists)
              ∙ ap (λ (x : KeyParts). key_of (record { cluster = cluster_of (length c.pivots) c.levels (take (length w.leaf + 1) (permutation_of e.dists.items)); distance = x.distance; id = id_of e; birth = x.birth })) (sym its);
        }

    pub gathered_copied : AllByRecursion (IsCopied s.board.settings w.leaf) w.gathered
    gathered_copied = all_weaker (λ e. IsEntry c log e × (is_under g w.leaf e ≡ true)) (IsCopied s.board.settings w.leaf) one w.gathered gathered
