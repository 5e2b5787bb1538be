-- What a split has gathered once it has gathered its whole leaf: its live objects, each as its copy will show it.
use Rattle.std.proofs.Common.{◌≡◌, ℕ, ◌==◌, List, [], ◌∷◌, length, map, take, Bool, true, false, cond, ◌&&◌, ◌||◌, IsTrue, nat_lt, refl, sym, ap, ◌∙◌, subst, arith, Option, Some, None, is_some, eq-eqb, eqb-true}
use Rattle.std.specs.Prelude.{slice_get}
use Rattle.std.specs.List.{AllByRecursion, filter, list_any}
use Rattle.std.proofs.Math.Bool.{and_comm}
use Rattle.std.proofs.lemmas.Bool.{false≢true, leb-true, lt-ltb}
use Rattle.std.proofs.lemmas.List.{length-map, take_all}
use Rattle.std.proofs.lemmas.Option.{same_Some}
use Rattle.mi_base.specs.declared.records.LogEvent.{LogEvent}
use Rattle.mi_base.specs.declared.records.LogEvent.TheVariants.{Split}
use Rattle.mi_base.specs.Configuration.{Configuration}
use Rattle.mi_base.specs.History.{Object, live, updates_of}
use Rattle.mi_base.specs.Permutations.{begins, key_distance, permutation_of}
use Rattle.mi_base.specs.Sorting.{SameElements}
use Rattle.mi_base.proofs.SortingLemmas.{filter_keeps, same_filter, same_length, same_map, same_trans}
use Rattle.mi_key.specs.declared.entries.Entry.{Entry}
use Rattle.mi_tree.specs.declared.outcomes.Leaf.{Leaf}
use Rattle.mi_tree.specs.Births.{Born, born}
use Rattle.mi_tree.specs.Cells.{Grid, AllMaySplit, leaves, same_cell}
use Rattle.mi_tree.specs.Counting.{belongs, leaf_with, placed_object, population}
use Rattle.mi_tree.specs.Legal.{MayFollow, cells_of}
use Rattle.mi_tree.proofs.CatLemmas.{held_live}
use Rattle.mi_tree.proofs.LeafLemmas.{begins_is, same_cell_is}
use Rattle.mi_tree.proofs.LegalLemmas.{all_may}
use Rattle.mi_tree.proofs.ListLemmas.{all_any, all_weaker, filter_map, filter_same, filter_twice, map_same, map_twice}
use Rattle.mi_board.specs.Boards.{MayPublish, leaf_claimed}
use Rattle.mi_board.specs.Boards as board
use Rattle.mi_entries.specs.Actors.{Actor, SplitWork}
use Rattle.mi_entries.specs.Entries.{HasPlace, Shows, born_in, counts, grid, is_under, key_in, under}
use Rattle.mi_entries.specs.Splits.{IsWork, copy_in_child}
use Rattle.mi_entries.proofs.ContentLemmas.{counts_down}
use Rattle.mi_entries.proofs.DepthLemmas.{IsKeyed, leaf_deep}
use Rattle.mi_entries.proofs.FilterLemmas.{all_where, same_is}
use Rattle.mi_entries.proofs.KeyedLemmas.{is_keyed}
use Rattle.mi_entries.proofs.RecordLemmas.{born_live, object}
use Rattle.mi_entries.proofs.RetiredLemmas.{below_end}
use Rattle.mi_forest.specs.Forests.{all_entries}
use Rattle.mi_core.specs.Events.{Can, IsWhole, copied_of}
use Rattle.mi_core.specs.Events.Event.{give_up, publish}
use Rattle.mi_core.specs.Kept.{Kept}
use Rattle.mi_core.specs.Pages.{forest_of}
use Rattle.mi_core.specs.State.{State}
use Rattle.mi_core.proofs.KeptLemmas.{floor_position, on_board}
use Rattle.mi_world.specs.Splits.{IsGathered, copied_in}
use Rattle.mi_world.specs.View.{prefix_or}
use Rattle.mi_solo.specs.Placing.{placed_entry}
use Rattle.mi_solo.specs.Viewing.{copy_keys, is_whole, leaf_wanted, shown_to}

-- the entries that count in a leaf are of its live objects, each once
under_live : (g : Grid) (log : List LogEvent) (F : List Entry) (p : List ℕ) → Shows g log F
    → SameElements (map (λ e. object (born_in e)) (filter (counts g log) (under g p F))) (filter (belongs g p) (live (updates_of log)))
under_live g log F p shows =
    let U : Born → Bool = λ o. begins p (g.perm o.vector) in
    let C : List Entry = filter (counts g log) F in
    let turned : filter (counts g log) (under g p F) ≡ filter (is_under g p) C =
    filter_twice (counts g log) (is_under g p) F ∙ filter_same (λ e. is_under g p e && counts g log e) (λ e. counts g log e && is_under g p e) F (all_any _ (λ e. and_comm (is_under g p e) (counts g log e)) F)
    ∙ sym (filter_twice (is_under g p) (counts g log) F) in
    let named : map (λ e. object (born_in e)) (filter (counts g log) (under g p F)) ≡ map object (filter U (map born_in C)) =
    ap (map (λ e. object (born_in e))) turned ∙ sym (map_twice object born_in (filter (is_under g p) C)) ∙ ap (map object) (filter_map born_in U C) in
    let lives : map object (filter U (born (updates_of log))) ≡ filter (belongs g p) (live (updates_of log)) =
    filter_map object (belongs g p) (born (updates_of log)) ∙ ap (filter (belongs g p)) (born_live (updates_of log)) in
    same_trans (same_is _ _ named) (same_trans (same_map object _ _ (same_filter U _ _ shows.same)) (same_is _ _ lives))

-- a leaf of this prefix passes what its count passes
any_leaf : (f : List ℕ → Leaf) → ((p : List ℕ) → (f p).prefix ≡ p) → (t : Leaf → Bool) (p : List ℕ) → t (f p) ≡ true → (ls : List (List ℕ)) → list_any (same_cell p) ls ≡ true → list_any (λ (l : Leaf). same_cell p l.prefix && t l) (map f ls) ≡ true
any_leaf f named t p h [] there = absurd (false≢true there)
any_leaf f named t p h (q ∷ ls) there =
    let rest : Bool = list_any (λ (l : Leaf). same_cell p l.prefix && t l) (map f ls) in
    let P : Bool → Type 0 = λ b. same_cell p q ≡ b → (b || list_any (same_cell p) ls) ≡ true → ((b && t (f q)) || rest) ≡ true in
    ap (λ z. (same_cell p z && t (f q)) || rest) (named q)
    ∙ (elim (same_cell p q) as P [
      | true ↦ λ e _. ap (λ z. t (f z) || rest) (sym (same_cell_is p q e)) ∙ ap (λ b. b || rest) h
      | false ↦ λ e u. any_leaf f named t p h ls u
    ]) refl there

-- a split that has gathered its whole leaf has as many entries as the leaf has live objects
module _ (s : State) (k : Kept s) (a : ℕ) (r : Actor) (there : slice_get s.actors a ≡ Some r) (w : SplitWork) (may : IsWhole s r w) where
  abbrev c : Configuration
  c = s.board.settings

  abbrev g : Grid
  g = grid s.board.settings

  abbrev log : List LogEvent
  log = s.board.log

  abbrev F : List Entry
  F = all_entries (forest_of s.board s.pages s.actors k.sound.chain)

  works : IsWork g log F w
  works = k.sound.entries.works a r w there may.split

  past : (e : Entry) → HasPlace c log s.actors s.board.retired e → is_under g w.leaf e ≡ true → (counts g log e && nat_lt e.key w.mark) ≡ counts g log e
  past e h t =
      let P : Bool → Type 0 = λ b. counts g log e ≡ b → (b && nat_lt e.key w.mark) ≡ b in
      (elim (counts g log e) as P [
        | false ↦ λ _. refl
        | true ↦ λ n.
            let ok : IsKeyed g = is_keyed c k.sound.limits in
            let may_split : AllMaySplit g log = all_may c log k.sound.legal in
            let d : h.is.down ≡ length w.leaf = counts_down c ok log may_split e h.is n ∙ leaf_deep g ok log may_split w.leaf e.vector works.leaf t in
            let cell : take h.is.down (g.perm e.vector) ≡ w.leaf = ap (λ m. take m (g.perm e.vector)) d ∙ sym (begins_is w.leaf (g.perm e.vector) t) in
            let key : e.key ≡ key_in g w.leaf (born_in e) = h.is.keyed ∙ ap (λ (p : List ℕ). key_in g p (born_in e)) cell in
            lt-ltb e.key w.mark (let m = may.whole in omega (arith, key, below_end g w.leaf (born_in e) h.is.fits))
      ]) refl

  counted : w.gathered ≡ filter (counts g log) (under g w.leaf F)
  counted = works.gathered
      ∙ filter_same (λ e. counts g log e && nat_lt e.key w.mark) (counts g log) (under g w.leaf F) (all_where _ (is_under g w.leaf) F (all_weaker _ _ (λ e h t. past e h t) F k.sound.entries.places))

  gathered_live : SameElements (map (λ e. object (born_in e)) w.gathered) (filter (belongs g w.leaf) (live (updates_of log)))
  gathered_live = same_trans (same_is _ _ (ap (map (λ e. object (born_in e))) counted))
      (under_live g log F w.leaf (subst (λ (l : List LogEvent). Shows g l F) (take_all (length log) log (omega arith)) (k.sound.entries.shows (length log) (floor_position s k.sound).within (omega arith))))

  gathered_all : length w.gathered ≡ length (filter (belongs g w.leaf) (live (updates_of log)))
  gathered_all = sym (length-map w.gathered (λ e. object (born_in e))) ∙ same_length _ _ gathered_live

  -- they are placed as their entries tell
  placed_all : SameElements (map placed_entry w.gathered) (map (placed_object g) (filter (belongs g w.leaf) (live (updates_of log))))
  placed_all =
      let tells : AllByRecursion (λ e. placed_entry e ≡ placed_object g (object (born_in e))) w.gathered =
      subst (AllByRecursion (λ e. placed_entry e ≡ placed_object g (object (born_in e)))) (sym counted)
      (filter_keeps _ (counts g log) (under g w.leaf F) (filter_keeps _ (is_under g w.leaf) F
      (all_weaker _ _ (λ e h. ap (λ (ds : List ℕ). record { perm = permutation_of ds; distance = key_distance ds }) h.is.dists) F k.sound.entries.places))) in
      same_trans (same_is _ _ (map_same placed_entry (λ e. placed_object g (object (born_in e))) w.gathered tells ∙ sym (map_twice (placed_object g) (λ e. object (born_in e)) w.gathered)))
      (same_map (placed_object g) _ _ gathered_live)

  -- all its live objects have their copies
  pub all_copied : IsTrue (list_any (λ (l : Leaf). same_cell (prefix_or r.claim) l.prefix && (l.count == length (copy_keys c r.split))) (cells_of c log))
  all_copied =
      let n : ℕ = length (copy_keys c r.split) in
      let size : n ≡ length w.gathered = ap (λ o. length (copy_keys c o)) may.split ∙ length-map w.gathered (λ e. (copy_in_child g w.leaf e).key) in
      let claim : r.claim ≡ Some w.leaf = (k.sound.each a r there).holds.split w may.split in
      let f : List ℕ → Leaf = leaf_with g (population g log) in
      let count : (f w.leaf).count ≡ n = ap (λ (os : List Object). length (filter (belongs g w.leaf) os)) (held_live g log) ∙ sym (size ∙ gathered_all) in
      subst (λ p. IsTrue (list_any (λ (l : Leaf). same_cell p l.prefix && (l.count == n)) (cells_of c log))) (sym (ap prefix_or claim))
      (any_leaf f (λ p. refl) (λ l. l.count == n) w.leaf (eq-eqb (f w.leaf).count n count) (leaves g log) works.leaf)

-- what an actor splits, where its view tells that it does
split_of : (o : Option SplitWork) → is_some o ≡ true → (w : SplitWork) × (o ≡ Some w)
split_of None h = absurd (false≢true h)
split_of (Some w) h = (w, refl)

module _ (s : State) (k : Kept s) (a : ℕ) (r : Actor) (there : slice_get s.actors a ≡ Some r) where
  -- a split that the trait lets be published may be
  pub may_publish : IsGathered (shown_to s a r) → (shown_to s a r).copied ≡ length (shown_to s a r).copies → Can s a r publish
  may_publish h all =
      let w = split_of r.split h.splitting in
      let c : Configuration = s.board.settings in
      let whole = leb-true _ _ (ap (is_whole c) (sym w.1) ∙ h.whole) in
      let copied : w.0.copied ≡ length w.0.gathered =
      ap copied_of (sym w.1) ∙ all ∙ ap (λ o. length (copy_keys c o)) w.1 ∙ length-map w.0.gathered (λ e. (copy_in_child (grid c) w.0.leaf e).key) in
      let claim : r.claim ≡ Some w.0.leaf = (k.sound.each a r there).holds.split w.0 w.1 in
      (w.0, record { split = w.1; whole = whole }, copied, ap (leaf_wanted c s.board.log) (sym claim) ∙ h.wanted)

  -- and the board takes the objects of its entries
  pub may_publish_all : Can s a r publish → (w : SplitWork) → r.split ≡ Some w → MayPublish s.board a (map placed_entry w.gathered) (leaf_claimed s.board a)
  may_publish_all can w is =
      let same : can.0 ≡ w = same_Some can.0 w (sym can.1.split ∙ is) in
      let whole : IsWhole s r w = subst (IsWhole s r) same can.1 in
      let holds = (k.sound.each a r there).holds in
      let claim = holds.claim ∙ holds.split w is in
      let prefix : leaf_claimed s.board a ≡ w.leaf = ap board.prefix_or claim in
      subst (MayPublish s.board a (map placed_entry w.gathered)) (sym prefix) (record {
        known = on_board s k.sound a r there;
        claims = claim;
        wanted = subst (λ (x : SplitWork). MayFollow s.board.settings s.board.log (Split x.leaf)) same can.3;
        objects_are = placed_all s k a r there w whole;
      })

  -- a split that the trait lets be given up may be
  pub may_give_up : (pages : Bool) → is_some (shown_to s a r).leaf ≡ true → copied_in (shown_to s a r) ≡ 0 → (IsTrue pages → IsTrue (shown_to s a r).told) → Can s a r (give_up pages)
  may_give_up pages claimed none told =
      let p = claim_of r.claim claimed in
      (p.0, p.1, (λ w is. ap (λ o. cond (is_some o) (copied_of o) 0) (sym is) ∙ none), λ e. eqb-true s.board.allotted s.board.settings.pages (told e))
    where
      claim_of : (o : Option (List ℕ)) → is_some o ≡ true → (p : List ℕ) × (o ≡ Some p)
      claim_of None h = absurd (false≢true h)
      claim_of (Some p) h = (p, refl)
