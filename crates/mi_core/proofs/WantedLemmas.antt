-- What an actor knows of its claimed leaf: once it is to be split, it stays so, whatever others do.
use Rattle.std.proofs.Common.{not, ◌==◌, ◌≡◌, ◌≢◌, ℕ, ℤ, ◌<◌, List, [], ◌∷◌, ◌++◌, length, map, Bool, true, false, cond, ◌&&◌, ◌||◌, nat_lt, refl, sym, ap, ◌∙◌, subst, arith, Some, inl, inr, ⊎_elim, eq-eqb}
use Rattle.std.specs.Prelude.{slice_get}
use Rattle.std.specs.List.{filter, list_any}
use Rattle.std.proofs.lemmas.Bool.{lt-ltb, or_right, and_parts, eqb-true, false≢true, or_left}
use Rattle.mi_base.specs.declared.records.LogEvent.{LogEvent}
use Rattle.mi_base.specs.declared.records.LogEvent.TheVariants.{Update as Made, Split}
use Rattle.mi_base.specs.declared.records.Update.TheVariants.{Insert, Delete}
use Rattle.mi_base.proofs.SortingLemmas.{same_filter, same_length}
use Rattle.mi_base.specs.Configuration.{Configuration}
use Rattle.mi_base.specs.declared.records.Update.{Update}
use Rattle.mi_base.specs.History.{Object, TheOne, live, updates_of, is_among, is_live}
use Rattle.mi_tree.specs.declared.outcomes.Leaf.{Leaf}
use Rattle.mi_tree.specs.Cells.{Grid, leaves, same_cell, leaf_of}
use Rattle.mi_tree.specs.Counting.{Population, belongs, population, leaf_with, is_wanted}
use Rattle.mi_tree.specs.Legal.{MayFollow}
use Rattle.mi_tree.proofs.CatLemmas.{held_live}
use Rattle.mi_tree.proofs.LeafLemmas.{same_cell_is, leaf_is}
use Rattle.mi_tree.proofs.LegalLemmas.{live_updated, updates_of_split, wanted, all_may, one_live}
use Rattle.mi_page.specs.Nodes.{Node}
use Rattle.mi_core.specs.Events.{Can, CanDelete, Event, after, leaf_or}
use Rattle.mi_core.specs.Events.Event.{see, look, meet, refuse, refuse_at, visit, start, trim, miss_shard, claim_shard, release_shard, reserve, pin, unpin, claim_leaf, release_leaf, insert, delete, allot, lack, grow, split_page, post, gather, copy_in, uncopy, publish, give_up, take_sweep, take_split, no_work, sweep, fork, absorb, depart}
use Rattle.mi_core.specs.Sound.{Sound}
use Rattle.mi_entries.specs.Entries.{grid}
use Rattle.mi_entries.specs.Records.{Rows}
use Rattle.mi_entries.specs.Actors.{Actor}
use Rattle.mi_core.specs.State.{State}
use Rattle.mi_entries.proofs.ContentLemmas.{leaf_more, leaf_split}
use Rattle.mi_entries.proofs.FilterLemmas.{not_true}
use Rattle.mi_core.specs.Wanted.{IsWanted}
use Rattle.mi_base.specs.Permutations.{begins}
use Rattle.mi_tree.specs.Births.{Born, born, living}
use Rattle.mi_entries.proofs.KeyedLemmas.{is_keyed}
use Rattle.mi_entries.proofs.MemberLemmas.{IsOne, filter_in, find_in, pass_some, passing, some_pass}
use Rattle.mi_entries.proofs.RecordLemmas.{born_live, object}
use Rattle.mi_core.proofs.RecordedLemmas.{leaf_there, object_of}

-- a wanted leaf is one that may be split, and the other way round
pub wanted_in : (c : Configuration) (log : List LogEvent) (p : List ℕ) → MayFollow c log (Split p) → IsWanted c log p
wanted_in c log p h = let w = wanted c log p h in record { leaf = w.0; above = w.1.0; many = w.1.1 }

wanted_at : (g : Grid) (h : Population) (levels cell : ℕ) (p : List ℕ) (ps : List (List ℕ)) → list_any (same_cell p) ps ≡ true → length p < levels → cell < length (filter (belongs g p) h.live)
    → list_any (λ l. same_cell p l.prefix && is_wanted levels cell l) (map (leaf_with g h) ps) ≡ true
wanted_at g h levels cell p [] there above many = there
wanted_at g h levels cell p (q ∷ ps) there above many =
    let P : Bool → Type 0 = λ b. same_cell p q ≡ b → (b || list_any (same_cell p) ps) ≡ true → ((same_cell p q && is_wanted levels cell (leaf_with g h q)) || list_any (λ (l : Leaf). same_cell p l.prefix && is_wanted levels cell l) (map (leaf_with g h) ps)) ≡ true in
    (elim (same_cell p q) as P [
      | true ↦ λ e _.
          let same : p ≡ q = same_cell_is p q e in
          let one : nat_lt (length q) levels ≡ true = lt-ltb (length q) levels (subst (λ (x : List ℕ). length x < levels) same above) in
          let two : nat_lt cell (length (filter (belongs g q) h.live)) ≡ true = lt-ltb cell (length (filter (belongs g q) h.live)) (subst (λ (x : List ℕ). cell < length (filter (belongs g x) h.live)) same many) in
          rw (e, one, two) refl
      | false ↦ λ e r. or_right (same_cell p q && is_wanted levels cell (leaf_with g h q)) _ (wanted_at g h levels cell p ps r above many)
    ]) refl there

pub wanted_out : (c : Configuration) (log : List LogEvent) (p : List ℕ) → IsWanted c log p → MayFollow c log (Split p)
wanted_out c log p w = wanted_at (grid c) (population (grid c) log) c.levels c.cell p (leaves (grid c) log) w.leaf w.above (subst (λ (xs : List Object). c.cell < length (filter (belongs (grid c) p) xs)) (sym (held_live (grid c) log)) w.many)

-- an insert takes no object out
insert_wanted : (c : Configuration) (log : List LogEvent) (a op id : ℕ) (vector : List ℤ) (p : List ℕ) → IsWanted c log p → IsWanted c (log ++ Made a op (Insert id vector) ∷ []) p
insert_wanted c log a op id vector p w = record {
  leaf = leaf_more (grid c) log a op (Insert id vector) p ∙ w.leaf;
  above = w.above;
  many = subst (λ (xs : List Object). c.cell < length (filter (belongs (grid c) p) xs)) (sym (live_updated log a op (Insert id vector)))
      (let P : Bool → Type 0 = λ b. c.cell < length (cond b (record { id = id; vector = vector } ∷ filter (belongs (grid c) p) (live (updates_of log))) (filter (belongs (grid c) p) (live (updates_of log)))) in
      let m = w.many in elim (belongs (grid c) p (record { id = id; vector = vector })) as P [ true ↦ omega arith | false ↦ m ]);
}

-- the split of another leaf leaves it
split_wanted : (c : Configuration) (log : List LogEvent) (q p : List ℕ) → same_cell q p ≡ false → IsWanted c log p → IsWanted c (log ++ Split q ∷ []) p
split_wanted c log q p ne w = record {
  leaf = leaf_split (grid c) log q p ne w.leaf;
  above = w.above;
  many = subst (λ (xs : List Update). c.cell < length (filter (belongs (grid c) p) (live xs))) (sym (updates_of_split log q)) w.many;
}

-- a delete of an object of another leaf takes none out
pub count_deleted : (c : Configuration) (log : List LogEvent) (a op id : ℕ) (p : List ℕ) (x : TheOne id (live (updates_of log))) → belongs (grid c) p x.object ≡ false
    → length (filter (belongs (grid c) p) (live (updates_of (log ++ Made a op (Delete id) ∷ [])))) ≡ length (filter (belongs (grid c) p) (live (updates_of log)))
count_deleted c log a op id p x out =
    let t : Object → Bool = belongs (grid c) p in let rest : List Object = filter (λ o. not (o.id == id)) (live (updates_of log)) in
    let n = same_length _ _ (same_filter t _ _ x.whole) in
    let one : length (filter t (x.object ∷ rest)) ≡ length (filter t rest) = ap (λ b. length (cond b (x.object ∷ filter t rest) (filter t rest))) out in
    ap (λ (xs : List Object). length (filter t xs)) (live_updated log a op (Delete id)) ∙ sym (n ∙ one)

-- and leaves it too
delete_wanted : (c : Configuration) (log : List LogEvent) (a op id : ℕ) (p : List ℕ) (x : TheOne id (live (updates_of log))) → belongs (grid c) p x.object ≡ false → IsWanted c log p → IsWanted c (log ++ Made a op (Delete id) ∷ []) p
delete_wanted c log a op id p x out w = record {
  leaf = leaf_more (grid c) log a op (Delete id) p ∙ w.leaf;
  above = w.above;
  many = (let m = w.many in omega (arith, m, count_deleted c log a op id p x out));
}

in_map : {X Y : Type 0} (f : X → Y) (xs : List X) (x : X) → IsOne x xs → IsOne (f x) (map f xs)
in_map f [] x h = absurd h
in_map f (y ∷ xs) x h = ⊎_elim (λ e. inl (ap f e)) (λ t. inr (in_map f xs x t)) h

among : (id : ℕ) (xs : List Object) (x : Object) → IsOne x xs → x.id ≡ id → is_among id xs ≡ true
among id [] x h e = absurd h
among id (y ∷ xs) x h e = ⊎_elim
    (λ s. or_left (y.id == id) (is_among id xs) (eq-eqb y.id id (ap (λ (z : Object). z.id) s ∙ e)))
    (λ t. or_right (y.id == id) (is_among id xs) (among id xs x t e)) h

-- a live object of the identifier, without its birth
live_one : (log : List LogEvent) (id : ℕ) (o : Born) → living id log ≡ Some o → IsOne (object o) (live (updates_of log))
live_one log id o alive = subst (IsOne (object o)) (born_live (updates_of log)) (in_map object (born (updates_of log)) o (find_in (λ (x : Born). x.id == id) (born (updates_of log)) o alive).1)

is_live_here : (id : ℕ) (log : List LogEvent) (o : Born) → living id log ≡ Some o → is_live id (updates_of log) ≡ true
is_live_here id log o alive = among id (live (updates_of log)) (object o) (live_one log id o alive) (eqb-true o.id id (find_in (λ (x : Born). x.id == id) (born (updates_of log)) o alive).0)

-- the one live object of an identifier is its live object
same_object : (g : Grid) (log : List LogEvent) (id : ℕ) (p : List ℕ) (o : Born) → living id log ≡ Some o → (x : TheOne id (live (updates_of log))) → belongs g p x.object ≡ true → begins p (g.perm o.vector) ≡ true
same_object g log id p o alive x h =
    let Q : Object → Bool = λ z. (z.id == id) && not (belongs g p z) in
    let P : Bool → Type 0 = λ b. belongs g p (object o) ≡ b → b ≡ true in
    (elim (belongs g p (object o)) as P [
      | true ↦ λ e. refl
      | false ↦ λ e.
          let named : (o.id == id) ≡ true = (find_in (λ (z : Born). z.id == id) (born (updates_of log)) o alive).0 in
          let passes : Q (object o) ≡ true = rw (named, e) refl in
          let some = some_pass Q (live (updates_of log)) (object o) (live_one log id o alive) passes in
          let z = pass_some Q (x.object ∷ filter (λ (y : Object). not (y.id == id)) (live (updates_of log))) (omega (arith, some, x.whole.sums (passing Q))) in
          absurd (⊎_elim
          (λ s. let no : Q x.object ≡ true = ap Q s ∙ z.2 in let two = and_parts (x.object.id == id) (not (belongs g p x.object)) no in false≢true (sym (ap not h) ∙ two.1))
          (λ t. let q = filter_in (λ (y : Object). not (y.id == id)) (live (updates_of log)) z.0 t in let two = and_parts (z.0.id == id) (not (belongs g p z.0)) z.2 in false≢true (sym (ap not two.0) ∙ q.1)) z.1)
    ]) refl

-- the one live object that another actor deletes is of another leaf than that of a claim
pub deleted_apart : (c : State) (k : Sound c) (a : ℕ) (r : Actor) → slice_get c.actors a ≡ Some r → (id page : ℕ) (node : Node) (kept : Rows) (key : ℕ) → CanDelete c r id page node kept key
    → (b : ℕ) (t : Actor) (p : List ℕ) → slice_get c.actors b ≡ Some t → b ≢ a → t.claim ≡ Some p → (x : TheOne id (live (updates_of c.board.log))) × (belongs (grid c.board.settings) p x.object ≡ false)
deleted_apart c k a r there id page node kept key can b t p its ne claim =
    let g : Grid = grid c.board.settings in let log : List LogEvent = c.board.log in let o = object_of c k a r there id page node kept key can in
    let x = one_live c.board.settings log k.legal id (is_live_here id log o.object o.alive) in (
      x,
      not_true (belongs g p x.object) (λ h.
          let under : begins p (g.perm o.object.vector) ≡ true = same_object g log id p o.object o.alive x h in
          let leaf : p ≡ leaf_of g log (g.perm o.object.vector) = leaf_is g (is_keyed c.board.settings k.limits).grid log (all_may c.board.settings log k.legal) p o.object.vector ((k.each b t its).holds.leaf p claim) under in
          ne (k.claims b a t r p its there claim (can.may.claim ∙ ap Some (leaf_there c k a r there id page node kept key can ∙ sym leaf)))),
    )

-- no event of another actor makes it not wanted
pub wanted_stays : (c : State) → Sound c → (a : ℕ) (r : Actor) → slice_get c.actors a ≡ Some r → (e : Event) → Can c a r e → (b : ℕ) (t : Actor) (p : List ℕ) → slice_get c.actors b ≡ Some t → b ≢ a → t.claim ≡ Some p
    → IsWanted c.board.settings c.board.log p → IsWanted (after c a r e).board.settings (after c a r e).board.log p
wanted_stays c k a r there (insert op id page node kept e) can b t p its ne claim w = insert_wanted c.board.settings c.board.log a op id e.vector p w
wanted_stays c k a r there publish can b t p its ne claim w =
    let works = (k.each a r there).holds.split can.0 can.1.split in
    let leaf : leaf_or r.claim ≡ can.0.leaf = ap leaf_or works in
    let apart : same_cell can.0.leaf p ≡ false = not_true (same_cell can.0.leaf p) (λ e. ne (k.claims b a t r p its there claim (works ∙ ap Some (same_cell_is can.0.leaf p e)))) in
    split_wanted c.board.settings c.board.log (leaf_or r.claim) p (ap (λ (x : List ℕ). same_cell x p) leaf ∙ apart) w
wanted_stays c k a r there see can b t p its ne claim w = w
wanted_stays c k a r there look can b t p its ne claim w = w
wanted_stays c k a r there no_work can b t p its ne claim w = w
wanted_stays c k a r there (meet page) can b t p its ne claim w = w
wanted_stays c k a r there (refuse why) can b t p its ne claim w = w
wanted_stays c k a r there (refuse_at page why) can b t p its ne claim w = w
wanted_stays c k a r there (visit page) can b t p its ne claim w = w
wanted_stays c k a r there (start page) can b t p its ne claim w = w
wanted_stays c k a r there (trim page node) can b t p its ne claim w = w
wanted_stays c k a r there (miss_shard n) can b t p its ne claim w = w
wanted_stays c k a r there (claim_shard n kept) can b t p its ne claim w = w
wanted_stays c k a r there (release_shard n kept) can b t p its ne claim w = w
wanted_stays c k a r there (reserve n kept room) can b t p its ne claim w = w
wanted_stays c k a r there pin can b t p its ne claim w = w
wanted_stays c k a r there unpin can b t p its ne claim w = w
wanted_stays c k a r there (claim_leaf l) can b t p its ne claim w = w
wanted_stays c k a r there release_leaf can b t p its ne claim w = w
wanted_stays c k a r there (delete op id page node kept key) can b t p its ne claim w =
    let x = deleted_apart c k a r there id page node kept key can b t p its ne claim in delete_wanted c.board.settings c.board.log a op id p x.0 x.1 w
wanted_stays c k a r there allot can b t p its ne claim w = w
wanted_stays c k a r there lack can b t p its ne claim w = w
wanted_stays c k a r there (grow level key child) can b t p its ne claim w = w
wanted_stays c k a r there (split_page page node) can b t p its ne claim w = w
wanted_stays c k a r there (post page node key child) can b t p its ne claim w = w
wanted_stays c k a r there (gather page node) can b t p its ne claim w = w
wanted_stays c k a r there (copy_in page node e) can b t p its ne claim w = w
wanted_stays c k a r there (uncopy page node e told) can b t p its ne claim w = w
wanted_stays c k a r there (give_up pages) can b t p its ne claim w = w
wanted_stays c k a r there (take_sweep l) can b t p its ne claim w = w
wanted_stays c k a r there (take_split l) can b t p its ne claim w = w
wanted_stays c k a r there (sweep page node) can b t p its ne claim w = w
wanted_stays c k a r there fork can b t p its ne claim w = w
wanted_stays c k a r there (absorb o q) can b t p its ne claim w = w
wanted_stays c k a r there depart can b t p its ne claim w = w
