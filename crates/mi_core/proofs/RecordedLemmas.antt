-- A record in a shard has its entry, in the page whose range has its key.
use Rattle.std.proofs.Common.{◌≡◌, ℕ, ℤ, ◌+◌, ◌-◌, ◌<◌, ◌≤◌, List, [], ◌∷◌, ◌++◌, length, map, take, Bool, true, false, cond, ◌==◌, ◌&&◌, not, refl, sym, ap, ◌∙◌, subst, arith, Some, append_assoc, length-append, Option, None}
use Rattle.std.specs.Prelude.{slice_get}
use Rattle.std.specs.List.{AllByRecursion, filter, find, sum_by}
use Rattle.std.proofs.Math.Seq.{take-length}
use Rattle.std.proofs.lemmas.Bool.{and_parts, eq-eqb, eqb-true}
use Rattle.mi_base.specs.Sorting.{SameElements}
use Rattle.mi_base.specs.declared.records.LogEvent.{LogEvent}
use Rattle.mi_base.specs.declared.records.Update.{Update}
use Rattle.mi_base.specs.declared.records.Update.TheVariants.{Insert, Delete}
use Rattle.mi_base.specs.History.{events_at, updates_of}
use Rattle.mi_key.specs.declared.entries.Entry.{Entry}
use Rattle.mi_page.specs.Keys.{IsInside}
use Rattle.mi_page.specs.Nodes.{Node, in_range}
use Rattle.mi_tree.specs.Cells.{Grid, depth, leaf_of}
use Rattle.mi_tree.specs.Births.{Born, born, born_after, born_from, living}
use Rattle.mi_entries.specs.Entries.{HasPlace, born_in, counts, depth_of, id_of, is_placed, key_down, grid, Shows}
use Rattle.mi_forest.specs.Forests.{Forest, all_entries}
use Rattle.mi_core.specs.Sound.{Sound}
use Rattle.mi_core.specs.Named.{EntryOf}
use Rattle.mi_core.specs.Pages.{forest_of, node_or_fresh}
use Rattle.mi_entries.specs.Records.{Rows, record_of, ShardRecord, home}
use Rattle.mi_core.specs.State.{State, node_at}
use Rattle.std.proofs.lemmas.Option.{same_Some}
use Rattle.mi_forest.proofs.FlatLemmas.{leaf_entries}
use Rattle.mi_core.proofs.KeptLemmas.{floor_position}
use Rattle.mi_forest.proofs.ListLemmas.{inside_in}
use Rattle.mi_base.proofs.SortingLemmas.{filter_keeps, same_filter}
use Rattle.mi_tree.proofs.ListLemmas.{all_any, filter_map, filter_same, filter_twice}
use Rattle.mi_board.specs.Boards.{floor_of}
use Rattle.mi_entries.proofs.MemberLemmas.{IsOne, all_one, filter_in, find_in, in_filter, map_in, one_at, pass_some, passing, some_pass}
use Rattle.mi_base.specs.Configuration.{Configuration, space_of}
use Rattle.mi_base.specs.Permutations.{begins, distances, key_distance, permutation_of}
use Rattle.mi_key.specs.Clusters.{cluster_of}
use Rattle.mi_key.specs.Keys.{key_of}
use Rattle.mi_tree.proofs.LeafLemmas.{leaf_is}
use Rattle.mi_tree.proofs.LegalLemmas.{all_may}
use Rattle.mi_core.specs.Events.{CanDelete}
use Rattle.mi_entries.specs.Actors.{Actor}
use Rattle.mi_entries.proofs.KeyedLemmas.{is_keyed}

abbrev pub Inserted : List Update → Born → Type 0
Inserted us o = slice_get us (o.birth - 1) ≡ Some (Insert o.id o.vector)

at_end : (us vs : List Update) (u : Update) → slice_get (us ++ u ∷ vs) (length us) ≡ Some u
at_end [] vs u = refl
at_end (x ∷ us) vs u = at_end us vs u

pub inserted_from : (before : List Update) (objects : List Born) (us : List Update) → AllByRecursion (Inserted (before ++ us)) objects → AllByRecursion (Inserted (before ++ us)) (born_from (length before) objects us)
inserted_from before objects [] h = h
inserted_from before objects (Insert id v ∷ us) h =
    let u : Update = Insert id v in let all : List Update = before ++ u ∷ us in
    let same : (before ++ u ∷ []) ++ us ≡ all = append_assoc before (u ∷ []) us in
    let long : length (before ++ u ∷ []) ≡ length before + 1 = length-append before (u ∷ []) in
    let next : AllByRecursion (Inserted all) (born_after (length before + 1) objects u) = (ap (slice_get all) (let e : length before + 1 - 1 ≡ length before = omega arith in e) ∙ at_end before us u, h) in
    subst (λ (k : ℕ). AllByRecursion (Inserted all) (born_from k (born_after (length before + 1) objects u) us)) long
    (subst (λ (l : List Update). AllByRecursion (Inserted l) (born_from (length (before ++ u ∷ [])) (born_after (length before + 1) objects u) us)) same
    (inserted_from (before ++ u ∷ []) (born_after (length before + 1) objects u) us (subst (λ (l : List Update). AllByRecursion (Inserted l) (born_after (length before + 1) objects u)) (sym same) next)))
inserted_from before objects (Delete id ∷ us) h =
    let u : Update = Delete id in let all : List Update = before ++ u ∷ us in
    let same : (before ++ u ∷ []) ++ us ≡ all = append_assoc before (u ∷ []) us in
    let long : length (before ++ u ∷ []) ≡ length before + 1 = length-append before (u ∷ []) in
    let next : AllByRecursion (Inserted all) (born_after (length before + 1) objects u) = filter_keeps (Inserted all) (λ o. not (o.id == id)) objects h in
    subst (λ (k : ℕ). AllByRecursion (Inserted all) (born_from k (born_after (length before + 1) objects u) us)) long
    (subst (λ (l : List Update). AllByRecursion (Inserted l) (born_from (length (before ++ u ∷ [])) (born_after (length before + 1) objects u) us)) same
    (inserted_from (before ++ u ∷ []) (born_after (length before + 1) objects u) us (subst (λ (l : List Update). AllByRecursion (Inserted l) (born_after (length before + 1) objects u)) (sym same) next)))

abbrev pub vector_in : Update → List ℤ
vector_in (Insert id v) = v
vector_in (Delete id) = []

pub entry_of : (s : State) (k : Sound s) (page id : ℕ) (n : Node) (o : Born) → node_at s.pages page ≡ Some n → n.level ≡ 0 → living id s.board.log ≡ Some o
    → IsInside n.low n.high (key_down (grid s.board.settings) (depth (grid s.board.settings) s.board.log ((grid s.board.settings).perm o.vector)) o) → EntryOf s n o
entry_of s k page id n o there leaf alive inside =
    let g : Grid = grid s.board.settings in let log : List LogEvent = s.board.log in let us : List Update = updates_of log in let f : Forest = forest_of s.board s.pages s.actors k.chain in let F : List Entry = all_entries f in
    let found = find_in (λ (x : Born). x.id == id) (born us) o alive in
    let whole : Shows g log F = subst (λ (l : List LogEvent). Shows g l F) (take-length log) (k.entries.shows (length log) (floor_position s k).within (omega arith)) in
    let t : Born → Bool = λ x. (x.id == o.id) && (x.birth == o.birth) in
    let own : t o ≡ true = rw (eq-eqb o.id o.id refl, eq-eqb o.birth o.birth refl) refl in
    let many : 0 < sum_by (passing t) (map born_in (filter (counts g log) F)) = omega (arith, some_pass t (born us) o found.1 own, whole.same.sums (passing t)) in
    let b = pass_some t (map born_in (filter (counts g log) F)) many in
    let m = map_in born_in (filter (counts g log) F) b.0 b.1 in let e : Entry = m.0 in
    let c = filter_in (counts g log) F e m.1 in
    let parts = and_parts (b.0.id == o.id) (b.0.birth == o.birth) b.2 in
    let ids : id_of e ≡ o.id = ap (λ (x : Born). x.id) m.2 ∙ eqb-true b.0.id o.id parts.0 in
    let births : e.birth ≡ o.birth = ap (λ (x : Born). x.birth) m.2 ∙ eqb-true b.0.birth o.birth parts.1 in
    let place = all_one (HasPlace s.board.settings log s.actors s.board.retired) F e k.entries.places c.0 in
    let made : Inserted us o = all_one (Inserted us) (born us) o (inserted_from [] [] us tt) found.1 in
    let both : Some (Insert (id_of e) e.vector) ≡ Some (Insert o.id o.vector) = sym place.is.born.1 ∙ ap (λ (i : ℕ). slice_get us (i - 1)) births ∙ made in
    let vectors : e.vector ≡ o.vector = ap vector_in (same_Some (Insert (id_of e) e.vector) (Insert o.id o.vector) both) in
    let same : born_in e ≡ o = ap (λ (i : ℕ). let x : Born = record { id = i; vector = e.vector; birth = e.birth } in x) ids ∙ ap (λ (v : List ℤ). let x : Born = record { id = o.id; vector = v; birth = e.birth } in x) vectors ∙ ap (λ (i : ℕ). let x : Born = record { id = o.id; vector = o.vector; birth = i } in x) births in
    let placed : is_placed g log e ≡ true = (and_parts _ (is_placed g log e) c.1).1 in
    let key : e.key ≡ key_down g (depth g log (g.perm o.vector)) o = eqb-true e.key (key_down g (depth_of g log e) (born_in e)) placed ∙ ap (λ (x : Born). key_down g (depth g log (g.perm x.vector)) x) same in
    let here : f.node page ≡ n = ap node_or_fresh there in
    let ranged : in_range n e.key ≡ true = ap (in_range n) key ∙ inside_in n (key_down g (depth g log (g.perm o.vector)) o) inside in
    let entries : filter (λ (x : Entry). in_range n x.key) F ≡ n.entries = subst (λ (m : Node). filter (λ (x : Entry). in_range m x.key) F ≡ m.entries) here (leaf_entries f k.pages.forest page (k.pages.linked page n there) (ap (λ (m : Node). m.level) here ∙ leaf)) in
    let at = one_at n.entries e (subst (IsOne e) entries (in_filter (λ (x : Entry). in_range n x.key) F e c.0 ranged)) in
    record { entry = e; place = at.0; there = at.1; is = same; key = key; counted = c.1 }

-- what a leaf page shows of a position that is not below the floor: just the live objects of that time whose keys lie in its range
pub page_shows : (s : State) (k : Sound s) (page : ℕ) (n : Node) → node_at s.pages page ≡ Some n → n.level ≡ 0 → (i : ℕ) → events_at (floor_of s.board) ≤ i → i ≤ length s.board.log
    → SameElements (map born_in (filter (counts (grid s.board.settings) (take i s.board.log)) n.entries))
    (filter (λ o. in_range n (key_down (grid s.board.settings) (depth (grid s.board.settings) (take i s.board.log) ((grid s.board.settings).perm o.vector)) o)) (born (updates_of (take i s.board.log))))
page_shows s k page n there leaf i low high =
    let g : Grid = grid s.board.settings in let log : List LogEvent = take i s.board.log in let f : Forest = forest_of s.board s.pages s.actors k.chain in let F : List Entry = all_entries f in
    let T : Born → Bool = λ o. in_range n (key_down g (depth g log (g.perm o.vector)) o) in let C : Entry → Bool = counts g log in let R : Entry → Bool = λ e. in_range n e.key in
    let here : f.node page ≡ n = ap node_or_fresh there in
    let entries : filter R F ≡ n.entries = subst (λ (m : Node). filter (λ (x : Entry). in_range m x.key) F ≡ m.entries) here (leaf_entries f k.pages.forest page (k.pages.linked page n there) (ap (λ (m : Node). m.level) here ∙ leaf)) in
    let P : Entry → Bool → Type 0 = λ e b. C e ≡ b → (b && T (born_in e)) ≡ (R e && b) in
    let one : (e : Entry) → (C e && T (born_in e)) ≡ (R e && C e) = λ e. (elim (C e) as (P e) [
      | true ↦ λ c. ap (in_range n) (sym (eqb-true e.key (key_down g (depth_of g log e) (born_in e)) (and_parts _ (is_placed g log e) c).1)) ∙ sym (and_yes (R e))
      | false ↦ λ c. sym (and_none (R e))
    ]) refl in
    let lists : filter T (map born_in (filter C F)) ≡ map born_in (filter C n.entries) =
    sym (filter_map born_in T (filter C F)) ∙ ap (map born_in) (filter_twice (λ e. T (born_in e)) C F ∙ filter_same _ _ F (all_any (λ e. (C e && T (born_in e)) ≡ (R e && C e)) one F) ∙ sym (filter_twice C R F) ∙ ap (filter C) entries) in
    subst (λ (xs : List Born). SameElements xs (filter T (born (updates_of log)))) lists (same_filter T _ _ (k.entries.shows i low high).same)
  where
    and_yes : (b : Bool) → (b && true) ≡ b
    and_yes true = refl
    and_yes false = refl

    and_none : (b : Bool) → (b && false) ≡ false
    and_none true = refl
    and_none false = refl

-- the live object that a record is of
pub record RecordOf (s : State) (id : ℕ) (x : ShardRecord) : Type 0 where
  pub object : Born
  pub alive : living id s.board.log ≡ Some object
  pub named : object.id ≡ id
  pub id_is : x.id ≡ object.id
  pub birth : x.birth ≡ object.birth
  pub dists : x.dists ≡ distances (space_of s.board.settings) object.vector

-- a record is that of an object
recorded : (c : Configuration) (o : Option Born) (x : ShardRecord) → record_of c o ≡ Some x → (b : Born) × (o ≡ Some b) × (x.id ≡ b.id) × (x.birth ≡ b.birth) × (x.dists ≡ distances (space_of c) b.vector)
recorded c None x e = absurd cc
recorded c (Some b) x e =
    let y : ShardRecord = record { id = b.id; birth = b.birth; dists = distances (space_of c) b.vector } in
    let same : y ≡ x = same_Some y x e in
    (b, refl, ap (λ (z : ShardRecord). z.id) (sym same), ap (λ (z : ShardRecord). z.birth) (sym same), ap (λ (z : ShardRecord). z.dists) (sym same))

-- what an actor that may delete an identifier has before it
module _ (s : State) (k : Sound s) (a : ℕ) (r : Actor) (there : slice_get s.actors a ≡ Some r) (id page : ℕ) (node : Node) (kept : Rows) (key : ℕ) (can : CanDelete s r id page node kept key) where
  abbrev c : Configuration
  c = s.board.settings

  abbrev g : Grid
  g = grid s.board.settings

  abbrev log : List LogEvent
  log = s.board.log

  -- the live object of the identifier, which the record is of
  pub object_of : RecordOf s id can.has
  object_of =
      let o = recorded c (living id log) can.has
      (ap (λ (t : Bool). cond t (record_of c (living id log)) None) (sym (eq-eqb (home id) (home id) refl)) ∙ sym (k.records (home id) id ((k.each a r there).holds.shard (home id) can.may.shard).0)
      ∙ ap (λ (x : Rows). find (λ y. y.id == id) x.records) can.may.kept_is ∙ can.found) in
      record {
        object = o.0;
        alive = o.1;
        named = eqb-true o.0.id id (find_in (λ (x : Born). x.id == id) (born (updates_of log)) o.0 o.1).0;
        id_is = o.2;
        birth = o.3;
        dists = o.4;
      }

  -- the claimed leaf is the object's
  pub leaf_there : can.leaf ≡ leaf_of g log (g.perm object_of.object.vector)
  leaf_there = leaf_is g (is_keyed c k.limits).grid log (all_may c log k.legal) can.leaf object_of.object.vector ((k.each a r there).holds.leaf can.leaf can.may.claim)
      (ap (λ (ds : List ℕ). begins can.leaf (permutation_of ds)) (sym object_of.dists) ∙ can.may.under)

  pub key_there : key ≡ key_down g (depth g log (g.perm object_of.object.vector)) object_of.object
  key_there =
      let o = object_of.object in
      let n : ℕ → List ℕ → ℕ → ℕ → ℕ = λ i q d b. key_of (record { cluster = cluster_of g.pivots g.levels q; distance = d; id = i; birth = b }) in
      can.key_is
      ∙ ap (λ (i : ℕ). n i can.leaf (key_distance can.has.dists) can.has.birth) object_of.id_is
      ∙ ap (λ (b : ℕ). n o.id can.leaf (key_distance can.has.dists) b) object_of.birth
      ∙ ap (λ (ds : List ℕ). n o.id can.leaf (key_distance ds) o.birth) object_of.dists
      ∙ ap (λ (q : List ℕ). n o.id q (key_distance (distances (space_of c) o.vector)) o.birth) leaf_there

  -- its entry is on the page
  pub entry_here : EntryOf s node object_of.object
  entry_here = entry_of s k page id node object_of.object can.may.page_is.there can.may.page_is.level object_of.alive (subst (IsInside node.low node.high) key_there can.may.inside)
