-- Events keep the counts of what leaf pages have.
use Rattle.std.proofs.Common.{◌≡◌, ◌≢◌, ℕ, zero, suc, ◌+◌, ◌<◌, ◌≤◌, ◌==◌, ◌&&◌, List, [], ◌∷◌, ◌++◌, map, length, take, drop, set, nat_lt, Bool, true, false, cond, not, max, Option, Some, None, refl, sym, ap, ◌∙◌, subst, arith, inl, inr, ◌⊎◌, length-set, get_or-set_other, append-nil, append_assoc}
use Rattle.std.specs.Prelude.{slice_get}
use Rattle.std.specs.List.{filter}
use Rattle.std.proofs.lemmas.Bool.{cases_eq, eqb-true, false≢true, ne_eqb}
use Rattle.std.proofs.lemmas.List.{length-take, length-drop, take_all}
use Rattle.mi_base.specs.declared.records.LogEvent.{LogEvent}
use Rattle.mi_base.specs.declared.records.LogEvent.TheVariants.{Update as Made, Split}
use Rattle.mi_base.specs.declared.records.Update.{Update}
use Rattle.mi_base.specs.declared.records.Update.TheVariants.{Insert, Delete}
use Rattle.mi_base.specs.History.{Object, live, updates_of}
use Rattle.mi_base.specs.Permutations.{begins}
use Rattle.mi_base.proofs.SortingLemmas.{same_filter, same_length}
use Rattle.mi_key.specs.declared.entries.Entry.{Entry}
use Rattle.mi_page.specs.Entries.{entry_cmp, outlives, without_dead, with_death}
use Rattle.mi_page.specs.Nodes.{Node, item_count, lower_half, middle_key, root_node, upper_half}
use Rattle.mi_tree.specs.Cells.{Grid}
use Rattle.mi_tree.specs.Counting.{belongs}
use Rattle.mi_tree.specs.Births.{Born, born}
use Rattle.mi_core.specs.Counted.{Lifted, NoneUndone, Told, carried, copies_of, inserts, page_lift, total}
use Rattle.mi_entries.specs.Marks.{cell_range, split_or}
use Rattle.mi_core.specs.Effects.{mark_entry, paid, post_route, put_entry, saw, sweep_node, trim_node}
use Rattle.mi_entries.specs.Entries.{Shows, born_in, counts, is_under, under, grid}
use Rattle.mi_core.specs.Events.{Can, Event, after, copied_of, copied_to, sweep_leaf, ended, hand, leaf_or, made_actor, more_seen}
use Rattle.mi_core.specs.Events.Event.{see, look, meet, refuse, refuse_at, visit, start, trim, miss_shard, claim_shard, release_shard, reserve, pin, unpin, claim_leaf, release_leaf, insert, delete, allot, lack, grow, split_page, post, gather, copy_in, uncopy, publish, give_up, take_sweep, take_split, no_work, sweep, fork, absorb, depart}
use Rattle.mi_forest.specs.Forests.{all_entries}
use Rattle.mi_core.specs.Sound.{Sound}
use Rattle.mi_core.specs.Pages.{forest_of, node_or_fresh}
use Rattle.mi_entries.specs.Actors.{Actor, SplitWork}
use Rattle.mi_core.specs.State.{State, node_at}
use Rattle.mi_core.proofs.ActorLemmas.{at_set, set_else, set_there}
use Rattle.std.proofs.lemmas.Option.{none-some, same_Some}
use Rattle.mi_forest.proofs.EventLemmas.{length-put}
use Rattle.mi_entries.proofs.EntryLemmas.{get_more}
use Rattle.mi_base.specs.Sorting.{put}
use Rattle.mi_page.specs.Routes.{has_route, route_cmp}
use Rattle.mi_key.specs.Ranges.{is_within}
use Rattle.mi_core.proofs.ForkEvents.{get_either}
use Rattle.mi_core.proofs.HalveEvents.{full_before}
use Rattle.mi_core.proofs.KeptLemmas.{floor_position, some_none}
use Rattle.mi_forest.proofs.MoveLemmas.{stands}
use Rattle.mi_core.proofs.PageLemmas.{within}
use Rattle.mi_entries.proofs.RecordLemmas.{born_live, object}
use Rattle.mi_tree.proofs.ListLemmas.{all_any, filter_map, filter_same, filter_twice}

total_set : {X : Type 0} (f : X → ℕ) (xs : List X) (i : ℕ) (a b : X) → slice_get xs i ≡ Some b → total f (set xs i a) + f b ≡ total f xs + f a
total_set f [] i a b e = absurd (none-some b e)
total_set f (x ∷ xs) zero a b e = let same = ap f (same_Some x b e) in omega arith
total_set f (x ∷ xs) (suc i) a b e = omega (arith, total_set f xs i a b e)

total_more : {X : Type 0} (f : X → ℕ) (xs : List X) (y : X) → total f (xs ++ y ∷ []) ≡ total f xs + f y
total_more f [] y = omega arith
total_more f (x ∷ xs) y = omega (arith, total_more f xs y)

-- one page by number is another
pub total_page : (pages : List (Option Node)) (p : ℕ) (x : Option Node) → p < length pages → total page_lift (set pages p x) + page_lift (node_at pages p) ≡ total page_lift pages + page_lift x
total_page [] p x lt = absurd (omega arith)
total_page (y ∷ pages) zero x lt = omega arith
total_page (y ∷ pages) (suc p) x lt = omega (arith, total_page pages p x (omega arith))

pub inserts_more : (log : List LogEvent) (e : LogEvent) → inserts (log ++ e ∷ []) ≡ inserts log + inserts (e ∷ [])
inserts_more [] e = omega arith
inserts_more (Made a op (Insert id v) ∷ log) e = omega (arith, inserts_more log e)
inserts_more (Made a op (Delete id) ∷ log) e = omega (arith, inserts_more log e)
inserts_more (Split p ∷ log) e = omega (arith, inserts_more log e)

pub carried_more : (g : Grid) (earlier log : List LogEvent) (e : LogEvent) → carried g earlier (log ++ e ∷ []) ≡ carried g earlier log + carried g (earlier ++ log) (e ∷ [])
carried_more g earlier [] e = subst (λ (l : List LogEvent). carried g earlier (e ∷ []) ≡ 0 + carried g l (e ∷ [])) (sym (append-nil earlier)) (omega arith)
carried_more g earlier (Made a op u ∷ log) e =
    let x : LogEvent = Made a op u in
    carried_more g (earlier ++ x ∷ []) log e ∙ ap (λ (l : List LogEvent). carried g (earlier ++ x ∷ []) log + carried g l (e ∷ [])) (append_assoc earlier (x ∷ []) log)
carried_more g earlier (Split p ∷ log) e =
    let x : LogEvent = Split p in
    let r = carried_more g (earlier ++ x ∷ []) log e in
    let same = ap (λ (l : List LogEvent). carried g l (e ∷ [])) (append_assoc earlier (x ∷ []) log) in
    omega arith

-- nobody undid before
undone_was : (actors : List Actor) (a : ℕ) (r q : Actor) → slice_get actors a ≡ Some r → (q.undone ≡ false → r.undone ≡ false) → NoneUndone (set actors a q) → NoneUndone actors
undone_was actors a r q there back none b t e = elim (cases_eq b a) [
  | inl same ↦
      let is : t ≡ r = same_Some t r (sym e ∙ ap (slice_get actors) same ∙ there) in
      ap (λ (z : Actor). z.undone) is ∙ back (none a q (set_there actors a q r there))
  | inr o ↦ none b t (set_else actors a b q o ∙ e)
]

module _ (s : State) (l : Lifted s.board.settings s.board.log s.pages s.actors) (a : ℕ) (r : Actor) (there : slice_get s.actors a ≡ Some r) where
  -- pages and log, with the copies of the actor, gain as much on the right as on the left
  pub lift_by : (q : Actor) (log' : List LogEvent) (pages' : List (Option Node)) → (q.undone ≡ false → r.undone ≡ false)
      → total page_lift pages' + (inserts s.board.log + carried (grid s.board.settings) [] s.board.log) + copies_of r ≤ total page_lift s.pages + (inserts log' + carried (grid s.board.settings) [] log') + copies_of q
      → Lifted s.board.settings log' pages' (set s.actors a q)
  lift_by q log' pages' back gains none =
      let old = l (undone_was s.actors a r q there back none) in
      let n = total_set copies_of s.actors a q r there in
      omega arith

  pub lift_same : (q : Actor) → (q.undone ≡ false → r.undone ≡ false) → copies_of q ≡ copies_of r → Lifted s.board.settings s.board.log s.pages (set s.actors a q)
  lift_same q back same = lift_by q s.board.log s.pages back (omega arith)

  -- a leaf page loses entries
  pub lift_less : (q : Actor) → (q.undone ≡ false → r.undone ≡ false) → copies_of q ≡ copies_of r → (page : ℕ) (node y : Node) → node_at s.pages page ≡ Some node → page_lift (Some y) ≤ page_lift (Some node)
      → Lifted s.board.settings s.board.log (set s.pages page (Some y)) (set s.actors a q)
  lift_less q back same page node y on less =
      let t = total_page s.pages page (Some y) (within s.pages page node on) in
      let was = ap page_lift on in
      lift_by q s.board.log (set s.pages page (Some y)) back (omega arith)

fewer : (f : Entry → Bool) (n : Node) (y : Node) → y.level ≡ n.level → length y.entries ≤ length n.entries → page_lift (Some y) ≤ page_lift (Some n)
fewer f n y level less =
    let P : Bool → Type 0 = λ b. cond b (max 16 (length y.entries)) 0 ≤ cond b (max 16 (length n.entries)) 0 in
    subst (λ (v : ℕ). cond (v == 0) (max 16 (length y.entries)) 0 ≤ page_lift (Some n)) (sym level) (elim (n.level == 0) as P [ true ↦ omega arith | false ↦ omega arith ])

at_most : {X : Type 0} (t : X → Bool) (xs : List X) → length (filter t xs) ≤ length xs
at_most t [] = omega arith
at_most t (x ∷ xs) =
    let P : Bool → Type 0 = λ b. length (cond b (x ∷ filter t xs) (filter t xs)) ≤ suc (length xs) in
    let r = at_most t xs in
    elim (t x) as P [ true ↦ omega arith | false ↦ omega arith ]

-- a put lifts a leaf page by one at most
put_lift : (u : ℕ) (e : Entry) (n : Node) → page_lift (Some (put_entry u e n)) ≤ page_lift (Some n) + 1
put_lift u e n =
    let less = at_most (λ z. outlives z.death u) n.entries in
    let more = length-put entry_cmp e (without_dead u n.entries) in
    let P : Bool → Type 0 = λ b. cond b (max 16 (length (put_entry u e n).entries)) 0 ≤ cond b (max 16 (length n.entries)) 0 + 1 in
    elim (n.level == 0) as P [ true ↦ omega arith | false ↦ omega arith ]

no_lift : (y : Node) → 0 < y.level → page_lift (Some y) ≡ 0
no_lift y up = ap (λ b. cond b (max 16 (length y.entries)) 0) (ne_eqb y.level 0 (λ e. omega arith))

-- those who pass a test and another are no more than those who pass the one
both_few : {X : Type 0} (p q : X → Bool) (xs : List X) → length (filter (λ x. p x && q x) xs) ≤ length (filter p xs)
both_few p q xs = subst (λ (ys : List _). length ys ≤ length (filter p xs)) (filter_twice q p xs) (at_most q (filter p xs))

turn : (a b : Bool) → (a && b) ≡ (b && a)
turn true true = refl
turn true false = refl
turn false true = refl
turn false false = refl

length_same : {X Y : Type 0} (f : X → Y) (xs : List X) → length (map f xs) ≡ length xs
length_same f [] = refl
length_same f (x ∷ xs) = ap suc (length_same f xs)

-- what is gathered is no more than the leaf's live objects
pub gathered_few : (g : Grid) (log : List LogEvent) (F gathered : List Entry) (p : List ℕ) (mark : ℕ) → Shows g log F → gathered ≡ filter (λ e. counts g log e && nat_lt e.key mark) (under g p F)
    → length gathered ≤ length (filter (belongs g p) (live (updates_of log)))
gathered_few g log F gathered p mark shows is =
    let U : Born → Bool = λ o. begins p (g.perm o.vector) in
    let few = both_few (counts g log) (λ e. nat_lt e.key mark) (under g p F) in
    let swapped : filter (counts g log) (under g p F) ≡ filter (is_under g p) (filter (counts g log) F) =
    filter_twice (counts g log) (is_under g p) F ∙ filter_same (λ e. is_under g p e && counts g log e) (λ e. counts g log e && is_under g p e) F (all_any _ (λ e. turn (is_under g p e) (counts g log e)) F) ∙ sym (filter_twice (is_under g p) (counts g log) F) in
    let named : length (filter (is_under g p) (filter (counts g log) F)) ≡ length (filter U (map born_in (filter (counts g log) F))) =
    sym (length_same born_in (filter (is_under g p) (filter (counts g log) F))) ∙ ap (λ (os : List Born). length os) (filter_map born_in U (filter (counts g log) F)) in
    let same = same_length _ _ (same_filter U _ _ shows.same) in
    let lives : length (filter U (born (updates_of log))) ≡ length (filter (belongs g p) (live (updates_of log))) =
    sym (length_same object (filter U (born (updates_of log)))) ∙ ap (λ (os : List Object). length os) (filter_map object (belongs g p) (born (updates_of log))) ∙ ap (λ (os : List Object). length (filter (belongs g p) os)) (born_live (updates_of log)) in
    let size = ap (λ (es : List Entry). length es) is in
    let size' = ap (λ (es : List Entry). length es) swapped in
    omega arith

module _ (s : State) (told : Told s.board s.actors) (a : ℕ) (r : Actor) (there : slice_get s.actors a ≡ Some r) where
  pub told_by : (q : Actor) (allotted pages : ℕ) → (s.board.allotted ≡ s.board.settings.pages → allotted ≡ pages) → (q.undone ≡ true → q.early ≡ false → allotted ≡ pages)
      → (b : ℕ) (t : Actor) → slice_get (set s.actors a q) b ≡ Some t → t.undone ≡ true → t.early ≡ false → allotted ≡ pages
  told_by q allotted pages keep own b t e = elim (at_set s.actors a b q t e) [
    | inl m ↦ λ u v. own (ap (λ (z : Actor). z.undone) m.1 ∙ u) (ap (λ (z : Actor). z.early) m.1 ∙ v)
    | inr m ↦ λ u v. keep (told b t m.1 u v)
  ]

  pub told_same : (q : Actor) → q.undone ≡ r.undone → q.early ≡ r.early → Told s.board (set s.actors a q)
  told_same q undone early = told_by q s.board.allotted s.board.settings.pages (λ e. e) (λ u v. told a r there (sym undone ∙ u) (sym early ∙ v))

module _ (s : State) (k : Sound s) (l : Lifted s.board.settings s.board.log s.pages s.actors) (told : Told s.board s.actors) (a : ℕ) (r : Actor) (there : slice_get s.actors a ≡ Some r) where
  -- an event that changes the record alone
  pub quiet_counts : (q : Actor) → q.undone ≡ r.undone → q.early ≡ r.early → copies_of q ≡ copies_of r → Lifted s.board.settings s.board.log s.pages (set s.actors a q) × Told s.board (set s.actors a q)
  quiet_counts q undone early same = (lift_same s l a r there q (λ e. sym undone ∙ e) same, told_same s told a r there q undone early)

  -- a leaf page that loses entries
  pub less_counts : (q : Actor) → q.undone ≡ r.undone → q.early ≡ r.early → copies_of q ≡ copies_of r → (page : ℕ) (node y : Node) → node_at s.pages page ≡ Some node → page_lift (Some y) ≤ page_lift (Some node)
      → Lifted s.board.settings s.board.log (set s.pages page (Some y)) (set s.actors a q) × Told s.board (set s.actors a q)
  less_counts q undone early same page node y on less = (lift_less s l a r there q (λ e. sym undone ∙ e) same page node y on less, told_same s told a r there q undone early)

  pub trimmed_less : (u : ℕ) (node : Node) → page_lift (Some (trim_node u node)) ≤ page_lift (Some node)
  trimmed_less u node = fewer (λ e. true) node (trim_node u node) refl (at_most (λ z. outlives z.death u) node.entries)

  -- an update puts no more into the pages than it inserts
  pub update_lift : (op : ℕ) (u : Update) (q : Actor) (page : ℕ) (node y : Node) → node_at s.pages page ≡ Some node → page_lift (Some y) ≤ page_lift (Some node) + inserts (Made a op u ∷ []) → q.undone ≡ r.undone → copies_of q ≡ copies_of r
      → Lifted s.board.settings (s.board.log ++ Made a op u ∷ []) (set s.pages page (Some y)) (set s.actors a q)
  update_lift op u q page node y on gain undone same =
      let t = total_page s.pages page (Some y) (within s.pages page node on) in
      let was = ap page_lift on in
      let i = inserts_more s.board.log (Made a op u) in
      let c = carried_more (grid s.board.settings) [] s.board.log (Made a op u) in
      lift_by s l a r there q (s.board.log ++ Made a op u ∷ []) (set s.pages page (Some y)) (λ e. sym undone ∙ e) (omega arith)

  pub copy_lift : (q : Actor) (page : ℕ) (node : Node) (u : ℕ) (e : Entry) → node_at s.pages page ≡ Some node → q.undone ≡ r.undone → copies_of q ≡ copies_of r + 1
      → Lifted s.board.settings s.board.log (set s.pages page (Some (put_entry u e node))) (set s.actors a q)
  copy_lift q page node u e on undone more =
      let t = total_page s.pages page (Some (put_entry u e node)) (within s.pages page node on) in
      let was = ap page_lift on in
      let gain = put_lift u e node in
      lift_by s l a r there q s.board.log (set s.pages page (Some (put_entry u e node))) (λ e. sym undone ∙ e) (omega arith)

  -- a halving keeps what pages count for
  pub halve_lift : (q : Actor) → q.undone ≡ r.undone → copies_of q ≡ copies_of r → (page : ℕ) (node n : Node) (f : ℕ) → r.fresh ≡ Some f → node_at s.pages page ≡ Some node
      → n.level ≡ node.level → n.routes ≡ node.routes → length n.entries ≤ length node.entries → item_count n ≡ 32
      → Lifted s.board.settings s.board.log (set (set s.pages page (Some (lower_half f n))) f (Some (upper_half n))) (set s.actors a q)
  halve_lift q undone same page node n f has on level routes less full =
      let hand = (k.each a r there).fresh f has in
      let none : node_at (set s.pages page (Some (lower_half f n))) f ≡ None = get_or-set_other s.pages page f (Some (lower_half f n)) None (λ e. some_none node (sym on ∙ ap (node_at s.pages) (sym e) ∙ hand.1)) ∙ hand.1 in
      let t = total_page s.pages page (Some (lower_half f n)) (within s.pages page node on) in
      let u = total_page (set s.pages page (Some (lower_half f n))) f (Some (upper_half n)) (let m = k.pages.most in let h = hand.0 in omega (arith, k.pages.length_is, length-set s.pages page (Some (lower_half f n)))) in
      let was = ap page_lift on in
      let gone : page_lift (node_at (set s.pages page (Some (lower_half f n))) f) ≡ 0 = ap page_lift none in
      let P : Bool → Type 0 = λ b. (node.level == 0) ≡ b → cond b (max 16 (length (take 16 n.entries))) 0 + cond b (max 16 (length (drop 16 n.entries))) 0 ≤ cond b (max 16 (length node.entries)) 0 in
      let halves : page_lift (Some (lower_half f n)) + page_lift (Some (upper_half n)) ≤ page_lift (Some node) =
      subst (λ (v : ℕ). cond (v == 0) (max 16 (length (take 16 n.entries))) 0 + cond (v == 0) (max 16 (length (drop 16 n.entries))) 0 ≤ page_lift (Some node)) (sym level)
      ((elim (node.level == 0) as P [
        | true ↦ λ e.
            let leaf : node.routes ≡ [] = no_routes (eqb-true node.level 0 e) in
            let size : length n.routes ≡ 0 = ap (λ rs. length rs) (routes ∙ leaf) in
            omega (arith, length-take 16 n.entries, length-drop 16 n.entries, size, full, less)
        | false ↦ λ e. omega arith
      ]) refl) in
      lift_by s l a r there q s.board.log (set (set s.pages page (Some (lower_half f n))) f (Some (upper_half n))) (λ e. sym undone ∙ e) (omega arith)
    where
      no_routes : node.level ≡ 0 → node.routes ≡ []
      no_routes e =
          let is : node_or_fresh (node_at s.pages page) ≡ node = ap node_or_fresh on in
          let p = (stands (forest_of s.board s.pages s.actors k.chain) k.pages.forest page (k.pages.linked page node on)).stands.page in
          subst (λ (x : Node). x.level ≡ 0 → x.routes ≡ []) is p.leaf e

  -- a publish moves its copies to its split
  pub publish_lift : (q : Actor) (w : SplitWork) → r.split ≡ Some w → q.undone ≡ r.undone → w.copied ≡ length w.gathered → (p : List ℕ) → p ≡ w.leaf
      → Lifted s.board.settings (s.board.log ++ Split p ∷ []) s.pages (set s.actors a q)
  publish_lift q w split undone all p is =
      let g : Grid = grid s.board.settings in
      let work = k.entries.works a r w there split in
      let shows = subst (λ (x : List LogEvent). Shows g x (all_entries (forest_of s.board s.pages s.actors k.chain))) (take_all (length s.board.log) s.board.log (omega arith)) (k.entries.shows (length s.board.log) (floor_position s k).within (omega arith)) in
      let few = subst (λ (x : List ℕ). length w.gathered ≤ length (filter (belongs g x) (live (updates_of s.board.log)))) (sym is) (gathered_few g s.board.log (all_entries (forest_of s.board s.pages s.actors k.chain)) w.gathered w.leaf w.mark shows work.gathered) in
      let i = inserts_more s.board.log (Split p) in
      let c = carried_more g [] s.board.log (Split p) in
      let copied : copies_of r ≡ w.copied = ap copied_of split in
      lift_by s l a r there q (s.board.log ++ Split p ∷ []) s.pages (λ e. sym undone ∙ e) (omega arith)

  -- a page above the leaves
  pub up_counts : (q : Actor) → q.undone ≡ r.undone → q.early ≡ r.early → copies_of q ≡ copies_of r → (page : ℕ) (y : Node) → page < length s.pages → 0 < y.level
      → Lifted s.board.settings s.board.log (set s.pages page (Some y)) (set s.actors a q) × Told s.board (set s.actors a q)
  up_counts q undone early same page y lt up =
      let t = total_page s.pages page (Some y) lt in
      let none = no_lift y up in
      (lift_by s l a r there q s.board.log (set s.pages page (Some y)) (λ e. sym undone ∙ e) (omega arith), told_same s told a r there q undone early)

  -- an actor more
  pub fork_counts : Lifted s.board.settings s.board.log s.pages (set s.actors a (saw s.board r) ++ made_actor s.board r.floor ∷ []) × Told s.board (set s.actors a (saw s.board r) ++ made_actor s.board r.floor ∷ [])
  fork_counts =
      let q : Actor = saw s.board r in
      let one = quiet_counts q refl refl refl in (
        λ none. let old = one.0 (λ b t e. none b t (get_more (set s.actors a q) (made_actor s.board r.floor ∷ []) b t e)) in let n = total_more copies_of (set s.actors a q) (made_actor s.board r.floor) in omega arith,
        λ b t e. elim (get_either (set s.actors a q) (made_actor s.board r.floor) b t e) [ inl i ↦ one.1 b t i | inr i ↦ λ u v. absurd (false≢true (ap (λ (z : Actor). z.undone) i.1 ∙ u)) ],
      )

  -- the flags of two actors come together
  pub absorb_counts : (b : ℕ) (t : Actor) → b ≢ a → slice_get s.actors b ≡ Some t
      → Lifted s.board.settings s.board.log s.pages (set (set s.actors a (more_seen t r)) b (ended t)) × Told s.board (set (set s.actors a (more_seen t r)) b (ended t))
  absorb_counts b t apart its =
      let q : Actor = more_seen t r in
      let there' : slice_get (set s.actors a q) b ≡ Some t = set_else s.actors a b q apart ∙ its in
      let first : Lifted s.board.settings s.board.log s.pages (set s.actors a q) = lift_same s l a r there q (λ e. left r.undone t.undone e) refl in
      let s1 : State = record { board = s.board; shards = s.shards; pages = s.pages; actors = set s.actors a q } in
      let second : Told s.board (set s.actors a q) = told_by s told a r there q s.board.allotted s.board.settings.pages (λ e. e) (λ u v.
      let none = both r.early t.early v in
      elim (either r.undone t.undone u) [ inl x ↦ told a r there x none.0 | inr x ↦ told b t its x none.1 ]) in
      let own : slice_get (set (set s.actors a q) b (ended t)) a ≡ Some q = set_else (set s.actors a q) b a (ended t) (λ e. apart (sym e)) ∙ set_there s.actors a q r there in
      let before : NoneUndone (set (set s.actors a q) b (ended t)) → NoneUndone (set s.actors a q) = λ none. undone_was (set s.actors a q) b t (ended t) there' (λ _. (both r.undone t.undone (none a q own)).1) none in (
        λ none. let old = first (before none) in let n = total_set copies_of (set s.actors a q) b (ended t) t there' in omega arith,
        told_by s1 second b t there' (ended t) s.board.allotted s.board.settings.pages (λ e. e) (λ u v. absurd (false≢true u)),
      )
    where
      left : (x y : Bool) → cond x true y ≡ false → x ≡ false
      left true y e = e
      left false y e = refl

      both : (x y : Bool) → cond x true y ≡ false → (x ≡ false) × (y ≡ false)
      both true y e = absurd (false≢true (sym e))
      both false y e = (refl, e)

      either : (x y : Bool) → cond x true y ≡ true → (x ≡ true) ⊎ (y ≡ true)
      either true y e = inl refl
      either false y e = inr e

copied_kept : (g : Grid) (p : List ℕ) (o : Option SplitWork) → (split_or g p o).copied ≡ copied_of o
copied_kept g p None = refl
copied_kept g p (Some w) = refl

copied_more : (o : Option SplitWork) (w : SplitWork) → o ≡ Some w → copied_of (copied_to (copied_of o + 1) o) ≡ copied_of o + 1
copied_more o w e = subst (λ (z : Option SplitWork). copied_of (copied_to (copied_of z + 1) z) ≡ copied_of z + 1) (sym e) refl

copied_none : (o : Option SplitWork) → ((w : SplitWork) → o ≡ Some w → w.copied ≡ 0) → 0 ≡ copied_of o
copied_none None h = refl
copied_none (Some w) h = sym (h w refl)

above_leaves : (key child : ℕ) (node : Node) → 0 < node.level → 0 < (post_route key child node).level
above_leaves key child node up =
    let P : Bool → Type 0 = λ b. 0 < (cond b node (record node { routes = put route_cmp (record { key = key; child = child }) node.routes })).level in
    elim (has_route key node.routes) as P [ true ↦ up | false ↦ up ]

was_told : (told early : Bool) → cond told early true ≡ false → told ≡ true
was_told true early e = refl
was_told false early e = absurd (false≢true (sym e))

-- an event keeps the two that an allotment counts by
abbrev pub KeepsCounts : Event → Type 0
KeepsCounts e = (s : State) → Sound s → Lifted s.board.settings s.board.log s.pages s.actors → Told s.board s.actors → (a : ℕ) (r : Actor) → slice_get s.actors a ≡ Some r → Can s a r e
    → Lifted (after s a r e).board.settings (after s a r e).board.log (after s a r e).pages (after s a r e).actors × Told (after s a r e).board (after s a r e).actors

pub event_keeps_counts : (e : Event) → KeepsCounts e
event_keeps_counts see = λ s k l t a r there can. quiet_counts s k l t a r there _ refl refl refl
event_keeps_counts look = λ s k l t a r there can. quiet_counts s k l t a r there _ refl refl refl
event_keeps_counts no_work = λ s k l t a r there can. quiet_counts s k l t a r there _ refl refl refl
event_keeps_counts (meet page) = λ s k l t a r there can. quiet_counts s k l t a r there _ refl refl refl
event_keeps_counts (refuse why) = λ s k l t a r there can. quiet_counts s k l t a r there _ refl refl refl
event_keeps_counts (refuse_at page why) = λ s k l t a r there can. quiet_counts s k l t a r there _ refl refl refl
event_keeps_counts (visit page) = λ s k l t a r there can. quiet_counts s k l t a r there _ refl refl refl
event_keeps_counts (miss_shard n) = λ s k l t a r there can. quiet_counts s k l t a r there _ refl refl refl
event_keeps_counts (claim_shard n kept) = λ s k l t a r there can. quiet_counts s k l t a r there _ refl refl refl
event_keeps_counts (release_shard n kept) = λ s k l t a r there can. quiet_counts s k l t a r there _ refl refl refl
event_keeps_counts (reserve n kept room) = λ s k l t a r there can. quiet_counts s k l t a r there _ refl refl refl
event_keeps_counts pin = λ s k l t a r there can. quiet_counts s k l t a r there _ refl refl refl
event_keeps_counts unpin = λ s k l t a r there can. quiet_counts s k l t a r there _ refl refl refl
event_keeps_counts (claim_leaf p) = λ s k l t a r there can. quiet_counts s k l t a r there _ refl refl refl
event_keeps_counts release_leaf = λ s k l t a r there can. quiet_counts s k l t a r there _ refl refl refl
event_keeps_counts lack = λ s k l t a r there can. quiet_counts s k l t a r there _ refl refl refl
event_keeps_counts (take_sweep p) = λ s k l t a r there can. quiet_counts s k l t a r there _ refl refl refl
event_keeps_counts (take_split p) = λ s k l t a r there can. quiet_counts s k l t a r there _ refl refl refl
event_keeps_counts depart = λ s k l t a r there can. quiet_counts s k l t a r there _ refl refl refl
event_keeps_counts (start page) = λ s k l t a r there can. quiet_counts s k l t a r there _ refl refl (copied_kept (grid s.board.settings) (leaf_or r.claim) r.split)
event_keeps_counts (gather page node) = λ s k l t a r there can. quiet_counts s k l t a r there _ refl refl (copied_kept (grid s.board.settings) (leaf_or r.claim) r.split)
event_keeps_counts (give_up pages) = λ s k l t a r there can. quiet_counts s k l t a r there _ refl refl (copied_none r.split can.2)
event_keeps_counts (trim page node) = λ s k l t a r there can. less_counts s k l t a r there _ refl refl refl page node (trim_node r.floor.updates node) can.there (trimmed_less s k l t a r there r.floor.updates node)
event_keeps_counts (sweep page node) = λ s k l t a r there can. less_counts s k l t a r there _ refl refl refl page node (sweep_node (cell_range (grid s.board.settings) (sweep_leaf r.sweep)) node) can.0.there (fewer (λ e. true) node (sweep_node (cell_range (grid s.board.settings) (sweep_leaf r.sweep)) node) refl (at_most (λ z. not (is_within (cell_range (grid s.board.settings) (sweep_leaf r.sweep)) z.key)) node.entries))
event_keeps_counts (insert op id page node kept e) = λ s k l t a r there can.
    (update_lift s k l t a r there op (Insert id e.vector) _ page node (put_entry r.floor.updates e node) can.may.page_is.there (put_lift r.floor.updates e node) refl refl, told_same s t a r there _ refl refl)
event_keeps_counts (delete op id page node kept key) = λ s k l t a r there can. (
  update_lift s k l t a r there op (Delete id) _ page node (mark_entry key (length (updates_of s.board.log) + 1) node) can.may.page_is.there
      (let z = fewer (λ e. true) node (mark_entry key (length (updates_of s.board.log) + 1) node) refl (let m = length_same (with_death key (length (updates_of s.board.log) + 1)) node.entries in omega arith) in omega arith) refl refl,
  told_same s t a r there _ refl refl,
)
event_keeps_counts allot = λ s k l t a r there can.
    (lift_same s l a r there _ (λ e. e) refl, told_by s t a r there _ (s.board.allotted + 1) s.board.settings.pages (λ e. absurd (let lt = can.1 in omega arith)) (λ u v. absurd (let e = t a r there u v in let lt = can.1 in omega arith)))
event_keeps_counts (grow level key child) = λ s k l t a r there can.
    subst (λ (o : Option ℕ). Lifted s.board.settings s.board.log (set s.pages (hand o) (Some (root_node level s.board.root key child))) (set s.actors a (record (saw s.board r) { fresh = None; owed = paid child r.owed }))
    × Told s.board (set s.actors a (record (saw s.board r) { fresh = None; owed = paid child r.owed }))) (sym can.1)
    (up_counts s k l t a r there _ refl refl refl can.0 (root_node level s.board.root key child) (let m = k.pages.most in let h = ((k.each a r there).fresh can.0 can.1).0 in omega (arith, k.pages.length_is)) (let n = can.2 in omega arith))
event_keeps_counts (split_page page node) = λ s k l t a r there can. (
  subst (λ (o : Option ℕ). Lifted s.board.settings s.board.log (set (set s.pages page (Some (lower_half (hand o) node))) (hand o) (Some (upper_half node))) (set s.actors a (record r { page = page; fresh = None; owed = r.owed ++ record { level = node.level + 1; key = middle_key node; child = hand o } ∷ [] }))) (sym can.1)
      (halve_lift s k l t a r there _ refl refl page node node can.0 can.1 can.2 refl refl (omega arith) (full_before s k page node can.2 r.floor.updates can.3)),
  told_same s t a r there _ refl refl,
)
event_keeps_counts (post page node key child) = λ s k l t a r there can.
    up_counts s k l t a r there _ refl refl refl page (post_route key child node) (within s.pages page node can.0) (above_leaves key child node (let n = can.1.level in omega arith))
event_keeps_counts (copy_in page node e) = λ s k l t a r there can.
    (copy_lift s k l t a r there _ page node r.floor.updates e can.0.there refl (copied_more r.split can.1 can.2.split), told_same s t a r there _ refl refl)
event_keeps_counts (uncopy page node e told) = λ s k l t a r there can. (
  (λ none. absurd (false≢true (sym (none a _ (set_there s.actors a _ r there))))),
  told_by s t a r there _ s.board.allotted s.board.settings.pages (λ z. z) (λ u v. can.8 (was_told told r.early v)),
)
event_keeps_counts publish = λ s k l t a r there can.
    (publish_lift s k l t a r there _ can.0 can.1.split refl can.2 (leaf_or r.claim) (ap leaf_or ((k.each a r there).holds.split can.0 can.1.split)), told_same s t a r there _ refl refl)
event_keeps_counts fork = λ s k l t a r there can. fork_counts s k l t a r there
event_keeps_counts (absorb b o) = λ s k l t a r there can. absorb_counts s k l t a r there b o can.0 can.1
