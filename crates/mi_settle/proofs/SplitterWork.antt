-- What a splitter's view tells of the board: its floor, its next work, and what is left to do.
use Rattle.std.proofs.Common.{◌≡◌, ◌≢◌, ℕ, suc, zero, ◌+◌, ◌<◌, ◌≤◌, List, [], ◌∷◌, length, set, take, drop, Bool, true, false, cond, not, ◌&&◌, ◌||◌, Some, None, is_some, refl, sym, ap, ◌∙◌, subst, arith, inl, inr}
use Rattle.std.specs.Prelude.{slice_get, slice_index_or}
use Rattle.std.specs.List.{filter, find, list_any}
use Rattle.std.proofs.lemmas.Bool.{and_parts, cases_Bool, false≢true, not-true, or_left}
use Rattle.std.proofs.lemmas.List.{length-drop}
use Rattle.std.proofs.lemmas.Map.Views.{any-filter_same}
use Rattle.std.proofs.lemmas.Option.{same_Some}
use Rattle.mi_base.specs.declared.records.LogEvent.{LogEvent}
use Rattle.mi_base.specs.declared.records.Position.{Position}
use Rattle.mi_base.specs.Configuration.{Configuration}
use Rattle.mi_base.specs.History.{IsPosition, at_position, end_of, events_at, updates_of}
use Rattle.mi_board.specs.declared.actors.ActorState.{ActorState}
use Rattle.mi_board.specs.Actors.{idle, is_claim, is_claimed, with_claim}
use Rattle.mi_board.specs.Boards.{BoardState, floor_of, is_open, is_passed, leaf_claimed, next_sweep, passing, prefix_or}
use Rattle.mi_board.specs.Floors.{earliest_in}
use Rattle.mi_core.specs.Effects.{saw}
use Rattle.mi_core.specs.Events.{Can, after}
use Rattle.mi_core.specs.Events.Event.{claim_leaf, give_up, take_split}
use Rattle.mi_core.specs.Kept.{Kept}
use Rattle.mi_core.specs.State.{State, board_actor, put_actor, put_board}
use Rattle.mi_core.proofs.FloorLemmas.{least_same}
use Rattle.mi_core.proofs.KeptLemmas.{floor_position}
use Rattle.mi_core.proofs.PageLemmas.{fun_same}
use Rattle.mi_entries.specs.Actors.{Actor}
use Rattle.mi_entries.specs.Entries.{grid}
use Rattle.mi_entries.proofs.MemberLemmas.{IsOne, find_in}
use Rattle.mi_solo.specs.Viewing.{holder_from, shown_to}
use Rattle.mi_solo.proofs.SectionLemmas.{least_below}
use Rattle.mi_solo.proofs.ViewLemmas.{not_claim}
use Rattle.mi_tree.specs.declared.outcomes.Leaf.{Leaf}
use Rattle.mi_tree.specs.Catalog.{prefixes_of}
use Rattle.mi_tree.specs.Cells.{same_cell}
use Rattle.mi_tree.specs.Counting.{is_wanted}
use Rattle.mi_tree.specs.Legal.{cells_of}
use Rattle.mi_tree.proofs.CountLemmas.{any_map, cat_has}
use Rattle.mi_tree.proofs.GrowingLemmas.{end_events}
use Rattle.mi_tree.proofs.LeafLemmas.{same_cell_is, same_self}
use Rattle.mi_world.specs.Boards.{FirstFree, first_may_be_swept, is_free}
use Rattle.mi_world.specs.View.{IsFloor, View}
use Rattle.mi_settle.specs.Working.{IsIdle}
use Rattle.mi_settle.specs.Splitters.{leaves_left}

-- two positions of a log with as many events are one
same_position : (log : List LogEvent) (p q : Position) → IsPosition log p → IsPosition log q → events_at p ≡ events_at q → p ≡ q
same_position log p q a b e =
    let updates : p.updates ≡ q.updates = sym a.updates ∙ ap (λ (n : ℕ). length (updates_of (take n log))) e ∙ b.updates in
    let splits : p.splits ≡ q.splits = omega (arith, e, updates) in
    let at : ℕ → ℕ → Position = λ n m. record { updates = n; splits = m } in
    ap (λ (n : ℕ). at n p.splits) updates ∙ ap (λ (n : ℕ). at q.updates n) splits

none_next : (v : View) (ps : List (List ℕ)) → first_may_be_swept v ps ≡ false → earliest_in (at_position v.seen v.floor) ps ≡ None
none_next v [] h = refl
none_next v (p ∷ ps) h = ap (λ b. cond b (Some p) None) h

-- some actor holds a leaf that is claimed
held_claimed : (n : ℕ) (l : List ActorState) (p : List ℕ) → is_some (holder_from n l p) ≡ is_claimed p l
held_claimed n [] p = refl
held_claimed n (x ∷ l) p =
    let P : Bool → Type 0 = λ b. is_some (cond b (Some n) (holder_from (n + 1) l p)) ≡ (b || is_claimed p l) in
    elim (is_claim p x.claim) as P [ true ↦ refl | false ↦ held_claimed (n + 1) l p ]

-- one actor's claim is of no other leaf
holder_else : (n : ℕ) (l : List ActorState) (p : List ℕ) (i : ℕ) (y : ActorState) → is_claim p y.claim ≡ false → is_claim p (slice_index_or l i idle).claim ≡ false → holder_from n (set l i y) p ≡ holder_from n l p
holder_else n [] p i y h o = refl
holder_else n (x ∷ l) p zero y h o = rw (h, o) refl
holder_else n (x ∷ l) p (suc i) y h o = ap (λ z. cond (is_claim p x.claim) (Some n) z) (holder_else (n + 1) l p i y h o)

module _ (t : State) (k : Kept t) (a : ℕ) (q : Actor) (there : slice_get t.actors a ≡ Some q) (floor : IsFloor (shown_to t a q) q.floor) where
  -- the floor that a view tells is the board's
  pub floor_is : q.floor ≡ floor_of t.board
  floor_is =
      let saw = (k.sound.each a q there).saw in
      let of_board = floor_position t k.sound in
      let least : events_at (floor_of t.board) ≤ events_at q.floor = elim floor.is [
        | inl end ↦ omega (arith, of_board.within, ap events_at end, end_events t.board.log)
        | inr pin ↦ least_below (end_of t.board.log) t.board.actors pin.0 q.floor pin.1
      ] in
      same_position t.board.log q.floor (floor_of t.board) saw.floor of_board (omega (arith, least, saw.low))

  pub nothing_to_sweep : first_may_be_swept (shown_to t a q) t.board.retired ≡ false → next_sweep t.board ≡ None
  nothing_to_sweep h = ap (λ f. earliest_in (at_position t.board.log f) t.board.retired) (sym floor_is) ∙ none_next (shown_to t a q) t.board.retired h

  -- a leaf is open exactly where it is free by the claims of the board
  open_free : is_open t.board ≡ is_free (shown_to t a q) (holder_from 0 t.board.actors)
  open_free = fun_same _ _ (λ (l : Leaf).
      ap (λ b. is_wanted t.board.settings.levels t.board.settings.cell l && (not b && not (is_passed l.prefix t.board))) (sym (held_claimed 0 t.board.actors l.prefix)))

  pub idle_is : first_may_be_swept (shown_to t a q) t.board.retired ≡ false
      → find (is_free (shown_to t a q) (holder_from 0 t.board.actors)) (cells_of t.board.settings t.board.log) ≡ None → IsIdle t.board
  idle_is h none = record {
    no_sweep = nothing_to_sweep h;
    no_split = ap (λ f. find f (cells_of t.board.settings t.board.log)) open_free ∙ none;
  }

-- a claim of the leaf that is next is the splitter's
module _ (s : State) (k : Kept s) (a : ℕ) (r q : Actor) (there : slice_get s.actors a ≡ Some r) (leaf : Leaf) (can : Can s a r (claim_leaf leaf.prefix)) (kept : Kept (after s a r (claim_leaf leaf.prefix)))
    (q_is : q ≡ record (saw s.board r) { claim = Some leaf.prefix }) (now : slice_get (after s a r (claim_leaf leaf.prefix)).actors a ≡ Some q)
    (floor : IsFloor (shown_to (after s a r (claim_leaf leaf.prefix)) a q) q.floor) (not_swept : first_may_be_swept (shown_to (after s a r (claim_leaf leaf.prefix)) a q) s.board.retired ≡ false)
    (first : FirstFree (shown_to (after s a r (claim_leaf leaf.prefix)) a q) leaf) where
  abbrev t : State
  t = after s a r (claim_leaf leaf.prefix)

  floor_then : r.floor ≡ floor_of s.board
  floor_then = ap (λ (x : Actor). x.floor) (sym q_is) ∙ floor_is t kept a q now floor ∙ least_same (with_claim leaf.prefix) (λ x. refl) (end_of s.board.log) s.board.actors a

  no_sweep_then : next_sweep s.board ≡ None
  no_sweep_then =
      ap (λ f. earliest_in (at_position s.board.log f) s.board.retired) (sym (ap (λ (x : Actor). x.floor) q_is ∙ floor_then)) ∙ none_next (shown_to t a q) s.board.retired not_swept

  claims_same : (l : Leaf) → is_claimed l.prefix s.board.actors ≡ is_some (first.before l.prefix)
  claims_same l = elim (cases_Bool (same_cell l.prefix leaf.prefix)) [
    | inl same ↦
        let p : l.prefix ≡ leaf.prefix = same_cell_is l.prefix leaf.prefix same in
        let free = (find_in (is_free (shown_to t a q) first.before) (cells_of s.board.settings s.board.log) leaf first.first).0 in
        let parts = (and_parts (not (is_some (first.before leaf.prefix))) _ (and_parts (is_wanted s.board.settings.levels s.board.settings.cell leaf) _ free).1).0 in
        ap (λ z. is_claimed z s.board.actors) p ∙ can.unclaimed ∙ sym (not-true (is_some (first.before leaf.prefix)) parts) ∙ ap (λ z. is_some (first.before z)) (sym p)
    | inr other ↦
        let apart : l.prefix ≢ leaf.prefix = λ e. false≢true (sym other ∙ ap (same_cell l.prefix) (sym e) ∙ same_self l.prefix) in
        let none : (board_actor s.board a).claim ≡ None = (k.sound.each a r there).holds.claim ∙ can.free.claim in
        sym (held_claimed 0 s.board.actors l.prefix)
        ∙ ap is_some (sym (first.others l.prefix apart ∙ holder_else 0 s.board.actors l.prefix a (with_claim leaf.prefix (board_actor s.board a))
        (not_claim l.prefix (Some leaf.prefix) (λ e. apart (sym (same_Some leaf.prefix l.prefix e)))) (ap (is_claim l.prefix) none)))
  ]

  open_then : is_open s.board ≡ is_free (shown_to t a q) first.before
  open_then = fun_same _ _ (λ (l : Leaf). ap (λ b. is_wanted s.board.settings.levels s.board.settings.cell l && (not b && not (is_passed l.prefix s.board))) (claims_same l))

  pub may_take : Can s a r (take_split leaf.prefix)
  may_take = (can.free, no_sweep_then, leaf, ap (λ f. find f (cells_of s.board.settings s.board.log)) open_then ∙ first.first, refl)

  pub same_taken : after s a r (claim_leaf leaf.prefix) ≡ after s a r (take_split leaf.prefix)
  same_taken =
      let board : BoardState = t.board in
      ap (λ (f : Position). put_actor a (record r { seen = length s.board.log; floor = f; claim = Some leaf.prefix }) (put_board board s)) floor_then

-- the first of the leaves that are to be swept is taken off
pub drops_one : (retired qs : List (List ℕ)) (p : List ℕ) → retired ≡ p ∷ qs → length (drop 1 retired) + 1 ≡ length retired
drops_one retired qs p e = omega (arith, length-drop 1 retired, ap length e)

-- what is left to do, where nothing changes that it depends on
pub same_left : (b d : BoardState) → d.settings ≡ b.settings → d.log ≡ b.log → d.passed_over ≡ b.passed_over → leaves_left d + length b.retired ≡ leaves_left b + length d.retired
same_left b d settings log passed =
    let L : Configuration → List LogEvent → List (List ℕ) → ℕ = λ c log passed. length (filter (λ (l : Leaf). not (list_any (same_cell l.prefix) passed)) (cells_of c log)) in
    let same : L d.settings d.log d.passed_over ≡ L b.settings b.log b.passed_over =
    ap (λ c. L c d.log d.passed_over) settings ∙ ap (λ l. L b.settings l d.passed_over) log ∙ ap (λ ps. L b.settings b.log ps) passed in
    omega (arith, same)

module _ {X : Type 0} (f g : X → Bool) where
  no_more : (xs : List X) → ((x : X) → IsOne x xs → f x ≡ true → g x ≡ true) → length (filter f xs) ≤ length (filter g xs)
  no_more [] sub = omega arith
  no_more (x ∷ xs) sub =
      let rest = no_more xs (λ y i. sub y (inr i)) in
      let P : Bool → Type 0 = λ b. f x ≡ b → length (cond b (x ∷ filter f xs) (filter f xs)) ≤ length (cond (g x) (x ∷ filter g xs) (filter g xs)) in
      (elim (f x) as P [
        | true ↦ λ e. subst (λ b. suc (length (filter f xs)) ≤ length (cond b (x ∷ filter g xs) (filter g xs))) (sym (sub x (inl refl) e)) (omega (arith, rest))
        | false ↦ λ e. cond_more (g x) x (filter f xs) (filter g xs) rest
      ]) refl
    where
      cond_more : (b : Bool) (x : X) (ys zs : List X) → length ys ≤ length zs → length ys ≤ length (cond b (x ∷ zs) zs)
      cond_more true x ys zs h = omega (arith, h)
      cond_more false x ys zs h = h

  fewer : (xs : List X) → ((x : X) → IsOne x xs → f x ≡ true → g x ≡ true) → (x : X) → IsOne x xs → g x ≡ true → f x ≡ false → length (filter f xs) < length (filter g xs)
  fewer [] sub x i gx fx = absurd i
  fewer (y ∷ xs) sub x (inl e) gx fx =
      let rest = no_more xs (λ z i. sub z (inr i)) in
      let gy : g y ≡ true = ap g e ∙ gx in
      let fy : f y ≡ false = ap f e ∙ fx in
      rw (gy, fy) (omega (arith, rest))
  fewer (y ∷ xs) sub x (inr i) gx fx =
      let rest = fewer xs (λ z j. sub z (inr j)) x i gx fx in
      let P : Bool → Type 0 = λ b. f y ≡ b → length (cond b (y ∷ filter f xs) (filter f xs)) < length (cond (g y) (y ∷ filter g xs) (filter g xs)) in
      (elim (f y) as P [
        | true ↦ λ e. subst (λ b. suc (length (filter f xs)) < length (cond b (y ∷ filter g xs) (filter g xs))) (sym (sub y (inl refl) e)) (omega (arith, rest))
        | false ↦ λ e. cond_less (g y) y (filter f xs) (filter g xs) rest
      ]) refl
    where
      cond_less : (b : Bool) (x : X) (ys zs : List X) → length ys < length zs → length ys < length (cond b (x ∷ zs) zs)
      cond_less true x ys zs h = omega (arith, h)
      cond_less false x ys zs h = h

any_one : {X : Type 0} (t : X → Bool) (xs : List X) → list_any t xs ≡ true → (x : X) × IsOne x xs × (t x ≡ true)
any_one t [] h = absurd (false≢true h)
any_one t (x ∷ xs) h =
    let P : Bool → Type 0 = λ b. t x ≡ b → (b || list_any t xs) ≡ true → (y : _) × IsOne y (x ∷ xs) × (t y ≡ true) in
    (elim (t x) as P [ true ↦ λ e _. (x, inl refl, e) | false ↦ λ e h. let r = any_one t xs h in (r.0, inr r.1, r.2) ]) refl h

one_any : {X : Type 0} (t : X → Bool) (xs : List X) (x : X) → IsOne x xs → t x ≡ true → list_any t xs ≡ true
one_any t [] x i e = absurd i
one_any t (y ∷ xs) x (inl same) e = or_left (t y) (list_any t xs) (ap t same ∙ e)
one_any t (y ∷ xs) x (inr i) e = rw (one_any t xs x i e) (either (t y))
  where
    either : (b : Bool) → (b || true) ≡ true
    either true = refl
    either false = refl

-- a leaf that is given up for want of pages is passed over beside those that were
module _ (s : State) (k : Kept s) (a : ℕ) (r : Actor) (there : slice_get s.actors a ≡ Some r) (p : List ℕ) (claim : r.claim ≡ Some p) where
  abbrev cells : List Leaf
  cells = cells_of s.board.settings s.board.log

  abbrev given : BoardState
  given = (after s a r (give_up true)).board

  passes : (q : List ℕ) → list_any (same_cell q) (prefixes_of cells) ≡ true → (same_cell p q || is_passed q s.board) ≡ true → is_passed q given ≡ true
  passes q leaf either =
      let mine : leaf_claimed s.board a ≡ p = ap prefix_or ((k.sound.each a r there).holds.claim ∙ claim) in
      ap (λ z. list_any (same_cell q) (passing z s.board)) mine
      ∙ any-filter_same (same_cell q) (λ z. same_cell p z || is_passed z s.board) true (λ z e. ap (λ x. same_cell p x || is_passed x s.board) (sym (same_cell_is q z e)) ∙ either) (prefixes_of cells)
      ∙ leaf

  pub passes_one : is_passed p s.board ≡ false → leaves_left given < leaves_left s.board
  passes_one unpassed =
      let has = any_one (λ (l : Leaf). same_cell p l.prefix) cells (cat_has (grid s.board.settings) s.board.log p ∙ (k.sound.each a r there).holds.leaf p claim) in
      let is : p ≡ has.0.prefix = same_cell_is p has.0.prefix has.2 in
      let listed : (l : Leaf) → IsOne l cells → list_any (same_cell l.prefix) (prefixes_of cells) ≡ true = λ l i.
      any_map (same_cell l.prefix) (λ (x : Leaf). x.prefix) cells ∙ one_any (λ (x : Leaf). same_cell l.prefix x.prefix) cells l i (same_self l.prefix) in
      let less = fewer (λ (l : Leaf). not (is_passed l.prefix given)) (λ (l : Leaf). not (is_passed l.prefix s.board)) cells
      (λ l i e. elim (cases_Bool (is_passed l.prefix s.board)) [
        | inl was ↦
            let now = passes l.prefix (listed l i) (rw was (either (same_cell p l.prefix))) in
            absurd (false≢true (ap not (sym now) ∙ e))
        | inr not_yet ↦ ap not not_yet
      ]) has.0 has.1 (ap (λ z. not (is_passed z s.board)) (sym is) ∙ ap not unpassed)
      (ap not (passes has.0.prefix (listed has.0 has.1) (or_left (same_cell p has.0.prefix) (is_passed has.0.prefix s.board) has.2))) in
      omega (arith, less)
    where
      either : (b : Bool) → (b || true) ≡ true
      either true = refl
      either false = refl
