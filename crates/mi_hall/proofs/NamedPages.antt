-- The pages that a pass was told of have their words in the table; and what a page in hand names.
use Rattle.std.proofs.Common.{◌≡◌, ℕ, suc, zero, ◌+◌, ◌<◌, ◌==◌, ◌||◌, List, [], ◌∷◌, ◌++◌, map, Bool, true, false, cond, IsTrue, inl, inr, ⊎_elim, refl, sym, ap, ◌∙◌, subst, arith, Option, Some, None, eqb-true, eq-eqb}
use Rattle.std.specs.Prelude.{slice_get}
use Rattle.std.proofs.lemmas.Bool.{false≢true}
use Rattle.std.proofs.lemmas.Option.{none-some, same_Some}
use Rattle.atomic_table.specs.Seated.{TableId}
use Rattle.atomic_table.specs.Table.{rest}
use Rattle.mi_base.specs.Configuration.{Configuration}
use Rattle.mi_board.specs.Boards.{BoardState}
use Rattle.mi_core.specs.Named.{IsNamed, Named}
use Rattle.mi_core.specs.State.{State}
use Rattle.mi_core.proofs.PageLemmas.{within}
use Rattle.mi_latch.specs.Naming.{child_by, names_of, sibling_of}
use Rattle.mi_latch.specs.declared.slots.Slot.TheVariants.{OfBoard}
use Rattle.mi_latch.specs.Takes.{Finds, see_none, took}
use Rattle.mi_latch.specs.Views.{Held, IsOne, Seated, newcomer}
use Rattle.mi_latch.proofs.BoardTold.{found_board, root_there}
use Rattle.mi_latch.proofs.PageNames.{one_of_either}
use Rattle.mi_page.specs.Keys.{is_below}
use Rattle.mi_page.specs.Nodes.{Node}
use Rattle.mi_page.specs.Routes.{IsChild}
use Rattle.mi_page.specs.declared.routes.Route.{Route}
use Rattle.mi_solo.specs.declared.rows.ActorRow.{ActorRow}
use Rattle.mi_solo.specs.Seeking.{EndsBefore}
use Rattle.mi_hall.specs.Knowledge.{is_named, level_of, low_of}
use Rattle.mi_hall.specs.Passes.{AreNear, PassState, giving}
use Rattle.mi_hall.proofs.KnowledgeLemmas.{first_named, more_named}

-- a named page is one of those that it was told of
pub named_one : (names : List Named) (page : ℕ) → IsTrue (is_named names page) → (y : Named) × (y.page ≡ page) × IsOne y names
named_one [] page h = absurd (false≢true h)
named_one (x ∷ names) page h =
    let P : Bool → Type 0 = λ b. x.page == page ≡ b → IsTrue (b || is_named names page) → (y : Named) × (y.page ≡ page) × IsOne y (x ∷ names) in
    (elim (x.page == page) as P [
      | true ↦ λ is _. (x, eqb-true x.page page is, inl refl)
      | false ↦ λ _ later. let z = named_one names page later in (z.0, z.1, inr z.2)
    ]) refl h

-- of such a page, the level and the low key that are known of it
pub named_as : (names : List Named) (page : ℕ) → IsTrue (is_named names page) → (y : Named) × (y.page ≡ page) × IsOne y names × (y.level ≡ level_of names page) × (y.low ≡ low_of names page)
named_as [] page h = absurd (false≢true h)
named_as (x ∷ names) page h =
    let P : Bool → Type 0 = λ b. x.page == page ≡ b → IsTrue (b || is_named names page)
    → (y : Named) × (y.page ≡ page) × IsOne y (x ∷ names) × (y.level ≡ cond b x.level (level_of names page)) × (y.low ≡ cond b x.low (low_of names page)) in
    (elim (x.page == page) as P [
      | true ↦ λ is _. (x, eqb-true x.page page is, inl refl, refl, refl)
      | false ↦ λ _ later. let z = named_as names page later in (z.0, z.1, inr z.2, z.3, z.4)
    ]) refl h

-- so it has a word
pub named_near : (words pages : ℕ) (names : List Named) → AreNear words names → words ≡ pages + 17 → (page : ℕ) → IsTrue (is_named names page) → page < pages
named_near words pages names near is page h = let z = named_one names page h in let n = near z.0 z.2 in omega (arith, n, z.1, is)

-- a page that is linked in a state of the table has a word
pub linked_near : (settings : Configuration) (c : State) → Held settings c → (words : ℕ) → words ≡ settings.pages + 17 → (x : Named) → IsNamed c.pages x → x.page + 17 < words
linked_near settings c held words is x h =
    let few = within c.pages x.page h.node h.there in
    omega (arith, few, held.kept.sound.pages.length_is, ap (λ (s : Configuration). s.pages) held.same, is)

-- pages that are linked then are told of beside others
pub more_near : (settings : Configuration) (c : State) → Held settings c → (words : ℕ) → words ≡ settings.pages + 17 → (names more : List Named) → ((x : Named) → IsOne x names → IsNamed c.pages x) → AreNear words more → AreNear words (names ++ more)
more_near settings c held words is names more linked near x one = ⊎_elim (λ h. linked_near settings c held words is x (linked x h)) (λ h. near x h) (one_of_either names more x one)

-- the child of a page for a key is among the pages that it names
child_in : (level : ℕ) (routes : List Route) (i : ℕ) (route : Route) → slice_get routes i ≡ Some route → IsTrue (is_named (map (child_by level) routes) route.child)
child_in level [] i route e = absurd (none-some route e)
child_in level (x ∷ routes) zero route e =
    let same : x ≡ route = same_Some x route e in
    rw (eq-eqb x.child route.child (ap (λ (z : Route). z.child) same)) refl
child_in level (x ∷ routes) (suc i) route e =
    let P : Bool → Type 0 = λ b. IsTrue (b || is_named (map (child_by level) routes) route.child) in
    elim (x.child == route.child) as P [ true ↦ refl | false ↦ child_in level routes i route e ]

pub names_child : (n : Node) (key child : ℕ) → IsChild key n.routes child → IsTrue (is_named (names_of n) child)
names_child n key child h =
    subst (λ p. IsTrue (is_named (names_of n) p)) (sym h.is)
    (more_named (sibling_of n.level n.right n.high) (map (child_by n.level) n.routes) h.route.child (child_in n.level n.routes h.place h.route h.there))

-- and so is its right sibling, where it has an end
pub names_right : (n : Node) (high next : ℕ) → n.high ≡ Some high → n.right ≡ Some next → IsTrue (is_named (names_of n) next)
names_right n high next end right =
    let here : IsTrue (is_named (sibling_of n.level n.right n.high) next) = rw (right, end, eq-eqb next next refl) refl in
    first_named (sibling_of n.level n.right n.high) (map (child_by n.level) n.routes) next here

pub names_after : (n : Node) (key next : ℕ) → EndsBefore n key next → IsTrue (is_named (names_of n) next)
names_after n key next h = go n.high refl
  where
    go : (o : Option ℕ) → n.high ≡ o → IsTrue (is_named (names_of n) next)
    go None e = absurd (false≢true (sym h.past ∙ ap (λ z. is_below z key) e))
    go (Some high) e = names_right n high next e h.right

-- the root of a board that is given back with the root that it had has a word too
pub given_near : (settings : Configuration) (old m new : Seated) (made : ActorRow) (told : Bool) (b board : BoardState) (words : ℕ) → old.0.live ≡ true → m ≡ took see_none old 0 (OfBoard b) → Finds settings old.0 0 (OfBoard b)
    → new ≡ (giving m.0 made board told (rest m.0.out), rest m.1) → board.root ≡ b.root → words ≡ settings.pages + 17 → AreNear words old.0.mine.named → AreNear words new.0.mine.named
given_near settings old m new made told b board words live is f gave root many near =
    let x = found_board settings old.0 b live f in
    let on : Named = record { page = b.root; level = b.height; low = 0 } in
    let n = linked_near settings x.core x.held words many on (root_there b x.core x.held.kept x.board on (inl refl)) in
    subst (λ (z : Seated). AreNear words z.0.mine.named) (sym (gave ∙ ap (λ (z : Seated). let y : Seated = (giving z.0 made board told (rest z.0.out), rest z.1) in y) is))
    (λ y one. ⊎_elim (λ h. omega (arith, n, root, ap (λ (z : Named). z.page) h)) (λ h. near y h) one)

-- page 0 has a word
pub first_near : (settings : Configuration) (me : Seated) (words : ℕ) → me ≡ (newcomer settings, []) → 17 < words → AreNear words me.0.mine.named
first_near settings me words is some = subst (λ (z : Seated). AreNear words z.0.mine.named) (sym is) (λ x one. ⊎_elim (λ h. omega (arith, some, ap (λ (z : Named). z.page) h)) (λ h. absurd h) one)

-- after a section of the board that leaves the root what it was
pub board_near : (settings : Configuration) (old m new : Seated) (made : ActorRow) (told : Bool) (b board : BoardState) (was table its : TableId) (seen : PassState) → old.0.live ≡ true → m ≡ took see_none old 0 (OfBoard b) → Finds settings old.0 0 (OfBoard b)
    → new ≡ (giving m.0 made board told (rest m.0.out), rest m.1) → board.root ≡ b.root → its.words ≡ settings.pages + 17 → record { sight = old.0; table = was } ≡ seen → seen.table ≡ its → table ≡ was → AreNear was.words old.0.mine.named → AreNear table.words new.0.mine.named
board_near settings old m new made told b board was table its seen live is f gave root many same fits stays near =
    let one : was ≡ its = ap (λ (z : PassState). z.table) same ∙ fits in
    subst (λ (t : TableId). AreNear t.words new.0.mine.named) (sym stays)
    (given_near settings old m new made told b board was.words live is f gave root (ap (λ (t : TableId). t.words) one ∙ many) near)
