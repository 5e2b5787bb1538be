-- What sections of routes owe to hands and pages, and what they make of the state.
use Rattle.std.proofs.Common.{◌≡◌, ◌≢◌, ℕ, ◌<◌, ◌≤◌, ◌==◌, length, get_or, set, cond, true, false, refl, sym, ap, ◌∙◌, subst, arith, Some, None, inl, inr}
use Rattle.std.specs.Prelude.{Bool}
use Rattle.std.proofs.lemmas.Bool.{cases_lt, ne_eqb}
use Rattle.std.proofs.lemmas.List.{length-map}
use Rattle.mi_board.specs.Boards.{BoardState, grown}
use Rattle.mi_core.specs.Effects.{paid, saw, trim_leaf, trim_node}
use Rattle.mi_core.specs.Events.{Can, hand}
use Rattle.mi_core.specs.Events.Event.{grow}
use Rattle.mi_core.specs.Kept.{Kept}
use Rattle.mi_entries.specs.Actors.{Actor}
use Rattle.mi_key.specs.declared.entries.Entry.{Entry}
use Rattle.mi_page.specs.declared.routes.Route.{Route}
use Rattle.mi_page.specs.Nodes.{IsNode, Node, item_count, root_node}
use Rattle.mi_solo.specs.declared.cores.Core.{Core}
use Rattle.mi_solo.specs.declared.rows.ActorRow.{ActorRow}
use Rattle.mi_solo.specs.InHand.{InHand}
use Rattle.mi_solo.specs.States.{Does, actor_in, actor_of, actors_of, state_of}
use Rattle.mi_solo.proofs.CoreLemmas.{comes_to, log_of, row_is, suits}

-- a page of routes isn't trimmed
pub routes_stay : (floor : ℕ) (n : Node) → 0 < n.level → trim_leaf floor n ≡ n
routes_stay floor n h = ap (λ b. cond b (trim_node floor n) n) (ne_eqb n.level 0 (λ e. absurd (omega arith)))

pub trims_level : (floor : ℕ) (n : Node) → (trim_leaf floor n).level ≡ n.level
trims_level floor n = let P : Bool → Type 0 = λ b. (cond b (trim_node floor n) n).level ≡ n.level in elim (n.level == 0) as P [ true ↦ refl | false ↦ refl ]

count_entries : (n : Node) → IsNode n → length n.entries ≤ 32
count_entries n h = subst (λ l. l ≤ 32) (length-map n.entries (λ (x : Entry). x.key)) h.entries.few

count_routes : (n : Node) → IsNode n → length n.routes ≤ 32
count_routes n h = subst (λ l. l ≤ 32) (length-map n.routes (λ (x : Route). x.key)) h.routes.few

-- a page has at most 32 items
pub few_items : (n : Node) → IsNode n → item_count n ≤ 32
few_items n h = elim (cases_lt 0 n.level) [
  | inl lt ↦ (let none : length n.entries ≡ 0 = ap length (h.inner lt) in let few = count_routes n h in omega arith)
  | inr le ↦ (let zero : n.level ≡ 0 = omega arith in let none : length n.routes ≡ 0 = ap length (h.leaf zero) in let few = count_entries n h in omega arith)
]

pub few_routes : (n : Node) → IsNode n → 0 < n.level → item_count n ≢ 32 → length n.routes < 32
few_routes n h inner other = let none : length n.entries ≡ 0 = ap length (h.inner inner) in let few = count_routes n h in omega arith

-- an actor's fresh page is that in its hand, and there is a place for it
module _ (c : Core) (a : ℕ) (known : a < length c.actors.items) (k : Kept (state_of c)) (row : ActorRow) (at : row ≡ get_or c.actors.items a row) where
  pub fresh_is : (actor_in (state_of c) a).fresh ≡ row.hand.fresh
  fresh_is = ap (λ (r : Actor). r.fresh) (row_is c a known row at)

  module _ (p : ℕ) (in_hand : Some p ≡ row.hand.fresh) where
    pub has_fresh : (actor_in (state_of c) a).fresh ≡ Some p
    has_fresh = fresh_is ∙ sym in_hand

    pub has_place : p < length c.pages.items
    has_place = let low = ((suits c a known k).fresh p has_fresh).0 in omega (arith, low, k.sound.pages.most, k.sound.pages.length_is)

    -- the page in hand is the root now
    pub root_is_grown : (level key child : ℕ) → Can (state_of c) a (actor_in (state_of c) a) (grow level key child) → (b : BoardState) → b ≡ grown level p c.board → (root : Node) → root ≡ root_node level c.board.root key child
        → (held : InHand) → held ≡ record { fresh = None; owed = paid child row.hand.owed } → (new : ActorRow) → new ≡ record row { seen = length b.log; hand = held }
        → Does (state_of c) a (grow level key child) (record { board = b; shards = c.shards.items; pages = set c.pages.items p (Some root); actors = actors_of b.settings b.log 0 (set c.actors.items a new) })
    root_is_grown level key child can b is root root_is held held_is new e =
        let n : p ≡ hand (actor_in (state_of c) a).fresh = ap hand (sym has_fresh) in
        let to = grown level (hand (actor_in (state_of c) a).fresh) c.board in
        let becomes : b ≡ to = is ∙ ap (λ m. grown level m c.board) n in
        record {
          can = can;
          is = comes_to c a known row at b to becomes refl (λ m o. refl) c.shards.items c.shards.items refl
              (set c.pages.items p (Some root)) (set c.pages.items (hand (actor_in (state_of c) a).fresh) (Some (root_node level c.board.root key child)))
              (ap (λ x. set c.pages.items p (Some x)) root_is ∙ ap (λ m. set c.pages.items m (Some (root_node level c.board.root key child))) n)
              new (λ (r : Actor). record (saw c.board r) { fresh = None; owed = paid child r.owed })
              (ap (actor_of c.board.settings c.board.log a) e ∙ log_of c.board.settings c.board.log b to becomes a (λ m. record row { seen = m; hand = held }) ∙ ap (λ h. actor_of c.board.settings c.board.log a (record row { seen = length c.board.log; hand = h })) held_is);
        }
