-- The linked pages of a state: its pages by number, the chain of each level, and the hands.
use Rattle.std.specs.Prelude.{◌≡◌, ◌≤◌, ℕ, ◌==◌, List, ◌∷◌, Bool, false, length, Option, Some, None}
use Rattle.mi_page.specs.Nodes.{Node, fresh_node}
use Rattle.mi_forest.specs.Forests.{Forest, IsForest, IsLinked}
use Rattle.mi_board.specs.Boards.{BoardState}
use Rattle.mi_core.specs.State.{count_if, node_at}
use Rattle.mi_entries.specs.Actors.{Actor}

-- a page that isn't linked is fresh
abbrev pub node_or_fresh : Option Node → Node
node_or_fresh None = fresh_node
node_or_fresh (Some n) = n

-- a hand has this page
abbrev pub is_page : ℕ → Option ℕ → Bool
is_page p None = false
is_page p (Some q) = q == p

-- an actor has this page in its hand
abbrev pub has_page : ℕ → Actor → Bool
has_page p r = is_page p r.fresh

-- the pages by number with the chain of each level; a page is held as often as actors have it in hand
abbrev pub forest_of : BoardState → List (Option Node) → List Actor → (ℕ → List ℕ) → Forest
forest_of b pages actors chain = record {
  node = λ p. node_or_fresh (node_at pages p);
  chain = chain;
  root = b.root;
  allotted = b.allotted;
  held = λ p. count_if (has_page p) actors;
}

-- levels, ranges, right siblings and routes; each allotted page is linked once or in one hand, and no other is
pub record ArePages (b : BoardState) (pages : List (Option Node)) (actors : List Actor) (chain : ℕ → List ℕ) : Type 0 where
  pub forest : IsForest (forest_of b pages actors chain)
  pub linked : (p : ℕ) (n : Node) → node_at pages p ≡ Some n → IsLinked (forest_of b pages actors chain) p
  -- a linked page is there
  pub there : (p : ℕ) → IsLinked (forest_of b pages actors chain) p → (n : Node) × (node_at pages p ≡ Some n)
  pub height : (node_or_fresh (node_at pages b.root)).level ≡ b.height
  pub length_is : length pages ≡ b.settings.pages
  pub most : b.allotted ≤ b.settings.pages
  -- a leaf is passed over only where all pages are allotted
  pub passed_over : (p : List ℕ) (ps : List (List ℕ)) → b.passed_over ≡ p ∷ ps → b.allotted ≡ b.settings.pages
