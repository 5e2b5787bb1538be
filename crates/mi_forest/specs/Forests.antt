-- Linked pages (after Lehman and Yao, 1981): on each level a chain from the lowest key on, and routes from each level to the one below.
use Rattle.std.specs.Prelude.{◌≡◌, ◌<◌, ◌≤◌, ◌+◌, ◌==◌, ℕ, zero, suc, List, [], ◌∷◌, length, true, cond, nat_lt, Option, Some, None, IsTrue}
use Rattle.std.specs.List.{AllByRecursion, flat_map}
use Rattle.mi_base.specs.Prefixes.{has}
use Rattle.mi_key.specs.declared.entries.Entry.{Entry}
use Rattle.mi_page.specs.declared.routes.Route.{Route}
use Rattle.mi_page.specs.Keys.{IsInside, is_below}
use Rattle.mi_page.specs.Nodes.{Node, IsNode, fresh_node}

-- pages by number, the numbers of each level's pages from left to right, the root, how many pages are allotted, and how many hands
-- have a page
pub record Forest : Type 0 where
  pub node : ℕ → Node
  pub chain : ℕ → List ℕ
  pub root : ℕ
  pub allotted : ℕ
  pub held : ℕ → ℕ

-- the first page of a chain, and its low key
abbrev pub head : List ℕ → Option ℕ
head [] = None
head (n ∷ ns) = Some n

abbrev pub head_low : (ℕ → Node) → List ℕ → Option ℕ
head_low node [] = None
head_low node (n ∷ ns) = Some (node n).low

-- a page of a level, to the right of which the rest of its chain stands
pub record Stands (node : ℕ → Node) (level n : ℕ) (rest : List ℕ) : Type 0 where
  pub page : IsNode (node n)
  pub height : (node n).level ≡ level
  pub right : (node n).right ≡ head rest
  pub high : (node n).high ≡ head_low node rest
  pub wide : IsTrue (is_below (node n).high (node n).low)

-- each page of a level stands before the next
abbrev pub IsChain : (ℕ → Node) → ℕ → List ℕ → Type 0
IsChain node level [] = Unit {0}
IsChain node level (n ∷ rest) = Stands node level n rest × IsChain node level rest

-- the page stands in the chain of its level
abbrev pub IsLinked : Forest → ℕ → Type 0
IsLinked f n = has n (f.chain (f.node n).level) ≡ true

-- a route of a page of this level leads to a linked page one level lower, whose low key it has
pub record LeadsDown (f : Forest) (level : ℕ) (r : Route) : Type 0 where
  pub linked : IsLinked f r.child
  pub height : (f.node r.child).level + 1 ≡ level
  pub low : (f.node r.child).low ≡ r.key

-- how often a number stands in a list
abbrev pub occurrence : ℕ → ℕ → ℕ
occurrence n m = cond (m == n) 1 0

abbrev pub occurrences : ℕ → List ℕ → ℕ
occurrences n [] = 0
occurrences n (m ∷ ms) = occurrence n m + occurrences n ms

-- what holds of linked pages between any two events
pub record IsForest (f : Forest) : Type 0 where
  pub chains : (level : ℕ) → IsChain f.node level (f.chain level)
  pub first : head (f.chain 0) ≡ Some 0
  pub lowest : (level n : ℕ) → head (f.chain level) ≡ Some n → (f.node n).low ≡ 0
  pub routes : (n : ℕ) → IsLinked f n → AllByRecursion (LeadsDown f (f.node n).level) (f.node n).routes
  pub full : (n : ℕ) → IsLinked f n → 0 < (f.node n).level → 1 < length (f.chain (f.node n).level) → 16 ≤ length (f.node n).routes
  pub pairs : (level : ℕ) → 0 < length (f.chain (level + 1)) → 1 < length (f.chain level)
  pub root : head (f.chain (f.node f.root).level) ≡ Some f.root
  pub top : (level : ℕ) → (f.node f.root).level < level → f.chain level ≡ []
  pub once : (n : ℕ) → occurrences n (f.chain (f.node n).level) + f.held n ≡ cond (nat_lt n f.allotted) 1 0
  pub fresh : (n : ℕ) → 0 < f.held n → f.node n ≡ fresh_node

-- the first page alone
abbrev pub first_chain : ℕ → List ℕ
first_chain zero = 0 ∷ []
first_chain (suc level) = []

-- page 0 alone, which is the root
abbrev pub first_forest : Forest
first_forest = record { node = λ n. fresh_node; chain = first_chain; root = 0; allotted = 1; held = λ n. 0 }

-- the entries of the leaf pages from left to right
abbrev pub all_entries : Forest → List Entry
all_entries f = flat_map (λ n. (f.node n).entries) (f.chain 0)

-- a page is the right sibling of another
pub record Follows (f : Forest) (n m : ℕ) : Type 0 where
  pub linked : IsLinked f m
  pub height : (f.node m).level ≡ (f.node n).level
  pub high : (f.node n).high ≡ Some (f.node m).low
  pub farther : (f.node n).low < (f.node m).low

-- the right sibling of a page, for a key that is past its range
pub record MovesRight (f : Forest) (n key : ℕ) : Type 0 where
  pub to : ℕ
  pub right : (f.node n).right ≡ Some to
  pub follows : Follows f n to
  pub reached : (f.node to).low ≤ key

-- a page one level lower, for a key that is not below its range
pub record MovesDown (f : Forest) (n key child : ℕ) : Type 0 where
  pub linked : IsLinked f child
  pub height : (f.node child).level + 1 ≡ (f.node n).level
  pub reached : (f.node child).low ≤ key

-- the page of a level in whose range a key lies
pub record PageOf (f : Forest) (level key : ℕ) : Type 0 where
  pub number : ℕ
  pub linked : IsLinked f number
  pub height : (f.node number).level ≡ level
  pub inside : IsInside (f.node number).low (f.node number).high key
