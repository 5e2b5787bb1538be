-- What an event changes of linked pages.
use Rattle.std.specs.Prelude.{◌≡◌, ◌≢◌, ◌<◌, ◌≤◌, ◌+◌, ◌==◌, ℕ, List, [], ◌∷◌, length, cond}
use Rattle.std.specs.List.{AllByRecursion}
use Rattle.mi_key.specs.declared.entries.Entry.{Entry}
use Rattle.mi_page.specs.declared.routes.Route.{Route}
use Rattle.mi_page.specs.Nodes.{Node, IsNode, lower_half, upper_half, root_node, fresh_node}
use Rattle.mi_forest.specs.Forests.{Forest, IsLinked, LeadsDown, occurrence}

-- linked pages stay so, on their levels, with their low keys
pub record PagesStay (old new : Forest) : Type 0 where
  pub linked : (m : ℕ) → IsLinked old m → IsLinked new m
  pub level : (m : ℕ) → IsLinked old m → (new.node m).level ≡ (old.node m).level
  pub low : (m : ℕ) → IsLinked old m → (new.node m).low ≡ (old.node m).low

-- level, range and right sibling are as before
pub record SameFrame (p q : Node) : Type 0 where
  pub level : q.level ≡ p.level
  pub low : q.low ≡ p.low
  pub high : q.high ≡ p.high
  pub right : q.right ≡ p.right

-- the entries or routes of one linked page change
pub record RewritesPage (old new : Forest) (n : ℕ) : Type 0 where
  pub linked : IsLinked old n
  pub page : IsNode (new.node n)
  pub frame : SameFrame (old.node n) (new.node n)
  pub routes : AllByRecursion (LeadsDown old (old.node n).level) (new.node n).routes
  pub more : length (old.node n).routes ≤ length (new.node n).routes
  pub others : (m : ℕ) → m ≢ n → new.node m ≡ old.node m
  pub chains : (level : ℕ) → new.chain level ≡ old.chain level
  pub root : new.root ≡ old.root
  pub allotted : new.allotted ≡ old.allotted
  pub held : (m : ℕ) → new.held m ≡ old.held m

-- the number q right after n, where n stands
abbrev pub put_after : ℕ → ℕ → List ℕ → List ℕ
put_after n q [] = []
put_after n q (m ∷ ms) = cond (m == n) (m ∷ q ∷ ms) (m ∷ put_after n q ms)

-- a full linked page gives its upper half to a page from a hand
pub record HalvesPage (old new : Forest) (n q : ℕ) : Type 0 where
  pub linked : IsLinked old n
  pub full : length (old.node n).entries + length (old.node n).routes ≡ 32
  pub fresh : 0 < old.held q
  pub lower : new.node n ≡ lower_half q (old.node n)
  pub upper : new.node q ≡ upper_half (old.node n)
  pub others : (m : ℕ) → m ≢ n → m ≢ q → new.node m ≡ old.node m
  pub chains : (level : ℕ) → new.chain level ≡ put_after n q (old.chain level)
  pub root : new.root ≡ old.root
  pub allotted : new.allotted ≡ old.allotted
  pub held : (m : ℕ) → new.held m + occurrence m q ≡ old.held m

-- a page from a hand becomes the root over the old root and another page of its level
pub record GrowsRoot (old new : Forest) (q key child : ℕ) : Type 0 where
  pub linked : IsLinked old child
  pub height : (old.node child).level ≡ (old.node old.root).level
  pub low : (old.node child).low ≡ key
  pub above : 0 < key
  pub fresh : 0 < old.held q
  pub node : new.node q ≡ root_node ((old.node old.root).level + 1) old.root key child
  pub others : (m : ℕ) → m ≢ q → new.node m ≡ old.node m
  pub chain : new.chain ((old.node old.root).level + 1) ≡ q ∷ []
  pub chains : (level : ℕ) → level ≢ (old.node old.root).level + 1 → new.chain level ≡ old.chain level
  pub root : new.root ≡ q
  pub allotted : new.allotted ≡ old.allotted
  pub held : (m : ℕ) → new.held m + occurrence m q ≡ old.held m

-- one more page, fresh in a hand
pub record AllotsPage (old new : Forest) : Type 0 where
  pub fresh : new.node old.allotted ≡ fresh_node
  pub others : (m : ℕ) → m ≢ old.allotted → new.node m ≡ old.node m
  pub chains : (level : ℕ) → new.chain level ≡ old.chain level
  pub root : new.root ≡ old.root
  pub allotted : new.allotted ≡ old.allotted + 1
  pub held : (m : ℕ) → new.held m ≡ old.held m + occurrence m old.allotted

-- one page is another
pub record SetsPage (old new : Forest) (n : ℕ) (p : Node) : Type 0 where
  pub is : new.node n ≡ p
  pub others : (m : ℕ) → m ≢ n → new.node m ≡ old.node m
  pub chains : (level : ℕ) → new.chain level ≡ old.chain level
  pub root : new.root ≡ old.root
  pub allotted : new.allotted ≡ old.allotted
  pub held : (m : ℕ) → new.held m ≡ old.held m

-- a leaf page with other entries
abbrev pub with_entries : Node → List Entry → Node
with_entries p entries = record { level = p.level; low = p.low; high = p.high; right = p.right; entries = entries; routes = p.routes }

-- a page with other routes
abbrev pub with_routes : Node → List Route → Node
with_routes p routes = record { level = p.level; low = p.low; high = p.high; right = p.right; entries = p.entries; routes = routes }
