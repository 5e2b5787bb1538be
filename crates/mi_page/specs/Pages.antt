-- What a page's fields stand for.
use Rattle.std.specs.Prelude.{◌≡◌, vec_capacity}
use Rattle.mi_page.specs.declared.pages.Page.TheInside.{Inside}
use Rattle.mi_page.specs.Nodes.{Node, IsNode}

abbrev pub node_of : Inside → Node
node_of p = record { level = p.level; low = p.low; high = p.high; right = p.right; entries = p.entries.items; routes = p.routes.items }

-- the room of both lists is that of 32, from the first to the last
abbrev pub IsPage : Inside → Type 0
IsPage p = IsNode (node_of p) × (vec_capacity p.entries ≡ 32) × (vec_capacity p.routes ≡ 32)
