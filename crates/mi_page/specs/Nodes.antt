-- A page as its callers see it (after Lehman and Yao, 1981).
use Rattle.std.specs.Prelude.{◌≡◌, ◌<◌, ◌+◌, ◌&&◌, ℕ, Bool, List, [], ◌∷◌, ◌++◌, length, nat_le, take, drop, Option, Some, None, slice_get, slice_index}
use Rattle.mi_key.specs.declared.entries.Entry.{Entry}
use Rattle.mi_page.specs.declared.routes.Route.{Route}
use Rattle.mi_page.specs.Keys.{AreOrdered, is_below}
use Rattle.mi_page.specs.Entries.{entry_keys}
use Rattle.mi_page.specs.Routes.{route_keys}

-- Level 0 is a leaf page, which has entries; any other page has routes. The low key never changes. Without a high key there is
-- no end of the range, and the right sibling is a page's number.
pub record Node : Type 0 where
  pub level : ℕ
  pub low : ℕ
  pub high : Option ℕ
  pub right : Option ℕ
  pub entries : List Entry
  pub routes : List Route

-- how many entries or routes there are
abbrev pub item_count : Node → ℕ
item_count p = length p.entries + length p.routes

-- the keys of the entries or routes
abbrev pub keys_in : Node → List ℕ
keys_in p = entry_keys p.entries ++ route_keys p.routes

-- the key lies in the range of a page
abbrev pub in_range : Node → ℕ → Bool
in_range p key = nat_le p.low key && is_below p.high key

-- what holds of every page: entries and routes in key order, at most 32, inside the range; entries at level 0 alone and routes
-- above it alone; the first route has the low key
pub record IsNode (p : Node) : Type 0 where
  pub entries : AreOrdered p.low p.high (entry_keys p.entries)
  pub routes : AreOrdered p.low p.high (route_keys p.routes)
  pub leaf : p.level ≡ 0 → p.routes ≡ []
  pub inner : 0 < p.level → p.entries ≡ []
  pub first : 0 < p.level → slice_get (route_keys p.routes) 0 ≡ Some p.low

-- a page that nothing was put into
abbrev pub fresh_node : Node
fresh_node = record { level = 0; low = 0; high = None; right = None; entries = []; routes = [] }

-- a page with two routes over all keys, the first with the lowest key
abbrev pub root_node : ℕ → ℕ → ℕ → ℕ → Node
root_node level left key child = record {
  level = level;
  low = 0;
  high = None;
  right = None;
  entries = [];
  routes = record { key = 0; child = left } ∷ record { key = key; child = child } ∷ [];
}

-- the key at which a full page is halved: that of its 17th entry or route
abbrev pub middle_key : Node → ℕ
middle_key p = slice_index (keys_in p) 16

-- what stays of a full page: the lower 16, up to the middle key, with the page of this number as the right sibling
abbrev pub lower_half : ℕ → Node → Node
lower_half number p = record {
  level = p.level;
  low = p.low;
  high = Some (middle_key p);
  right = Some number;
  entries = take 16 p.entries;
  routes = take 16 p.routes;
}

-- what moves to a fresh page: the upper 16, from the middle key on, with the old high key and right sibling
abbrev pub upper_half : Node → Node
upper_half p = record {
  level = p.level;
  low = middle_key p;
  high = p.high;
  right = p.right;
  entries = drop 16 p.entries;
  routes = drop 16 p.routes;
}
