-- Where a descent stands, and how far it is from its end.
use Rattle.std.specs.Prelude.{is_some, ◌≡◌, ◌≤◌, ◌<◌, ◌+◌, ◌-◌, ◌*◌, ◌^◌, ℕ, IsTrue, cond, min, ◌⊎◌}
use Rattle.mi_world.specs.View.{View}

-- a root that a look gave
pub record IsRoot (v : View) (p : ℕ) : Type 0 where
  pub named : IsTrue (v.named p)
  pub low_is : v.low p ≡ 0
  pub small : v.level p ≤ 5

-- a page at which a descent to a level may stand that seeks a key
pub record Stands (v : View) (p sought key : ℕ) : Type 0 where
  pub named : IsTrue (v.named p)
  pub above : sought ≤ v.level p
  pub small : v.level p ≤ 5
  pub low_is : v.low p ≤ key

-- such a page at the level sought
pub record Reached (v : View) (p sought key : ℕ) : Type 0 where
  pub named : IsTrue (v.named p)
  pub level_is : v.level p ≡ sought
  pub small : v.level p ≤ 5
  pub low_is : v.low p ≤ key

-- how many keys there are
unfoldable pub keys : ℕ
keys = 2 ^ 128

-- how many sections lead from a page to the end of its descent, at most: the level falls, and within a level the low key rises
unfoldable pub descent : View → ℕ → ℕ
descent v p = min 5 (v.level p) * (keys + 1) + (keys - v.low p)

-- the same from any page
unfoldable pub longest : ℕ
longest = 5 * (keys + 1) + keys

-- how often a page may still be allotted or a fresh page be used, at most
abbrev pub budget : View → ℕ
budget v = 2 * (v.settings.pages - v.allotted) + cond (is_some v.fresh) 1 0

-- less is left: of the budget, or of the number beside it while the budget is no greater
abbrev pub Falls : View → ℕ → View → ℕ → Type 0
Falls v x w y = (budget w < budget v) ⊎ ((budget w ≤ budget v) × (y < x))

-- how many sections a post has while the budget stays, at most
unfoldable pub post_most : ℕ
post_most = 18 * longest + 15
