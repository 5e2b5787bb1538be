-- What no actor of a state has, and leaf pages without dead entries.
use Rattle.std.specs.Prelude.{◌≡◌, ℕ, ◌==◌, ◌&&◌, length, Bool, true, false, nat_le, Option, Some, None, slice_get}
use Rattle.std.specs.List.{AllByRecursion}
use Rattle.mi_base.specs.History.{updates_of}
use Rattle.mi_page.specs.Entries.{outlives}
use Rattle.mi_page.specs.Keys.{is_below}
use Rattle.mi_page.specs.Nodes.{Node}
use Rattle.mi_entries.specs.Actors.{Actor}
use Rattle.mi_core.specs.Counted.{total}
use Rattle.mi_core.specs.Pages.{node_or_fresh}
use Rattle.mi_core.specs.State.{State, count_if, node_at}
use Rattle.mi_solo.specs.Solos.{entries_on}

-- each actor is so
abbrev pub EachActor : (Actor → Type 0) → State → Type 0
EachActor P s = (a : ℕ) (r : Actor) → slice_get s.actors a ≡ Some r → P r

-- nobody has a pin, claims a leaf, sweeps one, splits one
abbrev pub NoPins : State → Type 0
NoPins s = EachActor (λ r. r.pin ≡ None) s

abbrev pub NoClaims : State → Type 0
NoClaims s = EachActor (λ r. r.claim ≡ None) s

abbrev pub NoSweeps : State → Type 0
NoSweeps s = EachActor (λ r. r.sweep ≡ None) s

abbrev pub NoSplits : State → Type 0
NoSplits s = EachActor (λ r. r.split ≡ None) s

-- no entry of the page is dead after so many updates
abbrev pub HasNoDead : ℕ → Node → Type 0
HasNoDead updates n = AllByRecursion (λ e. outlives e.death updates ≡ true) n.entries

-- no entry of a leaf page is dead after all updates
abbrev pub IsTrimmed : State → Type 0
IsTrimmed s = (page : ℕ) (n : Node) → node_at s.pages page ≡ Some n → n.level ≡ 0 → HasNoDead (length (updates_of s.board.log)) n

-- no entry of a leaf page whose low key is below this one is dead after so many updates
abbrev pub IsTrimmedBelow : ℕ → Option ℕ → State → Type 0
IsTrimmedBelow updates high s = (page : ℕ) (n : Node) → node_at s.pages page ≡ Some n → n.level ≡ 0 → is_below high n.low ≡ true → HasNoDead updates n

-- trims have come to this leaf page from the left, or past the last one
abbrev pub HasTrimmedTo : ℕ → Option ℕ → State → Type 0
HasTrimmedTo updates None s = IsTrimmedBelow updates None s
HasTrimmedTo updates (Some page) s = (n : Node) × (node_at s.pages page ≡ Some n) × (n.level ≡ 0) × IsTrimmedBelow updates (Some n.low) s

-- a leaf page has this low key or a greater one
abbrev pub is_leaf_from : ℕ → Option Node → Bool
is_leaf_from low None = false
is_leaf_from low (Some n) = (n.level == 0) && nat_le low n.low

-- how many leaf pages there are from this one on
abbrev pub pages_from : Option ℕ → State → ℕ
pages_from None s = 0
pages_from (Some page) s = count_if (is_leaf_from (node_or_fresh (node_at s.pages page)).low) s.pages

-- how many entries the leaf pages have
abbrev pub entry_count : State → ℕ
entry_count s = total entries_on s.pages
