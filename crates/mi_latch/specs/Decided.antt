-- Events that write the board alone, and what decides whether they can be: the board, and what else a state has as another one has it.
use Rattle.std.specs.Prelude.{◌≡◌}
use Rattle.mi_core.specs.Events.{Event, IsPage}
use Rattle.mi_core.specs.Events.Event.{see, look, meet, refuse, refuse_at, pin, unpin, claim_leaf, release_leaf, allot, lack, publish, give_up, take_sweep, take_split, no_work, depart}
use Rattle.mi_core.specs.Refusals.{Refusal}
use Rattle.mi_core.specs.Refusals.Refusal.{page_full}
use Rattle.mi_core.specs.State.{State, node_at}

-- a page is full in both states where it is the same in them; the board tells the other causes
abbrev pub SameCause : Refusal → State → State → Type 0
SameCause (page_full page) s c = node_at c.pages page ≡ node_at s.pages page
SameCause _ s c = Unit {0}

-- the event writes the board alone, and beside the board the state c has what the event needs, as s has it
abbrev pub IsDecided : Event → State → State → Type 0
IsDecided (meet page) s c = IsPage c page
IsDecided (refuse why) s c = SameCause why s c
IsDecided (refuse_at page why) s c = IsPage c page × SameCause why s c
IsDecided see s c = Unit {0}
IsDecided look s c = Unit {0}
IsDecided pin s c = Unit {0}
IsDecided unpin s c = Unit {0}
IsDecided (claim_leaf p) s c = Unit {0}
IsDecided release_leaf s c = Unit {0}
IsDecided allot s c = Unit {0}
IsDecided lack s c = Unit {0}
IsDecided publish s c = Unit {0}
IsDecided (give_up pages) s c = Unit {0}
IsDecided (take_sweep p) s c = Unit {0}
IsDecided (take_split p) s c = Unit {0}
IsDecided no_work s c = Unit {0}
IsDecided depart s c = Unit {0}
IsDecided _ s c = ⊥
