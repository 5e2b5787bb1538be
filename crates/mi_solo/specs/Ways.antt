-- Where the way of a key goes on.
use Rattle.std.specs.Prelude.{ℕ}
use Rattle.mi_page.specs.Nodes.{Node}
use Rattle.mi_solo.specs.declared.seeking.Way.{Way}
use Rattle.mi_solo.specs.declared.seeking.Way.TheVariants.{Down, Right, Here}
use Rattle.mi_solo.specs.Seeking.{EndsAfter, PointsDown, PointsRight}

-- from a page to the page of the level sought that has the key
abbrev pub GoesOn : Node → ℕ → ℕ → Way → Type 0
GoesOn n sought key (Down p) = PointsDown n sought key p
GoesOn n sought key (Right p) = PointsRight n sought key p
GoesOn n sought key Here = EndsAfter n sought key
