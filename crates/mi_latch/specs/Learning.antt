-- What a seat may learn at any time: what it knows is so.
use Rattle.mi_base.specs.Configuration.{Configuration}
use Rattle.mi_core.specs.State.{State}
use Rattle.mi_latch.specs.Layout.{at}
use Rattle.mi_latch.specs.Shows.{Backs}
use Rattle.mi_latch.specs.Views.{Fits, Held, Own, Sight}

-- a kept core state backs what the seat knows
pub record IsSo (settings : Configuration) (v : Sight) : Type 0 where
  pub core : State
  pub held : Held settings core
  pub backs : Backs at Fits Own core v
