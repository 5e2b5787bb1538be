-- A sweep between its sections, and what a section of it does.
use Rattle.std.specs.Prelude.{◌≡◌, ◌+◌, ℕ, List, Some, None}
use Rattle.mi_tree.specs.declared.answers.Look.{Look}
use Rattle.mi_world.specs.declared.answers.Visit.{Visit}
use Rattle.mi_world.specs.declared.answers.Visit.TheVariants.{Down, Right, Read}
use Rattle.mi_world.specs.Boards.{Looks}
use Rattle.mi_world.specs.Splits.{Sweeps}
use Rattle.mi_world.specs.View.{View, Later, SameUpdate, SameLeaf, SameSplit, SameFlags, SameActors}
use Rattle.mi_blink.specs.declared.walk.WalkTurn.{WalkTurn}
use Rattle.mi_blink.specs.declared.walk.WalkTurn.TheVariants.{More, Done}
use Rattle.mi_blink.specs.Descents.{Falls, Stands, descent, longest}
use Rattle.mi_split.specs.declared.sweep.SweepOp.{SweepOp}
use Rattle.mi_split.specs.declared.sweep.SweepState.{SweepState}
use Rattle.mi_split.specs.declared.sweep.SweepState.TheVariants.{Looking, Sweeping, Over}

-- a sweep of this leaf before its first section
pub record Begun (op : SweepOp) (prefix : List ℕ) : Type 0 where
  pub prefix_is : op.prefix ≡ prefix
  pub state_is : op.state ≡ Looking

-- what a state needs of the actor: the sweep goes on at a page from which it may be sought how far it is swept
abbrev pub StateIsReady : SweepState → View → Type 0
StateIsReady Looking v = Unit {0}
StateIsReady (Sweeping page) v = Stands v page 0 v.swept
StateIsReady Over v = ⊥

-- what a sweep needs of its actor between two sections: the leaf is given to it, and the sweep isn't over
pub record Ready (op : SweepOp) (v : View) : Type 0 where
  pub given : v.sweep ≡ Some op.prefix
  pub state : StateIsReady op.state v

-- where an answer leads a sweep: it ends where no page is named
abbrev pub after_sweep : Visit → SweepState
after_sweep (Down p) = Sweeping p
after_sweep (Right p) = Sweeping p
after_sweep (Read (Some p)) = Sweeping p
after_sweep (Read None) = Over

-- the section that each state makes, and where it leads: a look first, whose root is swept, and then page after page that was named
abbrev pub Makes : SweepState → View → SweepState → View → Type 0
Makes Looking v new w = (look : Look) × Looks v w look × (new ≡ Sweeping look.root)
Makes (Sweeping page) v new w = (answer : Visit) × Sweeps v w page answer × (new ≡ after_sweep answer)
Makes Over v new w = ⊥

-- how many sections are left in each state, at most
abbrev pub left_in : SweepState → View → ℕ
left_in Looking v = longest + 1
left_in (Sweeping page) v = descent v page
left_in Over v = 0

-- and of the sweep
abbrev pub left : SweepOp → View → ℕ
left op v = left_in op.state v

-- a sweep that goes on is ready, and less is left of it; at its end nothing is under sweep
abbrev pub Outcome : SweepOp → View → WalkTurn → SweepOp → View → Type 0
Outcome old v More new w = Ready new w × Falls v (left old v) w (left new w)
Outcome old v Done new w = (new.state ≡ Over) × (w.sweep ≡ None)

-- what a section of a sweep makes of it and of its actor
pub record Turned (old : SweepOp) (v : View) (turn : WalkTurn) (new : SweepOp) (w : View) : Type 0 where
  pub later : Later v w
  pub update : SameUpdate v w
  pub leaf : SameLeaf v w
  pub split : SameSplit v w
  pub flags : SameFlags v w
  pub actors : SameActors v w
  pub pin : w.pin ≡ v.pin
  pub fresh : w.fresh ≡ v.fresh
  pub owes : w.owes ≡ v.owes
  pub prefix : new.prefix ≡ old.prefix
  pub makes : Makes old.state v new.state w
  pub outcome : Outcome old v turn new w
