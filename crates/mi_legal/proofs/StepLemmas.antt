-- The steps of right replies.
use Rattle.std.proofs.Common.{◌≡◌, ℕ, ℤ, ◌+◌, List, ◌++◌, length, refl, sym, ap, arith}
use Rattle.std.proofs.lemmas.Bool.{false≢true}
use Rattle.mi_base.specs.declared.records.LogEvent.{LogEvent}
use Rattle.mi_base.specs.declared.records.Op.{Op}
use Rattle.mi_base.specs.declared.records.Op.TheVariants.{Delete, Range, Nearest}
use Rattle.mi_base.specs.declared.records.Reply.{Reply}
use Rattle.mi_base.specs.declared.records.Reply.TheVariants as reply
use Rattle.mi_base.specs.Configuration.{Configuration, space_of}
use Rattle.mi_base.specs.History.{at_position}
use Rattle.mi_rules.specs.Passing.{kth_distance, reached_objects}
use Rattle.mi_tree.proofs.GrowingLemmas.{at_grows}
use Rattle.mi_legal.specs.Right.{Right}
use Rattle.mi_legal.specs.Work.{TakesSteps, Works, WorksNearest, most_steps}

-- the steps of one right reply, by kind
pub delete_steps : (c : Configuration) (log : List LogEvent) (id : ℕ) (y : Reply) (k l : ℕ) → l ≡ k → TakesSteps c log (Delete id) y k l
delete_steps c log id y k l same lacks = (omega (arith, same), omega (arith, same))

pub range_steps : (c : Configuration) (log : List LogEvent) (allotted session n radius : ℕ) (q : List ℤ) (y : Reply) (k l : ℕ) → Right c log allotted session n (Range radius q) y → Works k y l → TakesSteps c log (Range radius q) y k l
range_steps c log allotted session n radius q (reply.Range p rows cells distances) k l r w lacks = (omega (arith, w), omega (arith, w))
range_steps c log allotted session n radius q reply.Memory k l r w lacks = absurd (false≢true (sym lacks))
range_steps c log allotted session n radius q y k l r w lacks = absurd r

pub nearest_steps : (c : Configuration) (log : List LogEvent) (allotted session n count : ℕ) (q : List ℤ) (y : Reply) (k l : ℕ) → Right c log allotted session n (Nearest count q) y → WorksNearest c log count q k y l → TakesSteps c log (Nearest count q) y k l
nearest_steps c log allotted session n count q (reply.Nearest p rows cells) k l r w lacks = (omega (arith, w.0), omega (arith, w.1))
nearest_steps c log allotted session n count q reply.Memory k l r w lacks = absurd (false≢true (sym lacks))
nearest_steps c log allotted session n count q y k l r w lacks = absurd r

-- a right reply tells the same of a log that goes on
pub most_grows : (c : Configuration) (log more : List LogEvent) (allotted session n : ℕ) (o : Op) (y : Reply) → Right c log allotted session n o y → most_steps c (log ++ more) o y ≡ most_steps c log o y
most_grows c log more allotted session n (Nearest count q) (reply.Nearest p rows cells) r =
    ap (λ (l : List LogEvent). length c.pivots + reached_objects (space_of c) c.levels l q (kth_distance count rows)) (at_grows log more p r.position)
most_grows c log more allotted session n o y r = refl
