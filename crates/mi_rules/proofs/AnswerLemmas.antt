-- Which objects a query may be compared with.
use Rattle.std.proofs.Common.{◌≡◌, ℕ, List}
use Rattle.std.specs.Prelude.{ℤ}
use Rattle.mi_base.specs.Space.{MetricSpace}
use Rattle.mi_rules.specs.Answers.{Comparable}

-- the same by another name
pub comparable_same : {m m' : MetricSpace} {q q' : List ℤ} {ds ds' : List ℕ} {object : List ℤ} {dists : List ℕ} → m' ≡ m → q' ≡ q → ds' ≡ ds → Comparable m q ds object dists → Comparable m' q' ds' object dists
comparable_same e f g h = rw (e, f, g) h
