-- A load of any word tells a seat that what it knows is so.
use Rattle.std.proofs.Common.{◌≡◌, ℕ, refl}
use Rattle.atomic_table.specs.Table.{Allows, keeps}
use Rattle.mi_base.specs.Configuration.{Configuration}
use Rattle.mi_latch.specs.Layout.{at, slot_count}
use Rattle.mi_latch.specs.Learning.{IsSo}
use Rattle.mi_latch.specs.Views.{Fits, Held, Latched, Marks, Next, Own, Seated, made}
use Rattle.mi_latch.proofs.Rules.{stays}
use Rattle.mi_latch.proofs.Steps.{fits_made, held_keeps}

pub learns : (slots id i : ℕ) (settings : Configuration) (m : Seated) → Allows (Latched settings) slots id m i (λ n. n) (λ found n. (n ≡ m) × IsSo settings m.0)
learns slots id i settings m s o wide there small = (
  m.0,
  keeps,
  tt,
  stays at Fits Own Marks made (Held settings) Next (held_keeps settings) fits_made (slot_count settings) s i id m.1 m.0 o there,
  (refl, record { core = o.core; held = o.kept; backs = (o.each id m.0 there).backs }),
)
