use Rattle.std.proofs.Common.{ℕ, ◌+◌, ap, sym}
use Rattle.mi_latch.proofs.Takes.{finds_page}
use Rattle.mi_latch.proofs.table.LatchTable.take_page.Goals as goal

pub page_of-requires : goal.page_of-requires
page_of-requires g c = finds_page _ _ _ _ c.requires.seat.0 c.take_slot.ensures.told c.requires.named.0 (ap (λ (p : ℕ). p + 17) (sym c.requires.named.1)) c.requires.named.2
