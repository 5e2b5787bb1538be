use Rattle.std.proofs.Common.{refl}
use Rattle.mi_entries.proofs.KeyedLemmas.{is_keyed}
use Rattle.mi_entries.specs.Entries.{id_of}
use Rattle.mi_entries.proofs.DeleteLemmas.{entries_delete}
use Rattle.mi_entries.proofs.laws.deletes_keep_entries.Goals as goal

pub returns : goal.returns
returns c = λ s limits log legal floor actors retired entries h low e place counted lives free session op. entries_delete s (is_keyed s limits) log legal floor actors retired entries h low session op (id_of e) e place refl counted lives (λ b w x. free b x.actor w x.there x.split)
