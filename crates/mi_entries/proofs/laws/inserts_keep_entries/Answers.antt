use Rattle.mi_tree.proofs.LegalLemmas.{all_may}
use Rattle.mi_entries.proofs.KeyedLemmas.{is_keyed}
use Rattle.mi_entries.proofs.ContentLemmas.{entries_insert}
use Rattle.mi_entries.proofs.NewLemmas.{fits_here, key_here, named}
use Rattle.mi_entries.proofs.laws.inserts_keep_entries.Goals as goal

pub returns : goal.returns
returns c = λ s limits metric log legal few floor actors retired entries h low leaf id e present under new free session op.
    entries_insert s (is_keyed s limits) log (all_may s log legal) floor actors retired entries h low session op id e new.birth new.death new.dists
    (fits_here s limits metric log legal few leaf id e present under new) (named s limits metric log legal few leaf id e present under new) (key_here s limits metric log legal few leaf id e present under new)
    (λ b w x. free b x.actor w x.there x.split)
