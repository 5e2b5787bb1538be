use Rattle.std.proofs.Common.{◌≡◌, true, subst, ◌∙◌}
use Rattle.mi_tree.specs.Catalog.{CatalogState}
use Rattle.mi_tree.specs.Counting.{has_leaf}
use Rattle.test_threads.proofs.TestLemmas.{first_leaf, none_within}
use Rattle.test_threads.proofs.places.read_once.Goals as goal

pub visit-visit-requires-clause-inside : goal.visit-visit-requires-clause-inside
visit-visit-requires-clause-inside g c =
    let leaf = first_leaf c.pinned.result.now.leaves (λ none. c.if-len-eq0.false (c.len.ensures ∙ none)) in
    record {
      prefix = leaf.0;
      is_leaf = subst (λ (x : CatalogState). has_leaf leaf.0 x.leaves ≡ true) c.pinned.ensures leaf.1;
      inside = λ key within. absurd (none_within c.no_keys.result c.no_keys.ensures key within);
    }
