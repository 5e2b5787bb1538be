use Rattle.std.proofs.Common.{◌≡◌, ◌∙◌, ◌+◌, [], ◌∷◌, ◌++◌, map, take, ap, sym}
use Rattle.std.proofs.lemmas.List.{take_more}
use Rattle.mi_base.specs.Permutations.{distance_at_first}
use Rattle.mi_key.specs.declared.entries.Entry.{Entry}
use Rattle.mi_tree.specs.declared.counts.Placed.{Placed}
use Rattle.mi_solo.specs.Placing.{placed_entry}
use Rattle.mi_solo.proofs.MarkLemmas.{map_more}
use Rattle.mi_solo.proofs.placing.placed_objects.Goals as goal

pub loop-entry-preserved : goal.loop-entry-preserved
loop-entry-preserved c =
    let entries = c.args.entries.now in
    let i = c.loop-entry.entry-index in
    let e = c.entry-item.result in
    let more : take (i + 1) entries ≡ take i entries ++ e ∷ [] = take_more entries i e c.loop-entry-test.true ∙ ap (λ (x : Entry). take i entries ++ x ∷ []) (sym c.entry-item.is) in
    let one : ◌≡◌ {A = Placed} (record { perm = c.permutation-perm.result; distance = c.key_distance-distance.result }) (placed_entry e) =
    ap (λ d. record { perm = c.permutation-perm.result; distance = d }) c.key_distance-distance.ensures.value
    ∙ ap (λ p. record { perm = p; distance = distance_at_first e.dists.items p }) c.permutation-perm.ensures.value in
    c.in_ok-push.ensures.items ∙ ap (λ (x : Placed). c.loop-entry.objects.items ++ x ∷ []) one ∙ ap (λ xs. xs ++ placed_entry e ∷ []) c.loop-entry.invariant
    ∙ sym (map_more placed_entry (take i entries) (e ∷ [])) ∙ ap (map placed_entry) (sym more)
