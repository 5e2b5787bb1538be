use Rattle.std.proofs.Common.{◌≤◌, ◌∙◌, Option, IsTrue, List, ℕ, ap, length, subst, sym}
use Rattle.std.proofs.lemmas.Option.{none-some}
use Rattle.mi_base.specs.Configuration.{Configuration}
use Rattle.mi_base.specs.Permutations.{key_distance}
use Rattle.mi_base.specs.Prefixes.{all_below}
use Rattle.mi_entries.specs.Actors.{Actor}
use Rattle.mi_world.specs.LeafKeys.{key_under}
use Rattle.mi_world.specs.View.{prefix_or}
use Rattle.mi_solo.specs.States.{actor_in, state_of}
use Rattle.mi_solo.proofs.CoreLemmas.{row_is, some_of, there}
use Rattle.mi_solo.proofs.KeyLemmas.{claim_fits}
use Rattle.mi_solo.proofs.cores.Core.key_in_claim.Goals as goal

pub unreachable-requires : goal.unreachable-requires
unreachable-requires c =
    let s = c.args.self.now in
    let some = some_of (actor_in (state_of s) c.args.actor).claim c.requires.claim in
    none-some some.0 (sym (ap (λ (r : Actor). r.claim) (row_is s c.args.actor c.requires.known c.index.result.now c.index.ensures) ∙ c.in_default.is) ∙ some.1)

pub key_of_object-requires-clause-depth : goal.key_of_object-requires-clause-depth
key_of_object-requires-clause-depth c =
    let s = c.args.self.now in
    let claim = ap (λ (r : Actor). r.claim) (row_is s c.args.actor c.requires.known c.index.result.now c.index.ensures) ∙ c.in-Some.is in
    subst (λ (x : Configuration). length c.in-Some.leaf ≤ x.levels) (sym c.settings.ensures) (claim_fits (state_of s) c.requires.kept c.args.actor (actor_in (state_of s) c.args.actor) (there s c.args.actor c.requires.known) c.in-Some.leaf claim).0

pub key_of_object-requires-clause-pivots : goal.key_of_object-requires-clause-pivots
key_of_object-requires-clause-pivots c =
    let s = c.args.self.now in
    let claim = ap (λ (r : Actor). r.claim) (row_is s c.args.actor c.requires.known c.index.result.now c.index.ensures) ∙ c.in-Some.is in
    subst (λ (x : Configuration). IsTrue (all_below (length x.pivots) c.in-Some.leaf)) (sym c.settings.ensures) (claim_fits (state_of s) c.requires.kept c.args.actor (actor_in (state_of s) c.args.actor) (there s c.args.actor c.requires.known) c.in-Some.leaf claim).1

pub returns : goal.returns
returns c =
    let s = c.args.self.now in
    let claim = ap (λ (r : Actor). r.claim) (row_is s c.args.actor c.requires.known c.index.result.now c.index.ensures) ∙ c.in-Some.is in
    c.key_of_object.ensures ∙ ap (λ (x : Configuration). key_under x c.in-Some.leaf (key_distance c.args.dists.now.items) c.args.id c.args.birth) c.settings.ensures
    ∙ ap (λ (o : Option (List ℕ)). key_under s.board.settings (prefix_or o) (key_distance c.args.dists.now.items) c.args.id c.args.birth) (sym claim)
