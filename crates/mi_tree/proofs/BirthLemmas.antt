-- The live objects with their numbers are the live objects.
use Rattle.std.proofs.Common.{◌≡◌, ℕ, ◌+◌, ◌==◌, List, [], ◌∷◌, map, Bool, true, false, cond, not, refl, ap, ◌∙◌}
use Rattle.std.specs.List.{filter, fold}
use Rattle.mi_base.specs.declared.records.Update.{Update}
use Rattle.mi_base.specs.declared.records.Update.TheVariants.{Insert, Delete}
use Rattle.mi_base.specs.History.{live, live_after}
use Rattle.mi_tree.specs.Births.{Born, born, born_after, born_from, object_born}

-- what is filtered and then mapped
filter_born : (t : ℕ → Bool) (os : List Born) → map object_born (filter (λ o. t o.id) os) ≡ filter (λ o. t o.id) (map object_born os)
filter_born t [] = refl
filter_born t (o ∷ os) =
    let P : Bool → Type 0 = λ b. map object_born (cond b (o ∷ filter (λ x. t x.id) os) (filter (λ x. t x.id) os))
    ≡ cond b (object_born o ∷ filter (λ x. t x.id) (map object_born os)) (filter (λ x. t x.id) (map object_born os)) in
    elim (t o.id) as P [ true ↦ ap (λ xs. object_born o ∷ xs) (filter_born t os) | false ↦ filter_born t os ]

one_more : (n : ℕ) (os : List Born) (u : Update) → map object_born (born_after n os u) ≡ live_after (map object_born os) u
one_more n os (Insert id v) = refl
one_more n os (Delete id) = filter_born (λ x. not (x == id)) os

all_more : (n : ℕ) (os : List Born) (us : List Update) → map object_born (born_from n os us) ≡ fold live_after (map object_born os) us
all_more n os [] = refl
all_more n os (u ∷ us) = all_more (n + 1) (born_after (n + 1) os u) us ∙ ap (λ xs. fold live_after xs us) (one_more (n + 1) os u)

-- the live objects are those with births
pub born_live : (us : List Update) → map object_born (born us) ≡ live us
born_live us = all_more 0 [] us
