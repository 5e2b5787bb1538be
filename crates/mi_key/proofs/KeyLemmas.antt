-- Keys and their parts.
use Rattle.std.proofs.Common.{◌≡◌, ℕ, ◌+◌, ◌-◌, ◌*◌, ◌/◌, ◌%◌, ◌<◌, ◌≤◌, ◌^◌, ◌&&◌, ◌==◌, nat_le, refl, ap, ◌∙◌, arith}
use Rattle.std.proofs.lemmas.Bool.Decides.{nat_tests}
use Rattle.std.specs.declared.cmp.Ordering.{Ordering}
use Rattle.std.specs.declared.cmp.Ordering.TheVariants.{Less, Equal, Greater}
use Rattle.std.specs.Ordering.{nat_cmp, ordering_then}
use Rattle.mi_key.specs.declared.keys.KeyParts.{KeyParts}
use Rattle.mi_key.specs.Keys.{FitKey, key_of, parts_of, parts_cmp}
use Rattle.mi_key.specs.Ranges.{stands_between}
use Rattle.mi_key.proofs.DigitLemmas.{split_cmp}

abbrev pub made_of : ℕ → ℕ → ℕ → ℕ → KeyParts
made_of cluster distance id birth = record { cluster = cluster; distance = distance; id = id; birth = birth }

same_parts : (c d i b c' d' i' b' : ℕ) → c ≡ c' → d ≡ d' → i ≡ i' → b ≡ b' → made_of c d i b ≡ made_of c' d' i' b'
same_parts c d i b c' d' i' b' p q r s = cc

-- what a key is made of comes back
pub parts_of-key_of : (p : KeyParts) → FitKey p → parts_of (key_of p) ≡ p
unfolding key_of parts_of
parts_of-key_of p f =
    let n = p.cluster * 2 ^ 97 + p.distance * 2 ^ 70 + p.id * 2 ^ 30 + p.birth in
    same_parts (n / 2 ^ 97) (n / 2 ^ 70 % 2 ^ 27) (n / 2 ^ 30 % 2 ^ 40) (n % 2 ^ 30) p.cluster p.distance p.id p.birth
    (omega (arith, f.fit_cluster, f.fit_distance, f.fit_id, f.fit_birth))
    (omega (arith, f.fit_cluster, f.fit_distance, f.fit_id, f.fit_birth))
    (omega (arith, f.fit_cluster, f.fit_distance, f.fit_id, f.fit_birth))
    (omega (arith, f.fit_cluster, f.fit_distance, f.fit_id, f.fit_birth))

-- its parts make the key
pub key_of-parts_of : (key : ℕ) → key_of (parts_of key) ≡ key
unfolding key_of parts_of
key_of-parts_of key = omega arith

-- the parts, cut off one by one
pub parts-in_turn : (key : ℕ) → made_of (key / 2 ^ 30 / 2 ^ 40 / 2 ^ 27) (key / 2 ^ 30 / 2 ^ 40 % 2 ^ 27) (key / 2 ^ 30 % 2 ^ 40) (key % 2 ^ 30) ≡ parts_of key
unfolding parts_of
parts-in_turn key =
    same_parts (key / 2 ^ 30 / 2 ^ 40 / 2 ^ 27) (key / 2 ^ 30 / 2 ^ 40 % 2 ^ 27) (key / 2 ^ 30 % 2 ^ 40) (key % 2 ^ 30) (key / 2 ^ 97) (key / 2 ^ 70 % 2 ^ 27) (key / 2 ^ 30 % 2 ^ 40) (key % 2 ^ 30)
    (omega arith) (omega arith) refl refl

then_assoc : (o p q : Ordering) → ordering_then (ordering_then o p) q ≡ ordering_then o (ordering_then p q)
then_assoc Less p q = refl
then_assoc Equal p q = refl
then_assoc Greater p q = refl

cmp-made : (c d i b c' d' i' b' : ℕ) → d < 2 ^ 27 → d' < 2 ^ 27 → i < 2 ^ 40 → i' < 2 ^ 40 → b < 2 ^ 30 → b' < 2 ^ 30
    → nat_cmp (((c * 2 ^ 27 + d) * 2 ^ 40 + i) * 2 ^ 30 + b) (((c' * 2 ^ 27 + d') * 2 ^ 40 + i') * 2 ^ 30 + b') ≡ parts_cmp (made_of c d i b) (made_of c' d' i' b')
cmp-made c d i b c' d' i' b' hd hd' hi hi' hb hb' =
    split_cmp (2 ^ 30) ((c * 2 ^ 27 + d) * 2 ^ 40 + i) ((c' * 2 ^ 27 + d') * 2 ^ 40 + i') b b' hb hb'
    ∙ ap (λ o. ordering_then o (nat_cmp b b'))
    (split_cmp (2 ^ 40) (c * 2 ^ 27 + d) (c' * 2 ^ 27 + d') i i' hi hi' ∙ ap (λ o. ordering_then o (nat_cmp i i')) (split_cmp (2 ^ 27) c c' d d' hd hd')
    ∙ then_assoc (nat_cmp c c') (nat_cmp d d') (nat_cmp i i'))
    ∙ then_assoc (nat_cmp c c') (ordering_then (nat_cmp d d') (nat_cmp i i')) (nat_cmp b b')
    ∙ ap (ordering_then (nat_cmp c c')) (then_assoc (nat_cmp d d') (nat_cmp i i') (nat_cmp b b'))

nested : (key : ℕ) → key ≡ ((key / 2 ^ 97 * 2 ^ 27 + key / 2 ^ 70 % 2 ^ 27) * 2 ^ 40 + key / 2 ^ 30 % 2 ^ 40) * 2 ^ 30 + key % 2 ^ 30
nested key = omega arith

-- keys are ordered as their parts are
pub cmp-parts : (a b : ℕ) → nat_cmp a b ≡ parts_cmp (parts_of a) (parts_of b)
unfolding parts_of
cmp-parts a b =
    ap (λ n. nat_cmp n b) (nested a)
    ∙ ap (nat_cmp (((a / 2 ^ 97 * 2 ^ 27 + a / 2 ^ 70 % 2 ^ 27) * 2 ^ 40 + a / 2 ^ 30 % 2 ^ 40) * 2 ^ 30 + a % 2 ^ 30)) (nested b)
    ∙ cmp-made (a / 2 ^ 97) (a / 2 ^ 70 % 2 ^ 27) (a / 2 ^ 30 % 2 ^ 40) (a % 2 ^ 30) (b / 2 ^ 97) (b / 2 ^ 70 % 2 ^ 27) (b / 2 ^ 30 % 2 ^ 40) (b % 2 ^ 30)
    (omega arith) (omega arith) (omega arith) (omega arith) (omega arith) (omega arith)

between : (c lo hi k d r : ℕ) → hi < 2 ^ 27 → lo ≤ hi → d < 2 ^ 27 → r < 2 ^ 70
    → (nat_le (c * 2 ^ 97 + lo * 2 ^ 70) (k * 2 ^ 97 + d * 2 ^ 70 + r) && nat_le (k * 2 ^ 97 + d * 2 ^ 70 + r) (c * 2 ^ 97 + hi * 2 ^ 70 + (2 ^ 70 - 1)))
    ≡ ((k == c) && (nat_le lo d && nat_le d hi))
between c lo hi k d r h o hd hr = grind (arith, nat_tests)

-- the keys of a cluster with distances from lo to hi
pub between-parts : (c lo hi key : ℕ) → lo ≤ hi → hi < 2 ^ 27
    → (nat_le (key_of (made_of c lo 0 0)) key && nat_le key (key_of (made_of c hi (2 ^ 40 - 1) (2 ^ 30 - 1)))) ≡ stands_between c lo hi (parts_of key)
unfolding key_of parts_of
between-parts c lo hi key o h =
    let d = key / 2 ^ 70 % 2 ^ 27 in
    let k = key / 2 ^ 97 in
    let r = key % 2 ^ 70 in
    let whole : key ≡ k * 2 ^ 97 + d * 2 ^ 70 + r = omega arith in
    let low : c * 2 ^ 97 + lo * 2 ^ 70 + 0 * 2 ^ 30 + 0 ≡ c * 2 ^ 97 + lo * 2 ^ 70 = omega arith in
    let high : c * 2 ^ 97 + hi * 2 ^ 70 + (2 ^ 40 - 1) * 2 ^ 30 + (2 ^ 30 - 1) ≡ c * 2 ^ 97 + hi * 2 ^ 70 + (2 ^ 70 - 1) = omega arith in
    ap (λ n. nat_le n key && nat_le key (c * 2 ^ 97 + hi * 2 ^ 70 + (2 ^ 40 - 1) * 2 ^ 30 + (2 ^ 30 - 1))) low
    ∙ ap (λ n. nat_le (c * 2 ^ 97 + lo * 2 ^ 70) key && nat_le key n) high
    ∙ ap (λ n. nat_le (c * 2 ^ 97 + lo * 2 ^ 70) n && nat_le n (c * 2 ^ 97 + hi * 2 ^ 70 + (2 ^ 70 - 1))) whole
    ∙ between c lo hi k d r h o (omega arith) (omega arith)
