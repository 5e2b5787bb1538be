use Rattle.std.proofs.Common.{◌≡◌, ℕ, ◌+◌, ◌-◌, ◌*◌, ◌≤◌, ◌^◌, List, length, map, ap, ◌∙◌, arith}
use Rattle.mi_key.specs.Clusters.{cluster_of, digit_of}
use Rattle.std.specs.Int.Digits.{number_from_digits}
use Rattle.mi_key.proofs.ClusterLemmas.{cluster_of-padded, cluster-small, power-small}
use Rattle.mi_key.proofs.clusters.cluster_number.Goals as goal

padded : (n levels : ℕ) (ps : List ℕ) (digits power len : ℕ) → length ps ≤ levels → digits ≡ number_from_digits (n + 1) (map digit_of ps) → power ≡ (n + 1) ^ (levels - len) → len ≡ length ps
    → digits * power ≡ cluster_of n levels ps
padded n levels ps digits power len h d p l =
    ap (λ k. k * power) d ∙ ap (λ k. number_from_digits (n + 1) (map digit_of ps) * k) (p ∙ ap (λ k. (n + 1) ^ (levels - k)) l) ∙ cluster_of-padded n levels ps h

pub pow-requires : goal.pow-requires
pow-requires c = omega (arith, power-small c.args.pivots (c.args.levels - c.len.result) c.requires.few (omega arith))

pub overflow_mul-result : goal.overflow_mul-result
overflow_mul-result c =
    let n = c.args.pivots in
    let prefix = c.args.prefix.now in
    let whole = padded n c.args.levels prefix c.unpadded_number.result c.pow.result c.len.result c.requires.depth c.unpadded_number.ensures c.pow.ensures c.len.ensures in
    omega (arith, whole, cluster-small n c.args.levels prefix c.requires.few c.requires.levels c.requires.pivots)

pub returns-clause-number : goal.returns-clause-number
returns-clause-number c = padded c.args.pivots c.args.levels c.args.prefix.now c.unpadded_number.result c.pow.result c.len.result c.requires.depth c.unpadded_number.ensures c.pow.ensures c.len.ensures

pub returns-clause-small : goal.returns-clause-small
returns-clause-small c = omega (arith, returns-clause-number c, cluster-small c.args.pivots c.args.levels c.args.prefix.now c.requires.few c.requires.levels c.requires.pivots)
