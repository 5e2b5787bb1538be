use Rattle.std.proofs.Common.{◌≡◌, ◌≤◌, ◌<◌, refl, ap, ◌∙◌, sym, cond, length, nat_lt, true, false, arith, None}
use Rattle.std.proofs.lemmas.Bool.{false≢true}
use Rattle.std.proofs.lemmas.Bool.Decides.{nat_tests}
use Rattle.mi_base.specs.History.{row_cmp}
use Rattle.mi_base.specs.Sorting.{sorted}
use Rattle.mi_rules.specs.Passing.{last_distance}
use Rattle.mi_nearest.specs.Nearing.{worst_of}
use Rattle.mi_nearest.proofs.HeapLemmas.{last_top, length_sorted}
use Rattle.mi_nearest.proofs.work.NearestWork.worst.Goals as goal

pub returns-then-len-self-clause-value : goal.returns-then-len-self-clause-value
returns-then-len-self-clause-value c =
    let items = c.self.inside.rows.data.items in
    let rows = sorted row_cmp items in
    let less : length rows < c.self.inside.count = omega (arith, c.len.ensures, c.self.inside.rows.data.ok, length_sorted items) in
    let few : nat_lt (length rows) c.self.inside.count ≡ true = grind (arith, nat_tests) in
    ap (λ b. cond b None (last_distance rows)) (sym few) ∙ ap worst_of c.self.view_is

pub returns-clause-value : goal.returns-clause-value
returns-clause-value c =
    let items = c.self.inside.rows.data.items in
    let rows = sorted row_cmp items in
    let top = c.in-Some.row.now in
    let some : 0 < length items = omega (arith, c.len.ensures, c.self.inside.rows.data.ok, c.self.invariant.2) in
    let full : c.self.inside.count ≤ length rows = omega (arith, c.len.ensures, c.self.inside.rows.data.ok, length_sorted items) in
    let many : nat_lt (length rows) c.self.inside.count ≡ false = grind (arith, nat_tests) in
    last_top items top some c.in-Some.ensures.lookup (c.in-Some.ensures.greatest c.self.invariant.0) ∙ ap (λ b. cond b None (last_distance rows)) (sym many) ∙ ap worst_of c.self.view_is

pub returns-then-len-self-clause-told : goal.returns-then-len-self-clause-told
returns-then-len-self-clause-told c =
    let items = c.self.inside.rows.data.items in
    let less : length (sorted row_cmp items) < c.self.inside.count = omega (arith, c.len.ensures, c.self.inside.rows.data.ok, length_sorted items) in
    let size : length (sorted row_cmp items) ≡ length c.args.self.now.rows = ap (λ w. length w.rows) c.self.view_is in
    let count : c.self.inside.count ≡ c.args.self.now.count = ap (λ w. w.count) c.self.view_is in
    (λ e. absurd (false≢true e), λ h. absurd (omega arith))

pub returns-clause-told : goal.returns-clause-told
returns-clause-told c =
    let items = c.self.inside.rows.data.items in
    let full : c.self.inside.count ≤ length (sorted row_cmp items) = omega (arith, c.len.ensures, c.self.inside.rows.data.ok, length_sorted items) in
    let size : length (sorted row_cmp items) ≡ length c.args.self.now.rows = ap (λ w. length w.rows) c.self.view_is in
    let count : c.self.inside.count ≡ c.args.self.now.count = ap (λ w. w.count) c.self.view_is in
    (λ e. omega arith, λ h. refl)
