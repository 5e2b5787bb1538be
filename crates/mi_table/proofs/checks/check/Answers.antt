use Rattle.std.proofs.Common.{◌≡◌, None, Some, length}
use Rattle.std.proofs.lemmas.Result.{err_from_is_err_and, MatchResult-weaker}
use Rattle.mi_table.specs.Faults.{first_among, first_fault, triangles}
use Rattle.mi_table.specs.Laws.{square_of}
use Rattle.mi_table.proofs.OrderLemmas.{first_length, first_diagonal, first_zero, first_asymmetry, first_triangle, no_fault}
use Rattle.mi_table.proofs.checks.check.Goals as goal

pub returns-in_err-check_lengths : goal.returns-in_err-check_lengths
returns-in_err-check_lengths c =
    let p = err_from_is_err_and c.from_residual.result c.from_residual.ensures.1 in
    rw (p.1, p.2) (first_length c.args.rows.now _ c.in_err-check_lengths.ensures)

pub returns-in_err-check_diagonal : goal.returns-in_err-check_diagonal
returns-in_err-check_diagonal c =
    let p = err_from_is_err_and c.from_residual-in_err-check_diagonal.result c.from_residual-in_err-check_diagonal.ensures.1 in
    rw (p.1, p.2) (first_diagonal c.args.rows.now _ c.in_ok-check_lengths.ensures c.in_err-check_diagonal.ensures)

pub check_diagonal-requires-clause-square : goal.check_diagonal-requires-clause-square
check_diagonal-requires-clause-square c = square_of c.args.rows.now c.in_ok-check_lengths.ensures

pub returns-in_err-check_zeros : goal.returns-in_err-check_zeros
returns-in_err-check_zeros c =
    let p = err_from_is_err_and c.from_residual-in_err-check_zeros.result c.from_residual-in_err-check_zeros.ensures.1 in
    rw (p.1, p.2) (first_zero c.args.rows.now _ c.in_ok-check_lengths.ensures c.in_ok-check_diagonal.ensures c.in_err-check_zeros.ensures)

pub check_zeros-requires-clause-square : goal.check_zeros-requires-clause-square
check_zeros-requires-clause-square c = square_of c.args.rows.now c.in_ok-check_lengths.ensures

pub returns-in_err-check_symmetry : goal.returns-in_err-check_symmetry
returns-in_err-check_symmetry c =
    let p = err_from_is_err_and c.from_residual-in_err-check_symmetry.result c.from_residual-in_err-check_symmetry.ensures.1 in
    rw (p.1, p.2) (first_asymmetry c.args.rows.now _ c.in_ok-check_lengths.ensures c.in_ok-check_diagonal.ensures c.in_ok-check_zeros.ensures c.in_err-check_symmetry.ensures)

pub check_symmetry-requires-clause-square : goal.check_symmetry-requires-clause-square
check_symmetry-requires-clause-square c = square_of c.args.rows.now c.in_ok-check_lengths.ensures

pub check_triangles-requires-clause-square : goal.check_triangles-requires-clause-square
check_triangles-requires-clause-square c = square_of c.args.rows.now c.in_ok-check_lengths.ensures

pub returns : goal.returns
returns c =
    let rows = c.args.rows.now in
    MatchResult-weaker c.check_triangles.result {P = λ _. first_among rows (triangles (length rows)) ≡ None} {P' = λ _. first_fault rows ≡ None} {Q = λ fault. first_among rows (triangles (length rows)) ≡ Some fault} {Q' = λ fault. first_fault rows ≡ Some fault}
    c.check_triangles.ensures
    (λ _ t. no_fault rows c.in_ok-check_lengths.ensures c.in_ok-check_diagonal.ensures c.in_ok-check_zeros.ensures c.in_ok-check_symmetry.ensures t)
    (λ fault t. first_triangle rows fault c.in_ok-check_lengths.ensures c.in_ok-check_diagonal.ensures c.in_ok-check_zeros.ensures c.in_ok-check_symmetry.ensures t)
