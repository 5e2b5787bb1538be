use Rattle.std.proofs.Common.{◌≡◌, ℕ, List, [], ◌∷◌, ◌++◌, ◌+◌, take, get_or, ap, sym, ◌∙◌, append-nil}
use Rattle.std.specs.List.{flat_map}
use Rattle.std.proofs.lemmas.List.{get_or_default, take_all, take_more}
use Rattle.std.proofs.lemmas.Grind.{flat_map-append}
use Rattle.std.proofs.lemmas.Option.{get_or_from_slice_get}
use Rattle.mi_choose.specs.Farthest.{objects_at}
use Rattle.mi_outside.proofs.SendingLemmas.{sends_as, sends_then_is}
use Rattle.mi_print.proofs.LoopLemmas.{sends_each_ended}
use Rattle.mi_call.specs.Choosing.{pivot_line}
use Rattle.mi_call.proofs.ChooseLemmas.{lines_at}
use Rattle.mi_call.proofs.proposals.send_pivots.Goals as goal

pub returns-in_err-send_pivot : goal.returns-in_err-send_pivot
returns-in_err-send_pivot g c =
    let objects = c.args.objects.now in
    let f : ℕ → List ℕ = λ place. pivot_line (get_or objects place []) in
    let xs = c.as_slice-place-items.result.now in
    let i = c.loop-place.place-index in
    let x = get_or xs i 0 in
    let there : f x ≡ pivot_line c.at.result.now = ap pivot_line (get_or_from_slice_get objects x c.at.result.now [] c.at.ensures) in
    sends_as (flat_map f xs) (flat_map pivot_line (objects_at objects c.args.places.now)) (ap (flat_map f) c.as_slice-place-items.ensures ∙ sym (lines_at objects c.args.places.now))
    (sends_each_ended f xs i x _ c.from_residual.result c.loop-place-test.true (get_or_default xs i 0 x c.loop-place-test.true) c.from_residual.ensures.1 c.loop-place.invariant.0
    (sends_as (pivot_line c.at.result.now) (f x) (sym there) c.in_err-send_pivot.ensures))

pub loop-place-preserved : goal.loop-place-preserved
loop-place-preserved g c =
    let objects = c.args.objects.now in
    let f : ℕ → List ℕ = λ place. pivot_line (get_or objects place []) in
    let xs = c.as_slice-place-items.result.now in
    let i = c.loop-place.place-index in
    let x = get_or xs i 0 in
    let there : f x ≡ pivot_line c.at.result.now = ap pivot_line (get_or_from_slice_get objects x c.at.result.now [] c.at.ensures) in
    let front : flat_map f (take (i + 1) xs) ≡ flat_map f (take i xs) ++ pivot_line c.at.result.now =
    ap (flat_map f) (take_more xs i 0 c.loop-place-test.true) ∙ flat_map-append f (take i xs) (x ∷ []) ∙ ap (λ y. flat_map f (take i xs) ++ y) (append-nil (f x) ∙ there) in
    (sends_then_is (flat_map f (take i xs)) (pivot_line c.at.result.now) (flat_map f (take (i + 1) xs)) front c.loop-place.invariant.0 c.in_ok-send_pivot.ensures, c.loop-place.invariant.1)

pub returns : goal.returns
returns g c =
    let objects = c.args.objects.now in
    let f : ℕ → List ℕ = λ place. pivot_line (get_or objects place []) in
    let xs = c.as_slice-place-items.result.now in
    sends_as (flat_map f (take c.loop-place.place-index xs)) (flat_map pivot_line (objects_at objects c.args.places.now))
    (ap (flat_map f) (take_all c.loop-place.place-index xs c.loop-place-test.false ∙ c.as_slice-place-items.ensures) ∙ sym (lines_at objects c.args.places.now)) c.loop-place.invariant.0
