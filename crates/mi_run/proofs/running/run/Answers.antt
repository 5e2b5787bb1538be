use Rattle.std.proofs.Common.{◌≡◌, ◌∙◌, refl, sym, ap, subst}
use Rattle.std.specs.Prelude.{IfOk}
use Rattle.std.proofs.lemmas.Result.{IfOk-weaker}
use Rattle.mi_base.specs.Configuration.{Configuration, IsWithinLimits}
use Rattle.mi_hall.specs.Passes.{place_view}
use Rattle.mi_latch.specs.Views.{Sight}
use Rattle.mi_settle.specs.Headlines.{Headline}
use Rattle.mi_run.specs.Crews.{Tells}
use Rattle.mi_run.proofs.HeadlineLemmas.{headline}
use Rattle.mi_run.proofs.running.run.Goals as goal

pub returns : goal.returns
returns g c =
    let settings = c.args.settings.now in
    let scripts = c.args.scripts.now in
    let pass = c.in_ok-hall.pass in
    let left = c.in_ok-left.left in
    let v = place_view left.pass in
    let gathered = c.in_ok-left.ensures in
    let opened : (place_view pass).settings ≡ settings = ap (λ (s : Sight). s.mine.note.board.settings) c.in_ok-hall.ensures.pass in
    let of : v.settings ≡ settings = (gathered.stays pass refl).1 ∙ opened in
    IfOk-weaker c.close.result (Tells v left.replies left.wanted settings.pages) (Headline settings scripts)
    (λ o t. headline settings scripts v left.replies left.wanted o of gathered.absorbed t)
    (subst (λ n. IfOk c.close.result (Tells v left.replies left.wanted n)) (ap (λ (k : Configuration). k.pages) c.settings.view_is) c.close.ensures)
