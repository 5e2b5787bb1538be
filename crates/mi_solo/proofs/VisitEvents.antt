-- A visit.
use Rattle.std.proofs.Common.{◌≡◌, ℕ, false, refl, ap, Some}
use Rattle.std.specs.Prelude.{slice_get}
use Rattle.mi_key.specs.declared.ranges.Interval.{Interval}
use Rattle.mi_page.specs.Nodes.{Node}
use Rattle.mi_entries.specs.Actors.{Actor}
use Rattle.mi_core.specs.Effects.{noted}
use Rattle.mi_core.specs.Events.{Can, after}
use Rattle.mi_core.specs.Events.Event.{visit}
use Rattle.mi_core.specs.Kept.{Kept}
use Rattle.mi_core.specs.Pages.{node_or_fresh}
use Rattle.mi_core.specs.State.{State, node_at}
use Rattle.mi_core.proofs.ActorLemmas.{set_there}
use Rattle.mi_world.specs.declared.answers.Visit.{Visit}
use Rattle.mi_world.specs.declared.answers.Visit.TheVariants.{Down, Right, Read}
use Rattle.mi_world.specs.Pages.{VisitAnswer, Visits}
use Rattle.mi_solo.specs.Onward.{Makes, Onward}
use Rattle.mi_solo.specs.Seeking.{AnswersVisit}
use Rattle.mi_solo.specs.Viewing.{shown_to}
use Rattle.mi_solo.proofs.DescentLemmas.{goes_down, goes_right, is_reached, reads_to}
use Rattle.mi_solo.proofs.LaterLemmas.{onward}
use Rattle.mi_solo.proofs.OwnLemmas.{later_own, made}
use Rattle.mi_solo.proofs.QuietLemmas.{same_board, same_own, same_tries}

module _ (s : State) (k : Kept s) (a : ℕ) (r : Actor) (there : slice_get s.actors a ≡ Some r) (going : r.ended ≡ false) (page : ℕ) (can : Can s a r (visit page)) where
  abbrev t : State
  t = after s a r (visit page)

  abbrev q : Actor
  q = noted page r

  pub its : slice_get (after s a r (visit page)).actors a ≡ Some (noted page r)
  its = set_there s.actors a q r there

  on : Onward s (after s a r (visit page))
  on = onward s k a r there (visit page) can

  module _ (node : Node) (here : node_at s.pages page ≡ Some node) (range : Interval) where
    high_is : (shown_to t a q).high ≡ node.high
    high_is = ap (λ o. (node_or_fresh o).high) here

    answers : (result : Visit) → AnswersVisit node range result → VisitAnswer (shown_to s a r) (shown_to t a q) page range result
    answers (Down p) x = goes_down s k t on a r q page node here high_is 0 range.from p x
    answers (Right p) x = goes_right s k t on a r q page node here high_is 0 range.from p x
    answers (Read next) x = (is_reached s k t on a r q page node here high_is 0 range.from x.0, reads_to s k t on a r q page node here high_is range.to next x.0.level x.1)

    pub visits : (result : Visit) → AnswersVisit node range result → Visits (shown_to s a r) (shown_to (after s a r (visit page)) a (noted page r)) page range result
    visits result x = record {
      later = later_own s k a r there going (visit page) can q its;
      same = same_own s s.pages t.actors a r page;
      floor = refl;
      board = same_board s s.pages t.actors a r r.seen page r.fresh r.owed;
      tries = same_tries s s.pages t.actors a r r.seen page r.fresh r.owed;
      page_is = refl;
      answer = answers result x;
    }

pub visits_page : (page : ℕ) (node : Node) (range : Interval) (result : Visit)
    → Makes (visit page) (λ s v w. node_at s.pages page ≡ Some node → AnswersVisit node range result → Visits v w page range result)
visits_page page node range result = made (visit page) (λ s v w. node_at s.pages page ≡ Some node → AnswersVisit node range result → Visits v w page range result)
    (λ s k a r there going can. (noted page r, its s k a r there going page can, λ here x. visits s k a r there going page can node here range result x))
