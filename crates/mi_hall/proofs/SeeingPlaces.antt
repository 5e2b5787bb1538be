-- What a section that sees the board makes of a seat's view.
use Rattle.std.proofs.Common.{List, refl}
use Rattle.std.specs.List.{AllByRecursion}
use Rattle.mi_core.specs.Effects.{saw}
use Rattle.mi_core.specs.Events.{after}
use Rattle.mi_core.specs.Events.Event.{depart, see}
use Rattle.mi_core.specs.Named.{Named}
use Rattle.mi_core.specs.State.{State}
use Rattle.mi_core.proofs.ActorLemmas.{set_there}
use Rattle.mi_entries.specs.Actors.{Actor}
use Rattle.mi_solo.specs.Onward.{Makes}
use Rattle.mi_solo.proofs.OwnLemmas.{later_own, made, sees_own}
use Rattle.mi_solo.proofs.SectionLemmas.{apart_by, page_by}
use Rattle.mi_world.specs.View.{View}
use Rattle.mi_hall.specs.Families.{Sees}
use Rattle.mi_hall.specs.Knowledge.{IsShown, Knowledge, Knows, seeing, view_by}
use Rattle.mi_hall.specs.Places.{BoardMakes, untold}
use Rattle.mi_hall.proofs.BoardRelations.{board_on, later_on}
use Rattle.mi_hall.proofs.PartLemmas.{own_by, page_seeing, quiet_seeing, tries_by}
use Rattle.mi_hall.proofs.PlaceLemmas.{board_lifts}

sees_made : Makes see (λ s v w. Sees v w)
sees_made = made see (λ s v w. Sees v w) (λ s k a r there going can.
    let t : State = after s a r see in
    let q : Actor = saw s.board r in
    let now = set_there s.actors a q r there in (
      q,
      now,
      record {
        later = later_own s k a r there going see can q now;
        lacked = refl;
        told = refl;
        same = record { work = record { update = record { own = refl; shard = refl; records = refl; reserved = refl }; leaf = record { leaf = refl; wanted = refl }; apart = apart_by s t a r q refl refl refl refl refl refl }; fresh = refl; owes = refl };
        floor = refl;
        board = sees_own s k a r there going see can q now;
        page = page_by s t a r q refl refl;
        tries = record { tried = refl; found = refl };
      },
    ))

departs_made : Makes depart (λ s v w. Sees v w)
departs_made = made depart (λ s v w. Sees v w) (λ s k a r there going can.
    let t : State = after s a r depart in
    let q : Actor = saw s.board r in
    let now = set_there s.actors a q r there in (
      q,
      now,
      record {
        later = later_own s k a r there going depart can q now;
        lacked = refl;
        told = refl;
        same = record { work = record { update = record { own = refl; shard = refl; records = refl; reserved = refl }; leaf = record { leaf = refl; wanted = refl }; apart = apart_by s t a r q refl refl refl refl refl refl }; fresh = refl; owes = refl };
        floor = refl;
        board = sees_own s k a r there going depart can q now;
        page = page_by s t a r q refl refl;
        tries = record { tried = refl; found = refl };
      },
    ))

sees_kept : (v w : View) (n : Knowledge) → Knows v n → (names : List Named) → AllByRecursion (IsShown w) names → Sees v w → Sees (view_by n v) (view_by (seeing w n.told names n) w)
sees_kept v w n k names shown x = record {
  later = later_on v w n k names shown x.later x.board;
  lacked = x.lacked;
  told = refl;
  same = own_by v w n (seeing w n.told names n) (quiet_seeing v w n n.told names) x.same;
  floor = x.floor;
  board = board_on v w n k names shown x.later x.board;
  page = page_seeing v w n n.told names x.page;
  tries = tries_by v w n (seeing w n.told names n) (quiet_seeing v w n n.told names) x.tries;
}

pub sees_seated : BoardMakes see untold (λ c v w. Sees v w)
sees_seated = board_lifts see untold (λ c v w. Sees v w) (λ c v w. Sees v w) sees_made (λ s a r there can. (_, set_there s.actors a _ r there, refl)) (λ s v w n k names shown x. sees_kept v w n k names shown x)

pub departs_seated : BoardMakes depart untold (λ c v w. Sees v w)
departs_seated = board_lifts depart untold (λ c v w. Sees v w) (λ c v w. Sees v w) departs_made (λ s a r there can. (_, set_there s.actors a _ r there, refl)) (λ s v w n k names shown x. sees_kept v w n k names shown x)
