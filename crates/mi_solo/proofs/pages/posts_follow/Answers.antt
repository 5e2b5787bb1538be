use Rattle.mi_solo.proofs.RouteEvents.{can_post}
use Rattle.mi_solo.proofs.RouteLaws.{posts_done, posts_down, posts_full, posts_right}
use Rattle.mi_solo.proofs.pages.posts_follow.Goals as goal

pub returns-clause-down : goal.returns-clause-down
returns-clause-down c = λ page level key child next node. posts_down page node level key child next

pub returns-clause-right : goal.returns-clause-right
returns-clause-right c = λ page level key child next node. posts_right page node level key child next

pub returns-clause-page_full : goal.returns-clause-page_full
returns-clause-page_full c = λ page level key child node. posts_full page node level key child

pub returns-clause-done : goal.returns-clause-done
returns-clause-done c = λ page level key child node. posts_done page node level key child

pub returns-clause-event : goal.returns-clause-event
returns-clause-event c = can_post
