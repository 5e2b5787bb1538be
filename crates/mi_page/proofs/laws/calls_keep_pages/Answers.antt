use Rattle.std.proofs.Common.{refl, map}
use Rattle.std.specs.List.{filter}
use Rattle.mi_base.specs.Sorting.{put}
use Rattle.mi_page.specs.Entries.{entry_cmp, with_death}
use Rattle.mi_page.specs.Routes.{route_cmp}
use Rattle.mi_page.proofs.NodeLemmas.{fresh_is, root_is, insert_entry_keeps, insert_route_keeps, mark_keeps, filter_keeps_leaf}
use Rattle.mi_page.proofs.laws.calls_keep_pages.Goals as goal

pub returns-clause-fresh : goal.returns-clause-fresh
returns-clause-fresh c = fresh_is

pub returns-clause-root : goal.returns-clause-root
returns-clause-root c = root_is

pub returns-clause-entry : goal.returns-clause-entry
returns-clause-entry c = λ p e h leaf few inside new. insert_entry_keeps p e (put entry_cmp e p.entries) h leaf few inside new refl

pub returns-clause-route : goal.returns-clause-route
returns-clause-route c = λ p r h above few inside new. insert_route_keeps p r (put route_cmp r p.routes) h above few inside new refl

pub returns-clause-death : goal.returns-clause-death
returns-clause-death c = λ p key number h leaf. mark_keeps p key number (map (with_death key number) p.entries) h leaf refl

pub returns-clause-kept : goal.returns-clause-kept
returns-clause-kept c = λ p test h leaf. filter_keeps_leaf p test (filter test p.entries) h leaf refl
