use Rattle.mi_outside.proofs.ContentsLemmas.{gives_put, gives_push}
use Rattle.mi_outside.proofs.folder.Folder.put.Goals as goal

pub returns-in-Some-clause-ok : goal.returns-in-Some-clause-ok
returns-in-Some-clause-ok c =
    gives_put c.self.inside.files.items c.args.self.now c.args.name.now c.args.content.now c.in-Some.place _ c.self.view_is c.in-Some.ensures.some c.in_ok-name_owned.ensures.ok c.in_ok-content.ensures.items

pub returns-in_ok-push-in-None-clause-ok : goal.returns-in_ok-push-in-None-clause-ok
returns-in_ok-push-in-None-clause-ok c =
    gives_push c.self.inside.files.items c.push.new.self.items c.args.self.now c.args.name.now c.args.content.now _ c.self.view_is c.in_ok-push-in-None.ensures.items c.in-None.ensures.none c.in_ok-name_owned.ensures.ok c.in_ok-content.ensures.items
