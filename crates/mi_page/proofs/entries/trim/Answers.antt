use Rattle.std.proofs.Common.{rules}
use Rattle.std.proofs.lemmas.Fn.{filter_same}
use Rattle.mi_page.specs.Entries.{outlives}
use Rattle.mi_page.proofs.entries.trim.Goals as goal

pub returns-clause-items : goal.returns-clause-items
returns-clause-items c = filter_same _ (λ e. outlives e.death c.args.floor) _ (λ x b f' k. search rules) c.args.entries.now.items c.retain.new.self.items c.retain.ensures.filtered
