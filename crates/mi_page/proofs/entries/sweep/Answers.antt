use Rattle.std.proofs.Common.{rules, not}
use Rattle.std.proofs.lemmas.Fn.{filter_same}
use Rattle.mi_key.specs.Ranges.{is_within}
use Rattle.mi_page.proofs.entries.sweep.Goals as goal

pub returns-clause-items : goal.returns-clause-items
returns-clause-items c = filter_same _ (λ e. not (is_within c.args.range.now e.key)) _ (λ x b f' k. search rules) c.args.entries.now.items c.retain.new.self.items c.retain.ensures.filtered
