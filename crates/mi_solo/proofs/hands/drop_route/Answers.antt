use Rattle.std.proofs.Common.{rules}
use Rattle.std.specs.Prelude.{not}
use Rattle.std.proofs.lemmas.Fn.{filter_same}
use Rattle.mi_core.specs.Effects.{route_owed}
use Rattle.mi_entries.specs.Actors.{Owed}
use Rattle.mi_solo.proofs.hands.drop_route.Goals as goal

pub returns-clause-owed : goal.returns-clause-owed
returns-clause-owed c = filter_same _ (λ (o : Owed). not (route_owed c.args.child o)) _ (λ x b f' k. search rules) c.args.owed.now.items c.retain.new.self.items c.retain.ensures.filtered
