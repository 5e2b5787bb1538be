use Rattle.mi_core.proofs.HalveEvents.{roomy_or_full}
use Rattle.mi_core.proofs.RefusalLemmas.{calm_or_crowded, claim_or_held, page_or_full, room_or_full}
use Rattle.mi_core.proofs.refusals.refusals_or_events.Goals as goal

pub returns-clause-full : goal.returns-clause-full
returns-clause-full c = λ s k. room_or_full s k.sound

pub returns-clause-crowded : goal.returns-clause-crowded
returns-clause-crowded c = λ s k. calm_or_crowded s k.sound

pub returns-clause-pages : goal.returns-clause-pages
returns-clause-pages c = λ s k. page_or_full s k.sound

pub returns-clause-claim : goal.returns-clause-claim
returns-clause-claim c = λ s k. claim_or_held s k.sound

pub returns-clause-page : goal.returns-clause-page
returns-clause-page c = λ s k. roomy_or_full s k.sound
