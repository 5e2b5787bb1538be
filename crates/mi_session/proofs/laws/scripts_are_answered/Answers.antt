use Rattle.mi_session.proofs.ScriptLemmas.{all_forward, all_later, all_own, all_right, answers_more}
use Rattle.mi_session.proofs.laws.scripts_are_answered.Goals as goal

pub returns-clause-more : goal.returns-clause-more
returns-clause-more c = λ number v w u os ys o y. answers_more number v os ys w o y u

pub returns-clause-later : goal.returns-clause-later
returns-clause-later c = λ number v w os ys. all_later number v os ys w

pub returns-clause-right : goal.returns-clause-right
returns-clause-right c = λ number v w os ys. all_right number v os ys w

pub returns-clause-own : goal.returns-clause-own
returns-clause-own c = λ number v w os ys. all_own number v os ys w

pub returns-clause-forward : goal.returns-clause-forward
returns-clause-forward c = λ number v w os ys log low all grows. all_forward number v os ys w log all grows low
