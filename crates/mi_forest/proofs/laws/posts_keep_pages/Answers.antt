use Rattle.mi_forest.proofs.EventLemmas.{post_event}
use Rattle.mi_forest.proofs.laws.posts_keep_pages.Goals as goal

pub returns : goal.returns
returns c = post_event
