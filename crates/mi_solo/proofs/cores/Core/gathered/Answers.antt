use Rattle.std.proofs.Common.{◌∙◌, ap, length, sym}
use Rattle.mi_entries.specs.Actors.{Actor}
use Rattle.mi_solo.specs.States.{actor_in, split_of, state_of}
use Rattle.mi_solo.specs.WorkRows.{work_of}
use Rattle.mi_solo.proofs.CoreLemmas.{row_is}
use Rattle.mi_solo.proofs.HandLemmas.{none_shown, split_shown}
use Rattle.mi_solo.proofs.cores.Core.gathered.Goals as goal

pub returns-in-Some : goal.returns-in-Some
returns-in-Some c =
    let s = c.args.self.now in
    ap length c.as_slice.ensures.value ∙ sym (split_shown (state_of s) c.args.actor (actor_in (state_of s) c.args.actor) (work_of c.in-Some.work) (ap (λ (r : Actor). r.split) (row_is s c.args.actor c.requires c.index.result.now c.index.ensures) ∙ ap split_of c.in-Some.is)).0

pub returns-in-None : goal.returns-in-None
returns-in-None c =
    let s = c.args.self.now in
    sym (none_shown (state_of s) c.args.actor (actor_in (state_of s) c.args.actor) (ap (λ (r : Actor). r.split) (row_is s c.args.actor c.requires c.index.result.now c.index.ensures) ∙ ap split_of c.in-None.is)).0
