use Rattle.std.proofs.Common.{sym, subst, Some, Option, ap, ◌∙◌}
use Rattle.mi_update.specs.declared.insert.InsertOp.{InsertOp}
use Rattle.mi_update.specs.declared.insert.InsertState.TheVariants.{Claiming, Releasing}
use Rattle.mi_update.specs.Inserting as inserting
use Rattle.mi_update.specs.Inserting.{refusal_of}
use Rattle.mi_split.specs.declared.split.SplitOp.{SplitOp}
use Rattle.mi_job.specs.declared.inserts.InsertJob.{InsertJob}
use Rattle.mi_job.specs.declared.turns.JobTurn.TheVariants.{More}
use Rattle.mi_job.specs.Inserts.{Turned}
use Rattle.mi_job.proofs.InsertLemmas.{split_more, split_published, split_given_up}
use Rattle.mi_job.proofs.inserts.InsertJob.divide.Goals.{in-More, in-Published, in-GivenUp}
use Rattle.mi_job.proofs.inserts.InsertJob.divide.Goals as goal

pub returns-clause-turned : goal.returns-clause-turned
returns-clause-turned g c =
    let i = c.args.self.now.insert in
    let s = c.args.split in
    let s' = c.step.new.self in
    let v = g.W.World.view c.args.world.now in
    let w = g.W.World.view c.step.new.world in
    let T : InsertJob → Type 0 = λ n. Turned (record { insert = i; split = Some s }) v More n w in
    elim c.match-step.branch [
      | in-More b ↦ subst T (sym b.self-is) (split_more i s s' v w c.requires.ready b.in-More.ensures.turned)
      | in-Published b ↦ subst T (sym (b.self-is ∙ ap (λ (o : InsertOp). record { insert = o; split = c.args.self.now.split }) b.split_done.ensures.same ∙ ap (λ (x : Option SplitOp). record { insert = record i { state = Claiming }; split = x }) c.requires.none)) (split_published i s s' v w c.requires.ready _ b.in-Published.ensures.turned (λ x h f. subst (λ o. inserting.Ready o x) b.split_done.ensures.same (b.split_done.ensures.ready x h f)))
      | in-GivenUp b ↦ subst T (sym (b.self-is ∙ ap (λ (o : InsertOp). record { insert = o; split = c.args.self.now.split }) b.split_refused.ensures.same ∙ ap (λ (x : Option SplitOp). record { insert = record i { state = Releasing (refusal_of b.in-GivenUp.why) }; split = x }) c.requires.none)) (split_given_up i s s' v w c.requires.ready _ b.in-GivenUp.ensures.turned (λ x h f u. subst (λ o. inserting.Ready o x) b.split_refused.ensures.same (b.split_refused.ensures.ready x h f u)))
    ]
