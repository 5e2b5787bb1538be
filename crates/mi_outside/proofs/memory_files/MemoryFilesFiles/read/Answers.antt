use Rattle.std.proofs.Common.{Some, ap, ◌∙◌}
use Rattle.mi_outside.specs.Contents.{content_of}
use Rattle.mi_outside.specs.Kept.{KeptFiles}
use Rattle.mi_outside.proofs.KeptLemmas.{never_failed, reads_on}
use Rattle.mi_outside.proofs.memory_files.MemoryFilesFiles.read.Goals as goal

-- a content that is taken never fails, and the call was not to fail
pub returns-in-Some-clause-failed : goal.returns-in-Some-clause-failed
returns-in-Some-clause-failed c = (
  λ failed. absurd (never_failed (Some c.in-Some.content.now) c.add_content.result c.add_content.ensures.err failed),
  λ fails.
      absurd
      (reads_on c.args.self.now c.self.inside.calls c.saturating_add-self-inside.result c.deref.result.now c.in-Some.content.now c.args.name.now
      (c.deref.ensures.value ∙ ap (λ (kept : KeptFiles). kept.fails) c.self.view_is)
      (ap (λ (kept : KeptFiles). kept.calls) c.self.view_is)
      c.saturating_add-self-inside.ensures
      c.if-not-listed.ensures.value
      (c.in-Some.ensures ∙ ap (λ (kept : KeptFiles). content_of kept.files c.args.name.now) c.self.view_is)
      fails),
)
