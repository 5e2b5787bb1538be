use Rattle.std.proofs.Common.{◌<◌, sym, length, arith, add-one}
use Rattle.mi_outside.proofs.ContentsLemmas.{held_none_more, here_from, is_named}
use Rattle.mi_outside.proofs.folder.Folder.place.Goals as goal

pub returns-then-eq-clause-some : goal.returns-then-eq-clause-some
returns-then-eq-clause-some c =
    let within : c.loop-place.place < length c.deref-file-items.result.now = omega arith in
    record {
      content = c.file-item.result.content.items;
      here =
          is_named c.args.self.now c.loop-place.place _ _ _
          (here_from c.self.inside.files.items c.deref-file-items.result.now c.args.self.now c.loop-place.place c.file-item.result c.deref-file-items.ensures.value c.self.view_is within c.file-item.is)
          (rw (c.as_str.ensures.value) at c.if-eq.ensures);
      first = c.loop-place.invariant;
    }

pub loop-place-preserved : goal.loop-place-preserved
loop-place-preserved c =
    let within : c.loop-place.place < length c.deref-file-items.result.now = omega arith in
    rw add-one
    (held_none_more c.args.self.now c.loop-place.place c.args.name.now _ _
    (here_from c.self.inside.files.items c.deref-file-items.result.now c.args.self.now c.loop-place.place c.file-item.result c.deref-file-items.ensures.value c.self.view_is within c.file-item.is)
    (sym (rw (c.as_str.ensures.value) at c.if-eq.ensures))
    c.loop-place.invariant)
