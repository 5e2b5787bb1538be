use Rattle.std.proofs.Common.{◌∙◌, ap, sym, Some}
use Rattle.mi_outside.proofs.ContentsLemmas.{held_read}
use Rattle.mi_outside.proofs.folder.Folder.get.Goals as goal

pub returns : goal.returns
returns c =
    ap Some c.as_slice.ensures.value
    ∙ sym (held_read c.self.inside.files.items c.args.self.now c.args.name.now c.in_ok-place.place c.index.result.now c.self.view_is c.in_ok-place.ensures.some c.index.ensures)
