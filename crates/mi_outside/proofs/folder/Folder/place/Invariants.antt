use Rattle.std.proofs.Common.{◌≡◌, None, take}
use Rattle.mi_outside.specs.Contents.{content_of}
use Rattle.mi_outside.proofs.folder.Folder.place.Given as goal

-- none of the files so far is of the name
abbrev pub invariant-loop-place : goal.invariant-loop-place
invariant-loop-place l = content_of (take l.place l.self) l.name ≡ None
