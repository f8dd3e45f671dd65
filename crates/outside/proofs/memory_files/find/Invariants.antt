use Rattle.std.proofs.Common.{◌≡◌, map, drop}
use Rattle.outside.specs.Shelf.{listed, content_of}
use Rattle.outside.proofs.memory_files.find.Given as goal

-- what is looked for stands among the files that are left
abbrev pub invariant-loop-listed : goal.invariant-loop-listed
invariant-loop-listed l = content_of (map listed l.files) l.name ≡ content_of
    (map listed (drop l.listed-index l.files)) l.name
