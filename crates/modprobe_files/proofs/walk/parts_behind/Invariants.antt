use Rattle.std.proofs.Common.{◌≡◌, ◌++◌, take}
use Rattle.modprobe_words.specs.Variable.{bytes_of}
use Rattle.modprobe_files.specs.Rooted.{parts_of}
use Rattle.modprobe_files.proofs.walk.parts_behind.Given as goal

abbrev pub invariant-loop-part : goal.invariant-loop-part
invariant-loop-part l = bytes_of l.parts.items ≡ parts_of l.target ++ bytes_of (take l.part-index l.rest)
