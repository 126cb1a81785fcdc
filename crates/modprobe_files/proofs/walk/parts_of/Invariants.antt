use Rattle.std.proofs.Common.{◌≡◌, ◌++◌, drop}
use Rattle.modprobe_words.specs.Variable.{bytes_of}
use Rattle.modprobe_files.specs.Rooted.{parts_of}
use Rattle.modprobe_files.proofs.RootLemmas.{parts_from}
use Rattle.modprobe_files.proofs.walk.parts_of.Given as goal

-- what was cut and what is left to cut is all
abbrev pub invariant-loop-byte : goal.invariant-loop-byte
invariant-loop-byte l = bytes_of l.parts.items ++ parts_from l.part.items (drop l.byte-index l.path) ≡ parts_of l.path
