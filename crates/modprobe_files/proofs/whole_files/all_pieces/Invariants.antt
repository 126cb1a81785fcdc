use Rattle.std.specs.Io.KnownBytes.{Consumes}
use Rattle.modprobe_files.proofs.whole_files.all_pieces.Given as goal

-- what was read stood before what is left
abbrev pub invariant-pieces : goal.invariant-pieces
invariant-pieces g l = Consumes (g.F.Read.remaining l.initial.file) (g.F.Read.remaining l.file) l.bytes.items
