use Rattle.std.proofs.Common.{◌≡◌, drop}
use Rattle.kmod_index.specs.Dependencies.{line_of}
use Rattle.kmod_index.proofs.dep_table.DepTable.find.Given as goal

abbrev pub invariant-lines : goal.invariant-lines
invariant-lines l = line_of (drop l.place l.self) l.name ≡ line_of l.self l.name
