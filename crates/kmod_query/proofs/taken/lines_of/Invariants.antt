use Rattle.std.proofs.Common.{◌≡◌, take}
use Rattle.std.specs.List.{flat_map}
use Rattle.kmod_query.specs.Whole.{line_of}
use Rattle.kmod_query.proofs.taken.lines_of.Given as goal

abbrev pub invariant-taken : goal.invariant-taken
invariant-taken l = l.lines.items ≡ flat_map line_of (take l.own-index l.taken)
