use Rattle.std.proofs.Common.{◌≡◌, ◌++◌, take}
use Rattle.std.specs.List.{flat_map}
use Rattle.kmod_query.specs.Shown.{weakdep_line}
use Rattle.kmod_query.proofs.shown.push_weakdeps.Given as goal

abbrev pub invariant-all : goal.invariant-all
invariant-all l = l.lines.items ≡ l.initial.lines.items ++ flat_map weakdep_line (take l.own-index l.all)
