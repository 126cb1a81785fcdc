use Rattle.std.proofs.Common.{◌≡◌, ◌++◌, map, take}
use Rattle.machine_lint.specs.Lines.{of_name}
use Rattle.machine_lint.proofs.lines.add_names.Given as goal

abbrev pub invariant-loop-line : goal.invariant-loop-line
invariant-loop-line l = l.all.items ≡ l.initial.all.items ++ map (of_name l.setting) (take l.line-index l.lines)
