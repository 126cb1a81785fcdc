use Rattle.std.proofs.Common.{◌≡◌, take}
use Rattle.std.specs.List.{flat_map}
use Rattle.machine_lint.specs.Options.{words_for}
use Rattle.machine_lint.proofs.options.words_of.Given as goal

abbrev pub invariant-loop-line : goal.invariant-loop-line
invariant-loop-line l = l.all.items ≡ flat_map (words_for l.name) (take l.line-index l.lines)
