use Rattle.std.proofs.Common.{◌≡◌, ◌++◌, take}
use Rattle.machine_lint.proofs.line.add_texts.Given as goal

abbrev pub invariant-loop-text : goal.invariant-loop-text
invariant-loop-text l = l.all.items ≡ l.initial.all.items ++ take l.text-index l.texts
