use Rattle.std.proofs.Common.{◌≡◌, ◌++◌, map, take}
use Rattle.machine_lint.specs.Options.{word_of}
use Rattle.machine_lint.proofs.options.add_words.Given as goal

abbrev pub invariant-loop-word : goal.invariant-loop-word
invariant-loop-word l = l.all.items ≡ l.initial.all.items ++ map (word_of l.line) (take l.word-index l.word-items)
