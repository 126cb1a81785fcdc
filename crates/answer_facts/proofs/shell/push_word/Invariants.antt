use Rattle.std.proofs.Common.{◌≡◌, ◌++◌, take}
use Rattle.answer_facts.specs.Shell.{shell_word}
use Rattle.answer_facts.proofs.shell.push_word.Given as goal

abbrev pub invariant-loop-byte : goal.invariant-loop-byte
invariant-loop-byte l = l.text.items ≡ l.initial.text.items ++ shell_word (take l.byte-index l.word)
