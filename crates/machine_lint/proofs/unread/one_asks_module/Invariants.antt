use Rattle.std.proofs.Common.{◌≡◌, drop}
use Rattle.std.specs.List.{list_any}
use Rattle.machine_lint.specs.Unchecked.{asks_module}
use Rattle.machine_lint.proofs.unread.one_asks_module.Given as goal

abbrev pub invariant-loop-word : goal.invariant-loop-word
invariant-loop-word l = list_any (asks_module l.name) l.words ≡ list_any (asks_module l.name) (drop l.word-index l.words)
