use Rattle.std.proofs.Common.{◌≡◌, drop}
use Rattle.std.specs.List.{list_all}
use Rattle.machine_lint.specs.Options.{is_agreed}
use Rattle.machine_lint.proofs.options.all_are_agreed.Given as goal

abbrev pub invariant-loop-word : goal.invariant-loop-word
invariant-loop-word l = list_all (is_agreed l.all) l.words ≡ list_all (is_agreed l.all) (drop l.word-index l.words)
