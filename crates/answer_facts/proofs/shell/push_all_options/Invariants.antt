use Rattle.std.proofs.Common.{◌≡◌, ◌++◌, false, drop}
use Rattle.answer_facts.specs.Shell.{options_from}
use Rattle.answer_facts.proofs.shell.push_all_options.Given as goal

-- what was written and what is left is all
abbrev pub invariant-loop-byte : goal.invariant-loop-byte
invariant-loop-byte l =
    l.text.items ++ options_from l.is_quoted (drop l.byte-index l.options) ≡ l.initial.text.items ++ options_from false l.options
