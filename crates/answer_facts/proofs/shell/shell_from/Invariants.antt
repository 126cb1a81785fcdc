use Rattle.std.proofs.Common.{◌≡◌, ◌++◌, [], drop}
use Rattle.text_parts.specs.Text.{texts_of}
use Rattle.answer_facts.specs.Shell.{shell_from}
use Rattle.answer_facts.proofs.shell.shell_from.Given as goal

-- what was written and what is left is all
abbrev pub invariant-loop-line : goal.invariant-loop-line
invariant-loop-line l =
    l.text.items ++ shell_from (texts_of l.seen.items) (texts_of (drop l.line-index l.lines)) ≡ shell_from [] (texts_of l.lines)
