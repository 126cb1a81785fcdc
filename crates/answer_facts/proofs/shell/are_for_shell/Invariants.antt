use Rattle.std.proofs.Common.{◌≡◌, drop}
use Rattle.std.specs.List.{list_all}
use Rattle.text_parts.specs.Text.{texts_of}
use Rattle.answer_facts.specs.Shell.{is_for_shell}
use Rattle.answer_facts.proofs.shell.are_for_shell.Given as goal

abbrev pub invariant-loop-line : goal.invariant-loop-line
invariant-loop-line l = list_all is_for_shell (texts_of l.lines) ≡ list_all is_for_shell (texts_of (drop l.line-index l.lines))
