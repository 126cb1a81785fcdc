use Rattle.std.proofs.Common.{◌≡◌, drop}
use Rattle.std.specs.List.{list_all}
use Rattle.text_parts.specs.Text.{texts_of}
use Rattle.held_lines.specs.Lines.{may_be_name}
use Rattle.held_lines.proofs.asked.may_be_names.Given as goal

abbrev pub invariant-loop-word : goal.invariant-loop-word
invariant-loop-word l = list_all may_be_name (texts_of (drop l.word-index l.words)) ≡ list_all may_be_name (texts_of l.words)
