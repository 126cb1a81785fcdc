use Rattle.std.proofs.Common.{◌≡◌, take}
use Rattle.text_parts.specs.Text.{texts_of}
use Rattle.answer_diff.specs.Lines.{own_lines}
use Rattle.answer_diff.proofs.lines.own_lines.Given as goal

abbrev pub invariant-loop-line : goal.invariant-loop-line
invariant-loop-line l = texts_of l.own.items ≡ own_lines (texts_of (take l.line-index l.lines)) (texts_of l.others)
