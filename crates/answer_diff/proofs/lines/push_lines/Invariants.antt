use Rattle.std.proofs.Common.{◌≡◌, ◌++◌, filter, take}
use Rattle.text_parts.specs.Text.{texts_of}
use Rattle.answer_diff.specs.Lines.{is_line}
use Rattle.answer_diff.proofs.lines.push_lines.Given as goal

abbrev pub invariant-loop-part : goal.invariant-loop-part
invariant-loop-part l =
    texts_of l.lines.items ≡ texts_of l.initial.lines.items ++ filter is_line (texts_of (take l.part-index l.parts))
