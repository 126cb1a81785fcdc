use Rattle.std.proofs.Common.{take}
use Rattle.line_journal.specs.Lines.{bytes_of, AreLines}
use Rattle.line_journal.proofs.line.are_lines.Given as goal

abbrev pub invariant-loop-line : goal.invariant-loop-line
invariant-loop-line l = AreLines (take l.line-index (bytes_of l.lines))
