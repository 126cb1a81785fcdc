use Rattle.std.proofs.Common.{length, ◌-◌, ◌≡◌, ◌≤◌, ◌++◌, drop}
use Rattle.line_journal.specs.Lines.{lines_of, open_text, bytes_of}
use Rattle.line_journal.proofs.reading.read_lines.Given as goal

abbrev pub invariant-loop-len : goal.invariant-loop-len
invariant-loop-len l = record {
  read : bytes_of l.lines.items ++ lines_of (drop l.end l.bytes) ≡ lines_of l.bytes;
  size : l.end ≡ length (open_text (bytes_of l.lines.items));
  within : l.end ≤ length l.bytes;
}

abbrev pub decreases-loop-len : goal.decreases-loop-len
decreases-loop-len l = length l.bytes - l.end
