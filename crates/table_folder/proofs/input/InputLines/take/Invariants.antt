use Rattle.std.proofs.Common.{◌≡◌, ℕ, List, ◌++◌, length}
use Rattle.line_journal.specs.Lines.{IsLine, AreLines, bytes_of}
use Rattle.table_folder.specs.InputLines.{GoesOn, Counts}
use Rattle.table_folder.proofs.input.InputLines.take.Given as goal

-- the lines so far, and those of the line that has not ended and the rest, are the same as before
abbrev pub invariant-loop-at : goal.invariant-loop-at
invariant-loop-at g l = record {
  begun : IsLine l.self.begun.items;
  lines : AreLines (bytes_of l.lines.items);
  input : l.self.input ≡ l.fn.self.input;
  goes_on : (more : List ℕ) → GoesOn (bytes_of l.fn.lines.items) (bytes_of l.lines.items) (l.fn.self.begun.items ++ (l.fn.bytes ++ more)) (l.self.begun.items ++ (l.rest ++ more));
  counted : (more : List ℕ) → Counts l.fn.self.too_long l.self.too_long (l.fn.self.begun.items ++ (l.fn.bytes ++ more)) (l.self.begun.items ++ (l.rest ++ more));
}

abbrev pub decreases-loop-at : goal.decreases-loop-at
decreases-loop-at g l = length l.rest
