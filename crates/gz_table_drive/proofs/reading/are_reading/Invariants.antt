use Rattle.std.proofs.Common.{take}
use Rattle.std.specs.Prelude.{All}
use Rattle.line_journal.specs.Lines.{bytes_of}
use Rattle.gz_table_drive.proofs.AskLemmas.{Asks}
use Rattle.gz_table_drive.proofs.reading.are_reading.Given as goal

abbrev pub invariant-loop-line : goal.invariant-loop-line
invariant-loop-line l = All Asks (take l.line-index (bytes_of l.lines))
