use Rattle.std.proofs.Common.{◌≡◌, length}
use Rattle.line_journal.specs.Lines.{AreLines, bytes_of}
use Rattle.gz_table_drive.proofs.WrittenLemmas.{Turns}
use Rattle.gz_table_drive.proofs.program.answer_group.Given as goal

-- the lines so far are answered, and their replies written
abbrev pub invariant-loop-rest : goal.invariant-loop-rest
invariant-loop-rest g l =
    record {
      lines : AreLines (bytes_of l.rest);
      turns : Turns l.initial.kept.setup.now l.lines l.rest l.initial.log l.log (g.O.Write.contents l.initial.output) (g.O.Write.contents l.output) l.ending;
      setup : l.kept.setup.now ≡ l.initial.kept.setup.now;
    }

abbrev pub decreases-loop-rest : goal.decreases-loop-rest
decreases-loop-rest g l = length l.rest
