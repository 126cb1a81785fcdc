use Rattle.std.proofs.Common.{◌≡◌}
use Rattle.line_journal.specs.Lines.{IsLine}
use Rattle.table_folder.specs.InputLines.{text_left}
use Rattle.gz_table_drive.specs.Written.{AnswersSoFar}
use Rattle.gz_table_drive.proofs.program.answer_input.Given as goal

-- the lines so far are answered, and their replies written
abbrev pub invariant-loop : goal.invariant-loop
invariant-loop g l =
    record {
      begun : IsLine l.reader.begun.items;
      written : AnswersSoFar l.initial.kept.setup.now (g.I.Read.remaining l.fn.input) (text_left g.I.Read.remaining l.reader)
          l.initial.log l.log (g.O.Write.contents l.initial.output) (g.O.Write.contents l.output) l.ending;
      setup : l.kept.setup.now ≡ l.initial.kept.setup.now;
    }
