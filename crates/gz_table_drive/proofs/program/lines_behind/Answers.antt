use Rattle.std.proofs.Common.{length}
use Rattle.gz_table_drive.proofs.AnswerLemmas.{group_lines}
use Rattle.gz_table_drive.proofs.program.lines_behind.Goals as goal

pub returns-clause-lines : goal.returns-clause-lines
returns-clause-lines c = group_lines c.args.lines.now c.args.count (length c.args.lines.now) c.requires.lines
