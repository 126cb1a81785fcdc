use Rattle.gz_table_drive.specs.Written.{IsUntouched}
use Rattle.gz_table_drive.proofs.program.answer_command.Given as goal

-- nothing is done, and nothing is written
abbrev pub invariant-loop : goal.invariant-loop
invariant-loop g l = IsUntouched l.initial.log l.log (g.O.Write.contents l.initial.output) (g.O.Write.contents l.output)
