use Rattle.machine_lint.proofs.LineLemmas.{notes_are_of_lines}
use Rattle.machine_lint.proofs.laws.notes_are_of_lines.Goals as goal

pub returns : goal.returns
returns c = notes_are_of_lines
