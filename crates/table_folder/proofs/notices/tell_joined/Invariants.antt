use Rattle.std.proofs.Common.{length}
use Rattle.std.specs.Prelude.{⊤}
use Rattle.table_folder.proofs.notices.tell_joined.Given as goal

abbrev pub invariant-lines : goal.invariant-lines
invariant-lines g l = ⊤

abbrev pub decreases-lines : goal.decreases-lines
decreases-lines g l = length l.lines
