use Rattle.std.proofs.Common.{◌≡◌, take}
use Rattle.held_lines.proofs.book_copy.copy_states.Given as goal

abbrev pub invariant-loop-slot : goal.invariant-loop-slot
invariant-loop-slot g l = l.states.items ≡ take l.slot (g.M.Modules.table l.table).book.states
