use Rattle.std.proofs.Common.{◌≡◌, take}
use Rattle.held_lines.proofs.book_copy.copy_order.Given as goal

abbrev pub invariant-loop-place : goal.invariant-loop-place
invariant-loop-place g l = l.order.items ≡ take l.place (g.M.Modules.table l.table).book.order
