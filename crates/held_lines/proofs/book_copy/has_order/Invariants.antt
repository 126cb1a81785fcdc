use Rattle.std.proofs.Common.{◌≡◌, take}
use Rattle.held_lines.proofs.book_copy.has_order.Given as goal

abbrev pub invariant-loop-place : goal.invariant-loop-place
invariant-loop-place g l = take l.place l.order ≡ take l.place (g.M.Modules.table l.table).book.order
