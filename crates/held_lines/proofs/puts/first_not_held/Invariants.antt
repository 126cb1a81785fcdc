use Rattle.std.proofs.Common.{◌≡◌, drop}
use Rattle.held_lines.specs.Holds.{first_not_held}
use Rattle.held_lines.proofs.puts.first_not_held.Given as goal

abbrev pub invariant-loop-slot : goal.invariant-loop-slot
invariant-loop-slot g l =
    first_not_held l.setup l.number (g.M.Modules.table l.table) (drop l.slot-index l.slots) ≡ first_not_held l.setup l.number (g.M.Modules.table l.table) l.slots
