use Rattle.std.proofs.Common.{◌≡◌, take}
use Rattle.held_lines.proofs.same.has_same_holders.Given as goal

abbrev pub invariant-loop-number : goal.invariant-loop-number
invariant-loop-number l =
    (take l.number l.other.held.names ≡ take l.number l.holders.held.names)
    × (take l.number l.other.held.table.rows ≡ take l.number l.holders.held.table.rows)
