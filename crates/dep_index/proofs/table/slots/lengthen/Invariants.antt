use Rattle.std.proofs.Common.{◌≡◌, ◌-◌, ℕ, [], get_or, length}
use Rattle.dep_index.specs.Slots.{rows_in}
use Rattle.dep_index.proofs.table.slots.lengthen.Given as goal

-- no row has changed
abbrev pub invariant-padding : goal.invariant-padding
invariant-padding l = (m : ℕ) → get_or (rows_in l.rows.items) m [] ≡ get_or (rows_in l.initial.rows.items) m []

abbrev pub decreases-padding : goal.decreases-padding
decreases-padding l = l.len - length l.rows.items
