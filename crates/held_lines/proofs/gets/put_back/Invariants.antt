use Rattle.std.proofs.Common.{◌≡◌, ◌<◌, ℕ, length, All, None}
use Rattle.dep_index.specs.Table.{Table}
use Rattle.dep_index.specs.Laws.{IsShaped}
use Rattle.held_lines.specs.Holds.{gets}
use Rattle.held_lines.proofs.gets.put_back.Given as goal

-- the gets that are left lead from the same table to this one
abbrev pub invariant-loop-slot : goal.invariant-loop-slot
invariant-loop-slot g l = record {
  over : g.M.Modules.catalogue l.table ≡ g.M.Modules.catalogue l.initial.table;
  named : g.M.Modules.names l.table ≡ g.M.Modules.names l.initial.table;
  workers : length (g.M.Modules.table l.table).rows ≡ length (g.M.Modules.table l.initial.table).rows;
  within : All (λ (slot : ℕ). slot < length l.setup.catalogue) l.left;
  left : (t : Table) → IsShaped (length (g.M.Modules.catalogue l.initial.table)) (length (g.M.Modules.table l.initial.table).rows) t
      → gets l.setup l.number l.slots t ≡ (None, g.M.Modules.table l.initial.table) → gets l.setup l.number l.left t ≡ (None, g.M.Modules.table l.table);
}

abbrev pub decreases-loop-slot : goal.decreases-loop-slot
decreases-loop-slot g l = length l.left
