use Rattle.std.proofs.Common.{◌≡◌, length, take, None}
use Rattle.held_lines.specs.Holds.{gets}
use Rattle.held_lines.proofs.gets.take_each.Given as goal

-- the gets so far are done
abbrev pub invariant-loop-i : goal.invariant-loop-i
invariant-loop-i g l = record {
  over : g.M.Modules.catalogue l.table ≡ g.M.Modules.catalogue l.initial.table;
  named : g.M.Modules.names l.table ≡ g.M.Modules.names l.initial.table;
  workers : length (g.M.Modules.table l.table).rows ≡ length (g.M.Modules.table l.initial.table).rows;
  done : gets l.setup l.number (take l.i l.slots) (g.M.Modules.table l.initial.table) ≡ (None, g.M.Modules.table l.table);
}
