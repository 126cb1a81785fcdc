use Rattle.std.proofs.Common.{◌≡◌, length, drop}
use Rattle.held_lines.specs.Holds.{each_given_back}
use Rattle.held_lines.proofs.puts.give_back_each.Given as goal

abbrev pub invariant-loop-slot : goal.invariant-loop-slot
invariant-loop-slot g l = record {
  over : g.M.Modules.catalogue l.table ≡ g.M.Modules.catalogue l.fn.table;
  named : g.M.Modules.names l.table ≡ g.M.Modules.names l.fn.table;
  workers : length (g.M.Modules.table l.table).rows ≡ length (g.M.Modules.table l.fn.table).rows;
  left : each_given_back l.number (drop l.slot-index l.slots) (g.M.Modules.table l.table) ≡ each_given_back l.number l.slots (g.M.Modules.table l.fn.table);
}
