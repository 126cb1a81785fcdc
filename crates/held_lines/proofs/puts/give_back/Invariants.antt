use Rattle.std.proofs.Common.{◌≡◌, length}
use Rattle.dep_index.specs.Table.{count_of}
use Rattle.dep_index.specs.Laws.{IsShaped}
use Rattle.held_lines.specs.Held.{given_back}
use Rattle.held_lines.proofs.puts.give_back.Given as goal

abbrev pub invariant-loop-table : goal.invariant-loop-table
invariant-loop-table g l = record {
  over : g.M.Modules.catalogue l.table ≡ g.M.Modules.catalogue l.fn.table;
  named : g.M.Modules.names l.table ≡ g.M.Modules.names l.fn.table;
  shape : IsShaped (length (g.M.Modules.catalogue l.fn.table)) (length (g.M.Modules.table l.fn.table).rows) (g.M.Modules.table l.table);
  same : given_back l.number l.slot (g.M.Modules.table l.table) ≡ given_back l.number l.slot (g.M.Modules.table l.fn.table);
}

abbrev pub decreases-loop-table : goal.decreases-loop-table
decreases-loop-table g l = count_of (g.M.Modules.table l.table) l.number l.slot
