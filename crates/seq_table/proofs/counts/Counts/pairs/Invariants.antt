use Rattle.std.proofs.Common.{◌≡◌, ◌≤◌, ◌*◌, take}
use Rattle.dep_index.specs.Table.{pairs}
use Rattle.seq_table.specs.Rows.{rows_of}
use Rattle.seq_table.proofs.counts.Counts.pairs.Given as goal

abbrev pub invariant-loop-row : goal.invariant-loop-row
invariant-loop-row l =
    record { sum : l.total ≡ pairs (rows_of (take l.row-index l.row-items)) l.slot; bound : l.total ≤ 65535 * l.row-index }
