use Rattle.std.proofs.Common.{◌≡◌}
use Rattle.std.specs.Prelude.{replicate}
use Rattle.seq_table.specs.Rows.{rows_of}
use Rattle.seq_table.proofs.counts.Counts.new.Given as goal

abbrev pub invariant-loop : goal.invariant-loop
invariant-loop l = rows_of l.rows.items ≡ replicate l.counter (replicate l.slots 0)
