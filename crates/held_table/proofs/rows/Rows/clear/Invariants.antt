use Rattle.std.proofs.Common.{◌≡◌, get_or, [], length}
use Rattle.std.proofs.Math.ListN.{set}
use Rattle.std.specs.Prelude.{sum_by}
use Rattle.held_table.proofs.rows.Rows.clear.Given as goal

-- the other rows are as they were
abbrev pub invariant-loop-slot : goal.invariant-loop-slot
invariant-loop-slot l = record {
  rows : l.self.rows ≡ set l.initial.self.rows l.number (get_or l.self.rows l.number []);
  row : length (get_or l.self.rows l.number []) ≡ l.self.slots;
  slots : l.self.slots ≡ l.initial.self.slots;
}

abbrev pub decreases-loop-slot : goal.decreases-loop-slot
decreases-loop-slot l = sum_by (λ n. n) (get_or l.self.rows l.number [])
