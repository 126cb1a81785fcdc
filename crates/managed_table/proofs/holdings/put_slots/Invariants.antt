use Rattle.std.proofs.Common.{◌≡◌, ℕ, ◌≤◌}
use Rattle.root_row.specs.Views.{worker_of, count_of, counts_of}
use Rattle.managed_table.specs.Kept.{leaf_fits}
use Rattle.managed_table.specs.Holdings.{puts_below, MadeInOrder, HasNone}
use Rattle.managed_table.proofs.holdings.put_slots.Given as goal

abbrev pub invariant-loop-slot : goal.invariant-loop-slot
invariant-loop-slot l = record {
  fits : leaf_fits l.row (worker_of l.fn.leaf.view) l.leaf;
  made : MadeInOrder (puts_below (worker_of l.fn.leaf.view) (counts_of l.fn.leaf.view) l.slot) l.fn.leaf l.leaf;
  none : HasNone l.leaf 0 l.slot;
  rest : (m : ℕ) → l.slot ≤ m → count_of l.leaf.view m ≡ count_of l.fn.leaf.view m;
}
