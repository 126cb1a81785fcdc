use Rattle.std.proofs.Common.{◌≡◌, ◌≢◌, ℕ, ◌+◌, replicate}
use Rattle.root_row.specs.Views.{worker_of, count_of}
use Rattle.managed_table.specs.Kept.{leaf_fits}
use Rattle.managed_table.specs.Holdings.{put_done, MadeInOrder}
use Rattle.managed_table.proofs.holdings.put_slot.Given as goal

abbrev pub invariant-loop : goal.invariant-loop
invariant-loop l = record {
  fits : leaf_fits l.row (worker_of l.fn.leaf.view) l.leaf;
  made : MadeInOrder (replicate l.counter (put_done (worker_of l.fn.leaf.view) l.slot)) l.fn.leaf l.leaf;
  left : count_of l.leaf.view l.slot + l.counter ≡ count_of l.fn.leaf.view l.slot;
  others : (m : ℕ) → m ≢ l.slot → count_of l.leaf.view m ≡ count_of l.fn.leaf.view m;
}
