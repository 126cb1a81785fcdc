use Rattle.std.proofs.Common.{◌≡◌, length}
use Rattle.root_row.specs.World.{slots}
use Rattle.root_row.specs.Views.{worker_of, counts_of}
use Rattle.managed_table.specs.Kept.{leaf_fits}
use Rattle.managed_table.specs.Holdings.{MadeInOrder}
use Rattle.managed_table.specs.AllOrNone.{first_gets, with_gets, MadeSteps}
use Rattle.managed_table.proofs.all_or_none.take_all.Given as goal

abbrev pub invariant-loop-place : goal.invariant-loop-place
invariant-loop-place l = record {
  fits : leaf_fits l.row (worker_of l.fn.leaf.view) l.leaf;
  made : MadeInOrder (first_gets (worker_of l.fn.leaf.view) l.wanted l.place) l.fn.leaf l.leaf;
  counts : counts_of l.leaf.view ≡ with_gets (counts_of l.fn.leaf.view) l.wanted l.place;
  steps : MadeSteps l.fn.leaf l.leaf;
  wide : length (counts_of l.fn.leaf.view) ≡ slots l.row.world;
}
