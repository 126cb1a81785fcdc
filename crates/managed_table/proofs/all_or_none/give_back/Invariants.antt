use Rattle.std.proofs.Common.{◌≡◌, ℕ, ◌-◌, List, length}
use Rattle.root_row.specs.World.{slots}
use Rattle.root_row.specs.Views.{worker_of, counts_of}
use Rattle.managed_table.specs.Kept.{leaf_fits}
use Rattle.managed_table.specs.AllOrNone.{with_gets, MadeSteps}
use Rattle.managed_table.proofs.Taking.{AllButMade}
use Rattle.managed_table.proofs.all_or_none.give_back.Given as goal

abbrev pub invariant-loop-back : goal.invariant-loop-back
invariant-loop-back l = record {
  fits : leaf_fits l.row (worker_of l.fn.leaf.view) l.leaf;
  made : AllButMade l.wanted l.count l.fn.leaf l.leaf (l.count - l.back);
  counts : (counts : List ℕ) → length counts ≡ slots l.row.world → counts_of l.fn.leaf.view ≡ with_gets counts l.wanted l.count
      → counts_of l.leaf.view ≡ with_gets counts l.wanted (l.count - l.back);
  steps : MadeSteps l.fn.leaf l.leaf;
}
