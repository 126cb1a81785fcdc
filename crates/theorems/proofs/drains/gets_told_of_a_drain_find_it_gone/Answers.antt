use Rattle.std.proofs.Common.{refl, inl, inr}
use Rattle.dep_index.specs.declared.table.calls.Call.TheVariants.{EndRemove}
use Rattle.theorems.proofs.Telling.{finds_it_gone}
use Rattle.theorems.proofs.drains.gets_told_of_a_drain_find_it_gone.Goals as goal

pub returns-clause-gone : goal.returns-clause-gone
returns-clause-gone g c = finds_it_gone c.args.table.now.row (EndRemove c.args.slot) c.args.slot c.args.worker _ _ _ _ _ _ (inr (inl refl)) c.calls_told_are_in_order.ensures.in_order
