use Rattle.std.proofs.Common.{refl, inl}
use Rattle.dep_index.specs.declared.table.calls.Call.TheVariants.{BeginRemove}
use Rattle.theorems.proofs.Telling.{finds_it_gone}
use Rattle.theorems.proofs.told.gets_told_of_a_removal_find_it_gone.Goals as goal

pub returns-clause-gone : goal.returns-clause-gone
returns-clause-gone g c = finds_it_gone c.args.table.now.row (BeginRemove c.args.slot) c.args.slot c.args.worker _ _ _ _ _ _ (inl refl) c.calls_told_are_in_order.ensures.in_order
