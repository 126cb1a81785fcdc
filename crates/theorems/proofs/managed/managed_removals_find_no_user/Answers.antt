use Rattle.std.proofs.Common.{refl, inl}
use Rattle.dep_index.specs.declared.table.calls.Call.TheVariants.{BeginRemove}
use Rattle.dep_index.specs.Refusals.{begin_remove_refusal}
use Rattle.theorems.proofs.Managing.{if_removed}
use Rattle.theorems.proofs.managed.managed_removals_find_no_user.Goals as goal

pub returns-clause-unused : goal.returns-clause-unused
returns-clause-unused g c = if_removed begin_remove_refusal c.begin_remove.result c.args.table.now.row (BeginRemove c.args.slot) c.args.slot c.args.caller.now _ c.legal_is_safe.ensures (inl refl) c.begin_remove.ensures.call c.begin_remove.ensures.leaves
