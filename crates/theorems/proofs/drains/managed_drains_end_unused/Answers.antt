use Rattle.std.proofs.Common.{refl, inr}
use Rattle.dep_index.specs.declared.table.calls.Call.TheVariants.{EndRemove}
use Rattle.dep_index.specs.Refusals.{end_remove_refusal}
use Rattle.theorems.proofs.Managing.{if_removed}
use Rattle.theorems.proofs.drains.managed_drains_end_unused.Goals as goal

pub returns-clause-unused : goal.returns-clause-unused
returns-clause-unused g c = if_removed end_remove_refusal c.end_remove.result c.args.table.now.row (EndRemove c.args.slot) c.args.slot c.args.caller.now _ c.legal_is_safe.ensures (inr refl) c.end_remove.ensures.call c.end_remove.ensures.leaves
