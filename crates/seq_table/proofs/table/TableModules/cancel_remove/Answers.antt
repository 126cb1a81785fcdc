use Rattle.std.proofs.Common.{rules}
use Rattle.dep_index.specs.declared.table.calls.Call.TheVariants.{CancelRemove}
use Rattle.seq_table.proofs.Kept.{kept_after}
use Rattle.seq_table.proofs.table.TableModules.cancel_remove.Goals as goal

pub invariant_of-self : goal.invariant_of-self
invariant_of-self c =
    kept_after c.self.inside.slots (record { book = c.self.inside.book; rows = c.self.inside.counts }) _ (CancelRemove c.args.slot)
    c.self.invariant (search rules, tt) (search rules)
