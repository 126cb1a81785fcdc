use Rattle.std.proofs.Common.{rules}
use Rattle.dep_index.specs.declared.table.calls.Call.TheVariants.{CancelRemove}
use Rattle.held_table.proofs.KeptLemmas.{kept_after}
use Rattle.held_table.proofs.held_table.HeldTableModules.cancel_remove.Goals as goal

pub invariant_of-self : goal.invariant_of-self
invariant_of-self c =
    kept_after c.self.inside.slots (record { book = c.self.inside.book; rows = c.self.inside.rows.rows }) _ c.self.inside.names c.self.inside.rows.slots (CancelRemove c.args.slot)
    c.self.invariant (search rules, tt) (search rules)
