use Rattle.std.proofs.Common.{rules, false}
use Rattle.dep_index.specs.declared.table.calls.Call.TheVariants.{EndLoad}
use Rattle.held_table.proofs.KeptLemmas.{kept_after}
use Rattle.held_table.proofs.held_table.HeldTableModules.end_load.Goals as goal

pub invariant_of-self-else-ok : goal.invariant_of-self-else-ok
invariant_of-self-else-ok c =
    kept_after c.self.inside.slots (record { book = c.self.inside.book; rows = c.self.inside.rows.rows }) _ c.self.inside.names c.self.inside.rows.slots (EndLoad c.args.slot false)
    c.self.invariant (search rules, tt) (search rules)
