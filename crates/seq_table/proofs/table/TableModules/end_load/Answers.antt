use Rattle.std.proofs.Common.{rules, false}
use Rattle.dep_index.specs.declared.table.calls.Call.TheVariants.{EndLoad}
use Rattle.seq_table.proofs.Kept.{kept_after}
use Rattle.seq_table.proofs.table.TableModules.end_load.Goals as goal

pub invariant_of-self-else-ok : goal.invariant_of-self-else-ok
invariant_of-self-else-ok c =
    kept_after c.self.inside.slots (record { book = c.self.inside.book; rows = c.self.inside.counts }) _ (EndLoad c.args.slot false)
    c.self.invariant (search rules, tt) (search rules)
