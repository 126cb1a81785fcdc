use Rattle.std.proofs.Common.{sym, subst}
use Rattle.root_row.specs.Made.{AreNew, new_leaf, new_reader}
use Rattle.managed_table.proofs.Fresh.{fresh_leaves}
use Rattle.managed_table.proofs.table.ManagedTable.new.Goals as goal

pub new-requires-2-clause-fresh : goal.new-requires-2-clause-fresh
new-requires-2-clause-fresh c =
    let row = c.in_ok-row.row in
    fresh_leaves row c.args.workers c.in_ok-leaves_of.field-0.items
    (subst (AreNew (new_leaf row.id row.world) c.args.workers) (sym c.in_ok-leaves_of.ensures) c.in_ok-row.ensures.leaves)

pub returns-clause-readers : goal.returns-clause-readers
returns-clause-readers c =
    let row = c.in_ok-row.row in
    subst (AreNew (new_reader row.id row.world) c.args.workers) (sym c.in_ok-readers.ensures) c.in_ok-row.ensures.readers
