use Rattle.std.proofs.Common.{arith}
use Rattle.dep_index.proofs.Room.{order_fits}
use Rattle.seq_table.proofs.table.TableModules.loaded.Goals as goal

pub returns-clause-bound : goal.returns-clause-bound
returns-clause-bound c =
    let kept = c.self.invariant in
    grind (arith, order_fits c.self.inside.book kept.lawful.order, kept.shape.states, c.loaded.ensures)

pub returns-clause-limit : goal.returns-clause-limit
returns-clause-limit c =
    let kept = c.self.invariant in
    grind (arith, order_fits c.self.inside.book kept.lawful.order, kept.shape.states, kept.slots, c.loaded.ensures)
