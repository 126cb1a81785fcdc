use Rattle.std.proofs.Common.{arith}
use Rattle.dep_index.proofs.Room.{order_fits}
use Rattle.held_table.proofs.held_table.HeldTableModules.loaded.Goals as goal

pub returns-clause-bound : goal.returns-clause-bound
returns-clause-bound c =
    let kept = c.self.invariant.0 in
    grind (arith, order_fits c.self.inside.book kept.lawful.order, kept.shape.states, c.loaded.ensures)

pub returns-clause-limit : goal.returns-clause-limit
returns-clause-limit c =
    let kept = c.self.invariant.0 in
    grind (arith, order_fits c.self.inside.book kept.lawful.order, kept.shape.states, kept.slots, c.loaded.ensures)
