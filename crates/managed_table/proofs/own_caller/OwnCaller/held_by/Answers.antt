use Rattle.std.proofs.Common.{rules}
use Rattle.std.specs.Arc.{arc_value}
use Rattle.managed_table.proofs.Holders.{looked_through}
use Rattle.managed_table.proofs.own_caller.OwnCaller.held_by.Goals as goal

pub returns-clause-shown : goal.returns-clause-shown
returns-clause-shown c =
    looked_through (arc_value c.self.inside.table) c.self.inside.caller _ c.try_worker_turn.new.caller c.self.view_is c.self.invariant _ c.try_worker_turn.result
    c.args.worker c.args.tries c.args.place c.try_worker_turn.ensures.turn
    (λ r x y h. record { knows = search rules; same = search rules; first = search rules })
