use Rattle.std.proofs.Common.{rules}
use Rattle.std.specs.Arc.{arc_value}
use Rattle.managed_table.proofs.Holders.{all_given}
use Rattle.managed_table.proofs.own_caller.OwnCaller.put_all.Goals as goal

pub returns-clause-call : goal.returns-clause-call
returns-clause-call c =
    all_given (arc_value c.self.inside.table) c.self.inside.caller _ c.try_worker_turn.new.caller c.self.view_is c.self.invariant _ c.try_worker_turn.result
    c.args.worker c.args.tries c.try_worker_turn.ensures.turn
    (λ r x y h. record { knew = search rules; fits = search rules; made = search rules; none = search rules; knows = search rules })
