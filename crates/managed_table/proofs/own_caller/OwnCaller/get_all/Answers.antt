use Rattle.std.proofs.Common.{rules}
use Rattle.std.specs.Arc.{arc_value}
use Rattle.managed_table.proofs.Tried.{all_or_none}
use Rattle.managed_table.proofs.own_caller.OwnCaller.get_all.Goals as goal

pub returns-clause-call : goal.returns-clause-call
returns-clause-call c =
    all_or_none (arc_value c.self.inside.table) c.self.inside.caller _ c.try_worker_turn.new.caller c.self.view_is c.self.invariant c.args.worker c.args.tries c.args.wanted.now _
    (search rules)
    (λ r x y h. record { knew = search rules; fits = search rules; made = search rules; left = search rules; place = search rules; given_up = search rules; knows = search rules })
    c.try_worker_turn.result c.try_worker_turn.ensures.turn
