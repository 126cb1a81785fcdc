use Rattle.std.proofs.Common.{rules}
use Rattle.std.specs.Arc.{arc_value}
use Rattle.managed_table.proofs.Trying.{leaf_looked}
use Rattle.managed_table.proofs.own_caller.OwnCaller.held.Goals as goal

pub returns-clause-shown : goal.returns-clause-shown
returns-clause-shown c =
    leaf_looked (arc_value c.self.inside.table) c.self.inside.caller _ c.try_leaf_turn.new.caller c.self.view_is c.self.invariant _ c.try_leaf_turn.result
    c.args.worker c.args.slot c.args.tries (λ r. r) c.try_leaf_turn.ensures.turn (λ r x y h. (search rules, search rules, search rules))
