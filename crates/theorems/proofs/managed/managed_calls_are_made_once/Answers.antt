use Rattle.theorems.proofs.Managing.{if_made_once}
use Rattle.theorems.proofs.managed.managed_calls_are_made_once.Goals as goal

pub returns-clause-once : goal.returns-clause-once
returns-clause-once g c = if_made_once c.args.table.now c.args.call c.make.result c.args.caller.now _ c.legal_is_safe.ensures c.make.ensures.call
