use Rattle.theorems.proofs.Ordering.{removal-once, removal-users}
use Rattle.theorems.proofs.plans.removals_users_first.Goals as goal

pub returns-clause-once : goal.returns-clause-once
returns-clause-once c = removal-once c.graphs_are_bounded.ensures c.args.sources.now.catalogue.now c.args.sources.now.dependencies.now c.args.sources.now.configuration.now c.args.name.now (λ order. order.items) c.removal_plan.result c.removal_plan.ensures.order

pub returns-clause-order : goal.returns-clause-order
returns-clause-order c = removal-users c.graphs_are_bounded.ensures c.args.sources.now.catalogue.now c.args.sources.now.dependencies.now c.args.sources.now.configuration.now c.args.name.now (λ order. order.items) c.removal_plan.result c.removal_plan.ensures.order
