use Rattle.text_parts.specs.Text.{texts_of}
use Rattle.theorems.proofs.Ordering.{load-once, load-needs}
use Rattle.theorems.proofs.plans.loads_need_first.Goals as goal

pub returns-clause-once : goal.returns-clause-once
returns-clause-once c = load-once c.plans_are_lawful.ensures c.args.sources.now.catalogue.now c.args.sources.now.dependencies.now c.args.sources.now.configuration.now c.args.name.now (texts_of c.args.words.now) (λ items. items.items) c.plan.result c.plan.ensures.items

pub returns-clause-order : goal.returns-clause-order
returns-clause-order c = load-needs c.plans_are_lawful.ensures c.args.sources.now.catalogue.now c.args.sources.now.dependencies.now c.args.sources.now.configuration.now c.args.name.now (texts_of c.args.words.now) (λ items. items.items) c.plan.result c.plan.ensures.items
