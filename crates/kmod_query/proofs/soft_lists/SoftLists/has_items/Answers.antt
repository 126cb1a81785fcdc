use Rattle.std.proofs.Common.{arith}
use Rattle.std.proofs.lemmas.Grind.{common_steps}
use Rattle.kmod_query.specs.World.{facts_of}
use Rattle.kmod_query.proofs.SoftLemmas.{has_after}
use Rattle.kmod_query.proofs.soft_lists.SoftLists.has_items.Goals as goal

pub returns-then-before-clause-has : goal.returns-then-before-clause-has
returns-then-before-clause-has c = grind (arith, common_steps)

pub returns-else-before-clause-has : goal.returns-else-before-clause-has
returns-else-before-clause-has c known =
    has_after (facts_of c.args.world.now) c.args.name.now c.in_ok-item.field-0 c.in_ok-item-2.field-0 c.is_some-before.result c.is_some-after.result c.is_some-before.ensures c.is_some-after.ensures c.if-before.false
    (c.in_ok-item.ensures.item known) (c.in_ok-item-2.ensures.item (c.in_ok-item.ensures.lists known))
