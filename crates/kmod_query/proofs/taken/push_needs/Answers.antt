use Rattle.kmod_query.specs.Whole.{with_unused}
use Rattle.kmod_query.specs.World.{facts_of}
use Rattle.kmod_query.proofs.WholeLemmas.{needs-more}
use Rattle.kmod_query.proofs.taken.push_needs.Goals as goal

pub needs-preserved : goal.needs-preserved
needs-preserved c =
    needs-more (with_unused (facts_of c.args.world.now) c.args.holders.now c.args.by.now) c.args.needs.now c.needs.need-index c.need-item.result c.deref.result.now c.needs.taken.items c.push_unused.new.taken.items _
    c.needs-test.true c.need-item.is c.deref.ensures.value c.in_ok-push_unused.ensures c.needs.invariant
