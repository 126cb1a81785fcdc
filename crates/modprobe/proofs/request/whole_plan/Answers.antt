use Rattle.std.proofs.Common.{[]}
use Rattle.modprobe.proofs.SettlingLemmas.{next_items}
use Rattle.modprobe.proofs.request.whole_plan.Goals as goal

pub loop-target-preserved : goal.loop-target-preserved
loop-target-preserved c =
    next_items c.args.setup.now [] c.deref-target-items.result.now c.loop-target.target-index c.target-item.result c.loop-target.items.items c.in_ok-more.more.items c.append.new.self.items
    c.loop-target-test.true c.target-item.is c.in_ok-more.ensures.items c.in_ok-append.ensures.items c.loop-target.invariant
