use Rattle.kmod_query.specs.Removals.{removals_of}
use Rattle.kmod_query.specs.World.{facts_of}
use Rattle.kmod_query.proofs.RemovalLemmas.{Goes-leave}
use Rattle.kmod_query.proofs.removal.make.Goals as goal

pub returns-in-Leave : goal.returns-in-Leave
returns-in-Leave c =
    rw c.in-Leave.is (Goes-leave (facts_of c.args.asked.now.world) c.args.asked.now.query c.args.course.now.way c.leave.new.self (removals_of c.args.course.now.stack.items) c.silent.result c.leave.ensures c.silent.ensures)
