use Rattle.std.proofs.Common.{List, ◌+◌, ◌*◌, [], vec_len}
use Rattle.kmod_query.specs.Objects.{Object}
use Rattle.kmod_query.specs.Stacks.{Stands}
use Rattle.kmod_query.specs.World.{facts_of}
use Rattle.kmod_query.proofs.probes.finish.Given as goal

abbrev pub invariant-tasks : goal.invariant-tasks
invariant-tasks l = (whole : List Object) → Stands (facts_of l.world) [] l.fn.course whole → Stands (facts_of l.world) [] l.course whole

abbrev pub decreases-tasks : goal.decreases-tasks
decreases-tasks l = l.course.left * 18446744073709551616 + vec_len l.course.stack
