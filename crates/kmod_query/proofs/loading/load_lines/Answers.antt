use Rattle.std.proofs.Common.{subst, sym}
use Rattle.kmod_query.specs.Stacks.{AreSoftLists}
use Rattle.kmod_query.specs.World.{facts_of}
use Rattle.kmod_query.proofs.loading.load_lines.Goals as goal

pub lines_by-requires : goal.lines_by-requires
lines_by-requires c =
    let facts = facts_of c.args.asked.now.world in
    let start = c.start-course.ensures (facts_of c.args.asked.now.world) in
    record {
      met = start.met;
      soft = subst (AreSoftLists facts) (sym c.swap.ensures.x_after) c.requires;
      fronts = start.fronts;
      stack = start.stack;
      list = start.list;
      left = start.left;
    }
