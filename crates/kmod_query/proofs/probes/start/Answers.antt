use Rattle.std.proofs.Common.{[], refl}
use Rattle.kmod_query.proofs.probes.start.Goals as goal

pub returns : goal.returns
returns c facts =
    record {
      met = c.new.ensures;
      soft = c.new-2.ensures facts;
      fronts = c.new-3.ensures facts [];
      stack = c.new-4.ensures.items;
      list = c.new-5.ensures.items;
      left = refl;
    }
