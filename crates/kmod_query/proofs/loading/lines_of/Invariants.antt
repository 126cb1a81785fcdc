use Rattle.std.proofs.Common.{◌≡◌, take}
use Rattle.std.specs.List.{flat_map}
use Rattle.kmod_query.specs.Loading.{line_unless_passed}
use Rattle.kmod_query.specs.Objects.{object_of}
use Rattle.kmod_query.specs.Stacks.{AreSoftLists}
use Rattle.kmod_query.specs.World.{facts_of}
use Rattle.kmod_query.proofs.loading.lines_of.Given as goal

abbrev pub invariant-objects : goal.invariant-objects
invariant-objects l =
    record {
      soft : AreSoftLists (facts_of l.asked.world) l.soft;
      lines : l.lines.items ≡ flat_map (λ object. line_unless_passed (facts_of l.asked.world) l.asked.query l.parameters (object_of l.top) (object_of object)) (take l.object-index l.list);
    }
