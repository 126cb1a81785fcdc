use Rattle.std.proofs.Common.{◌≡◌, ◌++◌, map, take}
use Rattle.load_plan.specs.Sources.{target_of}
use Rattle.load_plan.proofs.sources.add_names.Given as goal

abbrev pub invariant-loop-name : goal.invariant-loop-name
invariant-loop-name l = l.targets.items ≡ l.fn.targets.items ++ map (target_of l.catalogue) (take l.name-index l.names)
