use Rattle.std.proofs.Common.{◌≡◌, take}
use Rattle.std.specs.List.{flat_map}
use Rattle.kmod_query.specs.LookUp.{look_up}
use Rattle.kmod_query.specs.Objects.{objects_of}
use Rattle.kmod_query.specs.World.{facts_of}
use Rattle.kmod_query.proofs.look_up.look_up_each.Given as goal

abbrev pub invariant-words : goal.invariant-words
invariant-words l = objects_of l.found.items ≡ flat_map (look_up (facts_of l.world)) (take l.word-index l.words)
