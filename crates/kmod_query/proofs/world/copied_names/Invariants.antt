use Rattle.std.proofs.Common.{◌≡◌, take}
use Rattle.kmod_query.specs.Objects.{names_of}
use Rattle.kmod_query.proofs.world.copied_names.Given as goal

abbrev pub invariant-texts : goal.invariant-texts
invariant-texts l = names_of l.names.items ≡ take l.text-index l.texts
