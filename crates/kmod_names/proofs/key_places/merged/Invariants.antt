use Rattle.std.proofs.Common.{◌≡◌, ◌++◌, drop}
use Rattle.kmod_names.specs.Places.{merged}
use Rattle.kmod_names.proofs.key_places.merged.Given as goal

abbrev pub invariant-places : goal.invariant-places
invariant-places l = l.places.items ++ merged (drop l.place-index l.first) l.others ≡ merged l.first l.second
